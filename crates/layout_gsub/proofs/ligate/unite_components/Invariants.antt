use Rattle.std.proofs.Common.{◌≡◌, ◌≤◌, ◌+◌, ◌*◌, ◌^◌}
use Rattle.buffer_glyphs.specs.Items.{item_of}
use Rattle.layout_gsub.proofs.United.{IsUniting}
use Rattle.layout_gsub.proofs.ligate.unite_components.Given as goal

-- some components went
abbrev pub invariant-loop-at : goal.invariant-loop-at
invariant-loop-at l = record {
  united : IsUniting (item_of l.fn.first) l.fn.first_numbering.renumbers l.fn.first_numbering.lig_id l.fn.first_numbering.ended l.fn.first_numbering.own l.others l.fn.buffer l.at-index l.from l.numbering.ended l.numbering.own l.buffer;
  renumbers : l.numbering.renumbers ≡ l.fn.first_numbering.renumbers;
  number : l.numbering.lig_id ≡ l.fn.first_numbering.lig_id;
  bound : l.numbering.ended ≤ (l.at-index + 1) * 2 ^ 28;
}

use Rattle.std.proofs.Common.{◌≡◌, ◌&&◌, false, take}
use Rattle.std.specs.List.{list_any}
use Rattle.buffer_glyphs.specs.Items.{Item, strip}
use Rattle.layout_match.specs.Applied.{apply_context_of}
use Rattle.layout_match.specs.Trying.{meets}
use Rattle.layout_match.proofs.lookup.run_to_met.Given as goal

-- the lookup is tried at none of the glyphs so far
abbrev pub invariant-loop-at : goal.invariant-loop-at
invariant-loop-at g l = list_any (λ (x : Item). meets (apply_context_of l.ctx) x && g.S.Covers.covers l.subtables x.number) (take l.at (strip l.buffer.ahead)) ≡ false

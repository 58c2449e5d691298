use Rattle.std.proofs.Common.{◌≡◌, drop}
use Rattle.shape_breaks.specs.Texts.{first_index, first_later, has_property}
use Rattle.shape_breaks.proofs.Indices.{moved}
use Rattle.shape_breaks.proofs.texts.first_later.Given as goal

-- the first one of what is left is that of the text
abbrev pub invariant-loop-i : goal.invariant-loop-i
invariant-loop-i l = moved l.i (first_index (has_property l.tables l.property) (drop l.i l.text)) ≡ first_later (has_property l.tables l.property) l.text

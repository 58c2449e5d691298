use Rattle.std.proofs.Common.{◌≡◌, drop}
use Rattle.std.specs.Option.{option_or}
use Rattle.shape_breaks.specs.Texts.{has_property, last_index}
use Rattle.shape_breaks.proofs.Indices.{moved}
use Rattle.shape_breaks.proofs.texts.last_index.Given as goal

-- the last one of what is left, else the one that was found, is that of the text
abbrev pub invariant-loop-i : goal.invariant-loop-i
invariant-loop-i l = option_or (moved l.i (last_index (has_property l.tables l.property) (drop l.i l.text))) l.last ≡ last_index (has_property l.tables l.property) l.text

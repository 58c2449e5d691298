use Rattle.std.proofs.Common.{drop}
use Rattle.layout_match.specs.Applied.{apply_context_of}
use Rattle.layout_gsub.specs.Reverses.{reverse_subtable}
use Rattle.layout_substitution.proofs.InPlace.{ArePassedInPlace}
use Rattle.layout_substitution.proofs.lookup.apply_reverse_subtables.Given as goal

-- none so far acted
abbrev pub invariant-loop-subtable : goal.invariant-loop-subtable
invariant-loop-subtable l = ArePassedInPlace (reverse_subtable (apply_context_of l.ctx)) l.subtables (drop l.subtable-index l.subtables) l.fn.buffer l.buffer

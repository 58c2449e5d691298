use Rattle.c_text.proofs.Scaling.{IsWrittenTo}
use Rattle.c_text.proofs.scale.write_scaled.Given as goal

-- the first positions are written, and those that are left follow from the pens
abbrev pub invariant-loop-k : goal.invariant-loop-k
invariant-loop-k l = IsWrittenTo l.by l.infos l.positions l.fn.room l.room l.k l.before l.pens

use Rattle.script_thai.proofs.Shaped.{AreShaped}
use Rattle.script_thai.proofs.thai_private.shape.Given as goal

abbrev pub invariant-loop-at : goal.invariant-loop-at
invariant-loop-at l = AreShaped l.tables l.face l.fn.start l.at l.state l.initial.glyphs l.glyphs

use Rattle.script_joining.proofs.Formed.{AreFormed}
use Rattle.script_joining.proofs.letters.form_letters.Given as goal

abbrev pub invariant-loop-at : goal.invariant-loop-at
invariant-loop-at l = AreFormed l.initial.before l.after l.at l.before l.initial.glyphs l.glyphs

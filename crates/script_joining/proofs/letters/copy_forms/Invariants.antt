use Rattle.script_joining.proofs.Formed.{AreCopied}
use Rattle.script_joining.proofs.letters.copy_forms.Given as goal

abbrev pub invariant-loop-glyph : goal.invariant-loop-glyph
invariant-loop-glyph l = AreCopied l.glyph-index l.before l.initial.glyphs l.glyphs

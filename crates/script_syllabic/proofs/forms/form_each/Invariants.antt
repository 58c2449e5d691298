use Rattle.std.proofs.Common.{◌≡◌, ◌++◌, map, take, drop}
use Rattle.script_syllabic.specs.Formed.{glyph_with_form}
use Rattle.script_syllabic.proofs.forms.form_each.Given as goal

abbrev pub invariant-loop-glyph : goal.invariant-loop-glyph
invariant-loop-glyph l = l.glyphs ≡ map (glyph_with_form l.bits l.form) (take l.glyph-index l.initial.glyphs) ++ drop l.glyph-index l.initial.glyphs

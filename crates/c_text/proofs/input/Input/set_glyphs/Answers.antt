use Rattle.std.proofs.Common.{sym, ◌∙◌}
use Rattle.c_text.proofs.SettingGlyphs.{all_of_glyph}
use Rattle.c_text.proofs.input.Input.set_glyphs.Goals as goal

pub returns-then-refusal-ne-OK-clause-shared : goal.returns-then-refusal-ne-OK-clause-shared
returns-then-refusal-ne-OK-clause-shared c = λ e. absurd ((all_of_glyph c.args.given.now).1 (sym c.glyphs_refusal-refusal.ensures ∙ e))

pub returns-then-refusal-ne-OK-clause-memory : goal.returns-then-refusal-ne-OK-clause-memory
returns-then-refusal-ne-OK-clause-memory c = λ e. absurd ((all_of_glyph c.args.given.now).0 (sym c.glyphs_refusal-refusal.ensures ∙ e))

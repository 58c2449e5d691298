-- Texts in which replacements are set.
use Rattle.std.proofs.Common.{◌≡◌, sym, subst}
use Rattle.buffer_core.specs.Sides.{Sides}
use Rattle.buffer_wrappers.specs.Wrappers.{IsText}
use Rattle.c_text.specs.declared.replacements.ReplacementGlyphs.{ReplacementGlyphs}
use Rattle.c_text.specs.Replacements.{with_replacements}

-- a text stays one
pub text_replaced : (r : ReplacementGlyphs) (s t : Sides) → IsText s → t ≡ with_replacements r s → IsText t
text_replaced r s t is same = subst IsText (sym same) (record { closed = is.closed; unrefused = is.unrefused; characters = is.characters })

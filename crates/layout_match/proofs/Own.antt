-- The syllable of the glyph at the cursor.
use Rattle.std.proofs.Common.{◌≡◌, true, List, [], ◌∷◌, Some, slice_get, refl}
use Rattle.buffer_glyphs.specs.declared.info.hb_glyph_info_t.{hb_glyph_info_t}
use Rattle.buffer_glyphs.specs.Items.{strip}
use Rattle.layout_match.specs.Applied.{ApplyContext, own_syllable}

pub syllable_there : (a : ApplyContext) (gs : List hb_glyph_info_t) (g : hb_glyph_info_t) → slice_get gs 0 ≡ Some g → a.per_syllable ≡ true → own_syllable a (strip gs) ≡ Some g.syllable
syllable_there a [] g at per = cc
syllable_there a (h ∷ gs) g at per = let same : h ≡ g = cc in rw (per, same) refl

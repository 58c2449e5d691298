-- Glyphs of which the first that a substitution put there is recorded.
use Rattle.std.specs.Prelude.{ℕ, not, Bool, if◌then◌else◌, List, [], ◌∷◌}
use Rattle.buffer_glyphs.specs.declared.info.hb_glyph_info_t.{hb_glyph_info_t}
use Rattle.buffer_glyphs.specs.Items.{Item, item_of}
use Rattle.buffer_glyphs.specs.LigatureWords.{is_substituted}

-- a glyph with a category
abbrev pub glyph_with_category : ℕ → hb_glyph_info_t → hb_glyph_info_t
glyph_with_category c g = record g { category = c }

-- the glyphs where the first substituted one, among the first ones that pass a test, has the category
abbrev pub glyphs_recorded : (Item → Bool) → ℕ → List hb_glyph_info_t → List hb_glyph_info_t
glyphs_recorded test c [] = []
glyphs_recorded test c (g ∷ gs) =
    if not (test (item_of g)) then g ∷ gs
    else if is_substituted (item_of g) then glyph_with_category c g ∷ gs
    else g ∷ glyphs_recorded test c gs

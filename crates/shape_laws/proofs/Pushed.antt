-- The characters of a pushed text.
use Rattle.std.proofs.Common.{ℕ, ◌≡◌, ◌+◌, List, [], ◌∷◌, ◌++◌, map, append_assoc, refl, sym, ap, ◌∙◌}
use Rattle.std.specs.Prelude.{chars}
use Rattle.std.specs.Char.{len_utf8}
use Rattle.buffer_glyphs.specs.declared.info.hb_glyph_info_t.{hb_glyph_info_t}
use Rattle.buffer_core.specs.Text.{added_text, added_text_from}
use Rattle.shape_laws.specs.Laws.{PushedTextsHaveCharacters}

added_numbers : (at : ℕ) (cs : List ℕ) → map (λ (g : hb_glyph_info_t). g.glyph_id) (added_text_from at cs) ≡ cs
added_numbers at [] = refl
added_numbers at (c ∷ cs) = ap (λ us. c ∷ us) (added_numbers (at + len_utf8 c) cs)

pub pushed_texts_have_characters : PushedTextsHaveCharacters
pushed_texts_have_characters text s none =
    let all : s.behind ++ (s.ahead ++ added_text text) ≡ added_text text = sym (append_assoc s.behind s.ahead (added_text text)) ∙ ap (λ gs. gs ++ added_text text) none in
    ap (λ gs. map (λ (g : hb_glyph_info_t). g.glyph_id) gs) all ∙ added_numbers 0 (chars text)

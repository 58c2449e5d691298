-- Runs of glyphs with the same key.
use Rattle.std.specs.Prelude.{ℕ, suc, ◌==◌, not, Bool, List, [], ◌∷◌}
use Rattle.std.specs.List.{prefix_len}
use Rattle.std.specs.Int.RustNames.{bit_and}
use Rattle.buffer_glyphs.specs.declared.info.hb_glyph_info_t.{hb_glyph_info_t}

-- how many elements from the front on have the key of the first
abbrev pub run_length : {X : Type 0} → (X → ℕ) → List X → ℕ
run_length key [] = 0
run_length key (x ∷ xs) = suc (prefix_len (λ y. key y == key x) xs)

-- whether a glyph continues a grapheme
abbrev pub continues : hb_glyph_info_t → Bool
continues g = not (bit_and g.unicode_props.0 128 == 0)

-- the first glyph and those from it on that continue its grapheme
abbrev pub grapheme_length : List hb_glyph_info_t → ℕ
grapheme_length [] = 0
grapheme_length (g ∷ gs) = suc (prefix_len continues gs)

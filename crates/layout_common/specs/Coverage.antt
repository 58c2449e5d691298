-- Sets of glyphs (OpenType, chapter 2, coverage table).
use Rattle.std.specs.Prelude.{ℕ, ◌==◌, ◌||◌, Bool, false, List, [], ◌∷◌}
use Rattle.buffer_rows.specs.KeyOrder.{key_order}

-- whether a glyph is among the listed ones
abbrev pub is_covered : ℕ → List ℕ → Bool
is_covered glyph [] = false
is_covered glyph (g ∷ glyphs) = g == glyph || is_covered glyph glyphs

-- the listed glyphs in the order of their numbers
abbrev pub in_order : List ℕ → List ℕ
in_order glyphs = key_order (λ g. g) glyphs

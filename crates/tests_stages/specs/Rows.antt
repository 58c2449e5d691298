-- The characters of rows.
use Rattle.std.specs.Prelude.{ℕ, ◌==◌, ◌&&◌, List, find, Option, option_map}

-- the glyph of a character in a list
abbrev pub glyph_in : List (ℕ × ℕ) → ℕ → Option ℕ
glyph_in rows u = option_map (λ (r : ℕ × ℕ). r.1) (find (λ (r : ℕ × ℕ). r.0 == u) rows)

-- the composition of a pair of characters in a list
abbrev pub pair_in : List (ℕ × ℕ × ℕ) → ℕ → ℕ → Option ℕ
pair_in rows a b = option_map (λ (r : ℕ × ℕ × ℕ). r.2) (find (λ (r : ℕ × ℕ × ℕ). r.0 == a && r.1 == b) rows)

-- the decomposition of a character in a list
abbrev pub parts_in : List (ℕ × ℕ × ℕ) → ℕ → Option (ℕ × ℕ)
parts_in rows u = option_map (λ (r : ℕ × ℕ × ℕ). (r.1, r.2)) (find (λ (r : ℕ × ℕ × ℕ). r.0 == u) rows)

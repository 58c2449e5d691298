-- Ligatures with their carets.
use Rattle.std.specs.Prelude.{ℕ, ℤ, nat_lt, if◌then◌else◌, List, []}
use Rattle.std.specs.Option.{option_map_or}
use Rattle.buffer_rows.specs.Keys.{row_of}
use Rattle.font_carets.specs.declared.rows.LigatureCarets.{LigatureCarets}

-- the coordinates of a glyph's carets, none of a glyph without a row
abbrev pub carets_of : ℕ → List LigatureCarets → List ℤ
carets_of glyph rows = option_map_or (λ (r : LigatureCarets). r.carets) (row_of (λ (r : LigatureCarets). r.glyph) glyph rows) []

-- the coordinates of the carets of the glyph with a number, none of a number that is no glyph's
abbrev pub glyph_carets : List LigatureCarets → ℕ → List ℤ
glyph_carets rows number = if nat_lt number 0x1_0000 then carets_of number rows else []

-- How characters decompose and compose for the Indic shaper (HarfBuzz: decompose_indic, compose_indic).
use Rattle.std.specs.Prelude.{ℕ, ◌==◌, ◌&&◌, if◌then◌else◌, List, [], ◌∷◌, Option, None, Some}
use Rattle.std.specs.List.{list_any}
use Rattle.buffer_unicode_tables.specs.Tables.{Tables, split_of}
use Rattle.script_syllabic.specs.Characters.{unmarked_pair}

-- letters with a decomposition in Unicode that fonts have as one glyph: U+0931 RRA of Devanagari, U+09DC RRA and U+09DD
-- RHA of Bengali, U+0B94 AU of Tamil
abbrev pub whole_letters : List ℕ
whole_letters = 0x0931 ∷ 0x09DC ∷ 0x09DD ∷ 0x0B94 ∷ []

-- the decomposition of a character for the Indic shaper
abbrev pub indic_split : Tables → ℕ → Option (ℕ × ℕ)
indic_split t u = if list_any (λ v. u == v) whole_letters then None else split_of t u

-- the composition of two characters for the Indic shaper: U+09AF YA and U+09BC NUKTA of Bengali give U+09DF YYA, which
-- Unicode excludes from composition, and marks compose with nothing
abbrev pub indic_pair : Tables → ℕ → ℕ → Option ℕ
indic_pair t a b = if a == 0x09AF && b == 0x09BC then Some 0x09DF else unmarked_pair t a b

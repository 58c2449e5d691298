-- Tables of rows that are of characters decompose characters alone.
use Rattle.std.proofs.Common.{ℕ, ◌≡◌, ◌==◌, ◌&&◌, ◌+◌, ◌<◌, arith, Bool, true, false, if◌then◌else◌, List, [], ◌∷◌, Option, Some, None, find, option_map, refl, sym, ap, ◌∙◌, eqb-true}
use Rattle.std.specs.Option.{option_or}
use Rattle.std.proofs.lemmas.Bool.{and_parts}
use lib.Utf8.{scalar, low_scalar}
use Rattle.buffer_unicode.specs.declared.rows.Split.{Split}
use Rattle.buffer_unicode_tables.specs.Hangul.{hangul_split, is_syllable}
use Rattle.buffer_unicode_tables.specs.Records.{tables_of_records}
use Rattle.buffer_unicode_tables.specs.Tables.{SplitsCharacters, Tables, are_of_characters, split_in}
use Rattle.buffer_unicode_tables.specs.declared.records.UnicodeRecords.{UnicodeRecords}
use Rattle.buffer_unicode_tables.proofs.Syllables.{among_bounds, no_split_without_syllable}

-- a row that is found by its number has that number
pub found_if : (b : Bool) (r : Split) (rs : List Split) (u : ℕ) → (r.whole == u) ≡ b → scalar r.whole ≡ true → scalar u ≡ false → split_in rs u ≡ None
    → option_map {U = ℕ × ℕ} (λ (s : Split). (s.first, s.second)) (if b then Some r else find (λ (s : Split). s.whole == u) rs) ≡ None
found_if true r rs u e whole n later =
    let there : scalar u ≡ true = ap scalar (sym (eqb-true r.whole u e)) ∙ whole in
    cc
found_if false r rs u e whole n later = later

none_found : (splits : List Split) (u : ℕ) → are_of_characters splits ≡ true → scalar u ≡ false → split_in splits u ≡ None
none_found [] u h n = refl
none_found (r ∷ rs) u h n =
    let both = and_parts (scalar r.whole) (are_of_characters rs) h in
    found_if (r.whole == u) r rs u refl both.0 n (none_found rs u both.1 n)

pub below : (u : ℕ) → u < 44032 + 11172 → u < 55296
below u l = omega (arith, l)

pub scalar_syllable : (u : ℕ) (b : Bool) → is_syllable u ≡ b → scalar u ≡ false → is_syllable u ≡ false
scalar_syllable u true e n = let there : scalar u ≡ true = low_scalar u (below u (among_bounds 44032 11172 u e).1) in cc
scalar_syllable u false e n = e

pub characters_split : (t : Tables) → are_of_characters t.splits ≡ true → SplitsCharacters t
characters_split t h u n =
    let none : hangul_split u ≡ None = no_split_without_syllable u (scalar_syllable u (is_syllable u) refl n) in
    ap (λ o. option_or o (split_in t.splits u)) none ∙ none_found t.splits u h n

pub rows_split_characters : (r : UnicodeRecords) → are_of_characters r.splits.items ≡ true → SplitsCharacters (tables_of_records r)
rows_split_characters r h = characters_split (tables_of_records r) h

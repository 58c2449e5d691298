-- Tables whose rows have no fault.
use Rattle.std.proofs.Common.{ℕ, ◌≡◌, ◌&&◌, ◌||◌, nat_lt, nat_le, Bool, true, false, if◌then◌else◌, List, [], ◌∷◌, Option, Some, None, refl}
use Rattle.std.specs.Option.{option_or}
use Rattle.std.proofs.lemmas.Bool.{and_from, and_parts}
use lib.Utf8.{scalar}
use Rattle.buffer_unicode.specs.Numbers.{is_scalar}
use Rattle.buffer_unicode.specs.Keys.{follows, row_fault}
use Rattle.buffer_unicode.specs.Rows.{is_split_in_range}
use Rattle.buffer_unicode.specs.declared.fault.TablesFault.{TablesFault}
use Rattle.buffer_unicode.specs.declared.rows.Split.{Split}
use Rattle.buffer_unicode_tables.specs.Tables.{are_of_characters, fault_in}
use Rattle.buffer_unicode_tables.proofs.Characters.{characters_split}
use Rattle.shape_premises.specs.Texts.{CheckedTablesSplitCharacters}

first_none : {X : Type 0} (o p : Option X) → option_or o p ≡ None → o ≡ None
first_none None p h = refl
first_none (Some x) p h = cc

row_in_range : {R : Type 0} (in_range : R → Bool) (high low : R → ℕ) (before : Option R) (r : R) (rs : List R) → row_fault in_range high low before (r ∷ rs) ≡ None
    → (in_range r ≡ true) × (row_fault in_range high low (Some r) rs ≡ None)
row_in_range in_range high low before r rs h = by_tests (in_range r) (follows high low before r) h
  where
    by_tests : (a b : Bool) → (if a then (if b then row_fault in_range high low (Some r) rs else Some TablesFault.OutOfOrder) else Some TablesFault.OutOfRange) ≡ None → (a ≡ true) × (row_fault in_range high low (Some r) rs ≡ None)
    by_tests true true e = (refl, e)
    by_tests true false e = cc
    by_tests false b e = cc

either_scalar : (a b : Bool) → (a || b) ≡ true → (if a then true else b) ≡ true
either_scalar true b e = refl
either_scalar false b e = e

rows_of_characters : (before : Option Split) (splits : List Split) → row_fault is_split_in_range (λ _. 0) (λ r. r.whole) before splits ≡ None → are_of_characters splits ≡ true
rows_of_characters before [] h = refl
rows_of_characters before (r ∷ rs) h =
    let both = row_in_range is_split_in_range (λ _. 0) (λ r. r.whole) before r rs h in
    let whole : scalar r.whole ≡ true = either_scalar (nat_lt r.whole 0xD800) (nat_le 0xE000 r.whole && nat_lt r.whole 0x110000) (and_parts (is_scalar r.whole) (is_scalar r.first) (and_parts (is_scalar r.whole && is_scalar r.first) (is_scalar r.second) both.0).0).0 in
    and_from (scalar r.whole) (are_of_characters rs) whole (rows_of_characters (Some r) rs both.1)

pub checked_tables_split_characters : CheckedTablesSplitCharacters
checked_tables_split_characters t h =
    characters_split t (rows_of_characters None t.splits (first_none (fault_in is_split_in_range (λ r. r.whole) t.splits) _ h))

-- Rows of which each key has one, row by row.
use Rattle.std.proofs.Common.{◌≡◌, Bool, true, false, if◌then◌else◌, ◌&&◌, List, [], ◌∷◌, ◌++◌, refl, ap, ◌∙◌, inl, inr}
use Rattle.std.specs.Prelude.{Option, Some, None}
use Rattle.std.proofs.lemmas.Bool.{cases_Bool}
use Rattle.std.proofs.lemmas.List.{append-nil}
use Rattle.std.specs.declared.cmp.Ordering.{Ordering}
use Rattle.buffer_rows.specs.Keys.{is_above, is_rising}
use Rattle.font_common.specs.Rows.{first_rows, row_above, key_above}
use Rattle.buffer_facts.proofs.Lists.{one_done}

-- the first rows rise
pub first_rows_rise : {R K : Type 0} (order : K → K → Ordering) (key : R → K) (before : Option K) (rows : List R)
    → is_rising order key before (first_rows order key before rows) ≡ true
first_rows_rise order key before [] = refl
first_rows_rise order key before (r ∷ rows) =
    elim (cases_Bool (is_above order before (key r))) [
      | inl above ↦ rw (above, above, first_rows_rise order key (Some (key r)) rows) refl
      | inr low ↦ rw (low, first_rows_rise order key before rows) refl
    ]

-- rows that rise are the first rows of themselves
pub rising_first_rows : {R K : Type 0} (order : K → K → Ordering) (key : R → K) (before : Option K) (rows : List R)
    → is_rising order key before rows ≡ true → first_rows order key before rows ≡ rows
rising_first_rows order key before [] rising = refl
rising_first_rows order key before (r ∷ rows) rising =
    elim (cases_Bool (is_above order before (key r))) [
      | inl above ↦ let rest : is_rising order key (Some (key r)) rows ≡ true = rw above at rising in rw (above, rising_first_rows order key (Some (key r)) rows rest) refl
      | inr low ↦ let no : false ≡ true = rw low at rising in cc
    ]

-- one more row is done
pub first_step : {R K : Type 0} (order : K → K → Ordering) (key : R → K) (done rows all : List R) (before : Option K) (r : R)
    → done ++ first_rows order key before (r ∷ rows) ≡ all
    → (done ++ row_above order key before r) ++ first_rows order key (key_above order before (key r)) rows ≡ all
first_step order key done rows all before r h =
    elim (cases_Bool (is_above order before (key r))) [
      | inl above ↦
          let step : done ++ r ∷ first_rows order key (Some (key r)) rows ≡ all = rw above at h in
          rw above (one_done done (first_rows order key (Some (key r)) rows) all r step)
      | inr low ↦
          let step : done ++ first_rows order key before rows ≡ all = rw low at h in
          rw (low, append-nil) step
    ]

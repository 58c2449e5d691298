-- What a reading without a fault says of the values that it read.
use Rattle.std.proofs.Common.{◌≡◌, ℕ, suc, Bool, true, false, List, [], ◌∷◌, length, Option, Some, None, Result, Ok, Err, refl, ap, subst, ◌∙◌}
use Rattle.std.specs.Prelude.{nat_lt}
use Rattle.std.specs.List.{list_all}
use Rattle.std.specs.Option.{ok_or, option_map_or}
use Rattle.serde_json.specs.Data.{Data, null, boolean, number, string, array, object, Items, no_items, item}
use Rattle.serde_json.specs.Find.{as_array}
use Rattle.shell_json.specs.declared.fault.JsonFault.{JsonFault}
use Rattle.shell_json.specs.declared.fault.JsonFault.TheVariants.{WrongShape, OutOfRange, OutOfOrder}
use Rattle.shell_json.specs.Cell.{and_then, both, u16_value}
use Rattle.shell_json.specs.Objects.{optional_value}
use Rattle.shell_json.specs.Items.{list_of, list_or_none}
use Rattle.shell_json.specs.Rows.{after, ok_cons, row_in_order, rows_after}
use Rattle.shell_face_json.specs.Lists.{below, count_of, in_front, item_count, items_of, number_below, or_null, value_list, rows_in_turn, some_of}
use Rattle.shell_face_json.specs.Row.{first_and_rest}

-- ---- steps

-- a step after a value
pub through : {A B : Type 0} (r : Result A JsonFault) (next : A → Result B JsonFault) (b : B) → and_then r next ≡ Ok b → (a : A) × (r ≡ Ok a) × (next a ≡ Ok b)
through (Ok a) next b e = (a, refl, e)
through (Err f) next b e = absurd (cc)

-- two values of a row
pub of_both : {A B : Type 0} (r : Result A JsonFault) (s : Result B JsonFault) (p : A × B) → both r s ≡ Ok p → (r ≡ Ok p.0) × (s ≡ Ok p.1)
of_both (Ok a) (Ok b) p e = let same : (a, b) ≡ p = cc in (ap (λ q. Ok q.0) same, ap (λ q. Ok q.1) same)
of_both (Ok a) (Err f) p e = absurd (cc)
of_both (Err f) (Ok b) p e = absurd (cc)
of_both (Err f) (Err g) p e = absurd (cc)

-- the first item of a row, and the items after it
pub of_first : {A B : Type 0} (first : Data → Result A JsonFault) (rest : Items → Result B JsonFault) (ds : Items) (p : A × B) → first_and_rest first rest ds ≡ Ok p
    → (d : Data) × (es : Items) × (ds ≡ item d es) × (first d ≡ Ok p.0) × (rest es ≡ Ok p.1)
of_first first rest no_items p e = absurd (cc)
of_first first rest (item d ds) p e = let parts = of_both (first d) (rest ds) p e in (d, ds, refl, parts.0, parts.1)

-- a number below a limit
is_below : (limit n m : ℕ) (b : Bool) → nat_lt n limit ≡ b → below limit n ≡ Ok m → nat_lt m limit ≡ true
is_below limit n m true t e = let same : n ≡ m = let found : below limit n ≡ Ok n = rw t refl in cc in subst (λ k. nat_lt k limit ≡ true) same t
is_below limit n m false t e = let found : below limit n ≡ Err OutOfRange = rw t refl in absurd (cc)

pub below_limit : (limit : ℕ) (d : Data) (n : ℕ) → number_below limit d ≡ Ok n → nat_lt n limit ≡ true
below_limit limit d n e = let step = through (u16_value d) (below limit) n e in is_below limit step.0 n (nat_lt step.0 limit) refl step.2

-- ---- lists

module _ {A : Type 0} (read : Data → Result A JsonFault) where
  -- the items of a list inside a row are its rows in turn
  in_front_of : (r : Result A JsonFault) (rest : Result (List A) JsonFault) (xs : List A) → in_front r rest ≡ Ok xs → (a : A) × (ys : List A) × (r ≡ Ok a) × (rest ≡ Ok ys) × (a ∷ ys ≡ xs)
  in_front_of (Ok a) (Ok ys) xs e = (a, ys, refl, refl, cc)
  in_front_of (Ok a) (Err f) xs e = absurd (cc)
  in_front_of (Err f) (Ok ys) xs e = absurd (cc)
  in_front_of (Err f) (Err g) xs e = absurd (cc)

  pub turn_of_items : (ds : Items) (xs : List A) → items_of read ds ≡ Ok xs → rows_in_turn read ds ≡ Ok xs
  turn_of_items no_items xs e = e
  turn_of_items (item d ds) xs e =
      let split = in_front_of (read d) (items_of read ds) xs e in
      let rest = turn_of_items ds split.1 split.3 in
      rw (split.2, rest) (ap (λ ys. Ok ys) split.4)

  -- rows by their keys are the rows in turn
  kept : {K : Type 0} (follows : Option K → K → Bool) (key : A → K) (before : Option K) (r s : A) (b : Bool) → follows before (key r) ≡ b → row_in_order follows key before r ≡ Ok s → r ≡ s
  kept follows key before r s true t e = let found : row_in_order follows key before r ≡ Ok r = rw t refl in cc
  kept follows key before r s false t e = let found : row_in_order follows key before r ≡ Err OutOfOrder = rw t refl in absurd (cc)

  pub turn_of_keys : {K : Type 0} (follows : Option K → K → Bool) (key : A → K) (before : Option K) (ds : Items) (xs : List A) → rows_after follows key read before ds ≡ Ok xs → rows_in_turn read ds ≡ Ok xs
  turn_of_keys follows key before no_items xs e = e
  turn_of_keys follows key before (item d ds) xs e =
      let row = through (and_then (read d) (row_in_order follows key before)) _ xs e in
      let own = through (read d) (row_in_order follows key before) row.0 row.1 in
      let same = kept follows key before own.0 row.0 (follows before (key own.0)) refl own.2 in
      let mine : read d ≡ Ok row.0 = own.1 ∙ ap (λ r. Ok r) same in
      ok_cons row.0 (rows_after follows key read (Some (key row.0)) ds) xs (λ ys. rows_in_turn read (item d ds) ≡ Ok ys) row.2
      (λ ys was. ap (λ x. and_then x (λ r. after (r ∷ []) (rows_in_turn read ds))) mine ∙ ap (λ x. after (row.0 ∷ []) x) (turn_of_keys follows key (Some (key row.0)) ds ys was))

  -- as many rows as items
  pub same_length : (ds : Items) (xs : List A) → rows_in_turn read ds ≡ Ok xs → item_count ds ≡ length xs
  same_length no_items xs e = let none : [] ≡ xs = cc in ap length none
  same_length (item d ds) xs e =
      let row = through (read d) _ xs e in
      ok_cons row.0 (rows_in_turn read ds) xs (λ ys. suc (item_count ds) ≡ length ys) row.2 (λ ys was. ap suc (same_length ds ys was))

  counted : (o : Option Items) (xs : List A) → and_then (ok_or o WrongShape) (rows_in_turn read) ≡ Ok xs → option_map_or item_count o 0 ≡ length xs
  counted None xs e = absurd (cc)
  counted (Some ds) xs e = same_length ds xs e

  pub list_length : (o : Option Data) (xs : List A) → and_then (list_or_none o) (rows_in_turn read) ≡ Ok xs → count_of o ≡ length xs
  list_length None xs e = let none : [] ≡ xs = cc in ap length none
  list_length (Some d) xs e = counted (as_array d) xs e

-- a property of each row that is read is one of all
module _ {A : Type 0} (read : Data → Result A JsonFault) (P : A → Bool) (each : (d : Data) (a : A) → read d ≡ Ok a → P a ≡ true) where
  pub all_in_turn : (ds : Items) (xs : List A) → rows_in_turn read ds ≡ Ok xs → list_all P xs ≡ true
  all_in_turn no_items xs e = let none : [] ≡ xs = cc in subst (λ ys. list_all P ys ≡ true) none refl
  all_in_turn (item d ds) xs e =
      let row = through (read d) _ xs e in
      ok_cons row.0 (rows_in_turn read ds) xs (λ ys. list_all P ys ≡ true) row.2
      (λ ys was. let one = each d row.0 row.1 in let rest = all_in_turn ds ys was in rw (one, rest) refl)

  pub all_in_list : (d : Data) (xs : List A) → value_list read d ≡ Ok xs → list_all P xs ≡ true
  all_in_list d xs e = let step = through (list_of d) (items_of read) xs e in all_in_turn step.0 xs (turn_of_items read step.0 xs step.2)

  pub of_optional : (o : Option Data) (a : Option A) → optional_value read o ≡ Ok a → option_map_or P a true ≡ true
  of_optional None a e = let none : None ≡ a = cc in subst (λ x. option_map_or P x true ≡ true) none refl
  of_optional (Some d) a e =
      let step = through (read d) _ a e in
      let some : Some step.0 ≡ a = cc in
      subst (λ x. option_map_or P x true ≡ true) some (each d step.0 step.1)

  of_some : (d : Data) (r : Result A JsonFault) (a : Option A) → read d ≡ r → some_of r ≡ Ok a → option_map_or P a true ≡ true
  of_some d (Ok x) a is e = let some : Some x ≡ a = cc in subst (λ y. option_map_or P y true ≡ true) some (each d x is)
  of_some d (Err f) a is e = absurd (cc)

  pub of_nullable : (d : Data) (a : Option A) → or_null read d ≡ Ok a → option_map_or P a true ≡ true
  of_nullable null a e = let none : None ≡ a = cc in subst (λ x. option_map_or P x true ≡ true) none refl
  of_nullable (boolean b) a e = of_some (boolean b) (read (boolean b)) a refl e
  of_nullable (number n) a e = of_some (number n) (read (number n)) a refl e
  of_nullable (string s) a e = of_some (string s) (read (string s)) a refl e
  of_nullable (array ds) a e = of_some (array ds) (read (array ds)) a refl e
  of_nullable (object ms) a e = of_some (object ms) (read (object ms)) a refl e

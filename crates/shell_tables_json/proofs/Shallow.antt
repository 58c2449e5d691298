-- No row of tables has the fault of chains that are too long.
use Rattle.std.proofs.Common.{◌≡◌, ◌≢◌, ℕ, ℤ, pos, negsuc, Bool, List, [], ◌∷◌, Option, Some, None, Result, Ok, Err}
use Rattle.std.specs.Prelude.{⊤, codes, if◌then◌else◌, nat_lt, nat_le}
use Rattle.std.specs.Option.{ok_or}
use Rattle.std.proofs.lemmas.Bool.{cond_both}
use Rattle.serde_json.specs.Data.{Num, Data, Items, no_items, item}
use Rattle.serde_json.specs.Find.{get, as_array, as_integer, as_number, as_str}
use Rattle.shell_json.specs.declared.fault.JsonFault.{JsonFault}
use Rattle.shell_json.specs.declared.fault.JsonFault.TheVariants.{WrongShape, FloatNumber, UnknownName, OutOfOrder, OutOfRange, SplitDepth}
use Rattle.shell_json.specs.Cell.{and_then, both, character, first_fault, in_characters, integer, integer_of, is_scalar_value, rank_of}
use Rattle.shell_json.specs.Items.{four_in, in_natural_numbers_below, list_at, list_of, list_or_none, natural_number_below, row_of_four, row_of_three, row_of_two, text, three_in, two_in}
use Rattle.shell_json.specs.Rows.{after, row_in_order, row_after, rows_after}
use Rattle.script_categories.specs.Indic.{ot_categories, ot_positions}
use Rattle.script_categories.specs.Joining.{joining_type_names}
use Rattle.script_categories.specs.Names.{number_of}
use Rattle.script_categories.specs.Thai.{thai_actions}
use Rattle.script_categories.specs.Universal.{universal_categories}
use Rattle.shell_tables_json.specs.Rows.{number_of_name, number_named, rows_at}
use Rattle.shell_tables_json.specs.Characters.{character_class, character_range, counterpart, indic_row, joining_row, pair, split_row, thai_row, universal_row}
use Rattle.shell_tables_json.specs.Unicode.{tables_keys}
use Rattle.buffer_unicode.specs.Keys.{follows}

-- no fault, or another
abbrev Shallow : {A : Type 0} → Result A JsonFault → Type 0
Shallow (Ok a) = ⊤
Shallow (Err e) = e ≢ SplitDepth

wrong_shape : WrongShape ≢ SplitDepth
wrong_shape e = cc

float_number : FloatNumber ≢ SplitDepth
float_number e = cc

unknown_name : UnknownName ≢ SplitDepth
unknown_name e = cc

out_of_order : OutOfOrder ≢ SplitDepth
out_of_order e = cc

out_of_range : OutOfRange ≢ SplitDepth
out_of_range e = cc

-- ---- what is made of parts

then_shallow : {A B : Type 0} (r : Result A JsonFault) (next : A → Result B JsonFault) → Shallow r → ((a : A) → Shallow (next a)) → Shallow (and_then r next)
then_shallow (Ok a) next h hs = hs a
then_shallow (Err e) next h hs = h

if_shallow : {A : Type 0} (b : Bool) (x y : Result A JsonFault) → Shallow x → Shallow y → Shallow (if b then x else y)
if_shallow b x y hx hy = cond_both b x y (λ r. Shallow r) (λ _. hx) (λ _. hy)

first_shallow : (e f : JsonFault) → e ≢ SplitDepth → f ≢ SplitDepth → first_fault e f ≢ SplitDepth
first_shallow e f he hf = cond_both (nat_le (rank_of e) (rank_of f)) e f (λ r. r ≢ SplitDepth) (λ _. he) (λ _. hf)

both_shallow : {A B : Type 0} (r : Result A JsonFault) (s : Result B JsonFault) → Shallow r → Shallow s → Shallow (both r s)
both_shallow (Ok a) (Ok b) hr hs = tt
both_shallow (Ok a) (Err f) hr hs = hs
both_shallow (Err e) (Ok b) hr hs = hr
both_shallow (Err e) (Err f) hr hs = first_shallow e f hr hs

after_shallow : {R : Type 0} (front : List R) (rest : Result (List R) JsonFault) → Shallow rest → Shallow (after front rest)
after_shallow front (Ok rows) h = tt
after_shallow front (Err e) h = h

some_shallow : {A : Type 0} (o : Option A) (e : JsonFault) → e ≢ SplitDepth → Shallow (ok_or o e)
some_shallow (Some a) e h = tt
some_shallow None e h = h

-- ---- parts

integer_of_shallow : (n : Option Num) → Shallow (integer_of n)
integer_of_shallow None = wrong_shape
integer_of_shallow (Some n) = some_shallow (as_integer n) FloatNumber float_number

in_characters_shallow : (z : ℤ) → Shallow (in_characters z)
in_characters_shallow (pos n) = if_shallow (is_scalar_value n) (Ok n) (Err OutOfRange) tt out_of_range
in_characters_shallow (negsuc n) = out_of_range

character_shallow : (d : Data) → Shallow (character d)
character_shallow d = then_shallow (integer d) in_characters (integer_of_shallow (as_number d)) in_characters_shallow

in_numbers_shallow : (limit : ℕ) (z : ℤ) → Shallow (in_natural_numbers_below limit z)
in_numbers_shallow limit (pos n) = if_shallow (nat_lt n limit) (Ok n) (Err OutOfRange) tt out_of_range
in_numbers_shallow limit (negsuc n) = out_of_range

number_shallow : (limit : ℕ) (d : Data) → Shallow (natural_number_below limit d)
number_shallow limit d = then_shallow (integer d) (in_natural_numbers_below limit) (integer_of_shallow (as_number d)) (in_numbers_shallow limit)

named_shallow : (names : List (List ℕ × ℕ)) (d : Data) → Shallow (number_of_name names d)
named_shallow names d =
    then_shallow (text d) (number_named names) (some_shallow (as_str d) WrongShape wrong_shape) (λ name. some_shallow (number_of names name) UnknownName unknown_name)

-- ---- rows of parts

list_shallow : (d : Data) → Shallow (list_of d)
list_shallow d = some_shallow (as_array d) WrongShape wrong_shape

two_shallow : (ds : Items) → Shallow (two_in ds)
two_shallow no_items = wrong_shape
two_shallow (item a no_items) = wrong_shape
two_shallow (item a (item b no_items)) = tt
two_shallow (item a (item b (item c ds))) = wrong_shape

three_shallow : (ds : Items) → Shallow (three_in ds)
three_shallow no_items = wrong_shape
three_shallow (item a no_items) = wrong_shape
three_shallow (item a (item b no_items)) = wrong_shape
three_shallow (item a (item b (item c no_items))) = tt
three_shallow (item a (item b (item c (item d ds)))) = wrong_shape

four_shallow : (ds : Items) → Shallow (four_in ds)
four_shallow no_items = wrong_shape
four_shallow (item a no_items) = wrong_shape
four_shallow (item a (item b no_items)) = wrong_shape
four_shallow (item a (item b (item c no_items))) = wrong_shape
four_shallow (item a (item b (item c (item d no_items)))) = tt
four_shallow (item a (item b (item c (item d (item e ds))))) = wrong_shape

row_2 : {A B : Type 0} (f : Data → Result A JsonFault) (g : Data → Result B JsonFault) → ((d : Data) → Shallow (f d)) → ((d : Data) → Shallow (g d))
    → (d : Data) → Shallow (row_of_two f g d)
row_2 f g hf hg d =
    then_shallow (and_then (list_of d) two_in) _ (then_shallow (list_of d) two_in (list_shallow d) two_shallow) (λ p. both_shallow (f p.0) (g p.1) (hf p.0) (hg p.1))

row_3 : {A B C : Type 0} (f : Data → Result A JsonFault) (g : Data → Result B JsonFault) (h : Data → Result C JsonFault)
    → ((d : Data) → Shallow (f d)) → ((d : Data) → Shallow (g d)) → ((d : Data) → Shallow (h d)) → (d : Data) → Shallow (row_of_three f g h d)
row_3 f g h hf hg hh d =
    then_shallow (and_then (list_of d) three_in) _ (then_shallow (list_of d) three_in (list_shallow d) three_shallow)
    (λ p. both_shallow (f p.0) (both (g p.1) (h p.2)) (hf p.0) (both_shallow (g p.1) (h p.2) (hg p.1) (hh p.2)))

row_4 : {A B C D : Type 0} (f : Data → Result A JsonFault) (g : Data → Result B JsonFault) (h : Data → Result C JsonFault) (k : Data → Result D JsonFault)
    → ((d : Data) → Shallow (f d)) → ((d : Data) → Shallow (g d)) → ((d : Data) → Shallow (h d)) → ((d : Data) → Shallow (k d)) → (d : Data) → Shallow (row_of_four f g h k d)
row_4 f g h k hf hg hh hk d =
    then_shallow (and_then (list_of d) four_in) _ (then_shallow (list_of d) four_in (list_shallow d) four_shallow)
    (λ p. both_shallow (f p.0) (both (g p.1) (both (h p.2) (k p.3))) (hf p.0)
    (both_shallow (g p.1) (both (h p.2) (k p.3)) (hg p.1) (both_shallow (h p.2) (k p.3) (hh p.2) (hk p.3))))

-- ---- lists of rows

list_or_none_shallow : (o : Option Data) → Shallow (list_or_none o)
list_or_none_shallow None = tt
list_or_none_shallow (Some d) = list_shallow d

module _ {R : Type 0} (high low : R → ℕ) (row : Data → Result R JsonFault) (h : (d : Data) → Shallow (row d)) where
  order_shallow : (before : Option R) (r : R) → Shallow (row_in_order (follows high low) (λ x. x) before r)
  order_shallow before r = if_shallow (follows high low before r) (Ok r) (Err OutOfOrder) tt out_of_order

  rows_shallow : (before : Option R) (ds : Items) → Shallow (rows_after (follows high low) (λ x. x) row before ds)
  rows_shallow before no_items = tt
  rows_shallow before (item d ds) =
      then_shallow (row_after (follows high low) (λ x. x) row before d) _ (then_shallow (row d) _ (h d) (order_shallow before))
      (λ r. after_shallow (r ∷ []) (rows_after (follows high low) (λ x. x) row (Some r) ds) (rows_shallow (Some r) ds))

  at_shallow : (key : List ℕ) (d : Data) → Shallow (rows_at key high low row d)
  at_shallow key d = then_shallow (list_at key d) _ (list_or_none_shallow (get key d)) (rows_shallow None)

-- ---- keys

-- the same as a record, whose result can be read off its type
record IsShallow {A : Type 0} (r : Result A JsonFault) : Type 0 where
  shallow : Shallow r

then_is : {A B : Type 0} {r : Result A JsonFault} {next : A → Result B JsonFault} → IsShallow r → ((a : A) → IsShallow (next a)) → IsShallow (and_then r next)
then_is {r = r} {next = next} h hs = record { shallow = then_shallow r next h.shallow (λ a. (hs a).shallow) }

split_shallow : (d : Data) → Shallow (split_row d)
split_shallow d = then_shallow (row_of_three character character character d) (λ p. Ok (record { whole = p.0; first = p.1.0; second = p.1.1 })) (row_3 character character character character_shallow character_shallow character_shallow d) (λ _. tt)

pair_shallow : (d : Data) → Shallow (pair d)
pair_shallow d = then_shallow (row_of_three character character character d) (λ p. Ok (record { first = p.0; second = p.1.0; whole = p.1.1 })) (row_3 character character character character_shallow character_shallow character_shallow d) (λ _. tt)

class_shallow : (d : Data) → Shallow (character_class d)
class_shallow d = then_shallow (row_of_two character (natural_number_below 256) d) (λ p. Ok (record { character = p.0; class = p.1 })) (row_2 character (natural_number_below 256) character_shallow (number_shallow 256) d) (λ _. tt)

counterpart_shallow : (d : Data) → Shallow (counterpart d)
counterpart_shallow d = then_shallow (row_of_two character character d) (λ p. Ok (record { character = p.0; counterpart = p.1 })) (row_2 character character character_shallow character_shallow d) (λ _. tt)

range_shallow : (d : Data) → Shallow (character_range d)
range_shallow d = then_shallow (row_of_two character character d) (λ p. Ok (record { first = p.0; last = p.1 })) (row_2 character character character_shallow character_shallow d) (λ _. tt)

joining_shallow : (d : Data) → Shallow (joining_row d)
joining_shallow d =
    then_shallow (row_of_two character (number_of_name joining_type_names) d) (λ p. Ok (record { character = p.0; joining_type = p.1 }))
    (row_2 character (number_of_name joining_type_names) character_shallow (named_shallow joining_type_names) d) (λ _. tt)

indic_shallow : (d : Data) → Shallow (indic_row d)
indic_shallow d =
    then_shallow (row_of_three character (number_of_name ot_categories) (number_of_name ot_positions) d) (λ p. Ok (record { character = p.0; category = p.1.0; position = p.1.1 }))
    (row_3 character (number_of_name ot_categories) (number_of_name ot_positions) character_shallow (named_shallow ot_categories) (named_shallow ot_positions) d) (λ _. tt)

universal_shallow : (d : Data) → Shallow (universal_row d)
universal_shallow d =
    then_shallow (row_of_two character (number_of_name universal_categories) d) (λ p. Ok (record { character = p.0; category = p.1 }))
    (row_2 character (number_of_name universal_categories) character_shallow (named_shallow universal_categories) d) (λ _. tt)

thai_shallow : (d : Data) → Shallow (thai_row d)
thai_shallow d =
    then_shallow (row_of_four character (number_of_name thai_actions) character character d) (λ p. Ok (record { character = p.0; action = p.1.0; first = p.1.1.0; second = p.1.1.1 }))
    (row_4 character (number_of_name thai_actions) character character character_shallow (named_shallow thai_actions) character_shallow character_shallow d) (λ _. tt)

at_is : {R : Type 0} (key : List ℕ) (high low : R → ℕ) (row : Data → Result R JsonFault) → ((e : Data) → Shallow (row e)) → (d : Data) → IsShallow (rows_at key high low row d)
at_is key high low row h d = record { shallow = at_shallow high low row h key d }

keys_shallow : (d : Data) → IsShallow (tables_keys d)
keys_shallow d =
    then_is (at_is (codes "splits") (λ _. 0) (λ r. r.whole) split_row split_shallow d) (λ _.
    then_is (at_is (codes "pairs") (λ r. r.first) (λ r. r.second) pair pair_shallow d) (λ _.
    then_is (at_is (codes "classes") (λ _. 0) (λ r. r.character) character_class class_shallow d) (λ _.
    then_is (at_is (codes "mirrored") (λ _. 0) (λ r. r.character) counterpart counterpart_shallow d) (λ _.
    then_is (at_is (codes "vertical") (λ _. 0) (λ r. r.character) counterpart counterpart_shallow d) (λ _.
    then_is (at_is (codes "pictographic") (λ _. 0) (λ r. r.first) character_range range_shallow d) (λ _.
    then_is (at_is (codes "joining") (λ _. 0) (λ r. r.character) joining_row joining_shallow d) (λ _.
    then_is (at_is (codes "indic") (λ _. 0) (λ r. r.character) indic_row indic_shallow d) (λ _.
    then_is (at_is (codes "universal") (λ _. 0) (λ r. r.character) universal_row universal_shallow d) (λ _.
    then_is (at_is (codes "thai") (λ r. r.character) (λ r. r.action) thai_row thai_shallow d) (λ _.
    record { shallow = tt }))))))))))

not_deep : {A : Type 0} (r : Result A JsonFault) → Shallow r → r ≢ Err SplitDepth
not_deep (Ok a) h e = cc
not_deep (Err f) h e = let same : f ≡ SplitDepth = cc in h same

pub rows_not_deep : (d : Data) → tables_keys d ≢ Err SplitDepth
rows_not_deep d = not_deep (tables_keys d) ((keys_shallow d).shallow)

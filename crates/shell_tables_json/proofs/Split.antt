-- Tables that are read split characters alone.
use Rattle.std.proofs.Common.{ℕ, ℤ, pos, negsuc, ◌≡◌, ◌==◌, ◌&&◌, ◌||◌, ◌+◌, ◌<◌, nat_lt, nat_le, Bool, true, false, if◌then◌else◌, List, [], ◌∷◌, Option, Some, None, find, option_map, Ok, Err, Result, refl, sym, ap, subst, ◌∙◌, eqb-true, arith}
use Rattle.std.specs.Option.{option_or, is_some}
use Rattle.std.specs.List.{list_all}
use Rattle.std.proofs.lemmas.Bool.{and_parts, and_from}
use Rattle.std.proofs.lemmas.Bool.Decides.{nat_tests}
use lib.Utf8.{scalar, low_scalar}
use Rattle.serde_json.specs.Data.{Data, Items, no_items, item}
use Rattle.serde_json.specs.Find.{as_object}
use Rattle.shell_json.specs.declared.fault.JsonFault.{JsonFault}
use Rattle.shell_json.specs.declared.fault.JsonFault.TheVariants.{OutOfRange, WrongShape}
use Rattle.shell_json.specs.Cell.{and_then, both, character, in_characters, integer, is_scalar_value}
use Rattle.shell_json.specs.Rows.{ok_cons, row_after, rows_after}
use Rattle.buffer_unicode.specs.Keys.{follows}
use Rattle.buffer_unicode.specs.declared.rows.Split.{Split}
use Rattle.buffer_unicode_tables.specs.Hangul.{hangul_split, is_syllable}
use Rattle.buffer_unicode_tables.specs.Tables.{Tables, split_in}
use Rattle.buffer_unicode_tables.proofs.Syllables.{among_bounds, no_split_without_syllable}
use Rattle.shell_json.specs.Items.{list_at, list_of, three_in}
use Rattle.shell_tables_json.specs.Characters.{character_class, character_range, counterpart, indic_row, joining_row, pair, split_row, thai_row, universal_row}
use Rattle.shell_tables_json.specs.Rows.{rows_at}
use Rattle.std.specs.Prelude.{codes}
use Rattle.buffer_unicode.specs.declared.rows.Pair.{Pair}
use Rattle.buffer_unicode.specs.declared.rows.CharacterClass.{CharacterClass}
use Rattle.buffer_unicode.specs.declared.rows.Counterpart.{Counterpart}
use Rattle.buffer_unicode.specs.declared.rows.CharacterRange.{CharacterRange}
use Rattle.buffer_unicode.specs.declared.rows.JoiningRow.{JoiningRow}
use Rattle.buffer_unicode.specs.declared.rows.IndicRow.{IndicRow}
use Rattle.buffer_unicode.specs.declared.rows.UniversalRow.{UniversalRow}
use Rattle.buffer_unicode.specs.declared.rows.ThaiRow.{ThaiRow}
use Rattle.shell_tables_json.specs.Unicode.{tables_keys}
use Rattle.shell_tables_json.specs.Split.{ReadTablesSplitCharacters}
use Rattle.buffer_unicode_tables.proofs.Characters.{found_if, below, scalar_syllable as no_syllable}

-- what a step gave, and what the next made of it
record AreSteps {A B : Type 0} (a : Result A JsonFault) (next : A → Result B JsonFault) (b : B) : Type 0 where
  pub first : A
  pub is : a ≡ Ok first
  pub later : next first ≡ Ok b

steps : {A B : Type 0} (a : Result A JsonFault) (next : A → Result B JsonFault) (b : B) → and_then a next ≡ Ok b → AreSteps a next b
steps (Ok x) next b e = record { first = x; is = refl; later = e }
steps (Err f) next b e = cc

first_of_both : {A B : Type 0} (a : Result A JsonFault) (b : Result B JsonFault) (p : A × B) → both a b ≡ Ok p → a ≡ Ok p.0
first_of_both {A = A} {B = B} (Ok a) (Ok b) p e = let same : (a, b) ≡ p = cc in ap (λ (q : A × B). Ok q.0) same
first_of_both (Ok a) (Err f) p e = cc
first_of_both (Err e) (Ok b) p h = cc
first_of_both (Err e) (Err f) p h = cc

is_scalar : (n : ℕ) → is_scalar_value n ≡ true → scalar n ≡ true
is_scalar n h = by_low (nat_lt n 0xD800) refl h
  where
    by_low : (b : Bool) → nat_lt n 0xD800 ≡ b → (b || (nat_le 0xE000 n && nat_le n 0x10FFFF)) ≡ true → (if b then true else (nat_le 0xE000 n && nat_lt n 0x110000)) ≡ true
    by_low true l e = refl
    by_low false l e = let parts = and_parts (nat_le 0xE000 n) (nat_le n 0x10FFFF) e in let high = parts.1 in let under : nat_lt n 0x110000 ≡ true = grind (arith, nat_tests, high) in and_from _ _ parts.0 under

character_if : (b : Bool) (m n : ℕ) → is_scalar_value m ≡ b → ◌≡◌ {A = Result ℕ JsonFault} (if b then Ok m else Err OutOfRange) (Ok n) → scalar n ≡ true
character_if true m n h e = let same : m ≡ n = cc in ap scalar (sym same) ∙ is_scalar m h
character_if false m n h e = cc

in_characters_scalar : (z : ℤ) (n : ℕ) → in_characters z ≡ Ok n → scalar n ≡ true
in_characters_scalar (pos m) n e = character_if (is_scalar_value m) m n refl e
in_characters_scalar (negsuc m) n e = cc

character_scalar : (d : Data) (n : ℕ) → character d ≡ Ok n → scalar n ≡ true
character_scalar d n e = let s = steps (integer d) in_characters n e in in_characters_scalar s.first n s.later

-- a row of which each step is known
row_of : (q : Result (Data × Data × Data) JsonFault) (r : Split) → and_then (and_then q (λ p. both (character p.0) (both (character p.1) (character p.2)))) (λ p. Ok (record { whole = p.0; first = p.1.0; second = p.1.1 })) ≡ Ok r → scalar r.whole ≡ true
row_of (Err f) r e = cc
row_of (Ok p) r e = by_characters (character p.0) (both (character p.1) (character p.2)) refl e
  where
    by_characters : (a : Result ℕ JsonFault) (b : Result (ℕ × ℕ) JsonFault) → character p.0 ≡ a → and_then (both a b) (λ q. Ok (record { whole = q.0; first = q.1.0; second = q.1.1 })) ≡ Ok r → scalar r.whole ≡ true
    by_characters (Ok n) (Ok m) h f = let same : record { whole = n; first = m.0; second = m.1 } ≡ r = cc in ap (λ (x : Split). scalar x.whole) (sym same) ∙ character_scalar p.0 n h
    by_characters (Ok n) (Err g) h f = cc
    by_characters (Err g) (Ok m) h f = cc
    by_characters (Err g) (Err k) h f = cc

row_scalar : (d : Data) (r : Split) → split_row d ≡ Ok r → scalar r.whole ≡ true
row_scalar d r e = row_of (and_then (list_of d) three_in) r e

in_order_is : (b : Bool) (x r : Split) (f : JsonFault) → ◌≡◌ {A = Result Split JsonFault} (if b then Ok x else Err f) (Ok r) → x ≡ r
in_order_is true x r f e = cc
in_order_is false x r f e = cc

rows_scalar : (before : Option Split) (ds : Items) (rows : List Split) → rows_after (follows (λ _. 0) (λ r. r.whole)) (λ r. r) split_row before ds ≡ Ok rows → list_all (λ (r : Split). scalar r.whole) rows ≡ true
rows_scalar before no_items rows e = let same : [] ≡ rows = cc in subst (λ rs. list_all (λ (r : Split). scalar r.whole) rs ≡ true) same refl
rows_scalar before (item d ds) rows e =
    let s = steps (row_after (follows (λ _. 0) (λ r. r.whole)) (λ r. r) split_row before d) _ rows e in
    let q = steps (split_row d) _ s.first s.is in
    let same : q.first ≡ s.first = in_order_is _ q.first s.first _ q.later in
    ok_cons s.first (rows_after (follows (λ _. 0) (λ r. r.whole)) (λ r. r) split_row (Some s.first) ds) rows (λ rs. list_all (λ (r : Split). scalar r.whole) rs ≡ true) s.later
    (λ xs f. and_from _ _ (ap (λ (r : Split). scalar r.whole) (sym same) ∙ row_scalar d q.first q.is) (rows_scalar (Some s.first) ds xs f))

object_if : (b : Bool) (a : Result Tables JsonFault) (t : Tables) → (if b then a else Err WrongShape) ≡ Ok t → a ≡ Ok t
object_if true a t e = e
object_if false a t e = cc

none_found : (rows : List Split) (u : ℕ) → list_all (λ (r : Split). scalar r.whole) rows ≡ true → scalar u ≡ false → split_in rows u ≡ None
none_found [] u h n = refl
none_found (r ∷ rs) u h n = let parts = and_parts (scalar r.whole) (list_all (λ (r : Split). scalar r.whole) rs) h in found_if (r.whole == u) r rs u refl parts.0 n (none_found rs u parts.1 n)

-- where all keys are read, the decompositions are those of their key
parts_read : {P C M V X J I U T : Type 0} (mk : List Split → P → C → M → V → X → J → I → U → T → Tables) → ((s : List Split) (pairs : P) (classes : C) (mirrored : M) (vertical : V) (pictographic : X) (joining : J) (indic : I) (universal : U) (thai : T) → (mk s pairs classes mirrored vertical pictographic joining indic universal thai).splits ≡ s)
    → (read : Result (List Split) JsonFault) (ps : Result P JsonFault) (cs : Result C JsonFault) (ms : Result M JsonFault) (vs : Result V JsonFault) (xs : Result X JsonFault) (js : Result J JsonFault) (is : Result I JsonFault) (us : Result U JsonFault) (ts : Result T JsonFault) (t : Tables)
    → and_then read (λ s. and_then ps (λ pairs. and_then cs (λ classes. and_then ms (λ mirrored. and_then vs (λ vertical. and_then xs (λ pictographic. and_then js (λ joining. and_then is (λ indic. and_then us (λ universal. and_then ts (λ thai. Ok (mk s pairs classes mirrored vertical pictographic joining indic universal thai))))))))))) ≡ Ok t → (rows : List Split) × (read ≡ Ok rows) × (rows ≡ t.splits)
parts_read mk h (Err f) ps cs ms vs xs js is us ts t e = cc
parts_read mk h (Ok rows) (Err f) cs ms vs xs js is us ts t e = cc
parts_read mk h (Ok rows) (Ok pairs) (Err f) ms vs xs js is us ts t e = cc
parts_read mk h (Ok rows) (Ok pairs) (Ok classes) (Err f) vs xs js is us ts t e = cc
parts_read mk h (Ok rows) (Ok pairs) (Ok classes) (Ok mirrored) (Err f) xs js is us ts t e = cc
parts_read mk h (Ok rows) (Ok pairs) (Ok classes) (Ok mirrored) (Ok vertical) (Err f) js is us ts t e = cc
parts_read mk h (Ok rows) (Ok pairs) (Ok classes) (Ok mirrored) (Ok vertical) (Ok pictographic) (Err f) is us ts t e = cc
parts_read mk h (Ok rows) (Ok pairs) (Ok classes) (Ok mirrored) (Ok vertical) (Ok pictographic) (Ok joining) (Err f) us ts t e = cc
parts_read mk h (Ok rows) (Ok pairs) (Ok classes) (Ok mirrored) (Ok vertical) (Ok pictographic) (Ok joining) (Ok indic) (Err f) ts t e = cc
parts_read mk h (Ok rows) (Ok pairs) (Ok classes) (Ok mirrored) (Ok vertical) (Ok pictographic) (Ok joining) (Ok indic) (Ok universal) (Err f) t e = cc
parts_read mk h (Ok rows) (Ok pairs) (Ok classes) (Ok mirrored) (Ok vertical) (Ok pictographic) (Ok joining) (Ok indic) (Ok universal) (Ok thai) t e = let same : mk rows pairs classes mirrored vertical pictographic joining indic universal thai ≡ t = cc in (rows, refl, sym (h rows pairs classes mirrored vertical pictographic joining indic universal thai) ∙ ap (λ (x : Tables). x.splits) same)

abbrev tables_with : List Split → List Pair → List CharacterClass → List Counterpart → List Counterpart → List CharacterRange → List JoiningRow → List IndicRow → List UniversalRow → List ThaiRow → Tables
tables_with s pairs classes mirrored vertical pictographic joining indic universal thai = record { splits = s; pairs = pairs; classes = classes; mirrored = mirrored; vertical = vertical; pictographic = pictographic; joining = joining; indic = indic; universal = universal; thai = thai }

listed : (ds : Result Items JsonFault) (rows : List Split) → and_then ds (rows_after (follows (λ _. 0) (λ r. r.whole)) (λ r. r) split_row None) ≡ Ok rows → list_all (λ (r : Split). scalar r.whole) rows ≡ true
listed (Ok ds) rows e = rows_scalar None ds rows e
listed (Err f) rows e = cc

splits_read : (d : Data) (t : Tables) → tables_keys d ≡ Ok t → list_all (λ (r : Split). scalar r.whole) t.splits ≡ true
splits_read d t e =
    let (rows, is, same) = parts_read tables_with (λ s pairs classes mirrored vertical pictographic joining indic universal thai. refl) (rows_at (codes "splits") (λ _. 0) (λ r. r.whole) split_row d)
    (rows_at (codes "pairs") (λ r. r.first) (λ r. r.second) pair d)
    (rows_at (codes "classes") (λ _. 0) (λ r. r.character) character_class d)
    (rows_at (codes "mirrored") (λ _. 0) (λ r. r.character) counterpart d)
    (rows_at (codes "vertical") (λ _. 0) (λ r. r.character) counterpart d)
    (rows_at (codes "pictographic") (λ _. 0) (λ r. r.first) character_range d)
    (rows_at (codes "joining") (λ _. 0) (λ r. r.character) joining_row d)
    (rows_at (codes "indic") (λ _. 0) (λ r. r.character) indic_row d)
    (rows_at (codes "universal") (λ _. 0) (λ r. r.character) universal_row d)
    (rows_at (codes "thai") (λ r. r.character) (λ r. r.action) thai_row d)
    t e in
    subst (λ rs. list_all (λ (r : Split). scalar r.whole) rs ≡ true) same (listed (list_at (codes "splits") d) rows is)

pub read_tables_split_characters : ReadTablesSplitCharacters
read_tables_split_characters d t e u n =
    let none : hangul_split u ≡ None = no_split_without_syllable u (no_syllable u (is_syllable u) refl n) in
    ap (λ o. option_or o (split_in t.splits u)) none ∙ none_found t.splits u (splits_read d t (object_if (is_some (as_object d)) (tables_keys d) t e)) n

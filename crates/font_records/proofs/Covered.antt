-- The rows of the glyphs of a coverage, one at a time.
use Rattle.std.proofs.Common.{◌≡◌, ℕ, zero, suc, ◌+◌, ◌-◌, ◌<◌, ◌≤◌, ◌&&◌, nat_le, if◌then◌else◌, Bool, true, false, List, [], ◌∷◌, ◌++◌, length, get_or, drop, max, Option, Some, None, Result, Ok, Err, refl, ap, sym, ◌∙◌, append_assoc, arith, inl, inr}
use Rattle.std.specs.Option.{option_to_list, IfSome}
use Rattle.std.specs.Ordering.{nat_cmp, is_lt}
use Rattle.std.proofs.lemmas.Bool.Decides.{nat_tests}
use Rattle.std.proofs.lemmas.Bool.{cases_lt, and_parts, and_from}
use Rattle.std.proofs.lemmas.List.{append-nil, drop_more, drop_all}
use Rattle.font_bytes.specs.declared.fault.TableFault.{TableFault}
use Rattle.font_bytes.specs.Records.{records}
use Rattle.font_common.specs.Offsets.{after}
use Rattle.font_common.proofs.Tables.{after_none}
use Rattle.buffer_rows.specs.Keys.{numbers_rise, is_above, is_rising}
use Rattle.font_records.specs.Turns.{in_turn, if_any}
use Rattle.font_records.specs.Covered.{first_records, rows_if}
use Rattle.font_records.proofs.Turns.{turn_done, turn_refused, offsets_more, offsets_end}
use Rattle.buffer_facts.proofs.Numbers.{at_most_by_test as le_of, order_of_less as lt_is, test_of_at_most as of_le}

-- whether keys rise strictly from a least one on
abbrev pub rise_from : {R : Type 0} → (R → ℕ) → ℕ → List R → Bool
rise_from key least [] = true
rise_from key least (r ∷ rows) = nat_le least (key r) && rise_from key (key r + 1) rows

-- ---- one glyph and its record

-- the parts of what was read
pub same_read : {A B E : Type 0} (a c : A) (b d : B) → ◌≡◌ {A = Result (A × B) E} (Ok (a, b)) (Ok (c, d)) → (a ≡ c) × (b ≡ d)
same_read a c b d h = let p : ◌≡◌ {A = _ × _} (a, b) (c, d) = cc in (ap (λ x. x.0) p, ap (λ x. x.1) p)

-- a glyph that isn't below the least one has a record
pub first_taken : (least g o : ℕ) (gs os : List ℕ) → least ≤ g → first_records least (g ∷ gs) (o ∷ os) ≡ (g, o) ∷ first_records (max least (g + 1)) gs os
first_taken least g o gs os low =
    let e : nat_le least g ≡ true = grind (arith, nat_tests) in
    let m : max least (g + 1) ≡ g + 1 = omega arith in
    rw (e, m) refl

-- a repeated glyph has none
pub first_passed : (least g o : ℕ) (gs os : List ℕ) → g < least → first_records least (g ∷ gs) (o ∷ os) ≡ first_records (max least (g + 1)) gs os
first_passed least g o gs os low =
    let e : nat_le least g ≡ false = grind (arith, nat_tests) in
    let m : max least (g + 1) ≡ least = omega arith in
    rw (e, m) refl

-- the rows of glyphs by the records of a width from an offset on, after those so far
abbrev pub rows_from : {R : Type 0} → (ℕ → ℕ → ℕ → Result (List R × ℕ) TableFault) → List R → ℕ → ℕ → List ℕ → List ℕ → Result (List R × ℕ) TableFault
rows_from row done room least gs os = after done (in_turn (λ r p. row r p.1 p.0) room (first_records least gs os))

pub row_done : {R : Type 0} (row : ℕ → ℕ → ℕ → Result (List R × ℕ) TableFault) (done : List R) (room left least g o : ℕ) (gs os : List ℕ) (rows : List R) → rows_if row least room o g ≡ Ok (rows, left)
    → rows_from row done room least (g ∷ gs) (o ∷ os) ≡ rows_from row (done ++ rows) left (max least (g + 1)) gs os
row_done row done room left least g o gs os rows h =
    elim (cases_lt g least) [
      | inl low ↦
          let e : nat_le least g ≡ false = grind (arith, nat_tests, low) in
          let f = rw e at h in
          let same = same_read [] rows room left f in
          rw (first_passed least g o gs os low, ← same.0, ← same.1, append-nil) refl
      | inr high ↦
          let e : nat_le least g ≡ true = grind (arith, nat_tests, high) in
          let f = rw e at h in
          rw (first_taken least g o gs os high) (turn_done (λ (n : ℕ) (p : ℕ × ℕ). row n p.1 p.0) done room left (g, o) (first_records (max least (g + 1)) gs os) rows f)
    ]

pub row_refused : {R : Type 0} (row : ℕ → ℕ → ℕ → Result (List R × ℕ) TableFault) (done : List R) (room least g o : ℕ) (gs os : List ℕ) (e : TableFault) → rows_if row least room o g ≡ Err e
    → rows_from row done room least (g ∷ gs) (o ∷ os) ≡ Err e
row_refused row done room least g o gs os e h =
    elim (cases_lt g least) [
      | inl low ↦
          let t : nat_le least g ≡ false = grind (arith, nat_tests, low) in
          let f = rw t at h in
          cc
      | inr high ↦
          let t : nat_le least g ≡ true = grind (arith, nat_tests, high) in
          let f = rw t at h in
          rw (first_taken least g o gs os high) (turn_refused (λ (n : ℕ) (p : ℕ × ℕ). row n p.1 p.0) done room (g, o) (first_records (max least (g + 1)) gs os) e f)
    ]

-- ---- one row at most for each glyph

-- the row of a glyph at its record, none of one below the least
abbrev pub row_if : {R : Type 0} → (ℕ → ℕ → ℕ → Result (Option R × ℕ) TableFault) → ℕ → ℕ → ℕ → ℕ → Result (Option R × ℕ) TableFault
row_if row least room at g = if nat_le least g then row room at g else Ok (None, room)

pub any_if : {R : Type 0} (row : ℕ → ℕ → ℕ → Result (Option R × ℕ) TableFault) (least room at g : ℕ) → if_any (row_if row least room at g) ≡ rows_if (λ r o n. if_any (row r o n)) least room at g
any_if row least room at g = elim (nat_le least g) as (λ t. if_any (if t then row room at g else Ok (None, room)) ≡ (if t then if_any (row room at g) else Ok ([], room))) [ true ↦ refl | false ↦ refl ]

-- ---- the glyphs by their index

-- the glyph with an index and its record, and those after them
pub rows_more : {R : Type 0} (row : ℕ → ℕ → ℕ → Result (List R × ℕ) TableFault) (done : List R) (room least width at count index g : ℕ) (glyphs : List ℕ) → index < count → index < length glyphs → get_or glyphs index 0 ≡ g
    → rows_from row done room least (drop index glyphs) (records (λ o. o) width at (count - index))
    ≡ rows_from row done room least (g ∷ drop (index + 1) glyphs) (at ∷ records (λ o. o) width (at + width) (count - (index + 1)))
rows_more row done room least width at count index g glyphs inside within is = rw (offsets_more width at count index inside, drop_more glyphs index 0 within, is) refl

-- no record
pub first_ended : (least : ℕ) (gs : List ℕ) → first_records least gs [] ≡ []
first_ended least [] = refl
first_ended least (g ∷ gs) = refl

-- no glyph or no record is left
pub rows_end : {R : Type 0} (row : ℕ → ℕ → ℕ → Result (List R × ℕ) TableFault) (done : List R) (room least width at count index : ℕ) (glyphs : List ℕ) → Prim.Native.Nat.min count (length glyphs) ≤ index
    → rows_from row done room least (drop index glyphs) (records (λ o. o) width at (count - index)) ≡ Ok (done, room)
rows_end row done room least width at count index glyphs past =
    elim (cases_lt index count) [
      | inl more ↦ rw (drop_all index glyphs (omega arith), append-nil) refl
      | inr none ↦ rw (offsets_end width at count index none, first_ended, append-nil) refl
    ]

-- ---- order

-- rows that rise from a number on rise from a lower one on
pub rise_lower : {R : Type 0} (key : R → ℕ) (least more : ℕ) (rows : List R) → least ≤ more → rise_from key more rows ≡ true → rise_from key least rows ≡ true
rise_lower key least more [] low h = refl
rise_lower key least more (r ∷ rows) low h =
    let parts = and_parts (nat_le more (key r)) (rise_from key (key r + 1) rows) h in
    and_from _ _ (of_le least (key r) (omega (arith, le_of more (key r) parts.0))) parts.1

above_rises : {R : Type 0} (key : R → ℕ) (before : ℕ) (rows : List R) → rise_from key (before + 1) rows ≡ true → is_rising nat_cmp key (Some before) rows ≡ true
above_rises key before [] h = refl
above_rises key before (r ∷ rows) h =
    let parts = and_parts (nat_le (before + 1) (key r)) (rise_from key (key r + 1) rows) h in
    and_from _ _ (lt_is before (key r) (le_of (before + 1) (key r) parts.0)) (above_rises key (key r) rows parts.1)

-- rows that rise from 0 on rise
pub rise_all : {R : Type 0} (key : R → ℕ) (rows : List R) → rise_from key 0 rows ≡ true → numbers_rise key rows ≡ true
rise_all key [] h = refl
rise_all key (r ∷ rows) h = above_rises key (key r) rows (and_parts (nat_le 0 (key r)) (rise_from key (key r + 1) rows) h).1

-- a row that rises may follow
pub rise_row : {R : Type 0} (key : R → ℕ) (least glyph : ℕ) (row : Option R) (rest : List R) → IfSome row (λ r. (key r ≡ glyph) × (least ≤ glyph)) → rise_from key (max least (glyph + 1)) rest ≡ true
    → rise_from key least (option_to_list row ++ rest) ≡ true
rise_row key least glyph None rest h rising = rise_lower key least (max least (glyph + 1)) rest (omega arith) rising
rise_row key least glyph (Some r) rest h rising =
    let next : max least (glyph + 1) ≡ key r + 1 = omega arith in
    and_from _ _ (of_le least (key r) (omega arith)) (rw next at rising)

-- Tables whose rows have no fault, and what stands for a character.
use Rattle.std.proofs.Common.{ℕ, ◌≡◌, ◌≢◌, ◌≤◌, ◌<◌, ◌==◌, ◌&&◌, ◌||◌, not, nat_le, nat_lt, if◌then◌else◌, Bool, true, false, List, [], ◌∷◌, Option, None, Some, arith, refl, sym, ap, subst, ◌∙◌}
use Rattle.std.specs.Prelude.{find, option_map}
use Rattle.std.specs.List.{list_all}
use Rattle.std.specs.Option.{option_map_or, option_or}
use Rattle.std.proofs.lemmas.Bool.Decides.{nat_tests}
use Rattle.buffer_facts.proofs.Numbers.{test_of_apart}
use Rattle.buffer_facts.proofs.Truth.{and_true, both_true, false_by_not, lacks_first, lacks_second}
use Rattle.buffer_unicode.specs.Keys.{follows, row_fault}
use Rattle.buffer_unicode.specs.Numbers.{is_scalar}
use Rattle.buffer_unicode.specs.Rows.{is_character_class_in_range, is_character_range_in_range, is_counterpart_in_range, is_indic_row_in_range, is_joining_row_in_range, is_pair_in_range, is_split_in_range, is_thai_row_in_range, is_universal_row_in_range}
use Rattle.buffer_unicode.specs.declared.fault.TablesFault.{TablesFault}
use Rattle.buffer_unicode.specs.declared.rows.CharacterClass.{CharacterClass}
use Rattle.buffer_unicode.specs.declared.rows.Counterpart.{Counterpart}
use Rattle.buffer_unicode.specs.declared.rows.Split.{Split}
use Rattle.buffer_unicode.specs.declared.rows.ThaiRow.{ThaiRow}
use Rattle.buffer_unicode_tables.specs.Tables.{Tables, are_of_characters, class_of, counterpart_in, fault_in, split_of, thai_of}
use Rattle.buffer_unicode_tables.proofs.Characters.{characters_split}
use Rattle.layout_face.specs.Glyphs.{row_of_characters, variation_glyph}
use Rattle.layout_face.specs.declared.parts.FaceParts.{FaceParts}
use Rattle.layout_face.specs.declared.parts.VariationRow.{VariationRow}
use Rattle.shape_breaks.specs.Tables.{HaveNoFault, is_of_other}
use lib.Utf8.{scalar}

-- ---- rows

both_none : {X : Type 0} (o p : Option X) → option_or o p ≡ None → (o ≡ None) × (p ≡ None)
both_none None p h = (refl, h)
both_none (Some x) p h = cc

row_in_range : {R : Type 0} (in_range : R → Bool) (high low : R → ℕ) (before : Option R) (r : R) (rs : List R) → row_fault in_range high low before (r ∷ rs) ≡ None
    → (in_range r ≡ true) × (row_fault in_range high low (Some r) rs ≡ None)
row_in_range in_range high low before r rs h = by_tests (in_range r) (follows high low before r) h
  where
    by_tests : (a b : Bool) → (if a then (if b then row_fault in_range high low (Some r) rs else Some TablesFault.OutOfOrder) else Some TablesFault.OutOfRange) ≡ None → (a ≡ true) × (row_fault in_range high low (Some r) rs ≡ None)
    by_tests true true e = (refl, e)
    by_tests true false e = cc
    by_tests false b e = cc

-- rows that are in range have none that a test picks, where it picks none in range
rows_lack : {R : Type 0} (in_range : R → Bool) (high low : R → ℕ) (p : R → Bool) (before : Option R) (rows : List R) → ((r : R) → in_range r ≡ true → p r ≡ false) → row_fault in_range high low before rows ≡ None → find p rows ≡ None
rows_lack in_range high low p before [] lacks h = refl
rows_lack in_range high low p before (r ∷ rs) lacks h =
    let two = row_in_range in_range high low before r rs h in
    ap (λ b. if b then Some r else find p rs) (lacks r two.0) ∙ rows_lack in_range high low p (Some r) rs lacks two.1

-- ---- characters

scalar_is : (c : ℕ) → is_scalar c ≡ true → scalar c ≡ true
scalar_is c e = by_tests (nat_lt c 0xD800) (nat_le 0xE000 c && nat_lt c 0x110000) e
  where
    by_tests : (a b : Bool) → (a || b) ≡ true → (if a then true else b) ≡ true
    by_tests true b f = refl
    by_tests false b f = f

-- a number of a row is none that is no character
apart : (c u : ℕ) → is_scalar c ≡ true → scalar u ≡ false → (c == u) ≡ false
apart c u is none = test_of_apart c u (λ e. absurd (let both : true ≡ false = sym (scalar_is c is) ∙ ap scalar e ∙ none in cc))

counterparts_lack : (u : ℕ) (rows : List Counterpart) → fault_in is_counterpart_in_range (λ r. r.character) rows ≡ None → scalar u ≡ false → counterpart_in rows u ≡ None
counterparts_lack u rows sound none =
    ap (option_map (λ (r : Counterpart). r.counterpart)) (rows_lack is_counterpart_in_range (λ _. 0) (λ r. r.character) (λ r. r.character == u) None rows
    (λ r e. apart r.character u (both_true (is_scalar r.character) (is_scalar r.counterpart) e).0 none) sound)

-- ---- tables

-- the faults of the tables that are asked for
record Sound (t : Tables) : Type 0 where
  splits : fault_in is_split_in_range (λ r. r.whole) t.splits ≡ None
  classes : fault_in is_character_class_in_range (λ r. r.character) t.classes ≡ None
  mirrored : fault_in is_counterpart_in_range (λ r. r.character) t.mirrored ≡ None
  vertical : fault_in is_counterpart_in_range (λ r. r.character) t.vertical ≡ None
  thai : row_fault is_thai_row_in_range (λ r. r.character) (λ r. r.action) None t.thai ≡ None

sound_is : (t : Tables) → HaveNoFault t → Sound t
sound_is t h =
    let splits = both_none (fault_in is_split_in_range (λ r. r.whole) t.splits) _ h in
    let pairs = both_none (row_fault is_pair_in_range (λ r. r.first) (λ r. r.second) None t.pairs) _ splits.1 in
    let classes = both_none (fault_in is_character_class_in_range (λ r. r.character) t.classes) _ pairs.1 in
    let mirrored = both_none (fault_in is_counterpart_in_range (λ r. r.character) t.mirrored) _ classes.1 in
    let vertical = both_none (fault_in is_counterpart_in_range (λ r. r.character) t.vertical) _ mirrored.1 in
    let pictographic = both_none (fault_in is_character_range_in_range (λ r. r.first) t.pictographic) _ vertical.1 in
    let joining = both_none (fault_in is_joining_row_in_range (λ r. r.character) t.joining) _ pictographic.1 in
    let indic = both_none (fault_in is_indic_row_in_range (λ r. r.character) t.indic) _ joining.1 in
    let universal = both_none (fault_in is_universal_row_in_range (λ r. r.character) t.universal) _ indic.1 in
    record { splits = splits.0; classes = classes.0; mirrored = mirrored.0; vertical = vertical.0; thai = universal.1 }

splits_of_characters : (before : Option Split) (splits : List Split) → row_fault is_split_in_range (λ _. 0) (λ r. r.whole) before splits ≡ None → are_of_characters splits ≡ true
splits_of_characters before [] h = refl
splits_of_characters before (r ∷ rs) h =
    let two = row_in_range is_split_in_range (λ _. 0) (λ r. r.whole) before r rs h in
    let whole = scalar_is r.whole (both_true (is_scalar r.whole) (is_scalar r.first) (both_true (is_scalar r.whole && is_scalar r.first) (is_scalar r.second) two.0).0).0 in
    and_true (scalar r.whole) (are_of_characters rs) whole (splits_of_characters (Some r) rs two.1)

pub no_split : (t : Tables) (u : ℕ) → HaveNoFault t → scalar u ≡ false → split_of t u ≡ None
no_split t u h none = characters_split t (splits_of_characters None t.splits (sound_is t h).splits) u none

pub no_mirrored : (t : Tables) (u : ℕ) → HaveNoFault t → scalar u ≡ false → counterpart_in t.mirrored u ≡ None
no_mirrored t u h none = counterparts_lack u t.mirrored (sound_is t h).mirrored none

pub no_vertical : (t : Tables) (u : ℕ) → HaveNoFault t → scalar u ≡ false → counterpart_in t.vertical u ≡ None
no_vertical t u h none = counterparts_lack u t.vertical (sound_is t h).vertical none

pub no_class : (t : Tables) (u : ℕ) → HaveNoFault t → scalar u ≡ false → class_of t u ≡ 0
no_class t u h none =
    ap (λ o. option_map_or (λ (r : CharacterClass). r.class) o 0) (rows_lack is_character_class_in_range (λ _. 0) (λ r. r.character) (λ r. r.character == u) None t.classes
    (λ r e. apart r.character u (both_true (is_scalar r.character) (nat_lt r.class 256) e).0 none) (sound_is t h).classes)

thai_parts : (r : ThaiRow) → is_thai_row_in_range r ≡ true → (is_scalar r.character ≡ true) × (nat_lt r.action 4 ≡ true)
thai_parts r e = both_true (is_scalar r.character) (nat_lt r.action 4) (both_true (is_scalar r.character && nat_lt r.action 4) (is_scalar r.first) (both_true (is_scalar r.character && nat_lt r.action 4 && is_scalar r.first) (is_scalar r.second) e).0).0

pub no_thai : (t : Tables) (u action : ℕ) → HaveNoFault t → scalar u ≡ false → thai_of t u action ≡ None
no_thai t u action h none =
    ap (option_map (λ (r : ThaiRow). (r.first, r.second))) (rows_lack is_thai_row_in_range (λ r. r.character) (λ r. r.action) (λ r. r.character == u && r.action == action) None t.thai
    (λ r e. lacks_first (r.character == u) (r.action == action) (apart r.character u (thai_parts r e).0 none)) (sound_is t h).thai)

not_above : (m n : ℕ) → nat_lt m 4 ≡ true → 4 ≤ n → (m == n) ≡ false
not_above m n e le = test_of_apart m n (λ f. absurd (let less : m < 4 = grind (arith, nat_tests, e) in omega (arith, less, le, f)))

pub no_action : (t : Tables) (u action : ℕ) → HaveNoFault t → 4 ≤ action → thai_of t u action ≡ None
no_action t u action h le =
    ap (option_map (λ (r : ThaiRow). (r.first, r.second))) (rows_lack is_thai_row_in_range (λ r. r.character) (λ r. r.action) (λ r. r.character == u && r.action == action) None t.thai
    (λ r e. lacks_second (r.character == u) (r.action == action) (not_above r.action action (thai_parts r e).1 le)) (sound_is t h).thai)

-- ---- U+034F

others_lack : (s : ℕ) (rows : List VariationRow) → list_all is_of_other rows ≡ true → row_of_characters 0x34F s rows ≡ None
others_lack s [] h = refl
others_lack s (r ∷ rs) h =
    let two = both_true (is_of_other r) (list_all is_of_other rs) h in
    ap (λ b. if b then Some r else row_of_characters 0x34F s rs) (lacks_first (r.character == 0x34F) (r.selector == s) (false_by_not (r.character == 0x34F) two.0)) ∙ others_lack s rs two.1

pub joiner_stays : (font : FaceParts) (s : ℕ) → list_all is_of_other font.variants ≡ true → variation_glyph 0x34F s font ≡ None
joiner_stays font s h = ap (option_map (λ (r : VariationRow). r.glyph)) (others_lack s font.variants h)

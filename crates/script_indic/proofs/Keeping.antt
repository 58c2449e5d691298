-- The reorderings of Indic syllables permute glyph numbers, and keep the parts of a text whatever its clusters are.
use Rattle.std.proofs.Common.{ℕ, ◌≡◌, Bool, true, false, if◌then◌else◌, List, [], ◌∷◌, length, map, take, drop, Option, None, Some, refl}
use Rattle.std.specs.Prelude.{◌+◌, ◌-◌, ◌==◌, bit_and, slice_get}
use Rattle.buffer_unicode_tables.specs.Tables.{Tables}
use Rattle.buffer_glyphs.specs.Items.{Item}
use Rattle.buffer_glyphs.specs.Events.{StrictBreak}
use Rattle.buffer_glyphs.specs.Rewriting.{Arrangement, and_arranged, eventless_arrangement, shifted_event}
use Rattle.buffer_lists.proofs.Lemmas.OrderSpans.{order_stays}
use Rattle.buffer_parts.specs.Plainly.{AreSteady}
use Rattle.buffer_parts.specs.Lemmas.Plainly.{both_steady}
use Rattle.buffer_stages.specs.Ordering.{groups_reversed, auxiliary_order}
use Rattle.buffer_stages.specs.Parts.{first_to_back}
use Rattle.buffer_stages.specs.Rewriting.{by_syllable, each_rewritten, in_syllables, within}
use Rattle.buffer_stages.specs.SyllableLaws.{IsPermuted}
use Rattle.buffer_stages.specs.Lemmas.Numbers.{same_numbers, syllables_permute, then_permutes}
use Rattle.buffer_parts.specs.PlainStages.{KeepsPlainly}
use Rattle.buffer_parts.specs.Lemmas.PlainStages.{IsSteady, mapped_plainly, rule_plainly, same_plainly, then_steady, within_steady, each_steady}
use Rattle.buffer_parts.specs.Lemmas.Steady.{shifted_steady}
use Rattle.script_categories.specs.declared.shaper.hb_ot_script_shaper_t.TheVariants.{INDIC_SHAPER}
use Rattle.script_categories.specs.Shapers.{is_reordered}
use Rattle.script_indic_reordering.specs.declared.script.IndicMasks.{IndicMasks}
use Rattle.script_indic_reordering.specs.declared.script.RephMode.{RephMode}
use Rattle.script_indic_reordering.specs.Base.{Forms, reph_and_base}
use Rattle.script_indic_reordering.specs.Final.{RephMoved, after_halant, base_passed, begins_with_reph, final_reordered, formed_base, is_left_in_word, last_halant, left_before, lefts_last, lefts_merged, lefts_moved, lefts_moved_by, lefts_moved_from, merged_to_base, passed_by_reph, pref_form, pref_moved, pref_moved_from, pref_target, reph_moved, then_pref, word_events}
use Rattle.script_indic_reordering.specs.Glyphs.{is_consonant, is_matra, with_position}
use Rattle.script_indic_reordering.specs.Initial.{all_placed, first_left, has_two_matras, initial_reordered, left_count, masks_set, matras_reversed, pref_pair}
use Rattle.script_indic_reordering.specs.Orders.{consonant_position, consonant_with_position, final_order, final_syllable, if_reordered, init_masked, initial_syllable}
use Rattle.script_indic_reordering.proofs.Lemmas.FinalPermuted.{final_syllable_permutes, words_numbers}
use Rattle.script_indic.specs.Categories.{properties_set, with_properties}
use Rattle.script_indic.specs.Reordering.{consonants_updated, final_stage}

-- ---- numbers

pub final_order_permutes : (reph_pos : ℕ) (m : IndicMasks) (xs : List Item) → IsPermuted xs (final_order reph_pos m xs)
final_order_permutes reph_pos m xs =
    let r = by_syllable (final_syllable reph_pos m) xs in
    then_permutes xs r (init_masked m) (syllables_permute (final_syllable reph_pos m) (final_syllable_permutes reph_pos m) xs)
    (same_numbers r.items (init_masked m r.items) (words_numbers (is_reordered INDIC_SHAPER) m.init None r.items))

-- a consonant with another position has its number
pub number_stays : (forms : Forms) (virama : ℕ) (x : Item) → (consonant_with_position forms virama x).number ≡ x.number
number_stays forms virama x = by_test (is_consonant x)
  where
    number_of : Item → ℕ
    number_of y = y.number

    by_test : (t : Bool) → number_of (if t then with_position (consonant_position forms virama x) x else x) ≡ x.number
    by_test true = refl
    by_test false = refl

-- ---- events of a syllable

if_reordered_steady : (rule : List Item → Arrangement) → ((ys : List Item) → IsSteady (rule ys)) → (xs : List Item) (first : Option Item) → IsSteady (if_reordered rule xs first)
if_reordered_steady rule p xs None = tt
if_reordered_steady rule p xs (Some x) = by_kind (is_reordered INDIC_SHAPER (bit_and x.syllable 15))
  where
    by_kind : (t : Bool) → IsSteady (if t then rule xs else eventless_arrangement xs)
    by_kind true = p xs
    by_kind false = tt

-- ---- the initial reordering

matras_steady : (xs : List Item) → IsSteady (matras_reversed xs)
matras_steady xs = by_test (has_two_matras (take (left_count xs) (drop (first_left xs) xs)))
  where
    by_test : (t : Bool) → IsSteady (if t then within (first_left xs) (first_left xs + left_count xs) (groups_reversed is_matra) xs else eventless_arrangement xs)
    by_test true = within_steady (groups_reversed is_matra) (first_left xs) (first_left xs + left_count xs) xs (λ ys. tt)
    by_test false = tt

-- a sort by positions permutes glyphs only where it merges them
pub sorted_steady : (xs : List Item) → IsSteady (auxiliary_order xs)
sorted_steady xs = (order_stays (map (λ (x : Item). x.auxiliary) xs), tt)

initially_steady : (mode : RephMode) (m : IndicMasks) (forms : Forms) (xs : List Item) → IsSteady (initial_reordered mode m forms xs)
initially_steady mode m forms xs =
    let placed = eventless_arrangement (all_placed (reph_and_base mode forms xs) xs) in
    let sorted = and_arranged placed auxiliary_order in
    let turned = and_arranged sorted matras_reversed in
    then_steady turned (λ ys. eventless_arrangement (masks_set m (pref_pair forms ys) ys)) (then_steady sorted matras_reversed (then_steady placed auxiliary_order tt (sorted_steady placed.items)) (matras_steady sorted.items)) tt

-- the initial reordering of a syllable permutes glyphs only where it merges them
pub initial_steady : (mode : RephMode) (m : IndicMasks) (forms : Forms) (xs : List Item) → IsSteady (initial_syllable mode m forms xs)
initial_steady mode m forms xs = if_reordered_steady (initial_reordered mode m forms) (initially_steady mode m forms) xs (slice_get xs 0)

-- ---- the final reordering

from_steady : (base h : ℕ) (xs : List Item) (o : Option ℕ) → IsSteady (lefts_moved_from base h xs o)
from_steady base h xs None = tt
from_steady base h xs (Some first) = within_steady (lefts_last (h - first)) first (after_halant base xs h) xs (λ ys. tt)

lefts_by_steady : (base : ℕ) (xs : List Item) (o : Option ℕ) → IsSteady (lefts_moved_by base xs o)
lefts_by_steady base xs None = tt
lefts_by_steady base xs (Some h) = from_steady base h xs (left_before h xs)

merged_steady : (base : ℕ) (xs : List Item) (o : Option ℕ) → IsSteady (merged_to_base base xs o)
merged_steady base xs None = tt
merged_steady base xs (Some first) = tt

lefts_steady : (base : ℕ) (xs : List Item) → IsSteady (lefts_moved base xs)
lefts_steady base xs =
    let r = lefts_moved_by base xs (last_halant base xs) in
    then_steady r (lefts_merged base) (lefts_by_steady base xs (last_halant base xs)) (merged_steady base r.items (left_before base r.items))

abbrev RephSteady : RephMoved → Type 0
RephSteady r = IsSteady r.rewritten

reph_steady : (reph_pos base : ℕ) (xs : List Item) → IsSteady (reph_moved reph_pos base xs).rewritten
reph_steady reph_pos base xs = by_test (begins_with_reph xs)
  where
    by_test : (t : Bool) → RephSteady (if t then record { rewritten = within 0 (passed_by_reph reph_pos base xs) (first_to_back 1) xs; base = base_passed (passed_by_reph reph_pos base xs) base } else record { rewritten = eventless_arrangement xs; base = base })
    by_test true = within_steady (first_to_back 1) 0 (passed_by_reph reph_pos base xs) xs (λ ys. tt)
    by_test false = tt

pref_from_steady : (base : ℕ) (xs : List Item) (o : Option ℕ) → IsSteady (pref_moved_from base xs o)
pref_from_steady base xs None = tt
pref_from_steady base xs (Some i) =
    let to = pref_target base xs (last_halant base xs) in
    within_steady (first_to_back (i - to)) to (i + 1) xs (λ ys. tt)

pref_steady : (bits base : ℕ) (xs : List Item) → IsSteady (pref_moved bits base xs)
pref_steady bits base xs = pref_from_steady base xs (pref_form bits base xs)

finally_steady : (reph_pos pref : ℕ) (xs : List Item) → IsSteady (final_reordered reph_pos pref xs)
finally_steady reph_pos pref xs =
    let base = formed_base xs in
    let lefts = lefts_moved base xs in
    let r = reph_moved reph_pos base lefts.items in
    then_steady lefts (λ ys. then_pref pref (reph_moved reph_pos base ys)) (lefts_steady base xs)
    (then_steady r.rewritten (pref_moved pref r.base) (reph_steady reph_pos base lefts.items) (pref_steady pref r.base r.rewritten.items))

-- the final reordering of a syllable permutes glyphs only where it merges them
pub final_steady : (reph_pos : ℕ) (m : IndicMasks) (xs : List Item) → IsSteady (final_syllable reph_pos m xs)
final_steady reph_pos m xs = if_reordered_steady (final_reordered reph_pos m.pref) (finally_steady reph_pos m.pref) xs (slice_get xs 0)

words_steady : (before : Option Item) (at : ℕ) (xs : List Item) → AreSteady (word_events (is_reordered INDIC_SHAPER) before at xs)
words_steady before at [] = tt
words_steady before at (x ∷ xs) =
    let t = is_left_in_word (is_reordered INDIC_SHAPER) before x in
    both_steady (if t then StrictBreak (at - 1) (at + 1) ∷ [] else []) (word_events (is_reordered INDIC_SHAPER) (Some x) (at + 1) xs) (one t) (words_steady (Some x) (at + 1) xs)
  where
    one : (t : Bool) → AreSteady (if t then StrictBreak (at - 1) (at + 1) ∷ [] else [])
    one true = tt
    one false = tt

init_steady : (m : IndicMasks) (xs : List Item) → IsSteady (init_masked m xs)
init_steady m xs = by_mask (m.init == 0)
  where
    by_mask : (t : Bool) → AreSteady (if t then [] else word_events (is_reordered INDIC_SHAPER) None 0 xs)
    by_mask true = tt
    by_mask false = words_steady None 0 xs

final_order_steady : (reph_pos : ℕ) (m : IndicMasks) (xs : List Item) → IsSteady (final_order reph_pos m xs)
final_order_steady reph_pos m xs =
    let r = by_syllable (final_syllable reph_pos m) xs in
    then_steady r (init_masked m) (each_steady (final_syllable reph_pos m) (final_steady reph_pos m) (in_syllables xs)) (init_steady m r.items)

-- ---- stages

-- the stage of categories and syllabic positions keeps the parts of a text
pub properties_keep_plainly : (t : Tables) → KeepsPlainly (properties_set t)
properties_keep_plainly t = mapped_plainly (with_properties t)

-- the stage of consonants' positions keeps the parts of a text
pub consonants_keep_plainly : (forms : Forms) (virama : Option ℕ) → KeepsPlainly (consonants_updated forms virama)
consonants_keep_plainly forms None = same_plainly
consonants_keep_plainly forms (Some virama) = mapped_plainly (consonant_with_position forms virama)

-- the stage of the final reordering keeps the parts of a text
pub final_keeps_plainly : (reph_pos : ℕ) (m : IndicMasks) → KeepsPlainly (final_stage reph_pos m)
final_keeps_plainly reph_pos m = rule_plainly (final_order reph_pos m) (final_order_steady reph_pos m) (final_order_permutes reph_pos m)

-- The rules of the universal shaper's syllables bring no number in.
use Rattle.std.proofs.Common.{ℕ, zero, suc, ◌≡◌, ◌≤◌, ◌<◌, ◌+◌, Bool, true, false, if◌then◌else◌, List, [], ◌∷◌, ◌++◌, None, Some, Err, length, map, refl, sym, ap, subst, ◌∙◌, arith}
use Rattle.std.specs.Prelude.{not, nat_lt}
use Rattle.std.specs.List.{list_all}
use Rattle.std.specs.List.Sorted.{IsPermutation}
use Rattle.std.proofs.lemmas.List.{length-map, map-append}
use Rattle.std.proofs.lemmas.List.Sorted.{IsPermutation-refl}
use Rattle.std.proofs.lemmas.Bool.Decides.{nat_tests}
use Rattle.std.proofs.lemmas.Grind.{common_steps}
use Rattle.buffer_glyphs.specs.declared.cause.ShapeCause.TheVariants.{UnknownSyllableKind}
use Rattle.buffer_glyphs.specs.Items.{Item}
use Rattle.buffer_core.specs.Readings.{Follows, BufferState, always}
use Rattle.buffer_core.specs.Sides.{Sides, items_of, state_of, view_of}
use Rattle.buffer_stages.specs.Stages.{IsFollowed}
use Rattle.buffer_glyphs.specs.LigatureWords.{is_substituted}
use Rattle.script_categories.specs.declared.shaper.hb_ot_script_shaper_t.{hb_ot_script_shaper_t}
use Rattle.script_categories.specs.declared.shaper.hb_ot_script_shaper_t.TheVariants.{UNIVERSAL_SHAPER}
use Rattle.buffer_stages.specs.Bytes.{syllable_byte}
use Rattle.buffer_stages.specs.Cuts.{Syllable, syllable_from, syllables, syllables_from}
use Rattle.buffer_stages.specs.Rewriting.{within, in_syllables}
use Rattle.buffer_stages.specs.Parts.{items_with_features}
use Rattle.buffer_stages.specs.SyllableBuffers.{with_rule}
use Rattle.buffer_stages.specs.SyllableLaws.{IsPermuted, numbers_of}
use Rattle.buffer_stages.specs.Lemmas.Numbers.{concatenation, mapped_permutes, masked_permutes, runs_join, same_numbers, then_permutes, within_permutes}
use Rattle.script_syllabic.specs.Bytes.{bytes_of, bytes_set, is_known, itself, one_syllable, syllables_set, with_byte}
use Rattle.script_syllabic.specs.declared.forms.FormMasks.{FormMasks}
use Rattle.script_syllabic.specs.Features.{each_formed, first_connects, form_of, syllable_with_form, has_feature, connects, pref_recorded, with_first_recorded, reph_size, rphf_masked, rphf_recorded, topography, with_category, with_form}
use Rattle.script_syllabic.specs.Spans.{categories_counted, index_or_end, counted_index, counted_indices_from, universal_set}
use Rattle.script_syllabic.proofs.Counting.{indices_rise}
use Rattle.script_syllabic.specs.Quiet.{IsQuiet}
use Rattle.script_syllabic.proofs.Quiet.{rule_quiet}

-- ---- rphf and recording

pub rphf_permutes : (mask : ℕ) (xs : List Item) → IsPermuted xs (rphf_masked mask xs)
rphf_permutes mask xs = within_permutes (items_with_features mask) 0 (reph_size xs) xs (masked_permutes mask) (omega arith)

recorded_numbers : (test : Item → Bool) (c : ℕ) (xs : List Item) → numbers_of (with_first_recorded test c xs) ≡ numbers_of xs
recorded_numbers test c [] = refl
recorded_numbers test c (x ∷ xs) = by_tests (recorded_numbers test c xs) (test x) (is_substituted x)
  where
    by_tests : numbers_of (with_first_recorded test c xs) ≡ numbers_of xs → (s t : Bool) → numbers_of (if not s then x ∷ xs else if t then with_category c x ∷ xs else x ∷ with_first_recorded test c xs) ≡ x.number ∷ numbers_of xs
    by_tests later true true = refl
    by_tests later true false = ap (λ ns. x.number ∷ ns) later
    by_tests later false t = refl

pub rphf_recorded_permutes : (mask : ℕ) (xs : List Item) → IsPermuted xs (rphf_recorded mask xs)
rphf_recorded_permutes mask xs = same_numbers xs (rphf_recorded mask xs) (recorded_numbers (has_feature (Some mask)) _ xs)

pub pref_recorded_permutes : (xs : List Item) → IsPermuted xs (pref_recorded xs)
pref_recorded_permutes xs = same_numbers xs (pref_recorded xs) (recorded_numbers (has_feature None) _ xs)

-- ---- forms

formed_numbers : (masks : FormMasks) (before behind : Bool) (s : List Item) → numbers_of (syllable_with_form masks before s behind) ≡ numbers_of s
formed_numbers masks before behind s = by_test (connects s)
  where
    same : (xs : List Item) → numbers_of (map (with_form masks (form_of masks before behind)) xs) ≡ numbers_of xs
    same [] = refl
    same (x ∷ xs) = ap (λ ns. x.number ∷ ns) (same xs)

    by_test : (t : Bool) → numbers_of (if t then map (with_form masks (form_of masks before behind)) s else s) ≡ numbers_of s
    by_test true = same s
    by_test false = refl

each_numbers : (masks : FormMasks) (before : Bool) (ss : List (List Item)) → numbers_of (each_formed masks before ss) ≡ numbers_of (concatenation ss)
each_numbers masks before [] = refl
each_numbers masks before (s ∷ ss) =
    map-append (λ (x : Item). x.number) (syllable_with_form masks before s (first_connects ss)) (each_formed masks (connects s) ss)
    ∙ ap (λ ns. ns ++ numbers_of (each_formed masks (connects s) ss)) (formed_numbers masks before (first_connects ss) s)
    ∙ ap (λ ns. numbers_of s ++ ns) (each_numbers masks (connects s) ss) ∙ sym (map-append (λ (x : Item). x.number) s (concatenation ss))

pub topography_permutes : (masks : FormMasks) (xs : List Item) → IsPermuted xs (topography masks xs)
topography_permutes masks xs = same_numbers xs (topography masks xs) (each_numbers masks false (in_syllables xs) ∙ ap numbers_of (runs_join (λ (x : Item). x.syllable) xs))

pub forms_quiet : (masks : FormMasks) (a b : Sides) → IsFollowed (always (with_rule (topography masks))) a b → IsQuiet (always (with_rule (topography masks))) a b
forms_quiet masks a b f = rule_quiet (topography masks) a b (topography_permutes masks (items_of a)) f

-- ---- bytes

byte_permutes : (byte : ℕ) (xs : List Item) → IsPermuted xs (one_syllable byte xs)
byte_permutes byte xs = mapped_permutes (with_byte byte) xs (λ x. refl)

pub bytes_permute : (next : ℕ → ℕ × ℕ) (at : ℕ → ℕ) (count : ℕ) → ((start : ℕ) → start < count → start < (next start).0) → ((i j : ℕ) → i ≤ j → at i ≤ at j) → (most start index : ℕ) (xs : List Item)
    → IsPermuted xs (bytes_set at index (syllables_from next count most start) xs)
bytes_permute next at count after rising zero start index xs = IsPermutation-refl (numbers_of xs)
bytes_permute next at count after rising (suc most) start index xs = by_test (nat_lt start count) refl (bytes_permute next at count after rising most (next start).0 (index + 1))
  where
    by_test : (t : Bool) → nat_lt start count ≡ t → ((ys : List Item) → IsPermuted ys (bytes_set at (index + 1) (syllables_from next count most (next start).0) ys))
        → IsPermuted xs (bytes_set at index (if t then syllable_from next start ∷ syllables_from next count most (next start).0 else []) xs)
    by_test true e later =
        let lt : start < count = grind (arith, nat_tests, common_steps, e) in
        let less = after start lt in
        let rule = one_syllable (syllable_byte index (next start).1) in
        let r = within (at start) (at (next start).0) rule xs in
        then_permutes xs r (bytes_set at (index + 1) (syllables_from next count most (next start).0)) (within_permutes rule (at start) (at (next start).0) xs (byte_permutes (syllable_byte index (next start).1)) (rising start (next start).0 (omega (arith, less)))) (later r.items)
    by_test false e later = IsPermutation-refl (numbers_of xs)

bytes_quiet : (shaper : hb_ot_script_shaper_t) (at : ℕ → ℕ) (ss : List Syllable) (a b : Sides) → IsPermuted (items_of a) (bytes_set at 0 ss (items_of a)) → IsFollowed (bytes_of shaper at ss) a b → IsPermutation (numbers_of (items_of a)) (numbers_of (items_of b))
bytes_quiet shaper at ss a b p f = by_test (list_all (is_known shaper) ss) f.follows
  where
    by_test : (t : Bool) → Follows (if t then always (with_rule (bytes_set at 0 ss)) (view_of a) else Err UnknownSyllableKind) (state_of a) (state_of b) → IsPermutation (numbers_of (items_of a)) (numbers_of (items_of b))
    by_test true g = subst (λ ys. IsPermutation (numbers_of (items_of a)) (numbers_of ys)) (sym (ap (λ (run : BufferState). run.view.items) g)) p
    by_test false g = absurd g

pub universal_set_quiet : (span_of : hb_ot_script_shaper_t → List ℕ → ℕ → ℕ × ℕ) (a b : Sides) → ((cs : List ℕ) (start : ℕ) → start < length cs → start < (span_of UNIVERSAL_SHAPER cs start).0)
    → IsFollowed (universal_set span_of) a b → IsQuiet (universal_set span_of) a b
universal_set_quiet span_of a b after f =
    let xs = items_of a in
    let cs = categories_counted xs in
    let none : 0 + length xs ≡ length xs = omega arith in
    let rises : (i j : ℕ) → i ≤ j → counted_index xs i ≤ counted_index xs j = λ i j le. subst (λ n. index_or_end (counted_indices_from 0 xs) n i ≤ index_or_end (counted_indices_from 0 xs) n j) none (indices_rise 0 xs i j le) in
    record {
      followed = f;
      numbers = bytes_quiet UNIVERSAL_SHAPER (counted_index xs) (syllables (span_of UNIVERSAL_SHAPER cs) (length cs)) a b
          (bytes_permute (span_of UNIVERSAL_SHAPER cs) (counted_index xs) (length cs) (after cs) rises (length cs) 0 0 xs) record { follows = f.follows; settings = f.settings; ready = f.ready };
    }

pub syllables_set_quiet : (span_of : hb_ot_script_shaper_t → List ℕ → ℕ → ℕ × ℕ) (shaper : hb_ot_script_shaper_t) (a b : Sides) → ((cs : List ℕ) (start : ℕ) → start < length cs → start < (span_of shaper cs start).0)
    → IsFollowed (syllables_set span_of shaper) a b → IsQuiet (syllables_set span_of shaper) a b
syllables_set_quiet span_of shaper a b after f =
    let xs = items_of a in
    let cs = map (λ (x : Item). x.category) xs in
    let count : length cs ≡ length xs = length-map xs (λ (x : Item). x.category) in
    record {
      followed = f;
      numbers = bytes_quiet shaper itself (syllables (span_of shaper cs) (length xs)) a b
          (bytes_permute (span_of shaper cs) itself (length xs) (λ start lt. after cs start (omega (arith, lt, count))) (λ i j le. le) (length xs) 0 0 xs) record { follows = f.follows; settings = f.settings; ready = f.ready };
    }

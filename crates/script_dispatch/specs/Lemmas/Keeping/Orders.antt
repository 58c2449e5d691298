-- The events of circles and of the order of syllables.
use Rattle.std.proofs.Common.{ℕ, zero, suc, ◌≡◌, ◌<◌, ◌+◌, ◌-◌, ◌==◌, ◌&&◌, Bool, true, false, if◌then◌else◌, List, [], ◌∷◌, length, take, Option, None, Some, Ok, slice_get, arith, refl, ap, subst, ◌∙◌}
use Rattle.std.specs.Prelude.{bit_and, nat_le, nat_lt}
use Rattle.std.specs.List.{list_any}
use Rattle.buffer_glyphs.specs.declared.level.BufferClusterLevel.{BufferClusterLevel}
use Rattle.buffer_glyphs.specs.Items.{Item}
use Rattle.buffer_glyphs.specs.Events.{Circle}
use Rattle.buffer_glyphs.specs.declared.cause.ShapeCause.TheVariants.{TooLong}
use Rattle.buffer_core.specs.Readings.{Read, Reading, View, as_it_is}
use Rattle.buffer_parts.specs.Plainly.{ArePlainlyKept}
use Rattle.buffer_parts.specs.Lemmas.Plainly.{circle_kept, plainly_in_turn, steady_kept}
use Rattle.script_categories.specs.declared.ot_category_t.TheConstants as category
use Rattle.script_categories.specs.declared.shaper.hb_ot_script_shaper_t.TheVariants.{KHMER_SHAPER, MYANMAR_SHAPER, UNIVERSAL_SHAPER}
use Rattle.script_categories.specs.Shapers.{is_reordered}
use Rattle.buffer_stages.specs.Ordering.{groups_reversed, auxiliary_order}
use Rattle.buffer_glyphs.specs.Rewriting.{Arrangement, eventless_arrangement, and_arranged}
use Rattle.buffer_stages.specs.Rewriting.{within}
use Rattle.buffer_stages.specs.SyllableLaws.{IsPermuted}
use Rattle.buffer_stages.specs.Parts.{first_to_back, items_with_features}
use Rattle.script_syllabic.specs.declared.circles.CircleRule.{CircleRule}
use Rattle.script_syllabic.specs.Circles.{CircledItem, Due, There, Inserted, begins, circled_at_start, circle_events, circle_item, circled_rest, circled_items, circles_by, circles_put, items_without_circles, is_broken, is_repha, with_circles}
use Rattle.script_syllabic.proofs.Erased.{erasing_circles}
use Rattle.buffer_common.specs.declared.constants.BufferFlags.{BufferFlags}
use Rattle.buffer_common.specs.declared.script.Script.{Script}
use Rattle.layout_face.specs.declared.parts.FaceParts.{FaceParts}
use Rattle.layout_map.specs.Compiled.{OtMapValue}
use Rattle.script_indic_reordering.specs.Base.{Forms}
use Rattle.script_indic_reordering.specs.Orders.{initial_syllable}
use Rattle.script_indic_reordering.specs.Lemmas.InitialPermuted.{initial_syllable_permutes}
use Rattle.script_indic_reordering.specs.declared.script.IndicMasks.{IndicMasks}
use Rattle.script_indic_reordering.specs.declared.script.RephMode.{RephMode}
use Rattle.script_indic.specs.Config.{indic_config}
use Rattle.script_indic.specs.FontForms.{font_forms}
use Rattle.script_indic.specs.Masks.{indic_masks}
use Rattle.script_indic.specs.Reordering.{circles_order, consonants_updated, indic_circles, indic_initial, initial_stage, virama_glyph}
use Rattle.script_indic.proofs.Keeping.{consonants_keep_plainly, final_keeps_plainly, initial_steady, sorted_steady}
use Rattle.script_khmer.specs.declared.khmer.KhmerMasks.{KhmerMasks}
use Rattle.script_khmer.specs.Khmer as khmer
use Rattle.script_myanmar.specs.Myanmar as myanmar
use Rattle.script_universal.specs.Reordering as universal
use Rattle.script_khmer.proofs.KhmerPermuted.{syllable_permutes as khmer_permutes}
use Rattle.script_myanmar.proofs.MyanmarPermuted.{syllable_permutes as myanmar_permutes}
use Rattle.script_universal.proofs.Permuted.{syllable_permutes as universal_permutes}
use Rattle.script_arabic.proofs.Plainly.{kept_between}
use Rattle.script_khmer.specs.Pauses.{khmer_circles}
use Rattle.script_myanmar.specs.Pauses.{myanmar_circles}
use Rattle.script_syllabic.specs.Syllables.{syllables_by, then_syllables}
use Rattle.script_universal.specs.Pauses.{universal_circles}
use Rattle.buffer_parts.specs.PlainStages.{KeepsPlainly}
use Rattle.buffer_parts.specs.Lemmas.PlainStages.{IsSteady, ReadsPlainly, limited_plainly, same_plainly, syllables_plainly, then_plainly, then_steady, within_steady}
use Rattle.script_dispatch.specs.Keeping.{OrdersKeepPlainly}

-- ---- circles

-- each circle that is inserted comes before an item that is still to come, or after its rephas
abbrev AreSeated : ℕ → List CircledItem → Type 0
AreSeated at [] = Unit {0}
AreSeated at (There x ∷ ys) = AreSeated (at + 1) ys
AreSeated at (Inserted zero c ∷ ys) = (0 < length (items_without_circles ys)) × AreSeated (at + 1) ys
AreSeated at (Inserted (suc n) c ∷ ys) = (0 < at) × AreSeated (at + 1) ys

circles_kept : (at : ℕ) (ys : List CircledItem) → AreSeated at ys → ArePlainlyKept (circle_events at ys) (at + length (items_without_circles ys)) (at + length (circled_items ys))
circles_kept at [] seated = steady_kept [] (at + 0) tt
circles_kept at (There x ∷ ys) seated =
    let before : at + 1 + length (items_without_circles ys) ≡ at + suc (length (items_without_circles ys)) = omega arith in
    let after : at + 1 + length (circled_items ys) ≡ at + suc (length (circled_items ys)) = omega arith in
    kept_between (circle_events (at + 1) ys) (at + 1 + length (items_without_circles ys)) (at + suc (length (items_without_circles ys))) (at + 1 + length (circled_items ys)) (at + suc (length (circled_items ys))) before after (circles_kept (at + 1) ys seated)
circles_kept at (Inserted zero c ∷ ys) seated =
    let some = seated.0 in
    let n = at + length (items_without_circles ys) in
    let mid : at + 1 + length (items_without_circles ys) ≡ n + 1 = omega arith in
    let after : at + 1 + length (circled_items ys) ≡ at + suc (length (circled_items ys)) = omega arith in
    kept_between (Circle false at at ∷ circle_events (at + 1) ys) n n (at + 1 + length (circled_items ys)) (at + suc (length (circled_items ys))) refl after
    (plainly_in_turn (Circle false at at ∷ []) (circle_events (at + 1) ys) n (n + 1) (at + 1 + length (circled_items ys)) (circle_kept false at at n (omega (arith, some)))
    (subst (λ (m : ℕ). ArePlainlyKept (circle_events (at + 1) ys) m (at + 1 + length (circled_items ys))) mid (circles_kept (at + 1) ys seated.1)))
circles_kept at (Inserted (suc k) c ∷ ys) seated =
    let some = seated.0 in
    let n = at + length (items_without_circles ys) in
    let mid : at + 1 + length (items_without_circles ys) ≡ n + 1 = omega arith in
    let after : at + 1 + length (circled_items ys) ≡ at + suc (length (circled_items ys)) = omega arith in
    kept_between (Circle true (at - 1) (at - suc k) ∷ circle_events (at + 1) ys) n n (at + 1 + length (circled_items ys)) (at + suc (length (circled_items ys))) refl after
    (plainly_in_turn (Circle true (at - 1) (at - suc k) ∷ []) (circle_events (at + 1) ys) n (n + 1) (at + 1 + length (circled_items ys)) (circle_kept true (at - 1) (at - suc k) n (omega (arith, some)))
    (subst (λ (m : ℕ). ArePlainlyKept (circle_events (at + 1) ys) m (at + 1 + length (circled_items ys))) mid (circles_kept (at + 1) ys seated.1)))

-- a circle is due after a repha at least
abbrev IsDueAt : ℕ → Option Due → Type 0
IsDueAt at None = Unit {0}
IsDueAt at (Some d) = (0 < at) × (0 < d.rephas)

inserted_seated : (at k : ℕ) (c : Item) (ys : List CircledItem) → 0 < at → 0 < k → AreSeated (at + 1) ys → AreSeated at (Inserted k c ∷ ys)
inserted_seated at zero c ys some more h = absurd (omega (arith, more))
inserted_seated at (suc k) c ys some more h = (some, h)

begun_seated : (r : CircleRule) (last : ℕ) (x : Item) (rest : ℕ → Option Due → List CircledItem) (at : ℕ) → ((n : ℕ) (d : Option Due) (i : ℕ) → IsDueAt i d → AreSeated i (rest n d)) → AreSeated at (circled_at_start r last x rest)
begun_seated r last x rest at h = by_tests (begins r last x) (is_repha r x.syllable x)
  where
    by_tests : (s t : Bool) → AreSeated at (if s then (if t then There x ∷ rest x.syllable (Some (record { rephas = 1; circle = circle_item r x })) else Inserted 0 (circle_item r x) ∷ There x ∷ rest x.syllable None) else There x ∷ rest last None)
    by_tests true true = h x.syllable (Some (record { rephas = 1; circle = circle_item r x })) (at + 1) (omega arith, omega arith)
    by_tests true false = (omega arith, h x.syllable None (at + 1 + 1) tt)
    by_tests false t = h last None (at + 1) tt

circled_seated : (r : CircleRule) (xs : List Item) (last : ℕ) (d : Option Due) (at : ℕ) → IsDueAt at d → AreSeated at (circled_rest r xs last d)
circled_seated r [] last None at due = tt
circled_seated r [] last (Some d) at due = inserted_seated at d.rephas d.circle [] due.0 due.1 tt
circled_seated r (x ∷ xs) last None at due = begun_seated r last x (circled_rest r xs) at (circled_seated r xs)
circled_seated r (x ∷ xs) last (Some d) at due = by_test (is_repha r last x) (circled_seated r xs)
  where
    by_test : (t : Bool) → ((n : ℕ) (e : Option Due) (i : ℕ) → IsDueAt i e → AreSeated i (circled_rest r xs n e))
        → AreSeated at (if t then There x ∷ circled_rest r xs last (Some (record { rephas = suc d.rephas; circle = d.circle })) else Inserted d.rephas d.circle ∷ circled_at_start r last x (circled_rest r xs))
    by_test true h = h last (Some (record { rephas = suc d.rephas; circle = d.circle })) (at + 1) (omega arith, omega arith)
    by_test false h = inserted_seated at d.rephas d.circle (circled_at_start r last x (circled_rest r xs)) due.0 due.1 (begun_seated r last x (circled_rest r xs) (at + 1) h)

all_kept : (r : CircleRule) (xs : List Item) → ArePlainlyKept (circle_events 0 (with_circles r xs)) (length xs) (length (circled_items (with_circles r xs)))
all_kept r xs =
    let ys = with_circles r xs in
    let before : 0 + length (items_without_circles ys) ≡ length (items_without_circles ys) = omega arith in
    let after : 0 + length (circled_items ys) ≡ length (circled_items ys) = omega arith in
    kept_between (circle_events 0 ys) (0 + length (items_without_circles ys)) (length xs) (0 + length (circled_items ys)) (length (circled_items ys)) (before ∙ ap (λ (zs : List Item). length zs) (erasing_circles r xs)) after (circles_kept 0 ys (circled_seated r xs 0 None 0 tt))

circles_keep_plainly : (rule : Option CircleRule) → KeepsPlainly (circles_by rule)
circles_keep_plainly None = same_plainly
circles_keep_plainly (Some r) = λ v s level e. by_test v s level (list_any (is_broken r) v.items) e
  where
    by_test : (v : View) (s : Read) (level : BufferClusterLevel) → (t : Bool) → ◌≡◌ {A = Reading} (if t then circles_put (with_circles r v.items) v else as_it_is v) (Ok s) → ReadsPlainly (length v.items) s level
    by_test v s level true e = limited_plainly (nat_le (length (circled_items (with_circles r v.items))) v.max_len) TooLong (length v.items) _ s level (all_kept r v.items) e
    by_test v s level false e = same_plainly v s level e

-- ---- moves

front_steady : (n from to : ℕ) (xs : List Item) → IsSteady (within from to (first_to_back n) xs)
front_steady n from to xs = within_steady (first_to_back n) from to xs (λ ys. tt)

mask_steady : (bits from to : ℕ) (xs : List Item) → IsSteady (within from to (items_with_features bits) xs)
mask_steady bits from to xs = within_steady (items_with_features bits) from to xs (λ ys. tt)

-- ---- Khmer

abbrev KhmerStep : khmer.Step → Type 0
KhmerStep s = IsSteady s.rewritten

coeng_steady : (m : KhmerMasks) (index : ℕ) (xs : List Item) → IsSteady (khmer.coeng_moved m index xs)
coeng_steady m index xs =
    let first = within index (index + 2) (items_with_features m.pref) xs in
    let both = and_arranged first (within 0 (index + 2) (first_to_back index)) in
    then_steady both (within (index + 2) (length xs) (items_with_features m.cfar)) (then_steady first (within 0 (index + 2) (first_to_back index)) (mask_steady m.pref index (index + 2) xs) (front_steady index 0 (index + 2) first.items)) (mask_steady m.cfar (index + 2) (length xs) both.items)

khmer_at_steady : (m : KhmerMasks) (index count : ℕ) (xs : List Item) → KhmerStep (khmer.khmer_at m index count xs)
khmer_at_steady m index count xs = by_items (slice_get xs index) (slice_get xs (index + 1))
  where
    vowel : (t : Bool) → KhmerStep (if t then record { rewritten = khmer.vowel_moved index xs; count = count } else record { rewritten = eventless_arrangement xs; count = count })
    vowel true = front_steady index 0 (index + 1) xs
    vowel false = tt

    coeng : (t : Bool) → KhmerStep (if t then record { rewritten = khmer.coeng_moved m index xs; count = 2 } else record { rewritten = eventless_arrangement xs; count = count + 1 })
    coeng true = coeng_steady m index xs
    coeng false = tt

    either : (x y : Item) (t : Bool) → KhmerStep (if t then khmer.coeng_step m index count xs y else khmer.vowel_step index count xs x)
    either x y true = coeng (y.category == category.OT_Ra)
    either x y false = vowel (x.category == category.OT_VPre)

    by_items : (a b : Option Item) → KhmerStep (khmer.step_at m index count xs a b)
    by_items None b = tt
    by_items (Some x) None = vowel (x.category == category.OT_VPre)
    by_items (Some x) (Some y) = either x y (khmer.is_coeng count x)

khmer_walk_steady : (m : KhmerMasks) (n index count : ℕ) (xs : List Item) → IsSteady (khmer.khmer_walk m n index count xs)
khmer_walk_steady m zero index count xs = tt
khmer_walk_steady m (suc n) index count xs =
    let s = khmer.khmer_at m index count xs in
    then_steady s.rewritten (khmer.khmer_walk m n (index + 1) s.count) (khmer_at_steady m index count xs) (khmer_walk_steady m n (index + 1) s.count s.rewritten.items)

khmer_steady : (m : KhmerMasks) (xs : List Item) → IsSteady (khmer.khmer_syllable m xs)
khmer_steady m xs = by_first (slice_get xs 0)
  where
    by_kind : (t : Bool) → IsSteady (if t then khmer.khmer_reordered m xs else eventless_arrangement xs)
    by_kind true =
        let first = within 1 (length xs) (items_with_features m.post_base) xs in
        then_steady first (khmer.khmer_walk m (length xs - 1) 1 0) (mask_steady m.post_base 1 (length xs) xs) (khmer_walk_steady m (length xs - 1) 1 0 first.items)
    by_kind false = tt

    by_first : (a : Option Item) → IsSteady (khmer.khmer_first m xs a)
    by_first None = tt
    by_first (Some x) = by_kind (is_reordered KHMER_SHAPER (bit_and x.syllable 15))

-- ---- Myanmar

matras_steady : (xs : List Item) → IsSteady (myanmar.matras_reversed xs)
matras_steady xs = by_test (myanmar.has_two_matras (take (myanmar.matras_of xs) xs))
  where
    by_test : (t : Bool) → IsSteady (if t then within 0 (myanmar.matras_of xs) (groups_reversed myanmar.is_pre_base_vowel) xs else eventless_arrangement xs)
    by_test true = within_steady (groups_reversed myanmar.is_pre_base_vowel) 0 (myanmar.matras_of xs) xs (λ ys. tt)
    by_test false = tt

myanmar_steady : (xs : List Item) → IsSteady (myanmar.myanmar_syllable xs)
myanmar_steady xs = by_first (slice_get xs 0)
  where
    by_kind : (t : Bool) → IsSteady (if t then myanmar.myanmar_reordered xs else eventless_arrangement xs)
    by_kind true =
        let placed = myanmar.items_with_positions xs in
        let sorted = and_arranged placed auxiliary_order in
        then_steady sorted myanmar.matras_reversed (then_steady placed auxiliary_order tt (sorted_steady placed.items)) (matras_steady sorted.items)
    by_kind false = tt

    by_first : (a : Option Item) → IsSteady (myanmar.myanmar_first xs a)
    by_first None = tt
    by_first (Some x) = by_kind (is_reordered MYANMAR_SHAPER (bit_and x.syllable 15))

-- ---- the universal shaper

abbrev LeftStep : universal.Step → Type 0
LeftStep s = IsSteady s.rewritten

reph_steady : (xs : List Item) → IsSteady (universal.reph_moved xs)
reph_steady xs = by_test (universal.begins_with_reph xs)
  where
    by_test : (t : Bool) → IsSteady (if t then within 0 (universal.reph_end xs) (first_to_back 1) xs else eventless_arrangement xs)
    by_test true = front_steady 1 0 (universal.reph_end xs) xs
    by_test false = tt

left_steady : (i after_halant : ℕ) (xs : List Item) → LeftStep (universal.left_vowel_step_at i after_halant xs)
left_steady i after_halant xs = by_item (slice_get xs i)
  where
    moves : (t : Bool) → LeftStep (if t then record { rewritten = within after_halant (i + 1) (first_to_back (i - after_halant)) xs; after_halant = after_halant } else record { rewritten = eventless_arrangement xs; after_halant = after_halant })
    moves true = front_steady (i - after_halant) after_halant (i + 1) xs
    moves false = tt

    met : (x : Item) (t : Bool)
        → LeftStep (if t then record { rewritten = eventless_arrangement xs; after_halant = i + 1 } else if universal.is_left x && nat_lt after_halant i then record { rewritten = within after_halant (i + 1) (first_to_back (i - after_halant)) xs; after_halant = after_halant } else record { rewritten = eventless_arrangement xs; after_halant = after_halant })
    met x true = tt
    met x false = moves (universal.is_left x && nat_lt after_halant i)

    by_item : (a : Option Item) → LeftStep (universal.left_vowel_step i after_halant xs a)
    by_item None = tt
    by_item (Some x) = met x (universal.is_halant x)

left_walk_steady : (n i after_halant : ℕ) (xs : List Item) → IsSteady (universal.left_walk n i after_halant xs)
left_walk_steady zero i after_halant xs = tt
left_walk_steady (suc n) i after_halant xs =
    let s = universal.left_vowel_step_at i after_halant xs in
    then_steady s.rewritten (universal.left_walk n (i + 1) s.after_halant) (left_steady i after_halant xs) (left_walk_steady n (i + 1) s.after_halant s.rewritten.items)

universal_steady : (xs : List Item) → IsSteady (universal.universal_syllable xs)
universal_steady xs = by_first (slice_get xs 0)
  where
    by_kind : (t : Bool) → IsSteady (if t then universal.universal_reordered xs else eventless_arrangement xs)
    by_kind true = then_steady (universal.reph_moved xs) (universal.left_walk (length xs) 0 0) (reph_steady xs) (left_walk_steady (length xs) 0 0 (universal.reph_moved xs).items)
    by_kind false = tt

    by_first : (a : Option Item) → IsSteady (universal.universal_first xs a)
    by_first None = tt
    by_first (Some x) = by_kind (is_reordered UNIVERSAL_SHAPER (bit_and x.syllable 15))

-- ---- all

-- circles, and then an order of each syllable
order_kept : (circles : Option CircleRule) (rule : List Item → Arrangement) → ((ys : List Item) → IsSteady (rule ys)) → ((ys : List Item) → IsPermuted ys (rule ys)) → KeepsPlainly (then_syllables (circles_by circles) rule)
order_kept circles rule p q = then_plainly (circles_by circles) (syllables_by rule) (circles_keep_plainly circles) (syllables_plainly rule p q)

initially_kept : (font : FaceParts) (flags : BufferFlags) (forms : Forms) (virama : Option ℕ) (mode : RephMode) (masks : IndicMasks) → KeepsPlainly (initial_stage font flags forms virama mode masks)
initially_kept font flags forms virama mode masks =
    then_plainly (consonants_updated forms virama) (circles_order font flags (initial_syllable mode masks forms)) (consonants_keep_plainly forms virama)
    (order_kept (indic_circles font flags) (initial_syllable mode masks forms) (initial_steady mode masks forms) (initial_syllable_permutes mode masks forms))

pub orders_keep_plainly : OrdersKeepPlainly
orders_keep_plainly = record {
  indic_initial = λ m s font flags. initially_kept font flags (font_forms (indic_config s).zero_context m font) (virama_glyph (indic_config s).virama font) (indic_config s).reph_mode (indic_masks (indic_config s).blwf_mode m);
  indic_final = λ m s. final_keeps_plainly (indic_config s).reph_pos (indic_masks (indic_config s).blwf_mode m);
  khmer = λ font flags masks. order_kept (khmer_circles font flags) (khmer.khmer_syllable masks) (khmer_steady masks) (khmer_permutes masks);
  myanmar = λ font flags. order_kept (myanmar_circles font flags) myanmar.myanmar_syllable myanmar_steady myanmar_permutes;
  universal = λ font flags. order_kept (universal_circles font flags) universal.universal_syllable universal_steady universal_permutes;
}

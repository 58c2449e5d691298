-- Syllables that take their forms, one after another.
use Rattle.std.proofs.Common.{ℕ, zero, suc, ◌≡◌, ◌≤◌, ◌<◌, ◌+◌, ◌-◌, ◌/◌, ◌%◌, ◌==◌, Bool, true, false, if◌then◌else◌, List, [], ◌∷◌, ◌++◌, length, map, take, drop, refl, sym, ap, subst, ◌∙◌, arith}
use Rattle.std.specs.Prelude.{bit_and, slice_range}
use Rattle.std.specs.Int.RustNames.{bit_or}
use Rattle.std.specs.Int.Bits.{and_zero_r}
use Rattle.std.proofs.lemmas.Nat.{and_mask, and_shr, and_mod, and_le_l}
use Rattle.std.proofs.lemmas.List.{append-nil, length-map, drop_all}
use Rattle.buffer_glyphs.specs.declared.info.hb_glyph_info_t.{hb_glyph_info_t}
use Rattle.buffer_glyphs.specs.Items.{Item, item_of, strip, without_flags}
use Rattle.buffer_glyphs.specs.Origins.{origin_of, origins}
use Rattle.buffer_core.specs.Readings.{View, always}
use Rattle.buffer_lists.specs.Runs.{run_length}
use Rattle.buffer_core.specs.Sides.{Sides, all_glyphs, items_of, view_of}
use Rattle.buffer_core.specs.Lending.{with_refilled}
use Rattle.buffer_stages.specs.Ready.{IsReady}
use Rattle.buffer_stages.specs.Stages.{Happens, IsFollowed}
use Rattle.buffer_stages.specs.Lemmas.Written.{happened_followed}
use Rattle.buffer_glyphs.specs.Rewriting.{eventless_arrangement}
use Rattle.buffer_stages.specs.Rewriting.{in_syllables, runs_with_first, runs_of}
use Rattle.buffer_stages.specs.SyllableBuffers.{IsRewritten, with_rule}
use Rattle.buffer_stages.specs.Lemmas.Parts.{part_written, range_size, without_again, flags_again}
use Rattle.buffer_stages.specs.Lemmas.Rewritings.{items_after, rewritten_beside, rewritten_count, rewritten_nothing, rewritten_same, counted}
use Rattle.buffer_stages.proofs.Lemmas.Syllables.{syllable_end, syllables_cut}
use Rattle.script_syllabic.specs.declared.forms.FormMasks.{FormMasks}
use Rattle.script_syllabic.specs.Features.{all_forms, each_formed, first_connects, form_bits, form_of, syllable_with_form, connects, topography, topography_events, with_form}
use Rattle.script_syllabic.specs.Formed.{glyph_with_form}
use Rattle.buffer_glyphs.specs.Lemmas.Origins.{slice_seen as range_seen}
use Rattle.buffer_stages.specs.Lemmas.Fronted.{part_of as middle}
use Rattle.buffer_core.proofs.Masked.{high_cleared, without_flags_is}
use Rattle.buffer_facts.proofs.Bits.{three_bits_stay as flags_stay}

-- ---- one mask

no_flags_in : (a : ℕ) → (a - bit_and a 0x8000_0007) % 8 ≡ 0
no_flags_in a =
    let low = and_mod a 0x8000_0007 3 in
    let seven = and_mask (a % 8) 3 in
    let most = and_le_l a 0x8000_0007 in
    omega (arith, low, seven, most)

-- bits are cleared above the flags as without them
cleared_above : (m under : ℕ) → under % 8 ≡ 0 → without_flags (m - bit_and m under) ≡ without_flags m - bit_and (without_flags m) under
cleared_above m under none =
    let a = without_flags_is (m - bit_and m under) in
    let b = high_cleared m under in
    let n = without_flags m in
    let is = without_flags_is m in
    let same : n / 8 ≡ m / 8 = omega (arith, is) in
    let low : n % 8 ≡ 0 = omega (arith, is) in
    let c = and_shr n under 3 in
    let d = and_mod n under 3 in
    let e : bit_and (n / 8) (under / 8) ≡ bit_and (m / 8) (under / 8) = ap (λ k. bit_and k (under / 8)) same in
    let f : bit_and (n % 8) (under % 8) ≡ 0 = ap (bit_and (n % 8)) none ∙ and_zero_r (n % 8) in
    let some = and_le_l (m / 8) (under / 8) in
    omega (arith, a, b, is, c, d, e, f, some)

item_formed : (masks : FormMasks) (form : ℕ) (g : hb_glyph_info_t) → item_of (glyph_with_form (form_bits masks) form g) ≡ with_form masks form (item_of g)
item_formed masks form g =
    let none = no_flags_in (all_forms masks) in
    ap (λ m. record (item_of g) { mask = m }) (without_again (g.mask - bit_and g.mask (form_bits masks)) form ∙ ap (λ m. bit_or m (without_flags form)) (cleared_above g.mask (form_bits masks) none))

origin_formed : (masks : FormMasks) (form : ℕ) (g : hb_glyph_info_t) → origin_of (glyph_with_form (form_bits masks) form g) ≡ origin_of g
origin_formed masks form g =
    let none = no_flags_in (all_forms masks) in
    ap (λ f. record (origin_of g) { flags = f }) (flags_again (g.mask - bit_and g.mask (form_bits masks)) form ∙ flags_stay g.mask (form_bits masks) none)

items_formed : (masks : FormMasks) (form : ℕ) (gs : List hb_glyph_info_t) → strip (map (glyph_with_form (form_bits masks) form) gs) ≡ map (with_form masks form) (strip gs)
items_formed masks form [] = refl
items_formed masks form (g ∷ gs) = rw (item_formed masks form g, items_formed masks form gs) refl

origins_formed : (masks : FormMasks) (form : ℕ) (gs : List hb_glyph_info_t) → origins (map (glyph_with_form (form_bits masks) form) gs) ≡ origins gs
origins_formed masks form [] = refl
origins_formed masks form (g ∷ gs) = rw (origin_formed masks form g, origins_formed masks form gs) refl

pub form_rewrites : (masks : FormMasks) (form from to bits : ℕ) (gs : List hb_glyph_info_t) (a : Sides) → IsReady a → from ≤ to → to ≤ length (all_glyphs a) → bits ≡ form_bits masks
    → gs ≡ take from (all_glyphs a) ++ map (glyph_with_form bits form) (slice_range (all_glyphs a) from to) ++ drop to (all_glyphs a)
    → IsRewritten (eventless_arrangement (map (with_form masks form) (slice_range (items_of a) from to))) from to a (with_refilled gs a)
form_rewrites masks form from to bits gs a ready le fits b e =
    let range = slice_range (all_glyphs a) from to in
    let f : gs ≡ take from (all_glyphs a) ++ map (glyph_with_form (form_bits masks) form) range ++ drop to (all_glyphs a) = e ∙ ap (λ n. take from (all_glyphs a) ++ map (glyph_with_form n form) range ++ drop to (all_glyphs a)) b in
    part_written from to (map (with_form masks form) (slice_range (items_of a) from to)) (map (glyph_with_form (form_bits masks) form) range) gs a ready le fits f
    (items_formed masks form range ∙ ap (map (with_form masks form)) (range_seen item_of from to (all_glyphs a))) (origins_formed masks form range)

-- ---- one syllable

connects_front : (k : ℕ) (xs : List Item) → 0 < k → connects (take k xs) ≡ connects xs
connects_front zero xs lt = absurd (omega (arith, lt))
connects_front (suc k) [] lt = refl
connects_front (suc k) (x ∷ xs) lt = refl

-- the syllable from an index on connects where the first item there does
pub connects_there : (start end : ℕ) (xs : List Item) → start < end → connects (slice_range xs start end) ≡ connects (drop start xs)
connects_there start end xs lt = connects_front (end - start) (drop start xs) (omega (arith, lt))

first_of_syllables : (xs : List Item) → first_connects (in_syllables xs) ≡ connects xs
first_of_syllables [] = refl
first_of_syllables (x ∷ xs) = by_runs (runs_of (λ (y : Item). y.syllable) xs)
  where
    by_runs : (runs : List (List Item)) → first_connects (runs_with_first (λ (y : Item). y.syllable) x runs) ≡ connects (x ∷ xs)
    by_runs [] = refl
    by_runs ([] ∷ runs) = refl
    by_runs ((y ∷ ys) ∷ runs) = elim (y.syllable == x.syllable) as (λ t. first_connects (if t then (x ∷ y ∷ ys) ∷ runs else (x ∷ []) ∷ (y ∷ ys) ∷ runs) ≡ connects (x ∷ xs)) [ true ↦ refl | false ↦ refl ]

abbrev formed_if : FormMasks → Bool → List Item → Bool → Bool → List Item
formed_if masks before s behind t = if t then map (with_form masks (form_of masks before behind)) s else s

formed_size : (masks : FormMasks) (before behind : Bool) (s : List Item) → length (syllable_with_form masks before s behind) ≡ length s
formed_size masks before behind s = by_test (connects s)
  where
    by_test : (t : Bool) → length (formed_if masks before s behind t) ≡ length s
    by_test true = length-map s (with_form masks (form_of masks before behind))
    by_test false = refl

-- a syllable that does not join stays
pub left_as_it_is : (masks : FormMasks) (start end : ℕ) (before behind : Bool) (a : Sides) → start < end → IsReady a → connects (drop start (items_of a)) ≡ false
    → IsRewritten (eventless_arrangement (syllable_with_form masks before (slice_range (items_of a) start end) behind)) start end a a
left_as_it_is masks start end before behind a lt ready e =
    let s = slice_range (items_of a) start end in
    let none : connects s ≡ false = connects_there start end (items_of a) lt ∙ e in
    subst (λ ys. IsRewritten (eventless_arrangement ys) start end a a) (sym (ap (formed_if masks before s behind) none)) (rewritten_same start end a (omega (arith, lt)) ready)

pub gets_form : (masks : FormMasks) (start end form : ℕ) (before joined : Bool) (a b : Sides) → start < end → connects (drop start (items_of a)) ≡ true → joined ≡ connects (drop end (items_of a)) → form ≡ form_of masks before joined
    → IsRewritten (eventless_arrangement (map (with_form masks form) (slice_range (items_of a) start end))) start end a b
    → IsRewritten (eventless_arrangement (syllable_with_form masks before (slice_range (items_of a) start end) (connects (drop end (items_of a))))) start end a b
gets_form masks start end form before joined a b lt e j f h =
    let s = slice_range (items_of a) start end in
    let yes : connects s ≡ true = connects_there start end (items_of a) lt ∙ e in
    let P : ℕ → Type 0 = λ n. IsRewritten (eventless_arrangement (map (with_form masks n) s)) start end a b in
    let Q : Bool → Type 0 = λ t. IsRewritten (eventless_arrangement (map (with_form masks (form_of masks before t)) s)) start end a b in
    subst (λ ys. IsRewritten (eventless_arrangement ys) start end a b) (sym (ap (formed_if masks before s (connects (drop end (items_of a)))) yes)) (subst Q j (subst P f h))

-- ---- the walk

-- the syllables before an index have their forms: whatever the others become, all become
pub record IsForming (masks : FormMasks) (start : ℕ) (before : Bool) (old now : Sides) : Type 0 where
  pub ready : IsReady now
  pub count : length (all_glyphs now) ≡ length (all_glyphs old)
  pub does : (new : Sides) → IsRewritten (eventless_arrangement (each_formed masks before (in_syllables (drop start (items_of now))))) start (length (all_glyphs old)) now new
      → IsRewritten (eventless_arrangement (each_formed masks false (in_syllables (items_of old)))) 0 (length (all_glyphs old)) old new

next_formed : (masks : FormMasks) (before : Bool) (start end : ℕ) (s : Sides) → start < length (all_glyphs s) → end ≡ start + run_length (λ (g : hb_glyph_info_t). g.syllable) (drop start (all_glyphs s))
    → each_formed masks before (in_syllables (drop start (items_of s)))
    ≡ syllable_with_form masks before (slice_range (items_of s) start end) (connects (drop end (items_of s))) ++ each_formed masks (connects (drop start (items_of s))) (in_syllables (drop end (items_of s)))
next_formed masks before start end s lt e =
    let part = slice_range (items_of s) start end in
    let w = syllable_end start end s lt e in
    ap (each_formed masks before) (syllables_cut start end s lt e)
    ∙ ap (λ t. syllable_with_form masks before part t ++ each_formed masks (connects part) (in_syllables (drop end (items_of s)))) (first_of_syllables (drop end (items_of s)))
    ∙ ap (λ t. syllable_with_form masks before part (connects (drop end (items_of s))) ++ each_formed masks t (in_syllables (drop end (items_of s)))) (connects_there start end (items_of s) w.0)

pub formed_on : (masks : FormMasks) (before : Bool) (start end : ℕ) (old now next : Sides) (joined : Bool) → IsForming masks start before old now → start < length (all_glyphs now)
    → end ≡ start + run_length (λ (g : hb_glyph_info_t). g.syllable) (drop start (all_glyphs now))
    → IsRewritten (eventless_arrangement (syllable_with_form masks before (slice_range (items_of now) start end) (connects (drop end (items_of now))))) start end now next → joined ≡ connects (drop start (items_of now)) → IsForming masks end joined old next
formed_on masks before start end old now next joined u lt e f j =
    let w = syllable_end start end now lt e in
    let part = slice_range (items_of now) start end in
    let behind = connects (drop end (items_of now)) in
    let r = eventless_arrangement (syllable_with_form masks before part behind) in
    let n = counted now in
    let inside : end ≤ length (items_of now) = omega (arith, n, w.1) in
    let le : start ≤ end = omega (arith, w.0) in
    let size : length r.items ≡ end - start = formed_size masks before behind part ∙ range_size start end (items_of now) le inside in
    let same : drop end (items_of next) ≡ drop end (items_of now) = ap (drop end) (items_after r start end now next f) ∙ (middle start end (items_of now) r.items le inside size).1 in
    let whole = length (all_glyphs old) in
    let count = u.count in
    record {
      ready = f.ready;
      count = rewritten_count r start end now next le inside size f ∙ u.count;
      does = λ new g.
          let P : List Item → Type 0 = λ ys. IsRewritten (eventless_arrangement (each_formed masks joined (in_syllables ys))) end whole next new in
          let Q : Bool → Type 0 = λ t. IsRewritten (eventless_arrangement (each_formed masks t (in_syllables (drop end (items_of now))))) end whole next new in
          let R : List Item → Type 0 = λ ys. IsRewritten (eventless_arrangement ys) start whole now new in
          u.does new (subst R (sym (next_formed masks before start end now lt e)) (rewritten_beside r (eventless_arrangement (each_formed masks (connects (drop start (items_of now))) (in_syllables (drop end (items_of now))))) start end whole now next new le inside size (omega (arith, count, w.1)) f (subst Q j (subst P same g))));
    }

-- the seams were flagged first
pub all_formed : (masks : FormMasks) (before : Bool) (start : ℕ) (first old now : Sides) → Happens (topography_events masks (in_syllables (items_of first))) first old → IsForming masks start before old now → length (all_glyphs old) ≤ start
    → IsFollowed (always (with_rule (topography masks))) first now
all_formed masks before start first old now h u le =
    let n = counted now in
    let count = u.count in
    let past : length (items_of now) ≤ start = omega (arith, n, count, le) in
    let whole = length (all_glyphs old) in
    let formed : List Item → List Item = λ xs. each_formed masks false (in_syllables xs) in
    let P : List Item → Type 0 = λ ys. IsRewritten (eventless_arrangement (each_formed masks before (in_syllables ys))) start whole now now in
    let f = u.does now (subst P (sym (drop_all start (items_of now) past)) (rewritten_nothing start whole now u.ready past (omega (arith, n, count)))) in
    let items : formed (items_of old) ++ drop whole (items_of old) ≡ formed (items_of old) = ap (λ xs. formed (items_of old) ++ xs) (drop_all whole (items_of old) (omega (arith, counted old))) ∙ append-nil (formed (items_of old)) in
    happened_followed (topography_events masks (in_syllables (items_of first))) (record (view_of first) { items = formed (items_of first) }) (always (with_rule (topography masks))) first now
    (f.view ∙ ap (λ xs. record (view_of old) { items = xs }) items ∙ ap (λ (v : View). record v { items = formed v.items }) h.view)
    (f.origins ∙ h.origins) (f.settings ∙ h.settings) f.ready refl

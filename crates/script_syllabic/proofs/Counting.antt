-- The glyphs that syllables count.
use Rattle.std.proofs.Common.{ℕ, zero, suc, ◌≡◌, ◌<◌, ◌≤◌, ◌+◌, Bool, true, false, if◌then◌else◌, List, [], ◌∷◌, ◌++◌, length, drop, get_or, arith, append_assoc, refl, sym, ap, subst, ◌∙◌}
use Rattle.std.specs.Prelude.{Result, Ok, Err, OnOk, IfErr, ◌≢◌}
use Rattle.std.proofs.lemmas.List.{drop_all, append-nil, length-map}
use Rattle.buffer_glyphs.specs.declared.info.hb_glyph_info_t.{hb_glyph_info_t}
use Rattle.buffer_glyphs.specs.Items.{Item, item_of, strip}
use Rattle.buffer_glyphs.specs.declared.cause.ShapeCause.{ShapeCause}
use Rattle.buffer_glyphs.specs.declared.cause.ShapeCause.TheVariants.{OutOfMemory}
use Rattle.buffer_core.specs.Readings.{Reading, Follows}
use Rattle.buffer_core.specs.Sides.{Sides, all_glyphs, state_of, view_of}
use Rattle.buffer_stages.specs.Stages.{IsFollowed}
use Rattle.script_categories.specs.declared.shaper.hb_ot_script_shaper_t.{hb_ot_script_shaper_t}
use Rattle.script_categories.specs.declared.shaper.hb_ot_script_shaper_t.TheVariants.{UNIVERSAL_SHAPER}
use Rattle.buffer_stages.specs.Cuts.{syllables}
use Rattle.script_syllabic.specs.Bytes.{bytes_of}
use Rattle.script_syllabic.specs.Spans.{categories_counted, if_counted, is_counted, index_or_end, counted_indices_from, universal_set}

-- ---- counting

-- what was counted before an index, and what is left
pub record AreCounted (i : ℕ) (gs : List hb_glyph_info_t) (cs ps : List ℕ) : Type 0 where
  pub categories : cs ++ categories_counted (strip (drop i gs)) ≡ categories_counted (strip gs)
  pub indices : ps ++ counted_indices_from i (strip (drop i gs)) ≡ counted_indices_from 0 (strip gs)

pub none_counted : (gs : List hb_glyph_info_t) → AreCounted 0 gs [] []
none_counted gs = record { categories = refl; indices = refl }

pub all_counted : (i : ℕ) (gs : List hb_glyph_info_t) (cs ps : List ℕ) → length gs ≤ i → AreCounted i gs cs ps → (cs ≡ categories_counted (strip gs)) × (ps ≡ counted_indices_from 0 (strip gs))
all_counted i gs cs ps le c =
    let none = drop_all i gs le in (
      sym (ap (λ ys. cs ++ categories_counted (strip ys)) none ∙ append-nil cs) ∙ c.categories,
      sym (ap (λ ys. ps ++ counted_indices_from i (strip ys)) none ∙ append-nil ps) ∙ c.indices,
    )

-- ---- indices

-- the index of an item, counted or not, or the list's end
abbrev index_if : Bool → ℕ → List Item → ℕ → ℕ → ℕ
index_if t at xs end i = index_or_end ((if t then at ∷ [] else []) ++ counted_indices_from (at + 1) xs) end i

further : (at n : ℕ) → at + suc n ≡ at + 1 + n
further at n = omega arith

pub place_most : (at : ℕ) (xs : List Item) (i : ℕ) → index_or_end (counted_indices_from at xs) (at + length xs) i ≤ at + length xs
place_most at [] i = omega arith
place_most at (x ∷ xs) i = subst (λ end. index_or_end (counted_indices_from at (x ∷ xs)) end i ≤ end) (sym (further at (length xs))) (by_test (place_most (at + 1) xs) (is_counted x xs) i)
  where
    by_test : ((j : ℕ) → index_or_end (counted_indices_from (at + 1) xs) (at + 1 + length xs) j ≤ at + 1 + length xs) → (t : Bool) (i : ℕ) → index_if t at xs (at + 1 + length xs) i ≤ at + 1 + length xs
    by_test later true zero = omega arith
    by_test later true (suc i) = later i
    by_test later false i = later i

place_least : (at : ℕ) (xs : List Item) (i : ℕ) → at ≤ index_or_end (counted_indices_from at xs) (at + length xs) i
place_least at [] i = omega arith
place_least at (x ∷ xs) i = subst (λ end. at ≤ index_or_end (counted_indices_from at (x ∷ xs)) end i) (sym (further at (length xs))) (by_test (place_least (at + 1) xs) (is_counted x xs) i)
  where
    by_test : ((j : ℕ) → at + 1 ≤ index_or_end (counted_indices_from (at + 1) xs) (at + 1 + length xs) j) → (t : Bool) (i : ℕ) → at ≤ index_if t at xs (at + 1 + length xs) i
    by_test later true zero = omega arith
    by_test later true (suc i) = (let le = later i in omega (arith, le))
    by_test later false i = (let le = later i in omega (arith, le))

pub indices_rise : (at : ℕ) (xs : List Item) (i j : ℕ) → i ≤ j → index_or_end (counted_indices_from at xs) (at + length xs) i ≤ index_or_end (counted_indices_from at xs) (at + length xs) j
indices_rise at [] i j le = omega arith
indices_rise at (x ∷ xs) i j le =
    subst (λ end. index_or_end (counted_indices_from at (x ∷ xs)) end i ≤ index_or_end (counted_indices_from at (x ∷ xs)) end j) (sym (further at (length xs))) (by_test (indices_rise (at + 1) xs) (place_least (at + 1) xs) (is_counted x xs) i j le)
  where
    by_test : ((k l : ℕ) → k ≤ l → index_or_end (counted_indices_from (at + 1) xs) (at + 1 + length xs) k ≤ index_or_end (counted_indices_from (at + 1) xs) (at + 1 + length xs) l) → ((k : ℕ) → at + 1 ≤ index_or_end (counted_indices_from (at + 1) xs) (at + 1 + length xs) k)
        → (t : Bool) (i j : ℕ) → i ≤ j → index_if t at xs (at + 1 + length xs) i ≤ index_if t at xs (at + 1 + length xs) j
    by_test later least true zero zero le = omega arith
    by_test later least true zero (suc j) le = (let low = least j in omega (arith, low))
    by_test later least true (suc i) zero le = absurd (omega (arith, le))
    by_test later least true (suc i) (suc j) le = later i j (omega (arith, le))
    by_test later least false i j le = later i j le

-- ---- the walk over what was counted

pub rises : (gs : List hb_glyph_info_t) (ps : List ℕ) (end : ℕ) → ps ≡ counted_indices_from 0 (strip gs) → end ≡ length gs → (i j : ℕ) → i ≤ j → index_or_end ps end i ≤ index_or_end ps end j
rises gs ps end e f i j le =
    let xs = strip gs in
    let P : List ℕ → ℕ → Type 0 = λ qs n. index_or_end qs n i ≤ index_or_end qs n j in
    let n : end ≡ 0 + length xs = omega (arith, f, length-map gs item_of) in
    subst (λ qs. P qs end) (sym e) (subst (P (counted_indices_from 0 xs)) (sym n) (indices_rise 0 xs i j le))

pub ends_within : (gs : List hb_glyph_info_t) (ps : List ℕ) (end i : ℕ) (s : Sides) → gs ≡ all_glyphs s → ps ≡ counted_indices_from 0 (strip gs) → end ≡ length gs → index_or_end ps end i ≤ length (all_glyphs s)
ends_within gs ps end i s same e f =
    let xs = strip gs in
    let P : List ℕ → ℕ → Type 0 = λ qs m. index_or_end qs m i ≤ length xs in
    let n : end ≡ 0 + length xs = omega (arith, f, length-map gs item_of) in
    let most : index_or_end (counted_indices_from 0 xs) (0 + length xs) i ≤ 0 + length xs = place_most 0 xs i in
    let all : index_or_end (counted_indices_from 0 xs) (0 + length xs) i ≤ length xs = omega (arith, most) in
    let here : index_or_end ps end i ≤ length xs = subst (λ qs. P qs end) (sym e) (subst (P (counted_indices_from 0 xs)) (sym n) all) in
    omega (arith, here, length-map gs item_of, ap (λ (hs : List hb_glyph_info_t). length hs) same)

-- ---- what the bytes are set by

stage_is : (span_of : hb_ot_script_shaper_t → List ℕ → ℕ → ℕ × ℕ) (cs ps : List ℕ) (end : ℕ) (gs : List hb_glyph_info_t) (s : Sides) → gs ≡ all_glyphs s → cs ≡ categories_counted (strip gs) → ps ≡ counted_indices_from 0 (strip gs) → end ≡ length gs
    → bytes_of UNIVERSAL_SHAPER (index_or_end ps end) (syllables (span_of UNIVERSAL_SHAPER cs) (length cs)) (view_of s) ≡ universal_set span_of (view_of s)
stage_is span_of cs ps end gs s same c p e =
    let n : end ≡ length (strip gs) = e ∙ sym (length-map gs item_of) in
    let shaper = UNIVERSAL_SHAPER in
    let Q : List ℕ → List ℕ → ℕ → Reading = λ ds qs m. bytes_of shaper (index_or_end qs m) (syllables (span_of shaper ds) (length ds)) (view_of s) in
    ap (λ ds. Q ds ps end) c ∙ ap (λ qs. Q (categories_counted (strip gs)) qs end) p ∙ ap (λ m. Q (categories_counted (strip gs)) (counted_indices_from 0 (strip gs)) m) n
    ∙ ap (λ hs. Q (categories_counted (strip hs)) (counted_indices_from 0 (strip hs)) (length (strip hs))) same

pub found : (span_of : hb_ot_script_shaper_t → List ℕ → ℕ → ℕ × ℕ) (cs ps : List ℕ) (end : ℕ) (gs : List hb_glyph_info_t) (old new : Sides) (r : Result (Unit {0}) ShapeCause) → gs ≡ all_glyphs old → cs ≡ categories_counted (strip gs) → ps ≡ counted_indices_from 0 (strip gs) → end ≡ length gs
    → OnOk r (IsFollowed (bytes_of UNIVERSAL_SHAPER (index_or_end ps end) (syllables (span_of UNIVERSAL_SHAPER cs) (length cs))) old new) → OnOk r (IsFollowed (universal_set span_of) old new)
found span_of cs ps end gs old new (Err e) same c p n f = tt
found span_of cs ps end gs old new (Ok a) same c p n f = record {
  follows = subst (λ q. Follows q (state_of old) (state_of new)) (stage_is span_of cs ps end gs old same c p n) f.follows;
  settings = f.settings;
  ready = f.ready;
}

pub found_refused : (span_of : hb_ot_script_shaper_t → List ℕ → ℕ → ℕ × ℕ) (cs ps : List ℕ) (end : ℕ) (gs : List hb_glyph_info_t) (old : Sides) (r : Result (Unit {0}) ShapeCause) → gs ≡ all_glyphs old → cs ≡ categories_counted (strip gs) → ps ≡ counted_indices_from 0 (strip gs) → end ≡ length gs
    → IfErr r (λ (c : ShapeCause). bytes_of UNIVERSAL_SHAPER (index_or_end ps end) (syllables (span_of UNIVERSAL_SHAPER cs) (length cs)) (view_of old) ≡ Err c) → IfErr r (λ (c : ShapeCause). c ≢ OutOfMemory → universal_set span_of (view_of old) ≡ Err c)
found_refused span_of cs ps end gs old (Ok a) same c p n f = tt
found_refused span_of cs ps end gs old (Err e) same c p n f = λ other. sym (stage_is span_of cs ps end gs old same c p n) ∙ f

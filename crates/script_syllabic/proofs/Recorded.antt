-- The first glyph of a syllable that a substitution put there.
use Rattle.std.proofs.Common.{ℕ, zero, suc, ◌≡◌, ◌<◌, ◌≤◌, ◌+◌, Bool, true, false, if◌then◌else◌, List, [], ◌∷◌, ◌++◌, length, take, drop, set, get_or, arith, add-one, refl, sym, ap, ◌∙◌}
use Rattle.std.specs.Prelude.{not, slice_range}
use Rattle.std.proofs.lemmas.List.{drop_all, take_all, append-nil}
use Rattle.buffer_glyphs.specs.declared.info.hb_glyph_info_t.{hb_glyph_info_t}
use Rattle.buffer_glyphs.specs.Items.{Item, item_of, strip}
use Rattle.buffer_glyphs.specs.Origins.{origin_of, origins}
use Rattle.buffer_core.specs.Sides.{Sides, all_glyphs, items_of}
use Rattle.buffer_core.specs.Lending.{with_refilled}
use Rattle.buffer_stages.specs.Ready.{IsReady}
use Rattle.buffer_glyphs.specs.LigatureWords.{is_substituted}
use Rattle.buffer_glyphs.specs.Rewriting.{eventless_arrangement}
use Rattle.buffer_stages.specs.SyllableBuffers.{IsRewritten}
use Rattle.buffer_stages.specs.Lemmas.Parts.{part_written}
use Rattle.script_syllabic.specs.Features.{with_first_recorded, with_category}
use Rattle.script_syllabic.specs.Recorded.{glyph_with_category, glyphs_recorded}
use Rattle.buffer_glyphs.specs.Lemmas.Origins.{slice_seen as range_seen}

abbrev by_tests : (Item → Bool) → ℕ → hb_glyph_info_t → List hb_glyph_info_t → Bool → Bool → List hb_glyph_info_t
by_tests test c g gs s t = if not s then g ∷ gs else if t then glyph_with_category c g ∷ gs else g ∷ glyphs_recorded test c gs

first_is : (test : Item → Bool) (c : ℕ) (g : hb_glyph_info_t) (gs : List hb_glyph_info_t) (s t : Bool) → test (item_of g) ≡ s → is_substituted (item_of g) ≡ t
    → glyphs_recorded test c (g ∷ gs) ≡ by_tests test c g gs s t
first_is test c g gs s t e f = ap (λ b. by_tests test c g gs b (is_substituted (item_of g))) e ∙ ap (by_tests test c g gs s) f

passes : (test : Item → Bool) (c i : ℕ) (ys : List hb_glyph_info_t) (d : hb_glyph_info_t) → i < length ys → test (item_of (get_or ys i d)) ≡ true → is_substituted (item_of (get_or ys i d)) ≡ false
    → take (suc i) ys ++ glyphs_recorded test c (drop (suc i) ys) ≡ take i ys ++ glyphs_recorded test c (drop i ys)
passes test c i [] d lt e f = absurd (omega arith)
passes test c zero (y ∷ ys) d lt e f = sym (first_is test c y ys true false e f)
passes test c (suc i) (y ∷ ys) d lt e f = ap (λ zs. y ∷ zs) (passes test c i ys d (omega arith) e f)

stops : (test : Item → Bool) (c i : ℕ) (ys : List hb_glyph_info_t) (d : hb_glyph_info_t) → i < length ys → test (item_of (get_or ys i d)) ≡ false
    → ys ≡ take i ys ++ glyphs_recorded test c (drop i ys)
stops test c i [] d lt e = absurd (omega arith)
stops test c zero (y ∷ ys) d lt e = sym (first_is test c y ys false (is_substituted (item_of y)) e refl)
stops test c (suc i) (y ∷ ys) d lt e = ap (λ zs. y ∷ zs) (stops test c i ys d (omega arith) e)

finds : (test : Item → Bool) (c i : ℕ) (ys : List hb_glyph_info_t) (d : hb_glyph_info_t) → i < length ys → test (item_of (get_or ys i d)) ≡ true → is_substituted (item_of (get_or ys i d)) ≡ true
    → set ys i (glyph_with_category c (get_or ys i d)) ≡ take i ys ++ glyphs_recorded test c (drop i ys)
finds test c i [] d lt e f = absurd (omega arith)
finds test c zero (y ∷ ys) d lt e f = sym (first_is test c y ys true true e f)
finds test c (suc i) (y ∷ ys) d lt e f = ap (λ zs. y ∷ zs) (finds test c i ys d (omega arith) e f)

-- glyphs of which so many were passed
pub record ArePassed (test : Item → Bool) (c i : ℕ) (hs xs : List hb_glyph_info_t) : Type 0 where
  pub same : xs ≡ hs
  pub rest : take i xs ++ glyphs_recorded test c (drop i xs) ≡ glyphs_recorded test c hs

pub none_passed : (test : Item → Bool) (c : ℕ) (hs : List hb_glyph_info_t) → ArePassed test c 0 hs hs
none_passed test c hs = record { same = refl; rest = refl }

pub goes_on : (test : Item → Bool) (c i : ℕ) (hs xs : List hb_glyph_info_t) (d : hb_glyph_info_t) → i < length xs → test (item_of (get_or xs i d)) ≡ true → is_substituted (item_of (get_or xs i d)) ≡ false
    → ArePassed test c i hs xs → ArePassed test c (i + 1) hs xs
goes_on test c i hs xs d lt e f p = record { same = p.same; rest = rw add-one (passes test c i xs d lt e f) ∙ p.rest }

pub is_over : (test : Item → Bool) (c i : ℕ) (hs xs : List hb_glyph_info_t) (d : hb_glyph_info_t) → i < length xs → test (item_of (get_or xs i d)) ≡ false → ArePassed test c i hs xs → xs ≡ glyphs_recorded test c hs
is_over test c i hs xs d lt e p = stops test c i xs d lt e ∙ p.rest

pub is_found : (test : Item → Bool) (c i : ℕ) (hs xs : List hb_glyph_info_t) (d : hb_glyph_info_t) → i < length xs → test (item_of (get_or xs i d)) ≡ true → is_substituted (item_of (get_or xs i d)) ≡ true
    → ArePassed test c i hs xs → set xs i (glyph_with_category c (get_or xs i d)) ≡ glyphs_recorded test c hs
is_found test c i hs xs d lt e f p = finds test c i xs d lt e f ∙ p.rest

pub all_passed : (test : Item → Bool) (c i : ℕ) (hs xs : List hb_glyph_info_t) → length xs ≤ i → ArePassed test c i hs xs → xs ≡ glyphs_recorded test c hs
all_passed test c i hs xs le p = sym (ap (λ ys. take i xs ++ glyphs_recorded test c ys) (drop_all i xs le) ∙ append-nil (take i xs) ∙ take_all i xs le) ∙ p.rest

-- ---- what is seen of them

items_recorded : (test : Item → Bool) (c : ℕ) (gs : List hb_glyph_info_t) → strip (glyphs_recorded test c gs) ≡ with_first_recorded test c (strip gs)
items_recorded test c [] = refl
items_recorded test c (g ∷ gs) =
    elim (test (item_of g)) as (λ s. strip (if not s then g ∷ gs else if is_substituted (item_of g) then glyph_with_category c g ∷ gs else g ∷ glyphs_recorded test c gs)
    ≡ (if not s then item_of g ∷ strip gs else if is_substituted (item_of g) then with_category c (item_of g) ∷ strip gs else item_of g ∷ with_first_recorded test c (strip gs))) [
      | true ↦ elim (is_substituted (item_of g)) as (λ t. strip (if t then glyph_with_category c g ∷ gs else g ∷ glyphs_recorded test c gs) ≡ (if t then with_category c (item_of g) ∷ strip gs else item_of g ∷ with_first_recorded test c (strip gs)))
          [ true ↦ refl | false ↦ ap (λ xs. item_of g ∷ xs) (items_recorded test c gs) ]
      | false ↦ refl
    ]

origins_recorded : (test : Item → Bool) (c : ℕ) (gs : List hb_glyph_info_t) → origins (glyphs_recorded test c gs) ≡ origins gs
origins_recorded test c [] = refl
origins_recorded test c (g ∷ gs) =
    elim (test (item_of g)) as (λ s. origins (if not s then g ∷ gs else if is_substituted (item_of g) then glyph_with_category c g ∷ gs else g ∷ glyphs_recorded test c gs) ≡ origin_of g ∷ origins gs) [
      | true ↦ elim (is_substituted (item_of g)) as (λ t. origins (if t then glyph_with_category c g ∷ gs else g ∷ glyphs_recorded test c gs) ≡ origin_of g ∷ origins gs)
          [ true ↦ refl | false ↦ ap (λ os. origin_of g ∷ os) (origins_recorded test c gs) ]
      | false ↦ refl
    ]

pub recording_rewrites : (test : Item → Bool) (c from to : ℕ) (gs old : List hb_glyph_info_t) (a : Sides) → IsReady a → from ≤ to → to ≤ length (all_glyphs a) → old ≡ all_glyphs a
    → gs ≡ take from old ++ glyphs_recorded test c (slice_range old from to) ++ drop to old
    → IsRewritten (eventless_arrangement (with_first_recorded test c (slice_range (items_of a) from to))) from to a (with_refilled gs a)
recording_rewrites test c from to gs old a ready le fits same e =
    let range = slice_range (all_glyphs a) from to in
    let f : gs ≡ take from (all_glyphs a) ++ glyphs_recorded test c range ++ drop to (all_glyphs a) = e ∙ ap (λ hs. take from hs ++ glyphs_recorded test c (slice_range hs from to) ++ drop to hs) same in
    part_written from to (with_first_recorded test c (slice_range (items_of a) from to)) (glyphs_recorded test c range) gs a ready le fits f
    (items_recorded test c range ∙ ap (with_first_recorded test c) (range_seen item_of from to (all_glyphs a))) (origins_recorded test c range)

-- Glyphs that a lookup is not tried at.
use Rattle.std.proofs.Common.{ℕ, suc, zero, ◌≡◌, ◌≤◌, ◌+◌, ◌&&◌, ◌||◌, Bool, true, false, nat_le, List, [], ◌∷◌, take, refl, sym, ap, ◌∙◌, arith, slice_get, Some, length, drop}
use Rattle.std.specs.List.{list_any}
use Rattle.std.proofs.lemmas.Bool.Decides.{nat_tests}
use Rattle.std.proofs.lemmas.Grind.{common_steps}
use Rattle.std.proofs.lemmas.List.{map-append}
use Rattle.buffer_glyphs.specs.declared.info.hb_glyph_info_t.{hb_glyph_info_t}
use Rattle.buffer_glyphs.specs.Items.{Item, item_of, strip}
use Rattle.buffer_core.specs.Sides.{Sides, after_next_glyphs, items_of}
use Rattle.buffer_stages.specs.Actions.{Action}
use Rattle.buffer_stages.specs.Buffers.{are_glyphs}
use Rattle.buffer_stages.proofs.Lemmas.Glyphs.{all_of_back}
use Rattle.layout_match.specs.Applied.{ApplyContext}
use Rattle.layout_match.specs.Skipping.{PassesAll, PassesAt}
use Rattle.layout_match.specs.Steps.{MeetsGlyph}
use Rattle.layout_match.specs.Trying.{meets, met_first}
use Rattle.layout_match.proofs.Lemmas.Held.{passes_uncovered}
use Rattle.layout_match.proofs.Lemmas.Untouched.{rule_passes, unmet_passes}
use Rattle.buffer_facts.proofs.Truth.{first_false as first_none}

-- the number of a glyph at an index
pub number_at : (gs : List hb_glyph_info_t) (k : ℕ) (g : hb_glyph_info_t) → slice_get gs k ≡ Some g → are_glyphs (strip gs) ≡ true → g.glyph_id ≤ 65535
number_at [] k g at e = cc
number_at (h ∷ gs) zero g at e =
    let same : h ≡ g = cc in
    let here : nat_le h.glyph_id 65535 ≡ true = grind (arith, common_steps, e) in
    rw (← same) (grind (arith, nat_tests, here))
number_at (h ∷ gs) (suc k) g at e = number_at gs k g at (grind (arith, common_steps, e))

pub number_ahead_at : (s : Sides) (k : ℕ) (g : hb_glyph_info_t) → slice_get s.ahead k ≡ Some g → are_glyphs (items_of s) ≡ true → g.glyph_id ≤ 65535
number_ahead_at s k g at e = number_at s.ahead k g at (all_of_back (λ (x : Item). nat_le x.number 65535) (strip s.behind) (strip s.ahead) (ap are_glyphs (sym (map-append item_of s.behind s.ahead)) ∙ e))

-- ---- a test that none of the first so many items passes

pub none_first : (test : Item → Bool) (xs : List Item) → list_any test (take 0 xs) ≡ false
none_first test [] = refl
none_first test (x ∷ xs) = refl

pub or_none : (a b : Bool) → a ≡ false → b ≡ false → (a || b) ≡ false
or_none false false e f = refl
or_none false true e f = cc
or_none true b e f = cc

rest_none : (a b : Bool) → (a || b) ≡ false → b ≡ false
rest_none false b e = e
rest_none true b e = cc

pub none_next : (test : Item → Bool) (gs : List hb_glyph_info_t) (k : ℕ) (g : hb_glyph_info_t) → slice_get gs k ≡ Some g → list_any test (take k (strip gs)) ≡ false → test (item_of g) ≡ false → list_any test (take (k + 1) (strip gs)) ≡ false
none_next test [] k g at none off = cc
none_next test (h ∷ gs) zero g at none off =
    let same : h ≡ g = cc in
    or_none (test (item_of h)) (list_any test (take 0 (strip gs))) (ap (λ i. test (item_of i)) same ∙ off) (none_first test (strip gs))
none_next test (h ∷ gs) (suc k) g at none off =
    let e : suc k + 1 ≡ suc (k + 1) = omega arith in
    let here = first_none (test (item_of h)) (list_any test (take k (strip gs))) none in
    let more = none_next test gs k g at (rest_none (test (item_of h)) (list_any test (take k (strip gs))) none) off in
    ap (λ n. list_any test (take n (strip (h ∷ gs)))) e ∙ or_none (test (item_of h)) (list_any test (take (k + 1) (strip gs))) here more

-- ---- a lookup passes at each glyph that it isn't tried at

-- a lookup passes where it doesn't apply to an item, or its rule passes
idle_at : (a : ApplyContext) (act : Action) (covered : Bool) (x : Item) → (covered ≡ false → PassesAt act x) → (meets a x && covered) ≡ false → PassesAt (met_first a act) x
idle_at a act covered x passes none = by_meeting (meets a x) refl none
  where
    by_meeting : (b : Bool) → meets a x ≡ b → (b && covered) ≡ false → PassesAt (met_first a act) x
    by_meeting true is uncovered = rule_passes a act x (passes uncovered)
    by_meeting false is uncovered = unmet_passes a act x is

pub idle_all : (a : ApplyContext) (act : Action) (covers : ℕ → Bool) (xs : List Item) → ((x : Item) → covers x.number ≡ false → PassesAt act x) → list_any (λ (x : Item). meets a x && covers x.number) xs ≡ false → PassesAll (met_first a act) xs
idle_all a act covers xs passes none = passes_uncovered (met_first a act) (λ x. meets a x && covers x.number) xs none (λ x off. idle_at a act (covers x.number) x (passes x) off)

-- ---- the glyph at which a lookup is tried

-- a lookup applies to the glyph at an index
pub met_at : (a : ApplyContext) (k : ℕ) (g : hb_glyph_info_t) (s : Sides) → slice_get s.ahead k ≡ Some g → meets a (item_of g) ≡ true → MeetsGlyph a k s
met_at a k g s at e h is =
    let same : h ≡ g = cc in
    ap (λ i. meets a (item_of i)) same ∙ e

met_past : (a : ApplyContext) (gs : List hb_glyph_info_t) (k : ℕ) (g : hb_glyph_info_t) → length gs ≤ k → slice_get gs k ≡ Some g → meets a (item_of g) ≡ true
met_past a [] k g past at = cc
met_past a (h ∷ gs) zero g past at = absurd (omega (arith, past))
met_past a (h ∷ gs) (suc k) g past at = met_past a gs k g (omega (arith, past)) at

-- past the last glyph there is none
pub none_there : (a : ApplyContext) (k : ℕ) (s : Sides) → length s.ahead ≤ k → MeetsGlyph a k s
none_there a k s past g at = met_past a s.ahead k g past at

first_left : (gs : List hb_glyph_info_t) (k : ℕ) → slice_get (drop k gs) 0 ≡ slice_get gs k
first_left [] zero = refl
first_left [] (suc k) = refl
first_left (g ∷ gs) zero = refl
first_left (g ∷ gs) (suc k) = first_left gs k

-- once the cursor moved over the glyphs before it, it is at the cursor
pub met_moved : (a : ApplyContext) (k : ℕ) (s new : Sides) → MeetsGlyph a k s → new ≡ after_next_glyphs k s → MeetsGlyph a 0 new
met_moved a k s new meets_it is g at = meets_it g (sym (first_left s.ahead k) ∙ ap (λ (t : Sides). slice_get t.ahead 0) (sym is) ∙ at)

pub met_here : (a : ApplyContext) (k : ℕ) (s : Sides) → k ≡ 0 → MeetsGlyph a k s → MeetsGlyph a 0 s
met_here a k s none meets_it g at = meets_it g (ap (slice_get s.ahead) none ∙ at)

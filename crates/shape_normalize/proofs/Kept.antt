-- Characters that have the font's glyphs and stay whole.
use Rattle.std.proofs.Common.{ℕ, suc, zero, ◌≡◌, ◌≢◌, ◌<◌, ◌≤◌, ◌+◌, ◌==◌, ◌&&◌, ◌||◌, Bool, true, false, List, [], ◌∷◌, ◌++◌, Option, Some, None, length, map, take, drop, refl, sym, ap, ap₂, subst, ◌∙◌, arith, add-one}
use Rattle.std.specs.Prelude.{slice_get, unwrap_or, is_some, not, if◌then◌else◌}
use Rattle.std.specs.List.{list_all, list_any, prefix_len}
use Rattle.std.proofs.lemmas.Bool.{and_parts, cond-true, cond-false}
use Rattle.std.proofs.lemmas.Bool.Decides.{nat_tests}
use Rattle.std.proofs.lemmas.List.{length-map, length-take-le, length-drop, drop_all, drop-drop, drop-map}
use Rattle.std.proofs.lemmas.List.Sums.{prefix_len-le-length}
use Rattle.std.proofs.Math.Seq.{take-add}
use Rattle.buffer_glyphs.specs.declared.info.hb_glyph_info_t.{hb_glyph_info_t}
use Rattle.buffer_glyphs.specs.Items.{Item, item_of, strip}
use Rattle.buffer_glyphs.specs.Rewriting.{beside, eventless_arrangement, in_turn}
use Rattle.buffer_properties.specs.Characters.{is_mark, is_selector}
use Rattle.buffer_properties.specs.Expanding.{expanded_group, expanded_list, item_expansion, with_own_glyph}
use Rattle.buffer_properties.specs.Normalizer.{Normalizer, reach_alone, reach_with_marks}
use Rattle.buffer_properties.specs.declared.normal_mode.Reach.{Reach}
use Rattle.shape_normalize.specs.Fronts.{expansion_after, is_undecomposed, is_whole}
use Rattle.shape_normalize.specs.KeptRuns.{group_reach, is_kept, HasOwn, Keeps}
use Rattle.shape_normalize.proofs.Lemmas.Chain.{beside_assoc, in_turn_both, none_beside}
use Rattle.shape_normalize.proofs.Taken.{groups_list, groups_of, groups_over, one_whole}
use Rattle.buffer_facts.proofs.Truth.{false_by_not as not_true}

-- ---- marks from an index on

marks_suc : (i : ℕ) (g : hb_glyph_info_t) (gs : List hb_glyph_info_t) → slice_get gs i ≡ Some g → prefix_len is_mark (drop i (strip gs)) ≡ (if is_mark (item_of g) then 1 + prefix_len is_mark (drop (suc i) (strip gs)) else 0)
marks_suc i g [] at = absurd (let bad = at in cc)
marks_suc zero g (h ∷ gs) at = let same : h ≡ g = cc in ap (λ (k : hb_glyph_info_t). if is_mark (item_of k) then 1 + prefix_len is_mark (strip gs) else 0) same
marks_suc (suc i) g (h ∷ gs) at = marks_suc i g gs at

marks_step : (i : ℕ) (g : hb_glyph_info_t) (gs : List hb_glyph_info_t) → slice_get gs i ≡ Some g → prefix_len is_mark (drop i (strip gs)) ≡ (if is_mark (item_of g) then 1 + prefix_len is_mark (drop (i + 1) (strip gs)) else 0)
marks_step i g gs at = rw add-one (marks_suc i g gs at)

-- so many marks were counted
pub record IsCounting (from i : ℕ) (gs : List hb_glyph_info_t) : Type 0 where
  pub ordered : from ≤ i
  pub within : i ≤ length gs
  pub marks : prefix_len is_mark (drop from (strip gs)) + from ≡ i + prefix_len is_mark (drop i (strip gs))

pub counting_more : (from i n : ℕ) (g : hb_glyph_info_t) (gs : List hb_glyph_info_t) → n ≡ length gs → i < n → slice_get gs i ≡ Some g → is_mark (item_of g) ≡ true → IsCounting from i gs → IsCounting from (i + 1) gs
counting_more from i n g gs all lt at mark w =
    let step = marks_step i g gs at ∙ cond-true _ _ _ mark in
    let ordered = w.ordered in
    let before = w.marks in
    record { ordered = omega (arith, ordered); within = omega (arith, lt, all); marks = omega (arith, before, step) }

pub counting_stopped : (from i : ℕ) (g : hb_glyph_info_t) (gs : List hb_glyph_info_t) → slice_get gs i ≡ Some g → is_mark (item_of g) ≡ false → IsCounting from i gs → prefix_len is_mark (drop from (strip gs)) + from ≡ i
counting_stopped from i g gs at other w =
    let step = marks_step i g gs at ∙ cond-false _ _ _ other in
    let before = w.marks in
    omega (arith, before, step)

-- ---- so many characters from an index on

kept_suc : (p : Item → Bool) (i from count : ℕ) (g : hb_glyph_info_t) (gs : List hb_glyph_info_t) → i < count → slice_get gs (from + i) ≡ Some g
    → drop i (take count (drop from (strip gs))) ≡ item_of g ∷ drop (suc i) (take count (drop from (strip gs)))
kept_suc p i from count g [] lt at = absurd (let bad = at in cc)
kept_suc p i (suc from) count g (h ∷ gs) lt at = kept_suc p i from count g gs lt (let e : suc from + i ≡ suc (from + i) = omega arith in ap (slice_get (h ∷ gs)) (sym e) ∙ at)
kept_suc p i zero zero g (h ∷ gs) lt at = absurd (omega (arith, lt))
kept_suc p zero zero (suc count) g (h ∷ gs) lt at = let same : h ≡ g = cc in ap (λ (k : hb_glyph_info_t). item_of k ∷ take count (strip gs)) same
kept_suc p (suc i) zero (suc count) g (h ∷ gs) lt at = kept_suc p i zero count g gs (omega (arith, lt)) (let e : 0 + suc i ≡ suc (0 + i) = omega arith in ap (slice_get (h ∷ gs)) (sym e) ∙ at)

kept_step : (p : Item → Bool) (i from count : ℕ) (g : hb_glyph_info_t) (gs : List hb_glyph_info_t) → i < count → slice_get gs (from + i) ≡ Some g
    → list_all p (drop i (take count (drop from (strip gs)))) ≡ (p (item_of g) && list_all p (drop (i + 1) (take count (drop from (strip gs)))))
kept_step p i from count g gs lt at = let one : drop i (take count (drop from (strip gs))) ≡ item_of g ∷ drop (i + 1) (take count (drop from (strip gs))) = rw add-one (kept_suc p i from count g gs lt at) in ap (list_all p) one

pub kept_none : (p : Item → Bool) (i from count : ℕ) (g : hb_glyph_info_t) (gs : List hb_glyph_info_t) → i < count → slice_get gs (from + i) ≡ Some g → p (item_of g) ≡ false
    → list_all p (drop i (take count (drop from (strip gs)))) ≡ list_all p (take count (drop from (strip gs))) → false ≡ list_all p (take count (drop from (strip gs)))
kept_none p i from count g gs lt at not_kept e = sym (ap (λ b. b && list_all p (drop (i + 1) (take count (drop from (strip gs))))) not_kept) ∙ sym (kept_step p i from count g gs lt at) ∙ e

pub kept_here : (p : Item → Bool) (i from count : ℕ) (g : hb_glyph_info_t) (gs : List hb_glyph_info_t) → i < count → slice_get gs (from + i) ≡ Some g → p (item_of g) ≡ true
    → list_all p (drop i (take count (drop from (strip gs)))) ≡ list_all p (take count (drop from (strip gs)))
    → list_all p (drop (i + 1) (take count (drop from (strip gs)))) ≡ list_all p (take count (drop from (strip gs)))
kept_here p i from count g gs lt at kept e = sym (ap (λ b. b && list_all p (drop (i + 1) (take count (drop from (strip gs))))) kept) ∙ sym (kept_step p i from count g gs lt at) ∙ e

pub kept_all : (p : Item → Bool) (i from count : ℕ) (gs : List hb_glyph_info_t) → count ≤ i → from + count ≤ length gs
    → list_all p (drop i (take count (drop from (strip gs)))) ≡ list_all p (take count (drop from (strip gs))) → true ≡ list_all p (take count (drop from (strip gs)))
kept_all p i from count gs le few e =
    let rest = length-drop from (strip gs) in
    let all = length-map gs item_of in
    let len = length-take-le count (drop from (strip gs)) (omega (arith, rest, all, few)) in
    ap (list_all p) (sym (drop_all i (take count (drop from (strip gs))) (omega (arith, len, le)))) ∙ e

-- ---- what stays whole

own_found : (x : Item) (o : Option ℕ) → x.glyph_index ≡ unwrap_or o 0 → (x.glyph_index == 0) ≡ false → is_some o ≡ true
own_found x (Some g) e n = refl
own_found x None e n = absurd (let zeros : (x.glyph_index == 0) ≡ true = ap (λ k. k == 0) e in cc)

kept_pieces : (c : Normalizer) (reach : Reach) (x : Item) → with_own_glyph c x ≡ x → is_kept c reach x ≡ true → (is_whole c reach x ≡ true) × (is_selector x ≡ false)
kept_pieces c reach x own kept =
    let one = and_parts (not (x.glyph_index == 0)) (not (is_selector x) && is_undecomposed reach (c.splits x.number)) kept in
    let two = and_parts (not (is_selector x)) (is_undecomposed reach (c.splits x.number)) one.1 in
    let index : x.glyph_index ≡ unwrap_or (c.glyph_of x.number) 0 = sym (ap (λ (y : Item). y.glyph_index) own) in
    let found = own_found x (c.glyph_of x.number) index (not_true (x.glyph_index == 0) one.0) in
    (ap₂ (λ a b. a && b) found two.1, not_true (is_selector x) two.0)

one_kept : (c : Normalizer) (reach : Reach) (x : Item) → with_own_glyph c x ≡ x → is_kept c reach x ≡ true → item_expansion c reach x ≡ eventless_arrangement (x ∷ [])
one_kept c reach x own kept = one_whole c reach x (kept_pieces c reach x own kept).0 ∙ ap (λ (y : Item). eventless_arrangement (y ∷ [])) own

all_kept : (c : Normalizer) (reach : Reach) (xs : List Item) → HasOwn c xs → list_all (is_kept c reach) xs ≡ true → in_turn (map (item_expansion c reach) xs) ≡ eventless_arrangement xs
all_kept c reach [] own kept = refl
all_kept c reach (x ∷ xs) own kept =
    let both = and_parts (is_kept c reach x) (list_all (is_kept c reach) xs) kept in
    let first : with_own_glyph c x ≡ x = let e : with_own_glyph c x ∷ map (with_own_glyph c) xs ≡ x ∷ xs = own in cc in
    let rest : map (with_own_glyph c) xs ≡ xs = let e : with_own_glyph c x ∷ map (with_own_glyph c) xs ≡ x ∷ xs = own in cc in
    ap₂ beside (one_kept c reach x first both.0) (all_kept c reach xs rest both.1)

no_selector : (c : Normalizer) (reach : Reach) (xs : List Item) → HasOwn c xs → list_all (is_kept c reach) xs ≡ true → list_any is_selector xs ≡ false
no_selector c reach [] own kept = refl
no_selector c reach (x ∷ xs) own kept =
    let both = and_parts (is_kept c reach x) (list_all (is_kept c reach) xs) kept in
    let first : with_own_glyph c x ≡ x = let e : with_own_glyph c x ∷ map (with_own_glyph c) xs ≡ x ∷ xs = own in cc in
    let rest : map (with_own_glyph c) xs ≡ xs = let e : with_own_glyph c x ∷ map (with_own_glyph c) xs ≡ x ∷ xs = own in cc in
    ap₂ (λ a b. a || b) (kept_pieces c reach x first both.0).1 (no_selector c reach xs rest both.1)

group_kept : (c : Normalizer) (x : Item) (marks : List Item) → HasOwn c (x ∷ marks) → list_all (is_kept c (group_reach c (length (x ∷ marks)))) (x ∷ marks) ≡ true
    → in_turn (expanded_group c x marks) ≡ eventless_arrangement (x ∷ marks)
group_kept c x [] own kept = all_kept c (reach_alone c.mode) (x ∷ []) own kept
group_kept c x (m ∷ marks) own kept =
    let many : length (x ∷ m ∷ marks) ≢ 1 = λ e. omega (arith, e) in
    let more : (length (x ∷ m ∷ marks) == 1) ≡ false = grind (arith, nat_tests, many) in
    let reach : group_reach c (length (x ∷ m ∷ marks)) ≡ reach_with_marks c.mode = cond-false _ _ _ more in
    let all : list_all (is_kept c (reach_with_marks c.mode)) (x ∷ m ∷ marks) ≡ true = ap (λ r. list_all (is_kept c r) (x ∷ m ∷ marks)) (sym reach) ∙ kept in
    ap in_turn (cond-false _ _ _ (no_selector c (reach_with_marks c.mode) (x ∷ m ∷ marks) own all)) ∙ all_kept c (reach_with_marks c.mode) (x ∷ m ∷ marks) own all

own_taken : (c : Normalizer) (n : ℕ) (xs : List Item) → HasOwn c xs → HasOwn c (take n xs)
own_taken c zero xs own = refl
own_taken c (suc n) [] own = refl
own_taken c (suc n) (x ∷ xs) own =
    let first : with_own_glyph c x ≡ x = let e : with_own_glyph c x ∷ map (with_own_glyph c) xs ≡ x ∷ xs = own in cc in
    let rest : map (with_own_glyph c) xs ≡ xs = let e : with_own_glyph c x ∷ map (with_own_glyph c) xs ≡ x ∷ xs = own in cc in
    ap₂ (λ y ys. y ∷ ys) first (own_taken c n xs rest)

pub own_dropped : (c : Normalizer) (n : ℕ) (xs : List Item) → HasOwn c xs → HasOwn c (drop n xs)
own_dropped c n xs own = sym (drop-map (with_own_glyph c) n xs) ∙ ap (drop n) own

group_stays : (c : Normalizer) (k n : ℕ) (x : Item) (xs : List Item) → k ≡ prefix_len is_mark xs → n ≡ suc k → list_all (is_kept c (group_reach c n)) (take n (x ∷ xs)) ≡ true → Keeps c n (x ∷ xs)
group_stays c k n x xs count more kept =
    let le = prefix_len-le-length is_mark xs in
    let long : length (x ∷ take k xs) ≡ n = let e = length-take-le k xs (omega (arith, le, count)) in omega (arith, e, more) in
    let all : list_all (is_kept c (group_reach c (length (x ∷ take k xs)))) (x ∷ take k xs) ≡ true =
    ap (λ j. list_all (is_kept c (group_reach c j)) (x ∷ take k xs)) long ∙ ap (λ j. list_all (is_kept c (group_reach c n)) (take j (x ∷ xs))) (sym more) ∙ kept in
    record {
      within = omega (arith, le, count, more);
      expanded = λ own.
          ap in_turn (groups_over c x [] xs) ∙ ap (λ j. in_turn (expanded_group c x (take j xs) ++ groups_of c (drop j xs))) (sym count)
          ∙ sym (in_turn_both (expanded_group c x (take k xs)) (groups_of c (drop k xs)))
          ∙ ap₂ beside (group_kept c x (take k xs) (own_taken c (suc k) (x ∷ xs) own) all) (groups_list c (drop k xs))
          ∙ ap (λ j. expansion_after c j (x ∷ xs)) (sym more);
    }

pub none_kept : (c : Normalizer) (xs : List Item) → Keeps c 0 xs
none_kept c xs = record { within = omega arith; expanded = λ own. sym (none_beside (expanded_list c xs)) }

pub group_keeps : (c : Normalizer) (at k : ℕ) (gs : List hb_glyph_info_t) → at < length gs → k ≡ prefix_len is_mark (drop (at + 1) (strip gs))
    → list_all (is_kept c (group_reach c (k + 1))) (take (k + 1) (drop at (strip gs))) ≡ true → Keeps c (k + 1) (drop at (strip gs))
group_keeps c at k gs lt count kept = by_case (drop at (strip gs)) refl
  where
    by_case : (xs : List Item) → drop at (strip gs) ≡ xs → Keeps c (k + 1) (drop at (strip gs))
    by_case [] e = absurd (let none = ap length e in omega (arith, none, lt, length-drop at (strip gs), length-map gs item_of))
    by_case (x ∷ xs) e =
        let rest : drop (at + 1) (strip gs) ≡ xs = sym (drop-drop 1 at (strip gs)) ∙ ap (drop 1) e in
        subst (λ ys. Keeps c (k + 1) ys) (sym e)
        (group_stays c k (k + 1) x xs (count ∙ ap (prefix_len is_mark) rest) (omega arith) (ap (λ ys. list_all (is_kept c (group_reach c (k + 1))) (take (k + 1) ys)) (sym e) ∙ kept))

pub keeps_more : (c : Normalizer) (at n : ℕ) (xs : List Item) → Keeps c at xs → Keeps c n (drop at xs) → Keeps c (at + n) xs
keeps_more c at n xs before more = record {
  within = let one = before.within in let two = more.within in let rest = length-drop at xs in omega (arith, one, two, rest);
  expanded = λ own.
      let both = before.expanded own ∙ ap (beside (eventless_arrangement (take at xs))) (more.expanded (own_dropped c at xs own)) in
      both ∙ sym (beside_assoc (eventless_arrangement (take at xs)) (eventless_arrangement (take n (drop at xs))) (expanded_list c (drop n (drop at xs))))
      ∙ ap₂ (λ ys zs. beside (eventless_arrangement ys) (expanded_list c zs)) (sym (take-add at n xs)) (drop-drop n at xs);
}

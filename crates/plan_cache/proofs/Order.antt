-- The order of use.
use Rattle.std.proofs.Common.{ℕ, suc, ◌≡◌, ◌+◌, ◌-◌, ◌<◌, ◌≤◌, ◌⊎◌, inl, inr, List, [], ◌∷◌, ◌++◌, length, take, drop, refl, sym, ap, subst, ◌∙◌, arith}
use Rattle.std.specs.List.{All, AllWithin, HoldsAt, remove, slice_range, slice_index_or}
use Rattle.std.proofs.lemmas.List.{append-nil, drop-append-le, drop_all, drop_more, get_or_at, length-append, length-drop, length_push, take-append-drop, take_all}
use Rattle.std.proofs.lemmas.Bool.{cases_order}
use Rattle.std.proofs.lemmas.List.Elements.{All-append, All-take, All-drop, All-push}
use Rattle.shape_pipeline.specs.buffer_common.declared.tag.Tag.{Tag}
use Rattle.shape_pipeline.specs.buffer_core.Sides.{Sides}
use Rattle.shape_pipeline.specs.buffer_tags.declared.feature.Feature.{Feature}
use Rattle.plan_cache.specs.declared.cached.CachedPlan.{CachedPlan}
use Rattle.plan_cache.specs.Cache.{Cache, EndsServing, IsAfter, IsServing, IsWithPlanFor, ServeNot, ServesText, with_plan_used, with_plan_added}

-- ---- all plans of a cache

pub all_with_plan_used : (P : CachedPlan → Type 0) (old new : Cache) (i : ℕ) → new ≡ with_plan_used i old → All P old.plans → All P new.plans
all_with_plan_used P old new i same all =
    let xs = old.plans in
    let Q : Cache → Type 0 = λ c. All P c.plans in
    subst Q (sym same) (All-append P (remove xs i) (slice_range xs i (i + 1)) (All-append P (take i xs) (drop (suc i) xs) (All-take P i xs all) (All-drop P (suc i) xs all))
    (All-take P (i + 1 - i) (drop i xs) (All-drop P i xs all)))

pub all_with_plan_added : (P : CachedPlan → Type 0) (old new : Cache) (k : CachedPlan) → new ≡ with_plan_added k old → All P old.plans → P k → All P new.plans
all_with_plan_added P old new k same all here =
    let xs = old.plans in
    let Q : Cache → Type 0 = λ c. All P c.plans in
    subst Q (sym same) (All-drop P (length xs + 1 - old.bound) (xs ++ k ∷ []) (All-push P xs k all here))

-- an element of a list, where there is an index
some_of : {X : Type 0} (xs : List X) (i : ℕ) → i < length xs → X
some_of [] i within = absurd (omega arith)
some_of (x ∷ xs) i within = x

-- the last index at which something holds is one
last_is_one : {X : Type 0} (P : X → Type 0) (xs : List X) (i j : ℕ) → i < length xs → HoldsAt P xs i → AllWithin (λ x. ¬ (P x)) xs (i + 1) (length xs)
    → j < length xs → HoldsAt P xs j → AllWithin (λ x. ¬ (P x)) xs (j + 1) (length xs) → j ≡ i
last_is_one P xs i j within here none within' here' none' =
    let d = some_of xs i within in
    elim (cases_order j i) as (λ x. j ≡ i) [
      | inl same ↦ same
      | inr other ↦ elim other as (λ x. j ≡ i) [ inl less ↦ absurd (none' i d (omega arith) within (here d)) | inr more ↦ absurd (none j d (omega arith) within' (here' d)) ]
    ]

pub after_hit : (tags : List ℕ → List Tag) (features : List Feature) (text : Sides) (old new : Cache) (i : ℕ) → IsServing tags features text old.plans i → new ≡ with_plan_used i old → IsAfter tags features text old new
after_hit tags features text old new i is same = record {
  hit = λ j other. same ∙ ap (λ k. with_plan_used k old) (sym (last_is_one (ServesText tags features text) old.plans i j is.within is.serves is.last other.within other.serves other.last));
  miss = λ none. absurd (none i (some_of old.plans i is.within) is.within (is.serves (some_of old.plans i is.within)));
}

pub after_miss : (tags : List ℕ → List Tag) (features : List Feature) (text : Sides) (old new : Cache) (k : CachedPlan) → ServeNot tags features text old.plans → ServesText tags features text k → new ≡ with_plan_added k old → IsAfter tags features text old new
after_miss tags features text old new k none serves same = record {
  hit = λ i is. absurd (none i (some_of old.plans i is.within) is.within (is.serves (some_of old.plans i is.within)));
  miss = λ again. record { plan = k; serves = serves; is = same };
}

-- the last plan, used again, stays the last
pub last_used_again : (c : Cache) (i : ℕ) → i < length c.plans → i ≡ length c.plans - 1 → c ≡ with_plan_used i c
last_used_again c i within last =
    let xs = c.plans in
    let rest : slice_range xs i (i + 1) ≡ drop i xs = take_all (i + 1 - i) (drop i xs) (omega (arith, length-drop i xs)) in
    let none : drop (suc i) xs ≡ [] = drop_all (suc i) xs (omega arith) in
    let front : remove xs i ≡ take i xs = ap (λ l. take i xs ++ l) none ∙ append-nil (take i xs) in
    ap (λ l. record c { plans = l }) (sym (ap (λ l. l ++ slice_range xs i (i + 1)) front ∙ ap (λ l. take i xs ++ l) rest ∙ take-append-drop i xs))

-- ---- another plan

-- a list that grows past its bound by one loses its first element
pub first_dropped : (xs : List CachedPlan) (k : CachedPlan) (bound : ℕ) → length xs ≤ bound → bound < length (xs ++ k ∷ []) → drop 1 (xs ++ k ∷ []) ≡ drop (length xs + 1 - bound) (xs ++ k ∷ [])
first_dropped xs k bound le lt =
    let n : length (xs ++ k ∷ []) ≡ length xs + 1 = length-append xs (k ∷ []) in
    let one : 1 ≡ length xs + 1 - bound = omega (arith, le, lt, n) in
    ap (λ m. drop m (xs ++ k ∷ [])) one

-- one that stays within it loses none
pub all_kept : (xs : List CachedPlan) (k : CachedPlan) (bound : ℕ) → length (xs ++ k ∷ []) ≤ bound → xs ++ k ∷ [] ≡ drop (length xs + 1 - bound) (xs ++ k ∷ [])
all_kept xs k bound le =
    let n : length (xs ++ k ∷ []) ≡ length xs + 1 = length-append xs (k ∷ []) in
    let none : 0 ≡ length xs + 1 - bound = omega (arith, le, n) in
    ap (λ m. drop m (xs ++ k ∷ [])) none

-- ---- the last plan

one_at : {X : Type 0} (xs : List X) (i : ℕ) (d : X) → i < length xs → slice_range xs i (i + 1) ≡ slice_index_or xs i d ∷ []
one_at xs i d within =
    let one : i + 1 - i ≡ 1 = omega arith in
    ap (λ n. take n (drop i xs)) one ∙ ap (take 1) (drop_more xs i d within)

pub ends_used : (tags : List ℕ → List Tag) (features : List Feature) (text : Sides) (old new : Cache) (i : ℕ) → IsServing tags features text old.plans i → new ≡ with_plan_used i old → EndsServing tags features text new.plans
ends_used tags features text old new i is same =
    let d = some_of old.plans i is.within in
    record {
      before = remove old.plans i;
      plan = slice_index_or old.plans i d;
      is = ap (λ (c : Cache). c.plans) same ∙ ap (λ l. remove old.plans i ++ l) (one_at old.plans i d is.within);
      serves = is.serves d;
    }

pub ends_with_plan_added : (tags : List ℕ → List Tag) (features : List Feature) (text : Sides) (old new : Cache) (k : CachedPlan) → 0 < old.bound → ServesText tags features text k → new ≡ with_plan_added k old → EndsServing tags features text new.plans
ends_with_plan_added tags features text old new k some serves same = record {
  before = drop (length old.plans + 1 - old.bound) old.plans;
  plan = k;
  is = ap (λ (c : Cache). c.plans) same ∙ drop-append-le (length old.plans + 1 - old.bound) old.plans (k ∷ []) (omega arith);
  serves = serves;
}

pub some_last : (tags : List ℕ → List Tag) (features : List Feature) (text : Sides) (plans : List CachedPlan) → EndsServing tags features text plans → 0 < length plans
some_last tags features text plans ends = omega (arith, ap length ends.is, length_push ends.before ends.plan)

pub last_serves : (tags : List ℕ → List Tag) (features : List Feature) (text : Sides) (plans : List CachedPlan) (i : ℕ) (k : CachedPlan) → EndsServing tags features text plans → i ≡ length plans - 1 → k ≡ slice_index_or plans i k → ServesText tags features text k
last_serves tags features text plans i k ends at read =
    let count : length ends.before ≡ i = omega (arith, ap length ends.is, length_push ends.before ends.plan) in
    let same : k ≡ ends.plan = read ∙ ap (λ l. slice_index_or l i k) ends.is ∙ get_or_at ends.before ends.plan [] k i count in
    subst (ServesText tags features text) (sym same) ends.serves

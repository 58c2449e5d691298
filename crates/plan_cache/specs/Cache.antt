-- A cache of plans, and which plan it keeps how long.
use Rattle.std.specs.Prelude.{ℕ, ◌≡◌, ◌+◌, ◌-◌, ◌<◌, List, [], ◌∷◌, ◌++◌, length, take, drop}
use Rattle.std.specs.List.{All, AllWithin, HoldsAt, remove, slice_range}
use Rattle.shape_pipeline.specs.buffer_common.declared.tag.Tag.{Tag}
use Rattle.shape_pipeline.specs.buffer_core.Sides.{Sides}
use Rattle.shape_pipeline.specs.buffer_tags.declared.feature.Feature.{Feature}
use Rattle.shape_pipeline.specs.layout_face.declared.parts.FaceParts.{FaceParts}
use Rattle.shape_pipeline.specs.Plans.{Serves}
use Rattle.plan_cache.specs.declared.cached.CachedPlan.{CachedPlan}
use Rattle.plan_cache.specs.Cached.{IsCachedFor}

-- the plans of a cache, the least recently used first, and how many it keeps at most
pub record Cache : Type 0 where
  pub plans : List CachedPlan
  pub bound : ℕ

-- each plan of a cache is one of a font and of a table of languages
abbrev pub IsCacheOf : FaceParts → (List ℕ → List Tag) → Cache → Type 0
IsCacheOf font tags c = All (IsCachedFor font tags) c.plans

-- a cached plan serves a text with features
abbrev pub ServesText : (List ℕ → List Tag) → List Feature → Sides → CachedPlan → Type 0
ServesText tags features text k = Serves tags features text k.plan.value

-- the plan at an index is the most recently used one that serves a text
pub record IsServing (tags : List ℕ → List Tag) (features : List Feature) (text : Sides) (plans : List CachedPlan) (i : ℕ) : Type 0 where
  pub within : i < length plans
  pub serves : HoldsAt (ServesText tags features text) plans i
  pub last : AllWithin (λ k. ¬ ServesText tags features text k) plans (i + 1) (length plans)

-- no plan serves a text
abbrev pub ServeNot : (List ℕ → List Tag) → List Feature → Sides → List CachedPlan → Type 0
ServeNot tags features text plans = All (λ k. ¬ ServesText tags features text k) plans

-- a cache whose plan at an index is used again: it is the most recently used one
abbrev pub with_plan_used : ℕ → Cache → Cache
with_plan_used i c = record c { plans = remove c.plans i ++ slice_range c.plans i (i + 1) }

-- a cache with another plan, the most recently used one; where there would be more plans than the bound, the least recently used one is dropped
abbrev pub with_plan_added : CachedPlan → Cache → Cache
with_plan_added k c = record c { plans = drop (length c.plans + 1 - c.bound) (c.plans ++ k ∷ []) }

-- a cache with another plan, which serves a text
pub record IsWithPlanFor (tags : List ℕ → List Tag) (features : List Feature) (text : Sides) (old new : Cache) : Type 0 where
  pub plan : CachedPlan
  pub serves : ServesText tags features text plan
  pub is : new ≡ with_plan_added plan old

-- the last plan serves a text
pub record EndsServing (tags : List ℕ → List Tag) (features : List Feature) (text : Sides) (plans : List CachedPlan) : Type 0 where
  pub before : List CachedPlan
  pub plan : CachedPlan
  pub is : plans ≡ before ++ plan ∷ []
  pub serves : ServesText tags features text plan

-- a cache after a text was shaped: the plan that served the text is the most recently used one, and it is a new one where none of the cache served it
pub record IsAfter (tags : List ℕ → List Tag) (features : List Feature) (text : Sides) (old new : Cache) : Type 0 where
  pub hit : (i : ℕ) → IsServing tags features text old.plans i → new ≡ with_plan_used i old
  pub miss : ServeNot tags features text old.plans → IsWithPlanFor tags features text old new

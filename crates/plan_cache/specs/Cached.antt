-- A plan in a cache.
use Rattle.std.specs.Prelude.{ℕ, ◌≡◌, List, []}
use Rattle.std.specs.Option.{option_map_or}
use Rattle.std.specs.String.{string_bytes}
use Rattle.shape_pipeline.specs.buffer_common.declared.tag.Tag.{Tag}
use Rattle.shape_pipeline.specs.layout_face.declared.parts.FaceParts.{FaceParts}
use Rattle.shape_pipeline.specs.Plans.{IsPlanOf}
use Rattle.plan_cache.specs.declared.cached.CachedPlan.{CachedPlan}

-- a cached plan has the OpenType tags of the language that is kept with it, by a table of languages
abbrev pub HasTagsOf : (List ℕ → List Tag) → CachedPlan → Type 0
HasTagsOf tags k = k.plan.value.language_tags.items ≡ option_map_or (λ text. tags (string_bytes text)) k.language []

-- a cached plan is one of a font and of a table of languages
pub record IsCachedFor (font : FaceParts) (tags : List ℕ → List Tag) (k : CachedPlan) : Type 0 where
  pub plan : IsPlanOf font k.plan.value
  pub tagged : HasTagsOf tags k

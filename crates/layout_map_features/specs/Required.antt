-- The feature that a language system always has on.
use Rattle.std.specs.Prelude.{ℕ, ◌==◌, if◌then◌else◌, Option, Some, None}
use Rattle.layout_map_features.specs.declared.required.RequiredFeature.{RequiredFeature}

-- the index of the feature that is required in a stage: the required feature's in its own stage, none in any other
abbrev pub required_index : ℕ → Option RequiredFeature → Option ℕ
required_index stage None = None
required_index stage (Some r) = if r.stage == stage then Some r.index else None

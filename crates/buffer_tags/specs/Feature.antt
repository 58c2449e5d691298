-- Requests for a feature, and the glyphs that they apply to.
use Rattle.std.specs.Prelude.{◌==◌, ◌&&◌, ℕ, ◌+◌, ◌-◌, ◌^◌, Bool, min}
use Rattle.std.specs.declared.ops.Bound.{Bound}
use Rattle.std.specs.declared.ops.Bound.TheVariants.{Included, Excluded, Unbounded}
use Rattle.buffer_tags.specs.declared.feature.Feature.{Feature}

-- an index, at most the greatest that 32 bits hold
abbrev pub bounded_index : ℕ → ℕ
bounded_index index = min index (2 ^ 32 - 1)

-- the first cluster of a request, of its lower bound
abbrev pub start_of : Bound ℕ → ℕ
start_of (Included index) = bounded_index index
start_of (Excluded index) = bounded_index (index + 1)
start_of Unbounded = 0

-- the cluster after a request's last one, of its upper bound
abbrev pub end_of : Bound ℕ → ℕ
end_of (Included index) = bounded_index index
end_of (Excluded index) = bounded_index (index - 1)
end_of Unbounded = 2 ^ 32 - 1

-- whether a request is from the first index to the greatest
abbrev pub is_global : Feature → Bool
is_global feature = feature.start == 0 && feature.end == 2 ^ 32 - 1

-- The bits of features in glyph masks.
use Rattle.std.specs.Prelude.{ℕ, ◌+◌, ◌-◌, ◌*◌, ◌^◌, ◌%◌, ◌==◌, ◌&&◌, Bool, nat_lt, min, if◌then◌else◌, List, [], ◌∷◌, fold, filter, Option, Some, None}
use Rattle.std.specs.Int.{leading_zeros, w32}
use Rattle.std.specs.List.{flat_map}
use Rattle.layout_map_features.specs.declared.field.FeatureField.{FeatureField}
use Rattle.layout_map_features.specs.declared.kept_fields.KeptField.{KeptField}
use Rattle.layout_map_features.specs.declared.request.MergedRequest.{MergedRequest}

-- the bit that every glyph has, for features that are on for all glyphs
abbrev pub global_bit : ℕ
global_bit = 0x8000_0000

-- the index of the global bit
abbrev pub global_shift : ℕ
global_shift = 31

-- the index of the lowest bit that is no glyph flag
abbrev pub first_feature_bit : ℕ
first_feature_bit = 4

-- the binary digits of a value, at most 8
abbrev pub bits_needed : ℕ → ℕ
bits_needed value = min (32 - leading_zeros w32 value) 8

-- the global bit, as the field of a feature that every glyph has with value 1
abbrev pub global_field : FeatureField
global_field = record { shift = global_shift; mask = global_bit; one_mask = global_bit; default_mask = global_bit }

-- n bits of a feature's own from a bit on, with the low bits of the value outside ranges
abbrev pub own_field : ℕ → ℕ → ℕ → FeatureField
own_field next count value = record {
  shift = next;
  mask = (2 ^ count - 1) * 2 ^ next;
  one_mask = 2 ^ next;
  default_mask = value % 2 ^ count * 2 ^ next;
}

-- whether every glyph has the feature with value 1
abbrev pub uses_global_bit : MergedRequest → Bool
uses_global_bit m = m.is_global && (m.max_value == 1)

-- the field of a feature where a bit is the lowest free one; none where the feature is off, or where its bits would
-- reach the last bit
abbrev pub field_of : ℕ → MergedRequest → Option FeatureField
field_of next m =
    if m.max_value == 0 then None
    else if uses_global_bit m then Some global_field
    else if nat_lt (next + bits_needed m.max_value) global_shift then Some (own_field next (bits_needed m.max_value) m.default_value)
    else None

-- the lowest free bit after a field
abbrev pub bit_after : ℕ → MergedRequest → ℕ
bit_after next m =
    if m.max_value == 0 then next
    else if uses_global_bit m then next
    else if nat_lt (next + bits_needed m.max_value) global_shift then next + bits_needed m.max_value
    else next

-- the lowest bit that is free after the fields of requests
abbrev pub free_bit : List MergedRequest → ℕ
free_bit before = fold bit_after first_feature_bit before

-- the requests for tags below a tag
abbrev pub below_tag : ℕ → List MergedRequest → List MergedRequest
below_tag tag requests = filter (λ m. nat_lt m.tag.0 tag) requests

-- the field of a request among those that may have one: it follows the fields of lower tags
abbrev pub field_among : List MergedRequest → MergedRequest → Option FeatureField
field_among requests m = field_of (free_bit (below_tag m.tag.0 requests)) m

-- a request with its field, if it has one
abbrev pub kept_field : MergedRequest → Option FeatureField → List KeptField
kept_field m None = []
kept_field m (Some f) = record { request = m; field = f } ∷ []

-- the requests that get a field, by rising tags, each with its field
abbrev pub kept_fields : List MergedRequest → List KeptField
kept_fields requests = flat_map (λ m. kept_field m (field_among requests m)) requests

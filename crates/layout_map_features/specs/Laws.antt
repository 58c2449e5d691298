-- Laws of feature bits, merged requests and lookups.
use Rattle.std.specs.Prelude.{ℕ, ◌≡◌, ◌<◌, false, List, slice_get, Some}
use Rattle.std.specs.Int.RustNames.{bit_and}
use Rattle.layout_map_features.specs.declared.request.MergedRequest.{MergedRequest}
use Rattle.layout_map_features.specs.declared.request.FeatureRequest.{FeatureRequest}
use Rattle.layout_map_features.specs.declared.kept_fields.KeptField.{KeptField}
use Rattle.layout_map_features.specs.declared.lookup.lookup_map_t.{lookup_map_t}
use Rattle.layout_map_features.specs.Entering.{RisesFrom, RisesWithin}
use Rattle.layout_map_features.specs.Requests.{merged_requests}
use Rattle.layout_map_features.specs.Lookups.{merged_lookups}
use Rattle.layout_map_features.specs.Fields.{global_bit, uses_global_bit, kept_fields}

-- a feature's own bits are no glyph flags, and not the global bit
abbrev pub OwnBitsAreFree : Type 0
OwnBitsAreFree = (requests : List MergedRequest) (i : ℕ) (k : KeptField) → RisesFrom (λ m. m.tag.0) 0 requests
    → slice_get (kept_fields requests) i ≡ Some k → uses_global_bit k.request ≡ false
    → (bit_and k.field.mask 7 ≡ 0) × (bit_and k.field.mask global_bit ≡ 0)

-- two features with bits of their own share none
abbrev pub OwnBitsAreApart : Type 0
OwnBitsAreApart = (requests : List MergedRequest) (i j : ℕ) (a b : KeptField) → RisesFrom (λ m. m.tag.0) 0 requests
    → i < j → slice_get (kept_fields requests) i ≡ Some a → slice_get (kept_fields requests) j ≡ Some b
    → uses_global_bit a.request ≡ false → uses_global_bit b.request ≡ false → bit_and a.field.mask b.field.mask ≡ 0

-- the tags of merged requests rise strictly
abbrev pub TagsRise : Type 0
TagsRise = (requests : List FeatureRequest) → RisesFrom (λ m. m.tag.0) 0 (merged_requests requests)

-- the lookups of a stage rise strictly, and are below the table's count
abbrev pub LookupsRise : Type 0
LookupsRise = (count : ℕ) (uses : List lookup_map_t) → RisesWithin (λ l. l.index) 0 count (merged_lookups count uses)

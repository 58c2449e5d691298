-- The parts of a compiled map, put together.
use Rattle.std.proofs.Common.{ℕ, ◌≡◌, List, map, fold, refl}
use Rattle.std.specs.Int.RustNames.{bit_or}
use Rattle.layout_map_features.specs.declared.kept_fields.KeptField.{KeptField}
use Rattle.layout_map_features.specs.declared.per_table.TableIndex.TheVariants.{GSUB, GPOS}
use Rattle.layout_map_features.specs.declared.request.MergedRequest.{MergedRequest}
use Rattle.layout_map_features.specs.Fields.{global_bit, kept_fields}
use Rattle.layout_map_features.specs.Requests.{merged_requests}
use Rattle.layout_map.specs.declared.chosen_feature.feature_map_t.{feature_map_t}
use Rattle.layout_map.specs.Compiled.{MapRequests, TableStages, compiled_map, stages_with}
use Rattle.layout_map.specs.Features.{feature_with, wanted_requests}

pub compiled_is : (b : MapRequests) (requests wanted : List MergedRequest) (kept : List KeptField) (features : List feature_map_t) (mask : ℕ) (gsub gpos : TableStages)
    → requests ≡ merged_requests b.requests → wanted ≡ wanted_requests b.tables requests → kept ≡ kept_fields wanted
    → features ≡ map (λ k. feature_with b.tables k.request k.field) kept → mask ≡ fold (λ mask k. bit_or mask k.field.default_mask) global_bit kept
    → gsub ≡ stages_with GSUB b.tables.gsub requests wanted features b.pauses.gsub → gpos ≡ stages_with GPOS b.tables.gpos requests wanted features b.pauses.gpos
    → compiled_map b ≡ record { global_mask = mask; features = features; tables = record { gsub = gsub; gpos = gpos } }
compiled_is b requests wanted kept features mask gsub gpos r w k f m s p = rw (s, p, m, f, k, w, r) refl

-- Features (OpenType, chapter 2, feature list and feature tables).
use Rattle.std.specs.Prelude.{ℕ, ◌+◌, ◌*◌, ◌==◌, if◌then◌else◌, List, [], ◌∷◌, Option, Some, None, Result, Ok}
use Rattle.buffer_rows.specs.Keys.{row_of}
use Rattle.font_bytes.specs.declared.fault.TableFault.{TableFault}
use Rattle.font_bytes.specs.Results.{and_then}
use Rattle.font_bytes.specs.Room.{room_after}
use Rattle.font_bytes.specs.Words.{need, word}
use Rattle.font_common.specs.Words.{words_at}
use Rattle.layout_tables.specs.Layout.{FeatureTable}
use Rattle.font_lists.specs.declared.tagged.TagRecord.{TagRecord}
use Rattle.font_lists.specs.declared.variations.AlternateFeature.{AlternateFeature}
use Rattle.font_lists.specs.Scripts.{known_indices}
use Rattle.font_lists.specs.Tagged.{tag_records, tagged_tables}

-- a feature table, in a table of n lookups: lookupIndexCount at 2, lookupListIndices at 4
abbrev pub feature_at : ℕ → ℕ → List ℕ → TagRecord → Result (FeatureTable × ℕ) TableFault
feature_at lookup_count room table r = and_then (need table r.at 4) (λ _. and_then (need table (r.at + 4) (2 * word table (r.at + 2)))
    (λ _. and_then (room_after room (word table (r.at + 2)))
    (λ left. Ok (record { tag = r.tag; lookups = known_indices lookup_count (words_at table (r.at + 4) (word table (r.at + 2))) }, left))))

-- the feature that a record names, without lookups where its offset is null
abbrev pub feature_of : ℕ → ℕ → List ℕ → TagRecord → Result (FeatureTable × ℕ) TableFault
feature_of lookup_count room table r = if r.at == 0 then Ok (record { tag = r.tag; lookups = [] }, room) else feature_at lookup_count room table r

-- a feature record at the default instance: the tag with the offset of the alternate feature, where there is one
abbrev pub default_record : Option AlternateFeature → TagRecord → TagRecord
default_record None r = r
default_record (Some p) r = record { tag = r.tag; at = p.at }

-- the feature records from an index on at the default instance
abbrev pub default_records : List AlternateFeature → ℕ → List TagRecord → List TagRecord
default_records alternates index [] = []
default_records alternates index (r ∷ rs) = default_record (row_of (λ p. p.feature_index) index alternates) r ∷ default_records alternates (index + 1) rs

-- a feature list: featureCount at 0, featureRecords at 2; a record takes a row of room
abbrev pub feature_list_at : ℕ → List AlternateFeature → ℕ → List ℕ → ℕ → Result (List FeatureTable × ℕ) TableFault
feature_list_at lookup_count alternates room table at = and_then (need table at 2) (λ _. and_then (need table (at + 2) (6 * word table at))
    (λ _. and_then (room_after room (word table at))
    (λ left. tagged_tables (λ r t. feature_of lookup_count r table t) left (default_records alternates 0 (tag_records table at (at + 2) (word table at))))))

-- the features of a list, none where its offset is null
abbrev pub features_of : ℕ → List AlternateFeature → ℕ → List ℕ → ℕ → Result (List FeatureTable × ℕ) TableFault
features_of lookup_count alternates room table at = if at == 0 then Ok ([], room) else feature_list_at lookup_count alternates room table at

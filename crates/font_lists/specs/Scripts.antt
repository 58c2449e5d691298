-- Scripts and language systems (OpenType, chapter 2, script list, script and language system tables).
use Rattle.std.specs.Prelude.{ℕ, ◌+◌, ◌*◌, ◌==◌, nat_lt, if◌then◌else◌, List, [], filter, Option, Some, None, Result, Ok}
use Rattle.font_bytes.specs.declared.fault.TableFault.{TableFault}
use Rattle.font_bytes.specs.Results.{and_then}
use Rattle.font_bytes.specs.Room.{room_after}
use Rattle.font_bytes.specs.Words.{need, word}
use Rattle.font_common.specs.Words.{words_at}
use Rattle.layout_tables.specs.Layout.{LangSysTable, LangSysEntry, ScriptTable}
use Rattle.font_lists.specs.declared.tagged.TagRecord.{TagRecord}
use Rattle.font_lists.specs.Tagged.{by_tag, table_offset, tag_records, tagged_tables}

-- an index of a list of n elements, none where it has no such one, as 65535, which names none
abbrev pub known_index : ℕ → ℕ → Option ℕ
known_index count i = if nat_lt i count then Some i else None

-- the indices that a list of n elements has
abbrev pub known_indices : ℕ → List ℕ → List ℕ
known_indices count is = filter (λ i. nat_lt i count) is

-- a language system table, in a table of n features: requiredFeatureIndex at 2, featureIndexCount at 4, featureIndices
-- at 6
abbrev pub lang_sys_at : ℕ → ℕ → List ℕ → ℕ → Result (LangSysTable × ℕ) TableFault
lang_sys_at feature_count room table at = and_then (need table at 6) (λ _. and_then (need table (at + 6) (2 * word table (at + 4)))
    (λ _. and_then (room_after room (word table (at + 4))) (λ left. Ok (
      record {
        required_feature = known_index feature_count (word table (at + 2));
        features = known_indices feature_count (words_at table (at + 6) (word table (at + 4)));
      },
      left,
    ))))

-- a language system without features
abbrev pub no_lang_sys : LangSysTable
no_lang_sys = record { required_feature = None; features = [] }

-- the language system that a record names
abbrev pub lang_sys_of : ℕ → ℕ → List ℕ → TagRecord → Result (LangSysEntry × ℕ) TableFault
lang_sys_of feature_count room table r = and_then (if r.at == 0 then Ok (no_lang_sys, room) else lang_sys_at feature_count room table r.at)
    (λ s. Ok (record { tag = r.tag; lang_sys = s.0 }, s.1))

-- the default language system, none where its offset is null
abbrev pub default_lang_sys_at : ℕ → ℕ → List ℕ → ℕ → Result (Option LangSysTable × ℕ) TableFault
default_lang_sys_at feature_count room table at =
    if at == 0 then Ok (None, room) else and_then (lang_sys_at feature_count room table at) (λ s. Ok (Some s.0, s.1))

-- the language systems of records, by rising tags; a record takes a row of room
abbrev pub lang_systems_at : ℕ → ℕ → List ℕ → ℕ → ℕ → Result (List LangSysEntry × ℕ) TableFault
lang_systems_at feature_count room table base count = and_then (need table (base + 4) (6 * count)) (λ _. and_then (room_after room count)
    (λ left. tagged_tables (λ r t. lang_sys_of feature_count r table t) left (by_tag (tag_records table base (base + 4) count))))

-- a script table: defaultLangSysOffset at 0, langSysCount at 2, langSysRecords at 4
abbrev pub script_at : ℕ → ℕ → List ℕ → TagRecord → Result (ScriptTable × ℕ) TableFault
script_at feature_count room table r = and_then (need table r.at 4)
    (λ _. and_then (default_lang_sys_at feature_count room table (table_offset r.at (word table r.at)))
    (λ d. and_then (lang_systems_at feature_count d.1 table r.at (word table (r.at + 2)))
    (λ s. Ok (record { tag = r.tag; default_lang_sys = d.0; lang_systems = s.0 }, s.1))))

-- the script that a record names
abbrev pub script_of : ℕ → ℕ → List ℕ → TagRecord → Result (ScriptTable × ℕ) TableFault
script_of feature_count room table r =
    if r.at == 0 then Ok (record { tag = r.tag; default_lang_sys = None; lang_systems = [] }, room) else script_at feature_count room table r

-- a script list: scriptCount at 0, scriptRecords at 2; a record takes a row of room
abbrev pub script_list_at : ℕ → ℕ → List ℕ → ℕ → Result (List ScriptTable × ℕ) TableFault
script_list_at feature_count room table at = and_then (need table at 2) (λ _. and_then (need table (at + 2) (6 * word table at))
    (λ _. and_then (room_after room (word table at))
    (λ left. tagged_tables (λ r t. script_of feature_count r table t) left (by_tag (tag_records table at (at + 2) (word table at))))))

-- the scripts of a list, none where its offset is null
abbrev pub scripts_of : ℕ → ℕ → List ℕ → ℕ → Result (List ScriptTable × ℕ) TableFault
scripts_of feature_count room table at = if at == 0 then Ok ([], room) else script_list_at feature_count room table at

-- Indices that stay within their lists.
use Rattle.std.specs.Prelude.{ℕ, ◌&&◌, Bool, true, nat_lt, List, length}
use Rattle.std.specs.List.{list_all}
use Rattle.std.specs.Option.{option_map_or}
use Rattle.layout_tables.specs.declared.context.ContextSubtable.{ContextSubtable}
use Rattle.layout_tables.specs.declared.context.ContextSubtable.TheVariants.{Glyphs, Classes, Coverage}
use Rattle.layout_tables.specs.declared.context.SequenceLookupRecord.{SequenceLookupRecord}
use Rattle.layout_tables.specs.Layout.{LangSysTable, ScriptTable, LayoutLists}

-- whether each index is below the length of its list
abbrev pub all_below : ℕ → List ℕ → Bool
all_below count indices = list_all (λ i. nat_lt i count) indices

-- whether the features of a language system exist, the required one included
abbrev pub system_fits : ℕ → LangSysTable → Bool
system_fits count system = option_map_or (λ i. nat_lt i count) system.required_feature true && all_below count system.features

-- whether the features of each language system of a script exist
abbrev pub script_fits : ℕ → ScriptTable → Bool
script_fits count script =
    option_map_or (λ s. system_fits count s) script.default_lang_sys true && list_all (λ s. system_fits count s.lang_sys) script.lang_systems

-- whether the features of each language system, and the lookups of each feature, exist
abbrev pub indices_fit : ℕ → LayoutLists → Bool
indices_fit lookup_count table =
    list_all (λ s. script_fits (length table.features) s) table.scripts && list_all (λ f. all_below lookup_count f.lookups) table.features

-- ---- contexts

-- whether the lookup of each record of a rule exists
abbrev pub records_fit : ℕ → List SequenceLookupRecord → Bool
records_fit lookup_count records = list_all (λ r. nat_lt r.lookup_index lookup_count) records

-- whether the lookup of each record of a context's rules exists (OpenType, chapter 2, sequence lookup record)
abbrev pub context_fits : ℕ → ContextSubtable → Bool
context_fits lookup_count (Glyphs rules) = list_all (λ r. records_fit lookup_count r.records) rules
context_fits lookup_count (Classes by_class) = list_all (λ r. records_fit lookup_count r.records) by_class.rules
context_fits lookup_count (Coverage rules) = list_all (λ r. records_fit lookup_count r.records) rules

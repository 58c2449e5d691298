-- The header of GSUB and GPOS, and their scripts and features (OpenType, versions 1.0 and 1.1).
use Rattle.std.specs.Prelude.{ℕ, ◌==◌, nat_le, if◌then◌else◌, List, Result, Ok, Err}
use Rattle.font_bytes.specs.declared.fault.TableFault.{TableFault}
use Rattle.font_bytes.specs.declared.fault.TableFault.TheVariants.{Kind}
use Rattle.font_bytes.specs.Results.{and_then}
use Rattle.font_bytes.specs.Words.{need, word, long}
use Rattle.layout_tables.specs.Layout.{LayoutLists}
use Rattle.font_lists.specs.declared.header.LayoutHeader.{LayoutHeader}
use Rattle.font_lists.specs.Features.{features_of}
use Rattle.font_lists.specs.Scripts.{scripts_of}
use Rattle.font_lists.specs.Variations.{variations_of}

-- how many elements a list has that begins with its count, none where its offset is null
abbrev pub list_count : List ℕ → ℕ → Result ℕ TableFault
list_count table at = if at == 0 then Ok 0 else and_then (need table at 2) (λ _. Ok (word table at))

-- featureVariationsOffset (Offset32) at 10 from version 1.1 on, null in version 1.0
abbrev pub variations_offset : List ℕ → Result ℕ TableFault
variations_offset table = if nat_le 1 (word table 2) then and_then (need table 10 4) (λ _. Ok (long table 10)) else Ok 0

-- scriptListOffset at 4, featureListOffset at 6, lookupListOffset at 8; how many features and lookups there are
abbrev pub header_of : List ℕ → ℕ → Result LayoutHeader TableFault
header_of table variations = and_then (list_count table (word table 6)) (λ features. and_then (list_count table (word table 8))
    (λ lookups. Ok (record {
      scripts = word table 4;
      features = word table 6;
      lookups = word table 8;
      variations = variations;
      feature_count = features;
      lookup_count = lookups;
    })))

-- the header of a table of major version 1
abbrev pub layout_header : List ℕ → Result LayoutHeader TableFault
layout_header table = and_then (need table 0 10)
    (λ _. if word table 0 == 1 then and_then (variations_offset table) (header_of table) else Err (Kind 0))

-- scripts, and features at the default instance
abbrev pub lists_at : ℕ → List ℕ → LayoutHeader → Result (LayoutLists × ℕ) TableFault
lists_at room table h = and_then (variations_of room table h.variations) (λ alternates. and_then (features_of h.lookup_count alternates.0 alternates.1 table h.features)
    (λ features. and_then (scripts_of h.feature_count features.1 table h.scripts)
    (λ scripts. Ok (record { scripts = scripts.0; features = features.0 }, scripts.1))))

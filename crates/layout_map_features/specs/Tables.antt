-- The two layout tables of a font.
use Rattle.layout_map_features.specs.declared.per_table.TableIndex.{TableIndex}
use Rattle.layout_map_features.specs.declared.per_table.TableIndex.TheVariants.{GSUB, GPOS}
use Rattle.layout_map_features.specs.declared.per_table.PerTable.{PerTable}

-- the value for a table
abbrev pub for_table : {T : Type 0} → TableIndex → PerTable T → T
for_table GSUB both = both.gsub
for_table GPOS both = both.gpos

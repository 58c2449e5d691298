-- Indices and classes of a layout table that stay within their lists.
use Rattle.std.specs.Prelude.{ℕ, ◌&&◌, Bool, true, nat_lt, List, Option, length}
use Rattle.std.specs.List.{list_all}
use Rattle.std.specs.Option.{option_map_or}
use Rattle.layout_tables.specs.Indices.{context_fits, indices_fit}
use Rattle.layout_tables.specs.declared.context.ContextSubtable.{ContextSubtable}
use Rattle.layout_tables.specs.declared.pair.PairPos.{PairPos}
use Rattle.layout_tables.specs.declared.pair.PairPos.TheVariants as Pairs
use Rattle.layout_tables.specs.Fits.{marks_fit_bases, marks_fit_ligatures, pairs_fit}
use Rattle.layout_face.specs.declared.substitution.SubstLookup.{SubstLookup}
use Rattle.layout_face.specs.declared.substitution.SubstitutionSubtables.{SubstitutionSubtables}
use Rattle.layout_face.specs.declared.substitution.SubstitutionSubtables.TheVariants as Subst
use Rattle.layout_face.specs.declared.substitution.SubstitutionTable.{SubstitutionTable}
use Rattle.layout_face.specs.declared.positioning.PositioningLookup.{PositioningLookup}
use Rattle.layout_face.specs.declared.positioning.PositioningTable.{PositioningTable}
use Rattle.layout_face.specs.declared.positioning.PositioningSubtables.{PositioningSubtables}
use Rattle.layout_face.specs.declared.positioning.PositioningSubtables.TheVariants.{Single, Pair, Cursive, MarkToBase, MarkToLigature, MarkToMark, Context, ChainContext}

-- whether the mark glyph set that a lookup names exists
abbrev pub set_fits : ℕ → Option ℕ → Bool
set_fits count set = option_map_or (λ i. nat_lt i count) set true

-- whether each class of a pair subtable has its record
abbrev pub pair_classes_fit : PairPos → Bool
pair_classes_fit (Pairs.Glyphs pairs) = true
pair_classes_fit (Pairs.Classes pairs) = pairs_fit pairs

-- whether the lookups that contexts name exist, in a table of n lookups
abbrev pub contexts_fit : ℕ → List ContextSubtable → Bool
contexts_fit lookups subtables = list_all (λ s. context_fits lookups s) subtables

-- whether the lookups that the subtables of a GSUB lookup name exist, in a table of n lookups
abbrev pub substitution_nested_fit : ℕ → SubstitutionSubtables → Bool
substitution_nested_fit lookups (Subst.Context subtables) = contexts_fit lookups subtables
substitution_nested_fit lookups (Subst.ChainContext subtables) = contexts_fit lookups subtables
substitution_nested_fit lookups (Subst.Single subtables) = true
substitution_nested_fit lookups (Subst.Multiple subtables) = true
substitution_nested_fit lookups (Subst.Alternate subtables) = true
substitution_nested_fit lookups (Subst.Ligature subtables) = true
substitution_nested_fit lookups (Subst.ReverseChainSingle subtables) = true

-- whether each class of a subtable has its record, or its anchor
abbrev pub positioning_classes_fit : PositioningSubtables → Bool
positioning_classes_fit (Single subtables) = true
positioning_classes_fit (Pair subtables) = list_all (λ s. pair_classes_fit s) subtables
positioning_classes_fit (Cursive subtables) = true
positioning_classes_fit (MarkToBase subtables) = list_all (λ s. marks_fit_bases s.marks s.bases) subtables
positioning_classes_fit (MarkToLigature subtables) = list_all (λ s. marks_fit_ligatures s.marks s.ligatures) subtables
positioning_classes_fit (MarkToMark subtables) = list_all (λ s. marks_fit_bases s.marks s.bases) subtables
positioning_classes_fit (Context subtables) = true
positioning_classes_fit (ChainContext subtables) = true

-- whether the lookups that the subtables of a GPOS lookup name exist, in a table of n lookups
abbrev pub positioning_nested_fit : ℕ → PositioningSubtables → Bool
positioning_nested_fit lookups (Context subtables) = contexts_fit lookups subtables
positioning_nested_fit lookups (ChainContext subtables) = contexts_fit lookups subtables
positioning_nested_fit lookups (Single subtables) = true
positioning_nested_fit lookups (Pair subtables) = true
positioning_nested_fit lookups (Cursive subtables) = true
positioning_nested_fit lookups (MarkToBase subtables) = true
positioning_nested_fit lookups (MarkToLigature subtables) = true
positioning_nested_fit lookups (MarkToMark subtables) = true

-- whether a GSUB lookup's mark glyph set and nested lookups exist
abbrev pub substitution_lookup_fits : ℕ → ℕ → SubstLookup → Bool
substitution_lookup_fits sets lookups lookup = set_fits sets lookup.mark_filtering_set && substitution_nested_fit lookups lookup.subtables

-- whether all features, lookups and mark glyph sets that the GSUB table names exist
abbrev pub substitution_fits : ℕ → SubstitutionTable → Bool
substitution_fits sets table =
    indices_fit (length table.lookups) table.inner
    && list_all (λ l. substitution_lookup_fits sets (length table.lookups) l) table.lookups

-- whether a GPOS lookup's mark glyph set, records, anchors and nested lookups exist
abbrev pub positioning_lookup_fits : ℕ → ℕ → PositioningLookup → Bool
positioning_lookup_fits sets lookups lookup =
    set_fits sets lookup.mark_filtering_set && positioning_classes_fit lookup.subtables && positioning_nested_fit lookups lookup.subtables

-- whether all features, lookups, mark glyph sets, records and anchors that the GPOS table names exist
abbrev pub positioning_fits : ℕ → PositioningTable → Bool
positioning_fits sets table =
    indices_fit (length table.lookups) table.inner
    && list_all (λ l. positioning_lookup_fits sets (length table.lookups) l) table.lookups

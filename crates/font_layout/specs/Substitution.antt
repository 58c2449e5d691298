-- GSUB (OpenType, GSUB lookup types 1 to 8).
use Rattle.std.specs.Prelude.{ℕ, ◌==◌, true, false, if◌then◌else◌, List, [], None, Result, Ok}
use Rattle.font_bytes.specs.declared.fault.TableFault.{TableFault}
use Rattle.font_bytes.specs.Results.{and_then}
use Rattle.font_contexts.specs.Contexts.{context_at}
use Rattle.font_substitution.specs.Ligature.{ligature_subst_at}
use Rattle.font_substitution.specs.Reverse.{reverse_subst_at}
use Rattle.font_substitution.specs.Sequence.{alternate_subst_at, multiple_subst_at}
use Rattle.font_substitution.specs.Single.{single_subst_at}
use Rattle.layout_face.specs.declared.substitution.SubstLookup.{SubstLookup}
use Rattle.layout_face.specs.declared.substitution.SubstitutionSubtables.{SubstitutionSubtables}
use Rattle.layout_face.specs.declared.substitution.SubstitutionSubtables.TheVariants.{Single, Multiple, Alternate, Ligature, Context, ChainContext, ReverseChainSingle}
use Rattle.font_lists.specs.declared.lookups.LookupHead.{LookupHead}
use Rattle.font_lists.specs.declared.lookups.SubtableOffset.{SubtableOffset}
use Rattle.font_lists.specs.Lookups.{lookup_head_at, subtables_of, type_of}

-- the subtables of a lookup, in a table of n lookups, by its type; none of an unknown type
abbrev pub substitutions_of : ℕ → ℕ → ℕ → List ℕ → List SubtableOffset → Result (SubstitutionSubtables × ℕ) TableFault
substitutions_of lookup_count lookup_type room table ps =
    if lookup_type == 1 then subtables_of Single single_subst_at room table ps
    else (if lookup_type == 2 then subtables_of Multiple multiple_subst_at room table ps
    else (if lookup_type == 3 then subtables_of Alternate alternate_subst_at room table ps
    else (if lookup_type == 4 then subtables_of Ligature ligature_subst_at room table ps
    else (if lookup_type == 5 then subtables_of Context (context_at false lookup_count) room table ps
    else (if lookup_type == 6 then subtables_of ChainContext (context_at true lookup_count) room table ps
    else (if lookup_type == 8 then subtables_of ReverseChainSingle reverse_subst_at room table ps
    else Ok (Single [], room)))))))

-- a lookup of its flag, its mark filtering set and its subtables
abbrev pub substitution_of_head : ℕ → List ℕ → LookupHead × ℕ → Result (SubstLookup × ℕ) TableFault
substitution_of_head lookup_count table h = and_then (substitutions_of lookup_count (type_of h.0.subtables) h.1 table h.0.subtables)
    (λ s. Ok (record { flags = h.0.flags; mark_filtering_set = h.0.set; subtables = s.0 }, s.1))

-- the lookup at an offset, in a table of n lookups and a font of n mark glyph sets; extensions are of type 7
abbrev pub substitution_lookup_at : ℕ → ℕ → ℕ → List ℕ → ℕ → Result (SubstLookup × ℕ) TableFault
substitution_lookup_at lookup_count set_count room table at = and_then (lookup_head_at 7 set_count room table at) (substitution_of_head lookup_count table)

-- a lookup that does nothing
abbrev pub no_substitution : SubstLookup
no_substitution = record { flags = 0; mark_filtering_set = None; subtables = Single [] }

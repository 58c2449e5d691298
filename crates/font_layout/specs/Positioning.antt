-- GPOS (OpenType, GPOS lookup types 1 to 9).
use Rattle.std.specs.Prelude.{ℕ, ◌==◌, true, false, if◌then◌else◌, List, [], None, Result, Ok}
use Rattle.font_bytes.specs.declared.fault.TableFault.{TableFault}
use Rattle.font_bytes.specs.Results.{and_then}
use Rattle.font_contexts.specs.Contexts.{context_at}
use Rattle.font_positioning.specs.ClassPairs.{pair_pos_at}
use Rattle.font_positioning.specs.Cursive.{cursive_pos_at}
use Rattle.font_positioning.specs.Marks.{mark_base_pos_at, mark_lig_pos_at}
use Rattle.font_positioning.specs.Single.{single_pos_at}
use Rattle.layout_face.specs.declared.positioning.PositioningLookup.{PositioningLookup}
use Rattle.layout_face.specs.declared.positioning.PositioningSubtables.{PositioningSubtables}
use Rattle.layout_face.specs.declared.positioning.PositioningSubtables.TheVariants.{Single, Pair, Cursive, MarkToBase, MarkToLigature, MarkToMark, Context, ChainContext}
use Rattle.font_lists.specs.declared.lookups.LookupHead.{LookupHead}
use Rattle.font_lists.specs.declared.lookups.SubtableOffset.{SubtableOffset}
use Rattle.font_lists.specs.Lookups.{lookup_head_at, subtables_of, type_of}

-- the subtables of a lookup, in a table of n lookups, by its type; none of an unknown type
abbrev pub positions_of : ℕ → ℕ → ℕ → List ℕ → List SubtableOffset → Result (PositioningSubtables × ℕ) TableFault
positions_of lookup_count lookup_type room table ps =
    if lookup_type == 1 then subtables_of Single single_pos_at room table ps
    else (if lookup_type == 2 then subtables_of Pair pair_pos_at room table ps
    else (if lookup_type == 3 then subtables_of Cursive cursive_pos_at room table ps
    else (if lookup_type == 4 then subtables_of MarkToBase mark_base_pos_at room table ps
    else (if lookup_type == 5 then subtables_of MarkToLigature mark_lig_pos_at room table ps
    else (if lookup_type == 6 then subtables_of MarkToMark mark_base_pos_at room table ps
    else (if lookup_type == 7 then subtables_of Context (context_at false lookup_count) room table ps
    else (if lookup_type == 8 then subtables_of ChainContext (context_at true lookup_count) room table ps
    else Ok (Single [], room))))))))

-- a lookup of its flag, its mark filtering set and its subtables
abbrev pub positioning_of_head : ℕ → List ℕ → LookupHead × ℕ → Result (PositioningLookup × ℕ) TableFault
positioning_of_head lookup_count table h = and_then (positions_of lookup_count (type_of h.0.subtables) h.1 table h.0.subtables)
    (λ s. Ok (record { flags = h.0.flags; mark_filtering_set = h.0.set; subtables = s.0 }, s.1))

-- the lookup at an offset, in a table of n lookups and a font of n mark glyph sets; extensions are of type 9
abbrev pub positioning_lookup_at : ℕ → ℕ → ℕ → List ℕ → ℕ → Result (PositioningLookup × ℕ) TableFault
positioning_lookup_at lookup_count set_count room table at = and_then (lookup_head_at 9 set_count room table at) (positioning_of_head lookup_count table)

-- a lookup that does nothing
abbrev pub no_positioning : PositioningLookup
no_positioning = record { flags = 0; mark_filtering_set = None; subtables = Single [] }

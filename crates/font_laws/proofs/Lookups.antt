-- Lookups, GSUB and GPOS fit the room that they take.
use Rattle.std.proofs.Common.{◌≡◌, ℕ, ◌+◌, ◌*◌, ◌≤◌, ◌==◌, Bool, true, false, List, [], length, Option, Some, None, Result, Ok, refl, arith}
use Rattle.font_bytes.specs.declared.fault.TableFault.{TableFault}
use Rattle.font_bytes.specs.Room.{room_after}
use Rattle.font_bytes.specs.Words.{need, word}
use Rattle.font_contexts.specs.Contexts.{context_at}
use Rattle.font_records.specs.Turns.{array_at, if_any}
use Rattle.font_lists.specs.declared.header.LayoutHeader.{LayoutHeader}
use Rattle.font_lists.specs.declared.lookups.SubtableOffset.{SubtableOffset}
use Rattle.font_lists.specs.Header.{layout_header, lists_at}
use Rattle.font_lists.specs.Lookups.{subtable_offset, subtable_in_room, set_width, lookup_head_at, subtable_of_type, subtables_in, subtables_of, type_of}
use Rattle.font_substitution.specs.Ligature.{ligature_subst_at}
use Rattle.font_substitution.specs.Reverse.{reverse_subst_at}
use Rattle.font_substitution.specs.Sequence.{alternate_subst_at, multiple_subst_at}
use Rattle.font_substitution.specs.Single.{single_subst_at}
use Rattle.font_positioning.specs.ClassPairs.{pair_pos_at}
use Rattle.font_positioning.specs.Cursive.{cursive_pos_at}
use Rattle.font_positioning.specs.Marks.{mark_base_pos_at, mark_lig_pos_at}
use Rattle.font_positioning.specs.Single.{single_pos_at}
use Rattle.font_layout.specs.Substitution.{substitutions_of, substitution_lookup_at, no_substitution}
use Rattle.font_layout.specs.Positioning.{positions_of, positioning_lookup_at, no_positioning}
use Rattle.font_layout.specs.Layout.{substitutions_at, positions_at, gsub_at, gpos_at}
use Rattle.layout_face.specs.declared.substitution.SubstitutionSubtables.TheVariants as Subst
use Rattle.layout_face.specs.declared.positioning.PositioningSubtables.TheVariants as Pos
use Rattle.font_laws.specs.RowCounts.{total_row_count, optional_row_count}
use Rattle.font_laws.specs.Lists.{list_row_count}
use Rattle.font_laws.specs.Contexts.{context_row_count}
use Rattle.font_laws.specs.Substitutions.{single_subst_row_count, multiple_subst_row_count, alternate_subst_row_count, ligature_subst_row_count, reverse_subst_row_count, substitution_subtables_row_count, subst_lookup_row_count, substitution_row_count}
use Rattle.font_laws.specs.Positions.{single_pos_row_count, pair_pos_row_count, cursive_pos_row_count, mark_base_row_count, mark_lig_row_count, positioning_subtables_row_count, positioning_lookup_row_count, positioning_row_count}
use Rattle.font_laws.proofs.Within.{Fitting, then_if, then_any, if_either, weaker, room_taken}
use Rattle.font_laws.proofs.Totals.{total_constant}
use Rattle.font_laws.proofs.Contexts.{context_fits}
use Rattle.font_laws.proofs.Substitutions.{single_subst_fits, multiple_subst_fits, alternate_subst_fits, ligature_subst_fits, reverse_subst_fits}
use Rattle.font_laws.proofs.Positions.{single_pos_fits, pair_pos_fits, cursive_pos_fits, mark_base_pos_fits, mark_lig_pos_fits}
use Rattle.font_laws.proofs.Lists.{lists_fit}
use Rattle.font_laws.proofs.Turns.{FittingBut, in_turn_fits, if_any_fits, array_fits, list_fits}

-- ---- where subtables stand

offset_fits : (extension lookup_type base : ℕ) (table : List ℕ) (room at : ℕ)
    → FittingBut (optional_row_count (λ _. 63)) 63 room (subtable_in_room extension lookup_type base table room at)
offset_fits extension lookup_type base table room at = then_any _ (subtable_offset extension lookup_type base table at) _ (λ p. some p)
  where
    some : (p : Option SubtableOffset) → optional_row_count (λ _. 63) p + room ≤ room + 63
    some None = omega arith
    some (Some p) = omega arith

-- each subtable took 64 rows
head_fits : (extension set_count room : ℕ) (table : List ℕ) (at : ℕ) → Fitting (λ h. 64 * length h.subtables) room (lookup_head_at extension set_count room table at)
head_fits extension set_count room table at =
    then_any _ (need table at 6) _ (λ _. then_any _ (need table (at + 6) (2 * word table (at + 4) + set_width (word table (at + 2)))) _ (λ _.
    then_if (λ left. 63 * word table (at + 4) + left ≡ room) _ (room_after room (63 * word table (at + 4))) _ (room_taken room (63 * word table (at + 4))) (λ left e.
    then_if (λ r. total_row_count (λ _. 63) r.0 + r.1 ≤ left + 63 * word table (at + 4)) _ (array_at (subtable_in_room extension (word table at) at table) 2 (at + 6) (word table (at + 4)) left) _
    (array_fits (λ _. 63) 63 (subtable_in_room extension (word table at) at table) (λ r o. offset_fits extension (word table at) at table r o) 2 (at + 6) (word table (at + 4)) left) (λ ps h.
    let all = total_constant 63 ps.0 in omega arith))))

-- ---- subtables of one type

abbrev FitsAt : {S : Type 0} → (S → ℕ) → List ℕ → (ℕ → List ℕ → ℕ → Result (Option S × ℕ) TableFault) → Type 0
FitsAt count table read = (room at : ℕ) → FittingBut (optional_row_count count) 63 room (read room table at)

subtables_fit : {S L : Type 0} (count : S → ℕ) (count2 : L → ℕ) (form : List S → L) → ((s : List S) → count2 (form s) ≡ total_row_count count s)
    → (read : ℕ → List ℕ → ℕ → Result (Option S × ℕ) TableFault) (table : List ℕ) → FitsAt count table read
    → (room : ℕ) (ps : List SubtableOffset) → FittingBut count2 (64 * length ps) room (subtables_of form read room table ps)
subtables_fit count count2 form same read table each room ps =
    then_if (λ r. total_row_count count r.0 + r.1 ≤ room + 64 * length ps) _ (subtables_in read room table ps) _
    (in_turn_fits count 64 (λ r p. if_any (subtable_of_type read table (type_of ps) r p)) (λ r p.
    if_any_fits count 63 r (subtable_of_type read table (type_of ps) r p)
    (if_either _ (p.lookup_type == type_of ps) (read r table p.at) (Ok (None, r)) (each r p.at) (omega arith))) room ps)
    (λ r h. let e = same r.0 in omega arith)

fits_at : {S : Type 0} (count : S → ℕ) (read : ℕ → List ℕ → ℕ → Result (Option S × ℕ) TableFault) (table : List ℕ)
    → ((room at : ℕ) → Fitting (optional_row_count count) room (read room table at)) → FitsAt count table read
fits_at count read table each room at = weaker (λ r. optional_row_count count r.0 + r.1 ≤ room) _ (read room table at) (each room at) (λ r h. omega arith)

contexts_fit_at : (chained : Bool) (lookup_count : ℕ) (table : List ℕ) → FitsAt context_row_count table (context_at chained lookup_count)
contexts_fit_at chained lookup_count table room at =
    weaker (λ r. optional_row_count context_row_count r.0 + r.1 ≤ room + 1) _ (context_at chained lookup_count room table at) (context_fits chained lookup_count room table at) (λ r h. omega arith)

-- ---- GSUB

substitutions_fit : (lookup_count lookup_type room : ℕ) (table : List ℕ) (ps : List SubtableOffset)
    → FittingBut substitution_subtables_row_count (64 * length ps) room (substitutions_of lookup_count lookup_type room table ps)
substitutions_fit lookup_count lookup_type room table ps =
    if_either _ (lookup_type == 1) (subtables_of Subst.Single single_subst_at room table ps) _
    (subtables_fit single_subst_row_count substitution_subtables_row_count Subst.Single (λ s. refl) single_subst_at table (fits_at single_subst_row_count single_subst_at table (λ r o. single_subst_fits r table o)) room ps)
    (if_either _ (lookup_type == 2) (subtables_of Subst.Multiple multiple_subst_at room table ps) _
    (subtables_fit multiple_subst_row_count substitution_subtables_row_count Subst.Multiple (λ s. refl) multiple_subst_at table (fits_at multiple_subst_row_count multiple_subst_at table (λ r o. multiple_subst_fits r table o)) room ps)
    (if_either _ (lookup_type == 3) (subtables_of Subst.Alternate alternate_subst_at room table ps) _
    (subtables_fit alternate_subst_row_count substitution_subtables_row_count Subst.Alternate (λ s. refl) alternate_subst_at table (fits_at alternate_subst_row_count alternate_subst_at table (λ r o. alternate_subst_fits r table o)) room ps)
    (if_either _ (lookup_type == 4) (subtables_of Subst.Ligature ligature_subst_at room table ps) _
    (subtables_fit ligature_subst_row_count substitution_subtables_row_count Subst.Ligature (λ s. refl) ligature_subst_at table (fits_at ligature_subst_row_count ligature_subst_at table (λ r o. ligature_subst_fits r table o)) room ps)
    (if_either _ (lookup_type == 5) (subtables_of Subst.Context (context_at false lookup_count) room table ps) _
    (subtables_fit context_row_count substitution_subtables_row_count Subst.Context (λ s. refl) (context_at false lookup_count) table (contexts_fit_at false lookup_count table) room ps)
    (if_either _ (lookup_type == 6) (subtables_of Subst.ChainContext (context_at true lookup_count) room table ps) _
    (subtables_fit context_row_count substitution_subtables_row_count Subst.ChainContext (λ s. refl) (context_at true lookup_count) table (contexts_fit_at true lookup_count table) room ps)
    (if_either _ (lookup_type == 8) (subtables_of Subst.ReverseChainSingle reverse_subst_at room table ps) _
    (subtables_fit reverse_subst_row_count substitution_subtables_row_count Subst.ReverseChainSingle (λ s. refl) reverse_subst_at table (fits_at reverse_subst_row_count reverse_subst_at table (λ r o. reverse_subst_fits r table o)) room ps)
    (omega arith)))))))

substitution_lookup_fits : (lookup_count set_count room : ℕ) (table : List ℕ) (at : ℕ)
    → Fitting subst_lookup_row_count room (substitution_lookup_at lookup_count set_count room table at)
substitution_lookup_fits lookup_count set_count room table at =
    then_if (λ h. 64 * length h.0.subtables + h.1 ≤ room) _ (lookup_head_at 7 set_count room table at) _ (head_fits 7 set_count room table at) (λ h i.
    then_if (λ s. substitution_subtables_row_count s.0 + s.1 ≤ h.1 + 64 * length h.0.subtables) _ (substitutions_of lookup_count (type_of h.0.subtables) h.1 table h.0.subtables) _
    (substitutions_fit lookup_count (type_of h.0.subtables) h.1 table h.0.subtables) (λ s j. omega arith))

substitutions_at_fit : (set_count room : ℕ) (table : List ℕ) (h : LayoutHeader) → Fitting (total_row_count subst_lookup_row_count) room (substitutions_at set_count room table h)
substitutions_at_fit set_count room table h =
    if_either _ (h.lookups == 0) (Ok ([], room)) _ (omega arith)
    (list_fits subst_lookup_row_count no_substitution (substitution_lookup_at h.lookup_count set_count) table refl (λ r o. substitution_lookup_fits h.lookup_count set_count r table o) h.lookups h.lookups room)

pub gsub_fits : (set_count room : ℕ) (table : List ℕ) → Fitting substitution_row_count room (gsub_at set_count room table)
gsub_fits set_count room table =
    then_any _ (layout_header table) _ (λ h.
    then_if (λ r. list_row_count r.0 + r.1 ≤ room) _ (lists_at room table h) _ (lists_fit room table h) (λ lists i.
    then_if (λ r. total_row_count subst_lookup_row_count r.0 + r.1 ≤ lists.1) _ (substitutions_at set_count lists.1 table h) _ (substitutions_at_fit set_count lists.1 table h) (λ lookups j. omega arith)))

-- ---- GPOS

positions_fit : (lookup_count lookup_type room : ℕ) (table : List ℕ) (ps : List SubtableOffset)
    → FittingBut positioning_subtables_row_count (64 * length ps) room (positions_of lookup_count lookup_type room table ps)
positions_fit lookup_count lookup_type room table ps =
    if_either _ (lookup_type == 1) (subtables_of Pos.Single single_pos_at room table ps) _
    (subtables_fit single_pos_row_count positioning_subtables_row_count Pos.Single (λ s. refl) single_pos_at table (fits_at single_pos_row_count single_pos_at table (λ r o. single_pos_fits r table o)) room ps)
    (if_either _ (lookup_type == 2) (subtables_of Pos.Pair pair_pos_at room table ps) _
    (subtables_fit pair_pos_row_count positioning_subtables_row_count Pos.Pair (λ s. refl) pair_pos_at table (fits_at pair_pos_row_count pair_pos_at table (λ r o. pair_pos_fits r table o)) room ps)
    (if_either _ (lookup_type == 3) (subtables_of Pos.Cursive cursive_pos_at room table ps) _
    (subtables_fit cursive_pos_row_count positioning_subtables_row_count Pos.Cursive (λ s. refl) cursive_pos_at table (fits_at cursive_pos_row_count cursive_pos_at table (λ r o. cursive_pos_fits r table o)) room ps)
    (if_either _ (lookup_type == 4) (subtables_of Pos.MarkToBase mark_base_pos_at room table ps) _
    (subtables_fit mark_base_row_count positioning_subtables_row_count Pos.MarkToBase (λ s. refl) mark_base_pos_at table (fits_at mark_base_row_count mark_base_pos_at table (λ r o. mark_base_pos_fits r table o)) room ps)
    (if_either _ (lookup_type == 5) (subtables_of Pos.MarkToLigature mark_lig_pos_at room table ps) _
    (subtables_fit mark_lig_row_count positioning_subtables_row_count Pos.MarkToLigature (λ s. refl) mark_lig_pos_at table (fits_at mark_lig_row_count mark_lig_pos_at table (λ r o. mark_lig_pos_fits r table o)) room ps)
    (if_either _ (lookup_type == 6) (subtables_of Pos.MarkToMark mark_base_pos_at room table ps) _
    (subtables_fit mark_base_row_count positioning_subtables_row_count Pos.MarkToMark (λ s. refl) mark_base_pos_at table (fits_at mark_base_row_count mark_base_pos_at table (λ r o. mark_base_pos_fits r table o)) room ps)
    (if_either _ (lookup_type == 7) (subtables_of Pos.Context (context_at false lookup_count) room table ps) _
    (subtables_fit context_row_count positioning_subtables_row_count Pos.Context (λ s. refl) (context_at false lookup_count) table (contexts_fit_at false lookup_count table) room ps)
    (if_either _ (lookup_type == 8) (subtables_of Pos.ChainContext (context_at true lookup_count) room table ps) _
    (subtables_fit context_row_count positioning_subtables_row_count Pos.ChainContext (λ s. refl) (context_at true lookup_count) table (contexts_fit_at true lookup_count table) room ps)
    (omega arith))))))))

positioning_lookup_fits : (lookup_count set_count room : ℕ) (table : List ℕ) (at : ℕ)
    → Fitting positioning_lookup_row_count room (positioning_lookup_at lookup_count set_count room table at)
positioning_lookup_fits lookup_count set_count room table at =
    then_if (λ h. 64 * length h.0.subtables + h.1 ≤ room) _ (lookup_head_at 9 set_count room table at) _ (head_fits 9 set_count room table at) (λ h i.
    then_if (λ s. positioning_subtables_row_count s.0 + s.1 ≤ h.1 + 64 * length h.0.subtables) _ (positions_of lookup_count (type_of h.0.subtables) h.1 table h.0.subtables) _
    (positions_fit lookup_count (type_of h.0.subtables) h.1 table h.0.subtables) (λ s j. omega arith))

positions_at_fit : (set_count room : ℕ) (table : List ℕ) (h : LayoutHeader) → Fitting (total_row_count positioning_lookup_row_count) room (positions_at set_count room table h)
positions_at_fit set_count room table h =
    if_either _ (h.lookups == 0) (Ok ([], room)) _ (omega arith)
    (list_fits positioning_lookup_row_count no_positioning (positioning_lookup_at h.lookup_count set_count) table refl (λ r o. positioning_lookup_fits h.lookup_count set_count r table o) h.lookups h.lookups room)

pub gpos_fits : (set_count room : ℕ) (table : List ℕ) → Fitting positioning_row_count room (gpos_at set_count room table)
gpos_fits set_count room table =
    then_any _ (layout_header table) _ (λ h.
    then_if (λ r. list_row_count r.0 + r.1 ≤ room) _ (lists_at room table h) _ (lists_fit room table h) (λ lists i.
    then_if (λ r. total_row_count positioning_lookup_row_count r.0 + r.1 ≤ lists.1) _ (positions_at set_count lists.1 table h) _ (positions_at_fit set_count lists.1 table h) (λ lookups j. omega arith)))

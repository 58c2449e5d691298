-- GPOS with the table kern has few rows.
use Rattle.std.proofs.Common.{ℕ, ◌+◌, ◌*◌, ◌≤◌, ◌==◌, ◌||◌, true, false, List, [], ◌∷◌, length, Option, Some, None, Ok, Err, arith}
use Rattle.std.specs.Result.{IfOk}
use Rattle.font_bytes.specs.declared.fault.TableFault.TheVariants.{TooLarge}
use Rattle.layout_tables.specs.Layout.{LayoutLists}
use Rattle.layout_face.specs.declared.parts.CharacterRow.{CharacterRow}
use Rattle.layout_face.specs.declared.positioning.PositioningLookup.{PositioningLookup}
use Rattle.layout_face.specs.declared.positioning.PositioningTable.{PositioningTable}
use Rattle.font_kern.specs.declared.subtables.Subtable.{Subtable}
use Rattle.font_kern.specs.Scripts.{lacks_direction, needs_kern, script_rows}
use Rattle.font_kern.specs.Marks.{loses_marks}
use Rattle.font_kern.specs.Subtables.{subtables_at}
use Rattle.font_kern.specs.Kern.{KernLists, with_direction, with_lists, has_indices, with_rows, with_table, empty_table, kern_alone, kern_beside, gpos_with_kern}
use Rattle.font_laws.specs.RowCounts.{optional_row_count}
use Rattle.font_laws.specs.Positions.{positioning_row_count}
use Rattle.font_laws.proofs.Within.{then_if, if_either, weaker}
use Rattle.font_laws.proofs.Kern.{kern_lists_row_count, direction_fits, subtables_fit}
use Rattle.font_laws.proofs.KernScripts.{scripts_fit}

-- features and lookups of both directions
lists_fit : (room : ℕ) (table : List ℕ) (ss : List Subtable) (l : KernLists) (t : LayoutLists) (characters : List CharacterRow)
    → IfOk (with_lists room table ss t l (script_rows t.features t.scripts characters)) (λ r. kern_lists_row_count r.0 + 3 * r.1 ≤ kern_lists_row_count l + 3 * room + 16 * length ss + 2)
lists_fit room table ss l t characters =
    let rows = script_rows t.features t.scripts characters in
    let first = lacks_direction false t.features t.scripts rows in
    let second = lacks_direction true t.features t.scripts rows in
    then_if (λ r. kern_lists_row_count r.0 + 3 * r.1 ≤ kern_lists_row_count l + 3 * room + 8 * length ss + 1) _ (with_direction first false table ss (l, room)) _ (direction_fits first false table ss (l, room)) (λ r h.
    weaker (λ s. kern_lists_row_count s.0 + 3 * s.1 ≤ kern_lists_row_count r.0 + 3 * r.1 + 8 * length ss + 1) _ (with_direction second true table ss r) (direction_fits second true table ss r) (λ s k. omega arith))

rows_fit : (room : ℕ) (table : List ℕ) (ss : List Subtable) (t : LayoutLists) (lookups : List PositioningLookup) (characters : List CharacterRow)
    → IfOk (with_rows room table ss t lookups (script_rows t.features t.scripts characters))
    (λ r. positioning_row_count r.0 + 3 * r.1 ≤ 72 * positioning_row_count (record { inner = t; lookups = lookups }) + 3 * room + 16 * length ss + 72)
rows_fit room table ss t lookups characters =
    let rows = script_rows t.features t.scripts characters in
    let l : KernLists = record { features = t.features; lookups = lookups } in
    then_if (λ r. kern_lists_row_count r.0 + 3 * r.1 ≤ kern_lists_row_count l + 3 * room + 16 * length ss + 2) _ (with_lists room table ss t l rows) _ (lists_fit room table ss l t characters) (λ r h.
    let scripts = scripts_fit t.features t.scripts characters (lacks_direction false t.features t.scripts rows) in
    omega arith)

table_fits : (room : ℕ) (table : List ℕ) (ss : List Subtable) (characters : List CharacterRow) (t : PositioningTable)
    → IfOk (with_table room table ss characters t) (λ r. positioning_row_count r.0 + 3 * r.1 ≤ 72 * positioning_row_count t + 3 * room + 3 * (64 * length ss))
table_fits room table [] characters t = omega arith
table_fits room table (s ∷ ss) characters t =
    if_either _ (has_indices t.inner t.lookups (s ∷ ss)) (with_rows room table (s ∷ ss) t.inner t.lookups (script_rows t.inner.features t.inner.scripts characters)) (Err TooLarge)
    (weaker (λ r. positioning_row_count r.0 + 3 * r.1 ≤ 72 * positioning_row_count t + 3 * room + 16 * length (s ∷ ss) + 72) _
    (with_rows room table (s ∷ ss) t.inner t.lookups (script_rows t.inner.features t.inner.scripts characters))
    (rows_fit room table (s ∷ ss) t.inner t.lookups characters) (λ r h. omega arith))
    tt

alone_fits : (room : ℕ) (table : List ℕ) (characters : List CharacterRow)
    → IfOk (kern_alone room table characters) (λ r. optional_row_count positioning_row_count r.0 + 3 * r.1 ≤ 3 * room)
alone_fits room table characters =
    then_if (λ s. 64 * length s.0 + s.1 ≤ room) _ (subtables_at room table) _ (subtables_fit room table) (λ s h.
    if_either _ (length s.0 == 0 || loses_marks characters) (Ok (None, s.1)) _ (omega arith)
    (then_if (λ r. positioning_row_count r.0 + 3 * r.1 ≤ 72 * positioning_row_count empty_table + 3 * s.1 + 3 * (64 * length s.0)) _ (with_table s.1 table s.0 characters empty_table) _
    (table_fits s.1 table s.0 characters empty_table) (λ r k. omega arith)))

beside_fits : (room : ℕ) (table : List ℕ) (characters : List CharacterRow) (t : PositioningTable)
    → IfOk (kern_beside room table characters t) (λ r. positioning_row_count r.0 + 3 * r.1 ≤ 72 * positioning_row_count t + 3 * room)
beside_fits room table characters t =
    if_either _ (needs_kern t.inner) _ (Ok (t, room))
    (then_if (λ s. 64 * length s.0 + s.1 ≤ room) _ (subtables_at room table) _ (subtables_fit room table) (λ s h.
    weaker (λ r. positioning_row_count r.0 + 3 * r.1 ≤ 72 * positioning_row_count t + 3 * s.1 + 3 * (64 * length s.0)) _ (with_table s.1 table s.0 characters t) (table_fits s.1 table s.0 characters t) (λ r k. omega arith)))
    (omega arith)

pub kern_fits : (room : ℕ) (table : List ℕ) (characters : List CharacterRow) (gpos : Option PositioningTable)
    → IfOk (gpos_with_kern room table characters gpos) (λ r. optional_row_count positioning_row_count r.0 + 3 * r.1 ≤ 72 * optional_row_count positioning_row_count gpos + 3 * room)
kern_fits room table characters None =
    weaker (λ r. optional_row_count positioning_row_count r.0 + 3 * r.1 ≤ 3 * room) _ (kern_alone room table characters) (alone_fits room table characters) (λ r h. omega arith)
kern_fits room table characters (Some t) =
    then_if (λ r. positioning_row_count r.0 + 3 * r.1 ≤ 72 * positioning_row_count t + 3 * room) _ (kern_beside room table characters t) _ (beside_fits room table characters t) (λ r h. h)

-- Attachment of marks (OpenType, GPOS lookup types 4, 5 and 6).
use Rattle.std.specs.Prelude.{ℕ, List, Option, option_map, option_and_then, slice_get, length}
use Rattle.buffer_rows.specs.Keys.{row_of}
use Rattle.layout_tables.specs.declared.value.Anchor.{Anchor}
use Rattle.layout_tables.specs.declared.mark.BaseRow.{BaseRow}
use Rattle.layout_tables.specs.declared.mark.LigatureRow.{LigatureRow}
use Rattle.layout_tables.specs.declared.mark.ComponentRecord.{ComponentRecord}

-- the anchor for marks of a class: none where the list ends before it, or has a null anchor there
abbrev pub anchor_at : List (Option Anchor) → ℕ → Option Anchor
anchor_at anchors class = option_and_then (λ anchor. anchor) (slice_get anchors class)

-- the anchor of a base for marks of a class
abbrev pub base_anchor : ℕ → ℕ → List BaseRow → Option Anchor
base_anchor glyph class bases = option_and_then (λ r. anchor_at r.anchors class) (row_of (λ r. r.glyph) glyph bases)

-- the anchor of a component
abbrev pub component_at : List ComponentRecord → ℕ → ℕ → Option Anchor
component_at components component class = option_and_then (λ r. anchor_at r.anchors class) (slice_get components component)

-- the anchor of a ligature's component for marks of a class
abbrev pub component_anchor : ℕ → ℕ → ℕ → List LigatureRow → Option Anchor
component_anchor glyph component class ligatures =
    option_and_then (λ r. component_at r.components component class) (row_of (λ r. r.glyph) glyph ligatures)

-- how many components a ligature has
abbrev pub component_count : ℕ → List LigatureRow → Option ℕ
component_count glyph ligatures = option_map (λ r. length r.components) (row_of (λ r. r.glyph) glyph ligatures)

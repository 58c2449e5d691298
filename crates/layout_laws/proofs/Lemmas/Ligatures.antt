-- What a ligature makes of a cut, piece by piece.
use Rattle.std.proofs.Common.{ℕ, ◌+◌, List, ◌∷◌, ◌++◌, length, map, take, drop}
use Rattle.std.specs.Prelude.{slice_get}
use Rattle.buffer_glyphs.specs.Items.{Item}
use Rattle.buffer_glyphs.specs.Levels.{InList}
use Rattle.buffer_glyphs.specs.Events.{Event, Merge}
use Rattle.layout_face.specs.declared.parts.GlyphDefinition.{GlyphDefinition}
use Rattle.buffer_stages.specs.Actions.{Cut}
use Rattle.layout_gsub.specs.Ligating.{items_at, has_own_number, last_given, own_number, ligature_item, components_at, passed_items, after_components, component_deletions, last_index}

-- the items between the components
abbrev pub items_between_components : List ℕ → Cut → List Item
items_between_components places c = passed_items (has_own_number (items_at places c.rest)) (own_number (items_at places c.rest) c.lig_id) (components_at 0 c.rest) (components_at 0 c.rest) 1 (drop 1 places) c.rest

-- the items after the last component
abbrev pub items_after : List ℕ → ℕ → Cut → List Item
items_after places end c = after_components (items_at places c.rest) (own_number (items_at places c.rest) c.lig_id) (slice_get c.rest (last_index places)) (drop end c.rest)

-- the ligature
abbrev pub first_item : GlyphDefinition → ℕ → List ℕ → Cut → List Item
first_item gdef glyph places c = map (ligature_item gdef glyph (items_at places c.rest) (own_number (items_at places c.rest) c.lig_id)) (take 1 c.rest)

-- the cut after the ligature and what stood between its components
abbrev pub ligated_cut : GlyphDefinition → ℕ → List ℕ → ℕ → Cut → Cut
ligated_cut gdef glyph places end c = record c { front = c.front ++ first_item gdef glyph places c ++ items_between_components places c; rest = items_after places end c; lig_id = last_given (items_at places c.rest) c.lig_id }

-- the merge of all that was matched, and the deletions of the other components
abbrev pub ligated_events : List ℕ → ℕ → Cut → List Event
ligated_events places end c = Merge InList (length c.front) (length c.front + end) ∷ component_deletions (length c.front) 0 (drop 1 places)

-- Multiple substitution (OpenType, GSUB lookup type 2): a sequence of glyphs replaces one.
use Rattle.std.specs.Prelude.{ℕ, ◌+◌, ◌-◌, ◌==◌, min, is_some, if◌then◌else◌, List, [], ◌∷◌, ◌++◌, length, drop, Option, Some, None}
use Rattle.std.specs.Int.RustNames.{bit_and, bit_or}
use Rattle.buffer_glyphs.specs.Items.{Item}
use Rattle.buffer_glyphs.specs.Parts.{first_of}
use Rattle.buffer_glyphs.specs.Events.{Event, Replace, Delete, StrictBreak}
use Rattle.layout_face.specs.declared.parts.GlyphDefinition.{GlyphDefinition}
use Rattle.layout_tables.specs.declared.sequence.SequenceRow.{SequenceRow}
use Rattle.layout_tables.specs.Substitutions.{glyphs_of}
use Rattle.buffer_glyphs.specs.LigatureWords.{component_word, is_ligature, lig_id}
use Rattle.buffer_stages.specs.Actions.{Cut, Passes, Acts, Action, at_first, within_limit}
use Rattle.layout_gsub.specs.Replacements.{glyph_props_of, single_substitution}

-- the properties of one of several glyphs that replace an item: substituted and multiplied, with the item's other
-- flags; its class is GDEF's where GDEF has classes, else a ligature becomes a base, and another class stays
abbrev pub component_props : GlyphDefinition → ℕ → Item → ℕ
component_props gdef glyph x =
    if is_some gdef.classes then bit_or (bit_and (bit_or x.glyph_props 80) 112) (glyph_props_of gdef glyph)
    else if is_ligature x then bit_or (bit_and (bit_or x.glyph_props 80) 112) 2
    else bit_or x.glyph_props 80

-- the i-th of the glyphs that replace an item: the i-th component of it, unless it belongs to a ligature, to which all
-- of them then belong
abbrev pub component_item : GlyphDefinition → Item → ℕ → ℕ → Item
component_item gdef x i glyph = record x { number = glyph; glyph_props = component_props gdef glyph x; lig_props = if lig_id x == 0 then component_word 0 i else x.lig_props }

-- the glyphs that replace an item, from the i-th on
abbrev pub component_items : GlyphDefinition → Item → ℕ → List ℕ → List Item
component_items gdef x i [] = []
component_items gdef x i (glyph ∷ glyphs) = component_item gdef x i glyph ∷ component_items gdef x (i + 1) glyphs

-- the glyphs that replace the item at the cut
abbrev pub multiplied_item : GlyphDefinition → List ℕ → Option Item → List Item
multiplied_item gdef glyphs None = []
multiplied_item gdef glyphs (Some x) = component_items gdef x 0 glyphs

-- the cut where several items replaced the item, and are done
abbrev pub cut_with_multiple : GlyphDefinition → List ℕ → Cut → Cut
cut_with_multiple gdef glyphs c = record c { front = c.front ++ multiplied_item gdef glyphs (first_of c.rest); rest = drop 1 c.rest }

-- several glyphs replace the item at the cut
abbrev pub multiple_substitution : GlyphDefinition → List ℕ → Action
multiple_substitution gdef glyphs c = within_limit (length glyphs) c (Acts (cut_with_multiple gdef glyphs c) (Replace (length c.front) 1 (length glyphs) ∷ []))

-- the event that flags the item at the cut with its two neighbours, where PRODUCE_SAFE_BREAKS is requested
abbrev pub neighbours_flagged : Cut → Event
neighbours_flagged c = StrictBreak (length c.front - 1) (length c.front + min 2 (length c.rest))

-- the item at the cut is deleted: where PRODUCE_SAFE_BREAKS is requested, its neighbours are unsafe to break, since they
-- become neighbours of each other
abbrev pub deletion : Action
deletion c = Acts (record c { rest = drop 1 c.rest }) (neighbours_flagged c ∷ Delete (length c.front) ∷ [])

-- an empty sequence deletes the item, one glyph replaces it as a single substitution does, more replace it as its
-- components
abbrev pub sequence : GlyphDefinition → List ℕ → Action
sequence gdef [] c = deletion c
sequence gdef (glyph ∷ []) c = single_substitution gdef (Some glyph) c
sequence gdef (glyph ∷ next ∷ more) c = multiple_substitution gdef (glyph ∷ next ∷ more) c

-- the sequence of the item's glyph, if there is one
abbrev pub covered_sequence : GlyphDefinition → Option (List ℕ) → Action
covered_sequence gdef None c = Passes []
covered_sequence gdef (Some glyphs) c = sequence gdef glyphs c

-- each covered glyph has a sequence
abbrev pub multiple_subtable : GlyphDefinition → List SequenceRow → Action
multiple_subtable gdef rows c = at_first (λ x. covered_sequence gdef (glyphs_of x.number rows)) (first_of c.rest) c

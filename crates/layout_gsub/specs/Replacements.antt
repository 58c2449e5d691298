-- One glyph replaced by another (OpenType, GSUB lookup types 1 and 3; GDEF, glyph class definition).
use Rattle.std.specs.Prelude.{ℕ, ◌+◌, ◌*◌, ◌%◌, ◌==◌, if◌then◌else◌, List, [], ◌++◌, map, take, drop, Option, Some, None, is_some}
use Rattle.std.specs.Int.RustNames.{bit_and, bit_or}
use Rattle.buffer_glyphs.specs.Items.{Item}
use Rattle.buffer_glyphs.specs.Parts.{first_of}
use Rattle.layout_common.specs.Classes.{class_of}
use Rattle.layout_common.specs.Rows.{value_of}
use Rattle.layout_common.specs.declared.glyph_row.GlyphRow.{GlyphRow}
use Rattle.layout_face.specs.Glyphs.{glyph_class}
use Rattle.layout_face.specs.declared.parts.GlyphDefinition.{GlyphDefinition}
use Rattle.buffer_stages.specs.Actions.{Cut, Passes, Acts, Action, at_first, within_limit}

-- the properties of a GDEF class: its bit, and for class MARK the attachment class in the second byte
abbrev pub props_of_class : ℕ → ℕ → ℕ
props_of_class class attachment = if class == 1 then 2 else if class == 2 then 4 else if class == 3 then 8 + attachment % 256 * 256 else 0

-- the properties that GDEF gives a glyph
abbrev pub glyph_props_of : GlyphDefinition → ℕ → ℕ
glyph_props_of gdef glyph = props_of_class (glyph_class glyph gdef.classes) (class_of glyph gdef.attach)

-- the properties of a glyph that replaces another: substituted, with the other's flags; its class is GDEF's where GDEF
-- has classes, else it stays
abbrev pub substituted_props : GlyphDefinition → ℕ → ℕ → ℕ
substituted_props gdef glyph old = if is_some gdef.classes then bit_or (bit_and (bit_or old 16) 112) (glyph_props_of gdef glyph) else bit_or old 16

-- an item with another glyph
abbrev pub substituted_item : GlyphDefinition → ℕ → Item → Item
substituted_item gdef glyph x = record x { number = glyph; glyph_props = substituted_props gdef glyph x.glyph_props }

-- the cut where another glyph replaced the item, and is done
abbrev pub cut_with_substitute : GlyphDefinition → ℕ → Cut → Cut
cut_with_substitute gdef glyph c = record c { front = c.front ++ map (substituted_item gdef glyph) (take 1 c.rest); rest = drop 1 c.rest }

-- a glyph replaces the item at the cut, where there is one
abbrev pub single_substitution : GlyphDefinition → Option ℕ → Action
single_substitution gdef None c = Passes []
single_substitution gdef (Some glyph) c = within_limit 1 c (Acts (cut_with_substitute gdef glyph c) [])

-- single substitution: each covered glyph has one substitute
abbrev pub single_subtable : GlyphDefinition → List (GlyphRow ℕ) → Action
single_subtable gdef rows c = at_first (λ x. single_substitution gdef (value_of x.number rows)) (first_of c.rest) c

-- A ligature that replaces the glyph at the cursor alone (HarfBuzz: `replace_glyph_with_ligature`).
use Rattle.std.specs.Prelude.{ℕ, ◌==◌, is_some, if◌then◌else◌, [], ◌++◌, map, take, drop}
use Rattle.std.specs.Int.RustNames.{bit_and, bit_or}
use Rattle.buffer_glyphs.specs.Items.{Item}
use Rattle.layout_face.specs.declared.parts.GlyphDefinition.{GlyphDefinition}
use Rattle.buffer_stages.specs.Actions.{Cut, Acts, Action, within_limit}
use Rattle.layout_gsub.specs.Replacements.{glyph_props_of}

-- the properties of a ligature that replaces a glyph: substituted and ligated, and not multiplied; its class is GDEF's
-- where GDEF has classes, else the guess, and where that is 0 the class stays
abbrev pub guessed_ligature_props : GlyphDefinition → ℕ → ℕ → ℕ → ℕ
guessed_ligature_props gdef glyph guess old =
    if is_some gdef.classes then bit_or (bit_and (bit_or old 48) 48) (glyph_props_of gdef glyph)
    else if guess == 0 then bit_and (bit_or old 48) 0xFFBF
    else bit_or (bit_and (bit_or old 48) 48) guess

-- an item with a ligature's glyph and such properties
abbrev pub ligated_item : GlyphDefinition → ℕ → ℕ → Item → Item
ligated_item gdef glyph guess x = record x { number = glyph; glyph_props = guessed_ligature_props gdef glyph guess x.glyph_props }

-- the cut where a ligature replaced the item, and is done
abbrev pub cut_with_ligature : GlyphDefinition → ℕ → ℕ → Cut → Cut
cut_with_ligature gdef glyph guess c = record c { front = c.front ++ map (ligated_item gdef glyph guess) (take 1 c.rest); rest = drop 1 c.rest }

-- a ligature replaces the item at the cut
abbrev pub ligature_replacement : GlyphDefinition → ℕ → ℕ → Action
ligature_replacement gdef glyph guess c = within_limit 1 c (Acts (cut_with_ligature gdef glyph guess c) [])

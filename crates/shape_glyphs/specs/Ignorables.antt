-- Default ignorable characters, which show no glyph.
use Rattle.std.specs.Prelude.{ℕ, ◌==◌, not, Bool, if◌then◌else◌, [], Option, Some, None}
use Rattle.std.specs.Option.{option_or}
use Rattle.std.specs.Int.RustNames.{bit_and}
use Rattle.buffer_common.specs.declared.constants.BufferFlags.{BufferFlags}
use Rattle.layout_face.specs.declared.parts.FaceParts.{FaceParts}
use Rattle.layout_face.specs.Glyphs.{nominal_glyph}
use Rattle.buffer_glyphs.specs.Items.{Item}
use Rattle.buffer_core.specs.Readings.{View, Read, with_events}
use Rattle.buffer_lists.specs.Events.{deletions}
use Rattle.buffer_lists.specs.Facts.{items_kept, positions_kept}
use Rattle.buffer_glyphs.specs.PropertyWords.{is_default_ignorable}
use Rattle.buffer_stages.specs.Stages.{with_items_mapped}

-- PRESERVE_DEFAULT_IGNORABLES is set
abbrev pub preserves_ignorables : BufferFlags → Bool
preserves_ignorables flags = bit_and flags.0 4 == 4

-- REMOVE_DEFAULT_IGNORABLES is set
abbrev pub removes_ignorables : BufferFlags → Bool
removes_ignorables flags = bit_and flags.0 8 == 8

-- the glyph of default ignorables: the invisible glyph that is set, else the font's space; none where they are to be
-- deleted
abbrev pub invisible_glyph : BufferFlags → Option ℕ → FaceParts → Option ℕ
invisible_glyph flags set font = if removes_ignorables flags then None else option_or set (nominal_glyph 0x20 font)

-- an item was made of a default ignorable, which a substitution may have made into a glyph
abbrev pub is_ignorable_character : Item → Bool
is_ignorable_character x = not (bit_and x.unicode_props 0x20 == 0)

-- an item that has the given glyph if it is a default ignorable (HarfBuzz: hb_ot_hide_default_ignorables)
abbrev pub hidden_item : ℕ → Item → Item
hidden_item glyph x = if is_default_ignorable x then record x { number = glyph } else x

-- the view where default ignorables are deleted with their positions
abbrev pub without_ignorables : View → Read
without_ignorables v = with_events (deletions is_default_ignorable v.items) (record v { items = items_kept is_default_ignorable v.items; positions = positions_kept is_default_ignorable v.items v.positions })

-- the view where default ignorables have the invisible glyph, or are deleted where there is none
abbrev pub ignorables_hidden_by : Option ℕ → View → Read
ignorables_hidden_by (Some glyph) v = with_items_mapped (hidden_item glyph) v
ignorables_hidden_by None v = without_ignorables v

-- the view where default ignorables are hidden (HarfBuzz: hb_ot_hide_default_ignorables)
abbrev pub ignorables_hidden : BufferFlags → Option ℕ → FaceParts → View → Read
ignorables_hidden flags set font v = if preserves_ignorables flags then with_events [] v else ignorables_hidden_by (invisible_glyph flags set font) v

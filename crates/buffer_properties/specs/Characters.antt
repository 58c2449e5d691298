-- Items of characters, and their properties.
use Rattle.std.specs.Prelude.{ℕ, Bool, ◌==◌, ◌||◌, ◌+◌, ◌-◌, if◌then◌else◌, List, map}
use Rattle.std.specs.Int.RustNames.{bit_and, bit_or}
use Rattle.ucd_category.specs.declared.GeneralCategory.TheVariants.{Format, SpacingMark, EnclosingMark, NonspacingMark, SpaceSeparator}
use Rattle.buffer_unicode.specs.Category.{category_number}
use Rattle.buffer_unicode.specs.Character.{is_variation_selector_character}
use Rattle.buffer_unicode_tables.specs.Tables.{Tables}
use Rattle.buffer_properties.specs.Properties.{is_mark_character, properties_of, character_class, without_bits}
use Rattle.buffer_glyphs.specs.Items.{Item}

-- the number of an item's general category
abbrev pub category_of : Item → ℕ
category_of x = bit_and x.unicode_props 0x1F

-- whether a number is that of category Mc, Me or Mn
abbrev pub is_mark_number : ℕ → Bool
is_mark_number n = n == category_number SpacingMark || (n == category_number EnclosingMark || n == category_number NonspacingMark)

-- whether an item is a combining mark
abbrev pub is_mark : Item → Bool
is_mark x = is_mark_number (category_of x)

-- whether an item is a space (Zs)
abbrev pub is_space : Item → Bool
is_space x = category_of x == category_number SpaceSeparator

-- whether an item is a variation selector
abbrev pub is_selector : Item → Bool
is_selector x = is_variation_selector_character x.number

-- the modified combining class; 0 for an item that is no combining mark
abbrev pub mark_class : Item → ℕ
mark_class x = if is_mark x then x.class else 0

-- an item with another character and that character's properties
abbrev pub standing_for : Tables → ℕ → Item → Item
standing_for t u x = record x { number = u; unicode_props = properties_of u; class = character_class t u }

-- a text as items that differ only in their characters
abbrev pub items_of_text : Tables → Item → List ℕ → List Item
items_of_text t x us = map (λ u. standing_for t u x) us

-- the characters of a list of items
abbrev pub characters_of : List Item → List ℕ
characters_of xs = map (λ (x : Item). x.number) xs

-- an item with its glyph
abbrev pub with_glyph : ℕ → Item → Item
with_glyph g x = record x { glyph_index = g }

-- a property word with another category
abbrev pub with_category : ℕ → ℕ → ℕ
with_category n props = props - bit_and props 0x1F + n

-- an item without the flag that hides it
abbrev pub visible_item : Item → Item
visible_item x = record x { unicode_props = without_bits 0x40 x.unicode_props }

-- a variation selector that the font doesn't join with the character before it, no longer a combining mark; where there
-- is a glyph for such a selector, it is no longer ignorable either
abbrev pub unjoined_selector : Bool → Item → Item
unjoined_selector has_glyph x =
    let props = bit_or (with_category (category_number Format) x.unicode_props) 0x400 in
    record x { unicode_props = if has_glyph then without_bits 0x20 props else props }

-- The first round of normalisation: characters are split, and variation selectors join the characters before them.
use Rattle.std.specs.Prelude.{ℕ, Bool, ◌==◌, ◌&&◌, nat_lt, if◌then◌else◌, List, [], ◌∷◌, ◌++◌, map, Option, Some, None, unwrap_or, is_some}
use Rattle.std.specs.List.{list_any}
use Rattle.std.specs.Option.{option_or}
use Rattle.buffer_unicode.specs.Character.{space_fallback_of}
use Rattle.buffer_unicode.specs.declared.space.TheConstants.{NOT_SPACE}
use Rattle.buffer_glyphs.specs.Items.{Item}
use Rattle.buffer_glyphs.specs.Rewriting.{Arrangement, eventless_arrangement, replacement, in_turn}
use Rattle.buffer_properties.specs.Characters.{is_mark, is_space, is_selector, standing_for, with_glyph, unjoined_selector}
use Rattle.buffer_properties.specs.Normalizer.{Normalizer, has_character, reach_alone, reach_with_marks}
use Rattle.buffer_properties.specs.SupportedExpansion.{Reach, expansion}

-- an item with the font's glyph, or with glyph 0 where the font has none
abbrev pub with_own_glyph : Normalizer → Item → Item
with_own_glyph c x = with_glyph (unwrap_or (c.glyph_of x.number) 0) x

-- a space of a known width
abbrev pub is_typed_space : Item → Bool
is_typed_space x = is_space x && nat_lt NOT_SPACE (space_fallback_of x.number)

-- the glyph for a space that the font lacks: that of U+0020, else the invisible one
abbrev pub space_glyph : Normalizer → Item → Option ℕ
space_glyph c x = if is_typed_space x then option_or (c.glyph_of 0x20) c.invisible else None

-- the glyph for the non-breaking hyphen U+2011: the hyphen's
abbrev pub hyphen_glyph : Normalizer → Item → Option ℕ
hyphen_glyph c x = if x.number == 0x2011 then c.glyph_of 0x2010 else None

-- a character that the font lacks and that isn't split: a space keeps its type instead of a class
abbrev pub with_glyph_of_space : Normalizer → Item → Option ℕ → Item
with_glyph_of_space c x None = with_glyph (unwrap_or (hyphen_glyph c x) c.not_found) x
with_glyph_of_space c x (Some g) = record x { glyph_index = g; class = space_fallback_of x.number }

-- a character that stays whole: with its own glyph, else another's, else the not-found glyph
abbrev pub with_found_glyph : Normalizer → Item → Option ℕ → Item
with_found_glyph c x None = with_glyph_of_space c x (space_glyph c x)
with_found_glyph c x (Some g) = with_glyph g x

-- a character that stays whole
abbrev pub whole_item : Normalizer → Item → Item
whole_item c x = with_found_glyph c x (c.glyph_of x.number)

-- the item of a character of the font, made from the item of which it is a piece
unfoldable pub piece_of : Normalizer → Item → ℕ → Item
piece_of c x u = with_own_glyph c (standing_for c.tables u x)

-- the items of a character's expansion, or the whole character
abbrev pub items_for : Normalizer → Item → Option (List ℕ) → List Item
items_for c x None = whole_item c x ∷ []
items_for c x (Some us) = map (piece_of c x) us

-- the items that replace an item
unfoldable pub expanded_item : Normalizer → Reach → Item → List Item
expanded_item c reach x = items_for c x (expansion reach (has_character c) c.splits x.number)

-- an item expanded, with its events
abbrev pub item_expansion : Normalizer → Reach → Item → Arrangement
item_expansion c reach x = replacement 1 (expanded_item c reach x)

-- an item that isn't expanded
abbrev pub unexpanded_item : Normalizer → Item → Arrangement
unexpanded_item c x = eventless_arrangement (with_own_glyph c x ∷ [])

-- an item and the variation selector after it: one item where the font has the pair
abbrev pub selection : Normalizer → Item → Item → Option ℕ → List Arrangement
selection c x s None = unexpanded_item c x ∷ unexpanded_item c (unjoined_selector (is_some c.unjoined_glyph) s) ∷ []
selection c x s (Some g) = replacement 2 (with_glyph g x ∷ []) ∷ []

-- the item that may still be followed by a variation selector, if there is one
abbrev pub pending_item : Normalizer → Option Item → List Arrangement
pending_item c None = []
pending_item c (Some x) = unexpanded_item c x ∷ []

-- an item before a variation selector, if there is one, and the selector
abbrev pub meets_selector : Normalizer → Option Item → Item → List Arrangement
meets_selector c None s = unexpanded_item c s ∷ []
meets_selector c (Some x) s = selection c x s (c.variant_of x.number s.number)

-- items with selectors among them: a selector after another selects nothing
abbrev pub selections_after : Normalizer → Option Item → List Item → List Arrangement
selections_after c before [] = pending_item c before
selections_after c before (x ∷ xs) = if is_selector x then meets_selector c before x ++ selections_after c None xs else pending_item c before ++ selections_after c (Some x) xs

-- an item with its combining marks
abbrev pub expanded_with_marks : Normalizer → Item → List Item → List Arrangement
expanded_with_marks c x marks =
    if list_any is_selector (x ∷ marks) then selections_after c (Some x) marks else map (item_expansion c (reach_with_marks c.mode)) (x ∷ marks)

-- an item alone, or with the combining marks after it
abbrev pub expanded_group : Normalizer → Item → List Item → List Arrangement
expanded_group c x [] = item_expansion c (reach_alone c.mode) x ∷ []
expanded_group c x (m ∷ marks) = expanded_with_marks c x (m ∷ marks)

-- each item with the combining marks after it; `x` and `marks` are the last ones read
abbrev pub expanded_groups : Normalizer → Item → List Item → List Item → List Arrangement
expanded_groups c x marks [] = expanded_group c x marks
expanded_groups c x marks (y ∷ ys) = if is_mark y then expanded_groups c x (marks ++ y ∷ []) ys else expanded_group c x marks ++ expanded_groups c y [] ys

-- a list expanded
abbrev pub expanded_list : Normalizer → List Item → Arrangement
expanded_list c [] = eventless_arrangement []
expanded_list c (x ∷ xs) = in_turn (expanded_groups c x [] xs)

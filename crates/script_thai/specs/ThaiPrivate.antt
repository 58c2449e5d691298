-- Thai in fonts with private-use presentation forms: marks that are shifted down or left, and consonants that lose
-- their descender.
use Rattle.std.specs.Prelude.{ℕ, ◌==◌, ◌&&◌, Bool, true, false, nat_le, if◌then◌else◌, is_some, List, [], ◌∷◌, Option, None, Some, map}
use Rattle.std.specs.Option.{option_or}
use Rattle.std.specs.List.{list_any}
use lib.Utf8.{scalar}
use Rattle.buffer_unicode_tables.specs.Tables.{Tables, thai_of}
use Rattle.layout_face.specs.declared.parts.FaceParts.{FaceParts}
use Rattle.layout_face.specs.Glyphs.{nominal_glyph}
use Rattle.script_categories.specs.declared.thai_action.TheConstants as action
use Rattle.buffer_glyphs.specs.Items.{Item}
use Rattle.buffer_core.specs.Readings.{View, Read, with_events}
use Rattle.buffer_glyphs.specs.Replacements.{item_numbered}
use Rattle.script_thai.specs.declared.thai_private.Consonant.{Consonant}
use Rattle.script_thai.specs.declared.thai_private.Consonant.TheVariants.{NC, AC, RC, DC, NotConsonant}
use Rattle.script_thai.specs.declared.thai_private.Mark.{Mark}
use Rattle.script_thai.specs.declared.thai_private.Mark.TheVariants.{AV, BV, T, NotMark}
use Rattle.script_thai.specs.declared.thai_private.Above.{Above}
use Rattle.script_thai.specs.declared.thai_private.Above.TheVariants.{T0, T1, T2, T3}
use Rattle.script_thai.specs.declared.thai_private.Below.{Below}
use Rattle.script_thai.specs.declared.thai_private.Below.TheVariants.{B0, B1, B2}
use Rattle.script_thai.specs.declared.thai_private.State.{State}

-- a character is one of a list
abbrev is_among : List ℕ → ℕ → Bool
is_among us u = list_any (λ v. u == v) us

-- the type of a consonant: with an ascender, a removable or a strict descender, or none (HarfBuzz: get_consonant_type)
abbrev pub consonant_of : ℕ → Consonant
consonant_of u =
    if is_among (0x0E1B ∷ 0x0E1D ∷ 0x0E1F ∷ []) u then AC
    else if is_among (0x0E0D ∷ 0x0E10 ∷ []) u then RC
    else if is_among (0x0E0E ∷ 0x0E0F ∷ []) u then DC
    else if nat_le 0x0E01 u && nat_le u 0x0E2E then NC
    else NotConsonant

-- the type of a mark: vowel above, vowel below, or tone (HarfBuzz: get_mark_type)
abbrev pub mark_of : ℕ → Mark
mark_of u =
    if is_among (0x0E31 ∷ 0x0E34 ∷ 0x0E35 ∷ 0x0E36 ∷ 0x0E37 ∷ 0x0E47 ∷ 0x0E4D ∷ 0x0E4E ∷ []) u then AV
    else if nat_le 0x0E38 u && nat_le u 0x0E3A then BV
    else if nat_le 0x0E48 u && nat_le u 0x0E4C then T
    else NotMark

-- the state above after a character that is no mark (HarfBuzz: thai_above_start_state)
abbrev pub above_start : Consonant → Above
above_start NC = T0
above_start AC = T1
above_start RC = T0
above_start DC = T0
above_start NotConsonant = T3

-- the state below after a character that is no mark (HarfBuzz: thai_below_start_state)
abbrev pub below_start : Consonant → Below
below_start NC = B0
below_start AC = B0
below_start RC = B1
below_start DC = B2
below_start NotConsonant = B2

-- both states after a character that is no mark
abbrev pub start_state : Consonant → State
start_state c = record { above = above_start c; below = below_start c }

-- the action on a mark in a state above (HarfBuzz: thai_above_state_machine)
abbrev pub above_action : Above → Mark → Option ℕ
above_action T0 T = Some action.SD
above_action T1 AV = Some action.SL
above_action T1 T = Some action.SDL
above_action T2 T = Some action.SL
above_action a m = None

-- the state above after a mark (HarfBuzz: thai_above_state_machine)
abbrev pub above_next : Above → Mark → Above
above_next T0 AV = T3
above_next T0 T = T3
above_next T1 AV = T2
above_next T1 T = T2
above_next T2 AV = T3
above_next T2 T = T3
above_next a m = a

-- the action on a mark in a state below; a vowel below deletes a removable descender and is not shifted (HarfBuzz:
-- thai_below_state_machine)
abbrev pub below_action : Below → Mark → Option ℕ
below_action B2 BV = Some action.SD
below_action b m = None

-- the state below after a mark (HarfBuzz: thai_below_state_machine)
abbrev pub below_next : Below → Mark → Below
below_next b BV = B2
below_next b m = b

-- a vowel below is among the marks, by the next mark and those after it
abbrev pub is_followed_from : Mark → Bool → Bool
is_followed_from AV rest = rest
is_followed_from BV rest = true
is_followed_from T rest = rest
is_followed_from NotMark rest = false

-- a vowel below is among the marks that follow
abbrev pub is_followed_below : List ℕ → Bool
is_followed_below [] = false
is_followed_below (u ∷ us) = is_followed_from (mark_of u) (is_followed_below us)

-- the action on a consonant, which depends on the characters after it
abbrev pub consonant_action : Consonant → List ℕ → Option ℕ
consonant_action RC us = if is_followed_below us then Some action.RD else None
consonant_action c us = None

-- the action on a character, by its type and the characters after it
abbrev pub action_on : State → Mark → ℕ → List ℕ → Option ℕ
action_on s NotMark u us = consonant_action (consonant_of u) us
action_on s m u us = option_or (above_action s.above m) (below_action s.below m)

-- both states after a character of a type
abbrev pub state_from : State → Mark → ℕ → State
state_from s NotMark u = start_state (consonant_of u)
state_from s m u = record { above = above_next s.above m; below = below_next s.below m }

-- both states after a character
abbrev pub state_after : State → ℕ → State
state_after s u = state_from s (mark_of u) u

-- the first of two characters that the font has, else the given one
abbrev pub first_known : FaceParts → ℕ → Option (ℕ × ℕ) → ℕ
first_known font u None = u
first_known font u (Some row) = if is_some (nominal_glyph row.0 font) then row.0 else if is_some (nominal_glyph row.1 font) then row.1 else u

-- the character that an action makes of another, where the font has it (HarfBuzz: thai_pua_shape)
abbrev pub character_after : Tables → FaceParts → Option ℕ → ℕ → ℕ
character_after t font None u = u
character_after t font (Some a) u = if scalar u then first_known font u (thai_of t u a) else u

-- the character that replaces one, by the state and the characters after it
abbrev pub character_shaped : Tables → FaceParts → State → ℕ → List ℕ → ℕ
character_shaped t font s u us = character_after t font (action_on s (mark_of u) u us) u

-- the characters of items
abbrev pub numbers_of : List Item → List ℕ
numbers_of xs = map (λ (x : Item). x.number) xs

-- items with their characters replaced, from a state on
abbrev pub items_shaped : Tables → FaceParts → State → List Item → List Item
items_shaped t font s [] = []
items_shaped t font s (x ∷ xs) = item_numbered x (character_shaped t font s x.number (numbers_of xs)) ∷ items_shaped t font (state_after s x.number) xs

-- the view with its characters replaced, from the state after a character that is no consonant (HarfBuzz:
-- do_thai_pua_shaping)
abbrev pub with_private : Tables → FaceParts → View → Read
with_private t font v = with_events [] (record v { items = items_shaped t font (start_state NotConsonant) v.items })

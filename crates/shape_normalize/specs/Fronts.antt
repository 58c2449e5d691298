-- Characters at the front of a text that stay whole, with the font's glyphs.
use Rattle.std.specs.Prelude.{ℕ, ◌≡◌, ◌≤◌, ◌&&◌, ◌∷◌, Bool, true, List, Option, length, map, take, drop, is_none, is_some, unwrap_or}
use Rattle.buffer_glyphs.specs.declared.info.hb_glyph_info_t.{hb_glyph_info_t}
use Rattle.buffer_glyphs.specs.Items.{Item, strip}
use Rattle.buffer_glyphs.specs.Origins.{origins}
use Rattle.buffer_core.specs.Sides.{Sides, all_glyphs, items_of}
use Rattle.buffer_glyphs.specs.Rewriting.{Arrangement, beside, eventless_arrangement, in_turn}
use Rattle.buffer_properties.specs.Expanding.{expanded_group, expanded_list, with_own_glyph}
use Rattle.buffer_properties.specs.Normalizer.{Normalizer}
use Rattle.buffer_properties.specs.declared.normal_mode.Reach.{Reach}
use Rattle.buffer_properties.specs.declared.normal_mode.Reach.TheVariants.{Least, Greatest}
use Rattle.buffer_stages.specs.Stages.{Becomes}

-- the first n items as they are, and the expansion of those after them
abbrev pub expansion_after : Normalizer → ℕ → List Item → Arrangement
expansion_after c n xs = beside (eventless_arrangement (take n xs)) (expanded_list c (drop n xs))

-- whether a decomposition is not looked for, or there is none
abbrev pub is_undecomposed : Reach → Option (ℕ × ℕ) → Bool
is_undecomposed Least o = true
is_undecomposed Greatest o = is_none o

-- whether an item stays whole: the font has its character, which isn't decomposed
abbrev pub is_whole : Normalizer → Reach → Item → Bool
is_whole c reach x = is_some (c.glyph_of x.number) && is_undecomposed reach (c.splits x.number)

-- whether a character stays whole: the font has it, and it isn't decomposed
abbrev pub is_whole_character : Normalizer → Reach → ℕ → Bool
is_whole_character c reach u = is_some (c.glyph_of u) && is_undecomposed reach (c.splits u)

-- an item with the combining marks after it expands to these items with the font's glyphs
abbrev pub StaysWhole : Normalizer → List hb_glyph_info_t → Type 0
StaysWhole c gs = (x : Item) (marks : List Item) → strip gs ≡ x ∷ marks → in_turn (expanded_group c x marks) ≡ eventless_arrangement (map (with_own_glyph c) (x ∷ marks))

-- a glyph record with the font's glyph of its character
abbrev pub glyph_with_own : Normalizer → hb_glyph_info_t → hb_glyph_info_t
glyph_with_own c g = record g { glyph_index = unwrap_or (c.glyph_of g.glyph_id) 0 }

-- a glyph record with a glyph
abbrev pub glyph_with_index : ℕ → hb_glyph_info_t → hb_glyph_info_t
glyph_with_index n g = record g { glyph_index = n }

-- the first n items got the font's glyphs of their characters; nothing else changed, and they are what they expand to
pub record TakesGlyphs (c : Normalizer) (n : ℕ) (old new : List hb_glyph_info_t) : Type 0 where
  pub expanded : expanded_list c (strip old) ≡ expansion_after c n (strip new)
  pub origins : origins new ≡ origins old
  pub within : n ≤ length new

-- the first n of a buffer's items got the font's glyphs of their characters; nothing else changed, and they are what they
-- expand to
pub record TakesFront (c : Normalizer) (n : ℕ) (old new : Sides) : Type 0 where
  pub expanded : expanded_list c (items_of old) ≡ expansion_after c n (items_of new)
  pub becomes : Becomes (items_of new) old.positions old new
  pub within : n ≤ length (all_glyphs new)

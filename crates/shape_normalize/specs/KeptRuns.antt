-- Runs of characters that the first round passes as they are.
use Rattle.std.specs.Prelude.{ℕ, Bool, ◌≡◌, ◌<◌, ◌≤◌, ◌==◌, ◌&&◌, List, length, map, drop, not, if◌then◌else◌}
use Rattle.buffer_core.specs.Sides.{Sides}
use Rattle.buffer_glyphs.specs.Items.{Item, strip}
use Rattle.buffer_glyphs.specs.Rewriting.{Arrangement, beside}
use Rattle.buffer_properties.specs.Characters.{is_selector}
use Rattle.buffer_properties.specs.Expanding.{expanded_list, with_own_glyph}
use Rattle.buffer_properties.specs.Normalizer.{Normalizer, reach_alone, reach_with_marks}
use Rattle.buffer_properties.specs.declared.normal_mode.Reach.{Reach}
use Rattle.buffer_stages.specs.Appending.{AppendsArrangement}
use Rattle.shape_normalize.specs.Fronts.{expansion_after, glyph_with_own, is_undecomposed}

-- each character ahead got the font's glyph, or glyph 0
abbrev pub IsGiven : Normalizer → Sides → Sides → Type 0
IsGiven c old new = new ≡ record old { ahead = map (glyph_with_own c) old.ahead }

-- items have the font's glyphs of their characters, or glyph 0
abbrev pub HasOwn : Normalizer → List Item → Type 0
HasOwn c xs = map (with_own_glyph c) xs ≡ xs

-- whether an item that has the font's glyph stays whole, and no selector is to be looked at
abbrev pub is_kept : Normalizer → Reach → Item → Bool
is_kept c reach x = not (x.glyph_index == 0) && (not (is_selector x) && is_undecomposed reach (c.splits x.number))

-- how far the items of a group of n are decomposed
abbrev pub group_reach : Normalizer → ℕ → Reach
group_reach c n = if n == 1 then reach_alone c.mode else reach_with_marks c.mode

-- the first n items are what they expand to, if they have the font's glyphs
pub record Keeps (c : Normalizer) (n : ℕ) (xs : List Item) : Type 0 where
  pub within : n ≤ length xs
  pub expanded : HasOwn c xs → expanded_list c xs ≡ expansion_after c n xs

-- the first items ahead were output, each as it expands, and at least one was
pub record Advances (c : Normalizer) (old new : Sides) : Type 0 where
  pub count : ℕ
  pub done : Arrangement
  pub some : 0 < count
  pub brought : AppendsArrangement done (drop count (strip old.ahead)) old new
  pub whole : expanded_list c (strip old.ahead) ≡ beside done (expanded_list c (drop count (strip old.ahead)))

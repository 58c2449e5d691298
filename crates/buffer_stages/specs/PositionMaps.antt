-- Positions that are changed one by one, each by its glyph.
use Rattle.std.specs.Prelude.{◌≡◌, List, [], ◌∷◌, Option, unwrap_or}
use Rattle.std.specs.Fn.{Shared, FnReturns}
use denote.Ref.{Bor}
use Rattle.buffer_glyphs.specs.declared.info.hb_glyph_info_t.{hb_glyph_info_t}
use Rattle.buffer_glyphs.specs.declared.position.GlyphPosition.{GlyphPosition}
use Rattle.buffer_glyphs.specs.Items.{Item, Position, item_of}
use Rattle.buffer_core.specs.Readings.{View, Read, with_events}

-- each position changed by its item
abbrev pub positions_mapped : (Item → Position → Position) → List Item → List Position → List Position
positions_mapped k [] ps = []
positions_mapped k (x ∷ xs) [] = []
positions_mapped k (x ∷ xs) (p ∷ ps) = k x p ∷ positions_mapped k xs ps

-- the reading of a stage that changes each position by its item
abbrev pub with_positions_mapped : (Item → Position → Position) → View → Read
with_positions_mapped k v = with_events [] (record v { positions = positions_mapped k v.items v.positions })

-- each position that a function makes of a glyph and its position is the one that a map makes of the glyph's item
abbrev pub MakesPositions : {F : Type 0} → Shared F (Bor hb_glyph_info_t × (GlyphPosition × Unit {0})) GlyphPosition → F → (Item → Position → Position) → Type 0
MakesPositions calls f k = (g : Bor hb_glyph_info_t) (p q : GlyphPosition) → FnReturns calls f (g, (p, tt)) q → q ≡ k (item_of g.now) p

-- each position that a function makes of a glyph and its position, or that position where it makes none, is the one that a
-- map makes of the glyph's item
abbrev pub ChangesPositions : {F : Type 0} → Shared F (Bor hb_glyph_info_t × (GlyphPosition × Unit {0})) (Option GlyphPosition) → F → (Item → Position → Position) → Type 0
ChangesPositions calls f k = (g : Bor hb_glyph_info_t) (p : GlyphPosition) (q : Option GlyphPosition) → FnReturns calls f (g, (p, tt)) q → unwrap_or q p ≡ k (item_of g.now) p

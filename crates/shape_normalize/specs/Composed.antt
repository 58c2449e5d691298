-- A mark that is composed with a glyph of the output.
use Rattle.std.specs.Prelude.{ℕ, ◌≡◌, ◌≤◌, ◌+◌, true, false, List, [], ◌∷◌, length, drop, slice_set}
use Rattle.buffer_glyphs.specs.declared.info.hb_glyph_info_t.{hb_glyph_info_t}
use Rattle.buffer_glyphs.specs.Items.{Item, strip}
use Rattle.buffer_glyphs.specs.Levels.{InOutput}
use Rattle.buffer_glyphs.specs.Events.{Event, Merge, Replace}
use Rattle.buffer_core.specs.Sides.{Sides, all_glyphs, origins_of, origins_by}
use Rattle.buffer_stages.specs.Appending.{frame_of}

-- an output is open, no call has failed, and each side has room for the whole list
pub record HasRoom (s : Sides) : Type 0 where
  pub is_open : s.is_open ≡ true
  pub unrefused : s.has_refused ≡ false
  pub fits : length (all_glyphs s) ≤ s.max_len

-- a glyph of the output was set
pub record IsWritten (at : ℕ) (g : hb_glyph_info_t) (old new : Sides) : Type 0 where
  pub behind : new.behind ≡ slice_set old.behind at g
  pub ahead : new.ahead ≡ old.ahead
  pub frame : frame_of new ≡ frame_of old

-- the events of a composition: the merge from the starter to the mark, and the mark's deletion
abbrev pub composition_events : ℕ → ℕ → List Event
composition_events starter mark = Merge InOutput starter (mark + 1) ∷ Replace mark 1 0 ∷ []

-- the composite replaces the starter, and the current mark is deleted
pub record IsComposed (starter : ℕ) (x : Item) (old new : Sides) : Type 0 where
  pub behind : strip new.behind ≡ slice_set (strip old.behind) starter x
  pub ahead : strip new.ahead ≡ drop 1 (strip old.ahead)
  pub happened : origins_of new ≡ origins_by (composition_events starter (length old.behind)) old
  pub frame : frame_of new ≡ frame_of old

-- A range of a ready buffer that is arranged in place.
use Rattle.std.specs.Prelude.{ℕ, ◌≡◌, ◌+◌, ◌++◌, List, length, map}
use Rattle.buffer_glyphs.specs.Items.{Item}
use Rattle.buffer_core.specs.Sides.{Sides, items_of, origins_of, origins_by}
use Rattle.buffer_stages.specs.Ready.{IsReady}
use Rattle.buffer_glyphs.specs.Rewriting.{Arrangement, shifted_event}
use Rattle.buffer_stages.specs.Appending.{frame_of}

-- an arrangement between two ranges that stay, and all else as before
pub record IsRearranged (front : List Item) (a : Arrangement) (rest : List Item) (old new : Sides) : Type 0 where
  pub items : items_of new ≡ front ++ (a.items ++ rest)
  pub happened : origins_of new ≡ origins_by (map (shifted_event (length front)) a.events) old
  pub frame : frame_of new ≡ frame_of old
  pub ready : IsReady new

-- the items from `start` up to before `end` were arranged
abbrev pub Rearranges : (List Item → Arrangement) → ℕ → ℕ → Sides → Sides → Type 0
Rearranges f start end old new = (front run rest : List Item) → items_of old ≡ front ++ (run ++ rest) → length front ≡ start → start + length run ≡ end → IsRearranged front (f run) rest old new

-- The masks of joining forms have no glyph flag.
use Rattle.std.proofs.Common.{ℕ, List, [], ◌∷◌}
use Rattle.layout_map.specs.Masks.{HaveNoFlag}
use Rattle.script_joining.specs.Glyphs.{AreFlagless}

pub flagless : (masks : List ℕ) → HaveNoFlag masks → AreFlagless masks
flagless [] h = tt
flagless (m ∷ ms) h = (h.0, flagless ms h.1)

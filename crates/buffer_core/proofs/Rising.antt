-- The characters of a text rise.
use Rattle.std.proofs.Common.{ℕ, ◌≡◌, ◌≤◌, ◌+◌, false, List, [], ◌∷◌, ◌++◌, length, arith}
use Rattle.std.specs.Char.{len_utf8}
use Rattle.std.specs.Str.{chars}
use Rattle.buffer_glyphs.specs.declared.info.hb_glyph_info_t.{hb_glyph_info_t}
use Rattle.buffer_glyphs.specs.Items.{clusters}
use Rattle.buffer_glyphs.specs.Order.{AllFrom, IsInOrder, IsRising}
use Rattle.buffer_core.specs.Text.{added_text_from, added_text}

-- the characters of a text, each where it begins
from_least : (m at : ℕ) (cs : List ℕ) → m ≤ at → AllFrom (λ x y. x ≤ y) m (clusters (added_text_from at cs))
from_least m at [] le = tt
from_least m at (c ∷ cs) le = (le, from_least m (at + len_utf8 c) cs (omega arith))

rises_from : (at : ℕ) (cs : List ℕ) → IsRising (clusters (added_text_from at cs))
rises_from at [] = tt
rises_from at (c ∷ cs) = (from_least at (at + len_utf8 c) cs (omega arith), rises_from (at + len_utf8 c) cs)

pub text_rises : (gs : List hb_glyph_info_t) (text : List ℕ) → length gs ≡ 0 → IsInOrder false (clusters gs ++ clusters (added_text text))
text_rises [] text e = rises_from 0 (chars text)
text_rises (g ∷ gs) text e = cc

-- A list that is reversed twice.
use Rattle.std.proofs.Common.{◌≡◌, length, reverse, refl}
use Rattle.std.proofs.lemmas.List.{take-append-drop, reverse-reverse}
use Rattle.std.proofs.Math.Seq.{take-append_seam, drop-append_seam}
use Rattle.buffer_core.specs.Sides.{Sides, all_glyphs, after_reverse}

pub reverse_twice : (s : Sides) → s.read ≡ length s.behind → after_reverse (after_reverse s) ≡ s
reverse_twice s e = rw (take-append-drop s.read (reverse (all_glyphs s)), reverse-reverse (all_glyphs s), reverse-reverse s.positions, e, take-append_seam s.behind s.ahead, drop-append_seam s.behind s.ahead) refl

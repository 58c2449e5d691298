-- Room for copies.
use Rattle.std.proofs.Common.{ℕ, ◌≡◌, ◌<◌, ◌==◌, false, length, refl, arith}
use Rattle.std.proofs.lemmas.Bool.Decides.{nat_tests}
use Rattle.std.proofs.lemmas.Grind.{common_steps}
use Rattle.std.proofs.lemmas.List.{length-append}
use Rattle.buffer_core.specs.Sides.{Sides, all_glyphs, has_output_room}
use Rattle.buffer_core.specs.Merging.{fits_copies}

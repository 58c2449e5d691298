-- Rewritings that leave as many glyphs as there were.
use Rattle.std.proofs.Common.{ℕ, ◌≡◌, ◌≤◌, length, arith, ◌∙◌}
use Rattle.std.specs.Prelude.{slice_range}
use Rattle.buffer_core.specs.Sides.{Sides, all_glyphs, items_of}
use Rattle.buffer_glyphs.specs.Rewriting.{Arrangement}
use Rattle.buffer_stages.specs.SyllableBuffers.{IsRewritten}
use Rattle.buffer_stages.specs.Lemmas.Rewritings.{counted, rewritten_count}
use Rattle.buffer_stages.specs.Lemmas.Parts.{range_size}

-- a range of as many items as were there
pub rewritten_even : (r : Arrangement) (from to : ℕ) (a b : Sides) → from ≤ to → to ≤ length (all_glyphs a) → length r.items ≡ length (slice_range (items_of a) from to) → IsRewritten r from to a b → length (all_glyphs b) ≡ length (all_glyphs a)
rewritten_even r from to a b le fits len f =
    let n = counted a in
    let inside : to ≤ length (items_of a) = omega (arith, n, fits) in
    rewritten_count r from to a b le inside (len ∙ range_size from to (items_of a) le inside) f

-- The glyphs of coverage tables, step by step.
use Rattle.std.proofs.Common.{◌≡◌, ◌≢◌, ℕ, zero, suc, ◌+◌, ◌-◌, ◌<◌, ◌≤◌, nat_le, true, List, [], ◌∷◌, ◌++◌, length, refl, sym, ap, ◌∙◌, append_assoc, arith}
use Rattle.std.proofs.lemmas.Bool.Decides.{nat_tests}
use Rattle.font_common.specs.declared.coverage.RangeRecord.{RangeRecord}
use Rattle.font_common.specs.Coverage.{never_fall, glyph_run, least_after, range_length, is_next, are_ranges}
use Rattle.buffer_facts.proofs.Lists.{one_done}

-- ---- any list

-- ---- format 1

-- a glyph that isn't below the least one
pub fall_step : (least x : ℕ) (rest : List ℕ) → least ≤ x → never_fall least (x ∷ rest) ≡ never_fall x rest
fall_step least x rest low = let e : nat_le least x ≡ true = grind (arith, nat_tests) in rw e refl

-- ---- format 2

run_step : (first count : ℕ) → count ≢ 0 → glyph_run first count ≡ first ∷ glyph_run (first + 1) (count - 1)
run_step first zero some = absurd (some refl)
run_step first (suc count) some = let e : suc count - 1 ≡ count = omega arith in rw e refl

-- the glyph at an offset, and those after it
run_more : (first count offset : ℕ) → offset < count → glyph_run (first + offset) (count - offset) ≡ (first + offset) ∷ glyph_run (first + (offset + 1)) (count - (offset + 1))
run_more first count offset inside =
    let some : count - offset ≢ 0 = omega arith in
    let next : first + offset + 1 ≡ first + (offset + 1) = omega arith in
    let left : count - offset - 1 ≡ count - (offset + 1) = omega arith in
    let e : glyph_run (first + offset) (count - offset) ≡ (first + offset) ∷ glyph_run (first + offset + 1) (count - offset - 1) = run_step (first + offset) (count - offset) some in
    rw (next, left) at e

-- one more glyph of a run is done
pub run_pushed : (done all : List ℕ) (first count offset : ℕ) → offset < count → done ++ glyph_run (first + offset) (count - offset) ≡ all
    → (done ++ (first + offset) ∷ []) ++ glyph_run (first + (offset + 1)) (count - (offset + 1)) ≡ all
run_pushed done all first count offset inside h = one_done done _ all (first + offset) (ap (λ gs. done ++ gs) (sym (run_more first count offset inside)) ∙ h)

-- a run has as many glyphs as it counts
pub length-glyph_run : (first count : ℕ) → length (glyph_run first count) ≡ count
length-glyph_run first zero = refl
length-glyph_run first (suc count) = ap suc (length-glyph_run (first + 1) count)

-- a range that may follow
pub ranges_step : (least index : ℕ) (r : RangeRecord) (rs : List RangeRecord) → is_next least index r ≡ true → are_ranges least index (r ∷ rs) ≡ are_ranges (least_after least r.first r.last) (index + range_length r) rs
ranges_step least index r rs next = rw next refl

-- Glyphs on both sides of the cursor that are marked.
use Rattle.std.proofs.Common.{ℕ, ◌≡◌, ◌≤◌, ◌+◌, ◌-◌, nat_lt, true, false, Bool, if◌then◌else◌, [], ◌∷◌, length, Some, refl, sym, ap, subst, ◌∙◌, arith}
use Rattle.buffer_glyphs.specs.Items.{clusters}
use Rattle.buffer_glyphs.specs.Parts.{range_of}
use Rattle.buffer_glyphs.specs.Glyphs.{glyphs_flagged, glyphs_marked, has_several_numbers}
use Rattle.buffer_glyphs.specs.Lemmas.Glyphs.{strip_flagged, strip_marked}
use Rattle.buffer_glyphs.specs.Events.{Break, Concat}
use Rattle.buffer_core.specs.Sides.{Sides, all_glyphs, origins_of, origins_by}
use Rattle.buffer_core.specs.Marking.{requests_concat, concat_marked_across, after_mark_across, end_in_all, with_flagged, with_flagged_apart}
use Rattle.buffer_stages.specs.Buffers.{IsPassed}
use Rattle.buffer_stages.proofs.Lemmas.Attempts.{cut_with_glyphs}

flagged_passed : (from to : ℕ) (s : Sides) (b : Bool) → from ≤ to → origins_of (if b then with_flagged 2 from to s else s) ≡ origins_by (Concat from to ∷ []) s → IsPassed (Concat from to ∷ []) s (if b then with_flagged 2 from to s else s)
flagged_passed from to s true le happened = record {
  cut_is = cut_with_glyphs (nat_lt from to) (glyphs_flagged 2 from to (all_glyphs s)) s (strip_flagged 2 from to (all_glyphs s) (omega arith) le);
  happened = happened;
  still = refl;
  read = refl;
}
flagged_passed from to s false le happened = record { cut_is = refl; happened = happened; still = refl; read = refl }

marked_passed : (from to : ℕ) (s : Sides) → from ≤ to → origins_of (with_flagged_apart 3 from to s) ≡ origins_by (Break from to ∷ []) s → IsPassed (Break from to ∷ []) s (with_flagged_apart 3 from to s)
marked_passed from to s le happened = record {
  cut_is = cut_with_glyphs (has_several_numbers (range_of from to (clusters (all_glyphs s)))) (glyphs_marked 3 from to (all_glyphs s)) s (strip_marked 3 from to (all_glyphs s) (omega arith) le);
  happened = happened;
  still = refl;
  read = refl;
}

-- an end that is told from the cursor on
end_there : (at ahead : ℕ) (s : Sides) → at ≡ s.read → end_in_all (Some (at + ahead)) s ≡ length s.behind + ahead
end_there at ahead s here = omega (arith, here)

pub concat_around : (back ahead at n : ℕ) (s new : Sides) → at ≡ s.read → n ≡ length s.behind → back ≤ length s.behind → new ≡ concat_marked_across (Some (n - back)) (Some (at + ahead)) s → origins_of new ≡ origins_by (Concat (n - back) (end_in_all (Some (at + ahead)) s) ∷ []) s
    → IsPassed (Concat (length s.behind - back) (length s.behind + ahead) ∷ []) s new
concat_around back ahead at n s new here count le is happened =
    let end = end_there at ahead s here in
    let from = n - back in
    let to = length s.behind + ahead in
    let b = requests_concat s in
    let same : new ≡ (if b then with_flagged 2 from to s else s) = is ∙ ap (λ k. if b then with_flagged 2 from k s else s) end in
    let P : Sides → Type 0 = λ t. IsPassed (Concat from to ∷ []) s t in
    let passed = subst P (sym same) (flagged_passed from to s b (omega (arith, count)) (ap origins_of (sym same) ∙ happened ∙ ap (λ k. origins_by (Concat from k ∷ []) s) end)) in
    let Q : ℕ → Type 0 = λ k. IsPassed (Concat k to ∷ []) s new in
    let start : from ≡ length s.behind - back = omega (arith, count) in
    subst Q start passed

pub break_around : (back ahead at n : ℕ) (s new : Sides) → at ≡ s.read → n ≡ length s.behind → back ≤ length s.behind → new ≡ after_mark_across 3 (Some (n - back)) (Some (at + ahead)) s → origins_of new ≡ origins_by (Break (n - back) (end_in_all (Some (at + ahead)) s) ∷ []) s
    → IsPassed (Break (length s.behind - back) (length s.behind + ahead) ∷ []) s new
break_around back ahead at n s new here count le is happened =
    let end = end_there at ahead s here in
    let from = n - back in
    let to = length s.behind + ahead in
    let same : new ≡ with_flagged_apart 3 from to s = is ∙ ap (λ k. with_flagged_apart 3 from k s) end in
    let P : Sides → Type 0 = λ t. IsPassed (Break from to ∷ []) s t in
    let passed = subst P (sym same) (marked_passed from to s (omega (arith, count)) (ap origins_of (sym same) ∙ happened ∙ ap (λ k. origins_by (Break from k ∷ []) s) end)) in
    let Q : ℕ → Type 0 = λ k. IsPassed (Break k to ∷ []) s new in
    let start : from ≡ length s.behind - back = omega (arith, count) in
    subst Q start passed

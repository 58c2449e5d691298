-- A run of Hebrew marks between two ranges that are unchanged is reordered.
use Rattle.std.proofs.Common.{ℕ, ◌≡◌, ◌+◌, ◌-◌, List, [], ◌∷◌, ◌++◌, Option, None, Some, length, map, refl, sym, ap, ◌∙◌, arith}
use Rattle.std.specs.Prelude.{slice_range}
use Rattle.buffer_glyphs.specs.Items.{Item}
use Rattle.buffer_glyphs.specs.Levels.{InList}
use Rattle.buffer_glyphs.specs.Events.{Move}
use Rattle.buffer_core.specs.Readings.{always}
use Rattle.buffer_core.specs.Sides.{Sides, items_of, view_of}
use Rattle.buffer_stages.specs.Ready.{IsReady}
use Rattle.buffer_stages.specs.Stages.{IsFollowed}
use Rattle.buffer_glyphs.specs.Rewriting.{shifted_event}
use Rattle.buffer_stages.specs.Rearranged.{IsRearranged}
use Rattle.buffer_stages.specs.Moves.{with_range_moved, order_of_move}
use Rattle.script_syllabic.proofs.RangesBetween.{moved_between, run_seen, stage_rearranges}
use Rattle.script_hebrew.specs.Hebrew as hebrew
use Rattle.script_hebrew.specs.MarkOrder.{hebrew_order, with_marks_swapped}
use Rattle.script_hebrew.proofs.MarkCounts.{three_within}

pub hebrew_rearranges : (start end : ℕ) (a b : Sides) (front run rest : List Item) → IsReady a → IsFollowed (always (hebrew.marks_reordered start end)) a b → items_of a ≡ front ++ (run ++ rest) → length front ≡ start → start + length run ≡ end
    → IsRearranged front (hebrew_order run) rest a b
hebrew_rearranges start end a b front run rest ready f e at last =
    let seen : slice_range (items_of a) start end ≡ run = ap (λ xs. slice_range xs start end) e ∙ run_seen front run rest start end at last in
    by_index (hebrew.first_three run) refl (ap hebrew.first_three seen)
  where
    by_index : (n : Option ℕ) → hebrew.first_three run ≡ n → hebrew.first_three (slice_range (items_of a) start end) ≡ hebrew.first_three run → IsRearranged front (with_marks_swapped (hebrew.first_three run) run) rest a b
    by_index None h same =
        stage_rearranges (hebrew.marks_reordered start end) (with_marks_swapped (hebrew.first_three run) run) front rest a b ready f
        (ap (λ p. (hebrew.with_swapped start p (view_of a)).view) (same ∙ h) ∙ ap (λ xs. record (view_of a) { items = xs }) (e ∙ ap (λ p. front ++ ((with_marks_swapped p run).items ++ rest)) (sym h)))
        (ap (λ p. (hebrew.with_swapped start p (view_of a)).events a.level) (same ∙ h) ∙ ap (λ p. map (shifted_event (length front)) (with_marks_swapped p run).events) (sym h))
    by_index (Some n) h same =
        let le = three_within run n h in
        let there : start + (n + 1) ≡ length front + (n + 1) = omega (arith, at) in
        stage_rearranges (hebrew.marks_reordered start end) (with_marks_swapped (hebrew.first_three run) run) front rest a b ready f
        (ap (λ p. (hebrew.with_swapped start p (view_of a)).view) (same ∙ h)
        ∙ ap (λ xs. record (view_of a) { items = xs }) (ap (λ m. with_range_moved m 1 1 (items_of a)) there ∙ ap (with_range_moved (length front + (n + 1)) 1 1) e ∙ moved_between front run rest (n + 1) 1 1 (omega (arith, le)) ∙ ap (λ p. front ++ ((with_marks_swapped p run).items ++ rest)) (sym h)))
        (ap (λ p. (hebrew.with_swapped start p (view_of a)).events a.level) (same ∙ h) ∙ ap (λ m. Move InList m (order_of_move 1 1) ∷ []) there ∙ ap (λ p. map (shifted_event (length front)) (with_marks_swapped p run).events) (sym h))

-- Deletion in place is a walk of deletions.
use Rattle.std.proofs.Common.{ℕ, zero, suc, ◌≡◌, ◌≤◌, ◌||◌, Bool, true, false, if◌then◌else◌, List, [], ◌∷◌, ◌++◌, length, drop, take, refl, arith, ap, sym, ◌∙◌}
use Rattle.std.specs.Int.Bits.{or_add_and}
use Rattle.std.specs.Int.RustNames.{bit_or}
use Rattle.std.proofs.lemmas.Nat.{and_or_self}
use Rattle.std.proofs.lemmas.List.{append-nil}
use Rattle.buffer_glyphs.specs.declared.info.hb_glyph_info_t.{hb_glyph_info_t as Glyph}
use Rattle.buffer_glyphs.specs.Items.{Position, clusters}
use Rattle.buffer_glyphs.specs.Deleting.{deletion_marks, sides_after_deletion}
use Rattle.buffer_lists.specs.DeletionWalk.{DeletionState, many_steps, with_glyph, without_glyph}
use Rattle.buffer_lists.proofs.Lemmas.KeptItems.{back_length}
use Rattle.buffer_core.specs.Grouping.{after_walk, with_deleted}
use Rattle.buffer_core.specs.Laws.{DeletesAsWalk}
use Rattle.buffer_core.specs.Merging.{with_has_glyph_flags}
use Rattle.buffer_core.specs.Sides.{Sides, all_glyphs, after_next_glyphs, requests_breaks, with_output}
use Rattle.buffer_core.proofs.Grouped.{all_picked}

told_once : (f : ℕ) → bit_or (bit_or f 32) 32 ≡ bit_or f 32
told_once f = omega (arith, or_add_and (bit_or f 32) 32, and_or_self 32 f)

told_twice : (a b : Bool) (f : ℕ) → with_has_glyph_flags b (with_has_glyph_flags a f) ≡ with_has_glyph_flags (a || b) f
told_twice true true f = told_once f
told_twice true false f = refl
told_twice false true f = refl
told_twice false false f = refl

abbrev Agrees : Sides → DeletionState → ℕ → Type 0
Agrees v t f = (v.behind ++ v.ahead ≡ t.kept) × (v.scratch_flags ≡ with_has_glyph_flags t.is_marked f)

walks : (n : ℕ) (goes : Glyph → Bool) (f : ℕ) (w : Sides) (gs : List Glyph) (kp pa : List Position) (m : Bool) → length gs ≤ n → w.scratch_flags ≡ with_has_glyph_flags m f
    → Agrees (after_walk goes n (record w { ahead = gs })) (many_steps (requests_breaks w) w.level goes n (record { kept = w.behind; kept_positions = kp; rest_glyphs = gs; rest_positions = pa; is_marked = m })) f
walks zero goes f w [] kp pa m le e = (append-nil w.behind, e)
walks zero goes f w (g ∷ back) kp pa m le e = absurd (omega arith)
walks (suc n) goes f w [] kp pa m le e = walks n goes f w [] kp pa m (omega arith) e
walks (suc n) goes f w (g ∷ back) kp pa m le e =
    let s : Sides = record w { ahead = g ∷ back } in
    let t : DeletionState = record { kept = w.behind; kept_positions = kp; rest_glyphs = g ∷ back; rest_positions = pa; is_marked = m } in
    let left = sides_after_deletion (requests_breaks w) w.level w.behind g back in
    let marks = deletion_marks w.level (clusters w.behind) g.cluster (clusters back) in
    elim (goes g) as (λ b. Agrees (after_walk goes n (if b then with_deleted g back s else after_next_glyphs 1 s)) (many_steps (requests_breaks w) w.level goes n (if b then without_glyph (requests_breaks w) w.level t g back else with_glyph t g back)) f) [
      | true ↦ walks n goes f (with_deleted g back s) left.back kp (drop 1 pa) (m || marks) (omega (arith, back_length (requests_breaks w) w.level w.behind g back)) (ap (with_has_glyph_flags marks) e ∙ told_twice m marks f)
      | false ↦ walks n goes f (after_next_glyphs 1 s) back (kp ++ take 1 pa) (drop 1 pa) m (omega arith) e
    ]

pub deletes_as_walk : DeletesAsWalk
deletes_as_walk goes s =
    let a = walks (length (all_glyphs s)) goes s.scratch_flags (with_output s) (all_glyphs s) [] s.positions false (omega arith) refl in
    (all_picked goes s ∙ sym a.0, sym a.1)

-- What rules of positioning do that fail, or act after marks.
use Rattle.std.proofs.Common.{ℕ, ◌≡◌, ◌<◌, ◌≤◌, ◌+◌, ◌-◌, Bool, true, false, List, [], ◌∷◌, ◌++◌, Option, Some, Ok, length, reverse, arith, refl, sym, ap, subst, slice_get}
use Rattle.std.specs.Prelude.{bit_and}
use Rattle.std.specs.Int.RustNames.{bit_or}
use Rattle.std.proofs.lemmas.Nat.Bits.{same_from_bits, bit_at_and, bit_at_or}
use Rattle.std.proofs.lemmas.List.{append-nil}
use Rattle.buffer_glyphs.specs.declared.info.hb_glyph_info_t.{hb_glyph_info_t}
use Rattle.buffer_glyphs.specs.Items.{Item, Position, item_of}
use Rattle.buffer_glyphs.specs.Events.{Event, Concat}
use Rattle.buffer_core.specs.Sides.{Sides, after_next_glyphs, stage_flags}
use Rattle.buffer_stages.specs.Actions.{Cut, Acts, Action, attempt_around}
use Rattle.buffer_stages.specs.Buffers.{IsPassed}
use Rattle.buffer_stages.specs.Performing.{IsMade, IsPerformed, cut_with}
use Rattle.buffer_stages.proofs.Lemmas.Performed.{performs_later, same_with}
use Rattle.layout_gpos.specs.Anchors.{with_attachment_flag}
use Rattle.layout_gpos.specs.Moving.{cut_with_positions}
use Rattle.layout_gpos.specs.Marks.{with_found}
use Rattle.layout_gpos.proofs.Lemmas.Nearest.{item_back}
use Rattle.layout_gpos.proofs.Lemmas.Placed.{front_count, placed_made}
use Rattle.buffer_facts.proofs.Bits.{and_of_or as and_or}

-- ---- an attempt that failed

pub attempt_performed : (back ahead r : ℕ) (s new : Sides) → IsPassed (Concat (length s.behind - back) (length s.behind + ahead) ∷ []) s new → IsPerformed (attempt_around back ahead (cut_with r s)) false r r s new
attempt_performed back ahead r s new p =
    let P : ℕ → Type 0 = λ k. IsPassed (Concat (k - back) (k + ahead) ∷ []) s new in
    (refl, refl, subst P (front_count r s) p)

-- ---- rules that act after a mark: the marks come first

pub marked_made : (es : List Event) (n r : ℕ) (ps : Cut → List Position) (s mid new : Sides) → IsPassed es s mid → 0 < n → n ≤ length mid.ahead
    → new ≡ after_next_glyphs n (record mid { positions = ps (cut_with r mid) }) → IsMade (cut_with_positions n (ps (cut_with r s)) (cut_with r s)) es r s new
marked_made es n r ps s mid new p some le e =
    let Q : Sides → Type 0 = λ t. IsMade (cut_with_positions n (ps (cut_with r mid)) (cut_with r mid)) [] r mid t in
    let made = subst Q (sym e) (placed_made n r mid.scratch_flags (ps (cut_with r mid)) mid some le) in
    let all = (performs_later es (Acts (cut_with_positions n (ps (cut_with r mid)) (cut_with r mid)) []) (Ok true) r r s mid new p (refl, made)).1 in
    let R : Cut → Type 0 = λ c. IsMade (cut_with_positions n (ps c) c) (es ++ []) r s new in
    let at_start = subst R (same_with r s mid p.cut_is) all in
    subst (λ (fs : List Event). IsMade (cut_with_positions n (ps (cut_with r s)) (cut_with r s)) fs r s new) (append-nil es) at_start

pub told_same : (near : Bool) (flags : ℕ) → stage_flags (with_attachment_flag near flags) ≡ with_attachment_flag near (stage_flags flags)
told_same true flags = and_or 0xFFFF_FFDF flags 8
told_same false flags = refl

-- a rule that acts after a mark and tells of it
pub marked_told : (es : List Event) (n r f : ℕ) (ps : Cut → List Position) (t : Cut → ℕ) (s mid new : Sides) → IsPassed es s mid → 0 < n → n ≤ length mid.ahead → stage_flags f ≡ t (cut_with r mid)
    → new ≡ after_next_glyphs n (record mid { positions = ps (cut_with r mid); scratch_flags = f }) → IsMade (record (cut_with_positions n (ps (cut_with r s)) (cut_with r s)) { scratch_flags = t (cut_with r s) }) es r s new
marked_told es n r f ps t s mid new p some le scratch_flags e =
    let c = cut_with r mid in
    let cut : ℕ → Cut = λ k. record (cut_with_positions n (ps c) c) { scratch_flags = k } in
    let Q : Sides → Type 0 = λ u. IsMade (cut (stage_flags f)) [] r mid u in
    let made = subst (λ (k : ℕ). IsMade (cut k) [] r mid new) scratch_flags (subst Q (sym e) (placed_made n r f (ps c) mid some le)) in
    let all = (performs_later es (Acts (cut (t c)) []) (Ok true) r r s mid new p (refl, made)).1 in
    let R : Cut → Type 0 = λ c. IsMade (record (cut_with_positions n (ps c) c) { scratch_flags = t c }) (es ++ []) r s new in
    let at_start = subst R (same_with r s mid p.cut_is) all in
    subst (λ (fs : List Event). IsMade (record (cut_with_positions n (ps (cut_with r s)) (cut_with r s)) { scratch_flags = t (cut_with r s) }) fs r s new) (append-nil es) at_start

-- ---- what was found before the cursor

pub found_is : (r back : ℕ) (act : ℕ → Option Item → Action) (s : Sides) (g : hb_glyph_info_t) → slice_get (reverse s.behind) back ≡ Some g → with_found act (Ok back) (cut_with r s) ≡ act back (Some (item_of g)) (cut_with r s)
found_is r back act s g at = ap (λ (o : Option Item). act back o (cut_with r s)) (item_back s.behind back g at)

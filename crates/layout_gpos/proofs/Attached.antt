-- Marks attached at the cursor.
use Rattle.std.proofs.Common.{ℕ, ◌≡◌, ◌<◌, ◌≤◌, ◌+◌, ◌-◌, ◌⊎◌, inl, inr, Bool, true, false, if◌then◌else◌, List, [], ◌∷◌, Option, Some, None, Result, Ok, length, reverse, arith, refl, sym, ap, subst, ◌∙◌, slice_get}
use Rattle.std.specs.Prelude.{option_and_then}
use Rattle.buffer_glyphs.specs.declared.info.hb_glyph_info_t.{hb_glyph_info_t}
use Rattle.buffer_glyphs.specs.Items.{Position, item_of}
use Rattle.buffer_glyphs.specs.Events.{Break}
use Rattle.buffer_core.specs.Sides.{Sides, after_next_glyphs, stage_flags}
use Rattle.buffer_rows.specs.Keys.{row_of}
use Rattle.layout_tables.specs.Marks.{anchor_at, base_anchor}
use Rattle.layout_tables.specs.declared.value.Anchor.{Anchor}
use Rattle.layout_tables.specs.declared.mark.BaseRow.{BaseRow}
use Rattle.layout_common.specs.Rows.{value_of}
use Rattle.layout_match.specs.Applied.{ApplyContext}
use Rattle.layout_tables.specs.declared.mark.MarkBasePos.{MarkBasePos}
use Rattle.layout_tables.specs.declared.mark.MarkRecord.{MarkRecord}
use Rattle.buffer_stages.specs.Actions.{Cut, Outcome, Passes, at_first, attempt_around}
use Rattle.buffer_stages.specs.Buffers.{IsPassed, cut_of}
use Rattle.buffer_stages.specs.Performing.{IsPerformed, cut_with}
use Rattle.buffer_stages.proofs.Lemmas.Frames.{same_lengths}
use Rattle.buffer_stages.proofs.Lemmas.Performed.{passes_nothing}
use Rattle.layout_gpos.specs.Anchors.{with_mark_attached, with_attachment_flag}
use Rattle.layout_offsets.specs.Links.{is_near}
use Rattle.layout_gpos.specs.Moving.{break_around}
use Rattle.layout_gpos.specs.Marks.{attach, attach_if, base_before, is_there, mark_on_base, mark_to_base, on_base, with_found}
use Rattle.layout_gpos.proofs.Lemmas.Placed.{break_passed, front_count}
use Rattle.buffer_stages.proofs.Lemmas.Glyphs.{first_item}
use Rattle.layout_gpos.proofs.Lemmas.Performed.{found_is, marked_told, told_same}

pub attach_acted : (r back at parent : ℕ) (base mark : Anchor) (near : Bool) (s mid new : Sides) → IsPassed (Break (length s.behind - (back + 1)) (length s.behind + 1) ∷ []) s mid → at ≡ length s.behind → 0 < length s.ahead
    → parent ≡ at - (back + 1) → near ≡ is_near at parent → new ≡ after_next_glyphs 1 (record mid { positions = with_mark_attached at parent base mark mid.positions; scratch_flags = with_attachment_flag near mid.scratch_flags })
    → IsPerformed (attach base mark back (cut_with r s)) true r r s new
attach_acted r back at parent base mark near s mid new p here there is is_near_at e =
    let long = same_lengths s mid p.cut_is in
    let ps : Cut → List Position = λ c. with_mark_attached (length c.front) (length c.front - (back + 1)) base mark c.positions in
    let t : Cut → ℕ = λ c. with_attachment_flag (is_near (length c.front) (length c.front - (back + 1))) c.scratch_flags in
    let at_mid : at ≡ length (cut_with r mid).front = here ∙ sym long.0 ∙ front_count r mid in
    let parent_mid : parent ≡ length (cut_with r mid).front - (back + 1) = is ∙ ap (λ (k : ℕ). k - (back + 1)) at_mid in
    let near_mid : near ≡ is_near (length (cut_with r mid).front) (length (cut_with r mid).front - (back + 1)) = is_near_at ∙ ap (λ (k : ℕ). is_near k parent) at_mid ∙ ap (is_near (length (cut_with r mid).front)) parent_mid in
    let scratch_flags : stage_flags (with_attachment_flag near mid.scratch_flags) ≡ t (cut_with r mid) = told_same near mid.scratch_flags ∙ ap (λ (b : Bool). with_attachment_flag b (stage_flags mid.scratch_flags)) near_mid in
    let placed : new ≡ after_next_glyphs 1 (record mid { positions = ps (cut_with r mid); scratch_flags = with_attachment_flag near mid.scratch_flags }) =
    e ∙ ap (λ (k : ℕ). after_next_glyphs 1 (record mid { positions = with_mark_attached k parent base mark mid.positions; scratch_flags = with_attachment_flag near mid.scratch_flags })) at_mid
    ∙ ap (λ (k : ℕ). after_next_glyphs 1 (record mid { positions = with_mark_attached (length (cut_with r mid).front) k base mark mid.positions; scratch_flags = with_attachment_flag near mid.scratch_flags })) parent_mid in
    let le : 1 ≤ length mid.ahead = let more = long.1 in omega (arith, more, there) in
    (refl, marked_told (break_around (back + 1) 1 (cut_of s)) 1 r (with_attachment_flag near mid.scratch_flags) ps t s mid new (break_passed (back + 1) 1 s mid p) (omega arith) le scratch_flags placed)

pub not_attached : (r back : ℕ) (base mark : Option Anchor) (s : Sides) → (base ≡ None) ⊎ (mark ≡ None) → IsPerformed (attach_if base mark back (cut_with r s)) false r r s s
not_attached r back base mark s none = passes_nothing r s (attach_if base mark back (cut_with r s)) (elim none [ inl e ↦ ap (λ (o : Option Anchor). attach_if o mark back (cut_with r s)) e | inr e ↦ without base mark e ])
  where
    without : (base mark : Option Anchor) → mark ≡ None → attach_if base mark back (cut_with r s) ≡ Passes []
    without None mark e = refl
    without (Some b) mark e = ap (λ (o : Option Anchor). attach_if (Some b) o back (cut_with r s)) e

pub both_attached : (r back : ℕ) (b m : Anchor) (base mark : Option Anchor) (s new : Sides) → base ≡ Some b → mark ≡ Some m → IsPerformed (attach b m back (cut_with r s)) true r r s new → IsPerformed (attach_if base mark back (cut_with r s)) true r r s new
both_attached r back b m base mark s new e f done =
    let same : attach_if base mark back (cut_with r s) ≡ attach b m back (cut_with r s) = ap (λ (o : Option Anchor). attach_if o mark back (cut_with r s)) e ∙ ap (λ (o : Option Anchor). attach_if (Some b) o back (cut_with r s)) f in
    subst (λ (o : Outcome). IsPerformed o true r r s new) (sym same) done

-- ---- bases

abbrev by_base : ℕ → List BaseRow → MarkRecord → Cut → ℕ → Bool → Outcome
by_base back bases m c k b = if b then attach_if (base_anchor k m.class bases) m.anchor back c else attempt_around (back + 1) 1 c

on_base_is : (r n back : ℕ) (b : Bool) (bases : List BaseRow) (m : MarkRecord) (s : Sides) (g : hb_glyph_info_t) → n ≡ g.glyph_id → is_there (row_of (λ (b : BaseRow). b.glyph) n bases) ≡ b
    → on_base bases m back (Some (item_of g)) (cut_with r s) ≡ by_base back bases m (cut_with r s) n b
on_base_is r n back b bases m s g is e = ap (λ (k : ℕ). by_base back bases m (cut_with r s) k (is_there (row_of (λ (b : BaseRow). b.glyph) k bases))) (sym is) ∙ ap (by_base back bases m (cut_with r s) n) e

on_a_base : (r n back : ℕ) (bases : List BaseRow) (m : MarkRecord) (acted : Bool) (s new : Sides) (g : hb_glyph_info_t) → slice_get (reverse s.behind) back ≡ Some g → n ≡ g.glyph_id → is_there (row_of (λ (b : BaseRow). b.glyph) n bases) ≡ true
    → IsPerformed (attach_if (base_anchor n m.class bases) m.anchor back (cut_with r s)) acted r r s new → IsPerformed (with_found (on_base bases m) (Ok back) (cut_with r s)) acted r r s new
on_a_base r n back bases m acted s new g at is e done = subst (λ (o : Outcome). IsPerformed o acted r r s new) (sym (found_is r back (on_base bases m) s g at ∙ on_base_is r n back true bases m s g is e)) done

on_no_base : (r n back : ℕ) (bases : List BaseRow) (m : MarkRecord) (s new : Sides) (g : hb_glyph_info_t) → slice_get (reverse s.behind) back ≡ Some g → n ≡ g.glyph_id → is_there (row_of (λ (b : BaseRow). b.glyph) n bases) ≡ false
    → IsPerformed (attempt_around (back + 1) 1 (cut_with r s)) false r r s new → IsPerformed (with_found (on_base bases m) (Ok back) (cut_with r s)) false r r s new
on_no_base r n back bases m s new g at is e done = subst (λ (o : Outcome). IsPerformed o false r r s new) (sym (found_is r back (on_base bases m) s g at ∙ on_base_is r n back false bases m s g is e)) done

-- the same by the row of the item
pub on_its_row : (r n back : ℕ) (bases : List BaseRow) (row : BaseRow) (m : MarkRecord) (acted : Bool) (s new : Sides) (g : hb_glyph_info_t) → slice_get (reverse s.behind) back ≡ Some g → n ≡ g.glyph_id → row_of (λ (b : BaseRow). b.glyph) n bases ≡ Some row
    → IsPerformed (attach_if (anchor_at row.anchors m.class) m.anchor back (cut_with r s)) acted r r s new → IsPerformed (with_found (on_base bases m) (Ok back) (cut_with r s)) acted r r s new
on_its_row r n back bases row m acted s new g at is e done =
    let anchor : base_anchor n m.class bases ≡ anchor_at row.anchors m.class = ap (option_and_then (λ (b : BaseRow). anchor_at b.anchors m.class)) e in
    on_a_base r n back bases m acted s new g at is (ap is_there e) (subst (λ (o : Option Anchor). IsPerformed (attach_if o m.anchor back (cut_with r s)) acted r r s new) (sym anchor) done)

pub on_no_row : (r n back : ℕ) (bases : List BaseRow) (m : MarkRecord) (s new : Sides) (g : hb_glyph_info_t) → slice_get (reverse s.behind) back ≡ Some g → n ≡ g.glyph_id → row_of (λ (b : BaseRow). b.glyph) n bases ≡ None
    → IsPerformed (attempt_around (back + 1) 1 (cut_with r s)) false r r s new → IsPerformed (with_found (on_base bases m) (Ok back) (cut_with r s)) false r r s new
on_no_row r n back bases m s new g at is e done = on_no_base r n back bases m s new g at is (ap is_there e) done

-- ---- mark to base

base_subtable_is : (r n : ℕ) (a : ApplyContext) (t : MarkBasePos) (s : Sides) (g : hb_glyph_info_t) → slice_get s.ahead 0 ≡ Some g → n ≡ g.glyph_id → mark_to_base a t (cut_with r s) ≡ mark_on_base a t.bases (value_of n t.marks) (cut_with r s)
base_subtable_is r n a t s g at is = ap (λ q. at_first (λ x. mark_on_base a t.bases (value_of x.number t.marks)) q (cut_with r s)) (first_item s.ahead g at) ∙ ap (λ m. mark_on_base a t.bases (value_of m t.marks) (cut_with r s)) (sym is)

pub no_base_mark : (r n : ℕ) (a : ApplyContext) (t : MarkBasePos) (s : Sides) (g : hb_glyph_info_t) → slice_get s.ahead 0 ≡ Some g → n ≡ g.glyph_id → value_of n t.marks ≡ None → IsPerformed (mark_to_base a t (cut_with r s)) false r r s s
no_base_mark r n a t s g at is none = passes_nothing r s (mark_to_base a t (cut_with r s)) (base_subtable_is r n a t s g at is ∙ ap (λ o. mark_on_base a t.bases o (cut_with r s)) none)

pub base_mark : (r n : ℕ) (a : ApplyContext) (t : MarkBasePos) (m : MarkRecord) (found : Result ℕ ℕ) (acted : Bool) (s new : Sides) (g : hb_glyph_info_t) → slice_get s.ahead 0 ≡ Some g → n ≡ g.glyph_id → value_of n t.marks ≡ Some m → found ≡ base_before a (cut_of s)
    → IsPerformed (with_found (on_base t.bases m) found (cut_with r s)) acted r r s new → IsPerformed (mark_to_base a t (cut_with r s)) acted r r s new
base_mark r n a t m found acted s new g at is some e done =
    subst (λ (o : Outcome). IsPerformed o acted r r s new) (sym (base_subtable_is r n a t s g at is ∙ ap (λ o. mark_on_base a t.bases o (cut_with r s)) some ∙ ap (λ f. with_found (on_base t.bases m) f (cut_with r s)) (sym e))) done

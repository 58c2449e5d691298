-- Marks attached to marks at the cursor.
use Rattle.std.proofs.Common.{ℕ, ◌≡◌, ◌+◌, ◌&&◌, Bool, true, false, if◌then◌else◌, List, Some, None, Result, Ok, reverse, sym, ap, subst, ◌∙◌, slice_get}
use Rattle.buffer_glyphs.specs.declared.info.hb_glyph_info_t.{hb_glyph_info_t}
use Rattle.buffer_glyphs.specs.Items.{Item, item_of}
use Rattle.buffer_core.specs.Sides.{Sides}
use Rattle.layout_common.specs.Rows.{value_of}
use Rattle.layout_match.specs.Applied.{ApplyContext}
use Rattle.buffer_glyphs.specs.LigatureWords.{is_mark}
use Rattle.layout_tables.specs.declared.mark.BaseRow.{BaseRow}
use Rattle.layout_tables.specs.declared.mark.MarkBasePos.{MarkBasePos}
use Rattle.layout_tables.specs.declared.mark.MarkRecord.{MarkRecord}
use Rattle.buffer_stages.specs.Actions.{Cut, Outcome, at_first, attempt_around}
use Rattle.buffer_stages.specs.Buffers.{cut_of}
use Rattle.buffer_stages.specs.Performing.{IsPerformed, cut_with}
use Rattle.buffer_stages.proofs.Lemmas.Glyphs.{first_item}
use Rattle.buffer_stages.proofs.Lemmas.Performed.{passes_nothing}
use Rattle.layout_gpos.specs.Marks.{among_marks, belong_together, item_before, mark_on_mark, mark_to_mark, on_base, on_mark, with_found}
use Rattle.layout_gpos.proofs.Lemmas.Performed.{found_is}

abbrev by_mark : ℕ → List BaseRow → MarkRecord → Item → Cut → Bool → Outcome
by_mark back bases m b c good = if good then on_base bases m back (Some b) c else attempt_around (back + 1) 1 c

pub on_a_mark : (r back : ℕ) (bases : List BaseRow) (m : MarkRecord) (x : Item) (found : Result ℕ ℕ) (acted : Bool) (s new : Sides) (g : hb_glyph_info_t) → slice_get (reverse s.behind) back ≡ Some g → (is_mark (item_of g) && belong_together x (item_of g)) ≡ true → found ≡ Ok back
    → IsPerformed (with_found (on_base bases m) (Ok back) (cut_with r s)) acted r r s new → IsPerformed (with_found (on_mark bases m x) found (cut_with r s)) acted r r s new
on_a_mark r back bases m x found acted s new g at good e done =
    let same : with_found (on_mark bases m x) found (cut_with r s) ≡ with_found (on_base bases m) (Ok back) (cut_with r s) =
    ap (λ f. with_found (on_mark bases m x) f (cut_with r s)) e ∙ found_is r back (on_mark bases m x) s g at ∙ ap (by_mark back bases m (item_of g) (cut_with r s)) good ∙ sym (found_is r back (on_base bases m) s g at) in
    subst (λ (o : Outcome). IsPerformed o acted r r s new) (sym same) done

pub on_no_mark : (r back : ℕ) (bases : List BaseRow) (m : MarkRecord) (x : Item) (found : Result ℕ ℕ) (s new : Sides) (g : hb_glyph_info_t) → slice_get (reverse s.behind) back ≡ Some g → (is_mark (item_of g) && belong_together x (item_of g)) ≡ false → found ≡ Ok back
    → IsPerformed (attempt_around (back + 1) 1 (cut_with r s)) false r r s new → IsPerformed (with_found (on_mark bases m x) found (cut_with r s)) false r r s new
on_no_mark r back bases m x found s new g at bad e done =
    let same : with_found (on_mark bases m x) found (cut_with r s) ≡ attempt_around (back + 1) 1 (cut_with r s) =
    ap (λ f. with_found (on_mark bases m x) f (cut_with r s)) e ∙ found_is r back (on_mark bases m x) s g at ∙ ap (by_mark back bases m (item_of g) (cut_with r s)) bad in
    subst (λ (o : Outcome). IsPerformed o false r r s new) (sym same) done

mark_subtable_is : (r : ℕ) (a : ApplyContext) (t : MarkBasePos) (s : Sides) (g : hb_glyph_info_t) → slice_get s.ahead 0 ≡ Some g → mark_to_mark a t (cut_with r s) ≡ mark_on_mark a t.bases (item_of g) (value_of g.glyph_id t.marks) (cut_with r s)
mark_subtable_is r a t s g at = ap (λ q. at_first (λ x. mark_on_mark a t.bases x (value_of x.number t.marks)) q (cut_with r s)) (first_item s.ahead g at)

pub no_mark_mark : (r n : ℕ) (a : ApplyContext) (t : MarkBasePos) (s : Sides) (g : hb_glyph_info_t) → slice_get s.ahead 0 ≡ Some g → n ≡ g.glyph_id → value_of n t.marks ≡ None → IsPerformed (mark_to_mark a t (cut_with r s)) false r r s s
no_mark_mark r n a t s g at is none = passes_nothing r s (mark_to_mark a t (cut_with r s)) (mark_subtable_is r a t s g at ∙ ap (λ k. mark_on_mark a t.bases (item_of g) (value_of k t.marks) (cut_with r s)) (sym is) ∙ ap (λ o. mark_on_mark a t.bases (item_of g) o (cut_with r s)) none)

pub mark_mark : (r n : ℕ) (a : ApplyContext) (t : MarkBasePos) (m : MarkRecord) (found : Result ℕ ℕ) (acted : Bool) (s new : Sides) (g : hb_glyph_info_t) → slice_get s.ahead 0 ≡ Some g → n ≡ g.glyph_id → value_of n t.marks ≡ Some m → found ≡ item_before (among_marks a) (cut_of s)
    → IsPerformed (with_found (on_mark t.bases m (item_of g)) found (cut_with r s)) acted r r s new → IsPerformed (mark_to_mark a t (cut_with r s)) acted r r s new
mark_mark r n a t m found acted s new g at is some e done =
    subst (λ (o : Outcome). IsPerformed o acted r r s new) (sym (mark_subtable_is r a t s g at ∙ ap (λ k. mark_on_mark a t.bases (item_of g) (value_of k t.marks) (cut_with r s)) (sym is) ∙ ap (λ o. mark_on_mark a t.bases (item_of g) o (cut_with r s)) some ∙ ap (λ f. with_found (on_mark t.bases m (item_of g)) f (cut_with r s)) (sym e))) done

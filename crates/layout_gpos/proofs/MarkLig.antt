-- Marks attached to ligatures at the cursor.
use Rattle.std.proofs.Common.{ℕ, ◌≡◌, ◌+◌, Bool, false, List, Option, Some, None, Result, Ok, reverse, sym, ap, subst, ◌∙◌, slice_get}
use Rattle.buffer_glyphs.specs.declared.info.hb_glyph_info_t.{hb_glyph_info_t}
use Rattle.buffer_glyphs.specs.Items.{Item, item_of}
use Rattle.buffer_core.specs.Sides.{Sides}
use Rattle.layout_common.specs.Rows.{value_of}
use Rattle.layout_match.specs.Applied.{ApplyContext}
use Rattle.layout_tables.specs.Marks.{component_anchor, component_count}
use Rattle.layout_tables.specs.declared.mark.LigatureRow.{LigatureRow}
use Rattle.layout_tables.specs.declared.mark.MarkLigPos.{MarkLigPos}
use Rattle.layout_tables.specs.declared.mark.MarkRecord.{MarkRecord}
use Rattle.buffer_stages.specs.Actions.{Outcome, at_first, attempt_around}
use Rattle.buffer_stages.specs.Buffers.{cut_of}
use Rattle.buffer_stages.specs.Performing.{IsPerformed, cut_with}
use Rattle.buffer_stages.proofs.Lemmas.Glyphs.{first_item}
use Rattle.buffer_stages.proofs.Lemmas.Performed.{passes_nothing}
use Rattle.layout_gpos.specs.Marks.{attach_if, component_in, ligature_before, mark_on_ligature, mark_to_ligature, on_component, on_ligature, with_found}
use Rattle.layout_gpos.proofs.Lemmas.Performed.{found_is}

-- the component that a call found
on_ligature_is : (r n back : ℕ) (ligatures : List LigatureRow) (m : MarkRecord) (x : Item) (k : Option ℕ) (s : Sides) (g : hb_glyph_info_t) → slice_get (reverse s.behind) back ≡ Some g → n ≡ g.glyph_id → component_in (component_count n ligatures) (item_of g) x ≡ k
    → with_found (on_ligature ligatures m x) (Ok back) (cut_with r s) ≡ on_component ligatures m back n k (cut_with r s)
on_ligature_is r n back ligatures m x k s g at is e =
    found_is r back (on_ligature ligatures m x) s g at ∙ ap (λ (i : ℕ). on_component ligatures m back i (component_in (component_count i ligatures) (item_of g) x) (cut_with r s)) (sym is) ∙ ap (λ (o : Option ℕ). on_component ligatures m back n o (cut_with r s)) e

pub on_its_component : (r n back component : ℕ) (ligatures : List LigatureRow) (m : MarkRecord) (x : Item) (acted : Bool) (s new : Sides) (g : hb_glyph_info_t) → slice_get (reverse s.behind) back ≡ Some g → n ≡ g.glyph_id → component_in (component_count n ligatures) (item_of g) x ≡ Some component
    → IsPerformed (attach_if (component_anchor n component m.class ligatures) m.anchor back (cut_with r s)) acted r r s new → IsPerformed (with_found (on_ligature ligatures m x) (Ok back) (cut_with r s)) acted r r s new
on_its_component r n back component ligatures m x acted s new g at is e done = subst (λ (o : Outcome). IsPerformed o acted r r s new) (sym (on_ligature_is r n back ligatures m x (Some component) s g at is e)) done

pub on_no_component : (r n back : ℕ) (ligatures : List LigatureRow) (m : MarkRecord) (x : Item) (s new : Sides) (g : hb_glyph_info_t) → slice_get (reverse s.behind) back ≡ Some g → n ≡ g.glyph_id → component_in (component_count n ligatures) (item_of g) x ≡ None
    → IsPerformed (attempt_around (back + 1) 1 (cut_with r s)) false r r s new → IsPerformed (with_found (on_ligature ligatures m x) (Ok back) (cut_with r s)) false r r s new
on_no_component r n back ligatures m x s new g at is e done = subst (λ (o : Outcome). IsPerformed o false r r s new) (sym (on_ligature_is r n back ligatures m x None s g at is e)) done

subtable_is : (r : ℕ) (a : ApplyContext) (t : MarkLigPos) (s : Sides) (g : hb_glyph_info_t) → slice_get s.ahead 0 ≡ Some g → mark_to_ligature a t (cut_with r s) ≡ mark_on_ligature a t.ligatures (item_of g) (value_of g.glyph_id t.marks) (cut_with r s)
subtable_is r a t s g at = ap (λ q. at_first (λ x. mark_on_ligature a t.ligatures x (value_of x.number t.marks)) q (cut_with r s)) (first_item s.ahead g at)

pub no_ligature_mark : (r n : ℕ) (a : ApplyContext) (t : MarkLigPos) (s : Sides) (g : hb_glyph_info_t) → slice_get s.ahead 0 ≡ Some g → n ≡ g.glyph_id → value_of n t.marks ≡ None → IsPerformed (mark_to_ligature a t (cut_with r s)) false r r s s
no_ligature_mark r n a t s g at is none = passes_nothing r s (mark_to_ligature a t (cut_with r s)) (subtable_is r a t s g at ∙ ap (λ k. mark_on_ligature a t.ligatures (item_of g) (value_of k t.marks) (cut_with r s)) (sym is) ∙ ap (λ o. mark_on_ligature a t.ligatures (item_of g) o (cut_with r s)) none)

pub ligature_mark : (r n : ℕ) (a : ApplyContext) (t : MarkLigPos) (m : MarkRecord) (found : Result ℕ ℕ) (acted : Bool) (s new : Sides) (g : hb_glyph_info_t) → slice_get s.ahead 0 ≡ Some g → n ≡ g.glyph_id → value_of n t.marks ≡ Some m → found ≡ ligature_before a (cut_of s)
    → IsPerformed (with_found (on_ligature t.ligatures m (item_of g)) found (cut_with r s)) acted r r s new → IsPerformed (mark_to_ligature a t (cut_with r s)) acted r r s new
ligature_mark r n a t m found acted s new g at is some e done =
    subst (λ (o : Outcome). IsPerformed o acted r r s new) (sym (subtable_is r a t s g at ∙ ap (λ k. mark_on_ligature a t.ligatures (item_of g) (value_of k t.marks) (cut_with r s)) (sym is) ∙ ap (λ o. mark_on_ligature a t.ligatures (item_of g) o (cut_with r s)) some ∙ ap (λ f. with_found (on_ligature t.ligatures m (item_of g)) f (cut_with r s)) (sym e))) done

-- The glyphs of a text that is broken into two, from characters to the end.
use Rattle.std.proofs.Common.{ℕ, ◌≡◌, ◌≤◌, ◌+◌, ◌==◌, ◌||◌, ◌⊎◌, inl, inr, Bool, true, false, if◌then◌else◌, List, [], ◌∷◌, Option, None, Some, Ok, length, arith, refl, sym, ap, subst, ◌∙◌}
use Rattle.std.specs.Prelude.{reverse}
use Rattle.std.specs.Option.{option_or}
use Rattle.std.specs.Int.RustNames.{bit_and}
use Rattle.std.proofs.lemmas.Nat.{and_assoc}
use Rattle.buffer_common.specs.declared.constants.BufferFlags.{BufferFlags}
use Rattle.buffer_common.specs.Direction.{is_backward}
use Rattle.buffer_glyphs.specs.declared.level.BufferClusterLevel.{BufferClusterLevel}
use Rattle.buffer_glyphs.specs.Events.{Reverse}
use Rattle.buffer_glyphs.specs.Origins.{Asks, numbers}
use Rattle.buffer_glyphs.specs.Order.{IsInOrder}
use Rattle.buffer_glyphs.specs.PropertyWords.{is_default_ignorable}
use Rattle.buffer_core.specs.Readings.{BufferState, Read, View, always, state_after, with_events}
use Rattle.buffer_stages.specs.PositionMaps.{with_positions_mapped}
use Rattle.buffer_stages.specs.Settings.{TextSettings}
use Rattle.buffer_parts.specs.Counting.{is_left}
use Rattle.buffer_parts.specs.Breaks.Divisible.{IsFreelyDivisible, IsSpared, OnlySpends, StaysDivided}
use Rattle.buffer_parts.specs.Breaks.Fragments.{AreFragments, IsWhole}
use Rattle.buffer_parts.specs.Breaks.Unsafe.{HaveNoTatweel}
use Rattle.buffer_parts.proofs.BreakLemmas.Clear.{no_tatweel_stays}
use Rattle.buffer_parts.proofs.BreakLemmas.Division.{same_is_divisible}
use Rattle.layout_face.specs.declared.parts.FaceParts.{FaceParts}
use Rattle.layout_face.specs.Glyphs.{nominal_glyph}
use Rattle.layout_offsets.specs.Finishing.{all_drawn_if, has_attachments, links_followed}
use Rattle.layout_offsets.specs.Starting.{links_cleared}
use Rattle.shape_fallback.specs.Classes.{with_fallback_classes}
use Rattle.shape_fallback.specs.Spaces.{with_spaces}
use Rattle.shape_glyphs.specs.Advances.{with_default_positions}
use Rattle.shape_glyphs.specs.Flags.{with_flags_spread}
use Rattle.shape_glyphs.specs.Glyphs.{with_glyphs}
use Rattle.shape_glyphs.specs.Ignorables.{ignorables_hidden, ignorables_hidden_by, preserves_ignorables, removes_ignorables}
use Rattle.shape_glyphs.specs.Selectors.{with_selectors}
use Rattle.shape_glyphs.specs.Widths.{ignorable_position, keeps_widths, zero_widths}
use Rattle.shape_pipeline.specs.Budget.{before_reset}
use Rattle.shape_pipeline.specs.Glyphs.{glyphs_substituted}
use Rattle.shape_pipeline.specs.Limits.{final_view}
use Rattle.shape_pipeline.specs.Positioning.{marks_positioned, positions_adjusted, visual_order, with_zero_positions}
use Rattle.shape_pipeline.specs.Shaping.{Shaping, postprocessing_stage}
use Rattle.shape_laws.specs.Breaks.Apart.{AreLinkedApart, AreUnattached, EndsPlainly, GlyphsApart, PositionsApart, Seam, SubstitutesApart}
use Rattle.shape_laws.specs.Breaks.GlyphLaws.{GlyphsShowBoth}
use Rattle.shape_laws.specs.Breaks.InLine.{MayBeCutAt, ShowsBoth, final_state}
use Rattle.shape_laws.specs.Breaks.Texts.{AreUnnumbered, StaysBroken}
use Rattle.shape_laws.proofs.BreakLemmas.Attached.{cleared_unlinked, followed_is_plain, links_divide, widths_linked}
use Rattle.shape_laws.proofs.BreakLemmas.Carried.{Carries, carried, carried_as, carried_if, carried_plain}
use Rattle.shape_laws.proofs.BreakLemmas.FallbackMarks.{fallback_marks_divide}
use Rattle.shape_laws.proofs.BreakLemmas.Results.{end_state, ends_show}
use Rattle.shape_laws.proofs.BreakLemmas.GlyphStages.{advances_divide, cleared_divide, fallback_classes_divide, glyphs_divide, hidden_divide, selectors_divide, spaces_divide, widths_divide, zeros_divide}
use Rattle.shape_laws.proofs.BreakLemmas.PlainDivision.{state_by, state_by_breakable, state_by_unsafe}
use Rattle.shape_laws.proofs.BreakLemmas.Removed.{removed_divides}
use Rattle.shape_laws.proofs.BreakLemmas.Route.{IsRoute, advance_state, state_if, link_state, merge_count, visual_state, route, ignorables_state, glyph_state}
use Rattle.shape_laws.proofs.BreakLemmas.VisualOrder.{order_divides, order_is_plain}

-- ---- settings that decide what is hidden

-- a bit among those of the requests is that of other flags with the same requests
pub same_bit : (f g bit : ℕ) → bit_and 0x3C bit ≡ bit → bit_and g 0x3C ≡ bit_and f 0x3C → bit_and g bit ≡ bit_and f bit
same_bit f g bit inside e =
    ap (bit_and g) (sym inside) ∙ sym (and_assoc bit g 0x3C) ∙ ap (λ n. bit_and n bit) e ∙ and_assoc bit f 0x3C ∙ ap (bit_and f) inside

-- flags with the same requests
abbrev HaveSameRequests : BufferFlags → BufferFlags → Type 0
HaveSameRequests f g = bit_and g.0 0x3C ≡ bit_and f.0 0x3C

preserves_alike : (f g : BufferFlags) → HaveSameRequests f g → preserves_ignorables g ≡ preserves_ignorables f
preserves_alike f g e = ap (λ n. n == 4) (same_bit f.0 g.0 4 refl e)

removes_alike : (f g : BufferFlags) → HaveSameRequests f g → removes_ignorables g ≡ removes_ignorables f
removes_alike f g e = ap (λ n. n == 8) (same_bit f.0 g.0 8 refl e)

keeps_alike : (f g : BufferFlags) → HaveSameRequests f g → keeps_widths g ≡ keeps_widths f
keeps_alike f g e = ap (λ b. b || removes_ignorables g) (preserves_alike f g e) ∙ ap (λ b. preserves_ignorables f || b) (removes_alike f g e)

-- default ignorables hidden, by what the flags request
abbrev ignorables_by : Bool → Bool → Option ℕ → FaceParts → View → Read
ignorables_by preserves removes set font v = if preserves then with_events [] v else ignorables_hidden_by (if removes then None else option_or set (nominal_glyph 0x20 font)) v

hidden_for : (falls : Bool) (o : Option ℕ) → IsFreelyDivisible falls falls (always (ignorables_hidden_by o)) (always (ignorables_hidden_by o)) (always (ignorables_hidden_by o))
hidden_for falls None = removed_divides is_default_ignorable (λ n x. refl) falls
hidden_for falls (Some glyph) = hidden_divide falls glyph

hides_if : (falls b : Bool) (o : Option ℕ) → IsFreelyDivisible falls falls (always (λ v. if b then with_events [] v else ignorables_hidden_by o v)) (always (λ v. if b then with_events [] v else ignorables_hidden_by o v)) (always (λ v. if b then with_events [] v else ignorables_hidden_by o v))
hides_if falls true o = same_is_divisible falls
hides_if falls false o = hidden_for falls o

pub ignorables_divide : (falls : Bool) (flags : BufferFlags) (set : Option ℕ) (font : FaceParts) → IsFreelyDivisible falls falls (always (ignorables_hidden flags set font)) (always (ignorables_hidden flags set font)) (always (ignorables_hidden flags set font))
ignorables_divide falls flags set font = hides_if falls (preserves_ignorables flags) (if removes_ignorables flags then None else option_or set (nominal_glyph 0x20 font))

ignorables_of : (falls : Bool) (f f1 f2 : BufferFlags) (set : Option ℕ) (font : FaceParts) → HaveSameRequests f f1 → HaveSameRequests f f2
    → IsFreelyDivisible falls falls (always (ignorables_hidden f set font)) (always (ignorables_hidden f1 set font)) (always (ignorables_hidden f2 set font))
ignorables_of falls f f1 f2 set font e g =
    let whole = always (ignorables_hidden f set font) in
    subst (λ (b : Bool). IsFreelyDivisible falls falls whole (always (ignorables_hidden f1 set font)) (always (ignorables_by (preserves_ignorables f2) b set font))) (sym (removes_alike f f2 g))
    (subst (λ (b : Bool). IsFreelyDivisible falls falls whole (always (ignorables_hidden f1 set font)) (always (ignorables_by b (removes_ignorables f) set font))) (sym (preserves_alike f f2 g))
    (subst (λ (b : Bool). IsFreelyDivisible falls falls whole (always (ignorables_by (preserves_ignorables f1) b set font)) whole) (sym (removes_alike f f1 e))
    (subst (λ (b : Bool). IsFreelyDivisible falls falls whole (always (ignorables_by b (removes_ignorables f) set font)) whole) (sym (preserves_alike f f1 e)) (ignorables_divide falls f set font))))

-- positions of default ignorables zeroed, by what the flags request
abbrev widths_with : Bool → View → Read
widths_with keeps v = if keeps then with_events [] v else with_positions_mapped ignorable_position v

widths_of : (falls : Bool) (f f1 f2 : BufferFlags) → HaveSameRequests f f1 → HaveSameRequests f f2 → IsFreelyDivisible falls falls (always (zero_widths f)) (always (zero_widths f1)) (always (zero_widths f2))
widths_of falls f f1 f2 e g =
    subst (λ (b : Bool). IsFreelyDivisible falls falls (always (zero_widths f)) (always (zero_widths f1)) (always (widths_with b))) (sym (keeps_alike f f2 g))
    (subst (λ (b : Bool). IsFreelyDivisible falls falls (always (zero_widths f)) (always (widths_with b)) (always (zero_widths f))) (sym (keeps_alike f f1 e)) (widths_divide falls f))

-- ---- limits

taken_number : (p : Shaping) (s : BufferState) → (glyph_state p s).view.lig_id ≡ s.view.lig_id
taken_number p s = elim p.choices.fallback_mark_positioning as (λ b. (state_by with_glyphs (if b then state_by with_fallback_classes s else s)).view.lig_id ≡ s.view.lig_id) [ true ↦ refl | false ↦ refl ]

widths_budget : (flags : BufferFlags) (v : View) → (zero_widths flags v).view.max_ops ≡ v.max_ops
widths_budget flags v = elim (keeps_widths flags) as (λ b. (widths_with b v).view.max_ops ≡ v.max_ops) [ true ↦ refl | false ↦ refl ]

links_budget : (v : View) → (links_followed v).view.max_ops ≡ v.max_ops
links_budget v = elim (has_attachments v.scratch_flags) as (λ b. (all_drawn_if b v).view.max_ops ≡ v.max_ops) [ true ↦ refl | false ↦ refl ]

marks_budget : (p : Shaping) (s : BufferState) → (state_if p.choices.fallback_mark_positioning (marks_positioned p) s).view.max_ops ≡ s.view.max_ops
marks_budget p s = elim p.choices.fallback_mark_positioning as (λ b. (if b then state_by (marks_positioned p) s else s).view.max_ops ≡ s.view.max_ops) [ true ↦ refl | false ↦ refl ]

order_budget : (v : View) → (visual_order v).view.max_ops ≡ v.max_ops
order_budget v = elim (is_backward v.direction) as (λ b. (if b then with_events (Reverse ∷ []) (record v { items = reverse v.items; positions = reverse v.positions }) else with_events [] v).view.max_ops ≡ v.max_ops) [ true ↦ refl | false ↦ refl ]

selectors_budget : (o : Option ℕ) (v : View) → (with_selectors o v).view.max_ops ≡ v.max_ops
selectors_budget None v = refl
selectors_budget (Some glyph) v = refl

hidden_budget : (o : Option ℕ) (v : View) → (ignorables_hidden_by o v).view.max_ops ≡ v.max_ops
hidden_budget None v = refl
hidden_budget (Some glyph) v = refl

ignorables_budget : (flags : BufferFlags) (set : Option ℕ) (font : FaceParts) (v : View) → (ignorables_hidden flags set font v).view.max_ops ≡ v.max_ops
ignorables_budget flags set font v =
    let o = if removes_ignorables flags then None else option_or set (nominal_glyph 0x20 font) in
    elim (preserves_ignorables flags) as (λ b. (if b then with_events [] v else ignorables_hidden_by o v).view.max_ops ≡ v.max_ops) [ true ↦ refl | false ↦ hidden_budget o v ]

end_budget : (p : Shaping) (s : BufferState) → (ignorables_state p (visual_state p (link_state p s))).view.max_ops ≡ s.view.max_ops
end_budget p s =
    let flags = p.settings.flags in
    let s1 = state_by (zero_widths flags) s in
    let s2 = state_by links_followed s1 in
    let s3 = state_if p.choices.fallback_mark_positioning (marks_positioned p) s2 in
    let s4 = state_by visual_order s3 in
    let s5 = state_by (with_selectors p.settings.not_found_variation_selector) s4 in
    ignorables_budget flags p.settings.invisible p.font s5.view ∙ selectors_budget p.settings.not_found_variation_selector s4.view ∙ order_budget s3.view ∙ marks_budget p s2 ∙ links_budget s1.view ∙ widths_budget flags s.view

-- the limits are enough for substitution and for positioning where they are for both
record AreSpared (p : Shaping) (s : BufferState) (r : Read) (q : IsRoute p s r) : Type 0 where
  first : IsSpared (glyph_state p s).level (glyph_state p s).view q.substituted
  second : IsSpared (glyph_state p s).level (advance_state p (state_after q.substituted (glyph_state p s))).view q.adjusted

taken_level : (p : Shaping) (s : BufferState) → (glyph_state p s).level ≡ s.level
taken_level p s = elim p.choices.fallback_mark_positioning as (λ b. (state_by with_glyphs (if b then state_by with_fallback_classes s else s)).level ≡ s.level) [ true ↦ refl | false ↦ refl ]

spared_of : (p : Shaping) (s : BufferState) (r : Read) (q : IsRoute p s r) → EndsPlainly p s.view → OnlySpends (glyphs_substituted p) → OnlySpends (positions_adjusted p) → s.view.lig_id ≡ 0 → IsSpared s.level s.view r → AreSpared p s r q
spared_of p s r q ends first second none h =
    let v1 = (glyph_state p s).view in
    let s2 = state_after q.substituted (glyph_state p s) in
    let v3 = (advance_state p s2).view in
    let one = first s.level v1 q.substituted q.substituted_is in
    let two = second s.level v3 q.adjusted q.adjusted_is in
    let all = h.numbers in
    let many = q.many in
    let number = taken_number p s in
    let some : v1.lig_id + merge_count s.level q.substituted ≤ 7 = omega (arith, all, many, number, none) in
    let given = one.numbers some in
    let all_left : is_left q.finished.view.max_ops ≡ true = ap is_left (sym (ap (λ (t : BufferState). t.view.max_ops) q.end)) ∙ h.budget in
    let left : is_left q.adjusted.view.max_ops ≡ true = ap is_left (sym (end_budget p (state_after q.adjusted (advance_state p s2)))) ∙ ends.budget (ignorables_state p (visual_state p (link_state p (state_after q.adjusted (advance_state p s2))))).view q.finished q.finished_is all_left in
    record {
      first = subst (λ (level : BufferClusterLevel). IsSpared level v1 q.substituted) (sym (taken_level p s)) (record { budget = two.budget left; numbers = some });
      second = subst (λ (level : BufferClusterLevel). IsSpared level v3 q.adjusted) (sym (taken_level p s)) (record { budget = left; numbers = omega (arith, all, many, number, none, given) });
    }

-- ---- SAFE_TO_INSERT_TATWEEL

pub tatweel_step : (r : Read) (s : BufferState) → s.asks.tatweel ≡ false → HaveNoTatweel s.origins → HaveNoTatweel (state_after r s).origins
tatweel_step r s e h = no_tatweel_stays s.asks s.level (r.events s.level) s.origins e h

tatweel_if : (b : Bool) (f : View → Read) (s : BufferState) → s.asks.tatweel ≡ false → HaveNoTatweel s.origins → HaveNoTatweel (state_if b f s).origins
tatweel_if true f s e h = tatweel_step (f s.view) s e h
tatweel_if false f s e h = h

asks_if : (b : Bool) (f : View → Read) (s : BufferState) → (state_if b f s).asks ≡ s.asks
asks_if true f s = refl
asks_if false f s = refl

no_tatweel : (p : Shaping) (s : BufferState) (a b : Read) → s.asks.tatweel ≡ false → HaveNoTatweel s.origins → HaveNoTatweel (ignorables_state p (visual_state p (link_state p (state_after b (advance_state p (state_after a (glyph_state p s))))))).origins
no_tatweel p s a b e h =
    let w = p.choices.fallback_mark_positioning in
    let s0 = state_if w with_fallback_classes s in
    let e0 : s0.asks.tatweel ≡ false = ap (λ (k : Asks). k.tatweel) (asks_if w with_fallback_classes s) ∙ e in
    let h0 = tatweel_if w with_fallback_classes s e h in
    let s1 = glyph_state p s in
    let s2 = state_after a s1 in
    let h2 : HaveNoTatweel s2.origins = tatweel_step a s1 e0 (tatweel_step (with_glyphs s0.view) s0 e0 h0) in
    let s3 = advance_state p s2 in
    let s4 = state_after b s3 in
    let h4 : HaveNoTatweel s4.origins = tatweel_step b s3 e0 h2 in
    let s5 = state_by (zero_widths p.settings.flags) s4 in
    let h5 = tatweel_step (zero_widths p.settings.flags s4.view) s4 e0 h4 in
    let s6 = link_state p s4 in
    let h6 = tatweel_step (links_followed s5.view) s5 e0 h5 in
    let s7 = state_if w (marks_positioned p) s6 in
    let e7 : s7.asks.tatweel ≡ false = ap (λ (k : Asks). k.tatweel) (asks_if w (marks_positioned p) s6) ∙ e0 in
    let h7 = tatweel_if w (marks_positioned p) s6 e0 h6 in
    let s8 = visual_state p s6 in
    let h8 = tatweel_step (visual_order s7.view) s7 e7 h7 in
    let s9 = state_by (with_selectors p.settings.not_found_variation_selector) s8 in
    let h9 = tatweel_step (with_selectors p.settings.not_found_variation_selector s8.view) s8 e7 h8 in
    tatweel_step (ignorables_hidden p.settings.flags p.settings.invisible p.font s9.view) s9 e7 h9

asks_kept : (p : Shaping) (s : BufferState) (a b : Read) → (ignorables_state p (visual_state p (link_state p (state_after b (advance_state p (state_after a (glyph_state p s))))))).asks ≡ s.asks
asks_kept p s a b = asks_if p.choices.fallback_mark_positioning (marks_positioned p) (link_state p (state_after b (advance_state p (state_after a (glyph_state p s))))) ∙ asks_if p.choices.fallback_mark_positioning with_fallback_classes s

tatweel_at_end : (p : Shaping) (s : BufferState) (a b : Read) → (s.asks.tatweel ≡ true) ⊎ HaveNoTatweel s.origins
    → ((ignorables_state p (visual_state p (link_state p (state_after b (advance_state p (state_after a (glyph_state p s))))))).asks.tatweel ≡ true) ⊎ HaveNoTatweel (ignorables_state p (visual_state p (link_state p (state_after b (advance_state p (state_after a (glyph_state p s))))))).origins
tatweel_at_end p s a b (inl asked) = inl (ap (λ (k : Asks). k.tatweel) (asks_kept p s a b) ∙ asked)
tatweel_at_end p s a b (inr none) = by_test s.asks.tatweel refl
  where
    by_test : (t : Bool) → s.asks.tatweel ≡ t → ((ignorables_state p (visual_state p (link_state p (state_after b (advance_state p (state_after a (glyph_state p s))))))).asks.tatweel ≡ true) ⊎ HaveNoTatweel (ignorables_state p (visual_state p (link_state p (state_after b (advance_state p (state_after a (glyph_state p s))))))).origins
    by_test true e = inl (ap (λ (k : Asks). k.tatweel) (asks_kept p s a b) ∙ e)
    by_test false e = inr (no_tatweel p s a b e none)

-- ---- substitution and positioning

substituted : (seam : Seam) (p p1 p2 : Shaping) (c : ℕ) (whole earlier later : BufferState) (r e l : Read) → SubstitutesApart seam p p1 p2 → Carries false c whole earlier later (Unit {0}) → AreUnnumbered whole.view earlier.view later.view
    → glyphs_substituted p whole.view ≡ Ok r → glyphs_substituted p1 earlier.view ≡ Ok e → glyphs_substituted p2 later.view ≡ Ok l → IsSpared whole.level whole.view r → IsSpared earlier.level earlier.view e → IsSpared later.level later.view l
    → Carries false c (state_after r whole) (state_after e earlier) (state_after l later) (seam e.view.items l.view.items ≡ true)
substituted seam p p1 p2 c whole earlier later r e l h q none is_r is_e is_l sr se sl = record {
  ready = h.breakable whole r is_r q.ready;
  divided = elim q.divided [
    | inl unsafe ↦ inl (h.unsafe whole r c is_r q.ready unsafe)
    | inr both ↦ h.divides c whole earlier later r e l q.ready both.0 none is_r is_e is_l sr se sl
  ];
}

adjusted : (seam : Seam) (p p1 p2 : Shaping) (c : ℕ) (whole earlier later : BufferState) (r e l : Read) → PositionsApart seam p p1 p2 → Carries false c whole earlier later (seam earlier.view.items later.view.items ≡ true) → AreUnattached whole.view earlier.view later.view
    → positions_adjusted p whole.view ≡ Ok r → positions_adjusted p1 earlier.view ≡ Ok e → positions_adjusted p2 later.view ≡ Ok l → IsSpared whole.level whole.view r → IsSpared earlier.level earlier.view e → IsSpared later.level later.view l
    → Carries false c (state_after r whole) (state_after e earlier) (state_after l later) (AreLinkedApart r.view e.view l.view)
adjusted seam p p1 p2 c whole earlier later r e l h q none is_r is_e is_l sr se sl = record {
  ready = h.breakable whole r is_r q.ready;
  divided = elim q.divided [
    | inl unsafe ↦ inl (h.unsafe whole r c is_r q.ready unsafe)
    | inr both ↦ h.divides c whole earlier later r e l q.ready both.0 both.1 none is_r is_e is_l sr se sl
  ];
}

-- the settings of a fragment that is shaped as the whole
abbrev early_shaping : Shaping → List ℕ → BufferFlags → Shaping
early_shaping p context flags = record p { settings = record p.settings { post_context = context; flags = flags } }

abbrev late_shaping : Shaping → List ℕ → BufferFlags → Shaping
late_shaping p context flags = record p { settings = record p.settings { pre_context = context; flags = flags } }

-- the states of a text and of its fragments where links are followed
begun_apart : (p p1 p2 : Shaping) (c : ℕ) (whole earlier later : BufferState) (P : Type 0) → p1.font ≡ p.font → p2.font ≡ p.font → Carries false c whole earlier later P → Carries false c (advance_state p whole) (advance_state p1 earlier) (advance_state p2 later) P
begun_apart p p1 p2 c whole earlier later P e g q =
    subst (λ (font : FaceParts). Carries false c (advance_state p whole) (state_by links_cleared (state_by (with_spaces font) (state_by (with_default_positions font) (state_by with_zero_positions earlier)))) (advance_state p2 later) P) (sym e)
    (subst (λ (font : FaceParts). Carries false c (advance_state p whole) (advance_state p earlier) (state_by links_cleared (state_by (with_spaces font) (state_by (with_default_positions font) (state_by with_zero_positions later)))) P) (sym g) four)
  where
    one : Carries false c (state_by with_zero_positions whole) (state_by with_zero_positions earlier) (state_by with_zero_positions later) P
    one = carried false false with_zero_positions with_zero_positions with_zero_positions c whole earlier later P (zeros_divide false) q

    two : Carries false c (state_by (with_default_positions p.font) (state_by with_zero_positions whole)) (state_by (with_default_positions p.font) (state_by with_zero_positions earlier)) (state_by (with_default_positions p.font) (state_by with_zero_positions later)) P
    two = carried false false (with_default_positions p.font) (with_default_positions p.font) (with_default_positions p.font) c (state_by with_zero_positions whole) (state_by with_zero_positions earlier) (state_by with_zero_positions later) P (advances_divide false p.font) one

    four : Carries false c (advance_state p whole) (advance_state p earlier) (advance_state p later) P
    four =
        let w = state_by (with_default_positions p.font) (state_by with_zero_positions whole) in
        let f = state_by (with_default_positions p.font) (state_by with_zero_positions earlier) in
        let g = state_by (with_default_positions p.font) (state_by with_zero_positions later) in
        carried false false links_cleared links_cleared links_cleared c (state_by (with_spaces p.font) w) (state_by (with_spaces p.font) f) (state_by (with_spaces p.font) g) P (cleared_divide false)
        (carried false false (with_spaces p.font) (with_spaces p.font) (with_spaces p.font) c w f g P (spaces_divide false p.font) two)

-- from positions that are adjusted to what is shown
shown_apart : (p : Shaping) (early_context late_context : List ℕ) (f1 f2 : BufferFlags) (c : ℕ) (whole earlier later : BufferState) → HaveSameRequests p.settings.flags f1 → HaveSameRequests p.settings.flags f2
    → Carries false c whole earlier later (AreLinkedApart whole.view earlier.view later.view)
    → (turned : Bool) × Carries turned c (ignorables_state p (visual_state p (link_state p whole))) (ignorables_state (early_shaping p early_context f1) (visual_state (early_shaping p early_context f1) (link_state (early_shaping p early_context f1) earlier)))
    (ignorables_state (late_shaping p late_context f2) (visual_state (late_shaping p late_context f2) (link_state (late_shaping p late_context f2) later))) (Unit {0})
shown_apart p early_context late_context f1 f2 c whole earlier later same1 same2 q =
    let p1 = early_shaping p early_context f1 in
    let p2 = late_shaping p late_context f2 in
    let f = p.settings.flags in
    let w1 = state_by (zero_widths f) whole in
    let e1 = state_by (zero_widths f1) earlier in
    let l1 = state_by (zero_widths f2) later in
    let linked = carried_as false c whole earlier later (AreLinkedApart whole.view earlier.view later.view) (AreLinkedApart w1.view e1.view l1.view)
    (λ j h. widths_linked f f1 f2 whole.view earlier.view later.view q.ready.whole.positions j.early_whole.positions j.late_whole.positions h) q in
    let zeroed = carried false false (zero_widths f) (zero_widths f1) (zero_widths f2) c whole earlier later (AreLinkedApart w1.view e1.view l1.view) (widths_of false f f1 f2 same1 same2) linked in
    let w2 = state_by links_followed w1 in
    let e2 = state_by links_followed e1 in
    let l2 = state_by links_followed l1 in
    let followed : Carries false c w2 e2 l2 (Unit {0}) = record {
      ready = state_by_breakable links_followed followed_is_plain w1 zeroed.ready;
      divided = elim zeroed.divided [ inl unsafe ↦ inl (state_by_unsafe links_followed followed_is_plain w1 c zeroed.ready unsafe) | inr both ↦ inr (links_divide false c w1 e1 l1 both.0 both.1, tt) ];
    } in
    let b = p.choices.fallback_mark_positioning in
    let marked = carried_if b false (marks_positioned p) (marks_positioned p1) (marks_positioned p2) c w2 e2 l2 (Unit {0}) (λ wanted. fallback_marks_divide p) followed in
    let w3 = state_if b (marks_positioned p) w2 in
    let e3 = state_if b (marks_positioned p1) e2 in
    let l3 = state_if b (marks_positioned p2) l2 in
    let turned = is_backward w3.view.direction in
    let w4 = state_by visual_order w3 in
    let e4 = state_by visual_order e3 in
    let l4 = state_by visual_order l3 in
    let lined : Carries turned c w4 e4 l4 (Unit {0}) = record {
      ready = state_by_breakable visual_order order_is_plain w3 marked.ready;
      divided = elim (order_divides c w3 e3 l3 marked.ready (carried_plain false c w3 e3 l3 (Unit {0}) marked)) [ inl unsafe ↦ inl unsafe | inr j ↦ inr (j, tt) ];
    } in
    let set = p.settings.not_found_variation_selector in
    let selected = carried turned turned (with_selectors set) (with_selectors set) (with_selectors set) c w4 e4 l4 (Unit {0}) (selectors_divide turned set) lined in
    let w5 = state_by (with_selectors set) w4 in
    let e5 = state_by (with_selectors set) e4 in
    let l5 = state_by (with_selectors set) l4 in
    let i = p.settings.invisible in
    let hidden = carried turned turned (ignorables_hidden f i p.font) (ignorables_hidden f1 i p.font) (ignorables_hidden f2 i p.font) c w5 e5 l5 (Unit {0}) (ignorables_of turned f f1 f2 i p.font same1 same2) selected in
    (turned, hidden)

-- ---- the shaper's last stage

-- it leaves a text that it comes to, where each glyph has a position
finished_same : (p : Shaping) (s : BufferState) (r : Read) (q : IsRoute p s r) (t : BufferState) → EndsPlainly p s.view → q.reached.view ≡ t.view → postprocessing_stage p t.view ≡ Ok q.finished → IsWhole t → state_after q.finished t ≡ t
finished_same p s r q t h there is w =
    let many : length q.reached.view.positions ≡ length q.reached.view.items = ap (λ (v : View). length v.positions) there ∙ w.positions ∙ sym (ap (λ (v : View). length v.items) there) in
    let same = h.same q.reached q.finished q.reached_is many (ap (postprocessing_stage p) there ∙ is) in
    ap (λ (x : Read). state_after x t) same ∙ ap (λ (v : View). state_after (with_events [] v) t) there

-- a text and its fragments after it
finished_apart : (turned : Bool) (c : ℕ) (whole earlier later earlier' later' : BufferState) → Carries turned c whole earlier later (Unit {0}) → (IsWhole earlier → earlier' ≡ earlier) → (IsWhole later → later' ≡ later) → StaysDivided turned c whole earlier' later'
finished_apart turned c whole earlier later earlier' later' q early late = elim q.divided [
  | inl unsafe ↦ inl unsafe
  | inr both ↦
      let j = both.0 in
      inr (subst (λ (s : BufferState). AreFragments turned c whole s later') (sym (early j.early_whole)) (subst (λ (s : BufferState). AreFragments turned c whole earlier s) (sym (late j.late_whole)) j))
]

-- ---- from characters to the end

-- what a text shows at the end, and what its fragments show, where these are shaped as the whole
shows_for : (seam : Seam) (p : Shaping) (early_context late_context : List ℕ) (f1 f2 : BufferFlags) (c : ℕ) (whole earlier later : BufferState) (r e l : Read) (falls : Bool) → HaveSameRequests p.settings.flags f1 → HaveSameRequests p.settings.flags f2
    → StaysBroken c whole earlier later → GlyphsApart seam p (early_shaping p early_context f1) (late_shaping p late_context f2)
    → EndsPlainly p whole.view → EndsPlainly (early_shaping p early_context f1) earlier.view → EndsPlainly (late_shaping p late_context f2) later.view
    → before_reset p whole.view ≡ Ok r → before_reset (early_shaping p early_context f1) earlier.view ≡ Ok e → before_reset (late_shaping p late_context f2) later.view ≡ Ok l
    → IsSpared whole.level whole.view r → IsSpared earlier.level earlier.view e → IsSpared later.level later.view l → (whole.asks.tatweel ≡ true) ⊎ HaveNoTatweel whole.origins
    → MayBeCutAt c (final_state p r whole) → IsInOrder falls (numbers (final_state p r whole).origins) → ShowsBoth falls (final_state p r whole) (final_state (early_shaping p early_context f1) e earlier) (final_state (late_shaping p late_context f2) l later)
shows_for seam p early_context late_context f1 f2 c whole earlier later r e l falls same1 same2 stays h ends early_ends late_ends is_r is_e is_l spared_r spared_e spared_l tatweel cut order =
    let p1 = early_shaping p early_context f1 in
    let p2 = late_shaping p late_context f2 in
    let rr = route p whole r is_r in
    let ee = route p1 earlier e is_e in
    let ll = route p2 later l is_l in
    let sr = spared_of p whole r rr ends h.substitutes.spends h.positions.spends stays.numbers.whole_none spared_r in
    let se = spared_of p1 earlier e ee early_ends h.substitutes.early_spends h.positions.early_spends stays.numbers.early_none spared_e in
    let sl = spared_of p2 later l ll late_ends h.substitutes.late_spends h.positions.late_spends stays.numbers.late_none spared_l in
    let b = p.choices.fallback_mark_positioning in
    let first : Carries false c whole earlier later (Unit {0}) = record { ready = stays.breakable; divided = elim stays.divided [ inl unsafe ↦ inl unsafe | inr j ↦ inr (j, tt) ] } in
    let classed = carried_if b false with_fallback_classes with_fallback_classes with_fallback_classes c whole earlier later (Unit {0}) (λ wanted. fallback_classes_divide false) first in
    let w1 = glyph_state p whole in
    let e1 = glyph_state p1 earlier in
    let l1 = glyph_state p2 later in
    let glyphs : Carries false c w1 e1 l1 (Unit {0}) =
    carried false false with_glyphs with_glyphs with_glyphs c (state_if b with_fallback_classes whole) (state_if b with_fallback_classes earlier) (state_if b with_fallback_classes later) (Unit {0}) (glyphs_divide false) classed in
    let none : AreUnnumbered w1.view e1.view l1.view = record {
      whole_none = taken_number p whole ∙ stays.numbers.whole_none;
      early_none = taken_number p1 earlier ∙ stays.numbers.early_none;
      late_none = taken_number p2 later ∙ stays.numbers.late_none;
    } in
    let changed = substituted seam p p1 p2 c w1 e1 l1 rr.substituted ee.substituted ll.substituted h.substitutes glyphs none rr.substituted_is ee.substituted_is ll.substituted_is sr.first se.first sl.first in
    let w2 = state_after rr.substituted w1 in
    let e2 = state_after ee.substituted e1 in
    let l2 = state_after ll.substituted l1 in
    let P = seam e2.view.items l2.view.items ≡ true in
    let advanced = begun_apart p p1 p2 c w2 e2 l2 P refl refl changed in
    let w3 = advance_state p w2 in
    let e3 = advance_state p1 e2 in
    let l3 = advance_state p2 l2 in
    let free : AreUnattached w3.view e3.view l3.view = record {
      whole_none = cleared_unlinked (state_by (with_spaces p.font) (state_by (with_default_positions p.font) (state_by with_zero_positions w2))).view.positions;
      early_none = cleared_unlinked (state_by (with_spaces p.font) (state_by (with_default_positions p.font) (state_by with_zero_positions e2))).view.positions;
      late_none = cleared_unlinked (state_by (with_spaces p.font) (state_by (with_default_positions p.font) (state_by with_zero_positions l2))).view.positions;
    } in
    let placed = adjusted seam p p1 p2 c w3 e3 l3 rr.adjusted ee.adjusted ll.adjusted h.positions advanced free rr.adjusted_is ee.adjusted_is ll.adjusted_is sr.second se.second sl.second in
    let w4 = state_after rr.adjusted w3 in
    let e4 = state_after ee.adjusted e3 in
    let l4 = state_after ll.adjusted l3 in
    let last = shown_apart p early_context late_context f1 f2 c w4 e4 l4 same1 same2 placed in
    let d = p.direction in
    let w5 = ignorables_state p (visual_state p (link_state p w4)) in
    let e5 = ignorables_state p1 (visual_state p1 (link_state p1 e4)) in
    let l5 = ignorables_state p2 (visual_state p2 (link_state p2 l4)) in
    let e6 = state_after ee.finished e5 in
    let l6 = state_after ll.finished l5 in
    let w6_is : state_after rr.finished w5 ≡ w5 = finished_same p whole r rr w5 ends rr.there rr.finished_is last.1.ready.whole in
    let divided = finished_apart last.0 c w5 e5 l5 e6 l6 last.1 (finished_same p1 earlier e ee e5 early_ends ee.there ee.finished_is) (finished_same p2 later l ll l5 late_ends ll.there ll.finished_is) in
    let whole_end : final_state p r whole ≡ end_state d w5 = ap (state_by (final_view d)) (rr.end ∙ ap (state_by with_flags_spread) w6_is) in
    let early_end : final_state p1 e earlier ≡ end_state d e6 = ap (state_by (final_view d)) ee.end in
    let late_end : final_state p2 l later ≡ end_state d l6 = ap (state_by (final_view d)) ll.end in
    let shows = ends_show last.0 falls d d d c w5 e6 l6 divided (tatweel_at_end p whole rr.substituted rr.adjusted tatweel) (subst (MayBeCutAt c) whole_end cut) (subst (λ (s : BufferState). IsInOrder falls (numbers s.origins)) whole_end order) in
    subst (λ (s : BufferState). ShowsBoth falls s (final_state p1 e earlier) (final_state p2 l later)) (sym whole_end)
    (subst (λ (s : BufferState). ShowsBoth falls (end_state d w5) s (final_state p2 l later)) (sym early_end) (subst (λ (s : BufferState). ShowsBoth falls (end_state d w5) (end_state d e6) s) (sym late_end) shows))

-- two shapings of fragments, as their settings are
early_as : (p q : Shaping) → q ≡ record p { settings = q.settings } → q.settings ≡ record p.settings { post_context = q.settings.post_context; flags = q.settings.flags } → q ≡ early_shaping p q.settings.post_context q.settings.flags
early_as p q e f = e ∙ ap (λ (t : TextSettings). record p { settings = t }) f

late_as : (p q : Shaping) → q ≡ record p { settings = q.settings } → q.settings ≡ record p.settings { pre_context = q.settings.pre_context; flags = q.settings.flags } → q ≡ late_shaping p q.settings.pre_context q.settings.flags
late_as p q e f = e ∙ ap (λ (t : TextSettings). record p { settings = t }) f

pub glyphs_show_both : GlyphsShowBoth
glyphs_show_both seam p p1 p2 c whole earlier later r e l falls shapings =
    subst (λ (q : Shaping). Shows q p2) (sym (early_as p p1 shapings.early_is shapings.settings.early_is))
    (subst (λ (q : Shaping). Shows (early_shaping p p1.settings.post_context p1.settings.flags) q) (sym (late_as p p2 shapings.late_is shapings.settings.late_is))
    (λ stays h ends early_ends late_ends is_r is_e is_l spared_r spared_e spared_l tatweel cut order. shows_for seam p p1.settings.post_context p2.settings.pre_context p1.settings.flags p2.settings.flags c whole earlier later r e l falls shapings.settings.early_requests
    shapings.settings.late_requests stays h ends early_ends late_ends is_r is_e is_l spared_r spared_e spared_l tatweel cut order))
  where
    Shows : Shaping → Shaping → Type 0
    Shows q1 q2 = StaysBroken c whole earlier later → GlyphsApart seam p q1 q2 → EndsPlainly p whole.view → EndsPlainly q1 earlier.view → EndsPlainly q2 later.view → before_reset p whole.view ≡ Ok r → before_reset q1 earlier.view ≡ Ok e → before_reset q2 later.view ≡ Ok l
        → IsSpared whole.level whole.view r → IsSpared earlier.level earlier.view e → IsSpared later.level later.view l → (whole.asks.tatweel ≡ true) ⊎ HaveNoTatweel whole.origins
        → MayBeCutAt c (final_state p r whole) → IsInOrder falls (numbers (final_state p r whole).origins) → ShowsBoth falls (final_state p r whole) (final_state q1 e earlier) (final_state q2 l later)

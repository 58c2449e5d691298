-- GSUB, after the classes of glyphs, in a text and in its fragments.
use Rattle.std.proofs.Common.{ℕ, ℤ, ◌≡◌, ◌⊎◌, inl, inr, not, Bool, true, false, List, [], ◌∷◌, Option, None, Some, Ok, map, arith, refl, sym, ap, subst, ◌∙◌}
use Rattle.std.specs.Prelude.{reverse}
use Rattle.buffer_glyphs.specs.Items.{Item}
use Rattle.buffer_glyphs.specs.Parts.{first_of}
use Rattle.buffer_core.specs.Readings.{BufferState, Read, Stage, View, always, and_then, as_it_is, state_after, with_events}
use Rattle.buffer_parts.specs.Counting.{is_left}
use Rattle.buffer_parts.specs.Lemmas.Stages.{same_read}
use Rattle.buffer_parts.specs.Breaks.Divisible.{IsBreakable, IsDivisible, IsSpared, IsSpent, OnlySpends}
use Rattle.buffer_parts.specs.Breaks.Fragments.{AreFragments}
use Rattle.buffer_parts.specs.Breaks.Unsafe.{IsUnsafeAt}
use Rattle.buffer_parts.proofs.BreakLemmas.Division.{divisible_in_turn, free_is_divisible, wanted_is_divisible}
use Rattle.layout_laws.specs.Breaks.Positioned.{AreApart}
use Rattle.layout_laws.specs.Breaks.Seams.{IsDivisibleAtSeam, IsOwnFirst, KeepsOwn}
use Rattle.layout_laws.proofs.BreakLemmas.InOrder.{nothing_divisible}
use Rattle.layout_laws.proofs.BreakLemmas.Seams.{keeping_is_divisible_at_seam, own_seam_is_apart, seam_stays_in_turn, unnumbered_is_own}
use Rattle.layout_face.specs.declared.parts.FaceParts.{FaceParts}
use Rattle.layout_gsub.specs.GlyphClasses.{item_with_font_class, with_font_classes}
use Rattle.layout_substitution.specs.Substituting.{substitution_stages}
use Rattle.shape_glyphs.specs.Glyphs.{item_with_synthesized_class, with_synthesized_classes}
use Rattle.shape_pipeline.specs.Chains.{in_order, only_if}
use Rattle.shape_pipeline.specs.Glyphs.{glyphs_substituted}
use Rattle.shape_pipeline.specs.Shaping.{Shaping, pauses_of}
use Rattle.shape_laws.specs.Breaks.Apart.{SubstitutesApart}
use Rattle.shape_laws.specs.Breaks.Seams.{GlyphsAreSubstitutedApart, are_apart, begins_apart}
use Rattle.shape_laws.proofs.BreakLemmas.GlyphStages.{font_classes_divide, synthesized_divide}
use Rattle.shape_laws.proofs.BreakLemmas.PlainDivision.{state_by}
use Rattle.shape_laws.proofs.BreakLemmas.Route.{IsThen, state_by_then}

-- ---- the items at the break

apart_test : (x y : Option Item) → AreApart x y → begins_apart x y ≡ true
apart_test None y h = refl
apart_test (Some x) None h = refl
apart_test (Some x) (Some y) h = ap not h

-- ---- classes

classes_spend : (font : FaceParts) → OnlySpends (always (with_font_classes font))
classes_spend font level v r e = subst (λ (x : Read). IsSpent level v x) (same_read (with_font_classes font v) r e) (record { budget = λ h. h; numbers = λ h. omega arith })

synthesized_spend : (b : Bool) → OnlySpends (only_if b (always with_synthesized_classes))
synthesized_spend true level v r e = subst (λ (x : Read). IsSpent level v x) (same_read (with_synthesized_classes v) r e) (record { budget = λ h. h; numbers = λ h. omega arith })
synthesized_spend false level v r e = subst (λ (x : Read). IsSpent level v x) (same_read (with_events [] v) r e) (record { budget = λ h. h; numbers = λ h. omega arith })

-- synthesized classes keep the ligature words
first_synthesized : (xs : List Item) → IsOwnFirst (first_of xs) → IsOwnFirst (first_of (map item_with_synthesized_class xs))
first_synthesized [] h = tt
first_synthesized (x ∷ xs) h = h

synthesized_own : (b : Bool) → KeepsOwn (only_if b (always with_synthesized_classes))
synthesized_own true v r e h = subst (λ (x : Read). IsOwnFirst (first_of x.view.items)) (same_read (with_synthesized_classes v) r e) (first_synthesized v.items h)
synthesized_own false v r e h = subst (λ (x : Read). IsOwnFirst (first_of x.view.items)) (same_read (with_events [] v) r e) h

-- font classes empty them
first_classed : (font : FaceParts) (xs : List Item) → IsOwnFirst (first_of (map (item_with_font_class font) xs))
first_classed font [] = tt
first_classed font (x ∷ xs) = unnumbered_is_own (item_with_font_class font x) refl

-- ---- the stages

nothing_at_seam : IsDivisibleAtSeam false as_it_is as_it_is as_it_is
nothing_at_seam = keeping_is_divisible_at_seam false as_it_is as_it_is as_it_is (nothing_divisible false) keeps keeps
  where
    keeps : KeepsOwn as_it_is
    keeps v r e h = subst (λ (x : Read). IsOwnFirst (first_of x.view.items)) (same_read (with_events [] v) r e) h

gsub_at_seam : (b : Bool) (s s1 s2 : Stage) → IsDivisibleAtSeam false s s1 s2
    → IsDivisibleAtSeam false (in_order (only_if b (always with_synthesized_classes) ∷ s ∷ [])) (in_order (only_if b (always with_synthesized_classes) ∷ s1 ∷ [])) (in_order (only_if b (always with_synthesized_classes) ∷ s2 ∷ []))
gsub_at_seam b s s1 s2 h =
    let classes = only_if b (always with_synthesized_classes) in
    let free = wanted_is_divisible b false (always with_synthesized_classes) (always with_synthesized_classes) (always with_synthesized_classes) (synthesized_divide false) in
    let first = free_is_divisible false false classes classes classes free (synthesized_spend b) (synthesized_spend b) (synthesized_spend b) in
    seam_stays_in_turn false classes classes classes (in_order (s ∷ [])) (in_order (s1 ∷ [])) (in_order (s2 ∷ [])) (keeping_is_divisible_at_seam false classes classes classes first (synthesized_own b) (synthesized_own b))
    (seam_stays_in_turn false s s1 s2 (in_order []) (in_order []) (in_order []) h nothing_at_seam)

-- what is known of GSUB with its synthesized classes is known of it with the font's classes before them
with_classes : (font : FaceParts) (s s1 s2 : Stage) → IsDivisibleAtSeam false s s1 s2 → IsDivisible false false (λ v. and_then (always (with_font_classes font) v) s) (λ v. and_then (always (with_font_classes font) v) s1) (λ v. and_then (always (with_font_classes font) v) s2)
with_classes font s s1 s2 h =
    let classes = always (with_font_classes font) in
    divisible_in_turn false false false classes classes classes s s1 s2 (free_is_divisible false false classes classes classes (font_classes_divide false font) (classes_spend font) (classes_spend font) (classes_spend font)) h.divisible

spared_then : (f : View → Read) (rest : Stage) (s : BufferState) (r : Read) (q : IsThen (state_by f s) rest s r) → (state_by f s).view.lig_id ≡ s.view.lig_id → IsSpared s.level s.view r → IsSpared s.level (state_by f s).view q.again
spared_then f rest s r q same h =
    let all = h.numbers in
    let many = q.many in
    record { budget = subst (λ (n : ℤ). is_left n ≡ true) (ap (λ (t : BufferState). t.view.max_ops) q.both) h.budget; numbers = omega (arith, all, many, same) }

seam_after : (font : FaceParts) (s s1 s2 : Stage) → IsDivisibleAtSeam false s s1 s2 → (c : ℕ) (whole earlier later : BufferState) (r e l : Read) → IsBreakable whole → AreFragments false c whole earlier later
    → and_then (always (with_font_classes font) whole.view) s ≡ Ok r → and_then (always (with_font_classes font) earlier.view) s1 ≡ Ok e → and_then (always (with_font_classes font) later.view) s2 ≡ Ok l
    → IsSpared whole.level whole.view r → IsSpared earlier.level earlier.view e → IsSpared later.level later.view l
    → IsUnsafeAt c (state_after r whole).origins ⊎ (AreFragments false c (state_after r whole) (state_after e earlier) (state_after l later) × (are_apart e.view.items l.view.items ≡ true))
seam_after font s s1 s2 h c whole earlier later r e l ready j is_r is_e is_l spared_r spared_e spared_l =
    let f = with_font_classes font in
    let rr = state_by_then f s whole r is_r in
    let ee = state_by_then f s1 earlier e is_e in
    let ll = state_by_then f s2 later l is_l in
    let w = state_by f whole in
    let a = state_by f earlier in
    let b = state_by f later in
    let all = with_classes font s s1 s2 h in
    elim ((font_classes_divide false font).divides c whole earlier later (f whole.view) (f earlier.view) (f later.view) ready j refl refl refl) [
      | inl unsafe ↦ inl (all.unsafe whole r c is_r ready unsafe)
      | inr classed ↦
          let good = (font_classes_divide false font).breakable whole (f whole.view) refl ready in
          let seam = h.seam c w a b rr.again ee.again ll.again good classed (first_classed font later.view.items) rr.again_is ee.again_is ll.again_is (spared_then f s whole r rr refl spared_r) (spared_then f s1 earlier e ee refl spared_e) (spared_then f s2 later l ll refl spared_l) in
          elim (all.divides c whole earlier later r e l ready j is_r is_e is_l spared_r spared_e spared_l) [
            | inl unsafe ↦ inl unsafe
            | inr again ↦ elim seam [
              | inl unsafe ↦ inl (subst (λ (t : BufferState). IsUnsafeAt c t.origins) (sym rr.both) unsafe)
              | inr own ↦
                  let test = apart_test (first_of (reverse ee.again.view.items)) (first_of ll.again.view.items) (own_seam_is_apart false (state_after ee.again a) (state_after ll.again b) own) in
                  let early : e.view.items ≡ ee.again.view.items = ap (λ (t : BufferState). t.view.items) ee.both in
                  let late : l.view.items ≡ ll.again.view.items = ap (λ (t : BufferState). t.view.items) ll.both in
                  inr (again, ap (λ xs. are_apart xs l.view.items) early ∙ ap (are_apart ee.again.view.items) late ∙ test)
            ]
          ]
    ]

-- of three shapings alike but for their settings
apart_of : (font : FaceParts) (wanted : Bool) (s s1 s2 : Stage) (p p1 p2 : Shaping) → IsDivisibleAtSeam false s s1 s2
    → ((v : View) → glyphs_substituted p v ≡ in_order (always (with_font_classes font) ∷ only_if wanted (always with_synthesized_classes) ∷ s ∷ []) v) → ((v : View) → glyphs_substituted p1 v ≡ in_order (always (with_font_classes font) ∷ only_if wanted (always with_synthesized_classes) ∷ s1 ∷ []) v)
    → ((v : View) → glyphs_substituted p2 v ≡ in_order (always (with_font_classes font) ∷ only_if wanted (always with_synthesized_classes) ∷ s2 ∷ []) v) → SubstitutesApart are_apart p p1 p2
apart_of font wanted s s1 s2 p p1 p2 h is is1 is2 =
    let synthesized = only_if wanted (always with_synthesized_classes) in
    let t = in_order (synthesized ∷ s ∷ []) in
    let t1 = in_order (synthesized ∷ s1 ∷ []) in
    let t2 = in_order (synthesized ∷ s2 ∷ []) in
    let at = gsub_at_seam wanted s s1 s2 h in
    let all = with_classes font t t1 t2 at in
    record {
      divides = λ c whole earlier later r e l ready j none is_r is_e is_l spared_r spared_e spared_l.
          seam_after font t t1 t2 at c whole earlier later r e l ready j (sym (is whole.view) ∙ is_r) (sym (is1 earlier.view) ∙ is_e) (sym (is2 later.view) ∙ is_l) spared_r spared_e spared_l;
      breakable = λ x r e ready. all.breakable x r (sym (is x.view) ∙ e) ready;
      unsafe = λ x r c e ready u. all.unsafe x r c (sym (is x.view) ∙ e) ready u;
      spends = λ level v r e. all.spends level v r (sym (is v) ∙ e);
      early_spends = λ level v r e. all.early_spends level v r (sym (is1 v) ∙ e);
      late_spends = λ level v r e. all.late_spends level v r (sym (is2 v) ∙ e);
    }

-- the stage of a shaping, by the font and the choice of another that it has
substituted_as : (p q : Shaping) → q ≡ record p { settings = q.settings } → (v : View) → glyphs_substituted q v ≡ in_order (always (with_font_classes p.font) ∷ only_if p.choices.fallback_glyph_classes (always with_synthesized_classes) ∷ substitution_stages q.font q.map (pauses_of q) ∷ []) v
unfolding glyphs_substituted
substituted_as p q e v = ap (λ (k : Shaping). in_order (always (with_font_classes k.font) ∷ only_if k.choices.fallback_glyph_classes (always with_synthesized_classes) ∷ substitution_stages q.font q.map (pauses_of q) ∷ []) v) e

pub glyphs_are_substituted_apart : GlyphsAreSubstitutedApart
glyphs_are_substituted_apart p p1 p2 shapings h =
    apart_of p.font p.choices.fallback_glyph_classes (substitution_stages p.font p.map (pauses_of p)) (substitution_stages p1.font p1.map (pauses_of p1)) (substitution_stages p2.font p2.map (pauses_of p2)) p p1 p2 h
    (substituted_as p p refl) (substituted_as p p1 shapings.early_is) (substituted_as p p2 shapings.late_is)

-- Texts of a shaper with stages of its own, up to the masks of ranges.
use Rattle.std.proofs.Common.{ℕ, ◌≡◌, ◌⊎◌, inl, inr, false, [], ◌∷◌, Ok, refl, sym, ap, subst, ◌∙◌}
use Rattle.std.specs.Prelude.{codes}
use Rattle.layout_map.specs.Masks.{mask_at_one}
use Rattle.buffer_core.specs.Readings.{Read, BufferState, always, as_it_is, state_after, with_events}
use Rattle.buffer_properties.specs.NormalizedList.{has_later_mark}
use Rattle.buffer_properties.specs.Normalizer.{Normalizer}
use Rattle.buffer_parts.specs.Lemmas.Stages.{same_read}
use Rattle.buffer_stages.specs.Settings.{TextSettings}
use Rattle.buffer_parts.specs.Breaks.Unsafe.{IsUnsafeAt}
use Rattle.buffer_parts.specs.Breaks.Divisible.{IsBreakable, StaysDivided}
use Rattle.buffer_parts.specs.Breaks.Fragments.{AreGiven}
use Rattle.shape_text.specs.Fractions.{with_fractions}
use Rattle.shape_normalize.specs.Rounds.{normalization}
use Rattle.shape_pipeline.specs.Chains.{in_order, only_if}
use Rattle.shape_pipeline.specs.Characters.{characters_chosen, normalizer, text_begun, turned_to_line}
use Rattle.shape_pipeline.specs.Masks.{fraction_masks, masks_set}
use Rattle.shape_pipeline.specs.Reading.{before_ranges}
use Rattle.shape_pipeline.specs.Shaping.{Shaping, preprocessing_stage, shaper_masks_set}
use Rattle.shape_laws.specs.Breaks.Chains.{CharacterReads, fractions_state, own_state, turned_state, unmasked_state}
use Rattle.shape_laws.specs.Breaks.ChainLaws.{StagesDivide, TextsDivide}
use Rattle.shape_laws.specs.Breaks.Normalizing.{AreNormalizedApart}
use Rattle.shape_laws.specs.Breaks.Rewrites.{RewritesRuns}
use Rattle.shape_laws.specs.Breaks.Texts.{StaysBroken}
use Rattle.shape_laws.proofs.BreakLemmas.BegunTexts.{always_done, stages_done}
use Rattle.shape_laws.proofs.BreakLemmas.Normalized.{normalized_read, normalizing_divides, rounds_keep}
use Rattle.shape_laws.proofs.BreakLemmas.Plain.{fractions_stay, normalizer_alike, wanted_left}
use Rattle.shape_laws.proofs.BreakLemmas.Rotated.{rotation_divides}
use Rattle.shape_laws.proofs.BreakLemmas.Stages.{begun_texts_divide, turned_divide}

-- ---- one text

-- what is read of a text: what its characters are read as, and what the shaper's masks are
record IsChainRead (p : Shaping) (s : BufferState) (r : Read) : Type 0 where
  reads : CharacterReads p s
  masks : Read
  masks_is : shaper_masks_set p (unmasked_state p s reads).view ≡ Ok masks
  both : state_after r s ≡ state_after masks (unmasked_state p s reads)

-- a stage that changes nothing leaves the state
none_left : (s : BufferState) (r : Read) → as_it_is s.view ≡ Ok r → state_after r s ≡ s
none_left s r is = ap (λ (x : Read). state_after x s) (sym (same_read (with_events [] s.view) r is))

chain_read : (p : Shaping) (s : BufferState) (r : Read) → before_ranges p s.view ≡ Ok r → IsChainRead p s r
unfolding before_ranges characters_chosen masks_set
chain_read p s r e =
    let normal = normalization (normalizer p) in
    let fractions = only_if p.choices.has_frac (always (with_fractions (fraction_masks p.map))) in
    let chosen = in_order (preprocessing_stage p ∷ always (turned_to_line p) ∷ normal ∷ []) in
    let masks = in_order (fractions ∷ shaper_masks_set p ∷ []) in
    let one = stages_done (text_begun p) (in_order (chosen ∷ masks ∷ [])) s r e in
    let s1 = state_after one.once s in
    let two = stages_done chosen (in_order (masks ∷ [])) s1 one.again one.again_is in
    let first = stages_done (preprocessing_stage p) (in_order (always (turned_to_line p) ∷ normal ∷ [])) s1 two.once two.once_is in
    let s2 = state_after first.once s1 in
    let second = always_done (turned_to_line p) (in_order (normal ∷ [])) s2 first.again first.again_is in
    let s3 = turned_state p s2 in
    let third = stages_done normal (in_order []) s3 second.again second.again_is in
    let s4 = state_after third.once s3 in
    let chosen_is : state_after two.once s1 ≡ s4 = first.both ∙ second.both ∙ third.both ∙ none_left s4 third.again third.again_is in
    let again_is : in_order (masks ∷ []) s4.view ≡ Ok two.again = subst (λ (x : BufferState). in_order (masks ∷ []) x.view ≡ Ok two.again) chosen_is two.again_is in
    let four = stages_done masks (in_order []) s4 two.again again_is in
    let five = stages_done fractions (in_order (shaper_masks_set p ∷ [])) s4 four.once four.once_is in
    let s5 = state_after five.once s4 in
    let s5_is : s5 ≡ fractions_state p s4 = wanted_left p.choices.has_frac (with_fractions (fraction_masks p.map)) s4 five.once five.once_is in
    let six = stages_done (shaper_masks_set p) (in_order []) s5 five.again five.again_is in
    let last : state_after two.again s4 ≡ state_after six.once s5 =
    four.both ∙ none_left (state_after four.once s4) four.again four.again_is ∙ five.both ∙ six.both ∙ none_left (state_after six.once s5) six.again six.again_is in
    record {
      reads = record { begun = one.once; own = first.once; normal = third.once; begun_is = one.once_is; own_is = first.once_is; normal_is = third.once_is };
      masks = six.once;
      masks_is = subst (λ (x : BufferState). shaper_masks_set p x.view ≡ Ok six.once) s5_is six.once_is;
      both = one.both ∙ two.both ∙ ap (λ (x : BufferState). state_after two.again x) chosen_is ∙ last ∙ ap (λ (x : BufferState). state_after six.once x) s5_is;
    }

-- ---- mirrored characters and vertical forms

turned_unsafe : (p : Shaping) (c : ℕ) (s : BufferState) → IsBreakable s → IsUnsafeAt c s.origins → IsUnsafeAt c (turned_state p s).origins
turned_unsafe p c s b u = (rotation_divides false p.tables p.font p.direction (mask_at_one (codes "rtlm") p.map) p.choices.has_vert).unsafe s (turned_to_line p s.view) c refl b u

-- ---- normalizing

-- normalizing a text that is unsafe to break, or is normalized in two
normalizing_either : (k : Normalizer) (c : ℕ) (whole earlier later : BufferState) (r e l : Read) → RewritesRuns k.reorders → StaysBroken c whole earlier later → IsUnsafeAt c whole.origins ⊎ AreNormalizedApart k earlier.view.items later.view.items
    → normalization k whole.view ≡ Ok r → normalization k earlier.view ≡ Ok e → normalization k later.view ≡ Ok l → StaysBroken c (state_after r whole) (state_after e earlier) (state_after l later)
normalizing_either k c whole earlier later r e l rewrites stays (inr apart) is_r is_e is_l = normalizing_divides k c whole earlier later r e l rewrites stays (λ j. apart) is_r is_e is_l
normalizing_either k c whole earlier later r e l rewrites stays (inl unsafe) is_r is_e is_l =
    let b = has_later_mark whole.view.items in
    let w_is = normalized_read k whole r is_r in
    let e_is = normalized_read k earlier e is_e in
    let l_is = normalized_read k later l is_l in
    let kept = rounds_keep b k c whole rewrites stays.breakable stays.given in
    record {
      breakable = subst IsBreakable (sym w_is) kept.breakable;
      given = subst (λ (s : BufferState). AreGiven 0 s.view.items) (sym w_is) kept.given;
      numbers = record {
        whole_none = ap (λ (s : BufferState). s.view.lig_id) w_is ∙ stays.numbers.whole_none;
        early_none = ap (λ (s : BufferState). s.view.lig_id) e_is ∙ stays.numbers.early_none;
        late_none = ap (λ (s : BufferState). s.view.lig_id) l_is ∙ stays.numbers.late_none;
      };
      divided = subst (λ (s : BufferState). StaysDivided false c s (state_after e earlier) (state_after l later)) (sym w_is) (inl (kept.unsafe unsafe));
    }

-- ---- a text that is broken into two

pub stages_divide : StagesDivide
stages_divide p p1 p2 c whole earlier later r e l h rewrites preprocesses knows ready broken native apart keeps is_r is_e is_l =
    let rr = chain_read p whole r is_r in
    let ee = chain_read p1 earlier e is_e in
    let ll = chain_read p2 later l is_l in
    let w = rr.reads in
    let a = ee.reads in
    let b = ll.reads in
    let begun = begun_texts_divide p p1 p2 c whole earlier later w.begun a.begun b.begun h knows ready broken native w.begun_is a.begun_is b.begun_is in
    let own = preprocesses w a b w.own a.own b.own begun w.own_is a.own_is b.own_is in
    let w2 = own_state p whole w in
    let e2 = own_state p1 earlier a in
    let l2 = own_state p2 later b in
    let turned = turned_divide p p1 p2 c w2 e2 l2 h own in
    let early_same = normalizer_alike p p1 h.early_is (ap (λ (t : TextSettings). t.invisible) h.settings.early_is) (ap (λ (t : TextSettings). t.not_found_variation_selector) h.settings.early_is) (ap (λ (t : TextSettings). t.not_found) h.settings.early_is) in
    let late_same = normalizer_alike p p2 h.late_is (ap (λ (t : TextSettings). t.invisible) h.settings.late_is) (ap (λ (t : TextSettings). t.not_found_variation_selector) h.settings.late_is) (ap (λ (t : TextSettings). t.not_found) h.settings.late_is) in
    let either : IsUnsafeAt c (turned_state p w2).origins ⊎ AreNormalizedApart (normalizer p) (turned_state p1 e2).view.items (turned_state p2 l2).view.items = elim (apart w a b) [
      | inl unsafe ↦ inl (turned_unsafe p c w2 own.breakable unsafe)
      | inr two ↦ inr two
    ] in
    let normal = normalizing_either (normalizer p) c (turned_state p w2) (turned_state p1 e2) (turned_state p2 l2) w.normal a.normal b.normal rewrites turned either w.normal_is
    (subst (λ (k : Normalizer). normalization k (turned_state p1 e2).view ≡ Ok a.normal) early_same a.normal_is) (subst (λ (k : Normalizer). normalization k (turned_state p2 l2).view ≡ Ok b.normal) late_same b.normal_is) in
    let done = fractions_stay p p1 p2 c (state_after w.normal (turned_state p w2)) (state_after a.normal (turned_state p1 e2)) (state_after b.normal (turned_state p2 l2)) h normal in
    let all = keeps w a b rr.masks ee.masks ll.masks done rr.masks_is ee.masks_is ll.masks_is in
    subst (λ (s : BufferState). StaysBroken c s (state_after e earlier) (state_after l later)) (sym rr.both)
    (subst (λ (s : BufferState). StaysBroken c (state_after rr.masks (unmasked_state p whole w)) s (state_after l later)) (sym ee.both)
    (subst (λ (s : BufferState). StaysBroken c (state_after rr.masks (unmasked_state p whole w)) (state_after ee.masks (unmasked_state p1 earlier a)) s) (sym ll.both) all))

pub texts_divide : TextsDivide
texts_divide p p1 p2 c whole earlier later r e l h rewrites preprocesses knows ready broken native apart keeps is_r is_e is_l =
    stages_divide p p1 p2 c whole earlier later r e l h rewrites (λ w a b. preprocesses c (state_after w.begun whole) (state_after a.begun earlier) (state_after b.begun later)) knows ready broken native apart keeps is_r is_e is_l

-- Texts of a shaper without hooks, up to the masks of ranges.
use Rattle.std.proofs.Common.{ℕ, ◌≡◌, Bool, true, false, if◌then◌else◌, [], ◌∷◌, Ok, refl, sym, ap, subst, ◌∙◌}
use Rattle.buffer_core.specs.Readings.{View, Read, Stage, BufferState, always, as_it_is, state_after, with_events}
use Rattle.buffer_properties.specs.Normalizer.{Normalizer}
use Rattle.buffer_parts.specs.Lemmas.Stages.{same_read}
use Rattle.buffer_stages.specs.Settings.{TextSettings}
use Rattle.shape_text.specs.declared.fractions.FractionMasks.{FractionMasks}
use Rattle.shape_text.specs.Fractions.{with_fractions}
use Rattle.shape_normalize.specs.Rounds.{normalization}
use Rattle.shape_pipeline.specs.Chains.{in_order, only_if}
use Rattle.shape_pipeline.specs.Characters.{characters_chosen, normalizer, text_begun, turned_to_line}
use Rattle.shape_pipeline.specs.Masks.{fraction_masks, masks_set}
use Rattle.shape_pipeline.specs.Reading.{before_ranges}
use Rattle.shape_pipeline.specs.Shaping.{Shaping, preprocessing_stage, shaper_masks_set}
use Rattle.shape_laws.specs.Breaks.Laws.{PlainRulesHaveNoStages, PlainTextsDivide}
use Rattle.shape_laws.specs.Breaks.Rewrites.{HasNoStages}
use Rattle.shape_laws.specs.Breaks.Texts.{AreBrokenShapings, StaysBroken}
use Rattle.shape_laws.proofs.BreakLemmas.BegunTexts.{always_done, stages_done}
use Rattle.shape_laws.proofs.BreakLemmas.Fractions.{fractions_divide}
use Rattle.shape_laws.proofs.BreakLemmas.Normalized.{normalizing_divides}
use Rattle.shape_laws.proofs.BreakLemmas.Rewrites.{eventless_rewrite}
use Rattle.shape_laws.proofs.BreakLemmas.Stages.{begun_texts_divide, turned_divide}

-- ---- one text

-- a stage that changes nothing leaves the state
pub same_left : (stage : Stage) (s : BufferState) (r : Read) → stage ≡ as_it_is → stage s.view ≡ Ok r → state_after r s ≡ s
same_left stage s r e is = ap (λ (x : Read). state_after x s) (sym (same_read (with_events [] s.view) r (ap (λ (t : Stage). t s.view) (sym e) ∙ is)))

-- the state of a text with the masks of fractions, where they are wanted
abbrev fractions_state : Shaping → BufferState → BufferState
fractions_state p s = if p.choices.has_frac then state_after (with_fractions (fraction_masks p.map) s.view) s else s

abbrev turned_state : Shaping → BufferState → BufferState
turned_state p s = state_after (turned_to_line p s.view) s

-- what is read of a text
record IsPlainRead (p : Shaping) (s : BufferState) (r : Read) : Type 0 where
  begun : Read
  normal : Read
  begun_is : text_begun p s.view ≡ Ok begun
  normal_is : normalization (normalizer p) (turned_state p (state_after begun s)).view ≡ Ok normal
  both : state_after r s ≡ fractions_state p (state_after normal (turned_state p (state_after begun s)))

pub wanted_left : (b : Bool) (f : View → Read) (s : BufferState) (r : Read) → only_if b (always f) s.view ≡ Ok r → state_after r s ≡ (if b then state_after (f s.view) s else s)
wanted_left true f s r e = ap (λ (x : Read). state_after x s) (sym (same_read (f s.view) r e))
wanted_left false f s r e = ap (λ (x : Read). state_after x s) (sym (same_read (with_events [] s.view) r e))

plain_read : (p : Shaping) (s : BufferState) (r : Read) → HasNoStages p.rules → before_ranges p s.view ≡ Ok r → IsPlainRead p s r
unfolding before_ranges characters_chosen masks_set
plain_read p s r rules e =
    let normal = normalization (normalizer p) in
    let fractions = only_if p.choices.has_frac (always (with_fractions (fraction_masks p.map))) in
    let chosen = in_order (preprocessing_stage p ∷ always (turned_to_line p) ∷ normal ∷ []) in
    let masks = in_order (fractions ∷ shaper_masks_set p ∷ []) in
    let one = stages_done (text_begun p) (in_order (chosen ∷ masks ∷ [])) s r e in
    let s1 = state_after one.once s in
    let two = stages_done chosen (in_order (masks ∷ [])) s1 one.again one.again_is in
    let first = stages_done (preprocessing_stage p) (in_order (always (turned_to_line p) ∷ normal ∷ [])) s1 two.once two.once_is in
    let same : state_after first.once s1 ≡ s1 = same_left (preprocessing_stage p) s1 first.once (rules.preprocesses p.font p.tables p.settings) first.once_is in
    let second = always_done (turned_to_line p) (in_order (normal ∷ [])) (state_after first.once s1) first.again first.again_is in
    let s2 = turned_state p (state_after first.once s1) in
    let third = stages_done normal (in_order []) s2 second.again second.again_is in
    let s3 = state_after third.once s2 in
    let chosen_is : state_after two.once s1 ≡ s3 = first.both ∙ second.both ∙ third.both ∙ same_left as_it_is s3 third.again refl third.again_is in
    let four = stages_done masks (in_order []) (state_after two.once s1) two.again two.again_is in
    let five = stages_done fractions (in_order (shaper_masks_set p ∷ [])) (state_after two.once s1) four.once four.once_is in
    let s4 = state_after five.once (state_after two.once s1) in
    let six = stages_done (shaper_masks_set p) (in_order []) s4 five.again five.again_is in
    let last : state_after five.again s4 ≡ s4 =
    six.both ∙ same_left as_it_is (state_after six.once s4) six.again refl six.again_is ∙ same_left (shaper_masks_set p) s4 six.once (rules.sets_masks p.font p.tables p.settings) six.once_is in
    let done : state_after two.again (state_after two.once s1) ≡ fractions_state p (state_after two.once s1) =
    four.both ∙ same_left as_it_is (state_after four.once (state_after two.once s1)) four.again refl four.again_is ∙ five.both ∙ last ∙ wanted_left p.choices.has_frac (with_fractions (fraction_masks p.map)) (state_after two.once s1) five.once five.once_is in
    record {
      begun = one.once;
      normal = third.once;
      begun_is = one.once_is;
      normal_is = subst (λ (x : BufferState). normal (turned_state p x).view ≡ Ok third.once) same third.once_is;
      both = one.both ∙ two.both ∙ done ∙ ap (fractions_state p) (chosen_is ∙ ap (λ (x : BufferState). state_after third.once (turned_state p x)) same);
    }

-- ---- a text that is broken into two

pub plain_rules_have_no_stages : PlainRulesHaveNoStages
plain_rules_have_no_stages = record { preprocesses = λ font t settings. refl; sets_masks = λ font t settings. refl; reorders = λ run given. (eventless_rewrite run given, refl) }

pub normalizer_alike : (p q : Shaping) → q ≡ record p { settings = q.settings } → q.settings.invisible ≡ p.settings.invisible → q.settings.not_found_variation_selector ≡ p.settings.not_found_variation_selector → q.settings.not_found ≡ p.settings.not_found → normalizer q ≡ normalizer p
normalizer_alike p q e f g h =
    ap normalizer e
    ∙ ap (λ i. record (normalizer p) { invisible = i; unjoined_glyph = q.settings.not_found_variation_selector; not_found = q.settings.not_found }) f
    ∙ ap (λ i. record (normalizer p) { unjoined_glyph = i; not_found = q.settings.not_found }) g
    ∙ ap (λ i. record (normalizer p) { not_found = i }) h

pub fractions_stay : (p p1 p2 : Shaping) (c : ℕ) (whole earlier later : BufferState) → AreBrokenShapings p p1 p2 → StaysBroken c whole earlier later → StaysBroken c (fractions_state p whole) (fractions_state p1 earlier) (fractions_state p2 later)
fractions_stay p p1 p2 c whole earlier later h stays =
    subst (λ (q : Shaping). StaysBroken c (fractions_state p whole) (fractions_state q earlier) (fractions_state p2 later)) (sym h.early_is)
    (subst (λ (q : Shaping). StaysBroken c (fractions_state p whole) (fractions_state p earlier) (fractions_state q later)) (sym h.late_is) (by_wish p.choices.has_frac))
  where
    m : FractionMasks
    m = fraction_masks p.map

    by_wish : (b : Bool) → StaysBroken c (if b then state_after (with_fractions m whole.view) whole else whole) (if b then state_after (with_fractions m earlier.view) earlier else earlier) (if b then state_after (with_fractions m later.view) later else later)
    by_wish true = fractions_divide m c whole earlier later stays
    by_wish false = stays

pub plain_texts_divide : PlainTextsDivide
plain_texts_divide p p1 p2 c whole earlier later r e l h rules knows ready broken native apart is_r is_e is_l =
    let rules1 : HasNoStages p1.rules = subst (λ (q : Shaping). HasNoStages q.rules) (sym h.early_is) rules in
    let rules2 : HasNoStages p2.rules = subst (λ (q : Shaping). HasNoStages q.rules) (sym h.late_is) rules in
    let rr = plain_read p whole r rules is_r in
    let ee = plain_read p1 earlier e rules1 is_e in
    let ll = plain_read p2 later l rules2 is_l in
    let begun = begun_texts_divide p p1 p2 c whole earlier later rr.begun ee.begun ll.begun h knows ready broken native rr.begun_is ee.begun_is ll.begun_is in
    let w1 = state_after rr.begun whole in
    let e1 = state_after ee.begun earlier in
    let l1 = state_after ll.begun later in
    let turned = turned_divide p p1 p2 c w1 e1 l1 h begun in
    let early_same = normalizer_alike p p1 h.early_is (ap (λ (t : TextSettings). t.invisible) h.settings.early_is) (ap (λ (t : TextSettings). t.not_found_variation_selector) h.settings.early_is) (ap (λ (t : TextSettings). t.not_found) h.settings.early_is) in
    let late_same = normalizer_alike p p2 h.late_is (ap (λ (t : TextSettings). t.invisible) h.settings.late_is) (ap (λ (t : TextSettings). t.not_found_variation_selector) h.settings.late_is) (ap (λ (t : TextSettings). t.not_found) h.settings.late_is) in
    let normal = normalizing_divides (normalizer p) c (turned_state p w1) (turned_state p1 e1) (turned_state p2 l1) rr.normal ee.normal ll.normal rules.reorders turned
    (λ j. apart ee.begun ll.begun ee.begun_is ll.begun_is) rr.normal_is
    (subst (λ (k : Normalizer). normalization k (turned_state p1 e1).view ≡ Ok ee.normal) early_same ee.normal_is) (subst (λ (k : Normalizer). normalization k (turned_state p2 l1).view ≡ Ok ll.normal) late_same ll.normal_is) in
    let done = fractions_stay p p1 p2 c (state_after rr.normal (turned_state p w1)) (state_after ee.normal (turned_state p1 e1)) (state_after ll.normal (turned_state p2 l1)) h normal in
    subst (λ (s : BufferState). StaysBroken c s (state_after e earlier) (state_after l later)) (sym rr.both)
    (subst (λ (s : BufferState). StaysBroken c (fractions_state p (state_after rr.normal (turned_state p w1))) s (state_after l later)) (sym ee.both)
    (subst (λ (s : BufferState). StaysBroken c (fractions_state p (state_after rr.normal (turned_state p w1))) (fractions_state p1 (state_after ee.normal (turned_state p1 e1))) s) (sym ll.both) done))

-- Texts of Hangul that are broken into two, before they are normalized.
use Rattle.std.proofs.Common.{ℕ, zero, suc, ◌≡◌, ◌≤◌, ◌<◌, ◌+◌, ◌-◌, ◌&&◌, ◌⊎◌, inl, inr, nat_le, nat_lt, Bool, true, false, if◌then◌else◌, List, [], ◌∷◌, ◌++◌, length, map, take, drop, Option, None, Some, Ok, Err, append_assoc, append-nil, arith, refl, sym, ap, ap₂, subst, ◌∙◌}
use Rattle.std.proofs.lemmas.Bool.Decides.{nat_tests}
use Rattle.std.proofs.lemmas.Grind.{common_steps}
use Rattle.std.proofs.lemmas.List.{drop-append-le, length-append, length-drop, take-append-le}
use Rattle.std.proofs.lemmas.List.Sums.{fold-append}
use Rattle.buffer_common.specs.declared.constants.BufferFlags.{BufferFlags}
use Rattle.buffer_glyphs.specs.declared.cause.ShapeCause.TheVariants.{TooLong}
use Rattle.buffer_glyphs.specs.declared.level.BufferClusterLevel.{BufferClusterLevel}
use Rattle.buffer_glyphs.specs.declared.level.BufferClusterLevel.TheVariants.{MonotoneGraphemes, MonotoneCharacters, Characters, Graphemes}
use Rattle.buffer_glyphs.specs.Events.{Event, Replace, origins_after}
use Rattle.buffer_glyphs.specs.Items.{Item}
use Rattle.buffer_glyphs.specs.Levels.{IsMonotone}
use Rattle.buffer_glyphs.specs.Origins.{Asks}
use Rattle.buffer_glyphs.specs.Rewriting.{Arrangement, beside, shifted_event}
use Rattle.buffer_parts.specs.Counts.{count_after, count_after_event}
use Rattle.buffer_core.specs.Readings.{BufferState, Read, Reading, state_after, with_events}
use Rattle.buffer_core.specs.Sides.{zero_positions}
use Rattle.buffer_parts.specs.Lemmas.Stages.{same_read}
use Rattle.layout_face.specs.declared.parts.FaceParts.{FaceParts}
use Rattle.buffer_parts.specs.Breaks.Unsafe.{IsUnsafeAt}
use Rattle.buffer_parts.specs.Breaks.Bound.{bound_span}
use Rattle.buffer_parts.specs.Breaks.Fragments.{AreFragments, AreGiven}
use Rattle.buffer_parts.specs.Breaks.Divisible.{IsBreakable, StaysDivided}
use Rattle.buffer_parts.specs.Breaks.Sides.{AreBounded}
use Rattle.script_hangul.specs.declared.actions.Action.{Action}
use Rattle.script_hangul.specs.declared.actions.Action.TheVariants.{Keep, Apart, Compose, Split}
use Rattle.script_hangul.specs.Jamo.{is_tone}
use Rattle.script_hangul.specs.Actions.{action_on, has_character}
use Rattle.script_hangul.specs.Hangul.{character_at, character_by, count_apart, events_after, hangul_text, is_character, jamo_rule, rule_by, step, step_by, syllables_formed, text_after, wants_circles}
use Rattle.script_hangul.specs.Steps.{DOTTED_CIRCLE, Step, before_syllable, has_no_width, keep_step, letters_from, letters_of_first, numbers_of, step_of, tone_step, with_circle}
use Rattle.script_syllabic.specs.Graphemes.{merge_of, merges_by, with_graphemes_merged}
use Rattle.shape_laws.specs.Breaks.Chains.{KeepsBrokenAt}
use Rattle.shape_laws.specs.Breaks.Rewrites.{IsWholeRewrite}
use Rattle.shape_laws.specs.Breaks.Texts.{StaysBroken}
use Rattle.shape_laws.proofs.BreakLemmas.BegunTexts.{always_done}
use Rattle.shape_laws.proofs.BreakLemmas.Crossed.{IsAcross, ArrangesTexts, ruled_state, ruled_unsafe}
use Rattle.shape_laws.proofs.BreakLemmas.HangulSteps.{AreFed, BeginsNone, IsFed, TakesMore, action_fed, continuing_begins_none, none_kept, second_decides, taken_count, third_decides}
use Rattle.shape_laws.proofs.BreakLemmas.HangulWalk.{fed_within, step_is, steps_enough, walk_shifted, walked_text, walked_free, walked_rewrite, walked_some}
use Rattle.shape_laws.proofs.BreakLemmas.MarkOrders.{given_from}
use Rattle.shape_laws.proofs.BreakLemmas.Merged.{AreWithin, FitsTexts, MergesAcross, merged_breakable, merged_keeps, merged_state, merges_cross, merges_divide, merges_in, within_or_across}
use Rattle.shape_laws.proofs.BreakLemmas.Normalized.{rule_breakable, rule_divides, rule_keeps}
use Rattle.shape_laws.proofs.BreakLemmas.Unnumbered.{given_early, given_late, plain_items}
use Rattle.layout_laws.proofs.BreakLemmas.Walks.{bounded_both as both_bounded}

-- ---- graphemes of syllables

-- a grapheme has the items that an action takes, or none
apart_within : (a : Action) (n : ℕ) → 0 < taken_count a → taken_count a ≤ n → count_apart a ≤ n
apart_within (Keep whole) n some le = omega arith
apart_within (Apart k) n some le = le
apart_within (Compose k u) n some le = omega arith
apart_within (Split letters true) n some le = le
apart_within (Split letters false) n some le = omega arith

jamo_fits : (font : FaceParts) → FitsTexts (jamo_rule font)
jamo_fits font [] = omega arith
jamo_fits font (x ∷ xs) = by_first (character_at 0 (x ∷ xs))
  where
    by_first : (o : Option ℕ) → rule_by font o (x ∷ xs) ≤ suc (length xs)
    by_first None = omega arith
    by_first (Some u) =
        let a = action_on font u (character_at 1 (x ∷ xs)) (character_at 2 (x ∷ xs)) in
        let fits = fed_within (taken_count a) x xs (action_fed font u (character_at 1 (x ∷ xs)) (character_at 2 (x ∷ xs))) in
        apart_within a (suc (length xs)) fits.0 fits.1

-- an item begins no grapheme of jamo, whatever follows it
abbrev IsQuiet : FaceParts → Item → Type 0
IsQuiet font z = (ws : List Item) → jamo_rule font (z ∷ ws) ≡ 0

abbrev AreQuiet : FaceParts → List Item → Type 0
AreQuiet font [] = Unit {0}
AreQuiet font (z ∷ zs) = IsQuiet font z × AreQuiet font zs

fed_quiet : (font : FaceParts) (z : Item) → IsFed (character_by (Some z)) → IsQuiet font z
fed_quiet font z h ws = by_first (character_by (Some z)) h
  where
    by_first : (o : Option ℕ) → IsFed o → rule_by font o (z ∷ ws) ≡ 0
    by_first None k = absurd k
    by_first (Some v) k = ap count_apart (none_kept font v (character_at 1 (z ∷ ws)) (character_at 2 (z ∷ ws)) (continuing_begins_none v k))

-- the items that are taken beside the first are quiet
fed_are_quiet : (font : FaceParts) (n : ℕ) (x : Item) (xs : List Item) → AreFed n (character_at 1 (x ∷ xs)) (character_at 2 (x ∷ xs)) → AreQuiet font (take (n - 1) xs)
fed_are_quiet font n x xs (inl one) = let e : n - 1 ≡ 0 = omega (arith, one) in subst (λ (i : ℕ). AreQuiet font (take i xs)) (sym e) tt
fed_are_quiet font n x [] (inr (inl two)) = absurd two.1
fed_are_quiet font n x (y ∷ ys) (inr (inl two)) = let f = two.0 in let e : n - 1 ≡ 1 = omega (arith, f) in subst (λ (i : ℕ). AreQuiet font (take i (y ∷ ys))) (sym e) (fed_quiet font y two.1, tt)
fed_are_quiet font n x [] (inr (inr three)) = absurd three.1.0
fed_are_quiet font n x (y ∷ []) (inr (inr three)) = absurd three.1.1
fed_are_quiet font n x (y ∷ z ∷ zs) (inr (inr three)) = let f = three.0 in let e : n - 1 ≡ 2 = omega (arith, f) in subst (λ (i : ℕ). AreQuiet font (take i (y ∷ z ∷ zs))) (sym e) (fed_quiet font y three.1.0, (fed_quiet font z three.1.1, tt))

-- ---- a step in front of another text

-- a step is that of a text by itself
record IsSame (font : FaceParts) (s r : Step) (x : Item) (xs ys : List Item) : Type 0 where
  same : s ≡ r
  fits : r.more ≤ length xs
  quiet : AreQuiet font (take r.more xs)
  rule : jamo_rule font (x ∷ (xs ++ ys)) ≡ jamo_rule font (x ∷ xs)

-- a step composes items of both texts
record IsOver (level : BufferClusterLevel) (s : Step) (out : List Item) (n all : ℕ) : Type 0 where
  count : ℕ
  events : s.events level ≡ Replace (length out) count 1 ∷ []
  high : n < count
  fits : count ≤ all

StepOutcome : BufferClusterLevel → FaceParts → Step → Step → List Item → Item → List Item → List Item → Type 0
StepOutcome level font s r out x xs ys = IsSame font s r x xs ys ⊎ (IsOver level s out (suc (length xs)) (suc (length (xs ++ ys))) ⊎ (suc (length xs) < jamo_rule font (x ∷ (xs ++ ys))))

actions_compared : (font : FaceParts) (u : ℕ) (x : Item) (xs ys : List Item)
    → (action_on font u (character_at 1 (x ∷ (xs ++ ys))) (character_at 2 (x ∷ (xs ++ ys))) ≡ action_on font u (character_at 1 (x ∷ xs)) (character_at 2 (x ∷ xs)))
    ⊎ TakesMore (suc (suc (length xs))) (action_on font u (character_at 1 (x ∷ (xs ++ ys))) (character_at 2 (x ∷ (xs ++ ys))))
actions_compared font u x [] ys = second_decides font u (character_at 1 (x ∷ ys)) (character_at 2 (x ∷ ys))
actions_compared font u x (y ∷ []) ys = third_decides font u (character_by (Some y)) (character_at 2 (x ∷ y ∷ ys))
actions_compared font u x (y ∷ z ∷ zs) ys = inl refl

-- an action reads no item past those that it takes
step_front : (a : Action) (out : List Item) (x : Item) (xs ys : List Item) → taken_count a ≤ suc (length xs) → step_of a out (x ∷ (xs ++ ys)) ≡ step_of a out (x ∷ xs)
step_front (Keep whole) out x xs ys le = refl
step_front (Apart n) out x xs ys le = ap (λ zs. record { out = out ++ letters_from 1 zs; events = λ level. []; more = n - 1; start = length out }) (take-append-le n (x ∷ xs) ys le)
step_front (Compose n u) out x xs ys le = refl
step_front (Split letters joins) out x xs ys le =
    let n = if joins then 1 else 0 in
    ap (λ zs. record { out = out ++ letters_from 1 (letters_of_first letters (x ∷ xs) ++ zs); events = λ level. Replace (length out) 1 (length (numbers_of letters)) ∷ []; more = n; start = length out }) (take-append-le n xs ys (omega (arith, le)))

more_taken : (a : Action) (out xs : List Item) → (step_of a out xs).more ≡ taken_count a - 1
more_taken (Keep whole) out xs = refl
more_taken (Apart n) out xs = refl
more_taken (Compose n u) out xs = refl
more_taken (Split letters joins) out xs = omega arith

-- an action that takes items of both texts composes them, or leaves them as one grapheme
over_outcome : (level : BufferClusterLevel) (font : FaceParts) (a : Action) (r : Step) (out : List Item) (x : Item) (xs ys : List Item) → TakesMore (suc (suc (length xs))) a → taken_count a ≤ suc (length (xs ++ ys))
    → IsOver level (step_of a out (x ∷ (xs ++ ys))) out (suc (length xs)) (suc (length (xs ++ ys))) ⊎ (suc (length xs) < count_apart a)
over_outcome level font (Keep whole) r out x xs ys h le = absurd h
over_outcome level font (Apart n) r out x xs ys h le = inr (omega (arith, h))
over_outcome level font (Compose n u) r out x xs ys h le = inl (record { count = n; events = refl; high = omega (arith, h); fits = le })
over_outcome level font (Split letters joins) r out x xs ys h le = inr (omega (arith, h))

tone_begins_none : (u : ℕ) → is_tone u ≡ true → BeginsNone u
tone_begins_none u e = (grind (arith, nat_tests, common_steps, e), grind (arith, nat_tests, common_steps, e))

step_outcome : (level : BufferClusterLevel) (font : FaceParts) (circles : Bool) (n : ℕ) (out : List Item) (x : Item) (xs ys : List Item) → StepOutcome level font (step font circles n out (x ∷ (xs ++ ys))) (step font circles n out (x ∷ xs)) out x xs ys
unfolding StepOutcome
step_outcome level font circles n out x xs ys = by_first (character_by (Some x)) refl
  where
    by_action : (u : ℕ) → character_by (Some x) ≡ Some u → (action_on font u (character_at 1 (x ∷ (xs ++ ys))) (character_at 2 (x ∷ (xs ++ ys))) ≡ action_on font u (character_at 1 (x ∷ xs)) (character_at 2 (x ∷ xs)))
        ⊎ TakesMore (suc (suc (length xs))) (action_on font u (character_at 1 (x ∷ (xs ++ ys))) (character_at 2 (x ∷ (xs ++ ys))))
        → StepOutcome level font (step_of (action_on font u (character_at 1 (x ∷ (xs ++ ys))) (character_at 2 (x ∷ (xs ++ ys)))) out (x ∷ (xs ++ ys))) (step_of (action_on font u (character_at 1 (x ∷ xs)) (character_at 2 (x ∷ xs))) out (x ∷ xs)) out x xs ys
    by_action u e (inl same) =
        let a = action_on font u (character_at 1 (x ∷ xs)) (character_at 2 (x ∷ xs)) in
        let fed = action_fed font u (character_at 1 (x ∷ xs)) (character_at 2 (x ∷ xs)) in
        let fits = fed_within (taken_count a) x xs fed in
        let some = fits.0 in
        let le = fits.1 in
        let more = more_taken a out (x ∷ xs) in
        inl (record {
          same = ap (λ b. step_of b out (x ∷ (xs ++ ys))) same ∙ step_front a out x xs ys le;
          fits = omega (arith, more, some, le);
          quiet = subst (λ (i : ℕ). AreQuiet font (take i xs)) (sym more) (fed_are_quiet font (taken_count a) x xs fed);
          rule = ap (λ o. rule_by font o (x ∷ (xs ++ ys))) e ∙ ap count_apart same ∙ ap (λ o. rule_by font o (x ∷ xs)) (sym e);
        })
    by_action u e (inr more) =
        let a = action_on font u (character_at 1 (x ∷ (xs ++ ys))) (character_at 2 (x ∷ (xs ++ ys))) in
        let fits = fed_within (taken_count a) x (xs ++ ys) (action_fed font u (character_at 1 (x ∷ (xs ++ ys))) (character_at 2 (x ∷ (xs ++ ys)))) in
        inr (elim (over_outcome level font a (step_of a out (x ∷ (xs ++ ys))) out x xs ys more fits.1) [
          | inl over ↦ inl over
          | inr wide ↦ inr (subst (λ (k : ℕ). suc (length xs) < k) (sym (ap (λ o. rule_by font o (x ∷ (xs ++ ys))) e)) wide)
        ])

    by_tone : (u : ℕ) → character_by (Some x) ≡ Some u → (t : Bool) → is_tone u ≡ t
        → StepOutcome level font (if t then tone_step font circles n u out (x ∷ (xs ++ ys)) else step_of (action_on font u (character_at 1 (x ∷ (xs ++ ys))) (character_at 2 (x ∷ (xs ++ ys)))) out (x ∷ (xs ++ ys)))
        (if t then tone_step font circles n u out (x ∷ xs) else step_of (action_on font u (character_at 1 (x ∷ xs)) (character_at 2 (x ∷ xs))) out (x ∷ xs)) out x xs ys
    by_tone u e true tone =
        let none = tone_begins_none u tone in
        let one = ap (λ o. rule_by font o (x ∷ (xs ++ ys))) e ∙ ap count_apart (none_kept font u (character_at 1 (x ∷ (xs ++ ys))) (character_at 2 (x ∷ (xs ++ ys))) none) in
        let two = ap (λ o. rule_by font o (x ∷ xs)) e ∙ ap count_apart (none_kept font u (character_at 1 (x ∷ xs)) (character_at 2 (x ∷ xs)) none) in
        let no_more = tone_more (nat_lt n (length out)) (has_no_width font u) (circles && has_character font DOTTED_CIRCLE) in
        inl (record { same = refl; fits = omega (arith, no_more); quiet = subst (λ (i : ℕ). AreQuiet font (take i xs)) (sym no_more) tt; rule = one ∙ sym two })
      where
        tone_more : (s t w : Bool) → (if s then (if t then keep_step false out (x ∷ xs) else before_syllable n out (x ∷ xs)) else (if w then with_circle (has_no_width font u) out (x ∷ xs) else keep_step false out (x ∷ xs))).more ≡ 0
        tone_more true true w = refl
        tone_more true false w = refl
        tone_more false t true = refl
        tone_more false t false = refl
    by_tone u e false tone = by_action u e (actions_compared font u x xs ys)

    by_first : (o : Option ℕ) → character_by (Some x) ≡ o → StepOutcome level font (step_by font circles n o out (x ∷ (xs ++ ys))) (step_by font circles n o out (x ∷ xs)) out x xs ys
    by_first None e = inl (record { same = refl; fits = omega arith; quiet = tt; rule = ap (λ o. rule_by font o (x ∷ (xs ++ ys))) e ∙ ap (λ o. rule_by font o (x ∷ xs)) (sym e) })
    by_first (Some u) e = by_tone u e (is_tone u) refl

-- ---- a walk in front of another text

-- a step of a walk composes items of both texts
record IsReplacedAcross (m n : ℕ) (all : List Event) : Type 0 where
  before : List Event
  index : ℕ
  count : ℕ
  after : List Event
  is : all ≡ before ++ Replace index count 1 ∷ after
  bounded : AreBounded before m
  low : index < count_after before m
  high : count_after before m < index + count
  fits : index + count ≤ count_after before m + n

-- a walk through both texts is one through the first and then one through the second; graphemes of the first are those that
-- it has by itself
record IsSameWalk (level : BufferClusterLevel) (font : FaceParts) (circles : Bool) (f g n : ℕ) (out xs ys : List Item) : Type 0 where
  steps : ℕ
  start : ℕ
  enough : length ys ≤ steps
  items : text_after font circles f n out (xs ++ ys) ≡ text_after font circles steps start (text_after font circles g n out xs) ys
  events : events_after font circles level f n out (xs ++ ys) ≡ events_after font circles level g n out xs ++ events_after font circles level steps start (text_after font circles g n out xs) ys
  merges : (at : ℕ) → merges_in (jamo_rule font) at xs ys ≡ merges_by (jamo_rule font) at xs

skip_in : (font : FaceParts) (m at : ℕ) (xs ys : List Item) → AreQuiet font (take m xs) → merges_in (jamo_rule font) at xs ys ≡ merges_in (jamo_rule font) (at + m) (drop m xs) ys
skip_in font zero at xs ys h = let e : at ≡ at + 0 = omega arith in ap (λ (i : ℕ). merges_in (jamo_rule font) i xs ys) e
skip_in font (suc m) at [] ys h = refl
skip_in font (suc m) at (x ∷ xs) ys h =
    let e : at + 1 + m ≡ at + suc m = omega arith in
    ap (λ (r : ℕ). merge_of at r ++ merges_in (jamo_rule font) (at + 1) xs ys) (h.0 (xs ++ ys)) ∙ skip_in font m (at + 1) xs ys h.1 ∙ ap (λ (i : ℕ). merges_in (jamo_rule font) i (drop m xs) ys) e

skip_by : (font : FaceParts) (m at : ℕ) (xs : List Item) → AreQuiet font (take m xs) → merges_by (jamo_rule font) at xs ≡ merges_by (jamo_rule font) (at + m) (drop m xs)
skip_by font zero at xs h = let e : at ≡ at + 0 = omega arith in ap (λ (i : ℕ). merges_by (jamo_rule font) i xs) e
skip_by font (suc m) at [] h = refl
skip_by font (suc m) at (x ∷ xs) h =
    let e : at + 1 + m ≡ at + suc m = omega arith in
    ap (λ (r : ℕ). merge_of at r ++ merges_by (jamo_rule font) (at + 1) xs) (h.0 xs) ∙ skip_by font m (at + 1) xs h.1 ∙ ap (λ (i : ℕ). merges_by (jamo_rule font) i (drop m xs)) e

within_from : (rule : List Item → ℕ) (m : ℕ) (xs ys : List Item) → AreWithin rule xs ys → AreWithin rule (drop m xs) ys
within_from rule zero xs ys h = h
within_from rule (suc m) [] ys h = tt
within_from rule (suc m) (x ∷ xs) ys h = within_from rule m xs ys h.1

WalkOutcome : BufferClusterLevel → FaceParts → Bool → ℕ → ℕ → ℕ → List Item → List Item → List Item → Type 0
WalkOutcome level font circles f g n out xs ys =
    IsSameWalk level font circles f g n out xs ys ⊎ (IsReplacedAcross (length out + length xs) (length ys) (events_after font circles level f n out (xs ++ ys)) ⊎ (AreWithin (jamo_rule font) xs ys → ⊥))

-- the step of a text by itself
abbrev own_step : FaceParts → Bool → ℕ → List Item → Item → List Item → Step
own_step font circles n out x xs = step font circles n out (x ∷ xs)

-- what it leaves
abbrev rest_of : FaceParts → Bool → ℕ → List Item → Item → List Item → List Item
rest_of font circles n out x xs = drop ((own_step font circles n out x xs).more + 1) (x ∷ xs)

by_rest : (level : BufferClusterLevel) (font : FaceParts) (circles : Bool) (f g n : ℕ) (out : List Item) (x : Item) (xs ys : List Item) → AreQuiet font (take (own_step font circles n out x xs).more xs) → jamo_rule font (x ∷ (xs ++ ys)) ≡ jamo_rule font (x ∷ xs)
    → text_after font circles (suc f) n out (x ∷ (xs ++ ys)) ≡ text_after font circles f (own_step font circles n out x xs).start (own_step font circles n out x xs).out (rest_of font circles n out x xs ++ ys)
    → events_after font circles level (suc f) n out (x ∷ (xs ++ ys)) ≡ (own_step font circles n out x xs).events level ++ events_after font circles level f (own_step font circles n out x xs).start (own_step font circles n out x xs).out (rest_of font circles n out x xs ++ ys)
    → AreBounded ((own_step font circles n out x xs).events level) (length out + suc (length xs))
    → count_after ((own_step font circles n out x xs).events level) (length out + suc (length xs)) ≡ length (own_step font circles n out x xs).out + length (rest_of font circles n out x xs)
    → WalkOutcome level font circles f g (own_step font circles n out x xs).start (own_step font circles n out x xs).out (rest_of font circles n out x xs) ys → WalkOutcome level font circles (suc f) (suc g) n out (x ∷ xs) ys
unfolding WalkOutcome
by_rest level font circles f g n out x xs ys quiet rule items events bounded counted (inl w) =
    let r = own_step font circles n out x xs in
    let m = r.more in
    let rest = rest_of font circles n out x xs in
    let next : m + 1 ≡ suc m = omega arith in
    let left : rest ≡ drop m xs = ap (λ (i : ℕ). drop i (x ∷ xs)) next in
    let rest_events = events_after font circles level w.steps w.start (text_after font circles g r.start r.out rest) ys in
    inl (record {
      steps = w.steps;
      start = w.start;
      enough = w.enough;
      items = items ∙ w.items;
      events = events ∙ ap (λ es. r.events level ++ es) w.events ∙ sym (append_assoc (r.events level) (events_after font circles level g r.start r.out rest) rest_events);
      merges = λ at.
          ap (λ (k : ℕ). merge_of at k ++ merges_in (jamo_rule font) (at + 1) xs ys) rule
          ∙ ap (λ es. merge_of at (jamo_rule font (x ∷ xs)) ++ es)
          (skip_in font m (at + 1) xs ys quiet ∙ ap (λ zs. merges_in (jamo_rule font) (at + 1 + m) zs ys) (sym left) ∙ w.merges (at + 1 + m) ∙ ap (merges_by (jamo_rule font) (at + 1 + m)) left ∙ sym (skip_by font m (at + 1) xs quiet));
    })
by_rest level font circles f g n out x xs ys quiet rule items events bounded counted (inr (inl a)) =
    let r = own_step font circles n out x xs in
    let all = length out + suc (length xs) in
    let whole : count_after (r.events level ++ a.before) all ≡ count_after a.before (length r.out + length (rest_of font circles n out x xs)) = fold-append count_after_event all (r.events level) a.before ∙ ap (count_after a.before) counted in
    let low = a.low in
    let high = a.high in
    let fits = a.fits in
    inr (inl (record {
      before = r.events level ++ a.before;
      index = a.index;
      count = a.count;
      after = a.after;
      is = events ∙ ap (λ es. r.events level ++ es) a.is ∙ sym (append_assoc (r.events level) a.before (Replace a.index a.count 1 ∷ a.after));
      bounded = both_bounded (r.events level) a.before all bounded (subst (AreBounded a.before) (sym counted) a.bounded);
      low = omega (arith, low, whole);
      high = omega (arith, high, whole);
      fits = omega (arith, fits, whole);
    }))
by_rest level font circles f g n out x xs ys quiet rule items events bounded counted (inr (inr never)) =
    let m = (own_step font circles n out x xs).more in
    let next : m + 1 ≡ suc m = omega arith in
    let left : rest_of font circles n out x xs ≡ drop m xs = ap (λ (i : ℕ). drop i (x ∷ xs)) next in
    inr (inr (λ within. never (subst (λ zs. AreWithin (jamo_rule font) zs ys) (sym left) (within_from (jamo_rule font) m xs ys within.1))))

walk_outcome : (level : BufferClusterLevel) (font : FaceParts) (circles : Bool) (f g n : ℕ) (out xs ys : List Item) → length (xs ++ ys) ≤ f → length xs ≤ g → AreGiven 0 out → AreGiven 0 xs → WalkOutcome level font circles f g n out xs ys
unfolding WalkOutcome StepOutcome
walk_outcome level font circles f g n out [] ys a b h k = inl (record { steps = f; start = n; enough = a; items = refl; events = refl; merges = λ at. refl })
walk_outcome level font circles zero g n out (x ∷ xs) ys a b h k = absurd (omega (arith, a))
walk_outcome level font circles (suc f) zero n out (x ∷ xs) ys a b h k = absurd (omega (arith, b))
walk_outcome level font circles (suc f) (suc g) n out (x ∷ xs) ys a b h k =
    let s = step font circles n out (x ∷ (xs ++ ys)) in
    let r = step font circles n out (x ∷ xs) in
    elim (step_outcome level font circles n out x xs ys) [
      | inr (inl over) ↦
          let high = over.high in
          let fits = over.fits in
          let all = length-append xs ys in
          inr (inl (record {
            before = [];
            index = length out;
            count = over.count;
            after = events_after font circles level f s.start s.out (drop (s.more + 1) (x ∷ (xs ++ ys)));
            is = ap (λ es. es ++ events_after font circles level f s.start s.out (drop (s.more + 1) (x ∷ (xs ++ ys)))) over.events;
            bounded = tt;
            low = omega arith;
            high = omega (arith, high);
            fits = omega (arith, fits, all);
          }))
      | inr (inr wide) ↦ inr (inr (λ within. let le = within.0 in absurd (omega (arith, wide, le))))
      | inl same ↦
          let p = step_is level font circles n out x xs h k in
          let rest = drop (r.more + 1) (x ∷ xs) in
          let fits = same.fits in
          let cut : drop (r.more + 1) (x ∷ (xs ++ ys)) ≡ rest ++ ys = drop-append-le (r.more + 1) (x ∷ xs) ys (omega (arith, fits)) in
          let d : length rest ≡ suc (length xs) - (r.more + 1) = length-drop (r.more + 1) (x ∷ xs) in
          let both = length-append rest ys in
          let all = length-append xs ys in
          let line : walked_text font circles level f s.start s.out (drop (s.more + 1) (x ∷ (xs ++ ys))) ≡ walked_text font circles level f r.start r.out (rest ++ ys) =
          ap (λ (t : Step). walked_text font circles level f t.start t.out (drop (t.more + 1) (x ∷ (xs ++ ys)))) same.same ∙ ap (λ zs. walked_text font circles level f r.start r.out zs) cut in
          let events : events_after font circles level (suc f) n out (x ∷ (xs ++ ys)) ≡ r.events level ++ events_after font circles level f r.start r.out (rest ++ ys) =
          ap₂ (λ es fs. es ++ fs) (ap (λ (t : Step). t.events level) same.same) (ap (λ (w : Arrangement). w.events) line) in
          let counted : count_after (r.events level) (length out + suc (length xs)) ≡ length r.out + length rest = p.counted ∙ ap (λ (m : ℕ). length r.out + m) (sym d) in
          by_rest level font circles f g n out x xs ys same.quiet same.rule (ap (λ (w : Arrangement). w.items) line) events p.bounded counted
          (walk_outcome level font circles f g r.start r.out rest ys (omega (arith, d, both, a, all, fits)) (omega (arith, d, b)) p.given (given_from (r.more + 1) 0 (x ∷ xs) k))
    ]

-- ---- a text that begins with no tone mark

-- a text begins with no tone mark
abbrev pub BeginsToneless : List Item → Type 0
BeginsToneless [] = Unit {0}
BeginsToneless (y ∷ ys) = is_tone y.number ≡ false

-- a step at a character that is no tone mark depends on no syllable before it
step_anew : (font : FaceParts) (circles : Bool) (m n : ℕ) (out : List Item) (y : Item) (ys : List Item) → is_tone y.number ≡ false → step font circles m out (y ∷ ys) ≡ step font circles n out (y ∷ ys)
step_anew font circles m n out y ys e = by_test (is_character y.number)
  where
    by_test : (b : Bool) → step_by font circles m (if b then Some y.number else None) out (y ∷ ys) ≡ step_by font circles n (if b then Some y.number else None) out (y ∷ ys)
    by_test true =
        ap (λ t. if t then tone_step font circles m y.number out (y ∷ ys) else step_of (action_on font y.number (character_at 1 (y ∷ ys)) (character_at 2 (y ∷ ys))) out (y ∷ ys)) e
        ∙ ap (λ t. if t then tone_step font circles n y.number out (y ∷ ys) else step_of (action_on font y.number (character_at 1 (y ∷ ys)) (character_at 2 (y ∷ ys))) out (y ∷ ys)) (sym e)
    by_test false = refl

walk_anew : (level : BufferClusterLevel) (font : FaceParts) (circles : Bool) (f m n : ℕ) (out ys : List Item) → BeginsToneless ys → walked_text font circles level f m out ys ≡ walked_text font circles level f n out ys
walk_anew level font circles f m n out [] h = refl
walk_anew level font circles zero m n out (y ∷ ys) h = refl
walk_anew level font circles (suc f) m n out (y ∷ ys) h =
    ap (λ (s : Step). record { items = text_after font circles f s.start s.out (drop (s.more + 1) (y ∷ ys)); events = s.events level ++ events_after font circles level f s.start s.out (drop (s.more + 1) (y ∷ ys)) }) (step_anew font circles m n out y ys h)

-- ---- a text

-- a text with its syllables formed
abbrev pub formed_text : FaceParts → Bool → List Item → Arrangement
formed_text font circles xs = walked_text font circles MonotoneGraphemes (length xs) 0 [] xs

pub texts_formed : (font : FaceParts) (circles : Bool) → ArrangesTexts (formed_text font circles)
texts_formed font circles = record {
  rewrites = λ xs h. subst (λ (n : ℕ). IsWholeRewrite n (formed_text font circles xs)) (none_before (length xs)) (walked_rewrite font circles MonotoneGraphemes (length xs) 0 [] xs (omega arith) tt h);
  some = walked_some font circles;
}
  where
    none_before : (n : ℕ) → 0 + n ≡ n
    none_before n = omega arith

replace_binds : (asks : Asks) (level : BufferClusterLevel) (at n : ℕ) → IsMonotone level → bound_span asks level (Replace at n 1) ≡ Some (record { from = at; to = at + n })
replace_binds asks MonotoneGraphemes at n h = refl
replace_binds asks MonotoneCharacters at n h = refl
replace_binds asks Characters at n h = absurd h
replace_binds asks Graphemes at n h = absurd h

replaced_across : (m n : ℕ) (all : List Event) → IsReplacedAcross m n all → IsAcross m n all
replaced_across m n all x =
    let low = x.low in
    let high = x.high in
    let fits = x.fits in
    record {
      early = x.before;
      late = [];
      event = Replace x.index x.count 1;
      rest = x.after;
      span = record { from = x.index; to = x.index + x.count };
      is = x.is ∙ ap (λ es. es ++ Replace x.index x.count 1 ∷ x.after) (sym (append-nil x.before));
      early_bounded = x.bounded;
      late_bounded = tt;
      binds = λ asks level breaks monotone. replace_binds asks level x.index x.count monotone;
      low = low;
      high = high;
      fits = fits;
    }

-- a walk through both texts is that through the first beside that through the second
texts_apart : (font : FaceParts) (circles : Bool) (xs ys : List Item) → BeginsToneless ys → IsSameWalk MonotoneGraphemes font circles (length (xs ++ ys)) (length xs) 0 [] xs ys → formed_text font circles (xs ++ ys) ≡ beside (formed_text font circles xs) (formed_text font circles ys)
texts_apart font circles xs ys toneless w =
    let level = MonotoneGraphemes in
    let front = text_after font circles (length xs) 0 [] xs in
    let start : length front ≡ length front + 0 = omega arith in
    let moved : walked_text font circles level w.steps w.start front ys ≡ walked_text font circles level w.steps (length front + 0) (front ++ []) ys =
    walk_anew level font circles w.steps w.start (length front) front ys toneless ∙ ap (λ (i : ℕ). walked_text font circles level w.steps i front ys) start ∙ ap (λ o. walked_text font circles level w.steps (length front + 0) o ys) (sym (append-nil front)) in
    let p = walk_shifted front level font circles w.steps 0 [] ys in
    let enough : walked_text font circles level w.steps 0 [] ys ≡ formed_text font circles ys = steps_enough font circles level w.steps (length ys) 0 [] ys w.enough (omega arith) in
    ap₂ (λ us es. record { items = us; events = es })
    (w.items ∙ ap (λ (a : Arrangement). a.items) moved ∙ p.items ∙ ap (λ (a : Arrangement). front ++ a.items) enough)
    (w.events ∙ ap (λ (a : Arrangement). events_after font circles level (length xs) 0 [] xs ++ a.events) moved ∙ ap (λ es. events_after font circles level (length xs) 0 [] xs ++ es) (p.events ∙ ap (λ (a : Arrangement). map (shifted_event (length front)) a.events) enough))

-- ---- the stage

pub hangul_state : FaceParts → Bool → BufferState → BufferState
hangul_state font circles s = ruled_state (formed_text font circles) (merged_state (jamo_rule font) s)

pub hangul_read : (font : FaceParts) (flags : BufferFlags) (s : BufferState) (r : Read) → hangul_text font flags s.view ≡ Ok r → state_after r s ≡ hangul_state font (wants_circles flags) s
unfolding hangul_state
hangul_read font flags s r e =
    let two = always_done (with_graphemes_merged (jamo_rule font)) (syllables_formed font flags) s r e in
    two.both ∙ formed_read (merged_state (jamo_rule font) s) two.again two.again_is
  where
    formed_read : (t : BufferState) (q : Read) → syllables_formed font flags t.view ≡ Ok q → state_after q t ≡ ruled_state (formed_text font (wants_circles flags)) t
    formed_read t q f =
        let c = wants_circles flags in
        let xs = text_after font c (length t.view.items) 0 [] t.view.items in
        by_room (nat_le (length xs) t.view.max_len) f
      where
        read : Read
        read = record {
          view = record t.view { items = text_after font (wants_circles flags) (length t.view.items) 0 [] t.view.items; positions = zero_positions (length (text_after font (wants_circles flags) (length t.view.items) 0 [] t.view.items)) };
          events = λ level. events_after font (wants_circles flags) level (length t.view.items) 0 [] t.view.items;
        }

        by_room : (b : Bool) → ◌≡◌ {A = Reading} (if b then Ok (record {
          view = record t.view { items = text_after font (wants_circles flags) (length t.view.items) 0 [] t.view.items; positions = zero_positions (length (text_after font (wants_circles flags) (length t.view.items) 0 [] t.view.items)) };
          events = λ level. events_after font (wants_circles flags) level (length t.view.items) 0 [] t.view.items;
        }) else Err TooLong) (Ok q) → state_after q t ≡ ruled_state (formed_text font (wants_circles flags)) t
        by_room true g =
            ap (λ (k : Read). state_after k t) (sym (same_read read q g))
            ∙ ap (λ (es : List Event). record { view = record t.view { items = text_after font (wants_circles flags) (length t.view.items) 0 [] t.view.items; positions = zero_positions (length (text_after font (wants_circles flags) (length t.view.items) 0 [] t.view.items)) }; origins = origins_after t.asks t.level es t.origins; level = t.level; asks = t.asks })
            (walked_free t.level MonotoneGraphemes font (wants_circles flags) (length t.view.items) 0 [] t.view.items)
        by_room false g = cc

-- a text that is unsafe to break stays so
pub hangul_unsafe : (font : FaceParts) (circles : Bool) (c : ℕ) (s : BufferState) → IsBreakable s → AreGiven 0 s.view.items → IsUnsafeAt c s.origins → IsUnsafeAt c (hangul_state font circles s).origins
unfolding hangul_state
hangul_unsafe font circles c s ready given unsafe =
    let rule = jamo_rule font in
    rule_keeps (formed_text font circles) c (merged_state rule s) ((texts_formed font circles).rewrites s.view.items given) (merged_breakable rule s ready) (merged_keeps rule c s ready unsafe)

-- the items of a text with its syllables formed
pub hangul_items : (font : FaceParts) (circles : Bool) (s : BufferState) → (hangul_state font circles s).view.items ≡ text_after font circles (length s.view.items) 0 [] s.view.items
unfolding hangul_state
hangul_items font circles s = refl

-- the preprocessing of Hangul keeps a text broken, where it is unsafe to break or the later text begins with no tone mark
pub hangul_stay : (font : FaceParts) (circles : Bool) (c : ℕ) (whole earlier later : BufferState) → StaysBroken c whole earlier later → IsUnsafeAt c whole.origins ⊎ BeginsToneless later.view.items
    → StaysBroken c (hangul_state font circles whole) (hangul_state font circles earlier) (hangul_state font circles later)
unfolding hangul_state WalkOutcome
hangul_stay font circles c whole earlier later stays begins =
    let rule = jamo_rule font in
    let f = formed_text font circles in
    let w1 = merged_state rule whole in
    let ready = merged_breakable rule whole stays.breakable in
    let p = (texts_formed font circles).rewrites whole.view.items stays.given in
    record {
      breakable = rule_breakable f w1 p ready;
      given = p.given;
      numbers = record { whole_none = stays.numbers.whole_none; early_none = stays.numbers.early_none; late_none = stays.numbers.late_none };
      divided = elim stays.divided [
        | inl unsafe ↦ inl (keeps (merged_keeps rule c whole stays.breakable unsafe))
        | inr j ↦ elim begins [
          | inl unsafe ↦ inl (keeps (merged_keeps rule c whole stays.breakable unsafe))
          | inr toneless ↦ by_line j toneless
        ]
      ];
    }
  where
    rule : List Item → ℕ
    rule = jamo_rule font

    keeps : IsUnsafeAt c (merged_state (jamo_rule font) whole).origins → IsUnsafeAt c (ruled_state (formed_text font circles) (merged_state (jamo_rule font) whole)).origins
    keeps unsafe = rule_keeps (formed_text font circles) c (merged_state (jamo_rule font) whole) ((texts_formed font circles).rewrites whole.view.items stays.given) (merged_breakable (jamo_rule font) whole stays.breakable) unsafe

    across : AreFragments false c whole earlier later → MergesAcross (0 + length earlier.view.items) (0 + (length earlier.view.items + length later.view.items)) (merges_by (jamo_rule font) 0 (earlier.view.items ++ later.view.items))
        → IsUnsafeAt c (ruled_state (formed_text font circles) (merged_state (jamo_rule font) whole)).origins
    across j x =
        let plain = plain_items c whole earlier later j stays.numbers in
        let m = length earlier.view.items in
        let n = length later.view.items in
        let one : 0 + m ≡ m = omega arith in
        let two : 0 + (m + n) ≡ m + n = omega arith in
        keeps (merges_cross (jamo_rule font) c whole earlier later stays.breakable j (subst (λ zs. MergesAcross m (m + n) (merges_by (jamo_rule font) 0 zs)) (sym plain)
        (subst (λ (k : ℕ). MergesAcross k (m + n) (merges_by (jamo_rule font) 0 (earlier.view.items ++ later.view.items))) one (subst (λ (k : ℕ). MergesAcross (0 + m) k (merges_by (jamo_rule font) 0 (earlier.view.items ++ later.view.items))) two x))))

    no_more : (n : ℕ) → 0 + n ≡ n
    no_more n = omega arith

    by_line : AreFragments false c whole earlier later → BeginsToneless later.view.items
        → StaysDivided false c (ruled_state (formed_text font circles) (merged_state (jamo_rule font) whole)) (ruled_state (formed_text font circles) (merged_state (jamo_rule font) earlier)) (ruled_state (formed_text font circles) (merged_state (jamo_rule font) later))
    by_line j toneless =
        let xs = earlier.view.items in
        let ys = later.view.items in
        let f = formed_text font circles in
        let plain = plain_items c whole earlier later j stays.numbers in
        let early_given = given_early c whole earlier later j stays.numbers in
        let late_given = given_late c whole earlier later j stays.numbers in
        let early_count = j.early_whole.origins in
        let late_count = j.late_whole.origins in
        let early_some = j.early_some in
        let late_some = j.late_some in
        let some : 0 < length xs = omega (arith, early_some, early_count) in
        let more : 0 < length ys = omega (arith, late_some, late_count) in
        let ready = merged_breakable (jamo_rule font) whole stays.breakable in
        elim (within_or_across (jamo_rule font) 0 xs ys (jamo_fits font)) [
          | inr x ↦ inl (across j x)
          | inl within ↦ elim (walk_outcome MonotoneGraphemes font circles (length (xs ++ ys)) (length xs) 0 [] xs ys (omega arith) (omega arith) tt early_given) [
            | inr (inr never) ↦ absurd (never within)
            | inr (inl x) ↦
                let e1 = state_after (with_events (merges_in (jamo_rule font) 0 xs ys) earlier.view) earlier in
                let none : 0 + length xs ≡ length xs = no_more (length xs) in
                let over : IsAcross (length xs) (length ys) (f (xs ++ ys)).events = replaced_across (length xs) (length ys) (f (xs ++ ys)).events (subst (λ (n : ℕ). IsReplacedAcross n (length ys) (f (xs ++ ys)).events) none x) in
                let stays1 : StaysBroken c (merged_state (jamo_rule font) whole) e1 (merged_state (jamo_rule font) later) = record {
                  breakable = ready;
                  given = stays.given;
                  numbers = record { whole_none = stays.numbers.whole_none; early_none = stays.numbers.early_none; late_none = stays.numbers.late_none };
                  divided = merges_divide (jamo_rule font) c whole earlier later (jamo_fits font) stays.breakable j stays.numbers within;
                } in
                inl (ruled_unsafe f c (merged_state (jamo_rule font) whole) e1 (merged_state (jamo_rule font) later) (texts_formed font circles) stays1 (λ k. subst (λ zs. IsAcross (length xs) (length ys) (f zs).events) (sym plain) over))
            | inl w ↦
                let divided : StaysDivided false c (merged_state (jamo_rule font) whole) (merged_state (jamo_rule font) earlier) (merged_state (jamo_rule font) later) =
                subst (λ es. StaysDivided false c (merged_state (jamo_rule font) whole) (state_after (with_events es earlier.view) earlier) (merged_state (jamo_rule font) later)) (w.merges 0) (merges_divide (jamo_rule font) c whole earlier later (jamo_fits font) stays.breakable j stays.numbers within) in
                elim divided [
                  | inl unsafe ↦ inl (keeps unsafe)
                  | inr j1 ↦
                      (rule_divides f c (merged_state (jamo_rule font) whole) (merged_state (jamo_rule font) earlier) (merged_state (jamo_rule font) later) ready j1
                      (record { whole_none = stays.numbers.whole_none; early_none = stays.numbers.early_none; late_none = stays.numbers.late_none }) (record {
                        apart = texts_apart font circles xs ys toneless w;
                        whole = (texts_formed font circles).rewrites (xs ++ ys);
                        first = (texts_formed font circles).rewrites xs;
                        second = (texts_formed font circles).rewrites ys;
                        first_some = (texts_formed font circles).some xs early_given some;
                        second_some = (texts_formed font circles).some ys late_given more;
                      })).divided
                ]
          ]
        ]

-- three texts, whose wishes for circles are the same
pub hangul_keeps : (font : FaceParts) (flags flags1 flags2 : BufferFlags) (c : ℕ) (whole earlier later : BufferState) → wants_circles flags1 ≡ wants_circles flags → wants_circles flags2 ≡ wants_circles flags → IsUnsafeAt c whole.origins ⊎ BeginsToneless later.view.items
    → KeepsBrokenAt c whole earlier later (hangul_text font flags) (hangul_text font flags1) (hangul_text font flags2)
hangul_keeps font flags flags1 flags2 c whole earlier later e1 e2 begins r e l stays is_r is_e is_l =
    let circles = wants_circles flags in
    let early = hangul_read font flags1 earlier e is_e ∙ ap (λ b. hangul_state font b earlier) e1 in
    let late = hangul_read font flags2 later l is_l ∙ ap (λ b. hangul_state font b later) e2 in
    let all = hangul_stay font circles c whole earlier later stays begins in
    subst (λ (s : BufferState). StaysBroken c s (state_after e earlier) (state_after l later)) (sym (hangul_read font flags whole r is_r))
    (subst (λ (s : BufferState). StaysBroken c (hangul_state font circles whole) s (state_after l later)) (sym early) (subst (λ (s : BufferState). StaysBroken c (hangul_state font circles whole) (hangul_state font circles earlier) s) (sym late) all))

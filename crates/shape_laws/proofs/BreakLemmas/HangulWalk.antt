-- A walk through a text of Hangul, and through the two texts that it is broken into.
use Rattle.std.proofs.Common.{ℕ, zero, suc, ◌≡◌, ◌≤◌, ◌<◌, ◌+◌, ◌-◌, ◌&&◌, inl, inr, nat_lt, Bool, true, false, if◌then◌else◌, List, [], ◌∷◌, ◌++◌, length, map, take, drop, Option, None, Some, append_assoc, arith, refl, sym, ap, ap₂, subst, ◌∙◌}
use Rattle.std.proofs.lemmas.Bool.Decides.{nat_tests}
use Rattle.std.proofs.lemmas.Grind.{common_steps}
use Rattle.std.proofs.lemmas.List.{length-append, length-drop, length-map, length-take-le, map-append, take-append-drop}
use Rattle.std.proofs.lemmas.List.Sums.{fold-append}
use Rattle.std.proofs.Math.Seq.{take-append-add}
use Rattle.buffer_glyphs.specs.declared.level.BufferClusterLevel.{BufferClusterLevel}
use Rattle.buffer_glyphs.specs.declared.level.BufferClusterLevel.TheVariants.{MonotoneGraphemes}
use Rattle.buffer_glyphs.specs.Events.{IsPlain, Move, Replace}
use Rattle.buffer_glyphs.specs.Items.{Item}
use Rattle.buffer_glyphs.specs.Levels.{InOutput}
use Rattle.buffer_glyphs.specs.Replacements.{item_numbered}
use Rattle.buffer_glyphs.specs.Rewriting.{Arrangement, shifted_event}
use Rattle.buffer_parts.specs.Counts.{count_after, count_after_event}
use Rattle.buffer_stages.specs.Moves.{order_of_move}
use Rattle.buffer_stages.specs.Walks.{renumbered_first}
use Rattle.layout_face.specs.declared.parts.FaceParts.{FaceParts}
use Rattle.buffer_parts.specs.Breaks.Concat.{without_concats}
use Rattle.buffer_parts.specs.Breaks.Fragments.{AreGiven}
use Rattle.buffer_parts.specs.Breaks.Lossless.{AreLossless}
use Rattle.buffer_parts.specs.Breaks.Sides.{AreBounded}
use Rattle.buffer_parts.proofs.BreakLemmas.Events.{both_lossless}
use Rattle.buffer_parts.proofs.BreakLemmas.Orders.{moves_permute}
use Rattle.script_hangul.specs.declared.jamo.Letters.{Letters}
use Rattle.script_hangul.specs.declared.jamo.Letters.TheVariants.{Two, Three}
use Rattle.script_hangul.specs.declared.actions.Action.{Action}
use Rattle.script_hangul.specs.declared.actions.Action.TheVariants.{Keep, Apart, Compose, Split}
use Rattle.script_hangul.specs.Jamo.{is_tone}
use Rattle.script_hangul.specs.Actions.{action_on, has_character}
use Rattle.script_hangul.specs.Hangul.{character_at, events_after, step, step_by, text_after}
use Rattle.script_hangul.specs.Steps.{DOTTED_CIRCLE, Step, apart_step, before_syllable, circle_beside, compose_step, has_no_width, keep_step, letters_from, letters_of_first, numbers_of, split_step, step_of, tone_step, with_circle, with_tone_first}
use Rattle.shape_laws.specs.Breaks.Rewrites.{IsWholeRewrite}
use Rattle.shape_laws.proofs.BreakLemmas.HangulSteps.{AreFed, action_fed, taken_count}
use Rattle.shape_laws.proofs.BreakLemmas.MarkOrders.{given_first, given_from}
use Rattle.shape_laws.proofs.BreakLemmas.Rewrites.{replaced_count}
use Rattle.shape_laws.proofs.BreakLemmas.Fractions.{drop_second}
use Rattle.script_hangul.proofs.Letters.{letters_some, letters_long}
use Rattle.layout_laws.proofs.BreakLemmas.Walks.{bounded_both as both_bounded}
use Rattle.buffer_parts.specs.Lemmas.Plainly.{both_plain}
use Rattle.layout_laws.proofs.BreakLemmas.Frames.{given_both}
use Rattle.buffer_parts.proofs.BreakLemmas.Division.{without_both}

-- ---- one step

-- a step after a text takes items of the rest, and leaves as many more as it has more
pub record IsStep (level : BufferClusterLevel) (s : Step) (out : List Item) (n : ℕ) : Type 0 where
  pub bounded : AreBounded (s.events level) (length out + n)
  pub lossless : AreLossless (s.events level) (length out + n)
  pub counted : count_after (s.events level) (length out + n) ≡ length s.out + (n - (s.more + 1))
  pub plain : IsPlain (s.events level)
  pub no_concat : without_concats (s.events level) ≡ s.events level
  pub given : AreGiven 0 s.out
  pub grows : length out < length s.out

letters_given : (n : ℕ) (xs : List Item) → AreGiven 0 xs → AreGiven 0 (letters_from n xs)
letters_given n [] h = tt
letters_given n (x ∷ xs) h = (h.0, letters_given (n + 1) xs h.1)

numbered_given : (x : Item) (us : List ℕ) → AreGiven 0 (x ∷ []) → AreGiven 0 (map (item_numbered x) us)
numbered_given x [] h = tt
numbered_given x (u ∷ us) h = (h.0, numbered_given x us h)

keep_is : (level : BufferClusterLevel) (whole : Bool) (out : List Item) (x : Item) (xs : List Item) → AreGiven 0 out → AreGiven 0 (x ∷ xs) → IsStep level (keep_step whole out (x ∷ xs)) out (suc (length xs))
keep_is level whole out x xs h k =
    let long = length-append out (x ∷ []) in
    record { bounded = tt; lossless = tt; counted = omega (arith, long); plain = tt; no_concat = refl; given = given_both 0 out (x ∷ []) h (k.0, tt); grows = omega (arith, long) }

apart_is : (level : BufferClusterLevel) (n : ℕ) (out xs : List Item) → 0 < n → n ≤ length xs → AreGiven 0 out → AreGiven 0 xs → IsStep level (apart_step n out xs) out (length xs)
apart_is level n out xs some le h k =
    let a = length-append out (letters_from 1 (take n xs)) in
    let b = letters_long 1 (take n xs) in
    let d = length-take-le n xs le in
    record { bounded = tt; lossless = tt; counted = omega (arith, a, b, d, some, le); plain = tt; no_concat = refl; given = given_both 0 out (letters_from 1 (take n xs)) h (letters_given 1 (take n xs) (given_first n 0 xs k)); grows = omega (arith, a, b, d, some) }

compose_is : (level : BufferClusterLevel) (n u : ℕ) (out : List Item) (x : Item) (xs : List Item) → 0 < n → n ≤ suc (length xs) → AreGiven 0 out → AreGiven 0 (x ∷ xs) → IsStep level (compose_step n u out (x ∷ xs)) out (suc (length xs))
compose_is level n u out x xs some le h k =
    let a = length-append out (renumbered_first u (x ∷ xs)) in
    let all = length out + suc (length xs) in
    let c = replaced_count (length out) n 1 all some (omega (arith, le)) in
    record { bounded = ((omega arith, omega (arith, le)), tt); lossless = (tt, tt); counted = c ∙ omega (arith, a, some, le); plain = tt; no_concat = refl; given = given_both 0 out (renumbered_first u (x ∷ xs)) h (k.0, tt); grows = omega (arith, a) }

split_is : (level : BufferClusterLevel) (letters : Letters) (n : ℕ) (out : List Item) (x : Item) (xs : List Item) → n ≤ length xs → AreGiven 0 out → AreGiven 0 (x ∷ xs) → IsStep level (split_step letters n out (x ∷ xs)) out (suc (length xs))
split_is level letters n out x xs le h k =
    let many = length (numbers_of letters) in
    let new = letters_of_first letters (x ∷ xs) ++ take n xs in
    let a = length-append out (letters_from 1 new) in
    let b = letters_long 1 new in
    let d = length-append (letters_of_first letters (x ∷ xs)) (take n xs) in
    let e = length-map (numbers_of letters) (item_numbered x) in
    let f = length-take-le n xs le in
    let some = letters_some letters in
    let all = length out + suc (length xs) in
    let c = replaced_count (length out) 1 many all (omega arith) (omega arith) in
    record {
      bounded = ((omega arith, omega arith), tt);
      lossless = (tt, tt);
      counted = c ∙ omega (arith, a, b, d, e, f, le);
      plain = tt;
      no_concat = refl;
      given = given_both 0 out (letters_from 1 new) h (letters_given 1 new (given_both 0 (letters_of_first letters (x ∷ xs)) (take n xs) (numbered_given x (numbers_of letters) (k.0, tt)) (given_first n 0 xs k.1)));
      grows = omega (arith, a, b, d, e, f, some);
    }

performed_is : (level : BufferClusterLevel) (a : Action) (out : List Item) (x : Item) (xs : List Item) → 0 < taken_count a → taken_count a ≤ suc (length xs) → AreGiven 0 out → AreGiven 0 (x ∷ xs) → IsStep level (step_of a out (x ∷ xs)) out (suc (length xs))
performed_is level (Keep whole) out x xs some le h k = keep_is level whole out x xs h k
performed_is level (Apart n) out x xs some le h k = apart_is level n out (x ∷ xs) some le h k
performed_is level (Compose n u) out x xs some le h k = compose_is level n u out x xs some le h k
performed_is level (Split letters joins) out x xs some le h k = split_is level letters (if joins then 1 else 0) out x xs (omega (arith, le)) h k

before_is : (level : BufferClusterLevel) (start : ℕ) (out : List Item) (x : Item) (xs : List Item) → start < length out → AreGiven 0 out → AreGiven 0 (x ∷ xs) → IsStep level (before_syllable start out (x ∷ xs)) out (suc (length xs))
before_is level start out x xs lt h k =
    let a = length-append (take start out) (x ∷ drop start out) in
    let whole = sym (length-append (take start out) (drop start out)) ∙ ap length (take-append-drop start out) in
    let p = moves_permute start (length out - start) 1 (length out + suc (length xs)) (omega (arith, lt)) in
    record { bounded = (p.within, tt); lossless = (p, tt); counted = omega (arith, a, whole); plain = tt; no_concat = refl; given = given_both 0 (take start out) (x ∷ drop start out) (given_first start 0 out h) (k.0, given_from start 0 out h); grows = omega (arith, a, whole) }

circle_is : (level : BufferClusterLevel) (thin : Bool) (out : List Item) (x : Item) (xs : List Item) → AreGiven 0 out → AreGiven 0 (x ∷ xs) → IsStep level (with_circle thin out (x ∷ xs)) out (suc (length xs))
circle_is level thin out x xs h k =
    let a = length-append out (circle_beside thin (x ∷ xs)) in
    let b = two thin in
    let c = replaced_count (length out) 1 2 (length out + suc (length xs)) (omega arith) (omega arith) in
    record { bounded = ((omega arith, omega arith), tt); lossless = (tt, tt); counted = c ∙ omega (arith, a, b); plain = tt; no_concat = refl; given = given_both 0 out (circle_beside thin (x ∷ xs)) h (both thin); grows = omega (arith, a, b) }
  where
    two : (t : Bool) → length (circle_beside t (x ∷ xs)) ≡ 2
    two true = refl
    two false = refl

    both : (t : Bool) → AreGiven 0 (circle_beside t (x ∷ xs))
    both true = (k.0, (k.0, tt))
    both false = (k.0, (k.0, tt))

toned_is : (level : BufferClusterLevel) (font : FaceParts) (circles : Bool) (start u : ℕ) (out : List Item) (x : Item) (xs : List Item) → AreGiven 0 out → AreGiven 0 (x ∷ xs) → IsStep level (tone_step font circles start u out (x ∷ xs)) out (suc (length xs))
toned_is level font circles start u out x xs h k = by_tests (nat_lt start (length out)) refl (has_no_width font u) (circles && has_character font DOTTED_CIRCLE)
  where
    below : nat_lt start (length out) ≡ true → start < length out
    below e = grind (arith, nat_tests, common_steps, e)

    by_tests : (s : Bool) → nat_lt start (length out) ≡ s → (t w : Bool)
        → IsStep level (if s then (if t then keep_step false out (x ∷ xs) else before_syllable start out (x ∷ xs)) else (if w then with_circle (has_no_width font u) out (x ∷ xs) else keep_step false out (x ∷ xs))) out (suc (length xs))
    by_tests true e true w = keep_is level false out x xs h k
    by_tests true e false w = before_is level start out x xs (below e) h k
    by_tests false e t true = circle_is level (has_no_width font u) out x xs h k
    by_tests false e t false = keep_is level false out x xs h k

-- an action takes items that are there
pub fed_within : (n : ℕ) (x : Item) (xs : List Item) → AreFed n (character_at 1 (x ∷ xs)) (character_at 2 (x ∷ xs)) → (0 < n) × (n ≤ suc (length xs))
fed_within n x [] (inl one) = (omega (arith, one), omega (arith, one))
fed_within n x [] (inr (inl two)) = absurd two.1
fed_within n x [] (inr (inr three)) = absurd three.1.0
fed_within n x (y ∷ []) (inl one) = (omega (arith, one), omega (arith, one))
fed_within n x (y ∷ []) (inr (inl two)) = let e = two.0 in (omega (arith, e), omega (arith, e))
fed_within n x (y ∷ []) (inr (inr three)) = absurd three.1.1
fed_within n x (y ∷ z ∷ zs) (inl one) = (omega (arith, one), omega (arith, one))
fed_within n x (y ∷ z ∷ zs) (inr (inl two)) = let e = two.0 in (omega (arith, e), omega (arith, e))
fed_within n x (y ∷ z ∷ zs) (inr (inr three)) = let e = three.0 in (omega (arith, e), omega (arith, e))

pub step_is : (level : BufferClusterLevel) (font : FaceParts) (circles : Bool) (n : ℕ) (out : List Item) (x : Item) (xs : List Item) → AreGiven 0 out → AreGiven 0 (x ∷ xs) → IsStep level (step font circles n out (x ∷ xs)) out (suc (length xs))
step_is level font circles n out x xs h k = by_first (character_at 0 (x ∷ xs))
  where
    by_tone : (u : ℕ) (t : Bool) → IsStep level (if t then tone_step font circles n u out (x ∷ xs) else step_of (action_on font u (character_at 1 (x ∷ xs)) (character_at 2 (x ∷ xs))) out (x ∷ xs)) out (suc (length xs))
    by_tone u true = toned_is level font circles n u out x xs h k
    by_tone u false =
        let a = action_on font u (character_at 1 (x ∷ xs)) (character_at 2 (x ∷ xs)) in
        let fits = fed_within (taken_count a) x xs (action_fed font u (character_at 1 (x ∷ xs)) (character_at 2 (x ∷ xs))) in
        performed_is level a out x xs fits.0 fits.1 h k

    by_first : (o : Option ℕ) → IsStep level (step_by font circles n o out (x ∷ xs)) out (suc (length xs))
    by_first None = keep_is level false out x xs h k
    by_first (Some u) = by_tone u (is_tone u)

-- ---- a walk

-- a text of Hangul after some steps, with their events
abbrev pub walked_text : FaceParts → Bool → BufferClusterLevel → ℕ → ℕ → List Item → List Item → Arrangement
walked_text font circles level steps n out xs = record { items = text_after font circles steps n out xs; events = events_after font circles level steps n out xs }

pub walked_rewrite : (font : FaceParts) (circles : Bool) (level : BufferClusterLevel) (steps n : ℕ) (out xs : List Item) → length xs ≤ steps → AreGiven 0 out → AreGiven 0 xs → IsWholeRewrite (length out + length xs) (walked_text font circles level steps n out xs)
walked_rewrite font circles level steps n out [] le h k = record { bounded = tt; lossless = tt; counted = omega arith; plain = tt; no_concat = refl; given = h }
walked_rewrite font circles level zero n out (x ∷ xs) le h k = absurd (omega (arith, le))
walked_rewrite font circles level (suc steps) n out (x ∷ xs) le h k =
    let s = step font circles n out (x ∷ xs) in
    let p = step_is level font circles n out x xs h k in
    let rest = drop (s.more + 1) (x ∷ xs) in
    let d : length rest ≡ suc (length xs) - (s.more + 1) = length-drop (s.more + 1) (x ∷ xs) in
    let q = walked_rewrite font circles level steps s.start s.out rest (omega (arith, d, le)) p.given (given_from (s.more + 1) 0 (x ∷ xs) k) in
    let es = s.events level in
    let fs = events_after font circles level steps s.start s.out rest in
    let all = length out + suc (length xs) in
    let counted : count_after es all ≡ length s.out + length rest = p.counted ∙ ap (λ (m : ℕ). length s.out + m) (sym d) in
    record {
      bounded = both_bounded es fs all p.bounded (subst (AreBounded fs) (sym counted) q.bounded);
      lossless = both_lossless es fs all p.lossless (subst (AreLossless fs) (sym counted) q.lossless);
      counted = fold-append count_after_event all es fs ∙ ap (count_after fs) counted ∙ q.counted;
      plain = both_plain es fs p.plain q.plain;
      no_concat = without_both es fs ∙ ap (λ gs. gs ++ without_concats fs) p.no_concat ∙ ap (λ gs. es ++ gs) q.no_concat;
      given = q.given;
    }

pub walked_grows : (font : FaceParts) (circles : Bool) (steps n : ℕ) (out xs : List Item) → AreGiven 0 out → AreGiven 0 xs → length out ≤ length (text_after font circles steps n out xs)
walked_grows font circles steps n out [] h k = omega arith
walked_grows font circles zero n out (x ∷ xs) h k = omega arith
walked_grows font circles (suc steps) n out (x ∷ xs) h k =
    let s = step font circles n out (x ∷ xs) in
    let p = step_is MonotoneGraphemes font circles n out x xs h k in
    let here = p.grows in
    let rest = walked_grows font circles steps s.start s.out (drop (s.more + 1) (x ∷ xs)) p.given (given_from (s.more + 1) 0 (x ∷ xs) k) in
    omega (arith, here, rest)

pub walked_some : (font : FaceParts) (circles : Bool) (xs : List Item) → AreGiven 0 xs → 0 < length xs → 0 < length (text_after font circles (length xs) 0 [] xs)
walked_some font circles [] h some = absurd (omega (arith, some))
walked_some font circles (x ∷ xs) h some =
    let s = step font circles 0 [] (x ∷ xs) in
    let p = step_is MonotoneGraphemes font circles 0 [] x xs tt h in
    let here = p.grows in
    let rest = walked_grows font circles (length xs) s.start s.out (drop (s.more + 1) (x ∷ xs)) p.given (given_from (s.more + 1) 0 (x ∷ xs) h) in
    omega (arith, here, rest)

-- as many steps as there are items are enough
pub steps_enough : (font : FaceParts) (circles : Bool) (level : BufferClusterLevel) (f g n : ℕ) (out xs : List Item) → length xs ≤ f → length xs ≤ g → walked_text font circles level f n out xs ≡ walked_text font circles level g n out xs
steps_enough font circles level f g n out [] a b = refl
steps_enough font circles level zero g n out (x ∷ xs) a b = absurd (omega (arith, a))
steps_enough font circles level (suc f) zero n out (x ∷ xs) a b = absurd (omega (arith, b))
steps_enough font circles level (suc f) (suc g) n out (x ∷ xs) a b =
    let s = step font circles n out (x ∷ xs) in
    let rest = drop (s.more + 1) (x ∷ xs) in
    let d : length rest ≡ suc (length xs) - (s.more + 1) = length-drop (s.more + 1) (x ∷ xs) in
    ap (λ (w : Arrangement). record { items = w.items; events = s.events level ++ w.events }) (steps_enough font circles level f g s.start s.out rest (omega (arith, d, a)) (omega (arith, d, b)))

-- ---- a walk after another text

-- a step after a text in front
record IsShiftedStep (front : List Item) (level : BufferClusterLevel) (s r : Step) : Type 0 where
  out : s.out ≡ front ++ r.out
  events : s.events level ≡ map (shifted_event (length front)) (r.events level)
  more : s.more ≡ r.more
  start : s.start ≡ length front + r.start

keep_shifted : (front : List Item) (level : BufferClusterLevel) (whole : Bool) (out xs : List Item) → IsShiftedStep front level (keep_step whole (front ++ out) xs) (keep_step whole out xs)
keep_shifted front level whole out xs =
    let a = length-append front out in
    let b : (front ++ out) ++ take 1 xs ≡ front ++ (out ++ take 1 xs) = append_assoc front out (take 1 xs) in
    let e = length-append front (out ++ take 1 xs) in
    record {
      out = b;
      events = refl;
      more = refl;
      start = elim whole as (λ t. (if t then length (front ++ out) else length ((front ++ out) ++ take 1 xs)) ≡ length front + (if t then length out else length (out ++ take 1 xs))) [ true ↦ a | false ↦ ap length b ∙ e ];
    }

added_shifted : (front out new : List Item) → (front ++ out) ++ new ≡ front ++ (out ++ new)
added_shifted front out new = append_assoc front out new

performed_shifted : (front : List Item) (level : BufferClusterLevel) (a : Action) (out xs : List Item) → IsShiftedStep front level (step_of a (front ++ out) xs) (step_of a out xs)
performed_shifted front level (Keep whole) out xs = keep_shifted front level whole out xs
performed_shifted front level (Apart n) out xs = record { out = added_shifted front out (letters_from 1 (take n xs)); events = refl; more = refl; start = length-append front out }
performed_shifted front level (Compose n u) out xs = record { out = added_shifted front out (renumbered_first u xs); events = ap (λ (i : ℕ). Replace i n 1 ∷ []) (length-append front out); more = refl; start = length-append front out }
performed_shifted front level (Split letters joins) out xs =
    let n = if joins then 1 else 0 in
    record { out = added_shifted front out (letters_from 1 (letters_of_first letters xs ++ take n (drop 1 xs))); events = ap (λ (i : ℕ). Replace i 1 (length (numbers_of letters)) ∷ []) (length-append front out); more = refl; start = length-append front out }

before_shifted : (front : List Item) (level : BufferClusterLevel) (start : ℕ) (out xs : List Item) → IsShiftedStep front level (before_syllable (length front + start) (front ++ out) xs) (before_syllable start out xs)
before_shifted front level start out xs =
    let many = length-append front out in
    let wide : length (front ++ out) - (length front + start) ≡ length out - start = omega (arith, many) in
    let same : with_tone_first (length front + start) (front ++ out) xs ≡ front ++ with_tone_first start out xs =
    ap₂ (λ us vs. us ++ (take 1 xs ++ vs)) (take-append-add front out start) (drop_second front out start) ∙ append_assoc front (take start out) (take 1 xs ++ drop start out) in
    record {
      out = same;
      events = ap (λ (k : ℕ). Move InOutput (length front + start) (order_of_move k 1) ∷ []) wide;
      more = refl;
      start = ap length same ∙ length-append front (with_tone_first start out xs);
    }

circle_shifted : (front : List Item) (level : BufferClusterLevel) (thin : Bool) (out xs : List Item) → IsShiftedStep front level (with_circle thin (front ++ out) xs) (with_circle thin out xs)
circle_shifted front level thin out xs =
    let same = added_shifted front out (circle_beside thin xs) in
    record { out = same; events = ap (λ (i : ℕ). Replace i 1 2 ∷ []) (length-append front out); more = refl; start = ap length same ∙ length-append front (out ++ circle_beside thin xs) }

toned_shifted : (front : List Item) (level : BufferClusterLevel) (font : FaceParts) (circles : Bool) (n u : ℕ) (out xs : List Item) → IsShiftedStep front level (tone_step font circles (length front + n) u (front ++ out) xs) (tone_step font circles n u out xs)
toned_shifted front level font circles n u out xs =
    subst (λ s. IsShiftedStep front level (if s then (if has_no_width font u then keep_step false (front ++ out) xs else before_syllable (length front + n) (front ++ out) xs) else (if circles && has_character font DOTTED_CIRCLE then with_circle (has_no_width font u) (front ++ out) xs else keep_step false (front ++ out) xs)) (tone_step font circles n u out xs))
    (sym (ap (nat_lt (length front + n)) (length-append front out) ∙ same_test (length front) n (length out))) (by_tests (nat_lt n (length out)) (has_no_width font u) (circles && has_character font DOTTED_CIRCLE))
  where
    same_test : (k i j : ℕ) → nat_lt (k + i) (k + j) ≡ nat_lt i j
    same_test k i j = grind (arith, nat_tests, common_steps)

    by_tests : (s t w : Bool) → IsShiftedStep front level (if s then (if t then keep_step false (front ++ out) xs else before_syllable (length front + n) (front ++ out) xs) else (if w then with_circle (has_no_width font u) (front ++ out) xs else keep_step false (front ++ out) xs))
        (if s then (if t then keep_step false out xs else before_syllable n out xs) else (if w then with_circle (has_no_width font u) out xs else keep_step false out xs))
    by_tests true true w = keep_shifted front level false out xs
    by_tests true false w = before_shifted front level n out xs
    by_tests false t true = circle_shifted front level (has_no_width font u) out xs
    by_tests false t false = keep_shifted front level false out xs

step_shifted : (front : List Item) (level : BufferClusterLevel) (font : FaceParts) (circles : Bool) (n : ℕ) (out xs : List Item) → IsShiftedStep front level (step font circles (length front + n) (front ++ out) xs) (step font circles n out xs)
step_shifted front level font circles n out xs = by_first (character_at 0 xs)
  where
    by_tone : (u : ℕ) (t : Bool) → IsShiftedStep front level (if t then tone_step font circles (length front + n) u (front ++ out) xs else step_of (action_on font u (character_at 1 xs) (character_at 2 xs)) (front ++ out) xs)
        (if t then tone_step font circles n u out xs else step_of (action_on font u (character_at 1 xs) (character_at 2 xs)) out xs)
    by_tone u true = toned_shifted front level font circles n u out xs
    by_tone u false = performed_shifted front level (action_on font u (character_at 1 xs) (character_at 2 xs)) out xs

    by_first : (o : Option ℕ) → IsShiftedStep front level (step_by font circles (length front + n) o (front ++ out) xs) (step_by font circles n o out xs)
    by_first None = keep_shifted front level false out xs
    by_first (Some u) = by_tone u (is_tone u)

-- a walk after a text in front
pub record IsShiftedWalk (front : List Item) (a b : Arrangement) : Type 0 where
  pub items : a.items ≡ front ++ b.items
  pub events : a.events ≡ map (shifted_event (length front)) b.events

pub walk_shifted : (front : List Item) (level : BufferClusterLevel) (font : FaceParts) (circles : Bool) (f n : ℕ) (out xs : List Item) → IsShiftedWalk front (walked_text font circles level f (length front + n) (front ++ out) xs) (walked_text font circles level f n out xs)
walk_shifted front level font circles f n out [] = record { items = refl; events = refl }
walk_shifted front level font circles zero n out (x ∷ xs) = record { items = refl; events = refl }
walk_shifted front level font circles (suc f) n out (x ∷ xs) =
    let s = step font circles (length front + n) (front ++ out) (x ∷ xs) in
    let r = step font circles n out (x ∷ xs) in
    let p = step_shifted front level font circles n out (x ∷ xs) in
    let rest = drop (r.more + 1) (x ∷ xs) in
    let next = walk_shifted front level font circles f r.start r.out rest in
    let same : walked_text font circles level f s.start s.out (drop (s.more + 1) (x ∷ xs)) ≡ walked_text font circles level f (length front + r.start) (front ++ r.out) rest =
    ap (λ (i : ℕ). walked_text font circles level f i s.out (drop (s.more + 1) (x ∷ xs))) p.start ∙ ap (λ o. walked_text font circles level f (length front + r.start) o (drop (s.more + 1) (x ∷ xs))) p.out ∙ ap (λ (i : ℕ). walked_text font circles level f (length front + r.start) (front ++ r.out) (drop (i + 1) (x ∷ xs))) p.more in
    record {
      items = ap (λ (w : Arrangement). w.items) same ∙ next.items;
      events = ap₂ (λ es fs. es ++ fs) p.events (ap (λ (w : Arrangement). w.events) same ∙ next.events) ∙ sym (map-append (shifted_event (length front)) (r.events level) (events_after font circles level f r.start r.out rest));
    }

-- ---- levels

-- no step's events depend on the level
step_free : (l m : BufferClusterLevel) (font : FaceParts) (circles : Bool) (n : ℕ) (out xs : List Item) → (step font circles n out xs).events l ≡ (step font circles n out xs).events m
step_free l m font circles n out xs = by_first (character_at 0 xs)
  where
    by_action : (a : Action) → (step_of a out xs).events l ≡ (step_of a out xs).events m
    by_action (Keep whole) = refl
    by_action (Apart k) = refl
    by_action (Compose k u) = refl
    by_action (Split letters joins) = refl

    by_tests : (u : ℕ) (s t w : Bool) → (if s then (if t then keep_step false out xs else before_syllable n out xs) else (if w then with_circle (has_no_width font u) out xs else keep_step false out xs)).events l
        ≡ (if s then (if t then keep_step false out xs else before_syllable n out xs) else (if w then with_circle (has_no_width font u) out xs else keep_step false out xs)).events m
    by_tests u true true w = refl
    by_tests u true false w = refl
    by_tests u false t true = refl
    by_tests u false t false = refl

    by_tone : (u : ℕ) (t : Bool) → (if t then tone_step font circles n u out xs else step_of (action_on font u (character_at 1 xs) (character_at 2 xs)) out xs).events l ≡ (if t then tone_step font circles n u out xs else step_of (action_on font u (character_at 1 xs) (character_at 2 xs)) out xs).events m
    by_tone u true = by_tests u (nat_lt n (length out)) (has_no_width font u) (circles && has_character font DOTTED_CIRCLE)
    by_tone u false = by_action (action_on font u (character_at 1 xs) (character_at 2 xs))

    by_first : (o : Option ℕ) → (step_by font circles n o out xs).events l ≡ (step_by font circles n o out xs).events m
    by_first None = refl
    by_first (Some u) = by_tone u (is_tone u)

pub walked_free : (l m : BufferClusterLevel) (font : FaceParts) (circles : Bool) (f n : ℕ) (out xs : List Item) → events_after font circles l f n out xs ≡ events_after font circles m f n out xs
walked_free l m font circles f n out [] = refl
walked_free l m font circles zero n out (x ∷ xs) = refl
walked_free l m font circles (suc f) n out (x ∷ xs) =
    let s = step font circles n out (x ∷ xs) in
    ap₂ (λ es fs. es ++ fs) (step_free l m font circles n out (x ∷ xs)) (walked_free l m font circles f s.start s.out (drop (s.more + 1) (x ∷ xs)))

-- Syllables of Hangul whose graphemes are merged before, or once each is written.
use Rattle.std.proofs.Common.{ℕ, zero, suc, ◌≡◌, ◌≤◌, ◌<◌, ◌+◌, ◌-◌, ◌==◌, ◌&&◌, ◌||◌, ◌⊎◌, inl, inr, Bool, true, false, nat_le, nat_lt, if◌then◌else◌, List, [], ◌∷◌, ◌++◌, Option, Some, None, Ok, Err, length, take, drop, arith, refl, ap, sym, subst, ◌∙◌}
use Rattle.std.specs.Prelude.{is_some, replicate}
use Rattle.std.proofs.lemmas.Bool.{and_parts}
use Rattle.std.proofs.lemmas.Bool.Decides.{nat_tests}
use Rattle.std.proofs.lemmas.Grind.{common_steps}
use Rattle.std.proofs.lemmas.List.{append-nil, drop_at, drop-drop, length-append, length-drop, length-map, length-replicate, length-take-le, take-append-drop, take_at}
use Rattle.buffer_common.specs.declared.constants.BufferFlags.{BufferFlags}
use Rattle.buffer_unicode.specs.Character.{is_in_range}
use Rattle.buffer_unicode_tables.specs.Hangul.{hangul_pair}
use Rattle.buffer_glyphs.specs.declared.cause.ShapeCause.TheVariants.{TooLong}
use Rattle.buffer_glyphs.specs.declared.level.BufferClusterLevel.{BufferClusterLevel}
use Rattle.buffer_glyphs.specs.declared.level.BufferClusterLevel.TheVariants.{MonotoneGraphemes, MonotoneCharacters, Characters, Graphemes}
use Rattle.buffer_glyphs.specs.Items.{Item}
use Rattle.buffer_glyphs.specs.Order.{IsOrdered}
use Rattle.buffer_glyphs.specs.Parts.{elements_replaced, range_of}
use Rattle.buffer_glyphs.specs.Replacements.{item_numbered}
use Rattle.buffer_glyphs.specs.Levels.{InList, InOutput, manner, grapheme_manner}
use Rattle.buffer_glyphs.specs.Merges.{merged_number}
use Rattle.buffer_glyphs.specs.Origins.{Asks, Manner, Unites, Marks, Keeps, Origin, cast, numbers, origins_merged_as}
use Rattle.buffer_glyphs.specs.Events.{Event, MergeGrapheme, Move, Replace, origins_after}
use Rattle.buffer_glyphs.specs.Lemmas.Origins.{origins_after_both}
use Rattle.buffer_parts.specs.Lemmas.Counts.{counts_follow}
use Rattle.buffer_parts.specs.Lemmas.Plainly.{replacement_kept}
use Rattle.buffer_core.specs.Readings.{Read, Reading, then_read, then_reading}
use Rattle.buffer_core.specs.Sides.{zero_positions}
use Rattle.buffer_stages.specs.Moves.{order_of_move}
use Rattle.buffer_stages.specs.Lemmas.Moves.{order_long}
use Rattle.buffer_parts.specs.Lemmas.Stages.{at_read}
use Rattle.layout_face.specs.declared.parts.FaceParts.{FaceParts}
use Rattle.script_syllabic.specs.Graphemes.{merges_by, with_graphemes_merged}
use Rattle.script_hangul.specs.declared.jamo.Letters.{Letters}
use Rattle.script_hangul.specs.declared.jamo.Letters.TheVariants.{Two, Three}
use Rattle.script_hangul.specs.declared.actions.Action.{Action}
use Rattle.script_hangul.specs.declared.actions.Action.TheVariants.{Keep, Apart, Compose, Split}
use Rattle.script_hangul.specs.Jamo.{is_leading, is_syllable, is_tone, is_trailing, is_vowel, letters_of, whole_of}
use Rattle.script_hangul.specs.Actions.{action_on, before_trailing, has_character, has_letters, joining_action, leading_action, letters_action, open_by, split_action, split_action_of, syllable_action, trailing_of}
use Rattle.script_hangul.specs.Steps.{DOTTED_CIRCLE, Step, apart_step, before_syllable, circle_beside, compose_step, has_no_width, keep_step, letters_from, letters_of_first, numbers_of, split_step, step_of, tone_step, with_circle}
use Rattle.script_hangul.specs.Hangul.{character_at, count_apart, events_after, jamo_rule, rule_by, step, step_by, text_after, wants_circles}
use Rattle.script_hangul.proofs.Fits.{Within, character_within}
use Rattle.script_hangul.specs.Written.{syllable_merge, written_merge, written_merge_by, written_steps, written_syllables}
use Rattle.script_hangul.proofs.Unions.{HaveSame, IsFlagless, same_as, unions_alike}
use Rattle.script_hangul.proofs.Carried.{Passes, begins_at, carried_passes, graphemes_flagless, have_after, have_twice, later_passes, moving_passes, range_over, replaced_numbers, replacing_carries, whole_numbers}
use Rattle.script_hangul.proofs.WrittenEvents.{AreWritten, both_written, clusters_by_requests, merge_alone, merged_unasked, merges_alone, merges_alone_written, merges_written, origins_by_requests, unasked}
use Rattle.script_hangul.proofs.WrittenWalks.{Anything, IsEvenLevel, IsOrderedFrom, IsWalk, cluster_walk, exact_walk, ordered_walk}
use Rattle.layout_face.proofs.Fitting.{none as and_none}
use Rattle.script_hangul.proofs.Letters.{letters_some, letters_long}
use Rattle.buffer_lists.proofs.Carried.{take_sum as take_both}
use Rattle.buffer_stages.specs.Lemmas.Nested.{merged_length as merged_many}
use Rattle.buffer_facts.proofs.Truth.{either_true as one_of}
use Rattle.buffer_lists.proofs.Lemmas.SortedEvents.{lone_merged as merged_alone}

neither : (a b : Bool) → a ≡ false → b ≡ false → (a || b) ≡ false
neither false false e f = refl
neither false true e f = cc
neither true b e f = cc

-- ---- characters within syllables

-- a character is there, and begins no syllable
abbrev IsInside : Option ℕ → Type 0
IsInside None = ⊥
IsInside (Some u) = (is_leading u ≡ false) × (is_syllable u ≡ false)

pub in_range : (u a b : ℕ) → is_in_range u (a, b) ≡ true → (a ≤ u) × (u ≤ b)
in_range u a b e = let both = and_parts (nat_le a u) (nat_le u b) e in (grind (arith, nat_tests, both.0), grind (arith, nat_tests, both.1))

under : (u a b : ℕ) → u < a → is_in_range u (a, b) ≡ false
under u a b lt = let no : nat_le a u ≡ false = grind (arith, nat_tests, lt) in ap (λ t. t && nat_le u b) no

over : (u a b : ℕ) → b < u → is_in_range u (a, b) ≡ false
over u a b lt = let no : nat_le u b ≡ false = grind (arith, nat_tests, lt) in ap (λ t. nat_le a u && t) no ∙ and_none (nat_le a u)

inside_low : (u : ℕ) → 0x115F < u → u < 0xA960 → IsInside (Some u)
inside_low u above less = (neither (is_in_range u (0x1100, 0x115F)) (is_in_range u (0xA960, 0xA97C)) (over u 0x1100 0x115F above) (under u 0xA960 0xA97C less), under u 0xAC00 0xD7A3 (omega (arith, less)))

inside_high : (u : ℕ) → 0xD7A3 < u → IsInside (Some u)
inside_high u above = (neither (is_in_range u (0x1100, 0x115F)) (is_in_range u (0xA960, 0xA97C)) (over u 0x1100 0x115F (omega (arith, above))) (over u 0xA960 0xA97C (omega (arith, above))), over u 0xAC00 0xD7A3 above)

inside_vowel : (u : ℕ) → is_vowel u ≡ true → IsInside (Some u)
inside_vowel u e = elim (one_of (is_in_range u (0x1160, 0x11A7)) (is_in_range u (0xD7B0, 0xD7C6)) e) [
  | inl low ↦ let p = in_range u 0x1160 0x11A7 low in let a = p.0 in let b = p.1 in inside_low u (omega (arith, a)) (omega (arith, b))
  | inr high ↦ let p = in_range u 0xD7B0 0xD7C6 high in let a = p.0 in inside_high u (omega (arith, a))
]

inside_trailing : (u : ℕ) → is_trailing u ≡ true → IsInside (Some u)
inside_trailing u e = elim (one_of (is_in_range u (0x11A8, 0x11FF)) (is_in_range u (0xD7CB, 0xD7FB)) e) [
  | inl low ↦ let p = in_range u 0x11A8 0x11FF low in let a = p.0 in let b = p.1 in inside_low u (omega (arith, a)) (omega (arith, b))
  | inr high ↦ let p = in_range u 0xD7CB 0xD7FB high in let a = p.0 in inside_high u (omega (arith, a))
]

inside_tone : (u : ℕ) → is_tone u ≡ true → IsInside (Some u)
inside_tone u e = elim (one_of (u == 0x302E) (u == 0x302F) e) [
  | inl first ↦ let is : u ≡ 0x302E = grind (arith, common_steps, first) in inside_low u (omega (arith, is)) (omega (arith, is))
  | inr second ↦ let is : u ≡ 0x302F = grind (arith, common_steps, second) in inside_low u (omega (arith, is)) (omega (arith, is))
]

-- such a character is merged with none after it
inside_rule : (font : FaceParts) (o : Option ℕ) (xs : List Item) → IsInside o → rule_by font o xs ≡ 0
inside_rule font None xs h = absurd h
inside_rule font (Some u) xs h =
    let second = character_at 1 xs in
    let third = character_at 2 xs in
    ap (λ t. count_apart (if t then leading_action font u second (trailing_of third) else if is_syllable u then syllable_action font u (trailing_of second) else Keep false)) h.0
    ∙ ap (λ t. count_apart (if t then syllable_action font u (trailing_of second) else Keep false)) h.1

inside_skipped : (font : FaceParts) (at : ℕ) (xs : List Item) → IsInside (character_at 0 xs) → merges_alone (jamo_rule font) at xs ≡ merges_alone (jamo_rule font) (at + 1) (drop 1 xs)
inside_skipped font at [] h = absurd h
inside_skipped font at (x ∷ xs) h = ap (λ n. merge_alone at n ++ merges_alone (jamo_rule font) (at + 1) xs) (inside_rule font (character_at 0 (x ∷ xs)) (x ∷ xs) h)

inside_within : (k : ℕ) (xs : List Item) → IsInside (character_at k xs) → k < length xs
inside_within k xs h = by_case (character_at k xs) h (character_within k xs)
  where
    by_case : (o : Option ℕ) → IsInside o → Within k o (length xs) → k < length xs
    by_case None p q = absurd p
    by_case (Some u) p q = q

-- ---- the characters that an action takes

-- two characters or three, of which those after the first are within the syllable
abbrev TakesMany : ℕ → Option ℕ → Option ℕ → Type 0
TakesMany n second third = ((n ≡ 2) × IsInside second) ⊎ ((n ≡ 3) × (IsInside second × IsInside third))

abbrev Takes : Action → Option ℕ → Option ℕ → Type 0
Takes (Keep whole) second third = Unit {0}
Takes (Apart n) second third = TakesMany n second third
Takes (Compose n u) second third = TakesMany n second third
Takes (Split letters joins) second third = joins ≡ true → IsInside second

letters_take : (font : FaceParts) (o : Option ℕ) (n : ℕ) (second third : Option ℕ) → TakesMany n second third → Takes (letters_action font o n) second third
letters_take font None n second third h = h
letters_take font (Some u) n second third h = elim (has_character font u) as (λ t. Takes (if t then Compose n u else Apart n) second third) [ true ↦ h | false ↦ h ]

leading_takes : (font : FaceParts) (l : ℕ) (second third : Option ℕ) → Takes (leading_action font l second (trailing_of third)) second third
leading_takes font l None third = tt
leading_takes font l (Some v) third = by_vowel (is_vowel v) refl
  where
    many : (o : Option ℕ) → is_vowel v ≡ true → TakesMany (if is_some (trailing_of o) then 3 else 2) (Some v) o
    many None e = inl (refl, inside_vowel v e)
    many (Some w) e = by_trailing (is_trailing w) refl
      where
        by_trailing : (t : Bool) → is_trailing w ≡ t → TakesMany (if is_some (if t then Some w else None) then 3 else 2) (Some v) (Some w)
        by_trailing true f = inr (refl, (inside_vowel v e, inside_trailing w f))
        by_trailing false f = inl (refl, inside_vowel v e)

    by_vowel : (t : Bool) → is_vowel v ≡ t → Takes (if t then letters_action font (whole_of l v (trailing_of third)) (if is_some (trailing_of third) then 3 else 2) else Keep false) (Some v) third
    by_vowel true e = letters_take font (whole_of l v (trailing_of third)) (if is_some (trailing_of third) then 3 else 2) (Some v) third (many third e)
    by_vowel false e = tt

split_takes : (font : FaceParts) (u : ℕ) (joins : Bool) (o : Option Letters) (second third : Option ℕ) → (joins ≡ true → IsInside second) → Takes (split_action_of font u joins o) second third
split_takes font u joins None second third h = tt
split_takes font u joins (Some letters) second third h = elim (has_letters font letters) as (λ t. Takes (if t then Split letters joins else Keep (has_character font u)) second third) [ true ↦ h | false ↦ tt ]

alone_takes : (font : FaceParts) (u : ℕ) (second third : Option ℕ) → Takes (split_action font u false) second third
alone_takes font u second third = split_takes font u false (letters_of u) second third (λ e. absurd (let bad : false ≡ true = e in cc))

open_takes : (font : FaceParts) (u : ℕ) (o : Option Letters) (second third : Option ℕ) → IsInside second → Takes (open_by font u o) second third
open_takes font u None second third h = tt
open_takes font u (Some (Two l v)) second third h = split_takes font u true (letters_of u) second third (λ e. h)
open_takes font u (Some (Three l v t)) second third h = tt

trailing_takes : (font : FaceParts) (u : ℕ) (second third : Option ℕ) → IsInside second → Takes (before_trailing font u) second third
trailing_takes font u second third h =
    elim (has_character font u) as (λ t. Takes (if t then open_by font u (letters_of u) else split_action font u false) second third) [ true ↦ open_takes font u (letters_of u) second third h | false ↦ alone_takes font u second third ]

joining_takes : (font : FaceParts) (u : ℕ) (o : Option ℕ) (second third : Option ℕ) → IsInside second → Takes (joining_action font u o) second third
joining_takes font u None second third h = trailing_takes font u second third h
joining_takes font u (Some whole) second third h = elim (has_character font whole) as (λ t. Takes (if t then Compose 2 whole else before_trailing font u) second third) [ true ↦ inl (refl, h) | false ↦ trailing_takes font u second third h ]

no_trailing_takes : (font : FaceParts) (u : ℕ) (second third : Option ℕ) → Takes (syllable_action font u None) second third
no_trailing_takes font u second third = elim (has_character font u) as (λ t. Takes (if t then Keep true else split_action font u false) second third) [ true ↦ tt | false ↦ alone_takes font u second third ]

syllable_takes : (font : FaceParts) (u : ℕ) (second third : Option ℕ) → Takes (syllable_action font u (trailing_of second)) second third
syllable_takes font u None third = no_trailing_takes font u None third
syllable_takes font u (Some t) third = by_trailing (is_trailing t) refl
  where
    by_trailing : (b : Bool) → is_trailing t ≡ b → Takes (syllable_action font u (if b then Some t else None)) (Some t) third
    by_trailing true e = joining_takes font u (hangul_pair u t) (Some t) third (inside_trailing t e)
    by_trailing false e = no_trailing_takes font u (Some t) third

action_takes : (font : FaceParts) (u : ℕ) (second third : Option ℕ) → Takes (action_on font u second third) second third
action_takes font u second third = by_tests (is_leading u) (is_syllable u)
  where
    by_tests : (s t : Bool) → Takes (if s then leading_action font u second (trailing_of third) else if t then syllable_action font u (trailing_of second) else Keep false) second third
    by_tests true t = leading_takes font u second third
    by_tests false true = syllable_takes font u second third
    by_tests false false = tt

-- ---- the merges before, of one syllable and of the rest

second_at : (xs : List Item) → character_at 1 xs ≡ character_at 0 (drop 1 xs)
second_at [] = refl
second_at (x ∷ xs) = refl

pass_two : (font : FaceParts) (at : ℕ) (x : Item) (xs : List Item) → IsInside (character_at 1 (x ∷ xs)) → merges_alone (jamo_rule font) (at + 1) xs ≡ merges_alone (jamo_rule font) (at + 2) (drop 2 (x ∷ xs))
pass_two font at x xs h =
    let there : at + 1 + 1 ≡ at + 2 = omega arith in
    inside_skipped font (at + 1) xs h ∙ ap (λ k. merges_alone (jamo_rule font) k (drop 1 xs)) there

pass_three : (font : FaceParts) (at : ℕ) (x : Item) (xs : List Item) → IsInside (character_at 1 (x ∷ xs)) → IsInside (character_at 2 (x ∷ xs)) → merges_alone (jamo_rule font) (at + 1) xs ≡ merges_alone (jamo_rule font) (at + 3) (drop 3 (x ∷ xs))
pass_three font at x xs h k =
    let there : at + 2 + 1 ≡ at + 3 = omega arith in
    pass_two font at x xs h ∙ inside_skipped font (at + 2) (drop 1 xs) (subst IsInside (second_at xs) k)
    ∙ ap (λ ys. merges_alone (jamo_rule font) (at + 2 + 1) ys) (drop-drop 1 1 xs) ∙ ap (λ j. merges_alone (jamo_rule font) j (drop 2 xs)) there

pass_many : (font : FaceParts) (at n : ℕ) (x : Item) (xs : List Item) → TakesMany n (character_at 1 (x ∷ xs)) (character_at 2 (x ∷ xs)) → merges_alone (jamo_rule font) (at + 1) xs ≡ merges_alone (jamo_rule font) (at + n) (drop n (x ∷ xs))
pass_many font at n x xs (inl (two, h)) = subst (λ (m : ℕ). merges_alone (jamo_rule font) (at + 1) xs ≡ merges_alone (jamo_rule font) (at + m) (drop m (x ∷ xs))) (sym two) (pass_two font at x xs h)
pass_many font at n x xs (inr (three, (h, k))) = subst (λ (m : ℕ). merges_alone (jamo_rule font) (at + 1) xs ≡ merges_alone (jamo_rule font) (at + m) (drop m (x ∷ xs))) (sym three) (pass_three font at x xs h k)

some_taken : (n : ℕ) (second third : Option ℕ) → TakesMany n second third → 0 < n
some_taken n second third (inl (two, h)) = omega (arith, two)
some_taken n second third (inr (three, h)) = omega (arith, three)

taken_there : (n : ℕ) (xs : List Item) → TakesMany n (character_at 1 xs) (character_at 2 xs) → n ≤ length xs
taken_there n xs (inl (two, h)) = let lt = inside_within 1 xs h in omega (arith, two, lt)
taken_there n xs (inr (three, (h, k))) = let lt = inside_within 2 xs k in omega (arith, three, lt)

-- ---- merges that pass a step

-- merges of ranges from an index on pass what a step does
abbrev StepPasses : (List Origin → List Origin → Type 0) → (ℕ → List Origin → Type 0) → BufferClusterLevel → (List Origin → List Origin) → ℕ → ℕ → ℕ → ℕ → Type 0
StepPasses R Inv level move at need before after = (i c : ℕ) (os : List Origin) → Inv at os → need ≤ length os
    → R (move (origins_merged_as (grapheme_manner level) (before + i) (before + i + c) os)) (origins_merged_as (grapheme_manner level) (after + i) (after + i + c) (move os))

exactly_passes : (level : BufferClusterLevel) (R : List Origin → List Origin → Type 0) (Inv : ℕ → List Origin → Type 0) → IsWalk level R Inv → (move : List Origin → List Origin) (at need before after : ℕ)
    → Passes (grapheme_manner level) move need before after → StepPasses R Inv level move at need before after
exactly_passes level R Inv w move at need before after p i c os inv fits =
    let old = move (origins_merged_as (grapheme_manner level) (before + i) (before + i + c) os) in
    subst (R old) (p i c os fits) (w.same old)

merges_pass : (level : BufferClusterLevel) (R : List Origin → List Origin → Type 0) (Inv : ℕ → List Origin → Type 0) → IsWalk level R Inv → (font : FaceParts) (move : List Origin → List Origin) (at need before after d j k : ℕ) (xs : List Item) (os : List Origin)
    → StepPasses R Inv level move at need before after → at ≤ before → j ≡ before + d → k ≡ after + d → Inv at os → need ≤ length os
    → R (move (origins_after unasked level (merges_alone (jamo_rule font) j xs) os)) (origins_after unasked level (merges_alone (jamo_rule font) k xs) (move os))
merges_pass level R Inv w font move at need before after d j k [] os pass le e f inv fits = w.same (move os)
merges_pass level R Inv w font move at need before after d j k (x ∷ xs) os pass le e f inv fits =
    by_test (jamo_rule font (x ∷ xs)) (jamo_rule font (x ∷ xs) == 0) (merges_pass level R Inv w font move at need before after (d + 1) (j + 1) (k + 1) xs)
  where
    m : Manner
    m = grapheme_manner level

    by_test : (n : ℕ) (t : Bool)
        → ((qs : List Origin) → StepPasses R Inv level move at need before after → at ≤ before → j + 1 ≡ before + (d + 1) → k + 1 ≡ after + (d + 1) → Inv at qs → need ≤ length qs
        → R (move (origins_after unasked level (merges_alone (jamo_rule font) (j + 1) xs) qs)) (origins_after unasked level (merges_alone (jamo_rule font) (k + 1) xs) (move qs)))
        → R (move (origins_after unasked level ((if t then [] else MergeGrapheme j (j + n) ∷ []) ++ merges_alone (jamo_rule font) (j + 1) xs) os))
        (origins_after unasked level ((if t then [] else MergeGrapheme k (k + n) ∷ []) ++ merges_alone (jamo_rule font) (k + 1) xs) (move os))
    by_test n true next = next os pass le (omega (arith, e)) (omega (arith, f)) inv fits
    by_test n false next =
        let merged = origins_merged_as m j (j + n) os in
        let many = merged_many m j (j + n) os in
        let rest = merges_alone (jamo_rule font) (k + 1) xs in
        let here : R (move merged) (origins_merged_as m k (k + n) (move os)) =
        subst (λ (i : ℕ). R (move (origins_merged_as m i (i + n) os)) (origins_merged_as m k (k + n) (move os))) (sym e)
        (subst (λ (i : ℕ). R (move (origins_merged_as m (before + d) (before + d + n) os)) (origins_merged_as m i (i + n) (move os))) (sym f) (pass d n os inv fits)) in
        w.chain (move (origins_after unasked level (merges_alone (jamo_rule font) (j + 1) xs) merged)) (origins_after unasked level rest (move merged)) (origins_after unasked level rest (origins_merged_as m k (k + n) (move os)))
        (next merged pass le (omega (arith, e)) (omega (arith, f)) (w.merged at j (j + n) os (omega (arith, e, le)) (omega arith) inv) (omega (arith, fits, many)))
        (w.after rest (move merged) (origins_merged_as m k (k + n) (move os)) (merges_alone_written (jamo_rule font) (k + 1) xs) here)

-- ---- one step

-- what is known of one step: with the merges before or with its own after it the origins are the same
record IsStepped (level : BufferClusterLevel) (R : List Origin → List Origin → Type 0) (Inv : ℕ → List Origin → Type 0) (font : FaceParts) (s : Step) (merge : List Event) (at : ℕ) (all : List Item) (os : List Origin) : Type 0 where
  passed : R (origins_after unasked level (s.events level) (origins_after unasked level (merges_alone (jamo_rule font) at all) os))
      (origins_after unasked level (merges_alone (jamo_rule font) (length s.out) (drop (s.more + 1) all)) (origins_after unasked level merge (origins_after unasked level (s.events level) os)))
  kept : Inv (length s.out) (origins_after unasked level merge (origins_after unasked level (s.events level) os))
  many : length (origins_after unasked level merge (origins_after unasked level (s.events level) os)) ≡ length s.out + length (drop (s.more + 1) all)

-- a step by its parts: the merges before it, those of what follows, and what becomes of both
record AreParts (level : BufferClusterLevel) (R : List Origin → List Origin → Type 0) (Inv : ℕ → List Origin → Type 0) (font : FaceParts) (s : Step) (first merge : List Event) (at before after need : ℕ) (all rest : List Item) (os : List Origin) : Type 0 where
  left : rest ≡ drop (s.more + 1) all
  merges : merges_alone (jamo_rule font) at all ≡ first ++ merges_alone (jamo_rule font) before rest
  size : length s.out ≡ after
  later : at ≤ before
  passes : StepPasses R Inv level (λ qs. origins_after unasked level (s.events level) qs) at need before after
  swaps : origins_after unasked level (s.events level) (origins_after unasked level first os) ≡ origins_after unasked level merge (origins_after unasked level (s.events level) os)
  fits : need ≤ length (origins_after unasked level first os)
  begun : Inv at (origins_after unasked level first os)
  kept : Inv after (origins_after unasked level (s.events level) (origins_after unasked level first os))
  many : length (origins_after unasked level (s.events level) (origins_after unasked level first os)) ≡ after + length rest

stepped : (level : BufferClusterLevel) (R : List Origin → List Origin → Type 0) (Inv : ℕ → List Origin → Type 0) → IsWalk level R Inv → (font : FaceParts) (s : Step) (first merge : List Event) (at before after need : ℕ) (all rest : List Item) (os : List Origin)
    → AreParts level R Inv font s first merge at before after need all rest os → IsStepped level R Inv font s merge at all os
stepped level R Inv w font s first merge at before after need all rest os p =
    let ev : List Origin → List Origin = λ qs. origins_after unasked level (s.events level) qs in
    let start = origins_after unasked level first os in
    let done = origins_after unasked level merge (ev os) in
    let old : ev (origins_after unasked level (merges_alone (jamo_rule font) at all) os) ≡ ev (origins_after unasked level (merges_alone (jamo_rule font) before rest) start) =
    ap (λ es. ev (origins_after unasked level es os)) p.merges ∙ ap ev (origins_after_both unasked level first (merges_alone (jamo_rule font) before rest) os) in
    let none : before ≡ before + 0 = omega arith in
    let last : after ≡ after + 0 = omega arith in
    let new : origins_after unasked level (merges_alone (jamo_rule font) after rest) (ev start) ≡ origins_after unasked level (merges_alone (jamo_rule font) (length s.out) (drop (s.more + 1) all)) done =
    ap (λ qs. origins_after unasked level (merges_alone (jamo_rule font) after rest) qs) p.swaps ∙ ap (λ k. origins_after unasked level (merges_alone (jamo_rule font) k rest) done) (sym p.size) ∙ ap (λ ys. origins_after unasked level (merges_alone (jamo_rule font) (length s.out) ys) done) p.left in
    let passed = merges_pass level R Inv w font ev at need before after 0 before after rest start p.passes p.later none last p.begun p.fits in
    record {
      passed = subst (λ (qs : List Origin). R qs (origins_after unasked level (merges_alone (jamo_rule font) (length s.out) (drop (s.more + 1) all)) done)) (sym old)
          (subst (R (ev (origins_after unasked level (merges_alone (jamo_rule font) before rest) start))) new passed);
      kept = subst (λ (k : ℕ). Inv k done) (sym p.size) (subst (Inv after) p.swaps p.kept);
      many = ap length (sym p.swaps) ∙ p.many ∙ ap (λ k. k + length rest) (sym p.size) ∙ ap (λ ys. length s.out + length ys) p.left;
    }

-- ---- the steps

replaced_count : (level : BufferClusterLevel) (at n k : ℕ) (os : List Origin) → 0 < n → 0 < k → at + n ≤ length os → length (origins_after unasked level (Replace at n k ∷ []) os) ≡ at + k + (length os - (at + n))
replaced_count level at n k os some gives fits =
    counts_follow unasked level (Replace at n k ∷ []) os ∙ (replacement_kept at n k (length os) (at + k + (length os - (at + n))) gives (omega (arith, some, fits)) (omega (arith, fits)) refl).counted

-- one item is replaced in its cluster
alone_replaced : (level : BufferClusterLevel) (at k : ℕ) (os : List Origin) → origins_after unasked level (Replace at 1 k ∷ []) os ≡ elements_replaced at 1 k os
alone_replaced level at k os = ap (elements_replaced at 1 k) (merged_alone (manner InList level) at os)

replacing_passes : (level : BufferClusterLevel) (at k : ℕ) → Passes (grapheme_manner level) (λ qs. origins_after unasked level (Replace at 1 k ∷ []) qs) (at + 1) (at + 1) (at + k)
replacing_passes level at k i c os fits =
    let m = grapheme_manner level in
    alone_replaced level at k (origins_merged_as m (at + 1 + i) (at + 1 + i + c) os)
    ∙ carried_passes m (elements_replaced at 1 k) (at + 1) (at + 1) (at + k) (graphemes_flagless level) (replacing_carries at 1 k (at + 1) (omega arith) (omega arith)) i c os fits
    ∙ ap (origins_merged_as m (at + k + i) (at + k + i + c)) (sym (alone_replaced level at k os))

-- copies of a number are that number
have_copies : (k c : ℕ) (ns : List ℕ) → 0 < k → HaveSame (c ∷ ns) (replicate k c ++ ns)
have_copies zero c ns some = absurd (omega (arith, some))
have_copies (suc zero) c ns some = λ n. refl
have_copies (suc (suc k)) c ns some = λ n. have_twice c ns n ∙ ap (λ b. (c == n) || b) (have_copies (suc k) c ns (omega arith) n)

-- the numbers of an item and of those after it, and of its copies and those after them, are the same
copied_ranges : (at k j : ℕ) (os : List Origin) → 0 < k → at + 1 ≤ length os → HaveSame (range_of at (at + suc j) (numbers os)) (range_of at (at + (k + j)) (numbers (elements_replaced at 1 k os)))
copied_ranges at k j os some fits =
    let ns = numbers os in
    let long : length ns ≡ length os = length-map os (λ (o : Origin). o.cluster) in
    let b = begins_at at ns (omega (arith, fits, long)) in
    let c = b.first in
    let front = take at ns in
    let size : length front ≡ at = length-take-le at ns (omega (arith, fits, long)) in
    let zs = drop at front in
    let copies = replicate k c in
    let many : length copies ≡ k = length-replicate k c in
    let old : range_of at (at + suc j) ns ≡ zs ++ (c ∷ take j b.rest) = ap (range_of at (at + suc j)) (sym (whole_numbers at ns c b.rest b.is)) ∙ range_over at at (suc j) front (c ∷ b.rest) size (omega arith) in
    let new : range_of at (at + (k + j)) (numbers (elements_replaced at 1 k os)) ≡ zs ++ (copies ++ take j b.rest) =
    ap (range_of at (at + (k + j))) (replaced_numbers at k os c b.rest b.is) ∙ range_over at at (k + j) front (copies ++ b.rest) size (omega arith)
    ∙ ap (λ ms. zs ++ ms) (take_both k j (copies ++ b.rest) ∙ ap (λ ms. ms ++ take j (drop k (copies ++ b.rest))) (take_at copies b.rest k many) ∙ ap (λ ms. copies ++ take j ms) (drop_at copies b.rest k many)) in
    same_as (range_of at (at + suc j) ns) (range_of at (at + (k + j)) (numbers (elements_replaced at 1 k os))) (zs ++ (c ∷ take j b.rest)) (zs ++ (copies ++ take j b.rest)) old new
    (have_after zs (c ∷ take j b.rest) (copies ++ take j b.rest) (have_copies k c (take j b.rest) some))

-- a merge from an item on is one from its copies on
merge_copied : (m : Manner) (at k j : ℕ) (os : List Origin) → IsFlagless m → 0 < k → at + 1 ≤ length os
    → elements_replaced at 1 k (origins_merged_as m at (at + suc j) os) ≡ origins_merged_as m at (at + (k + j)) (elements_replaced at 1 k os)
merge_copied Unites at k j os p some fits =
    let range = range_of at (at + suc j) (numbers os) in
    (replacing_carries at 1 k (at + 1) (omega arith) (omega arith)).natural (λ (o : Origin). cast (merged_number range o.cluster) 0 o) os fits
    ∙ unions_alike range (range_of at (at + (k + j)) (numbers (elements_replaced at 1 k os))) (elements_replaced at 1 k os) (copied_ranges at k j os some fits)
merge_copied Marks at k j os p some fits = absurd p
merge_copied Keeps at k j os p some fits = refl

first_is : (font : FaceParts) (at n : ℕ) (x : Item) (xs : List Item) → jamo_rule font (x ∷ xs) ≡ n → merges_alone (jamo_rule font) at (x ∷ xs) ≡ merge_alone at n ++ merges_alone (jamo_rule font) (at + 1) xs
first_is font at n x xs e = ap (λ k. merge_alone at k ++ merges_alone (jamo_rule font) (at + 1) xs) e

some_merged : (at n : ℕ) → 0 < n → merge_alone at n ≡ MergeGrapheme at (at + n) ∷ []
some_merged at n some = let other : (n == 0) ≡ false = grind (arith, nat_tests, common_steps, some) in ap (λ t. if t then [] else MergeGrapheme at (at + n) ∷ []) other

-- a character that stays as it is
keep_stepped : (level : BufferClusterLevel) (R : List Origin → List Origin → Type 0) (Inv : ℕ → List Origin → Type 0) → IsWalk level R Inv → (font : FaceParts) (whole : Bool) (out : List Item) (x : Item) (xs : List Item) (os : List Origin)
    → jamo_rule font (x ∷ xs) ≡ 0 → length os ≡ length out + suc (length xs) → Inv (length out) os → IsStepped level R Inv font (keep_step whole out (x ∷ xs)) [] (length out) (x ∷ xs) os
keep_stepped level R Inv w font whole out x xs os rule long inv =
    let at = length out in
    stepped level R Inv w font (keep_step whole out (x ∷ xs)) [] [] at (at + 1) (at + 1) 0 (x ∷ xs) xs os (record {
      left = refl;
      merges = first_is font at 0 x xs rule;
      size = length-append out (x ∷ []);
      later = omega arith;
      passes = λ i c qs k fits. w.same (origins_merged_as (grapheme_manner level) (at + 1 + i) (at + 1 + i + c) qs);
      swaps = refl;
      fits = omega arith;
      begun = inv;
      kept = w.later at 1 os inv;
      many = omega (arith, long);
    })

-- jamo that stay apart
apart_stepped : (level : BufferClusterLevel) (R : List Origin → List Origin → Type 0) (Inv : ℕ → List Origin → Type 0) → IsWalk level R Inv → (font : FaceParts) (n : ℕ) (out : List Item) (x : Item) (xs : List Item) (os : List Origin)
    → jamo_rule font (x ∷ xs) ≡ n → TakesMany n (character_at 1 (x ∷ xs)) (character_at 2 (x ∷ xs)) → length os ≡ length out + suc (length xs) → Inv (length out) os
    → IsStepped level R Inv font (apart_step n out (x ∷ xs)) (MergeGrapheme (length out) (length out + n) ∷ []) (length out) (x ∷ xs) os
apart_stepped level R Inv w font n out x xs os rule takes long inv =
    let at = length out in
    let all = x ∷ xs in
    let m = grapheme_manner level in
    let some = some_taken n (character_at 1 all) (character_at 2 all) takes in
    let there : n ≤ suc (length xs) = taken_there n all takes in
    let taken : n ≡ n - 1 + 1 = omega (arith, some) in
    let merged = origins_merged_as m at (at + n) os in
    let begun = w.merged at at (at + n) os (omega arith) (omega arith) inv in
    stepped level R Inv w font (apart_step n out all) (MergeGrapheme at (at + n) ∷ []) (MergeGrapheme at (at + n) ∷ []) at (at + n) (at + n) 0 all (drop n all) os (record {
      left = ap (λ k. drop k all) taken;
      merges = first_is font at n x xs rule ∙ ap (λ es. es ++ merges_alone (jamo_rule font) (at + 1) xs) (some_merged at n some) ∙ ap (λ es. MergeGrapheme at (at + n) ∷ es) (pass_many font at n x xs takes);
      size = length-append out (letters_from 1 (take n all)) ∙ ap (λ k. at + k) (letters_long 1 (take n all) ∙ length-take-le n all there);
      later = omega arith;
      passes = λ i c qs k fits. w.same (origins_merged_as m (at + n + i) (at + n + i + c) qs);
      swaps = refl;
      fits = omega arith;
      begun = begun;
      kept = w.later at n merged begun;
      many = merged_many m at (at + n) os ∙ (let rest = length-drop n all in let size : length all ≡ suc (length xs) = refl in omega (arith, long, rest, size, there));
    })

-- a syllable that is composed
compose_stepped : (level : BufferClusterLevel) (R : List Origin → List Origin → Type 0) (Inv : ℕ → List Origin → Type 0) → IsWalk level R Inv → (font : FaceParts) (n u : ℕ) (out : List Item) (x : Item) (xs : List Item) (os : List Origin)
    → jamo_rule font (x ∷ xs) ≡ 0 → TakesMany n (character_at 1 (x ∷ xs)) (character_at 2 (x ∷ xs)) → length os ≡ length out + suc (length xs) → Inv (length out) os
    → IsStepped level R Inv font (compose_step n u out (x ∷ xs)) [] (length out) (x ∷ xs) os
compose_stepped level R Inv w font n u out x xs os rule takes long inv =
    let at = length out in
    let all = x ∷ xs in
    let some = some_taken n (character_at 1 all) (character_at 2 all) takes in
    let there : n ≤ suc (length xs) = taken_there n all takes in
    let fits : at + n ≤ length os = omega (arith, long, there) in
    let taken : n ≡ n - 1 + 1 = omega (arith, some) in
    stepped level R Inv w font (compose_step n u out all) [] [] at (at + n) (at + 1) (at + n) all (drop n all) os (record {
      left = ap (λ k. drop k all) taken;
      merges = first_is font at 0 x xs rule ∙ pass_many font at n x xs takes;
      size = length-append out (item_numbered x u ∷ []);
      later = omega arith;
      passes = λ i c qs k enough. w.composed at n i c qs some enough k;
      swaps = refl;
      fits = fits;
      begun = inv;
      kept = w.replaced at n 1 os some fits (w.later at n os inv);
      many = replaced_count level at n 1 os some (omega arith) fits ∙ (let rest = length-drop n all in let size : length all ≡ suc (length xs) = refl in omega (arith, long, rest, size, there));
    })

-- a syllable that is decomposed by itself
alone_stepped : (level : BufferClusterLevel) (R : List Origin → List Origin → Type 0) (Inv : ℕ → List Origin → Type 0) → IsWalk level R Inv → (font : FaceParts) (letters : Letters) (out : List Item) (x : Item) (xs : List Item) (os : List Origin)
    → jamo_rule font (x ∷ xs) ≡ 0 → length os ≡ length out + suc (length xs) → Inv (length out) os
    → IsStepped level R Inv font (split_step letters 0 out (x ∷ xs)) (MergeGrapheme (length out) (length out + (length (numbers_of letters) + 0)) ∷ []) (length out) (x ∷ xs) os
alone_stepped level R Inv w font letters out x xs os rule long inv =
    let at = length out in
    let k = length (numbers_of letters) in
    let m = grapheme_manner level in
    let some = letters_some letters in
    let fits : at + 1 ≤ length os = omega (arith, long) in
    let new = letters_of_first letters (x ∷ xs) ++ [] in
    let put = origins_after unasked level (Replace at 1 k ∷ []) os in
    let same : put ≡ elements_replaced at 1 k os = alone_replaced level at k os in
    stepped level R Inv w font (split_step letters 0 out (x ∷ xs)) [] (MergeGrapheme at (at + (k + 0)) ∷ []) at (at + 1) (at + k) (at + 1) (x ∷ xs) xs os (record {
      left = refl;
      merges = first_is font at 0 x xs rule;
      size = length-append out (letters_from 1 new)
          ∙ ap (λ n. at + n) (letters_long 1 new ∙ ap length (append-nil (letters_of_first letters (x ∷ xs))) ∙ length-map (numbers_of letters) (item_numbered x));
      later = omega arith;
      passes = exactly_passes level R Inv w (λ qs. origins_after unasked level (Replace at 1 k ∷ []) qs) at (at + 1) (at + 1) (at + k) (replacing_passes level at k);
      swaps = same ∙ ap (elements_replaced at 1 k) (sym (merged_alone m at os)) ∙ merge_copied m at k 0 os (graphemes_flagless level) some fits ∙ ap (origins_merged_as m at (at + (k + 0))) (sym same);
      fits = fits;
      begun = inv;
      kept = w.replaced at 1 k os (omega arith) fits (w.later at 1 os inv);
      many = replaced_count level at 1 k os (omega arith) some fits ∙ omega (arith, long);
    })

-- a syllable that is decomposed for the trailing consonant after it
joined_stepped : (level : BufferClusterLevel) (R : List Origin → List Origin → Type 0) (Inv : ℕ → List Origin → Type 0) → IsWalk level R Inv → (font : FaceParts) (letters : Letters) (out : List Item) (x : Item) (xs : List Item) (os : List Origin)
    → jamo_rule font (x ∷ xs) ≡ 2 → IsInside (character_at 1 (x ∷ xs)) → length os ≡ length out + suc (length xs) → Inv (length out) os
    → IsStepped level R Inv font (split_step letters 1 out (x ∷ xs)) (MergeGrapheme (length out) (length out + (length (numbers_of letters) + 1)) ∷ []) (length out) (x ∷ xs) os
joined_stepped level R Inv w font letters out x xs os rule inside long inv =
    let at = length out in
    let k = length (numbers_of letters) in
    let all = x ∷ xs in
    let m = grapheme_manner level in
    let some = letters_some letters in
    let more : 1 < suc (length xs) = inside_within 1 all inside in
    let merged = origins_merged_as m at (at + 2) os in
    let size = merged_many m at (at + 2) os in
    let fits : at + 1 ≤ length os = omega (arith, long) in
    let enough : at + 1 ≤ length merged = omega (arith, long, size) in
    let new = letters_of_first letters all ++ take 1 xs in
    let begun = w.merged at at (at + 2) os (omega arith) (omega arith) inv in
    let next : at + 2 ≡ at + 1 + 1 = omega arith in
    stepped level R Inv w font (split_step letters 1 out all) (MergeGrapheme at (at + 2) ∷ []) (MergeGrapheme at (at + (k + 1)) ∷ []) at (at + 1 + 1) (at + k + 1) (at + 1) all (drop 2 all) os (record {
      left = refl;
      merges = first_is font at 2 x xs rule ∙ ap (λ es. MergeGrapheme at (at + 2) ∷ es) (pass_two font at x xs inside ∙ ap (λ j. merges_alone (jamo_rule font) j (drop 2 all)) next);
      size = length-append out (letters_from 1 new)
          ∙ ap (λ n. at + n) (letters_long 1 new ∙ length-append (letters_of_first letters all) (take 1 xs) ∙ ap (λ n. n + length (take 1 xs)) (length-map (numbers_of letters) (item_numbered x)) ∙ ap (λ n. k + n) (length-take-le 1 xs (omega (arith, more))))
          ∙ omega arith;
      later = omega arith;
      passes = exactly_passes level R Inv w (λ qs. origins_after unasked level (Replace at 1 k ∷ []) qs) at (at + 1) (at + 1 + 1) (at + k + 1)
          (later_passes m (λ qs. origins_after unasked level (Replace at 1 k ∷ []) qs) (at + 1) (at + 1) (at + k) 1 (replacing_passes level at k));
      swaps = alone_replaced level at k merged ∙ merge_copied m at k 1 os (graphemes_flagless level) some fits ∙ ap (origins_merged_as m at (at + (k + 1))) (sym (alone_replaced level at k os));
      fits = enough;
      begun = begun;
      kept = w.later (at + k) 1 (origins_after unasked level (Replace at 1 k ∷ []) merged) (w.replaced at 1 k merged (omega arith) enough (w.later at 1 merged begun));
      many = replaced_count level at 1 k merged (omega arith) some enough ∙ (let rest = length-drop 1 xs in omega (arith, long, size, rest, more));
    })

-- a tone mark that gets a circle
circle_stepped : (level : BufferClusterLevel) (R : List Origin → List Origin → Type 0) (Inv : ℕ → List Origin → Type 0) → IsWalk level R Inv → (font : FaceParts) (thin : Bool) (out : List Item) (x : Item) (xs : List Item) (os : List Origin)
    → jamo_rule font (x ∷ xs) ≡ 0 → length os ≡ length out + suc (length xs) → Inv (length out) os → IsStepped level R Inv font (with_circle thin out (x ∷ xs)) [] (length out) (x ∷ xs) os
circle_stepped level R Inv w font thin out x xs os rule long inv =
    let at = length out in
    let fits : at + 1 ≤ length os = omega (arith, long) in
    stepped level R Inv w font (with_circle thin out (x ∷ xs)) [] [] at (at + 1) (at + 2) (at + 1) (x ∷ xs) xs os (record {
      left = refl;
      merges = first_is font at 0 x xs rule;
      size = length-append out (circle_beside thin (x ∷ xs)) ∙ ap (λ n. at + n) (two thin);
      later = omega arith;
      passes = exactly_passes level R Inv w (λ qs. origins_after unasked level (Replace at 1 2 ∷ []) qs) at (at + 1) (at + 1) (at + 2) (replacing_passes level at 2);
      swaps = refl;
      fits = fits;
      begun = inv;
      kept = w.replaced at 1 2 os (omega arith) fits (w.later at 1 os inv);
      many = replaced_count level at 1 2 os (omega arith) (omega arith) fits ∙ omega (arith, long);
    })
  where
    two : (t : Bool) → length (circle_beside t (x ∷ xs)) ≡ 2
    two true = refl
    two false = refl

-- a tone mark that is moved before its syllable
moved_stepped : (level : BufferClusterLevel) (R : List Origin → List Origin → Type 0) (Inv : ℕ → List Origin → Type 0) → IsWalk level R Inv → (font : FaceParts) (start : ℕ) (out : List Item) (x : Item) (xs : List Item) (os : List Origin)
    → start ≤ length out → jamo_rule font (x ∷ xs) ≡ 0 → length os ≡ length out + suc (length xs) → Inv (length out) os → IsStepped level R Inv font (before_syllable start out (x ∷ xs)) [] (length out) (x ∷ xs) os
moved_stepped level R Inv w font start out x xs os before rule long inv =
    let at = length out in
    let order = order_of_move (at - start) 1 in
    let end : start + length order ≡ at + 1 = let many = order_long (at - start) 1 in omega (arith, many, before) in
    let moved = origins_after unasked level (Move InOutput start order ∷ []) os in
    let whole = sym (length-append (take start out) (drop start out)) ∙ ap length (take-append-drop start out) in
    let joined = length-append (take start out) (x ∷ drop start out) in
    stepped level R Inv w font (before_syllable start out (x ∷ xs)) [] [] at (at + 1) (at + 1) (at + 1) (x ∷ xs) xs os (record {
      left = refl;
      merges = first_is font at 0 x xs rule;
      size = omega (arith, joined, whole);
      later = omega arith;
      passes = exactly_passes level R Inv w (λ qs. origins_after unasked level (Move InOutput start order ∷ []) qs) at (at + 1) (at + 1) (at + 1) (moving_passes (grapheme_manner level) level start (at + 1) (at + 1) order (graphemes_flagless level) end (omega (arith, before)));
      swaps = refl;
      fits = omega (arith, long);
      begun = inv;
      kept = subst (λ (k : ℕ). Inv k moved) end (w.moved start order os (omega (arith, before, long)) (subst (λ (k : ℕ). Inv k os) (sym end) (w.later at 1 os inv)));
      many = counts_follow unasked level (Move InOutput start order ∷ []) os ∙ omega (arith, long);
    })

-- ---- each step

action_stepped : (level : BufferClusterLevel) (R : List Origin → List Origin → Type 0) (Inv : ℕ → List Origin → Type 0) → IsWalk level R Inv → (font : FaceParts) (a : Action) (out : List Item) (x : Item) (xs : List Item) (os : List Origin)
    → jamo_rule font (x ∷ xs) ≡ count_apart a → Takes a (character_at 1 (x ∷ xs)) (character_at 2 (x ∷ xs)) → length os ≡ length out + suc (length xs) → Inv (length out) os
    → IsStepped level R Inv font (step_of a out (x ∷ xs)) (syllable_merge a (length out)) (length out) (x ∷ xs) os
action_stepped level R Inv w font (Keep whole) out x xs os rule takes long inv = keep_stepped level R Inv w font whole out x xs os rule long inv
action_stepped level R Inv w font (Apart n) out x xs os rule takes long inv = apart_stepped level R Inv w font n out x xs os rule takes long inv
action_stepped level R Inv w font (Compose n u) out x xs os rule takes long inv = compose_stepped level R Inv w font n u out x xs os rule takes long inv
action_stepped level R Inv w font (Split letters true) out x xs os rule takes long inv = joined_stepped level R Inv w font letters out x xs os rule (takes refl) long inv
action_stepped level R Inv w font (Split letters false) out x xs os rule takes long inv = alone_stepped level R Inv w font letters out x xs os rule long inv

tone_stepped : (level : BufferClusterLevel) (R : List Origin → List Origin → Type 0) (Inv : ℕ → List Origin → Type 0) → IsWalk level R Inv → (font : FaceParts) (circles : Bool) (start u : ℕ) (out : List Item) (x : Item) (xs : List Item) (os : List Origin)
    → jamo_rule font (x ∷ xs) ≡ 0 → length os ≡ length out + suc (length xs) → Inv (length out) os → IsStepped level R Inv font (tone_step font circles start u out (x ∷ xs)) [] (length out) (x ∷ xs) os
tone_stepped level R Inv w font circles start u out x xs os rule long inv = by_tests (nat_lt start (length out)) refl (has_no_width font u) (circles && has_character font DOTTED_CIRCLE)
  where
    by_tests : (s : Bool) → nat_lt start (length out) ≡ s → (t b : Bool)
        → IsStepped level R Inv font
        (if s then (if t then keep_step false out (x ∷ xs) else before_syllable start out (x ∷ xs)) else (if b then with_circle (has_no_width font u) out (x ∷ xs) else keep_step false out (x ∷ xs))) [] (length out) (x ∷ xs) os
    by_tests true e true b = keep_stepped level R Inv w font false out x xs os rule long inv
    by_tests true e false b = moved_stepped level R Inv w font start out x xs os (let lt : start < length out = grind (arith, nat_tests, e) in omega (arith, lt)) rule long inv
    by_tests false e t true = circle_stepped level R Inv w font (has_no_width font u) out x xs os rule long inv
    by_tests false e t false = keep_stepped level R Inv w font false out x xs os rule long inv

step_stepped : (level : BufferClusterLevel) (R : List Origin → List Origin → Type 0) (Inv : ℕ → List Origin → Type 0) → IsWalk level R Inv → (font : FaceParts) (circles : Bool) (n : ℕ) (out : List Item) (x : Item) (xs : List Item) (os : List Origin)
    → length os ≡ length out + suc (length xs) → Inv (length out) os → IsStepped level R Inv font (step font circles n out (x ∷ xs)) (written_merge font (length out) (x ∷ xs)) (length out) (x ∷ xs) os
step_stepped level R Inv w font circles n out x xs os long inv = by_first (character_at 0 (x ∷ xs)) refl
  where
    all : List Item
    all = x ∷ xs

    by_tone : (u : ℕ) (t : Bool) → is_tone u ≡ t → jamo_rule font (x ∷ xs) ≡ rule_by font (Some u) (x ∷ xs)
        → IsStepped level R Inv font (if t then tone_step font circles n u out (x ∷ xs) else step_of (action_on font u (character_at 1 (x ∷ xs)) (character_at 2 (x ∷ xs))) out (x ∷ xs))
        (if t then [] else syllable_merge (action_on font u (character_at 1 (x ∷ xs)) (character_at 2 (x ∷ xs))) (length out)) (length out) (x ∷ xs) os
    by_tone u true e rule = tone_stepped level R Inv w font circles n u out x xs os (rule ∙ inside_rule font (Some u) (x ∷ xs) (inside_tone u e)) long inv
    by_tone u false e rule =
        let second = character_at 1 (x ∷ xs) in
        let third = character_at 2 (x ∷ xs) in
        action_stepped level R Inv w font (action_on font u second third) out x xs os rule (action_takes font u second third) long inv

    by_first : (o : Option ℕ) → character_at 0 (x ∷ xs) ≡ o → IsStepped level R Inv font (step_by font circles n o out (x ∷ xs)) (written_merge_by font o (length out) (x ∷ xs)) (length out) (x ∷ xs) os
    by_first None e = keep_stepped level R Inv w font false out x xs os (ap (λ o. rule_by font o (x ∷ xs)) e) long inv
    by_first (Some u) e = by_tone u (is_tone u) refl (ap (λ o. rule_by font o (x ∷ xs)) e)

-- ---- all steps

step_written : (font : FaceParts) (circles : Bool) (level : BufferClusterLevel) (n : ℕ) (out xs : List Item) → AreWritten ((step font circles n out xs).events level)
step_written font circles level n out xs = by_first (character_at 0 xs)
  where
    by_action : (a : Action) → AreWritten ((step_of a out xs).events level)
    by_action (Keep whole) = tt
    by_action (Apart k) = tt
    by_action (Compose k u) = tt
    by_action (Split letters joins) = tt

    by_tests : (u : ℕ) (s t b : Bool) → AreWritten ((if s then (if t then keep_step false out xs else before_syllable n out xs) else (if b then with_circle (has_no_width font u) out xs else keep_step false out xs)).events level)
    by_tests u true true b = tt
    by_tests u true false b = tt
    by_tests u false t true = tt
    by_tests u false t false = tt

    by_tone : (u : ℕ) (t : Bool) → AreWritten ((if t then tone_step font circles n u out xs else step_of (action_on font u (character_at 1 xs) (character_at 2 xs)) out xs).events level)
    by_tone u true = by_tests u (nat_lt n (length out)) (has_no_width font u) (circles && has_character font DOTTED_CIRCLE)
    by_tone u false = by_action (action_on font u (character_at 1 xs) (character_at 2 xs))

    by_first : (o : Option ℕ) → AreWritten ((step_by font circles n o out xs).events level)
    by_first None = tt
    by_first (Some u) = by_tone u (is_tone u)

events_written : (font : FaceParts) (circles : Bool) (level : BufferClusterLevel) (steps n : ℕ) (out xs : List Item) → AreWritten (events_after font circles level steps n out xs)
events_written font circles level steps n out [] = tt
events_written font circles level zero n out (x ∷ xs) = tt
events_written font circles level (suc steps) n out (x ∷ xs) =
    let s = step font circles n out (x ∷ xs) in
    both_written (s.events level) (events_after font circles level steps s.start s.out (drop (s.more + 1) (x ∷ xs))) (step_written font circles level n out (x ∷ xs)) (events_written font circles level steps s.start s.out (drop (s.more + 1) (x ∷ xs)))

syllables_written : (level : BufferClusterLevel) (R : List Origin → List Origin → Type 0) (Inv : ℕ → List Origin → Type 0) → IsWalk level R Inv → (font : FaceParts) (circles : Bool) (steps n : ℕ) (out xs : List Item) (os : List Origin)
    → length xs ≤ steps → length os ≡ length out + length xs → Inv (length out) os
    → R (origins_after unasked level (merges_alone (jamo_rule font) (length out) xs ++ events_after font circles level steps n out xs) os) (origins_after unasked level (written_steps font circles level steps n out xs) os)
syllables_written level R Inv w font circles steps n out [] os enough long inv = w.same os
syllables_written level R Inv w font circles zero n out (x ∷ xs) os enough long inv = absurd (omega (arith, enough))
syllables_written level R Inv w font circles (suc steps) n out (x ∷ xs) os enough long inv =
    let all = x ∷ xs in
    let s = step font circles n out all in
    let at = length out in
    let rest = drop (s.more + 1) all in
    let ev = s.events level in
    let later = events_after font circles level steps s.start s.out rest in
    let merge = written_merge font at all in
    let pass = merges_alone (jamo_rule font) at all in
    let next = merges_alone (jamo_rule font) (length s.out) rest in
    let written = written_steps font circles level steps s.start s.out rest in
    let st = step_stepped level R Inv w font circles n out x xs os long inv in
    let done = origins_after unasked level merge (origins_after unasked level ev os) in
    let old : origins_after unasked level (pass ++ (ev ++ later)) os ≡ origins_after unasked level later (origins_after unasked level ev (origins_after unasked level pass os)) =
    origins_after_both unasked level pass (ev ++ later) os ∙ origins_after_both unasked level ev later (origins_after unasked level pass os) in
    let new : origins_after unasked level ((ev ++ merge) ++ written) os ≡ origins_after unasked level written done =
    origins_after_both unasked level (ev ++ merge) written os ∙ ap (λ qs. origins_after unasked level written qs) (origins_after_both unasked level ev merge os) in
    let first = w.after later (origins_after unasked level ev (origins_after unasked level pass os)) (origins_after unasked level next done) (events_written font circles level steps s.start s.out rest) st.passed in
    let size : length rest ≡ suc (length xs) - (s.more + 1) = length-drop (s.more + 1) all in
    let others = syllables_written level R Inv w font circles steps s.start s.out rest done (omega (arith, enough, size)) st.many st.kept in
    let joined = subst (λ (qs : List Origin). R qs (origins_after unasked level written done)) (origins_after_both unasked level next later done) others in
    subst (λ (qs : List Origin). R qs (origins_after unasked level ((ev ++ merge) ++ written) os)) (sym old)
    (subst (R (origins_after unasked level later (origins_after unasked level ev (origins_after unasked level pass os)))) (sym new)
    (w.chain (origins_after unasked level later (origins_after unasked level ev (origins_after unasked level pass os))) (origins_after unasked level later (origins_after unasked level next done)) (origins_after unasked level written done) first joined))

-- ---- the hook

written_merge_written : (font : FaceParts) (at : ℕ) (xs : List Item) → AreWritten (written_merge font at xs)
written_merge_written font at xs = by_first (character_at 0 xs)
  where
    by_action : (a : Action) → AreWritten (syllable_merge a at)
    by_action (Keep whole) = tt
    by_action (Apart n) = tt
    by_action (Compose n u) = tt
    by_action (Split letters joins) = tt

    by_tone : (u : ℕ) (t : Bool) → AreWritten (if t then [] else syllable_merge (action_on font u (character_at 1 xs) (character_at 2 xs)) at)
    by_tone u true = tt
    by_tone u false = by_action (action_on font u (character_at 1 xs) (character_at 2 xs))

    by_first : (o : Option ℕ) → AreWritten (written_merge_by font o at xs)
    by_first None = tt
    by_first (Some u) = by_tone u (is_tone u)

steps_written : (font : FaceParts) (circles : Bool) (level : BufferClusterLevel) (steps n : ℕ) (out xs : List Item) → AreWritten (written_steps font circles level steps n out xs)
steps_written font circles level steps n out [] = tt
steps_written font circles level zero n out (x ∷ xs) = tt
steps_written font circles level (suc steps) n out (x ∷ xs) =
    let s = step font circles n out (x ∷ xs) in
    let merge = written_merge font (length out) (x ∷ xs) in
    let rest = drop (s.more + 1) (x ∷ xs) in
    both_written (s.events level ++ merge) (written_steps font circles level steps s.start s.out rest)
    (both_written (s.events level) merge (step_written font circles level n out (x ∷ xs)) (written_merge_written font (length out) (x ∷ xs))) (steps_written font circles level steps s.start s.out rest)

-- with the merges before, and with each after its syllable, the clusters are the same; so are the flags where PRODUCE_SAFE_BREAKS isn't requested, but for clusters in no order at the level Graphemes
abbrev pub AreWrittenAlike : FaceParts → BufferFlags → Asks → BufferClusterLevel → List Item → List Event → List Origin → Type 0
AreWrittenAlike font flags asks level xs es os =
    (numbers (origins_after asks level es os) ≡ numbers (origins_after asks level (written_syllables font flags level xs) os))
    × (asks.breaks ≡ false → (level ≡ Graphemes → IsOrdered (numbers os)) → origins_after asks level es os ≡ origins_after asks level (written_syllables font flags level xs) os)

-- the merges before and the events of the steps
abbrev pub read_events : FaceParts → BufferFlags → BufferClusterLevel → List Item → List Event
read_events font flags level xs = merges_by (jamo_rule font) 0 xs ++ events_after font (wants_circles flags) level (length xs) 0 [] xs

without_requests : (font : FaceParts) (flags : BufferFlags) (level : BufferClusterLevel) (xs : List Item) (os : List Origin) → length os ≡ length xs → AreWrittenAlike font flags unasked level xs (read_events font flags level xs) os
without_requests font flags level xs os long = by_level level
  where
    counted : length os ≡ 0 + length xs
    counted = omega (arith, long)

    breaks_out : (l : BufferClusterLevel)
        → origins_after unasked l (read_events font flags l xs) os ≡ origins_after unasked l (merges_alone (jamo_rule font) 0 xs ++ events_after font (wants_circles flags) l (length xs) 0 [] xs) os
    breaks_out l = merged_unasked l (jamo_rule font) 0 xs (events_after font (wants_circles flags) l (length xs) 0 [] xs) os

    exactly : (l : BufferClusterLevel) → IsEvenLevel l → AreWrittenAlike font flags unasked l xs (read_events font flags l xs) os
    exactly l p =
        let same = breaks_out l ∙ syllables_written l (λ ps qs. ps ≡ qs) Anything (exact_walk l p) font (wants_circles flags) (length xs) 0 [] xs os (omega arith) counted tt in
        (ap numbers same, λ none ordered. same)

    in_order : (falls : Bool) → IsOrderedFrom falls 0 os → origins_after unasked Graphemes (read_events font flags Graphemes xs) os ≡ origins_after unasked Graphemes (written_syllables font flags Graphemes xs) os
    in_order falls o = breaks_out Graphemes ∙ syllables_written Graphemes (λ ps qs. ps ≡ qs) (IsOrderedFrom falls) (ordered_walk falls) font (wants_circles flags) (length xs) 0 [] xs os (omega arith) counted o

    by_level : (l : BufferClusterLevel) → AreWrittenAlike font flags unasked l xs (read_events font flags l xs) os
    by_level MonotoneGraphemes = exactly MonotoneGraphemes tt
    by_level MonotoneCharacters = exactly MonotoneCharacters tt
    by_level Characters = exactly Characters tt
    by_level Graphemes = (
      ap numbers (breaks_out Graphemes) ∙ syllables_written Graphemes (λ ps qs. numbers ps ≡ numbers qs) Anything cluster_walk font (wants_circles flags) (length xs) 0 [] xs os (omega arith) counted tt,
      λ none ordered. elim (ordered refl) [ inl rises ↦ in_order false rises | inr falls ↦ in_order true falls ],
    )

pub whole_text : (font : FaceParts) (flags : BufferFlags) (asks : Asks) (level : BufferClusterLevel) (xs : List Item) (os : List Origin) → length os ≡ length xs → AreWrittenAlike font flags asks level xs (read_events font flags level xs) os
whole_text font flags asks level xs os long =
    let circles = wants_circles flags in
    let steps = events_after font circles level (length xs) 0 [] xs in
    let es = read_events font flags level xs in
    let fs = written_syllables font flags level xs in
    let p = both_written (merges_by (jamo_rule font) 0 xs) steps (merges_written (jamo_rule font) 0 xs) (events_written font circles level (length xs) 0 [] xs) in
    let q = steps_written font circles level (length xs) 0 [] xs in
    let same = without_requests font flags level xs os long in
    (clusters_by_requests asks level es fs os p q same.0, λ none ordered. origins_by_requests asks level es fs os p q none (same.1 refl ordered))

-- The events of syllables of Hangul, and of texts.
use Rattle.std.proofs.Common.{ℕ, zero, suc, ◌≡◌, ◌≤◌, ◌<◌, ◌+◌, ◌-◌, Bool, true, false, if◌then◌else◌, List, [], ◌∷◌, ◌++◌, length, take, drop, Option, None, Some, arith, refl, ap, sym, ◌∙◌}
use Rattle.std.specs.Prelude.{min, nat_le, nat_lt, is_some, ◌&&◌}
use Rattle.std.proofs.lemmas.List.{length-append, length-drop, length-map, length-take, take-append-drop}
use Rattle.std.proofs.lemmas.Grind.{common_steps}
use Rattle.buffer_glyphs.specs.declared.cause.ShapeCause.TheVariants.{TooLong}
use Rattle.buffer_glyphs.specs.declared.level.BufferClusterLevel.{BufferClusterLevel}
use Rattle.buffer_common.specs.declared.constants.BufferFlags.{BufferFlags}
use Rattle.layout_face.specs.declared.parts.FaceParts.{FaceParts}
use Rattle.buffer_glyphs.specs.Items.{Item}
use Rattle.buffer_glyphs.specs.Replacements.{item_numbered}
use Rattle.buffer_glyphs.specs.Levels.{InOutput}
use Rattle.buffer_glyphs.specs.Events.{Move, Replace}
use Rattle.buffer_core.specs.Readings.{always}
use Rattle.buffer_core.specs.Sides.{zero_positions}
use Rattle.buffer_unicode_tables.specs.Tables.{Tables}
use Rattle.buffer_unicode_tables.specs.Hangul.{hangul_pair}
use Rattle.buffer_stages.specs.Moves.{order_of_move}
use Rattle.buffer_stages.specs.Walks.{renumbered_first}
use Rattle.buffer_parts.specs.Plainly.{ArePlainlyKept, AreSteady}
use Rattle.buffer_parts.specs.Lemmas.Plainly.{plainly_in_turn, replacement_kept, steady_kept}
use Rattle.buffer_parts.specs.PlainStages.{KeepsPlainly}
use Rattle.buffer_parts.specs.Lemmas.PlainStages.{always_plainly, even_plainly, limited_plainly, then_plainly}
use Rattle.script_arabic.proofs.Plainly.{kept_between}
use Rattle.script_thai.specs.declared.thai_private.State.{State}
use Rattle.script_thai.specs.declared.thai_private.Consonant.TheVariants.{NotConsonant}
use Rattle.script_thai.specs.ThaiPrivate.{items_shaped, start_state, state_after, with_private}
use Rattle.script_syllabic.specs.Graphemes.{with_graphemes_merged}
use Rattle.script_hangul.specs.declared.jamo.Letters.{Letters}
use Rattle.script_hangul.specs.declared.jamo.Letters.TheVariants.{Two, Three}
use Rattle.script_hangul.specs.declared.actions.Action.{Action}
use Rattle.script_hangul.specs.declared.actions.Action.TheVariants.{Keep, Apart, Compose, Split}
use Rattle.script_hangul.specs.Jamo.{is_leading, is_syllable, is_tone, is_vowel, letters_of, whole_of}
use Rattle.script_hangul.specs.Actions.{action_on, before_trailing, has_character, has_letters, joining_action, leading_action, letters_action, open_by, split_action, split_action_of, syllable_action, trailing_of}
use Rattle.script_hangul.specs.Steps.{DOTTED_CIRCLE, Step, apart_step, before_syllable, circle_beside, compose_step, has_no_width, keep_step, letters_from, numbers_of, letters_of_first, step_of, with_tone_first, split_step, tone_step, with_circle}
use Rattle.script_hangul.specs.Hangul.{character_at, events_after, hangul_text, jamo_rule, step, step_by, syllables_formed, text_after, wants_circles}
use Rattle.script_hangul.proofs.Letters.{letters_long, letters_some}
use Rattle.script_dispatch.specs.Keeping.{TextsKeepPlainly}
use Rattle.script_dispatch.specs.Lemmas.Keeping.Thai.{merged_keeps_plainly, thai_keeps_plainly}

-- ---- private forms of Thai

pub shaped_long : (t : Tables) (font : FaceParts) (s : State) (xs : List Item) → length (items_shaped t font s xs) ≡ length xs
shaped_long t font s [] = refl
shaped_long t font s (x ∷ xs) = ap suc (shaped_long t font (state_after s x.number) xs)

private_keeps_plainly : (t : Tables) (font : FaceParts) → KeepsPlainly (always (with_private t font))
private_keeps_plainly t font = always_plainly (with_private t font) (λ v level. even_plainly [] v (record v { items = items_shaped t font (start_state NotConsonant) v.items }) level tt (shaped_long t font (start_state NotConsonant) v.items))

-- ---- actions take an item at least

abbrev TakesSome : Action → Type 0
TakesSome (Keep whole) = Unit {0}
TakesSome (Apart n) = 0 < n
TakesSome (Compose n u) = 0 < n
TakesSome (Split letters joins) = Unit {0}

letters_take : (font : FaceParts) (o : Option ℕ) (n : ℕ) → 0 < n → TakesSome (letters_action font o n)
letters_take font None n h = h
letters_take font (Some u) n h = elim (has_character font u) as (λ t. TakesSome (if t then Compose n u else Apart n)) [ true ↦ h | false ↦ h ]

some_letters : (t : Bool) → 0 < (if t then 3 else 2)
some_letters true = omega arith
some_letters false = omega arith

leading_takes : (font : FaceParts) (l : ℕ) (v t : Option ℕ) → TakesSome (leading_action font l v t)
leading_takes font l None t = tt
leading_takes font l (Some v) t = elim (is_vowel v) as (λ b. TakesSome (if b then letters_action font (whole_of l v t) (if is_some t then 3 else 2) else Keep false)) [
  | true ↦ letters_take font (whole_of l v t) (if is_some t then 3 else 2) (some_letters (is_some t))
  | false ↦ tt
]

split_takes : (font : FaceParts) (u : ℕ) (joins : Bool) (o : Option Letters) → TakesSome (split_action_of font u joins o)
split_takes font u joins None = tt
split_takes font u joins (Some letters) = elim (has_letters font letters) as (λ t. TakesSome (if t then Split letters joins else Keep (has_character font u))) [ true ↦ tt | false ↦ tt ]

open_takes : (font : FaceParts) (u : ℕ) (o : Option Letters) → TakesSome (open_by font u o)
open_takes font u None = tt
open_takes font u (Some (Two l v)) = split_takes font u true (letters_of u)
open_takes font u (Some (Three l v t)) = tt

trailing_takes : (font : FaceParts) (u : ℕ) → TakesSome (before_trailing font u)
trailing_takes font u = elim (has_character font u) as (λ t. TakesSome (if t then open_by font u (letters_of u) else split_action font u false)) [ true ↦ open_takes font u (letters_of u) | false ↦ split_takes font u false (letters_of u) ]

joining_takes : (font : FaceParts) (u : ℕ) (o : Option ℕ) → TakesSome (joining_action font u o)
joining_takes font u None = trailing_takes font u
joining_takes font u (Some whole) = elim (has_character font whole) as (λ t. TakesSome (if t then Compose 2 whole else before_trailing font u)) [ true ↦ omega arith | false ↦ trailing_takes font u ]

syllable_takes : (font : FaceParts) (u : ℕ) (o : Option ℕ) → TakesSome (syllable_action font u o)
syllable_takes font u None = elim (has_character font u) as (λ t. TakesSome (if t then Keep true else split_action font u false)) [ true ↦ tt | false ↦ split_takes font u false (letters_of u) ]
syllable_takes font u (Some t) = joining_takes font u (hangul_pair u t)

action_takes : (font : FaceParts) (u : ℕ) (second third : Option ℕ) → TakesSome (action_on font u second third)
action_takes font u second third = by_tests (is_leading u) (is_syllable u)
  where
    by_tests : (s t : Bool) → TakesSome (if s then leading_action font u second (trailing_of third) else if t then syllable_action font u (trailing_of second) else Keep false)
    by_tests true t = leading_takes font u second (trailing_of third)
    by_tests false true = syllable_takes font u (trailing_of second)
    by_tests false false = tt

-- ---- steps

-- what a step makes of the first item of n, after `at` items before them
abbrev StepKept : Step → BufferClusterLevel → ℕ → ℕ → Type 0
StepKept s level at n = ArePlainlyKept (s.events level) (at + n) (length s.out + (n - (s.more + 1)))

kept_kept : (whole : Bool) (out : List Item) (x : Item) (xs : List Item) (level : BufferClusterLevel) → StepKept (keep_step whole out (x ∷ xs)) level (length out) (suc (length xs))
kept_kept whole out x xs level =
    let long = length-append out (x ∷ []) in
    let n = length out + suc (length xs) in
    let same : n ≡ length (out ++ x ∷ []) + (suc (length xs) - (0 + 1)) = omega (arith, long) in
    kept_between [] n n n (length (out ++ x ∷ []) + (suc (length xs) - (0 + 1))) refl same (steady_kept [] n tt)

letters_taken : (n m at taken new : ℕ) → 0 < n → taken ≡ min n m → new ≡ at + taken → at + m ≡ new + (m - (n - 1 + 1))
letters_taken n m at taken new some e f = grind (arith, common_steps, some, e, f)

split_taken : (n m at k taken new : ℕ) → taken ≡ min n m → new ≡ at + (k + taken) → at + k + (at + suc m - (at + 1)) ≡ new + (suc m - (n + 1))
split_taken n m at k taken new e f = grind (arith, common_steps, e, f)

apart_kept : (n : ℕ) (out xs : List Item) (level : BufferClusterLevel) → 0 < n → StepKept (apart_step n out xs) level (length out) (length xs)
apart_kept n out xs level some =
    let a = length-append out (letters_from 1 (take n xs)) in
    let b = letters_long 1 (take n xs) in
    let c = length-take n xs in
    let all = length out + length xs in
    let end = length (out ++ letters_from 1 (take n xs)) + (length xs - (n - 1 + 1)) in
    let same : all ≡ end = letters_taken n (length xs) (length out) (length (take n xs)) (length (out ++ letters_from 1 (take n xs))) some c (a ∙ ap (λ k. length out + k) b) in
    kept_between [] all all all end refl same (steady_kept [] all tt)

composed_kept : (n u : ℕ) (out : List Item) (x : Item) (xs : List Item) (level : BufferClusterLevel) → 0 < n → StepKept (compose_step n u out (x ∷ xs)) level (length out) (suc (length xs))
composed_kept n u out x xs level some =
    let a = length-append out (renumbered_first u (x ∷ xs)) in
    let m = length xs in
    let left : length out + 1 + (length out + suc m - (length out + n)) ≡ length (out ++ renumbered_first u (x ∷ xs)) + (suc m - (n - 1 + 1)) = omega (arith, a, some) in
    replacement_kept (length out) n 1 (length out + suc m) (length (out ++ renumbered_first u (x ∷ xs)) + (suc m - (n - 1 + 1))) (omega arith) (omega arith) (omega arith) left

split_kept : (letters : Letters) (n : ℕ) (out : List Item) (x : Item) (xs : List Item) (level : BufferClusterLevel) → StepKept (split_step letters n out (x ∷ xs)) level (length out) (suc (length xs))
split_kept letters n out x xs level =
    let k = length (numbers_of letters) in
    let m = length xs in
    let new = letters_of_first letters (x ∷ xs) ++ take n xs in
    let a = length-append out (letters_from 1 new) in
    let b = letters_long 1 new in
    let c = length-append (letters_of_first letters (x ∷ xs)) (take n xs) in
    let d = length-map (numbers_of letters) (item_numbered x) in
    let e = length-take n xs in
    let end = length (out ++ letters_from 1 new) + (suc m - (n + 1)) in
    let new_long : length (out ++ letters_from 1 new) ≡ length out + (k + length (take n xs)) = omega (arith, a, b, c, d) in
    let left : length out + k + (length out + suc m - (length out + 1)) ≡ end = split_taken n m (length out) k (length (take n xs)) (length (out ++ letters_from 1 new)) e new_long in
    replacement_kept (length out) 1 k (length out + suc m) end (letters_some letters) (omega arith) (omega arith) left

performed_kept : (a : Action) (out : List Item) (x : Item) (xs : List Item) (level : BufferClusterLevel) → TakesSome a → StepKept (step_of a out (x ∷ xs)) level (length out) (suc (length xs))
performed_kept (Keep whole) out x xs level h = kept_kept whole out x xs level
performed_kept (Apart n) out x xs level h = apart_kept n out (x ∷ xs) level h
performed_kept (Compose n u) out x xs level h = composed_kept n u out x xs level h
performed_kept (Split letters joins) out x xs level h = split_kept letters (if joins then 1 else 0) out x xs level

-- ---- tone marks

before_kept : (start : ℕ) (out : List Item) (x : Item) (xs : List Item) (level : BufferClusterLevel) → StepKept (before_syllable start out (x ∷ xs)) level (length out) (suc (length xs))
before_kept start out x xs level =
    let a = length-append (take start out) (x ∷ drop start out) in
    let whole = sym (length-append (take start out) (drop start out)) ∙ ap length (take-append-drop start out) in
    let n = length out + suc (length xs) in
    let end = length (with_tone_first start out (x ∷ xs)) + (suc (length xs) - (0 + 1)) in
    let moves = Move InOutput start (order_of_move (length out - start) 1) ∷ [] in
    let same : n ≡ end = omega (arith, a, whole) in
    kept_between moves n n n end refl same (steady_kept moves n tt)

circled_long : (thin : Bool) (x : Item) (xs : List Item) → length (circle_beside thin (x ∷ xs)) ≡ 2
circled_long true x xs = refl
circled_long false x xs = refl

circle_kept : (thin : Bool) (out : List Item) (x : Item) (xs : List Item) (level : BufferClusterLevel) → StepKept (with_circle thin out (x ∷ xs)) level (length out) (suc (length xs))
circle_kept thin out x xs level =
    let a = length-append out (circle_beside thin (x ∷ xs)) in
    let b = circled_long thin x xs in
    let m = length xs in
    let left : length out + 2 + (length out + suc m - (length out + 1)) ≡ length (out ++ circle_beside thin (x ∷ xs)) + (suc m - (0 + 1)) = omega (arith, a, b) in
    replacement_kept (length out) 1 2 (length out + suc m) (length (out ++ circle_beside thin (x ∷ xs)) + (suc m - (0 + 1))) (omega arith) (omega arith) (omega arith) left

toned_kept : (font : FaceParts) (circles : Bool) (start u : ℕ) (out : List Item) (x : Item) (xs : List Item) (level : BufferClusterLevel) → StepKept (tone_step font circles start u out (x ∷ xs)) level (length out) (suc (length xs))
toned_kept font circles start u out x xs level = by_tests (nat_lt start (length out)) (has_no_width font u) (circles && has_character font DOTTED_CIRCLE)
  where
    by_tests : (s t w : Bool)
        → StepKept (if s then (if t then keep_step false out (x ∷ xs) else before_syllable start out (x ∷ xs)) else (if w then with_circle (has_no_width font u) out (x ∷ xs) else keep_step false out (x ∷ xs))) level (length out) (suc (length xs))
    by_tests true true w = kept_kept false out x xs level
    by_tests true false w = before_kept start out x xs level
    by_tests false t true = circle_kept (has_no_width font u) out x xs level
    by_tests false t false = kept_kept false out x xs level

step_kept : (font : FaceParts) (circles : Bool) (n : ℕ) (out : List Item) (x : Item) (xs : List Item) (level : BufferClusterLevel) → StepKept (step font circles n out (x ∷ xs)) level (length out) (suc (length xs))
step_kept font circles n out x xs level = by_first (character_at 0 (x ∷ xs))
  where
    by_tone : (u : ℕ) (t : Bool) → StepKept (if t then tone_step font circles n u out (x ∷ xs) else step_of (action_on font u (character_at 1 (x ∷ xs)) (character_at 2 (x ∷ xs))) out (x ∷ xs)) level (length out) (suc (length xs))
    by_tone u true = toned_kept font circles n u out x xs level
    by_tone u false =
        performed_kept (action_on font u (character_at 1 (x ∷ xs)) (character_at 2 (x ∷ xs))) out x xs level (action_takes font u (character_at 1 (x ∷ xs)) (character_at 2 (x ∷ xs)))

    by_first : (a : Option ℕ) → StepKept (step_by font circles n a out (x ∷ xs)) level (length out) (suc (length xs))
    by_first None = kept_kept false out x xs level
    by_first (Some u) = by_tone u (is_tone u)

-- ---- texts

hangul_kept : (font : FaceParts) (circles : Bool) (level : BufferClusterLevel) (steps n : ℕ) (out xs : List Item) → length xs ≤ steps
    → ArePlainlyKept (events_after font circles level steps n out xs) (length out + length xs) (length (text_after font circles steps n out xs))
hangul_kept font circles level steps n out [] le = let same : length out ≡ length out + 0 = omega arith in kept_between [] (length out) (length out + 0) (length out) (length out) same refl (steady_kept [] (length out) tt)
hangul_kept font circles level zero n out (x ∷ xs) le = absurd (omega (arith, le))
hangul_kept font circles level (suc steps) n out (x ∷ xs) le =
    let s = step font circles n out (x ∷ xs) in
    let rest = drop (s.more + 1) (x ∷ xs) in
    let d : length rest ≡ suc (length xs) - (s.more + 1) = length-drop (s.more + 1) (x ∷ xs) in
    plainly_in_turn (s.events level) (events_after font circles level steps s.start s.out rest) (length out + suc (length xs)) (length s.out + length rest) (length (text_after font circles steps s.start s.out rest))
    (kept_between (s.events level) (length out + suc (length xs)) (length out + suc (length xs)) (length s.out + (suc (length xs) - (s.more + 1))) (length s.out + length rest) refl (ap (λ k. length s.out + k) (sym d)) (step_kept font circles n out x xs level)) (hangul_kept font circles level steps s.start s.out rest (omega (arith, le, d)))

formed_keeps_plainly : (font : FaceParts) (flags : BufferFlags) → KeepsPlainly (syllables_formed font flags)
formed_keeps_plainly font flags v r level e =
    let xs = v.items in
    let circles = wants_circles flags in
    let ys = text_after font circles (length xs) 0 [] xs in
    let none : 0 + length xs ≡ length xs = omega arith in
    limited_plainly (nat_le (length ys) v.max_len) TooLong (length xs) (record { view = record v { items = ys; positions = zero_positions (length ys) }; events = λ l. events_after font circles l (length xs) 0 [] xs }) r level
    (kept_between (events_after font circles level (length xs) 0 [] xs) (0 + length xs) (length xs) (length ys) (length ys) none refl (hangul_kept font circles level (length xs) 0 [] xs (omega arith))) e

hangul_keeps_plainly : (font : FaceParts) (flags : BufferFlags) → KeepsPlainly (hangul_text font flags)
hangul_keeps_plainly font flags = then_plainly (always (with_graphemes_merged (jamo_rule font))) (syllables_formed font flags) (merged_keeps_plainly (jamo_rule font)) (formed_keeps_plainly font flags)

pub texts_keep_plainly : TextsKeepPlainly
texts_keep_plainly = record { thai = thai_keeps_plainly; private_forms = private_keeps_plainly; hangul = hangul_keeps_plainly }

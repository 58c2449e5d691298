-- Texts of Thai and Lao that are broken into two, before they are normalized.
use Rattle.std.proofs.Common.{ℕ, suc, ◌≡◌, ◌≤◌, ◌<◌, ◌+◌, ◌-◌, ◌==◌, ◌⊎◌, ◌&&◌, inl, inr, nat_le, not, Bool, true, false, if◌then◌else◌, eqb-true, List, [], ◌∷◌, ◌++◌, length, take, drop, Option, Ok, Err, None, Some, arith, refl, sym, ap, subst, ◌∙◌}
use Rattle.std.specs.List.{list_any}
use Rattle.std.proofs.lemmas.Bool.{cases_Bool, cond-true, cond-false}
use Rattle.buffer_common.specs.declared.script.Script.{Script}
use Rattle.buffer_glyphs.specs.declared.cause.ShapeCause.TheVariants.{TooLong}
use Rattle.buffer_glyphs.specs.Items.{Item}
use Rattle.buffer_unicode_tables.specs.Tables.{Tables}
use Rattle.buffer_core.specs.Readings.{BufferState, Read, Reading, View, state_after, with_events}
use Rattle.buffer_parts.specs.Lemmas.Stages.{same_read}
use Rattle.buffer_stages.specs.Appending.{with_arranged}
use Rattle.buffer_parts.specs.Breaks.Unsafe.{IsUnsafeAt}
use Rattle.buffer_parts.specs.Breaks.Fragments.{AreFragments, AreGiven}
use Rattle.buffer_parts.specs.Breaks.Divisible.{IsBreakable, StaysDivided}
use Rattle.buffer_parts.proofs.BreakLemmas.Beside.{beside_stays_divided}
use Rattle.layout_face.specs.declared.parts.FaceParts.{FaceParts}
use Rattle.layout_map.specs.Compiled.{OtMapValue}
use Rattle.script_categories.specs.declared.thai_action.TheConstants as action
use Rattle.script_syllabic.specs.Graphemes.{merges_by, with_graphemes_merged}
use Rattle.script_thai.specs.declared.thai_private.Consonant.{Consonant}
use Rattle.script_thai.specs.declared.thai_private.Consonant.TheVariants.{NC, AC, RC, DC, NotConsonant}
use Rattle.script_thai.specs.declared.thai_private.Mark.{Mark}
use Rattle.script_thai.specs.declared.thai_private.Mark.TheVariants.{AV, BV, T, NotMark}
use Rattle.script_thai.specs.declared.thai_private.State.{State}
use Rattle.script_thai.specs.Texts.{has_private_forms, private_if, thai_text}
use Rattle.script_thai.specs.ThaiPrivate.{action_on, character_after, character_shaped, consonant_action, consonant_of, is_followed_below, is_followed_from, items_shaped, mark_of, numbers_of, start_state, state_after as state_next, state_from, with_private}
use Rattle.script_thai.specs.ThaiVowel.{count_above, is_mark_above, is_sara_am, marks_above, nikhahit, sara_aa, split_events, text_with_splits, thai_or_lao, vowel_rule, vowels_decomposed, vowels_split, with_character}
use Rattle.buffer_glyphs.specs.Replacements.{item_numbered}
use Rattle.shape_laws.specs.Breaks.Chains.{KeepsBrokenAt}
use Rattle.shape_laws.specs.Breaks.Texts.{StaysBroken}
use Rattle.shape_laws.proofs.BreakLemmas.Begun.{plainly_breakable}
use Rattle.shape_laws.proofs.BreakLemmas.BegunTexts.{always_done, stages_done}
use Rattle.shape_laws.proofs.BreakLemmas.Crossed.{IsAcross, ruled_state, ruled_stay, ruled_unsafe}
use Rattle.shape_laws.proofs.BreakLemmas.Merged.{AreWithin, EndsAlike, FitsTexts, MergesAcross, merged_breakable, merged_keeps, merged_state, merges_cross, merges_stay, within_or_across}
use Rattle.shape_laws.proofs.BreakLemmas.Normalized.{rule_keeps}
use Rattle.shape_laws.proofs.BreakLemmas.Unnumbered.{given_early, given_late, plain_items, plainly_beside}
use Rattle.shape_laws.proofs.BreakLemmas.Vowels.{above_both, vowels_across, vowels_arrange, vowels_arranged, vowels_divide}
use Rattle.script_dispatch.specs.Lemmas.Keeping.Hangul.{shaped_long as shaped_many}
use Rattle.shape_parts.proofs.WrittenVowels.{above_few as above_within}

-- ---- merges

vowel_fits : FitsTexts vowel_rule
vowel_fits [] = omega arith
vowel_fits (x ∷ []) = omega arith
vowel_fits (x ∷ y ∷ ys) = elim (is_sara_am y && not (is_mark_above x)) as (λ b. (if b then 2 else 0) ≤ suc (suc (length ys))) [ true ↦ omega arith | false ↦ omega arith ]

vowel_alike : EndsAlike vowel_rule
vowel_alike x [] [] le = refl
vowel_alike x [] (y ∷ ys) le = by_test (is_sara_am y && not (is_mark_above x)) le
  where
    by_test : (b : Bool) → (if b then 2 else 0) ≤ 1 → ◌≡◌ {A = ℕ} (if b then 2 else 0) 0
    by_test true e = absurd (omega (arith, e))
    by_test false e = refl
vowel_alike x (y ∷ xs) ys le = refl

-- ---- private forms

-- the view of a text with private forms, where it has them
abbrev pub private_read : Bool → Tables → FaceParts → View → Read
private_read b t font v = if b then with_private t font v else with_events [] v

abbrev pub private_state : Bool → Tables → FaceParts → BufferState → BufferState
private_state b t font s = state_after (private_read b t font s.view) s

-- a text begins with a character that neither machine of the private forms takes for a mark, and that no vowel is moved
-- before
abbrev pub BeginsThai : List Item → Type 0
BeginsThai [] = Unit {0}
BeginsThai (y ∷ ys) = (mark_of y.number ≡ NotMark) × (is_mark_above y ≡ false)

action_same : (s : State) (m : Mark) (u : ℕ) (us vs : List ℕ) → is_followed_below us ≡ is_followed_below vs → action_on s m u us ≡ action_on s m u vs
action_same s AV u us vs e = refl
action_same s BV u us vs e = refl
action_same s T u us vs e = refl
action_same s NotMark u us vs e = by_consonant (consonant_of u)
  where
    by_consonant : (c : Consonant) → consonant_action c us ≡ consonant_action c vs
    by_consonant NC = refl
    by_consonant AC = refl
    by_consonant RC = ap (λ b. if b then Some action.RD else None) e
    by_consonant DC = refl
    by_consonant NotConsonant = refl

followed_apart : (xs : List Item) (y : Item) (ys : List Item) → mark_of y.number ≡ NotMark → is_followed_below (numbers_of (xs ++ y ∷ ys)) ≡ is_followed_below (numbers_of xs)
followed_apart [] y ys e = ap (λ m. is_followed_from m (is_followed_below (numbers_of ys))) e
followed_apart (x ∷ xs) y ys e = ap (is_followed_from (mark_of x.number)) (followed_apart xs y ys e)

-- both machines begin anew at a character that is no mark
begins_anew : (t : Tables) (font : FaceParts) (s r : State) (y : Item) (ys : List Item) → mark_of y.number ≡ NotMark → items_shaped t font s (y ∷ ys) ≡ items_shaped t font r (y ∷ ys)
begins_anew t font s r y ys e =
    ap (λ m. item_numbered y (character_after t font (action_on s m y.number (numbers_of ys)) y.number) ∷ items_shaped t font (state_from s m y.number) ys) e
    ∙ ap (λ m. item_numbered y (character_after t font (action_on r m y.number (numbers_of ys)) y.number) ∷ items_shaped t font (state_from r m y.number) ys) (sym e)

shaped_apart : (t : Tables) (font : FaceParts) (s r : State) (xs : List Item) (y : Item) (ys : List Item) → mark_of y.number ≡ NotMark → items_shaped t font s (xs ++ y ∷ ys) ≡ items_shaped t font s xs ++ items_shaped t font r (y ∷ ys)
shaped_apart t font s r [] y ys e = begins_anew t font s r y ys e
shaped_apart t font s r (x ∷ xs) y ys e =
    ap (λ a. item_numbered x (character_after t font a x.number) ∷ items_shaped t font (state_next s x.number) (xs ++ y ∷ ys)) (action_same s (mark_of x.number) x.number (numbers_of (xs ++ y ∷ ys)) (numbers_of xs) (followed_apart xs y ys e))
    ∙ ap (λ zs. item_numbered x (character_shaped t font s x.number (numbers_of xs)) ∷ zs) (shaped_apart t font (state_next s x.number) r xs y ys e)

shaped_given : (t : Tables) (font : FaceParts) (s : State) (xs : List Item) → AreGiven 0 xs → AreGiven 0 (items_shaped t font s xs)
shaped_given t font s [] h = tt
shaped_given t font s (x ∷ xs) h = (h.0, shaped_given t font (state_next s x.number) xs h.1)

private_stay : (b : Bool) (t : Tables) (font : FaceParts) (c : ℕ) (whole earlier later : BufferState) → StaysBroken c whole earlier later → IsUnsafeAt c whole.origins ⊎ BeginsThai later.view.items
    → StaysBroken c (private_state b t font whole) (private_state b t font earlier) (private_state b t font later)
private_stay false t font c whole earlier later stays begins = record { breakable = stays.breakable; given = stays.given; numbers = stays.numbers; divided = stays.divided }
private_stay true t font c whole earlier later stays begins =
    let s0 = start_state NotConsonant in
    let many = shaped_many t font s0 whole.view.items in
    record {
      breakable = plainly_breakable whole (with_private t font whole.view) tt (stays.breakable.whole.origins ∙ sym many) (stays.breakable.whole.positions ∙ sym many) stays.breakable;
      given = shaped_given t font s0 whole.view.items stays.given;
      numbers = record { whole_none = stays.numbers.whole_none; early_none = stays.numbers.early_none; late_none = stays.numbers.late_none };
      divided = elim stays.divided [
        | inl unsafe ↦ inl unsafe
        | inr j ↦ elim begins [
          | inl unsafe ↦ inl unsafe
          | inr plain ↦ by_line j plain
        ]
      ];
    }
  where
    start : State
    start = start_state NotConsonant

    both : (ys : List Item) → 0 < length ys → BeginsThai ys → items_shaped t font (start_state NotConsonant) (earlier.view.items ++ ys) ≡ items_shaped t font (start_state NotConsonant) earlier.view.items ++ items_shaped t font (start_state NotConsonant) ys
    both [] some h = absurd (omega (arith, some))
    both (y ∷ ys) some h = shaped_apart t font (start_state NotConsonant) (start_state NotConsonant) earlier.view.items y ys h.0

    by_line : AreFragments false c whole earlier later → BeginsThai later.view.items → StaysDivided false c (state_after (with_private t font whole.view) whole) (state_after (with_private t font earlier.view) earlier) (state_after (with_private t font later.view) later)
    by_line j plain =
        let s0 = start_state NotConsonant in
        let early_count = j.early_whole.origins in
        let late_count = j.late_whole.origins in
        let early_some = j.early_some in
        let late_some = j.late_some in
        let early_many = shaped_many t font s0 earlier.view.items in
        let late_many = shaped_many t font s0 later.view.items in
        beside_stays_divided false false c whole earlier later (with_private t font whole.view) (with_private t font earlier.view) (with_private t font later.view) stays.breakable j tt tt
        (plainly_beside whole.level (length earlier.origins) (length later.origins) (with_private t font whole.view) (with_private t font earlier.view) (with_private t font later.view) (record {
          numbers = record { whole_none = stays.numbers.whole_none; early_none = stays.numbers.early_none; late_none = stays.numbers.late_none };
          early_given = shaped_given t font s0 earlier.view.items (given_early c whole earlier later j stays.numbers);
          late_given = shaped_given t font s0 later.view.items (given_late c whole earlier later j stays.numbers);
          items = ap (items_shaped t font s0) (plain_items c whole earlier later j stays.numbers) ∙ both later.view.items (omega (arith, late_some, late_count)) plain;
          positions = j.positions;
          events = refl;
          early_direction = j.early_of.direction;
          late_direction = j.late_of.direction;
          early = record { bounded = tt; positions = j.early_whole.positions ∙ sym early_many; counted = early_count ∙ sym early_many; some = omega (arith, early_some, early_count, early_many) };
          late = record { bounded = tt; positions = j.late_whole.positions ∙ sym late_many; counted = late_count ∙ sym late_many; some = omega (arith, late_some, late_count, late_many) };
        }))

-- ---- the first character of a text with its vowels decomposed

-- one item that is no mark above has none before it
pub none_above : (y : Item) → is_mark_above y ≡ false → count_above (y ∷ []) ≡ 0
none_above y e = ap (λ b. if b then 1 + 0 else 0) e

-- a text that begins with such an item begins with it once its vowels are decomposed
abbrev pub BeginsWith : Item → List Item → Type 0
BeginsWith y zs = (rest : List Item) × (zs ≡ y ∷ rest)

first_character : (y : Item) (out : List Item) (x : Item) → is_mark_above y ≡ false → BeginsWith y (with_character (y ∷ out) x)
first_character y out x e = elim (cases_Bool (is_sara_am x)) [
  | inl found ↦ by_count (above_both (y ∷ []) out) found
  | inr lacks ↦ (out ++ x ∷ [], cond-false _ _ _ lacks)
]
  where
    from : (n : ℕ) → suc n ≡ length (y ∷ out) - count_above (y ∷ out) → is_sara_am x ≡ true → BeginsWith y (with_character (y ∷ out) x)
    from n at found =
        ((take n out ++ (nikhahit x ∷ drop n out)) ++ sara_aa x ∷ [], cond-true _ _ _ found ∙ ap (λ (i : ℕ). (take i (y ∷ out) ++ (nikhahit x ∷ drop i (y ∷ out))) ++ sara_aa x ∷ []) (sym at))

    by_count : (count_above (y ∷ out) ≡ count_above out) ⊎ ((0 < count_above (y ∷ [])) × (count_above (y ∷ out) ≡ length out + count_above (y ∷ []))) → is_sara_am x ≡ true → BeginsWith y (with_character (y ∷ out) x)
    by_count (inl same) found = let le = above_within out in from (length out - count_above out) (omega (arith, same, le)) found
    by_count (inr over) found = let none = none_above y e in let some = over.0 in absurd (omega (arith, none, some))

pub first_stays : (y : Item) (out xs : List Item) → is_mark_above y ≡ false → BeginsWith y (text_with_splits (y ∷ out) xs)
first_stays y out [] e = (out, refl)
first_stays y out (x ∷ xs) e =
    let p = first_character y out x e in
    let q = first_stays y p.0 xs e in
    (q.0, ap (λ o. text_with_splits o xs) p.1 ∙ q.1)

begins_still : (ys : List Item) → BeginsThai ys → (y : Item) (rest : List Item) → ys ≡ y ∷ rest → is_sara_am y ≡ false → BeginsThai (text_with_splits [] ys)
begins_still [] h y rest e lacks = tt
begins_still (z ∷ zs) h y rest e lacks =
    let same : z ≡ y = first_is e in
    let none : is_sara_am z ≡ false = ap is_sara_am same ∙ lacks in
    let p = first_stays z [] zs h.1 in
    subst BeginsThai (sym (ap (λ o. text_with_splits o zs) (cond-false _ _ _ none) ∙ p.1)) h
  where
    head_or : Item → List Item → Item
    head_or d [] = d
    head_or d (w ∷ ws) = w

    first_is : z ∷ zs ≡ y ∷ rest → z ≡ y
    first_is f = ap (head_or z) f

-- ---- a text that begins with a vowel

above_no_vowel : (x : Item) → is_mark_above x ≡ true → is_sara_am x ≡ false
above_no_vowel x e = elim (cases_Bool (is_sara_am x)) [
  | inl found ↦ let is : is_mark_above x ≡ list_any (λ u. u == 0x0E33) marks_above = ap (λ (n : ℕ). list_any (λ u. u == n) marks_above) (eqb-true (thai_or_lao x.number) 0x0E33 found) in let none : list_any (λ u. u == 0x0E33) marks_above ≡ false = refl in cc
  | inr lacks ↦ lacks
]

-- where no vowel begins in the first text and ends in the second, which begins with one, the first ends with a mark above
ends_above : (out : List Item) (x : Item) (xs : List Item) (y : Item) (ys : List Item) → is_sara_am y ≡ true → AreWithin vowel_rule (x ∷ xs) (y ∷ ys) → 0 < count_above (text_with_splits out (x ∷ xs))
ends_above out x [] y ys vowel within =
    let above = above_of (is_mark_above x) refl (subst (λ b. (if b && not (is_mark_above x) then 2 else 0) ≤ 1) vowel within.0) in
    let last : with_character out x ≡ out ++ x ∷ [] = cond-false _ _ _ (above_no_vowel x above) in
    subst (λ o. 0 < count_above o) (sym last) (some_above (above_both out (x ∷ [])) above)
  where
    above_of : (b : Bool) → is_mark_above x ≡ b → (if not b then 2 else 0) ≤ 1 → is_mark_above x ≡ true
    above_of true e le = e
    above_of false e le = absurd (omega (arith, le))

    one_above : is_mark_above x ≡ true → count_above (x ∷ []) ≡ 1
    one_above e = ap (λ b. if b then 1 + 0 else 0) e

    some_above : (count_above (out ++ x ∷ []) ≡ count_above (x ∷ [])) ⊎ ((0 < count_above out) × (count_above (out ++ x ∷ []) ≡ length (x ∷ []) + count_above out)) → is_mark_above x ≡ true → 0 < count_above (out ++ x ∷ [])
    some_above (inl same) e = let one = one_above e in omega (arith, same, one)
    some_above (inr over) e = let some = over.1 in omega (arith, some)
ends_above out x (z ∷ xs) y ys vowel within = ends_above (with_character out x) z xs y ys vowel within.1

-- ---- the whole stage

pub vowels_state : BufferState → BufferState
vowels_state s = ruled_state vowels_arranged (merged_state vowel_rule s)

vowels_read : (s : BufferState) (r : Read) → vowels_split s.view ≡ Ok r → state_after r s ≡ ruled_state vowels_arranged s
vowels_read s r e = by_room (nat_le (length (text_with_splits [] s.view.items)) s.view.max_len) e
  where
    by_room : (b : Bool) → ◌≡◌ {A = Reading} (if b then Ok (with_arranged (vowels_arranged s.view.items) s.view) else Err TooLong) (Ok r) → state_after r s ≡ ruled_state vowels_arranged s
    by_room true f = ap (λ (x : Read). state_after x s) (sym (same_read (with_arranged (vowels_arranged s.view.items) s.view) r f))
    by_room false f = cc

private_is : (b : Bool) (t : Tables) (font : FaceParts) (s : BufferState) (r : Read) → private_if b t font s.view ≡ Ok r → state_after r s ≡ private_state b t font s
private_is true t font s r e = ap (λ (x : Read). state_after x s) (sym (same_read (with_private t font s.view) r e))
private_is false t font s r e = ap (λ (x : Read). state_after x s) (sym (same_read (with_events [] s.view) r e))

pub thai_read : (m : OtMapValue) (script : Option Script) (t : Tables) (font : FaceParts) (s : BufferState) (r : Read) → thai_text m script t font s.view ≡ Ok r → state_after r s ≡ private_state (has_private_forms m script) t font (vowels_state s)
unfolding vowels_state
thai_read m script t font s r e =
    let b = has_private_forms m script in
    let one = stages_done vowels_decomposed (private_if b t font) s r e in
    let two = always_done (with_graphemes_merged vowel_rule) vowels_split s one.once one.once_is in
    let first : state_after one.once s ≡ vowels_state s = two.both ∙ vowels_read (merged_state vowel_rule s) two.again two.again_is in
    one.both ∙ private_is b t font (state_after one.once s) one.again one.again_is ∙ ap (private_state b t font) first

-- vowels that are decomposed keep it unsafe to break
pub vowels_keep : (c : ℕ) (s : BufferState) → IsBreakable s → AreGiven 0 s.view.items → IsUnsafeAt c s.origins → IsUnsafeAt c (vowels_state s).origins
unfolding vowels_state
vowels_keep c s b given unsafe = rule_keeps vowels_arranged c (merged_state vowel_rule s) (vowels_arrange.rewrites s.view.items given) (merged_breakable vowel_rule s b) (merged_keeps vowel_rule c s b unsafe)

-- the items of a text whose vowels are decomposed
pub vowels_items : (s : BufferState) → (vowels_state s).view.items ≡ text_with_splits [] s.view.items
unfolding vowels_state
vowels_items s = refl

-- a text begins with no vowel SARA AM
abbrev pub BeginsNoVowel : List Item → Type 0
BeginsNoVowel [] = Unit {0}
BeginsNoVowel (y ∷ ys) = is_sara_am y ≡ false

-- after vowels are decomposed it is unsafe to break, or the later text begins with no mark, and began with no vowel
pub vowels_begin : (c : ℕ) (whole earlier later : BufferState) → StaysBroken c whole earlier later → IsUnsafeAt c whole.origins ⊎ BeginsThai later.view.items → IsUnsafeAt c (vowels_state whole).origins ⊎ (BeginsThai (vowels_state later).view.items × BeginsNoVowel later.view.items)
unfolding vowels_state
vowels_begin c whole earlier later stays begins = elim begins [
  | inl unsafe ↦ inl (later_keeps (merged_keeps vowel_rule c whole stays.breakable unsafe))
  | inr plain ↦ by_items later.view.items refl plain
]
  where
    s1 : BufferState
    s1 = merged_state vowel_rule whole

    later_keeps : IsUnsafeAt c (merged_state vowel_rule whole).origins → IsUnsafeAt c (ruled_state vowels_arranged (merged_state vowel_rule whole)).origins
    later_keeps unsafe = rule_keeps vowels_arranged c (merged_state vowel_rule whole) (vowels_arrange.rewrites whole.view.items stays.given) (merged_breakable vowel_rule whole stays.breakable) unsafe

    crosses : (x y : Item) (xs ys : List Item) → earlier.view.items ≡ x ∷ xs → later.view.items ≡ y ∷ ys → is_sara_am y ≡ true → AreFragments false c whole earlier later → IsUnsafeAt c (ruled_state vowels_arranged (merged_state vowel_rule whole)).origins
    crosses x y xs ys e f vowel j =
        let plain = plain_items c whole earlier later j stays.numbers in
        let line : whole.view.items ≡ (x ∷ xs) ++ y ∷ ys = plain ∙ ap (λ zs. zs ++ later.view.items) e ∙ ap (λ zs. (x ∷ xs) ++ zs) f in
        let one : 0 + length (x ∷ xs) ≡ length (x ∷ xs) = omega arith in
        let two : 0 + (length (x ∷ xs) + length (y ∷ ys)) ≡ length (x ∷ xs) + length (y ∷ ys) = omega arith in
        elim (within_or_across vowel_rule 0 (x ∷ xs) (y ∷ ys) vowel_fits) [
          | inl within ↦
              let given : AreGiven 0 (x ∷ xs) = subst (AreGiven 0) e (given_early c whole earlier later j stays.numbers) in
              let across = vowels_across (x ∷ xs) y ys given vowel (ends_above [] x xs y ys vowel within) in
              let merged = merges_stay vowel_rule c whole earlier later vowel_fits vowel_alike stays in
              ruled_unsafe vowels_arranged c (merged_state vowel_rule whole) (merged_state vowel_rule earlier) (merged_state vowel_rule later) vowels_arrange merged
              (λ k. subst (λ zs. IsAcross (length earlier.view.items) (length later.view.items) (split_events [] zs)) (sym line)
              (subst (λ zs. IsAcross (length zs) (length later.view.items) (split_events [] ((x ∷ xs) ++ y ∷ ys))) (sym e) (subst (λ zs. IsAcross (length (x ∷ xs)) (length zs) (split_events [] ((x ∷ xs) ++ y ∷ ys))) (sym f) across)))
          | inr across ↦
              later_keeps (merges_cross vowel_rule c whole earlier later stays.breakable j
              (subst (λ zs. MergesAcross (length earlier.view.items) (length earlier.view.items + length later.view.items) (merges_by vowel_rule 0 zs)) (sym line)
              (subst (λ zs. MergesAcross (length zs) (length zs + length later.view.items) (merges_by vowel_rule 0 ((x ∷ xs) ++ y ∷ ys))) (sym e)
              (subst (λ zs. MergesAcross (length (x ∷ xs)) (length (x ∷ xs) + length zs) (merges_by vowel_rule 0 ((x ∷ xs) ++ y ∷ ys))) (sym f)
              (subst (λ (n : ℕ). MergesAcross n (length (x ∷ xs) + length (y ∷ ys)) (merges_by vowel_rule 0 ((x ∷ xs) ++ y ∷ ys))) one (subst (λ (n : ℕ). MergesAcross (0 + length (x ∷ xs)) n (merges_by vowel_rule 0 ((x ∷ xs) ++ y ∷ ys))) two across))))))
        ]

    with_early : (y : Item) (ys xs : List Item) → later.view.items ≡ y ∷ ys → earlier.view.items ≡ xs → is_sara_am y ≡ true → AreFragments false c whole earlier later → IsUnsafeAt c (ruled_state vowels_arranged (merged_state vowel_rule whole)).origins
    with_early y ys [] f e vowel j = let some = j.early_some in let count = j.early_whole.origins in let none : length earlier.view.items ≡ 0 = ap length e in absurd (omega (arith, some, count, none))
    with_early y ys (x ∷ xs) f e vowel j = crosses x y xs ys e f vowel j

    by_items : (zs : List Item) → later.view.items ≡ zs → BeginsThai later.view.items → IsUnsafeAt c (ruled_state vowels_arranged (merged_state vowel_rule whole)).origins ⊎ (BeginsThai (text_with_splits [] later.view.items) × BeginsNoVowel later.view.items)
    by_items [] e plain = inr (subst (λ zs. BeginsThai (text_with_splits [] zs)) (sym e) tt, subst BeginsNoVowel (sym e) tt)
    by_items (y ∷ ys) e plain = elim (cases_Bool (is_sara_am y)) [
      | inl vowel ↦ elim stays.divided [
        | inl unsafe ↦ inl (later_keeps (merged_keeps vowel_rule c whole stays.breakable unsafe))
        | inr j ↦ inl (with_early y ys earlier.view.items e refl vowel j)
      ]
      | inr lacks ↦ inr (begins_still later.view.items plain y ys e lacks, subst BeginsNoVowel (sym e) lacks)
    ]

-- the preprocessing of Thai and Lao keeps a text broken, where it is unsafe to break or the later text begins with no mark
pub thai_keeps : (m : OtMapValue) (script : Option Script) (t : Tables) (font : FaceParts) (c : ℕ) (whole earlier later : BufferState) → IsUnsafeAt c whole.origins ⊎ BeginsThai later.view.items
    → KeepsBrokenAt c whole earlier later (thai_text m script t font) (thai_text m script t font) (thai_text m script t font)
unfolding vowels_state
thai_keeps m script t font c whole earlier later begins r e l stays is_r is_e is_l =
    let b = has_private_forms m script in
    let one = merges_stay vowel_rule c whole earlier later vowel_fits vowel_alike stays in
    let two = ruled_stay vowels_arranged c (merged_state vowel_rule whole) (merged_state vowel_rule earlier) (merged_state vowel_rule later) vowels_arrange (λ xs ys given more some later_some. vowels_divide xs ys given) one in
    let three = private_stay b t font c (vowels_state whole) (vowels_state earlier) (vowels_state later) two (begin_only (vowels_begin c whole earlier later stays begins)) in
    subst (λ (s : BufferState). StaysBroken c s (state_after e earlier) (state_after l later)) (sym (thai_read m script t font whole r is_r))
    (subst (λ (s : BufferState). StaysBroken c (private_state b t font (vowels_state whole)) s (state_after l later)) (sym (thai_read m script t font earlier e is_e))
    (subst (λ (s : BufferState). StaysBroken c (private_state b t font (vowels_state whole)) (private_state b t font (vowels_state earlier)) s) (sym (thai_read m script t font later l is_l)) three))
  where
    begin_only : IsUnsafeAt c (vowels_state whole).origins ⊎ (BeginsThai (vowels_state later).view.items × BeginsNoVowel later.view.items) → IsUnsafeAt c (vowels_state whole).origins ⊎ BeginsThai (vowels_state later).view.items
    begin_only (inl unsafe) = inl unsafe
    begin_only (inr both) = inr both.0

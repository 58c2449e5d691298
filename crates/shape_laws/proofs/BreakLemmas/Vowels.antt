-- The vowels SARA AM of Thai and AM of Lao in a text that is broken into two.
use Rattle.std.proofs.Common.{ℕ, zero, suc, ◌≡◌, ◌≤◌, ◌<◌, ◌+◌, ◌-◌, ◌==◌, ◌⊎◌, inl, inr, Bool, true, false, if◌then◌else◌, List, [], ◌∷◌, ◌++◌, length, map, take, drop, reverse, Some, append_assoc, append-nil, arith, refl, sym, ap, ap₂, subst, ◌∙◌}
use Rattle.std.specs.List.{prefix_len}
use Rattle.std.proofs.lemmas.Bool.{cases_Bool, cond-true, cond-false}
use Rattle.std.proofs.lemmas.List.{length-append, length-drop, length-reverse, length-take-le, map-append, reverse-append}
use Rattle.std.proofs.lemmas.Bool.Decides.{nat_tests}
use Rattle.std.proofs.lemmas.Grind.{common_steps}
use Rattle.std.proofs.lemmas.List.Sums.{fold-append, prefix_len-le-length}
use Rattle.std.proofs.Math.Seq.{take-append-add}
use Rattle.buffer_glyphs.specs.declared.level.BufferClusterLevel.{BufferClusterLevel}
use Rattle.buffer_glyphs.specs.declared.level.BufferClusterLevel.TheVariants.{MonotoneGraphemes, MonotoneCharacters, Characters, Graphemes}
use Rattle.buffer_glyphs.specs.Events.{Event, IsPlain, Move, Replace}
use Rattle.buffer_glyphs.specs.Items.{Item}
use Rattle.buffer_glyphs.specs.Levels.{InOutput, IsMonotone}
use Rattle.buffer_glyphs.specs.Origins.{Asks, Span}
use Rattle.buffer_glyphs.specs.Rewriting.{Arrangement, shifted_event}
use Rattle.buffer_parts.specs.Counts.{count_after, count_after_event}
use Rattle.buffer_stages.specs.Moves.{order_of_move}
use Rattle.buffer_stages.specs.Lemmas.Moves.{order_long}
use Rattle.buffer_parts.specs.Breaks.Bound.{bound_span}
use Rattle.buffer_parts.specs.Breaks.Concat.{without_concats}
use Rattle.buffer_parts.specs.Breaks.Fragments.{AreGiven}
use Rattle.buffer_parts.specs.Breaks.Lossless.{AreLossless}
use Rattle.buffer_parts.specs.Breaks.Sides.{AreBounded}
use Rattle.buffer_parts.proofs.BreakLemmas.Events.{both_lossless}
use Rattle.buffer_parts.proofs.BreakLemmas.Orders.{moves_permute}
use Rattle.script_thai.specs.ThaiVowel.{count_above, events_of_character, events_of_vowel, is_mark_above, is_sara_am, nikhahit, sara_aa, split_events, text_with_splits, with_character, with_vowel}
use Rattle.shape_laws.specs.Breaks.Rewrites.{IsWholeRewrite}
use Rattle.shape_laws.proofs.BreakLemmas.Crossed.{ArrangesTexts, DividesOrCrosses, IsAcross}
use Rattle.shape_laws.proofs.BreakLemmas.MarkOrders.{given_first, given_from}
use Rattle.shape_laws.proofs.BreakLemmas.Rewrites.{replaced_count}
use Rattle.script_thai.proofs.Vowels.{events_both, splits_both, grows}
use Rattle.shape_laws.proofs.BreakLemmas.Fractions.{drop_second}
use Rattle.script_thai.proofs.Vowel.{vowel_long as vowel_many}
use Rattle.shape_parts.proofs.WrittenVowels.{above_few as above_within}
use Rattle.layout_laws.proofs.BreakLemmas.Walks.{bounded_both as both_bounded}
use Rattle.buffer_parts.specs.Lemmas.Plainly.{both_plain}
use Rattle.layout_laws.proofs.BreakLemmas.Frames.{given_both}
use Rattle.buffer_parts.proofs.BreakLemmas.Division.{without_both}

-- a text with its vowels decomposed, after some that is
abbrev pub vowels_after : List Item → List Item → Arrangement
vowels_after out xs = record { items = text_with_splits out xs; events = split_events out xs }

-- a text with its vowels decomposed
abbrev pub vowels_arranged : List Item → Arrangement
vowels_arranged xs = vowels_after [] xs

-- ---- counts

-- a prefix of two lists is in the first, or it is the first and a prefix of the second
prefix_both : (p : Item → Bool) (us vs : List Item) → (prefix_len p (us ++ vs) ≡ prefix_len p us) ⊎ ((prefix_len p us ≡ length us) × (prefix_len p (us ++ vs) ≡ length us + prefix_len p vs))
prefix_both p [] vs = let e : prefix_len p vs ≡ 0 + prefix_len p vs = omega arith in inr (refl, e)
prefix_both p (u ∷ us) vs = by_test (p u) (prefix_both p us vs)
  where
    by_test : (b : Bool) → (prefix_len p (us ++ vs) ≡ prefix_len p us) ⊎ ((prefix_len p us ≡ length us) × (prefix_len p (us ++ vs) ≡ length us + prefix_len p vs))
        → ((if b then 1 + prefix_len p (us ++ vs) else 0) ≡ (if b then 1 + prefix_len p us else 0)) ⊎ (((if b then 1 + prefix_len p us else 0) ≡ suc (length us)) × ((if b then 1 + prefix_len p (us ++ vs) else 0) ≡ suc (length us) + prefix_len p vs))
    by_test true (inl e) = inl (ap (λ n. 1 + n) e)
    by_test true (inr e) = let one = e.0 in let two = e.1 in inr (omega (arith, one), omega (arith, two))
    by_test false h = inl refl

-- the marks above that end two lists end the second; or all of the second are such marks, and so are some that end the first
pub above_both : (first second : List Item) → (count_above (first ++ second) ≡ count_above second) ⊎ ((0 < count_above first) × (count_above (first ++ second) ≡ length second + count_above first))
above_both first second =
    let turned : count_above (first ++ second) ≡ prefix_len is_mark_above (reverse second ++ reverse first) = ap (prefix_len is_mark_above) (reverse-append first second) in
    let long = length-reverse second in
    elim (prefix_both is_mark_above (reverse second) (reverse first)) [
      | inl same ↦ inl (turned ∙ same)
      | inr all ↦ by_count (count_above first) refl (turned ∙ all.1 ∙ ap (λ (n : ℕ). n + count_above first) long) (all.0 ∙ long)
    ]
  where
    by_count : (n : ℕ) → count_above first ≡ n → count_above (first ++ second) ≡ length second + count_above first → count_above second ≡ length second
        → (count_above (first ++ second) ≡ count_above second) ⊎ ((0 < count_above first) × (count_above (first ++ second) ≡ length second + count_above first))
    by_count zero e f g = inl (omega (arith, e, f, g))
    by_count (suc n) e f g = inr (omega (arith, e), f)

-- ---- one vowel

vowel_given : (out : List Item) (x : Item) → AreGiven 0 out → AreGiven 0 (x ∷ []) → AreGiven 0 (with_vowel out x)
vowel_given out x h k =
    let n = length out - count_above out in
    given_both 0 (take n out ++ (nikhahit x ∷ drop n out)) (sara_aa x ∷ []) (given_both 0 (take n out) (nikhahit x ∷ drop n out) (given_first n 0 out h) (k.0, given_from n 0 out h)) (k.0, tt)

-- events of n items, which leave one more
record AddsOne (es : List Event) (n : ℕ) : Type 0 where
  bounded : AreBounded es n
  lossless : AreLossless es n
  counted : count_after es n ≡ n + 1
  plain : IsPlain es
  no_concat : without_concats es ≡ es

vowel_adds : (at m n : ℕ) → at < n → m ≤ at → AddsOne (events_of_vowel at m) n
vowel_adds at m n lt le = by_test (m == 0)
  where
    more : count_after_event n (Replace at 1 2) ≡ n + 1
    more = let e = replaced_count at 1 2 n (omega arith) (omega (arith, lt)) in omega (arith, e, lt)

    fits : at - m + (m + 1) ≤ count_after_event n (Replace at 1 2)
    fits = let e = more in omega (arith, e, lt, le)

    replaces : (at < n) × (at + 1 ≤ n)
    replaces = (lt, omega (arith, lt))

    by_test : (b : Bool) → AddsOne (Replace at 1 2 ∷ (if b then [] else Move InOutput (at - m) (order_of_move m 1) ∷ [])) n
    by_test true = record { bounded = (replaces, tt); lossless = (tt, tt); counted = more; plain = tt; no_concat = refl }
    by_test false =
        let p = moves_permute (at - m) m 1 (count_after_event n (Replace at 1 2)) fits in
        record { bounded = (replaces, (p.within, tt)); lossless = (tt, (p, tt)); counted = more; plain = tt; no_concat = refl }

-- ---- a text

-- one character after a text that is decomposed
character_many : (out : List Item) (x : Item) → length out < length (with_character out x)
character_many out x = elim (is_sara_am x) as (λ b. length out < length (if b then with_vowel out x else out ++ x ∷ [])) [
  | true ↦ let many = vowel_many out x in omega (arith, many)
  | false ↦ let many = length-append out (x ∷ []) in omega (arith, many)
]

-- arrangements in turn
both_whole : (n : ℕ) (es : List Event) (b : Arrangement) → AddsOne es n → IsWholeRewrite (n + 1) b → IsWholeRewrite n (record { items = b.items; events = es ++ b.events })
both_whole n es b p q = record {
  bounded = both_bounded es b.events n p.bounded (subst (AreBounded b.events) (sym p.counted) q.bounded);
  lossless = both_lossless es b.events n p.lossless (subst (AreLossless b.events) (sym p.counted) q.lossless);
  counted = fold-append count_after_event n es b.events ∙ ap (count_after b.events) p.counted ∙ q.counted;
  plain = both_plain es b.events p.plain q.plain;
  no_concat = without_both es b.events ∙ ap (λ fs. fs ++ without_concats b.events) p.no_concat ∙ ap (λ fs. es ++ fs) q.no_concat;
  given = q.given;
}

vowels_rewrite : (out xs : List Item) (n : ℕ) → n ≡ length out + length xs → AreGiven 0 out → AreGiven 0 xs → IsWholeRewrite n (vowels_after out xs)
vowels_rewrite out [] n e h k = record { bounded = tt; lossless = tt; counted = omega (arith, e); plain = tt; no_concat = refl; given = h }
vowels_rewrite out (x ∷ xs) n e h k = elim (cases_Bool (is_sara_am x)) [
  | inl found ↦
      let out2 = with_vowel out x in
      let es = events_of_vowel (length out) (count_above out) in
      let many = vowel_many out x in
      let le = above_within out in
      let rest = vowels_rewrite out2 xs (n + 1) (omega (arith, e, many)) (vowel_given out x h (k.0, tt)) k.1 in
      subst (λ (o : List Item). IsWholeRewrite n (record { items = text_with_splits o xs; events = events_of_character out x ++ split_events o xs })) (sym (cond-true _ _ _ found))
      (subst (λ (fs : List Event). IsWholeRewrite n (record { items = text_with_splits out2 xs; events = fs ++ split_events out2 xs })) (sym (cond-true _ _ _ found)) (both_whole n es (vowels_after out2 xs) (vowel_adds (length out) (count_above out) n (omega (arith, e)) le) rest))
  | inr lacks ↦
      let out2 = out ++ x ∷ [] in
      let many = length-append out (x ∷ []) in
      let rest = vowels_rewrite out2 xs n (omega (arith, e, many)) (given_both 0 out (x ∷ []) h (k.0, tt)) k.1 in
      subst (λ (o : List Item). IsWholeRewrite n (record { items = text_with_splits o xs; events = events_of_character out x ++ split_events o xs })) (sym (cond-false _ _ _ lacks))
      (subst (λ (fs : List Event). IsWholeRewrite n (record { items = text_with_splits out2 xs; events = fs ++ split_events out2 xs })) (sym (cond-false _ _ _ lacks)) rest)
]

pub vowels_left : (xs : List Item) → 0 < length xs → 0 < length (text_with_splits [] xs)
vowels_left [] some = absurd (omega (arith, some))
vowels_left (x ∷ xs) some = let here = character_many [] x in let rest = grows (with_character [] x) xs in omega (arith, here, rest)

pub vowels_arrange : ArrangesTexts vowels_arranged
vowels_arrange = record {
  rewrites = λ xs h. vowels_rewrite [] xs (length xs) (omega arith) tt h;
  some = λ xs h. vowels_left xs;
}

-- ---- two texts

-- a vowel after two texts, of which the first has no mark above that the vowel is moved before
vowel_apart : (first second : List Item) (x : Item) → count_above (first ++ second) ≡ count_above second → with_vowel (first ++ second) x ≡ first ++ with_vowel second x
vowel_apart first second x same =
    let m = count_above second in
    let le = above_within second in
    let n = length second - m in
    let many = length-append first second in
    let start : length (first ++ second) - count_above (first ++ second) ≡ length first + n = omega (arith, many, same, le) in
    let front = take n second in
    let back = drop n second in
    ap (λ (i : ℕ). (take i (first ++ second) ++ (nikhahit x ∷ drop i (first ++ second))) ++ sara_aa x ∷ []) start
    ∙ ap₂ (λ us vs. (us ++ (nikhahit x ∷ vs)) ++ sara_aa x ∷ []) (take-append-add first second n) (drop_second first second n)
    ∙ ap (λ us. us ++ sara_aa x ∷ []) (append_assoc first front (nikhahit x ∷ back)) ∙ append_assoc first (front ++ (nikhahit x ∷ back)) (sara_aa x ∷ [])

vowel_shifted : (k at m : ℕ) → m ≤ at → events_of_vowel (k + at) m ≡ map (shifted_event k) (events_of_vowel at m)
vowel_shifted k at m le = by_test (m == 0)
  where
    start : k + at - m ≡ k + (at - m)
    start = omega (arith, le)

    by_test : (b : Bool) → Replace (k + at) 1 2 ∷ (if b then [] else Move InOutput (k + at - m) (order_of_move m 1) ∷ []) ≡ map (shifted_event k) (Replace at 1 2 ∷ (if b then [] else Move InOutput (at - m) (order_of_move m 1) ∷ []))
    by_test true = refl
    by_test false = ap (λ (i : ℕ). Replace (k + at) 1 2 ∷ Move InOutput i (order_of_move m 1) ∷ []) start

-- a text whose first part, of m items, is decomposed, and the events of the rest: those of the rest by itself, or one is
-- across both
record IsCrossed (m n : ℕ) (all : List Event) : Type 0 where
  late : List Event
  event : Event
  rest : List Event
  span : Span
  is : all ≡ map (shifted_event m) late ++ event ∷ rest
  bounded : AreBounded late n
  binds : (asks : Asks) (level : BufferClusterLevel) → asks.breaks ≡ true → IsMonotone level → bound_span asks level event ≡ Some span
  low : span.from < m
  high : m < span.to
  fits : span.to ≤ m + count_after late n

move_binds : (asks : Asks) (level : BufferClusterLevel) (from : ℕ) (order : List ℕ) → IsMonotone level → bound_span asks level (Move InOutput from order) ≡ Some (record { from = from; to = from + length order })
move_binds asks MonotoneGraphemes from order h = refl
move_binds asks MonotoneCharacters from order h = refl
move_binds asks Characters from order h = absurd h
move_binds asks Graphemes from order h = absurd h

abbrev IsRest : List Item → List Item → List Item → Type 0
IsRest first second ys = (text_with_splits (first ++ second) ys ≡ first ++ text_with_splits second ys) × (split_events (first ++ second) ys ≡ map (shifted_event (length first)) (split_events second ys))

-- events before a crossing
crossed_after : (m n k : ℕ) (here all : List Event) → AreBounded here n → count_after here n ≡ k → IsCrossed m k all → IsCrossed m n (map (shifted_event m) here ++ all)
crossed_after m n k here all bounded counted x =
    let whole : count_after (here ++ x.late) n ≡ count_after x.late k = fold-append count_after_event n here x.late ∙ ap (count_after x.late) counted in
    let fits = x.fits in
    record {
      late = here ++ x.late;
      event = x.event;
      rest = x.rest;
      span = x.span;
      is = ap (λ es. map (shifted_event m) here ++ es) x.is ∙ sym (append_assoc (map (shifted_event m) here) (map (shifted_event m) x.late) (x.event ∷ x.rest)) ∙ ap (λ es. es ++ x.event ∷ x.rest) (sym (map-append (shifted_event m) here x.late));
      bounded = both_bounded here x.late n bounded (subst (AreBounded x.late) (sym counted) x.bounded);
      binds = x.binds;
      low = x.low;
      high = x.high;
      fits = omega (arith, fits, whole);
    }

-- a vowel that is moved before marks of the first text
vowel_crosses : (first second : List Item) (n : ℕ) (rest : List Event) → length second < n → 0 < count_above first → count_above (first ++ second) ≡ length second + count_above first → IsCrossed (length first) n (events_of_vowel (length (first ++ second)) (count_above (first ++ second)) ++ rest)
vowel_crosses first second n rest lt some all =
    subst (λ es. IsCrossed (length first) n (es ++ rest)) (ap₂ (λ (i j : ℕ). events_of_vowel i j) (sym (length-append first second)) (sym all)) (by_test (length second + count_above first == 0) (no_zero (length second + count_above first) (omega (arith, some))))
  where
    at : ℕ
    at = length first + length second

    m : ℕ
    m = length second + count_above first

    no_zero : (k : ℕ) → 0 < k → (k == 0) ≡ false
    no_zero k more = grind (arith, nat_tests, common_steps, more)

    by_test : (b : Bool) → b ≡ false → IsCrossed (length first) n ((Replace (length first + length second) 1 2 ∷ (if b then [] else Move InOutput (length first + length second - (length second + count_above first)) (order_of_move (length second + count_above first) 1) ∷ [])) ++ rest)
    by_test true e = cc
    by_test false e =
        let k = count_above first in
        let le = above_within first in
        let from = length first + length second - (length second + k) in
        let long : length (order_of_move (length second + k) 1) ≡ length second + k + 1 = order_long (length second + k) 1 in
        let more : count_after_event n (Replace (length second) 1 2) ≡ n + 1 = let c = replaced_count (length second) 1 2 n (omega arith) (omega (arith, lt)) in omega (arith, c, lt) in
        record {
          late = Replace (length second) 1 2 ∷ [];
          event = Move InOutput from (order_of_move (length second + k) 1);
          rest = rest;
          span = record { from = from; to = from + length (order_of_move (length second + k) 1) };
          is = refl;
          bounded = ((lt, omega (arith, lt)), tt);
          binds = λ asks level breaks monotone. move_binds asks level from (order_of_move (length second + k) 1) monotone;
          low = omega (arith, some, le);
          high = omega (arith, le, long);
          fits = omega (arith, le, long, more, lt);
        }

rest_divides : (first second ys : List Item) (n : ℕ) → n ≡ length second + length ys → IsRest first second ys ⊎ IsCrossed (length first) n (split_events (first ++ second) ys)
rest_divides first second [] n e = inl (refl, refl)
rest_divides first second (y ∷ ys) n e = elim (cases_Bool (is_sara_am y)) [
  | inl found ↦ elim (above_both first second) [
    | inl same ↦
        let le = above_within second in
        let here = events_of_vowel (length second) (count_above second) in
        let adds = vowel_adds (length second) (count_above second) n (omega (arith, e)) le in
        let many = vowel_many second y in
        let next = rest_divides first (with_vowel second y) ys (n + 1) (omega (arith, e, many)) in
        let out : with_character (first ++ second) y ≡ first ++ with_vowel second y = cond-true _ _ _ found ∙ vowel_apart first second y same in
        let alone : with_character second y ≡ with_vowel second y = cond-true _ _ _ found in
        let events : events_of_character (first ++ second) y ≡ map (shifted_event (length first)) here =
        cond-true _ _ _ found ∙ ap₂ (λ (i j : ℕ). events_of_vowel i j) (length-append first second) same ∙ vowel_shifted (length first) (length second) (count_above second) le in
        elim next [
          | inl apart ↦
              inl (
                ap (λ o. text_with_splits o ys) out ∙ apart.0 ∙ ap (λ o. first ++ text_with_splits o ys) (sym alone),
                ap₂ (λ es o. es ++ split_events o ys) events out ∙ ap (λ es. map (shifted_event (length first)) here ++ es) apart.1 ∙ sym (map-append (shifted_event (length first)) here (split_events (with_vowel second y) ys))
                    ∙ ap (map (shifted_event (length first))) (ap₂ (λ (es : List Event) o. es ++ split_events o ys) (sym (cond-true _ _ _ found)) (sym alone)),
              )
          | inr crossed ↦ inr (subst (IsCrossed (length first) n) (sym (ap₂ (λ es o. es ++ split_events o ys) events out)) (crossed_after (length first) n (n + 1) here (split_events (first ++ with_vowel second y) ys) adds.bounded adds.counted crossed))
        ]
    | inr over ↦
        inr (subst (λ (es : List Event). IsCrossed (length first) n (es ++ split_events (with_character (first ++ second) y) ys)) (sym (cond-true _ _ _ found)) (vowel_crosses first second n (split_events (with_character (first ++ second) y) ys) (omega (arith, e)) over.0 over.1))
  ]
  | inr lacks ↦
      let many = length-append second (y ∷ []) in
      let next = rest_divides first (second ++ y ∷ []) ys n (omega (arith, e, many)) in
      let out : with_character (first ++ second) y ≡ first ++ (second ++ y ∷ []) = cond-false _ _ _ lacks ∙ append_assoc first second (y ∷ []) in
      let alone : with_character second y ≡ second ++ y ∷ [] = cond-false _ _ _ lacks in
      let none : events_of_character (first ++ second) y ≡ [] = cond-false _ _ _ lacks in
      let late_none : events_of_character second y ≡ [] = cond-false _ _ _ lacks in
      elim next [
        | inl apart ↦
            inl (
              ap (λ o. text_with_splits o ys) out ∙ apart.0 ∙ ap (λ o. first ++ text_with_splits o ys) (sym alone),
              ap₂ (λ es o. es ++ split_events o ys) none out ∙ apart.1 ∙ ap (map (shifted_event (length first))) (ap₂ (λ (es : List Event) o. es ++ split_events o ys) (sym late_none) (sym alone)),
            )
        | inr crossed ↦ inr (subst (IsCrossed (length first) n) (sym (ap₂ (λ es o. es ++ split_events o ys) none out)) crossed)
      ]
]

-- a crossing in the rest of a text is one in the whole
crossed_across : (xs ys : List Item) → AreGiven 0 xs → IsCrossed (length (text_with_splits [] xs)) (length ys) (split_events (text_with_splits [] xs ++ []) ys) → IsAcross (length xs) (length ys) (split_events [] (xs ++ ys))
crossed_across xs ys given x =
    let first = text_with_splits [] xs in
    let early = split_events [] xs in
    let p = vowels_rewrite [] xs (length xs) (omega arith) tt given in
    let events : split_events [] (xs ++ ys) ≡ early ++ split_events (first ++ []) ys = events_both [] xs ys ∙ ap (λ o. early ++ split_events o ys) (sym (append-nil first)) in
    let low = x.low in
    let high = x.high in
    let fits = x.fits in
    let counted = p.counted in
    record {
      early = early;
      late = x.late;
      event = x.event;
      rest = x.rest;
      span = x.span;
      is = events ∙ ap (λ es. early ++ es) x.is ∙ sym (append_assoc early (map (shifted_event (length first)) x.late) (x.event ∷ x.rest)) ∙ ap (λ (n : ℕ). (early ++ map (shifted_event n) x.late) ++ x.event ∷ x.rest) (sym counted);
      early_bounded = p.bounded;
      late_bounded = x.bounded;
      binds = x.binds;
      low = omega (arith, low, counted);
      high = omega (arith, high, counted);
      fits = omega (arith, fits, counted);
    }

pub vowels_divide : (xs ys : List Item) → AreGiven 0 xs → DividesOrCrosses vowels_arranged xs ys
vowels_divide xs ys given =
    let first = text_with_splits [] xs in
    let early = split_events [] xs in
    let none : first ++ [] ≡ first = append-nil first in
    let items : text_with_splits [] (xs ++ ys) ≡ text_with_splits (first ++ []) ys = splits_both [] xs ys ∙ ap (λ o. text_with_splits o ys) (sym none) in
    let events : split_events [] (xs ++ ys) ≡ early ++ split_events (first ++ []) ys = events_both [] xs ys ∙ ap (λ o. early ++ split_events o ys) (sym none) in
    elim (rest_divides first [] ys (length ys) (omega arith)) [
      | inl apart ↦ inl (ap₂ (λ us es. record { items = us; events = es }) (items ∙ apart.0) (events ∙ ap (λ es. early ++ es) apart.1))
      | inr x ↦ inr (crossed_across xs ys given x)
    ]

-- a vowel that begins the second text is moved before the marks above that end the first
pub vowels_across : (xs : List Item) (y : Item) (ys : List Item) → AreGiven 0 xs → is_sara_am y ≡ true → 0 < count_above (text_with_splits [] xs) → IsAcross (length xs) (length (y ∷ ys)) (split_events [] (xs ++ y ∷ ys))
vowels_across xs y ys given found some =
    let first = text_with_splits [] xs in
    let none : first ++ [] ≡ first = append-nil first in
    let all : count_above (first ++ []) ≡ 0 + count_above first = ap count_above none ∙ none_more (count_above first) in
    crossed_across xs (y ∷ ys) given
    (subst (λ (es : List Event). IsCrossed (length first) (length (y ∷ ys)) (es ++ split_events (with_character (first ++ []) y) ys)) (sym (cond-true _ _ _ found)) (vowel_crosses first [] (length (y ∷ ys)) (split_events (with_character (first ++ []) y) ys) (omega arith) some all))
  where
    none_more : (n : ℕ) → n ≡ 0 + n
    none_more n = omega arith

-- Fractions of a text that is broken into two.
use Rattle.std.proofs.Common.{ℕ, zero, suc, ◌≡◌, ◌≤◌, ◌<◌, ◌+◌, ◌-◌, ◌==◌, ◌||◌, ◌⊎◌, inl, inr, Bool, true, false, if◌then◌else◌, List, [], ◌∷◌, ◌++◌, length, map, reverse, take, drop, Option, None, Some, append_assoc, arith, refl, sym, ap, subst, ◌∙◌}
use Rattle.std.specs.Prelude.{slice_get, slice_range}
use Rattle.std.specs.Option.{option_map_or}
use Rattle.std.proofs.lemmas.Bool.Decides.{nat_tests}
use Rattle.std.proofs.lemmas.Grind.{common_steps}
use Rattle.std.proofs.lemmas.List.{append-nil, length-append, length-drop, length-map, length-reverse, length-take, reverse-append, take-append-le, drop-append-le}
use Rattle.std.proofs.Math.Seq.{take-append-add}
use Rattle.buffer_common.specs.declared.direction.Direction.{Direction}
use Rattle.buffer_glyphs.specs.declared.level.BufferClusterLevel.{BufferClusterLevel}
use Rattle.buffer_glyphs.specs.Events.{Event, Break, Concat, IsPlain}
use Rattle.buffer_glyphs.specs.Items.{Item}
use Rattle.buffer_glyphs.specs.Origins.{Origin, Span}
use Rattle.buffer_glyphs.specs.Rewriting.{shifted_event}
use Rattle.buffer_glyphs.specs.Lemmas.Origins.{origins_after_both}
use Rattle.buffer_parts.specs.Counts.{count_after}
use Rattle.buffer_parts.specs.Lemmas.Orderly.{plain_is_orderly}
use Rattle.buffer_core.specs.Readings.{View, Read, BufferState, state_after, with_events}
use Rattle.buffer_parts.specs.Breaks.Unsafe.{IsUnsafeAt}
use Rattle.buffer_parts.specs.Breaks.Concat.{without_concats}
use Rattle.buffer_parts.specs.Breaks.Lossless.{AreLossless}
use Rattle.buffer_parts.specs.Breaks.Sides.{AreBounded}
use Rattle.buffer_parts.specs.Breaks.Fragments.{AreFragments, AreGiven, IsWhole}
use Rattle.buffer_parts.specs.Breaks.Beside.{IsReadAlone}
use Rattle.buffer_parts.specs.Breaks.Divisible.{IsBreakable, StaysDivided}
use Rattle.buffer_parts.proofs.BreakLemmas.Beside.{beside_stays_divided, crossing_is_unsafe}
use Rattle.buffer_parts.proofs.BreakLemmas.Events.{unsafe_stays}
use Rattle.buffer_properties.specs.Categories.{is_decimal_number}
use Rattle.shape_text.specs.declared.fractions.FractionMasks.{FractionMasks}
use Rattle.shape_text.specs.Fractions.{around_slash, digits, digits_after, digits_before, first_mask, fraction_at, fraction_items, fractions_to, is_slash, is_slash_at, last_mask, with_features, with_features_within}
use Rattle.shape_laws.specs.Breaks.Laws.{FractionsDivide}
use Rattle.shape_laws.specs.Breaks.Texts.{StaysBroken}
use Rattle.shape_laws.proofs.BreakLemmas.Begun.{plainly_breakable}
use Rattle.shape_laws.proofs.BreakLemmas.Unnumbered.{given_early, given_late, plain_items, plainly_beside}
use Rattle.shape_parts.proofs.Masks.{within_many}
use Rattle.layout_laws.proofs.BreakLemmas.Frames.{given_both}

-- ---- digits

digits_within : (xs : List Item) → digits xs ≤ length xs
digits_within [] = omega arith
digits_within (x ∷ xs) = let rest = digits_within xs in elim (is_decimal_number x) as (λ b. (if b then digits xs + 1 else 0) ≤ suc (length xs)) [ true ↦ omega (arith, rest) | false ↦ omega arith ]

-- digits that end in a list end there whatever follows; else those that follow are counted too
digits_end : (xs ys : List Item) → ((digits xs < length xs) × (digits (xs ++ ys) ≡ digits xs)) ⊎ ((digits xs ≡ length xs) × (digits (xs ++ ys) ≡ length xs + digits ys))
digits_end [] ys = inr (refl, omega arith)
digits_end (x ∷ xs) ys = by_test (is_decimal_number x) (digits_end xs ys)
  where
    by_test : (b : Bool) → ((digits xs < length xs) × (digits (xs ++ ys) ≡ digits xs)) ⊎ ((digits xs ≡ length xs) × (digits (xs ++ ys) ≡ length xs + digits ys))
        → (((if b then digits xs + 1 else 0) < suc (length xs)) × ((if b then digits (xs ++ ys) + 1 else 0) ≡ (if b then digits xs + 1 else 0))) ⊎ (((if b then digits xs + 1 else 0) ≡ suc (length xs)) × ((if b then digits (xs ++ ys) + 1 else 0) ≡ suc (length xs) + digits ys))
    by_test true (inl h) = let low = h.0 in let same = h.1 in inl (omega (arith, low), omega (arith, same))
    by_test true (inr h) = let all = h.0 in let more = h.1 in inr (omega (arith, all), omega (arith, more))
    by_test false h = inl (omega arith, refl)

-- ---- slashes

get_first : (xs ys : List Item) (i : ℕ) → i < length xs → slice_get (xs ++ ys) i ≡ slice_get xs i
get_first [] ys i lt = absurd (omega (arith, lt))
get_first (x ∷ xs) ys zero lt = refl
get_first (x ∷ xs) ys (suc i) lt = get_first xs ys i (omega (arith, lt))

get_second : (xs ys : List Item) (k : ℕ) → slice_get (xs ++ ys) (length xs + k) ≡ slice_get ys k
get_second [] ys k = let e : 0 + k ≡ k = omega arith in ap (slice_get ys) e
get_second (x ∷ xs) ys k = let e : suc (length xs) + k ≡ suc (length xs + k) = omega arith in ap (slice_get (x ∷ (xs ++ ys))) e ∙ get_second xs ys k

pub drop_second : (xs ys : List Item) (k : ℕ) → drop (length xs + k) (xs ++ ys) ≡ drop k ys
drop_second [] ys k = let e : 0 + k ≡ k = omega arith in ap (λ (i : ℕ). drop i ys) e
drop_second (x ∷ xs) ys k = let e : suc (length xs) + k ≡ suc (length xs + k) = omega arith in ap (λ (i : ℕ). drop i (x ∷ (xs ++ ys))) e ∙ drop_second xs ys k

-- the range of the fraction at an index, if a slash with numbers on both sides is there
abbrev span_of : Bool → ℕ → ℕ → ℕ → Option Span
span_of false at before after = None
span_of true at before after = if before == 0 || after == 0 then None else Some (record { from = at - before; to = at + 1 + after })

abbrev some_span : ℕ → ℕ → Option Span
some_span from to = Some (record { from = from; to = to })

abbrev fraction_span : ℕ → List Item → Option Span
fraction_span at xs = span_of (is_slash_at at xs) at (digits_before at xs) (digits_after at xs)

-- items with the masks of such a fraction
abbrev with_fraction : Direction → FractionMasks → ℕ → Option Span → List Item → List Item
with_fraction d m at None xs = xs
with_fraction d m at (Some s) xs = fraction_items d m s.from at s.to xs

-- the flags of such a fraction
abbrev span_events : Option Span → List Event
span_events None = []
span_events (Some s) = Break s.from s.to ∷ []

-- what is read at an index, by the fraction there
record ReadsFraction (m : FractionMasks) (at : ℕ) (v : View) (o : Option Span) (r : Read) : Type 0 where
  view : r.view ≡ record v { items = with_fraction v.direction m at o v.items }
  events : (level : BufferClusterLevel) → without_concats (r.events level) ≡ span_events o
  plain : (level : BufferClusterLevel) → IsPlain (r.events level)
  lossless : (level : BufferClusterLevel) (n : ℕ) → AreLossless (r.events level) n
  counted : (level : BufferClusterLevel) (n : ℕ) → count_after (r.events level) n ≡ n

fraction_is : (m : FractionMasks) (at : ℕ) (v : View) → ReadsFraction m at v (fraction_span at v.items) (fraction_at m at v)
fraction_is m at v = by_slash (is_slash_at at v.items)
  where
    b : ℕ
    b = digits_before at v.items

    a : ℕ
    a = digits_after at v.items

    by_numbers : (t : Bool) → ReadsFraction m at v (if t then None else Some (record { from = at - b; to = at + 1 + a }))
        (if t then with_events (Concat at (at + 1) ∷ []) v else with_events (Break (at - b) (at + 1 + a) ∷ []) (record v { items = fraction_items v.direction m (at - b) at (at + 1 + a) v.items }))
    by_numbers true = record { view = refl; events = λ level. refl; plain = λ level. tt; lossless = λ level n. (tt, tt); counted = λ level n. refl }
    by_numbers false = record { view = refl; events = λ level. refl; plain = λ level. tt; lossless = λ level n. (tt, tt); counted = λ level n. refl }

    by_slash : (t : Bool) → ReadsFraction m at v (span_of t at b a) (if t then around_slash m at b a v else with_events [] v)
    by_slash true = by_numbers (b == 0 || a == 0)
    by_slash false = record { view = refl; events = λ level. refl; plain = λ level. tt; lossless = λ level n. tt; counted = λ level n. refl }

-- ---- fractions in the first of two texts, and in the second

-- a fraction across two texts, the first of m characters and both of all
abbrev IsAcrossAt : ℕ → ℕ → Option Span → Type 0
IsAcrossAt m all None = ⊥
IsAcrossAt m all (Some s) = (s.from < m) × (m < s.to) × (s.to ≤ all)

-- a fraction around an index of a text
abbrev IsAround : ℕ → ℕ → Option Span → Type 0
IsAround at n None = Unit {0}
IsAround at n (Some s) = (s.from ≤ at) × (at + 1 ≤ s.to) × (s.to ≤ n)

span_around : (t : Bool) (at before after n : ℕ) → at + 1 + after ≤ n → IsAround at n (span_of t at before after)
span_around false at before after n le = tt
span_around true at before after n le = elim (before == 0 || after == 0) as (λ b. IsAround at n (if b then None else Some (record { from = at - before; to = at + 1 + after }))) [ true ↦ tt | false ↦ (omega arith, omega arith, le) ]

after_within : (at : ℕ) (xs : List Item) → at < length xs → at + 1 + digits_after at xs ≤ length xs
after_within at xs lt = let rest = digits_within (drop (at + 1) xs) in let many = length-drop (at + 1) xs in omega (arith, rest, many, lt)

slash_within : (at : ℕ) (xs : List Item) → IsAround at (length xs) (fraction_span at xs)
slash_within at xs = by_slash (is_slash_at at xs) refl
  where
    past : (zs : List Item) (i : ℕ) → option_map_or is_slash (slice_get zs i) false ≡ true → i < length zs
    past [] i e = cc
    past (z ∷ zs) zero e = omega arith
    past (z ∷ zs) (suc i) e = let rest = past zs i e in omega (arith, rest)

    by_slash : (t : Bool) → is_slash_at at xs ≡ t → IsAround at (length xs) (span_of t at (digits_before at xs) (digits_after at xs))
    by_slash false e = tt
    by_slash true e = span_around true at (digits_before at xs) (digits_after at xs) (length xs) (after_within at xs (past xs at e))

first_span : (xs ys : List Item) (at : ℕ) → at < length xs → (fraction_span at (xs ++ ys) ≡ fraction_span at xs) ⊎ IsAcrossAt (length xs) (length xs + length ys) (fraction_span at (xs ++ ys))
first_span xs ys at lt = by_end (digits_end (drop (at + 1) xs) ys)
  where
    slash : is_slash_at at (xs ++ ys) ≡ is_slash_at at xs
    slash = ap (λ o. option_map_or is_slash o false) (get_first xs ys at lt)

    before : digits_before at (xs ++ ys) ≡ digits_before at xs
    before = ap (λ zs. digits (reverse zs)) (take-append-le at xs ys (omega (arith, lt)))

    rest : drop (at + 1) (xs ++ ys) ≡ drop (at + 1) xs ++ ys
    rest = drop-append-le (at + 1) xs ys (omega (arith, lt))

    same_span : digits_after at (xs ++ ys) ≡ digits_after at xs → fraction_span at (xs ++ ys) ≡ fraction_span at xs
    same_span e = ap (λ (t : Bool). span_of t at (digits_before at (xs ++ ys)) (digits_after at (xs ++ ys))) slash ∙ ap (λ (b : ℕ). span_of (is_slash_at at xs) at b (digits_after at (xs ++ ys))) before ∙ ap (span_of (is_slash_at at xs) at (digits_before at xs)) e

    -- digits reach the end of the first text
    by_more : (t : Bool) (b a : ℕ) → length xs < at + 1 + a → at + 1 + a ≤ length xs + length ys → ((b == 0) ≡ true) ⊎ ((t ≡ false) ⊎ IsAcrossAt (length xs) (length xs + length ys) (span_of t at b a))
    by_more false b a high fits = inr (inl refl)
    by_more true b a high fits = by_zero (b == 0) refl
      where
        positive : (a == 0) ≡ false
        positive = grind (arith, nat_tests, common_steps, high, lt)

        by_zero : (z : Bool) → (b == 0) ≡ z → (z ≡ true) ⊎ ((true ≡ false) ⊎ IsAcrossAt (length xs) (length xs + length ys) (if z || a == 0 then None else Some (record { from = at - b; to = at + 1 + a })))
        by_zero true e = inl refl
        by_zero false e = inr (inr (subst (λ (k : Bool). IsAcrossAt (length xs) (length xs + length ys) (if k then None else Some (record { from = at - b; to = at + 1 + a }))) (sym positive) (omega (arith, lt), high, fits)))

    none_either : (t : Bool) (b a n : ℕ) → (b == 0) ≡ true → span_of t at b n ≡ span_of t at b a
    none_either false b a n e = refl
    none_either true b a n e = ap (λ (z : Bool). if z || n == 0 then None else some_span (at - b) (at + 1 + n)) e ∙ sym (ap (λ (z : Bool). if z || a == 0 then None else some_span (at - b) (at + 1 + a)) e)

    no_slash : (t : Bool) (b a n : ℕ) → t ≡ false → span_of t at b n ≡ span_of t at b a
    no_slash true b a n e = cc
    no_slash false b a n e = refl

    by_end : ((digits (drop (at + 1) xs) < length (drop (at + 1) xs)) × (digits (drop (at + 1) xs ++ ys) ≡ digits (drop (at + 1) xs))) ⊎ ((digits (drop (at + 1) xs) ≡ length (drop (at + 1) xs)) × (digits (drop (at + 1) xs ++ ys) ≡ length (drop (at + 1) xs) + digits ys))
        → (fraction_span at (xs ++ ys) ≡ fraction_span at xs) ⊎ IsAcrossAt (length xs) (length xs + length ys) (fraction_span at (xs ++ ys))
    by_end (inl h) = inl (same_span (ap digits rest ∙ h.1))
    by_end (inr h) = by_digits (digits ys) refl
      where
        many : length (drop (at + 1) xs) ≡ length xs - (at + 1)
        many = length-drop (at + 1) xs

        after : digits_after at (xs ++ ys) ≡ length (drop (at + 1) xs) + digits ys
        after = ap digits rest ∙ h.1

        by_digits : (n : ℕ) → digits ys ≡ n → (fraction_span at (xs ++ ys) ≡ fraction_span at xs) ⊎ IsAcrossAt (length xs) (length xs + length ys) (fraction_span at (xs ++ ys))
        by_digits zero e = let all = h.0 in inl (same_span (omega (arith, after, e, all)))
        by_digits (suc n) e =
            let within = digits_within ys in
            let t = is_slash_at at (xs ++ ys) in
            let b = digits_before at (xs ++ ys) in
            let a = digits_after at (xs ++ ys) in
            elim (by_more t b a (omega (arith, after, many, e, lt)) (omega (arith, after, many, within, lt))) [
              | inl none ↦ inl (none_either t b (digits_after at xs) a none ∙ ap (λ (k : ℕ). span_of t at k (digits_after at xs)) before ∙ ap (λ (k : Bool). span_of k at (digits_before at xs) (digits_after at xs)) slash)
              | inr more ↦ elim more [
                | inl no_one ↦ inl (no_slash t b (digits_after at xs) a no_one ∙ ap (λ (k : ℕ). span_of t at k (digits_after at xs)) before ∙ ap (λ (k : Bool). span_of k at (digits_before at xs) (digits_after at xs)) slash)
                | inr across ↦ inr across
              ]
            ]

-- a range by indices that are counted from further before
abbrev shifted_span : ℕ → Option Span → Option Span
shifted_span n None = None
shifted_span n (Some s) = Some (record { from = n + s.from; to = n + s.to })

second_span : (xs ys : List Item) (k : ℕ) → k < length ys → 0 < length xs → (fraction_span (length xs + k) (xs ++ ys) ≡ shifted_span (length xs) (fraction_span k ys)) ⊎ IsAcrossAt (length xs) (length xs + length ys) (fraction_span (length xs + k) (xs ++ ys))
second_span xs ys k lt some = by_end (digits_end (reverse (take k ys)) (reverse xs))
  where
    m : ℕ
    m = length xs

    slash : is_slash_at (m + k) (xs ++ ys) ≡ is_slash_at k ys
    slash = ap (λ o. option_map_or is_slash o false) (get_second xs ys k)

    index : m + k + 1 ≡ m + (k + 1)
    index = omega arith

    after : digits_after (m + k) (xs ++ ys) ≡ digits_after k ys
    after = ap (λ (i : ℕ). digits (drop i (xs ++ ys))) index ∙ ap digits (drop_second xs ys (k + 1))

    front : reverse (take (m + k) (xs ++ ys)) ≡ reverse (take k ys) ++ reverse xs
    front = ap reverse (take-append-add xs ys k) ∙ reverse-append xs (take k ys)

    many : length (reverse (take k ys)) ≡ k
    many = let one = length-reverse (take k ys) in let two = length-take k ys in omega (arith, one, two, lt)

    within : k + 1 + digits_after k ys ≤ length ys
    within = after_within k ys lt

    moved : (t : Bool) (b a : ℕ) → b ≤ k → span_of t (m + k) b a ≡ shifted_span m (span_of t k b a)
    moved false b a le = refl
    moved true b a le = by_none (b == 0 || a == 0)
      where
        low : m + k - b ≡ m + (k - b)
        low = omega (arith, le)

        high : m + k + 1 + a ≡ m + (k + 1 + a)
        high = omega arith

        by_none : (z : Bool) → (if z then None else some_span (m + k - b) (m + k + 1 + a)) ≡ shifted_span m (if z then None else some_span (k - b) (k + 1 + a))
        by_none true = refl
        by_none false = ap (λ (i : ℕ). some_span i (m + k + 1 + a)) low ∙ ap (λ (i : ℕ). some_span (m + (k - b)) i) high

    same_span : digits_before (m + k) (xs ++ ys) ≡ digits_before k ys → digits_before k ys ≤ k → fraction_span (m + k) (xs ++ ys) ≡ shifted_span m (fraction_span k ys)
    same_span e le =
        ap (λ (t : Bool). span_of t (m + k) (digits_before (m + k) (xs ++ ys)) (digits_after (m + k) (xs ++ ys))) slash ∙ ap (span_of (is_slash_at k ys) (m + k) (digits_before (m + k) (xs ++ ys))) after
        ∙ ap (λ (b : ℕ). span_of (is_slash_at k ys) (m + k) b (digits_after k ys)) e ∙ moved (is_slash_at k ys) (digits_before k ys) (digits_after k ys) le

    by_more : (t : Bool) (b a : ℕ) → k < b → b ≤ m + k → k + 1 + a ≤ length ys → (t ≡ false) ⊎ (((a == 0) ≡ true) ⊎ IsAcrossAt m (m + length ys) (span_of t (m + k) b a))
    by_more false b a low fits high = inl refl
    by_more true b a low fits high = by_zero (a == 0) refl
      where
        positive : (b == 0) ≡ false
        positive = grind (arith, nat_tests, common_steps, low)

        by_zero : (z : Bool) → (a == 0) ≡ z → (true ≡ false) ⊎ ((z ≡ true) ⊎ IsAcrossAt m (m + length ys) (if b == 0 || z then None else Some (record { from = m + k - b; to = m + k + 1 + a })))
        by_zero true e = inr (inl refl)
        by_zero false e = inr (inr (subst (λ (z : Bool). IsAcrossAt m (m + length ys) (if z || false then None else Some (record { from = m + k - b; to = m + k + 1 + a }))) (sym positive) (omega (arith, low, fits, some), omega arith, omega (arith, high))))

    none_either : (t : Bool) (at b n a : ℕ) → (a == 0) ≡ true → span_of t at b a ≡ None
    none_either false at b n a e = refl
    none_either true at b n a e = by_first (b == 0) (a == 0) e
      where
        by_first : (y z : Bool) → z ≡ true → (if y || z then None else some_span (at - b) (at + 1 + a)) ≡ None
        by_first true z e = refl
        by_first false true e = refl
        by_first false false e = cc

    by_end : ((digits (reverse (take k ys)) < length (reverse (take k ys))) × (digits (reverse (take k ys) ++ reverse xs) ≡ digits (reverse (take k ys)))) ⊎ ((digits (reverse (take k ys)) ≡ length (reverse (take k ys))) × (digits (reverse (take k ys) ++ reverse xs) ≡ length (reverse (take k ys)) + digits (reverse xs)))
        → (fraction_span (m + k) (xs ++ ys) ≡ shifted_span m (fraction_span k ys)) ⊎ IsAcrossAt m (m + length ys) (fraction_span (m + k) (xs ++ ys))
    by_end (inl h) = let low = h.0 in inl (same_span (ap digits front ∙ h.1) (omega (arith, low, many)))
    by_end (inr h) = by_digits (digits (reverse xs)) refl
      where
        before : digits_before (m + k) (xs ++ ys) ≡ length (reverse (take k ys)) + digits (reverse xs)
        before = ap digits front ∙ h.1

        by_digits : (n : ℕ) → digits (reverse xs) ≡ n → (fraction_span (m + k) (xs ++ ys) ≡ shifted_span m (fraction_span k ys)) ⊎ IsAcrossAt m (m + length ys) (fraction_span (m + k) (xs ++ ys))
        by_digits zero e = let all = h.0 in inl (same_span (omega (arith, before, e, all)) (omega (arith, all, many)))
        by_digits (suc n) e =
            let back = digits_within (reverse xs) in
            let size = length-reverse xs in
            let t = is_slash_at (m + k) (xs ++ ys) in
            let b = digits_before (m + k) (xs ++ ys) in
            let a = digits_after (m + k) (xs ++ ys) in
            elim (by_more t b a (omega (arith, before, many, e)) (omega (arith, before, many, back, size)) (omega (arith, within, after))) [
              | inl no_one ↦ inl (ap (λ (z : Bool). span_of z (m + k) b a) no_one ∙ ap (shifted_span m) (ap (λ (z : Bool). span_of z k (digits_before k ys) (digits_after k ys)) (sym (sym slash ∙ no_one))))
              | inr more ↦ elim more [
                | inl none ↦ inl (none_either t (m + k) b b a none ∙ ap (shifted_span m) (sym (none_either (is_slash_at k ys) k (digits_before k ys) b (digits_after k ys) (ap (λ (i : ℕ). i == 0) (sym after) ∙ none))))
                | inr across ↦ inr across
              ]
            ]

-- ---- items

within_first : (mask from to : ℕ) (xs ys : List Item) → from ≤ to → to ≤ length xs → with_features_within mask from to (xs ++ ys) ≡ with_features_within mask from to xs ++ ys
within_first mask from to xs ys le fits =
    let rest = length-drop from xs in
    let cut : slice_range (xs ++ ys) from to ≡ slice_range xs from to =
    ap (take (to - from)) (drop-append-le from xs ys (omega (arith, le, fits))) ∙ take-append-le (to - from) (drop from xs) ys (omega (arith, rest, le, fits)) in
    ap (λ zs. zs ++ map (with_features mask) (slice_range (xs ++ ys) from to) ++ drop to (xs ++ ys)) (take-append-le from xs ys (omega (arith, le, fits)))
    ∙ ap (λ zs. take from xs ++ map (with_features mask) zs ++ drop to (xs ++ ys)) cut
    ∙ ap (λ zs. take from xs ++ map (with_features mask) (slice_range xs from to) ++ zs) (drop-append-le to xs ys fits)
    ∙ sym (append_assoc (take from xs ++ map (with_features mask) (slice_range xs from to)) (drop to xs) ys)

within_second : (mask from to : ℕ) (xs ys : List Item) → with_features_within mask (length xs + from) (length xs + to) (xs ++ ys) ≡ xs ++ with_features_within mask from to ys
within_second mask from to xs ys =
    let size : length xs + to - (length xs + from) ≡ to - from = omega arith in
    let cut : slice_range (xs ++ ys) (length xs + from) (length xs + to) ≡ slice_range ys from to =
    ap (λ (n : ℕ). take n (drop (length xs + from) (xs ++ ys))) size ∙ ap (take (to - from)) (drop_second xs ys from) in
    let middle = map (with_features mask) (slice_range ys from to) in
    ap (λ zs. zs ++ map (with_features mask) (slice_range (xs ++ ys) (length xs + from) (length xs + to)) ++ drop (length xs + to) (xs ++ ys)) (take-append-add xs ys from)
    ∙ ap (λ zs. (xs ++ take from ys) ++ map (with_features mask) zs ++ drop (length xs + to) (xs ++ ys)) cut
    ∙ ap (λ zs. (xs ++ take from ys) ++ middle ++ zs) (drop_second xs ys to)
    ∙ ap (λ zs. zs ++ drop to ys) (append_assoc xs (take from ys) middle)
    ∙ append_assoc xs (take from ys ++ middle) (drop to ys)

given_take : (n : ℕ) (xs : List Item) → AreGiven 0 xs → AreGiven 0 (take n xs)
given_take zero xs h = tt
given_take (suc n) [] h = tt
given_take (suc n) (x ∷ xs) h = (h.0, given_take n xs h.1)

given_drop : (n : ℕ) (xs : List Item) → AreGiven 0 xs → AreGiven 0 (drop n xs)
given_drop zero xs h = h
given_drop (suc n) [] h = tt
given_drop (suc n) (x ∷ xs) h = given_drop n xs h.1

featured_given : (mask : ℕ) (xs : List Item) → AreGiven 0 xs → AreGiven 0 (map (with_features mask) xs)
featured_given mask [] h = tt
featured_given mask (x ∷ xs) h = (h.0, featured_given mask xs h.1)

within_given : (mask from to : ℕ) (xs : List Item) → AreGiven 0 xs → AreGiven 0 (with_features_within mask from to xs)
within_given mask from to xs h =
    given_both 0 (take from xs ++ map (with_features mask) (slice_range xs from to)) (drop to xs)
    (given_both 0 (take from xs) (map (with_features mask) (slice_range xs from to)) (given_take from xs h) (featured_given mask (slice_range xs from to) (given_take (to - from) (drop from xs) (given_drop from xs h)))) (given_drop to xs h)

fraction_first : (d : Direction) (m : FractionMasks) (start at end : ℕ) (xs ys : List Item) → start ≤ at → at + 1 ≤ end → end ≤ length xs → fraction_items d m start at end (xs ++ ys) ≡ fraction_items d m start at end xs ++ ys
fraction_first d m start at end xs ys low high fits =
    let one = with_features_within (first_mask d m) start at xs in
    let two = with_features_within m.frac at (at + 1) one in
    let one_many : length one ≡ length xs = within_many (first_mask d m) start at xs low in
    let two_many : length two ≡ length one = within_many m.frac at (at + 1) one (omega arith) in
    ap (λ zs. with_features_within (last_mask d m) (at + 1) end (with_features_within m.frac at (at + 1) zs)) (within_first (first_mask d m) start at xs ys low (omega (arith, high, fits)))
    ∙ ap (with_features_within (last_mask d m) (at + 1) end) (within_first m.frac at (at + 1) one ys (omega arith) (omega (arith, one_many, high, fits)))
    ∙ within_first (last_mask d m) (at + 1) end two ys high (omega (arith, one_many, two_many, fits))

fraction_second : (d : Direction) (m : FractionMasks) (start at end : ℕ) (xs ys : List Item) → fraction_items d m (length xs + start) (length xs + at) (length xs + end) (xs ++ ys) ≡ xs ++ fraction_items d m start at end ys
fraction_second d m start at end xs ys =
    let n = length xs in
    let next : n + at + 1 ≡ n + (at + 1) = omega arith in
    let one = with_features_within (first_mask d m) start at ys in
    ap (λ zs. with_features_within (last_mask d m) (n + at + 1) (n + end) (with_features_within m.frac (n + at) (n + at + 1) zs)) (within_second (first_mask d m) start at xs ys)
    ∙ ap (λ (i : ℕ). with_features_within (last_mask d m) i (n + end) (with_features_within m.frac (n + at) i (xs ++ one))) next
    ∙ ap (with_features_within (last_mask d m) (n + (at + 1)) (n + end)) (within_second m.frac at (at + 1) xs one)
    ∙ within_second (last_mask d m) (at + 1) end xs (with_features_within m.frac at (at + 1) one)

spanned_first : (d : Direction) (m : FractionMasks) (at : ℕ) (o : Option Span) (xs ys : List Item) → IsAround at (length xs) o → with_fraction d m at o (xs ++ ys) ≡ with_fraction d m at o xs ++ ys
spanned_first d m at None xs ys h = refl
spanned_first d m at (Some s) xs ys h = fraction_first d m s.from at s.to xs ys h.0 h.1 h.2

spanned_second : (d : Direction) (m : FractionMasks) (at : ℕ) (o : Option Span) (xs ys : List Item) → with_fraction d m (length xs + at) (shifted_span (length xs) o) (xs ++ ys) ≡ xs ++ with_fraction d m at o ys
spanned_second d m at None xs ys = refl
spanned_second d m at (Some s) xs ys = fraction_second d m s.from at s.to xs ys

spanned_many : (d : Direction) (m : FractionMasks) (at : ℕ) (o : Option Span) (xs : List Item) → IsAround at (length xs) o → length (with_fraction d m at o xs) ≡ length xs
spanned_many d m at None xs h = refl
spanned_many d m at (Some s) xs h =
    let one = with_features_within (first_mask d m) s.from at xs in
    let two = with_features_within m.frac at (at + 1) one in
    within_many (last_mask d m) (at + 1) s.to two h.1 ∙ within_many m.frac at (at + 1) one (omega arith) ∙ within_many (first_mask d m) s.from at xs h.0

spanned_given : (d : Direction) (m : FractionMasks) (at : ℕ) (o : Option Span) (xs : List Item) → AreGiven 0 xs → AreGiven 0 (with_fraction d m at o xs)
spanned_given d m at None xs h = h
spanned_given d m at (Some s) xs h =
    within_given (last_mask d m) (at + 1) s.to (with_features_within m.frac at (at + 1) (with_features_within (first_mask d m) s.from at xs)) (within_given m.frac at (at + 1) (with_features_within (first_mask d m) s.from at xs) (within_given (first_mask d m) s.from at xs h))

-- ---- one index of one text

abbrev at_state : FractionMasks → ℕ → BufferState → BufferState
at_state m at s = state_after (fraction_at m at s.view) s

-- the view that is read at an index
abbrev at_view : FractionMasks → ℕ → View → View
at_view m at v = record v { items = with_fraction v.direction m at (fraction_span at v.items) v.items }

at_many : (m : FractionMasks) (at : ℕ) (v : View) → length (fraction_at m at v).view.items ≡ length v.items
at_many m at v = ap (λ (w : View). length w.items) (fraction_is m at v).view ∙ spanned_many v.direction m at (fraction_span at v.items) v.items (slash_within at v.items)

at_breakable : (m : FractionMasks) (at : ℕ) (s : BufferState) → IsBreakable s → IsBreakable (at_state m at s)
at_breakable m at s b =
    let r = fraction_is m at s.view in
    let many = at_many m at s.view in
    plainly_breakable s (fraction_at m at s.view) (r.plain s.level) (r.counted s.level (length s.origins) ∙ b.whole.origins ∙ sym many) (ap (λ (w : View). length w.positions) r.view ∙ b.whole.positions ∙ sym many) b

at_unsafe : (m : FractionMasks) (at c : ℕ) (s : BufferState) → IsBreakable s → IsUnsafeAt c s.origins → IsUnsafeAt c (at_state m at s).origins
at_unsafe m at c s b u =
    let r = fraction_is m at s.view in
    let es = (fraction_at m at s.view).events s.level in
    unsafe_stays s.asks s.level es s.origins c b.breaks (plain_is_orderly s.asks s.level es s.origins (r.plain s.level)) (r.lossless s.level (length s.origins)) u

at_given : (m : FractionMasks) (at : ℕ) (v : View) → AreGiven 0 v.items → AreGiven 0 (fraction_at m at v).view.items
at_given m at v h = subst (λ (w : View). AreGiven 0 w.items) (sym (fraction_is m at v).view) (spanned_given v.direction m at (fraction_span at v.items) v.items h)

at_number : (m : FractionMasks) (at : ℕ) (v : View) → (fraction_at m at v).view.lig_id ≡ v.lig_id
at_number m at v = ap (λ (w : View). w.lig_id) (fraction_is m at v).view

around_bounded : (at n : ℕ) (o : Option Span) → IsAround at n o → at < n → AreBounded (span_events o) n
around_bounded at n None h lt = tt
around_bounded at n (Some s) h lt = let low = h.0 in let fits = h.2 in ((omega (arith, low, lt), fits), tt)

at_alone : (m : FractionMasks) (at : ℕ) (level : BufferClusterLevel) (s : BufferState) → IsWhole s → at < length s.view.items → IsReadAlone level (length s.origins) (fraction_at m at s.view)
at_alone m at level s w lt =
    let r = fraction_is m at s.view in
    let many = at_many m at s.view in
    record {
      bounded = subst (λ (n : ℕ). AreBounded (without_concats ((fraction_at m at s.view).events level)) n) (sym w.origins)
          (subst (λ es. AreBounded es (length s.view.items)) (sym (r.events level)) (around_bounded at (length s.view.items) (fraction_span at s.view.items) (slash_within at s.view.items) lt));
      positions = ap (λ (v : View). length v.positions) r.view ∙ w.positions ∙ sym many;
      counted = r.counted level (length s.origins) ∙ w.origins ∙ sym many;
      some = omega (arith, many, lt);
    }

same_alone : (level : BufferClusterLevel) (s : BufferState) → IsWhole s → 0 < length s.origins → IsReadAlone level (length s.origins) (with_events [] s.view)
same_alone level s w some = let many = w.origins in record { bounded = tt; positions = w.positions; counted = many; some = omega (arith, many, some) }

-- ---- one index of two texts

across_unsafe : (m : FractionMasks) (at c : ℕ) (whole earlier later : BufferState) → IsBreakable whole → AreFragments false c whole earlier later → IsAcrossAt (length earlier.view.items) (length earlier.view.items + length later.view.items) (fraction_span at whole.view.items)
    → IsUnsafeAt c (at_state m at whole).origins
across_unsafe m at c whole earlier later ready j across = by_span (fraction_span at whole.view.items) refl across
  where
    r : ReadsFraction m at whole.view (fraction_span at whole.view.items) (fraction_at m at whole.view)
    r = fraction_is m at whole.view

    es : List Event
    es = (fraction_at m at whole.view).events whole.level

    by_span : (o : Option Span) → fraction_span at whole.view.items ≡ o → IsAcrossAt (length earlier.view.items) (length earlier.view.items + length later.view.items) o → IsUnsafeAt c (at_state m at whole).origins
    by_span None e h = absurd h
    by_span (Some s) e h =
        let low = h.0 in
        let high = h.1 in
        let fits = h.2 in
        let early = j.early_whole.origins in
        let late = j.late_whole.origins in
        crossing_is_unsafe false c whole earlier later (fraction_at m at whole.view) [] [] (Break s.from s.to) s ready j (plain_is_orderly whole.asks whole.level es whole.origins (r.plain whole.level)) (r.lossless whole.level (length whole.origins))
        (r.events whole.level ∙ ap (λ o. span_events o) e) tt refl (omega (arith, low, early)) (omega (arith, high, early)) (omega (arith, fits, early, late))

first_step : (m : FractionMasks) (at c : ℕ) (whole earlier later : BufferState) → StaysBroken c whole earlier later → at < length earlier.view.items → StaysBroken c (at_state m at whole) (at_state m at earlier) later
first_step m at c whole earlier later stays lt = record {
  breakable = at_breakable m at whole stays.breakable;
  given = at_given m at whole.view stays.given;
  numbers = record { whole_none = at_number m at whole.view ∙ stays.numbers.whole_none; early_none = at_number m at earlier.view ∙ stays.numbers.early_none; late_none = stays.numbers.late_none };
  divided = elim stays.divided [ inl unsafe ↦ inl (at_unsafe m at c whole stays.breakable unsafe) | inr j ↦ by_fragments j ];
}
  where
    by_fragments : AreFragments false c whole earlier later → StaysDivided false c (at_state m at whole) (at_state m at earlier) later
    by_fragments j =
        let xs = earlier.view.items in
        let ys = later.view.items in
        let plain = plain_items c whole earlier later j stays.numbers in
        elim (first_span xs ys at lt) [
          | inr across ↦ inl (across_unsafe m at c whole earlier later stays.breakable j (subst (λ zs. IsAcrossAt (length xs) (length xs + length ys) (fraction_span at zs)) (sym plain) across))
          | inl same ↦
              let w = fraction_is m at whole.view in
              let e = fraction_is m at earlier.view in
              let es = (fraction_at m at whole.view).events whole.level in
              let span : fraction_span at whole.view.items ≡ fraction_span at xs = ap (fraction_span at) plain ∙ same in
              beside_stays_divided false false c whole earlier later (fraction_at m at whole.view) (fraction_at m at earlier.view) (with_events [] later.view) stays.breakable j
              (plain_is_orderly whole.asks whole.level es whole.origins (w.plain whole.level)) (w.lossless whole.level (length whole.origins))
              (plainly_beside whole.level (length earlier.origins) (length later.origins) (fraction_at m at whole.view) (fraction_at m at earlier.view) (with_events [] later.view) (record {
                numbers = record { whole_none = at_number m at whole.view ∙ stays.numbers.whole_none; early_none = at_number m at earlier.view ∙ stays.numbers.early_none; late_none = stays.numbers.late_none };
                early_given = at_given m at earlier.view (given_early c whole earlier later j stays.numbers);
                late_given = given_late c whole earlier later j stays.numbers;
                items = ap (λ (v : View). v.items) w.view ∙ ap (λ o. with_fraction whole.view.direction m at o whole.view.items) span ∙ ap (with_fraction whole.view.direction m at (fraction_span at xs)) plain
                    ∙ spanned_first whole.view.direction m at (fraction_span at xs) xs ys (slash_within at xs)
                    ∙ ap (λ (d : Direction). with_fraction d m at (fraction_span at xs) xs ++ ys) (sym j.early_of.direction) ∙ ap (λ (v : View). v.items ++ ys) (sym e.view);
                positions = ap (λ (v : View). v.positions) w.view ∙ j.positions ∙ ap (λ (v : View). v.positions ++ later.view.positions) (sym e.view);
                events = w.events whole.level ∙ ap (λ o. span_events o) span ∙ sym (e.events whole.level) ∙ sym (append-nil (without_concats ((fraction_at m at earlier.view).events whole.level)));
                early_direction = ap (λ (v : View). v.direction) e.view ∙ j.early_of.direction ∙ ap (λ (v : View). v.direction) (sym w.view);
                late_direction = j.late_of.direction ∙ ap (λ (v : View). v.direction) (sym w.view);
                early = at_alone m at whole.level earlier j.early_whole lt;
                late = same_alone whole.level later j.late_whole j.late_some;
              }))
        ]

events_moved : (n : ℕ) (o : Option Span) → span_events (shifted_span n o) ≡ map (shifted_event n) (span_events o)
events_moved n None = refl
events_moved n (Some s) = refl

second_step : (m : FractionMasks) (k c : ℕ) (whole earlier later : BufferState) → StaysBroken c whole earlier later → k < length later.view.items → StaysBroken c (at_state m (length earlier.view.items + k) whole) earlier (at_state m k later)
second_step m k c whole earlier later stays lt = record {
  breakable = at_breakable m (length earlier.view.items + k) whole stays.breakable;
  given = at_given m (length earlier.view.items + k) whole.view stays.given;
  numbers = record { whole_none = at_number m (length earlier.view.items + k) whole.view ∙ stays.numbers.whole_none; early_none = stays.numbers.early_none; late_none = at_number m k later.view ∙ stays.numbers.late_none };
  divided = elim stays.divided [ inl unsafe ↦ inl (at_unsafe m (length earlier.view.items + k) c whole stays.breakable unsafe) | inr j ↦ by_fragments j ];
}
  where
    at : ℕ
    at = length earlier.view.items + k

    by_fragments : AreFragments false c whole earlier later → StaysDivided false c (at_state m (length earlier.view.items + k) whole) earlier (at_state m k later)
    by_fragments j =
        let xs = earlier.view.items in
        let ys = later.view.items in
        let n = length xs in
        let plain = plain_items c whole earlier later j stays.numbers in
        let early = j.early_whole.origins in
        let early_some = j.early_some in
        elim (second_span xs ys k lt (omega (arith, early, early_some))) [
          | inr across ↦ inl (across_unsafe m (n + k) c whole earlier later stays.breakable j (subst (λ zs. IsAcrossAt n (n + length ys) (fraction_span (n + k) zs)) (sym plain) across))
          | inl same ↦
              let w = fraction_is m (n + k) whole.view in
              let l = fraction_is m k later.view in
              let es = (fraction_at m (n + k) whole.view).events whole.level in
              let span : fraction_span (n + k) whole.view.items ≡ shifted_span n (fraction_span k ys) = ap (fraction_span (n + k)) plain ∙ same in
              beside_stays_divided false false c whole earlier later (fraction_at m (n + k) whole.view) (with_events [] earlier.view) (fraction_at m k later.view) stays.breakable j
              (plain_is_orderly whole.asks whole.level es whole.origins (w.plain whole.level)) (w.lossless whole.level (length whole.origins))
              (plainly_beside whole.level (length earlier.origins) (length later.origins) (fraction_at m (n + k) whole.view) (with_events [] earlier.view) (fraction_at m k later.view) (record {
                numbers = record { whole_none = at_number m (n + k) whole.view ∙ stays.numbers.whole_none; early_none = stays.numbers.early_none; late_none = at_number m k later.view ∙ stays.numbers.late_none };
                early_given = given_early c whole earlier later j stays.numbers;
                late_given = at_given m k later.view (given_late c whole earlier later j stays.numbers);
                items = ap (λ (v : View). v.items) w.view ∙ ap (λ o. with_fraction whole.view.direction m (n + k) o whole.view.items) span ∙ ap (with_fraction whole.view.direction m (n + k) (shifted_span n (fraction_span k ys))) plain
                    ∙ spanned_second whole.view.direction m k (fraction_span k ys) xs ys
                    ∙ ap (λ (d : Direction). xs ++ with_fraction d m k (fraction_span k ys) ys) (sym j.late_of.direction) ∙ ap (λ (v : View). xs ++ v.items) (sym l.view);
                positions = ap (λ (v : View). v.positions) w.view ∙ j.positions ∙ ap (λ (v : View). earlier.view.positions ++ v.positions) (sym l.view);
                events = w.events whole.level ∙ ap (λ o. span_events o) span ∙ events_moved n (fraction_span k ys) ∙ ap (λ (i : ℕ). map (shifted_event i) (span_events (fraction_span k ys))) (sym early)
                    ∙ ap (λ fs. map (shifted_event (length earlier.origins)) fs) (sym (l.events whole.level));
                early_direction = j.early_of.direction ∙ ap (λ (v : View). v.direction) (sym w.view);
                late_direction = ap (λ (v : View). v.direction) l.view ∙ j.late_of.direction ∙ ap (λ (v : View). v.direction) (sym w.view);
                early = same_alone whole.level earlier j.early_whole j.early_some;
                late = at_alone m k whole.level later j.late_whole lt;
              }))
        ]

-- ---- all indices

abbrev to_state : FractionMasks → ℕ → BufferState → BufferState
to_state m n s = state_after (fractions_to m n s.view) s

to_next : (m : FractionMasks) (n : ℕ) (s : BufferState) → to_state m (suc n) s ≡ at_state m n (to_state m n s)
to_next m n s =
    ap (λ (os : List Origin). record { view = (fraction_at m n (fractions_to m n s.view).view).view; origins = os; level = s.level; asks = s.asks })
    (origins_after_both s.asks s.level ((fractions_to m n s.view).events s.level) ((fraction_at m n (fractions_to m n s.view).view).events s.level) s.origins)

to_many : (m : FractionMasks) (n : ℕ) (s : BufferState) → length (to_state m n s).view.items ≡ length s.view.items
to_many m zero s = refl
to_many m (suc n) s = at_many m n (fractions_to m n s.view).view ∙ to_many m n s

to_breakable : (m : FractionMasks) (n : ℕ) (s : BufferState) → IsBreakable s → IsBreakable (to_state m n s)
to_breakable m zero s b = b
to_breakable m (suc n) s b = subst IsBreakable (sym (to_next m n s)) (at_breakable m n (to_state m n s) (to_breakable m n s b))

to_unsafe : (m : FractionMasks) (n c : ℕ) (s : BufferState) → IsBreakable s → IsUnsafeAt c s.origins → IsUnsafeAt c (to_state m n s).origins
to_unsafe m zero c s b u = u
to_unsafe m (suc n) c s b u = subst (λ (x : BufferState). IsUnsafeAt c x.origins) (sym (to_next m n s)) (at_unsafe m n c (to_state m n s) (to_breakable m n s b) (to_unsafe m n c s b u))

to_given : (m : FractionMasks) (n : ℕ) (v : View) → AreGiven 0 v.items → AreGiven 0 (fractions_to m n v).view.items
to_given m zero v h = h
to_given m (suc n) v h = at_given m n (fractions_to m n v).view (to_given m n v h)

to_number : (m : FractionMasks) (n : ℕ) (v : View) → (fractions_to m n v).view.lig_id ≡ v.lig_id
to_number m zero v = refl
to_number m (suc n) v = at_number m n (fractions_to m n v).view ∙ to_number m n v

first_steps : (m : FractionMasks) (n c : ℕ) (whole earlier later : BufferState) → StaysBroken c whole earlier later → n ≤ length earlier.view.items → StaysBroken c (to_state m n whole) (to_state m n earlier) later
first_steps m zero c whole earlier later stays le = stays
first_steps m (suc n) c whole earlier later stays le =
    let many = to_many m n earlier in
    subst (λ (s : BufferState). StaysBroken c s (to_state m (suc n) earlier) later) (sym (to_next m n whole))
    (subst (λ (s : BufferState). StaysBroken c (at_state m n (to_state m n whole)) s later) (sym (to_next m n earlier))
    (first_step m n c (to_state m n whole) (to_state m n earlier) later (first_steps m n c whole earlier later stays (omega (arith, le))) (omega (arith, many, le))))

second_steps : (m : FractionMasks) (k c : ℕ) (whole earlier later : BufferState) → StaysBroken c whole earlier later → k ≤ length later.view.items
    → StaysBroken c (to_state m (length earlier.view.items + k) whole) (to_state m (length earlier.view.items) earlier) (to_state m k later)
second_steps m zero c whole earlier later stays le =
    let e : length earlier.view.items ≡ length earlier.view.items + 0 = omega arith in
    subst (λ (n : ℕ). StaysBroken c (to_state m n whole) (to_state m (length earlier.view.items) earlier) later) e (first_steps m (length earlier.view.items) c whole earlier later stays (omega arith))
second_steps m (suc k) c whole earlier later stays le =
    let n = length earlier.view.items in
    let e : suc (n + k) ≡ n + suc k = omega arith in
    let w = to_state m (n + k) whole in
    let f = to_state m n earlier in
    let g = to_state m k later in
    let many = to_many m k later in
    let done : StaysBroken c (at_state m (length f.view.items + k) w) f (at_state m k g) = second_step m k c w f g (second_steps m k c whole earlier later stays (omega (arith, le))) (omega (arith, many, le)) in
    subst (λ (i : ℕ). StaysBroken c (to_state m i whole) f (to_state m (suc k) later)) e
    (subst (λ (s : BufferState). StaysBroken c s f (to_state m (suc k) later)) (sym (to_next m (n + k) whole))
    (subst (λ (s : BufferState). StaysBroken c (at_state m (n + k) w) f s) (sym (to_next m k later))
    (subst (λ (i : ℕ). StaysBroken c (at_state m (i + k) w) f (at_state m k g)) (to_many m n earlier) done)))

pub fractions_divide : FractionsDivide
fractions_divide m c whole earlier later stays = record {
  breakable = to_breakable m (length whole.view.items) whole stays.breakable;
  given = to_given m (length whole.view.items) whole.view stays.given;
  numbers = record {
    whole_none = to_number m (length whole.view.items) whole.view ∙ stays.numbers.whole_none;
    early_none = to_number m (length earlier.view.items) earlier.view ∙ stays.numbers.early_none;
    late_none = to_number m (length later.view.items) later.view ∙ stays.numbers.late_none;
  };
  divided = elim stays.divided [
    | inl unsafe ↦ inl (to_unsafe m (length whole.view.items) c whole stays.breakable unsafe)
    | inr j ↦
        let plain = plain_items c whole earlier later j stays.numbers in
        let sum : length whole.view.items ≡ length earlier.view.items + length later.view.items = ap (λ (zs : List Item). length zs) plain ∙ length-append earlier.view.items later.view.items in
        subst (λ (n : ℕ). StaysDivided false c (to_state m n whole) (to_state m (length earlier.view.items) earlier) (to_state m (length later.view.items) later)) (sym sum)
        (second_steps m (length later.view.items) c whole earlier later stays (omega arith)).divided
  ];
}

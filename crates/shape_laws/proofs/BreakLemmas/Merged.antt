-- Graphemes that a shaper makes of the characters of a text that is broken into two.
use Rattle.std.proofs.Common.{ℕ, suc, ◌≡◌, ◌≤◌, ◌<◌, ◌+◌, ◌==◌, ◌⊎◌, inl, inr, nat_le, Bool, true, false, if◌then◌else◌, List, [], ◌∷◌, ◌++◌, length, map, Some, append_assoc, arith, refl, sym, ap, subst, ◌∙◌}
use Rattle.std.proofs.lemmas.Bool.Decides.{nat_tests}
use Rattle.std.proofs.lemmas.Grind.{common_steps}
use Rattle.std.proofs.lemmas.List.{length-append, map-append}
use Rattle.buffer_glyphs.specs.declared.level.BufferClusterLevel.{BufferClusterLevel}
use Rattle.buffer_glyphs.specs.declared.level.BufferClusterLevel.TheVariants.{MonotoneGraphemes, MonotoneCharacters, Characters, Graphemes}
use Rattle.buffer_glyphs.specs.Events.{Event, IsPlain, MergeGrapheme, StrictBreak, origins_after}
use Rattle.buffer_glyphs.specs.Items.{Item}
use Rattle.buffer_glyphs.specs.Levels.{IsMonotone, grapheme_manner}
use Rattle.buffer_glyphs.specs.Origins.{Origin}
use Rattle.buffer_glyphs.specs.Lemmas.Origins.{origins_after_both}
use Rattle.buffer_glyphs.specs.Rewriting.{shifted_event}
use Rattle.buffer_parts.specs.Counts.{count_after}
use Rattle.buffer_parts.specs.Plainly.{AreSteady}
use Rattle.buffer_parts.specs.Lemmas.Orderly.{plain_is_orderly}
use Rattle.buffer_parts.specs.Lemmas.Plainly.{steady_count, steady_plain, both_plain}
use Rattle.buffer_core.specs.Readings.{BufferState, state_after, with_events}
use Rattle.buffer_parts.specs.Breaks.Unsafe.{IsUnsafeAt}
use Rattle.buffer_parts.specs.Breaks.Lossless.{AreLossless}
use Rattle.buffer_parts.specs.Breaks.Bound.{bound_span, merged_span, requested_span}
use Rattle.buffer_parts.specs.Breaks.Concat.{without_concats}
use Rattle.buffer_parts.specs.Breaks.Sides.{AreBounded}
use Rattle.buffer_parts.specs.Breaks.Fragments.{AreFragments}
use Rattle.buffer_parts.specs.Breaks.Divisible.{IsBreakable, StaysDivided}
use Rattle.buffer_parts.proofs.BreakLemmas.Beside.{beside_stays_divided, crossing_is_unsafe}
use Rattle.buffer_parts.proofs.BreakLemmas.Events.{both_lossless, unsafe_stays}
use Rattle.script_syllabic.specs.Graphemes.{merge_of, merges_by, with_graphemes_merged}
use Rattle.shape_laws.specs.Breaks.Texts.{AreUnnumbered, StaysBroken}
use Rattle.shape_laws.proofs.BreakLemmas.Begun.{plainly_breakable}
use Rattle.shape_laws.proofs.BreakLemmas.Unnumbered.{given_early, given_late, plain_items, plainly_beside}
use Rattle.layout_laws.proofs.BreakLemmas.Walks.{bounded_both as both_bounded}
use Rattle.buffer_parts.proofs.BreakLemmas.Division.{without_both}

-- ---- the events of merges

-- events of merges of graphemes: they change no count, lose no flag, and set no UNSAFE_TO_CONCAT
pub record AreMerges (es : List Event) : Type 0 where
  pub steady : AreSteady es
  pub lossless : (n : ℕ) → AreLossless es n
  pub no_concat : without_concats es ≡ es

no_merges : AreMerges []
no_merges = record { steady = tt; lossless = λ n. tt; no_concat = refl }

one_merge : (at n : ℕ) (es : List Event) → AreMerges es → AreMerges (merge_of at n ++ es)
one_merge at n es h = by_test (n == 0)
  where
    by_test : (b : Bool) → AreMerges ((if b then [] else MergeGrapheme at (at + n) ∷ StrictBreak at (at + n) ∷ []) ++ es)
    by_test true = h
    by_test false = record { steady = h.steady; lossless = λ k. (tt, (tt, h.lossless k)); no_concat = ap (λ fs. MergeGrapheme at (at + n) ∷ StrictBreak at (at + n) ∷ fs) h.no_concat }

all_merges : (rule : List Item → ℕ) (at : ℕ) (xs : List Item) → AreMerges (merges_by rule at xs)
all_merges rule at [] = no_merges
all_merges rule at (x ∷ xs) = one_merge at (rule (x ∷ xs)) (merges_by rule (at + 1) xs) (all_merges rule (at + 1) xs)

-- the merges of a text's items before another text
abbrev pub merges_in : (List Item → ℕ) → ℕ → List Item → List Item → List Event
merges_in rule at [] ys = []
merges_in rule at (x ∷ xs) ys = merge_of at (rule (x ∷ (xs ++ ys))) ++ merges_in rule (at + 1) xs ys

in_merges : (rule : List Item → ℕ) (at : ℕ) (xs ys : List Item) → AreMerges (merges_in rule at xs ys)
in_merges rule at [] ys = no_merges
in_merges rule at (x ∷ xs) ys = one_merge at (rule (x ∷ (xs ++ ys))) (merges_in rule (at + 1) xs ys) (in_merges rule (at + 1) xs ys)

merges_both : (rule : List Item → ℕ) (at : ℕ) (xs ys : List Item) → merges_by rule at (xs ++ ys) ≡ merges_in rule at xs ys ++ merges_by rule (at + length xs) ys
merges_both rule at [] ys = let e : at ≡ at + 0 = omega arith in ap (λ (i : ℕ). merges_by rule i ys) e
merges_both rule at (x ∷ xs) ys =
    let e : at + 1 + length xs ≡ at + suc (length xs) = omega arith in
    ap (λ es. merge_of at (rule (x ∷ (xs ++ ys))) ++ es) (merges_both rule (at + 1) xs ys ∙ ap (λ (i : ℕ). merges_in rule (at + 1) xs ys ++ merges_by rule i ys) e)
    ∙ sym (append_assoc (merge_of at (rule (x ∷ (xs ++ ys)))) (merges_in rule (at + 1) xs ys) (merges_by rule (at + suc (length xs)) ys))

merge_shifted : (k at n : ℕ) → merge_of (k + at) n ≡ map (shifted_event k) (merge_of at n)
merge_shifted k at n = by_test (n == 0)
  where
    e : k + at + n ≡ k + (at + n)
    e = omega arith

    by_test : (b : Bool) → (if b then [] else MergeGrapheme (k + at) (k + at + n) ∷ StrictBreak (k + at) (k + at + n) ∷ []) ≡ map (shifted_event k) (if b then [] else MergeGrapheme at (at + n) ∷ StrictBreak at (at + n) ∷ [])
    by_test true = refl
    by_test false = ap (λ (i : ℕ). MergeGrapheme (k + at) i ∷ StrictBreak (k + at) i ∷ []) e

merges_shifted : (rule : List Item → ℕ) (k at : ℕ) (ys : List Item) → merges_by rule (k + at) ys ≡ map (shifted_event k) (merges_by rule at ys)
merges_shifted rule k at [] = refl
merges_shifted rule k at (y ∷ ys) =
    let e : k + at + 1 ≡ k + (at + 1) = omega arith in
    ap (λ es. es ++ merges_by rule (k + at + 1) ys) (merge_shifted k at (rule (y ∷ ys))) ∙ ap (λ (i : ℕ). map (shifted_event k) (merge_of at (rule (y ∷ ys))) ++ merges_by rule i ys) e
    ∙ ap (λ es. map (shifted_event k) (merge_of at (rule (y ∷ ys))) ++ es) (merges_shifted rule k (at + 1) ys) ∙ sym (map-append (shifted_event k) (merge_of at (rule (y ∷ ys))) (merges_by rule (at + 1) ys))

-- ---- within the first of two texts, or across both

-- a rule takes no more items than there are
abbrev pub FitsTexts : (List Item → ℕ) → Type 0
FitsTexts rule = (zs : List Item) → rule zs ≤ length zs

-- no grapheme that begins in the first text ends in the second
abbrev pub AreWithin : (List Item → ℕ) → List Item → List Item → Type 0
AreWithin rule [] ys = Unit {0}
AreWithin rule (x ∷ xs) ys = (rule (x ∷ (xs ++ ys)) ≤ suc (length xs)) × AreWithin rule xs ys

-- the merge of a grapheme across both, among those of a text from an index on, whose first part ends before `end`, and
-- which ends before `last`
pub record MergesAcross (end last : ℕ) (all : List Event) : Type 0 where
  pub before : List Event
  pub index : ℕ
  pub count : ℕ
  pub after : List Event
  pub is : all ≡ before ++ (merge_of index count ++ after)
  pub bounded : AreBounded before end
  pub merges : AreMerges before
  pub after_merges : AreMerges after
  pub low : index < end
  pub high : end < index + count
  pub fits : index + count ≤ last

merge_bounded : (at n m : ℕ) → at + n ≤ m → AreBounded (merge_of at n) m
merge_bounded at n m le = by_test (n == 0)
  where
    low : at ≤ m
    low = omega (arith, le)

    by_test : (b : Bool) → AreBounded (if b then [] else MergeGrapheme at (at + n) ∷ StrictBreak at (at + n) ∷ []) m
    by_test true = tt
    by_test false = ((low, le), ((low, le), tt))

merge_count : (at n m : ℕ) → count_after (merge_of at n) m ≡ m
merge_count at n m = by_test (n == 0)
  where
    by_test : (b : Bool) → count_after (if b then [] else MergeGrapheme at (at + n) ∷ StrictBreak at (at + n) ∷ []) m ≡ m
    by_test true = refl
    by_test false = refl

pub within_or_across : (rule : List Item → ℕ) (at : ℕ) (xs ys : List Item) → FitsTexts rule → AreWithin rule xs ys ⊎ MergesAcross (at + length xs) (at + (length xs + length ys)) (merges_by rule at (xs ++ ys))
within_or_across rule at [] ys fits = inl tt
within_or_across rule at (x ∷ xs) ys fits = by_test (nat_le (rule (x ∷ (xs ++ ys))) (suc (length xs))) refl (within_or_across rule (at + 1) xs ys fits)
  where
    n : ℕ
    n = rule (x ∷ (xs ++ ys))

    low_of : (a b : ℕ) → nat_le a b ≡ true → a ≤ b
    low_of a b e = grind (arith, nat_tests, common_steps, e)

    high_of : (a b : ℕ) → nat_le a b ≡ false → b < a
    high_of a b e = grind (arith, nat_tests, common_steps, e)

    by_test : (b : Bool) → nat_le (rule (x ∷ (xs ++ ys))) (suc (length xs)) ≡ b → AreWithin rule xs ys ⊎ MergesAcross (at + 1 + length xs) (at + 1 + (length xs + length ys)) (merges_by rule (at + 1) (xs ++ ys))
        → AreWithin rule (x ∷ xs) ys ⊎ MergesAcross (at + suc (length xs)) (at + (suc (length xs) + length ys)) (merge_of at (rule (x ∷ (xs ++ ys))) ++ merges_by rule (at + 1) (xs ++ ys))
    by_test false e next =
        let over = high_of (rule (x ∷ (xs ++ ys))) (suc (length xs)) e in
        let room = fits (x ∷ (xs ++ ys)) in
        let all = length-append xs ys in
        inr (record { before = []; index = at; count = rule (x ∷ (xs ++ ys)); after = merges_by rule (at + 1) (xs ++ ys); is = refl; bounded = tt; merges = no_merges; after_merges = all_merges rule (at + 1) (xs ++ ys); low = omega arith; high = omega (arith, over); fits = omega (arith, room, all) })
    by_test true e (inl within) = inl (low_of (rule (x ∷ (xs ++ ys))) (suc (length xs)) e, within)
    by_test true e (inr across) =
        let le = low_of (rule (x ∷ (xs ++ ys))) (suc (length xs)) e in
        let here = merge_of at (rule (x ∷ (xs ++ ys))) in
        let low = across.low in
        let high = across.high in
        let room = across.fits in
        let end : at + 1 + length xs ≡ at + suc (length xs) = omega arith in
        inr (record {
          before = here ++ across.before;
          index = across.index;
          count = across.count;
          after = across.after;
          is = ap (λ es. here ++ es) across.is ∙ sym (append_assoc here across.before (merge_of across.index across.count ++ across.after));
          bounded = both_bounded here across.before (at + suc (length xs)) (merge_bounded at (rule (x ∷ (xs ++ ys))) (at + suc (length xs)) (omega (arith, le)))
              (subst (AreBounded across.before) (end ∙ sym (merge_count at (rule (x ∷ (xs ++ ys))) (at + suc (length xs)))) across.bounded);
          merges = one_merge at (rule (x ∷ (xs ++ ys))) across.before across.merges;
          after_merges = across.after_merges;
          low = omega (arith, low);
          high = omega (arith, high);
          fits = omega (arith, room);
        })

in_bounded : (rule : List Item → ℕ) (at : ℕ) (xs ys : List Item) → AreWithin rule xs ys → AreBounded (merges_in rule at xs ys) (at + length xs)
in_bounded rule at [] ys h = tt
in_bounded rule at (x ∷ xs) ys h =
    let le = h.0 in
    let here = merge_of at (rule (x ∷ (xs ++ ys))) in
    let end : at + 1 + length xs ≡ at + suc (length xs) = omega arith in
    both_bounded here (merges_in rule (at + 1) xs ys) (at + suc (length xs)) (merge_bounded at (rule (x ∷ (xs ++ ys))) (at + suc (length xs)) (omega (arith, le)))
    (subst (AreBounded (merges_in rule (at + 1) xs ys)) (end ∙ sym (merge_count at (rule (x ∷ (xs ++ ys))) (at + suc (length xs)))) (in_bounded rule (at + 1) xs ys h.1))

alone_bounded : (rule : List Item → ℕ) (at : ℕ) (ys : List Item) → FitsTexts rule → AreBounded (merges_by rule at ys) (at + length ys)
alone_bounded rule at [] fits = tt
alone_bounded rule at (y ∷ ys) fits =
    let le = fits (y ∷ ys) in
    let here = merge_of at (rule (y ∷ ys)) in
    let end : at + 1 + length ys ≡ at + suc (length ys) = omega arith in
    both_bounded here (merges_by rule (at + 1) ys) (at + suc (length ys)) (merge_bounded at (rule (y ∷ ys)) (at + suc (length ys)) (omega (arith, le)))
    (subst (AreBounded (merges_by rule (at + 1) ys)) (end ∙ sym (merge_count at (rule (y ∷ ys)) (at + suc (length ys)))) (alone_bounded rule (at + 1) ys fits))

-- ---- the stage

-- the state of a text whose graphemes are merged
abbrev pub merged_state : (List Item → ℕ) → BufferState → BufferState
merged_state rule s = state_after (with_graphemes_merged rule s.view) s

pub merged_breakable : (rule : List Item → ℕ) (s : BufferState) → IsBreakable s → IsBreakable (merged_state rule s)
merged_breakable rule s b =
    let p = all_merges rule 0 s.view.items in
    let es = merges_by rule 0 s.view.items in
    plainly_breakable s (with_graphemes_merged rule s.view) (steady_plain es p.steady) (steady_count (length s.origins) es p.steady ∙ b.whole.origins) b.whole.positions b

pub merged_keeps : (rule : List Item → ℕ) (c : ℕ) (s : BufferState) → IsBreakable s → IsUnsafeAt c s.origins → IsUnsafeAt c (merged_state rule s).origins
merged_keeps rule c s b u =
    let p = all_merges rule 0 s.view.items in
    let es = merges_by rule 0 s.view.items in
    unsafe_stays s.asks s.level es s.origins c b.breaks (plain_is_orderly s.asks s.level es s.origins (steady_plain es p.steady)) (p.lossless (length s.origins)) u

-- a merge across both texts makes it unsafe to break: where the level merges no graphemes, it is flagged
across_at : (c : ℕ) (whole earlier later : BufferState) (es fs : List Event) (from to : ℕ) → IsBreakable whole → AreFragments false c whole earlier later → AreMerges es → AreMerges fs → AreBounded es (length earlier.origins)
    → from < length earlier.origins → length earlier.origins < to → to ≤ length earlier.origins + length later.origins
    → IsUnsafeAt c (state_after (with_events (es ++ MergeGrapheme from to ∷ StrictBreak from to ∷ fs) whole.view) whole).origins
across_at c whole earlier later es fs from to b j p q bounded low high fits = by_level whole.level refl
  where
    counted : count_after es (length earlier.origins) ≡ length earlier.origins
    counted = steady_count (length earlier.origins) es p.steady

    flagged : List Event
    flagged = es ++ StrictBreak from to ∷ fs

    -- one event and the merges beside it
    by_event : (e : Event) (gs : List Event) → IsPlain (e ∷ gs) → ((n : ℕ) → AreLossless (e ∷ gs) n) → without_concats (e ∷ gs) ≡ e ∷ gs → bound_span whole.asks whole.level e ≡ Some (record { from = from; to = to }) → IsUnsafeAt c (state_after (with_events (es ++ e ∷ gs) whole.view) whole).origins
    by_event e gs plain lossless no_concat binds =
        crossing_is_unsafe false c whole earlier later (with_events (es ++ e ∷ gs) whole.view) es gs e (record { from = from; to = to }) b j
        (plain_is_orderly whole.asks whole.level (es ++ e ∷ gs) whole.origins (both_plain es (e ∷ gs) (steady_plain es p.steady) plain)) (both_lossless es (e ∷ gs) (length whole.origins) (p.lossless (length whole.origins)) (lossless (count_after es (length whole.origins))))
        (without_both es (e ∷ gs) ∙ ap (λ hs. hs ++ without_concats (e ∷ gs)) p.no_concat ∙ ap (λ hs. es ++ hs) no_concat) bounded binds
        (omega (arith, low, counted)) (omega (arith, high, counted)) (omega (arith, fits, counted))

    strict : IsUnsafeAt c (state_after (with_events (es ++ StrictBreak from to ∷ fs) whole.view) whole).origins
    strict = by_event (StrictBreak from to) fs (steady_plain fs q.steady) (λ n. (tt, q.lossless n)) (ap (λ gs. StrictBreak from to ∷ gs) q.no_concat) (ap (λ t. requested_span t from to) b.breaks.requested)

    unmerged : (os : List Origin) → origins_after whole.asks MonotoneCharacters (es ++ MergeGrapheme from to ∷ StrictBreak from to ∷ fs) os ≡ origins_after whole.asks MonotoneCharacters (es ++ StrictBreak from to ∷ fs) os
    unmerged os = origins_after_both whole.asks MonotoneCharacters es (MergeGrapheme from to ∷ StrictBreak from to ∷ fs) os ∙ sym (origins_after_both whole.asks MonotoneCharacters es (StrictBreak from to ∷ fs) os)

    by_level : (l : BufferClusterLevel) → whole.level ≡ l → IsUnsafeAt c (state_after (with_events (es ++ MergeGrapheme from to ∷ StrictBreak from to ∷ fs) whole.view) whole).origins
    by_level MonotoneGraphemes e =
        by_event (MergeGrapheme from to) (StrictBreak from to ∷ fs) (steady_plain fs q.steady) (λ n. (tt, (tt, q.lossless n))) (ap (λ gs. MergeGrapheme from to ∷ StrictBreak from to ∷ gs) q.no_concat) (ap (λ l. merged_span (grapheme_manner l) from to) e)
    by_level MonotoneCharacters e =
        subst (IsUnsafeAt c)
        (ap (λ (l : BufferClusterLevel). origins_after whole.asks l (es ++ StrictBreak from to ∷ fs) whole.origins) e ∙ sym (unmerged whole.origins) ∙ ap (λ (l : BufferClusterLevel). origins_after whole.asks l (es ++ MergeGrapheme from to ∷ StrictBreak from to ∷ fs) whole.origins) (sym e)) strict
    by_level Characters e = absurd (subst IsMonotone e b.breaks.monotone)
    by_level Graphemes e = absurd (subst IsMonotone e b.breaks.monotone)

pub merges_cross : (rule : List Item → ℕ) (c : ℕ) (whole earlier later : BufferState) → IsBreakable whole → AreFragments false c whole earlier later
    → MergesAcross (length earlier.view.items) (length earlier.view.items + length later.view.items) (merges_by rule 0 whole.view.items) → IsUnsafeAt c (merged_state rule whole).origins
merges_cross rule c whole earlier later b j x =
    let early_count = j.early_whole.origins in
    let late_count = j.late_whole.origins in
    let low = x.low in
    let high = x.high in
    let fits = x.fits in
    subst (λ es. IsUnsafeAt c (state_after (with_events es whole.view) whole).origins) (sym (x.is ∙ ap (λ es. x.before ++ (es ++ x.after)) (some_merge x.index x.count (omega (arith, low, high)))))
    (across_at c whole earlier later x.before x.after x.index (x.index + x.count) b j x.merges x.after_merges (subst (AreBounded x.before) (sym early_count) x.bounded) (omega (arith, low, early_count)) (omega (arith, high, early_count)) (omega (arith, fits, early_count, late_count)))
  where
    some_merge : (at n : ℕ) → 0 < n → merge_of at n ≡ MergeGrapheme at (at + n) ∷ StrictBreak at (at + n) ∷ []
    some_merge at n some = ap (λ b. if b then [] else MergeGrapheme at (at + n) ∷ StrictBreak at (at + n) ∷ []) (not_zero n some)
      where
        not_zero : (k : ℕ) → 0 < k → (k == 0) ≡ false
        not_zero k more = grind (arith, nat_tests, common_steps, more)

-- where no grapheme is across both, the merges of both stand beside each other: those of the earlier text as they are in
-- the whole, and those of the later one
pub merges_divide : (rule : List Item → ℕ) (c : ℕ) (whole earlier later : BufferState) → FitsTexts rule → IsBreakable whole → AreFragments false c whole earlier later → AreUnnumbered whole.view earlier.view later.view → AreWithin rule earlier.view.items later.view.items
    → StaysDivided false c (merged_state rule whole) (state_after (with_events (merges_in rule 0 earlier.view.items later.view.items) earlier.view) earlier) (merged_state rule later)
merges_divide rule c whole earlier later fits b j un within =
    let xs = earlier.view.items in
    let ys = later.view.items in
    let plain = plain_items c whole earlier later j un in
    let all = all_merges rule 0 whole.view.items in
    let first = in_merges rule 0 xs ys in
    let second = all_merges rule 0 ys in
    let early_count = j.early_whole.origins in
    let late_count = j.late_whole.origins in
    let m = length earlier.origins in
    let es = merges_in rule 0 xs ys in
    let fs = merges_by rule 0 ys in
    let start : 0 + length xs ≡ m + 0 = omega (arith, early_count) in
    let counted : count_after (without_concats es) m ≡ m = ap (λ gs. count_after gs m) first.no_concat ∙ steady_count m es first.steady in
    let events : merges_by rule 0 whole.view.items ≡ es ++ map (shifted_event m) fs =
    ap (merges_by rule 0) plain ∙ merges_both rule 0 xs ys ∙ ap (λ (i : ℕ). es ++ merges_by rule i ys) start ∙ ap (λ gs. es ++ gs) (merges_shifted rule m 0 ys) in
    beside_stays_divided false false c whole earlier later (with_graphemes_merged rule whole.view) (with_events es earlier.view) (with_graphemes_merged rule later.view) b j
    (plain_is_orderly whole.asks whole.level (merges_by rule 0 whole.view.items) whole.origins (steady_plain (merges_by rule 0 whole.view.items) all.steady)) (all.lossless (length whole.origins))
    (plainly_beside whole.level m (length later.origins) (with_graphemes_merged rule whole.view) (with_events es earlier.view) (with_graphemes_merged rule later.view) (record {
      numbers = record { whole_none = un.whole_none; early_none = un.early_none; late_none = un.late_none };
      early_given = given_early c whole earlier later j un;
      late_given = given_late c whole earlier later j un;
      items = plain;
      positions = j.positions;
      events = all.no_concat ∙ events ∙ ap (λ gs. gs ++ map (shifted_event m) fs) (sym first.no_concat) ∙ ap (λ (n : ℕ). without_concats es ++ map (shifted_event n) fs) (sym counted)
          ∙ ap (λ gs. without_concats es ++ map (shifted_event (count_after (without_concats es) m)) gs) (sym second.no_concat);
      early_direction = j.early_of.direction;
      late_direction = j.late_of.direction;
      early = record {
        bounded = subst (λ gs. AreBounded gs m) (sym first.no_concat) (subst (AreBounded es) (start ∙ none_more m) (in_bounded rule 0 xs ys within));
        positions = j.early_whole.positions;
        counted = steady_count m es first.steady ∙ early_count;
        some = let some = j.early_some in omega (arith, some, early_count);
      };
      late = record {
        bounded = subst (λ gs. AreBounded gs (length later.origins)) (sym second.no_concat) (subst (AreBounded fs) (none_before (length ys) ∙ sym late_count) (alone_bounded rule 0 ys fits));
        positions = j.late_whole.positions;
        counted = steady_count (length later.origins) fs second.steady ∙ late_count;
        some = let some = j.late_some in omega (arith, some, late_count);
      };
    }))
  where
    none_more : (n : ℕ) → n + 0 ≡ n
    none_more n = omega arith

    none_before : (n : ℕ) → 0 + n ≡ n
    none_before n = omega arith

-- a rule that counts as many items of a text before another one as of the text by itself, where it ends there
abbrev pub EndsAlike : (List Item → ℕ) → Type 0
EndsAlike rule = (x : Item) (xs ys : List Item) → rule (x ∷ (xs ++ ys)) ≤ suc (length xs) → rule (x ∷ (xs ++ ys)) ≡ rule (x ∷ xs)

in_alone : (rule : List Item → ℕ) (at : ℕ) (xs ys : List Item) → EndsAlike rule → AreWithin rule xs ys → merges_in rule at xs ys ≡ merges_by rule at xs
in_alone rule at [] ys alike h = refl
in_alone rule at (x ∷ xs) ys alike h = ap (λ (n : ℕ). merge_of at n ++ merges_in rule (at + 1) xs ys) (alike x xs ys h.0) ∙ ap (λ es. merge_of at (rule (x ∷ xs)) ++ es) (in_alone rule (at + 1) xs ys alike h.1)

-- merges by such a rule keep a text broken
pub merges_stay : (rule : List Item → ℕ) (c : ℕ) (whole earlier later : BufferState) → FitsTexts rule → EndsAlike rule → StaysBroken c whole earlier later → StaysBroken c (merged_state rule whole) (merged_state rule earlier) (merged_state rule later)
merges_stay rule c whole earlier later fits alike stays = record {
  breakable = merged_breakable rule whole stays.breakable;
  given = stays.given;
  numbers = record { whole_none = stays.numbers.whole_none; early_none = stays.numbers.early_none; late_none = stays.numbers.late_none };
  divided = elim stays.divided [
    | inl unsafe ↦ inl (merged_keeps rule c whole stays.breakable unsafe)
    | inr j ↦ by_line j (within_or_across rule 0 earlier.view.items later.view.items fits)
  ];
}
  where
    by_line : AreFragments false c whole earlier later → AreWithin rule earlier.view.items later.view.items ⊎ MergesAcross (0 + length earlier.view.items) (0 + (length earlier.view.items + length later.view.items)) (merges_by rule 0 (earlier.view.items ++ later.view.items))
        → StaysDivided false c (merged_state rule whole) (merged_state rule earlier) (merged_state rule later)
    by_line j (inl within) =
        subst (λ es. StaysDivided false c (merged_state rule whole) (state_after (with_events es earlier.view) earlier) (merged_state rule later)) (in_alone rule 0 earlier.view.items later.view.items alike within)
        (merges_divide rule c whole earlier later fits stays.breakable j stays.numbers within)
    by_line j (inr across) =
        let plain = plain_items c whole earlier later j stays.numbers in
        let m = length earlier.view.items in
        let n = length later.view.items in
        let one : 0 + m ≡ m = omega arith in
        let two : 0 + (m + n) ≡ m + n = omega arith in
        inl (merges_cross rule c whole earlier later stays.breakable j (subst (λ zs. MergesAcross m (m + n) (merges_by rule 0 zs)) (sym plain)
        (subst (λ (k : ℕ). MergesAcross k (m + n) (merges_by rule 0 (earlier.view.items ++ later.view.items))) one (subst (λ (k : ℕ). MergesAcross (0 + m) k (merges_by rule 0 (earlier.view.items ++ later.view.items))) two across))))

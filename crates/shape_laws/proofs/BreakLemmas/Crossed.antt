-- Stages with events across both of the texts that a text is broken into, or beside each other.
use Rattle.std.proofs.Common.{ℕ, ◌≡◌, ◌≤◌, ◌<◌, ◌+◌, ◌⊎◌, inl, inr, true, false, List, ◌∷◌, ◌++◌, length, map, Some, arith, sym, subst, ◌∙◌}
use Rattle.std.proofs.lemmas.List.{length-append}
use Rattle.buffer_glyphs.specs.declared.level.BufferClusterLevel.{BufferClusterLevel}
use Rattle.buffer_glyphs.specs.Levels.{IsMonotone}
use Rattle.buffer_glyphs.specs.Order.{IsOrdered}
use Rattle.buffer_glyphs.specs.Origins.{Asks, Origin, Span, numbers}
use Rattle.buffer_glyphs.specs.Events.{Event, origins_after}
use Rattle.buffer_glyphs.specs.Items.{Item}
use Rattle.buffer_glyphs.specs.Rewriting.{Arrangement, beside, shifted_event}
use Rattle.buffer_glyphs.specs.Lemmas.EventParts.{origins_keep_numbers}
use Rattle.buffer_glyphs.specs.Lemmas.Numbers.{Has}
use Rattle.buffer_glyphs.specs.Lemmas.Origins.{origins_after_both}
use Rattle.buffer_parts.specs.Counts.{count_after}
use Rattle.buffer_parts.specs.Orderly.{IsOrderly}
use Rattle.buffer_parts.specs.Lemmas.Counts.{counts_follow}
use Rattle.buffer_parts.specs.Lemmas.Orderly.{orderly_in_turn, plain_is_orderly}
use Rattle.buffer_core.specs.Readings.{BufferState, Read, state_after}
use Rattle.buffer_stages.specs.Appending.{with_arranged}
use Rattle.buffer_parts.specs.Breaks.Unsafe.{HaveSafeBreaks, IsUnsafeAt}
use Rattle.buffer_parts.specs.Breaks.Lossless.{AreLossless}
use Rattle.buffer_parts.specs.Breaks.Bound.{Crosses, bound_span}
use Rattle.buffer_parts.specs.Breaks.Concat.{SameButConcat, without_concats}
use Rattle.buffer_parts.specs.Breaks.Sides.{AreBounded, AreCutAt}
use Rattle.buffer_parts.specs.Breaks.Fragments.{AreFragments, AreGiven}
use Rattle.buffer_parts.specs.Breaks.Divisible.{IsBreakable, StaysDivided}
use Rattle.buffer_parts.proofs.BreakLemmas.Concat.{concat_is_apart, same_any, same_length, same_numbers}
use Rattle.buffer_parts.proofs.BreakLemmas.Concats.{concats_are_apart, lossless_without, orderly_without, same_trans}
use Rattle.buffer_parts.proofs.BreakLemmas.Crossing.{bound_stays_unsafe, ranges_cross}
use Rattle.buffer_parts.proofs.BreakLemmas.Divided.{both_change_alone}
use Rattle.buffer_parts.proofs.BreakLemmas.Events.{lossless_in_turn, safe_breaks_stay, unsafe_stays}
use Rattle.shape_laws.specs.Breaks.Rewrites.{IsWholeRewrite}
use Rattle.shape_laws.specs.Breaks.Texts.{StaysBroken}
use Rattle.shape_laws.proofs.BreakLemmas.Normalized.{rule_breakable, rule_divides, rule_keeps}
use Rattle.shape_laws.proofs.BreakLemmas.Normalized.{rule_breakable, rule_divides, rule_keeps}
use Rattle.shape_laws.proofs.BreakLemmas.Unnumbered.{given_early, given_late, plain_items}
use Rattle.buffer_parts.proofs.BreakLemmas.Beside.{safe_alike, unsafe_alike}

-- ---- an event across both, after events of both

-- events within the first of two lists, then events within the second, and then one that binds a range from the first into
-- the second
across_lists : (asks : Asks) (level : BufferClusterLevel) (es gs fs : List Event) (e : Event) (s : Span) (os qs : List Origin) (c : ℕ) → HaveSafeBreaks asks level (os ++ qs)
    → IsOrderly asks level ((es ++ map (shifted_event (count_after es (length os))) gs) ++ e ∷ fs) (os ++ qs) → AreLossless ((es ++ map (shifted_event (count_after es (length os))) gs) ++ e ∷ fs) (length (os ++ qs))
    → AreBounded es (length os) → AreBounded gs (length qs) → AreCutAt c os qs → bound_span asks level e ≡ Some s
    → s.from < count_after es (length os) → count_after es (length os) < s.to → s.to ≤ count_after es (length os) + count_after gs (length qs)
    → IsUnsafeAt c (origins_after asks level ((es ++ map (shifted_event (count_after es (length os))) gs) ++ e ∷ fs) (os ++ qs))
across_lists asks level es gs fs e s os qs c safe orderly lossless bounded late_bounded cut is low high fits =
    let before = es ++ map (shifted_event (count_after es (length os))) gs in
    let rest = e ∷ fs in
    let line = os ++ qs in
    let mid = origins_after asks level before line in
    let front = origins_after asks level es os in
    let back = origins_after asks level gs qs in
    let first = (orderly_in_turn asks level before rest line).0 orderly in
    let kept = (lossless_in_turn before rest (length line)).0 lossless in
    let counted : length front ≡ count_after es (length os) = counts_follow asks level es os in
    let late_counted : length back ≡ count_after gs (length qs) = counts_follow asks level gs qs in
    let all = length-append front back in
    elim (both_change_alone asks level es gs os qs c safe first.0 kept.0 bounded late_bounded cut) [
      | inl unsafe ↦
          subst (IsUnsafeAt c) (sym (origins_after_both asks level before rest line))
          (unsafe_stays asks level rest mid c (safe_breaks_stay asks level before line safe first.0) first.1 (subst (AreLossless rest) (sym (counts_follow asks level before line)) kept.1) unsafe)
      | inr alone ↦
          bound_stays_unsafe asks level before fs e s line c safe orderly lossless is
          (subst (λ (xs : List Origin). Crosses c s.from s.to (numbers xs)) (sym alone)
          (ranges_cross c s.from s.to front back (still_cut cut) (omega (arith, low, counted)) (omega (arith, high, counted)) (omega (arith, fits, counted, late_counted, all))))
    ]
  where
    still_cut : AreCutAt c os qs → AreCutAt c (origins_after asks level es os) (origins_after asks level gs qs)
    still_cut (inl sides) = inl ((λ n h. sides.0 n (origins_keep_numbers asks level es os n h)), (λ n h. sides.1 n (origins_keep_numbers asks level gs qs n h)))
    still_cut (inr sides) = inr ((λ n h. sides.0 n (origins_keep_numbers asks level es os n h)), (λ n h. sides.1 n (origins_keep_numbers asks level gs qs n h)))

-- among the events of a text that is broken into two, of m glyphs and of n, one binds a range across both, after events
-- within the earlier one and events within the later one
pub record IsAcross (m n : ℕ) (all : List Event) : Type 0 where
  pub early : List Event
  pub late : List Event
  pub event : Event
  pub rest : List Event
  pub span : Span
  pub is : all ≡ (early ++ map (shifted_event (count_after early m)) late) ++ event ∷ rest
  pub early_bounded : AreBounded early m
  pub late_bounded : AreBounded late n
  pub binds : (asks : Asks) (level : BufferClusterLevel) → asks.breaks ≡ true → IsMonotone level → bound_span asks level event ≡ Some span
  pub low : span.from < count_after early m
  pub high : count_after early m < span.to
  pub fits : span.to ≤ count_after early m + count_after late n

pub across_is_unsafe : (c : ℕ) (whole earlier later : BufferState) (r : Read) → IsBreakable whole → AreFragments false c whole earlier later
    → IsOrderly whole.asks whole.level (r.events whole.level) whole.origins → AreLossless (r.events whole.level) (length whole.origins)
    → IsAcross (length earlier.origins) (length later.origins) (without_concats (r.events whole.level)) → IsUnsafeAt c (state_after r whole).origins
across_is_unsafe c whole earlier later r b f h lossless x =
    let asks = whole.asks in
    let level = whole.level in
    let os = earlier.origins in
    let qs = later.origins in
    let line = os ++ qs in
    let ds = (x.early ++ map (shifted_event (count_after x.early (length os))) x.late) ++ x.event ∷ x.rest in
    let new = origins_after asks level ds line in
    let old = origins_after asks level (r.events level) whole.origins in
    let orderly : IsOrderly asks level ds line = subst (λ (xs : List Event). IsOrderly asks level xs line) x.is (orderly_without asks level (r.events level) whole.origins line f.origins h) in
    let flags : AreLossless ds (length line) =
    subst (AreLossless ds) (same_length whole.origins line f.origins) (subst (λ (xs : List Event). AreLossless xs (length whole.origins)) x.is (lossless_without (r.events level) (length whole.origins) lossless)) in
    let same : SameButConcat old new =
    subst (λ (xs : List Event). SameButConcat old (origins_after asks level xs line)) x.is
    (same_trans old (origins_after asks level (r.events level) line) (origins_after asks level (without_concats (r.events level)) line)
    (concat_is_apart asks asks.concat level (r.events level) whole.origins line f.origins) (concats_are_apart asks level (r.events level) line)) in
    unsafe_alike c old new same (across_lists asks level x.early x.late x.rest x.event x.span os qs c (safe_alike asks level whole.origins line f.origins b.breaks) orderly flags x.early_bounded x.late_bounded (inl (f.below, f.above)) (x.binds asks level b.breaks.requested b.breaks.monotone) x.low x.high x.fits)

-- ---- arrangements

-- a rule that arranges each list as a whole, and leaves items
pub record ArrangesTexts (f : List Item → Arrangement) : Type 0 where
  pub rewrites : (xs : List Item) → AreGiven 0 xs → IsWholeRewrite (length xs) (f xs)
  pub some : (xs : List Item) → AreGiven 0 xs → 0 < length xs → 0 < length (f xs).items

-- a rule arranges two lists, one after the other, each by itself, or an event is across both
abbrev pub DividesOrCrosses : (List Item → Arrangement) → List Item → List Item → Type 0
DividesOrCrosses f xs ys = (f (xs ++ ys) ≡ beside (f xs) (f ys)) ⊎ IsAcross (length xs) (length ys) (f (xs ++ ys)).events

-- the state of a text that a rule arranges
abbrev pub ruled_state : (List Item → Arrangement) → BufferState → BufferState
ruled_state f s = state_after (with_arranged (f s.view.items) s.view) s

-- an event across both makes it unsafe to break
pub ruled_unsafe : (f : List Item → Arrangement) (c : ℕ) (whole earlier later : BufferState) → ArrangesTexts f → StaysBroken c whole earlier later → (AreFragments false c whole earlier later → IsAcross (length earlier.view.items) (length later.view.items) (f whole.view.items).events)
    → IsUnsafeAt c (ruled_state f whole).origins
ruled_unsafe f c whole earlier later h stays across =
    let p = h.rewrites whole.view.items stays.given in
    let es = (f whole.view.items).events in
    let orderly = plain_is_orderly whole.asks whole.level es whole.origins p.plain in
    let lossless = subst (AreLossless es) (sym stays.breakable.whole.origins) p.lossless in
    elim stays.divided [
      | inl unsafe ↦ rule_keeps f c whole p stays.breakable unsafe
      | inr j ↦
          across_is_unsafe c whole earlier later (with_arranged (f whole.view.items) whole.view) stays.breakable j orderly lossless
          (subst (IsAcross (length earlier.origins) (length later.origins)) (sym p.no_concat) (subst (λ (n : ℕ). IsAcross (length earlier.origins) n es) (sym j.late_whole.origins) (subst (λ (n : ℕ). IsAcross n (length later.view.items) es) (sym j.early_whole.origins) (across j))))
    ]

-- a text that stays broken still does after a rule that arranges both by themselves, or has an event across both
pub ruled_stay : (f : List Item → Arrangement) (c : ℕ) (whole earlier later : BufferState) → ArrangesTexts f → ((xs ys : List Item) → AreGiven 0 xs → AreGiven 0 ys → 0 < length xs → 0 < length ys → DividesOrCrosses f xs ys) → StaysBroken c whole earlier later
    → StaysBroken c (ruled_state f whole) (ruled_state f earlier) (ruled_state f later)
ruled_stay f c whole earlier later h divides stays =
    let p = h.rewrites whole.view.items stays.given in
    record {
      breakable = rule_breakable f whole p stays.breakable;
      given = p.given;
      numbers = record { whole_none = stays.numbers.whole_none; early_none = stays.numbers.early_none; late_none = stays.numbers.late_none };
      divided = elim stays.divided [
        | inl unsafe ↦ inl (rule_keeps f c whole p stays.breakable unsafe)
        | inr j ↦ by_line j
      ];
    }
  where
    by_line : AreFragments false c whole earlier later → StaysDivided false c (ruled_state f whole) (ruled_state f earlier) (ruled_state f later)
    by_line j =
        let xs = earlier.view.items in
        let ys = later.view.items in
        let plain = plain_items c whole earlier later j stays.numbers in
        let early_count = j.early_whole.origins in
        let late_count = j.late_whole.origins in
        let early_some = j.early_some in
        let late_some = j.late_some in
        let some : 0 < length xs = omega (arith, early_some, early_count) in
        let more : 0 < length ys = omega (arith, late_some, late_count) in
        elim (divides xs ys (given_early c whole earlier later j stays.numbers) (given_late c whole earlier later j stays.numbers) some more) [
          | inl apart ↦
              (rule_divides f c whole earlier later stays.breakable j stays.numbers (record {
                apart = apart;
                whole = h.rewrites (xs ++ ys);
                first = h.rewrites xs;
                second = h.rewrites ys;
                first_some = h.some xs (given_early c whole earlier later j stays.numbers) some;
                second_some = h.some ys (given_late c whole earlier later j stays.numbers) more;
              })).divided
          | inr across ↦ inl (ruled_unsafe f c whole earlier later h stays (λ k. subst (λ zs. IsAcross (length xs) (length ys) (f zs).events) (sym plain) across))
        ]

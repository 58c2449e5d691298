-- Texts that are read as their fragments, one beside the other.
use Rattle.std.proofs.Common.{ℕ, ◌≡◌, ◌≤◌, ◌<◌, ◌⊎◌, inl, inr, ◌+◌, Bool, true, false, List, ◌∷◌, ◌++◌, Some, length, arith, ap, sym, subst, ◌∙◌}
use Rattle.buffer_glyphs.specs.declared.level.BufferClusterLevel.{BufferClusterLevel}
use Rattle.buffer_glyphs.specs.Order.{IsOrdered}
use Rattle.buffer_glyphs.specs.Origins.{Origin, Asks, Span, numbers}
use Rattle.buffer_glyphs.specs.Events.{Event, origins_after}
use Rattle.buffer_glyphs.specs.Lemmas.Numbers.{Has}
use Rattle.buffer_glyphs.specs.Lemmas.EventParts.{origins_keep_numbers}
use Rattle.buffer_parts.specs.Orderly.{IsOrderly}
use Rattle.buffer_parts.specs.Counts.{count_after}
use Rattle.buffer_parts.specs.Lemmas.Counts.{counts_follow}
use Rattle.buffer_parts.specs.Lemmas.Orderly.{orderly_in_turn}
use Rattle.buffer_glyphs.specs.Lemmas.Origins.{origins_after_both}
use Rattle.buffer_parts.specs.Breaks.Bound.{Crosses, bound_span}
use Rattle.std.proofs.lemmas.List.{length-append}
use Rattle.buffer_core.specs.Readings.{Read, BufferState, state_after}
use Rattle.buffer_parts.specs.Breaks.Unsafe.{IsUnsafeAt, HaveSafeBreaks}
use Rattle.buffer_parts.specs.Breaks.Lossless.{AreLossless}
use Rattle.buffer_parts.specs.Breaks.Concat.{SameButConcat, without_concats}
use Rattle.buffer_parts.specs.Breaks.Sides.{AreBounded, AreCutAt}
use Rattle.buffer_parts.specs.Breaks.Fragments.{as_they_stand, standing_first, standing_last, IsWhole, IsFragmentOf}
use Rattle.buffer_parts.specs.Breaks.Beside.{events_as_they_stand, IsReadAlone}
use Rattle.buffer_parts.specs.Breaks.FragmentLaws.{BesideStaysDivided, BesideIsDivisible, BesideIsFreelyDivisible, CrossingIsUnsafe}
use Rattle.buffer_parts.proofs.BreakLemmas.Concat.{same_both, same_numbers, same_length, same_any, concat_is_apart}
use Rattle.buffer_parts.proofs.BreakLemmas.Concats.{same_sym, same_trans, concats_are_apart, orderly_without, lossless_without}
use Rattle.buffer_parts.proofs.BreakLemmas.Divided.{both_change_alone, both_change_backward, first_changes_alone}
use Rattle.buffer_parts.proofs.BreakLemmas.Crossing.{ranges_cross, bound_stays_unsafe}
use Rattle.buffer_parts.proofs.BreakLemmas.Events.{unsafe_stays, safe_breaks_stay, lossless_in_turn}
use Rattle.buffer_parts.proofs.BreakLemmas.Division.{orderly_at, lossless_at, lossless_stages_keep_unsafe}

-- ---- origins that are the same but for UNSAFE_TO_CONCAT

pub unsafe_alike : (c : ℕ) (os qs : List Origin) → SameButConcat os qs → IsUnsafeAt c qs → IsUnsafeAt c os
unsafe_alike c os qs s u = λ there. same_any c os qs s ∙ u (subst (λ (ns : List ℕ). Has ns c) (same_numbers os qs s) there)

pub safe_alike : (asks : Asks) (level : BufferClusterLevel) (os qs : List Origin) → SameButConcat os qs → HaveSafeBreaks asks level os → HaveSafeBreaks asks level qs
safe_alike asks level os qs s h = record { requested = h.requested; monotone = h.monotone; ordered = subst IsOrdered (same_numbers os qs s) h.ordered }

-- ---- events of both fragments

line_divides : (backward falls : Bool) (asks : Asks) (level : BufferClusterLevel) (es fs : List Event) (os qs : List Origin) (c : ℕ) → HaveSafeBreaks asks level (as_they_stand falls os qs)
    → IsOrderly asks level (events_as_they_stand backward falls es fs (length os) (length qs)) (as_they_stand falls os qs) → AreLossless (events_as_they_stand backward falls es fs (length os) (length qs)) (length (as_they_stand falls os qs))
    → AreBounded es (length os) → AreBounded fs (length qs) → ((n : ℕ) → Has (numbers os) n → n < c) → ((n : ℕ) → Has (numbers qs) n → c ≤ n)
    → IsUnsafeAt c (origins_after asks level (events_as_they_stand backward falls es fs (length os) (length qs)) (as_they_stand falls os qs))
    ⊎ (origins_after asks level (events_as_they_stand backward falls es fs (length os) (length qs)) (as_they_stand falls os qs) ≡ as_they_stand falls (origins_after asks level es os) (origins_after asks level fs qs))
line_divides false false asks level es fs os qs c s h l v w below above = both_change_alone asks level es fs os qs c s h l v w (inl (below, above))
line_divides false true asks level es fs os qs c s h l v w below above = both_change_alone asks level fs es qs os c s h l w v (inr (above, below))
line_divides true false asks level es fs os qs c s h l v w below above = both_change_backward asks level es fs os qs c s h l v w (inl (below, above))
line_divides true true asks level es fs os qs c s h l v w below above = both_change_backward asks level fs es qs os c s h l w v (inr (above, below))

line_same : (falls : Bool) (os qs xs ys : List Origin) → SameButConcat os qs → SameButConcat xs ys → SameButConcat (as_they_stand falls os xs) (as_they_stand falls qs ys)
line_same false os qs xs ys h k = same_both os qs xs ys h k
line_same true os qs xs ys h k = same_both xs ys os qs k h

-- ---- states

-- the origins of a fragment after its events, by the settings of the whole
fragment_origins : (whole fragment : BufferState) (e : Read) → IsFragmentOf whole fragment → (state_after e fragment).origins ≡ origins_after whole.asks whole.level (e.events whole.level) fragment.origins
fragment_origins whole fragment e of =
    ap (λ (asks : Asks). origins_after asks fragment.level (e.events fragment.level) fragment.origins) of.requests ∙ ap (λ (level : BufferClusterLevel). origins_after whole.asks level (e.events level) fragment.origins) of.level

fragment_whole : (whole fragment : BufferState) (e : Read) → IsFragmentOf whole fragment → IsReadAlone whole.level (length fragment.origins) e → IsWhole (state_after e fragment)
fragment_whole whole fragment e of alone = record {
  positions = alone.positions;
  origins = ap length (fragment_origins whole fragment e of) ∙ counts_follow whole.asks whole.level (e.events whole.level) fragment.origins ∙ alone.counted;
}

fragment_some : (whole fragment : BufferState) (e : Read) → IsFragmentOf whole fragment → IsReadAlone whole.level (length fragment.origins) e → 0 < length (state_after e fragment).origins
fragment_some whole fragment e of alone = let many = (fragment_whole whole fragment e of alone).origins in let some = alone.some in omega (arith, many, some)

of_text : (whole fragment : BufferState) (r e : Read) → IsFragmentOf whole fragment → e.view.direction ≡ r.view.direction → IsFragmentOf (state_after r whole) (state_after e fragment)
of_text whole fragment r e of d = record { direction = d; level = of.level; requests = of.requests }

kept_below : (whole fragment : BufferState) (e : Read) (n : ℕ) → IsFragmentOf whole fragment → Has (numbers (state_after e fragment).origins) n → Has (numbers fragment.origins) n
kept_below whole fragment e n of h = origins_keep_numbers fragment.asks fragment.level (e.events fragment.level) fragment.origins n h

pub beside_stays_divided : BesideStaysDivided
beside_stays_divided backward falls c whole earlier later r e l b f h lossless q =
    let asks = whole.asks in
    let level = whole.level in
    let es = without_concats (e.events level) in
    let fs = without_concats (l.events level) in
    let os = earlier.origins in
    let qs = later.origins in
    let line = as_they_stand falls os qs in
    let ds = events_as_they_stand backward falls es fs (length os) (length qs) in
    let new = origins_after asks level ds line in
    let old = origins_after asks level (r.events level) whole.origins in
    let early = fragment_origins whole earlier e f.early_of in
    let late = fragment_origins whole later l f.late_of in
    let orderly : IsOrderly asks level ds line = subst (λ (xs : List Event). IsOrderly asks level xs line) q.events (orderly_without asks level (r.events level) whole.origins line f.origins h) in
    let flags : AreLossless ds (length line) =
    subst (AreLossless ds) (same_length whole.origins line f.origins) (subst (λ (xs : List Event). AreLossless xs (length whole.origins)) q.events (lossless_without (r.events level) (length whole.origins) lossless)) in
    let same : SameButConcat old new =
    subst (λ (xs : List Event). SameButConcat old (origins_after asks level xs line)) q.events
    (same_trans old (origins_after asks level (r.events level) line) (origins_after asks level (without_concats (r.events level)) line)
    (concat_is_apart asks asks.concat level (r.events level) whole.origins line f.origins) (concats_are_apart asks level (r.events level) line)) in
    elim (line_divides backward falls asks level es fs os qs c (safe_alike asks level whole.origins line f.origins b.breaks) orderly flags q.early.bounded q.late.bounded f.below f.above) [
      | inl unsafe ↦ inl (unsafe_alike c old new same unsafe)
      | inr alone ↦
          let first : SameButConcat (origins_after asks level es os) (state_after e earlier).origins =
          subst (SameButConcat (origins_after asks level es os)) (sym early) (same_sym (origins_after asks level (e.events level) os) (origins_after asks level es os) (concats_are_apart asks level (e.events level) os)) in
          let second : SameButConcat (origins_after asks level fs qs) (state_after l later).origins =
          subst (SameButConcat (origins_after asks level fs qs)) (sym late) (same_sym (origins_after asks level (l.events level) qs) (origins_after asks level fs qs) (concats_are_apart asks level (l.events level) qs)) in
          let fragments = as_they_stand falls (state_after e earlier).origins (state_after l later).origins in
          let both : SameButConcat new fragments =
          subst (λ (xs : List Origin). SameButConcat xs fragments) (sym alone) (line_same falls (origins_after asks level es os) (state_after e earlier).origins (origins_after asks level fs qs) (state_after l later).origins first second) in
          inr (
          record {
            early_name = q.early_name;
            late_name = q.late_name;
            names = q.names;
            items = q.items;
            positions = q.positions;
            origins = same_trans old new fragments same both;
            below = λ n g. f.below n (kept_below whole earlier e n f.early_of g);
            above = λ n g. f.above n (kept_below whole later l n f.late_of g);
            early_some = fragment_some whole earlier e f.early_of q.early;
            late_some = fragment_some whole later l f.late_of q.late;
            early_whole = fragment_whole whole earlier e f.early_of q.early;
            late_whole = fragment_whole whole later l f.late_of q.late;
            early_of = of_text whole earlier r e f.early_of q.early_direction;
            late_of = of_text whole later r l f.late_of q.late_direction;
          }
          )
    ]

pub beside_is_divisible : BesideIsDivisible
beside_is_divisible backward falls stage early late kept lossless positions spends early_spends late_spends beside =
    let keeps = lossless_stages_keep_unsafe stage kept lossless positions in
    record {
      divides = λ c whole earlier later r e l ready fragments is_r is_e is_l spared_r spared_e spared_l.
          elim (beside c whole earlier later r e l ready fragments is_r is_e is_l spared_r spared_e spared_l) [
            | inl unsafe ↦ inl unsafe
            | inr read ↦ beside_stays_divided backward falls c whole earlier later r e l ready fragments (orderly_at stage whole r kept is_r ready) (lossless_at stage whole r lossless is_r ready) read
          ];
      breakable = keeps.0;
      unsafe = keeps.1;
      spends = spends;
      early_spends = early_spends;
      late_spends = late_spends;
    }

pub beside_is_freely_divisible : BesideIsFreelyDivisible
beside_is_freely_divisible backward falls stage early late kept lossless positions beside =
    let keeps = lossless_stages_keep_unsafe stage kept lossless positions in
    record {
      divides = λ c whole earlier later r e l ready fragments is_r is_e is_l.
          elim (beside c whole earlier later r e l ready fragments is_r is_e is_l) [
            | inl unsafe ↦ inl unsafe
            | inr read ↦ beside_stays_divided backward falls c whole earlier later r e l ready fragments (orderly_at stage whole r kept is_r ready) (lossless_at stage whole r lossless is_r ready) read
          ];
      breakable = keeps.0;
      unsafe = keeps.1;
    }

-- ---- an event across both fragments

-- two lists that are cut at c, and an event that binds a range from the first into the second
across_lists : (asks : Asks) (level : BufferClusterLevel) (es fs : List Event) (e : Event) (s : Span) (os qs : List Origin) (c : ℕ) → HaveSafeBreaks asks level (os ++ qs) → IsOrderly asks level (es ++ e ∷ fs) (os ++ qs)
    → AreLossless (es ++ e ∷ fs) (length (os ++ qs)) → AreBounded es (length os) → AreCutAt c os qs → bound_span asks level e ≡ Some s
    → s.from < count_after es (length os) → count_after es (length os) < s.to → s.to ≤ count_after es (length os) + length qs → IsUnsafeAt c (origins_after asks level (es ++ e ∷ fs) (os ++ qs))
across_lists asks level es fs e s os qs c safe orderly lossless bounded cut is low high fits =
    let rest = e ∷ fs in
    let line = os ++ qs in
    let mid = origins_after asks level es line in
    let front = origins_after asks level es os in
    let first = (orderly_in_turn asks level es rest line).0 orderly in
    let kept = (lossless_in_turn es rest (length line)).0 lossless in
    let counted : length front ≡ count_after es (length os) = counts_follow asks level es os in
    let all = length-append front qs in
    elim (first_changes_alone asks level es os qs c safe first.0 kept.0 bounded cut) [
      | inl unsafe ↦
          subst (IsUnsafeAt c) (sym (origins_after_both asks level es rest line))
          (unsafe_stays asks level rest mid c (safe_breaks_stay asks level es line safe first.0) first.1 (subst (AreLossless rest) (sym (counts_follow asks level es line)) kept.1) unsafe)
      | inr alone ↦
          bound_stays_unsafe asks level es fs e s line c safe orderly lossless is
          (subst (λ (xs : List Origin). Crosses c s.from s.to (numbers xs)) (sym alone)
          (ranges_cross c s.from s.to front qs (still_cut cut) (omega (arith, low, counted)) (omega (arith, high, counted)) (omega (arith, fits, counted, all))))
    ]
  where
    still_cut : AreCutAt c os qs → AreCutAt c (origins_after asks level es os) qs
    still_cut (inl sides) = inl ((λ n h. sides.0 n (origins_keep_numbers asks level es os n h)), sides.1)
    still_cut (inr sides) = inr ((λ n h. sides.0 n (origins_keep_numbers asks level es os n h)), sides.1)

line_across : (falls : Bool) (asks : Asks) (level : BufferClusterLevel) (es fs : List Event) (e : Event) (s : Span) (os qs : List Origin) (c : ℕ) → HaveSafeBreaks asks level (as_they_stand falls os qs)
    → IsOrderly asks level (es ++ e ∷ fs) (as_they_stand falls os qs) → AreLossless (es ++ e ∷ fs) (length (as_they_stand falls os qs)) → AreBounded es (length (standing_first falls os qs))
    → ((n : ℕ) → Has (numbers os) n → n < c) → ((n : ℕ) → Has (numbers qs) n → c ≤ n) → bound_span asks level e ≡ Some s
    → s.from < count_after es (length (standing_first falls os qs)) → count_after es (length (standing_first falls os qs)) < s.to
    → s.to ≤ count_after es (length (standing_first falls os qs)) + length (standing_last falls os qs) → IsUnsafeAt c (origins_after asks level (es ++ e ∷ fs) (as_they_stand falls os qs))
line_across false asks level es fs e s os qs c safe orderly lossless bounded below above is low high fits = across_lists asks level es fs e s os qs c safe orderly lossless bounded (inl (below, above)) is low high fits
line_across true asks level es fs e s os qs c safe orderly lossless bounded below above is low high fits = across_lists asks level es fs e s qs os c safe orderly lossless bounded (inr (above, below)) is low high fits

pub crossing_is_unsafe : CrossingIsUnsafe
crossing_is_unsafe falls c whole earlier later r es fs e s b f h lossless is bounded binds low high fits =
    let asks = whole.asks in
    let level = whole.level in
    let os = earlier.origins in
    let qs = later.origins in
    let line = as_they_stand falls os qs in
    let ds = es ++ e ∷ fs in
    let new = origins_after asks level ds line in
    let old = origins_after asks level (r.events level) whole.origins in
    let orderly : IsOrderly asks level ds line = subst (λ (xs : List Event). IsOrderly asks level xs line) is (orderly_without asks level (r.events level) whole.origins line f.origins h) in
    let flags : AreLossless ds (length line) =
    subst (AreLossless ds) (same_length whole.origins line f.origins) (subst (λ (xs : List Event). AreLossless xs (length whole.origins)) is (lossless_without (r.events level) (length whole.origins) lossless)) in
    let same : SameButConcat old new =
    subst (λ (xs : List Event). SameButConcat old (origins_after asks level xs line)) is
    (same_trans old (origins_after asks level (r.events level) line) (origins_after asks level (without_concats (r.events level)) line)
    (concat_is_apart asks asks.concat level (r.events level) whole.origins line f.origins) (concats_are_apart asks level (r.events level) line)) in
    unsafe_alike c old new same (line_across falls asks level es fs e s os qs c (safe_alike asks level whole.origins line f.origins b.breaks) orderly flags bounded f.below f.above binds low high fits)

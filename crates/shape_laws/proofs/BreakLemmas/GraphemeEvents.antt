-- The events of graphemes: those of two texts, one after the other, and those of single characters.
use Rattle.std.proofs.Common.{ℕ, ◌≡◌, ◌≤◌, ◌+◌, ◌==◌, ◌||◌, Bool, true, false, ◌-◌, if◌then◌else◌, max, eqb-true, eq-eqb, List, [], ◌∷◌, ◌++◌, length, map, take, drop, Some, arith, refl, ap, ◌∙◌}
use Rattle.std.specs.Prelude.{slice_range}
use Rattle.std.proofs.lemmas.List.{length-take, take-map, drop-map}
use Rattle.buffer_glyphs.specs.declared.level.BufferClusterLevel.{BufferClusterLevel}
use Rattle.buffer_glyphs.specs.declared.level.BufferClusterLevel.TheVariants.{MonotoneGraphemes, MonotoneCharacters, Characters, Graphemes}
use Rattle.buffer_glyphs.specs.Levels.{IsMonotone}
use Rattle.buffer_glyphs.specs.Merges.{least_number, merged_number}
use Rattle.buffer_glyphs.specs.Origins.{Origin, Asks, numbers, added_outside, origins_merged, origins_marked}
use Rattle.buffer_glyphs.specs.Parts.{range_of}
use Rattle.buffer_glyphs.specs.Events.{origins_after, origins_after_event}
use Rattle.buffer_glyphs.specs.Rewriting.{shifted_event}
use Rattle.buffer_parts.specs.Groups.{AreSingle}
use Rattle.buffer_parts.specs.Plainly.{AreSteady}
use Rattle.buffer_parts.specs.Breaks.Lossless.{AreLossless}
use Rattle.buffer_parts.specs.Breaks.Bound.{bound_span}
use Rattle.buffer_parts.specs.Breaks.Concat.{without_concats}
use Rattle.buffer_parts.specs.Breaks.Sides.{AreBounded}
use Rattle.buffer_glyphs.specs.Lemmas.Origins.{cut_in_three}
use Rattle.shape_text.specs.Clusters.{grapheme_event, grapheme_events}
use Rattle.shape_laws.proofs.BreakLemmas.Groups.{total}
use Rattle.layout_gsub.proofs.Merged.{all_cast as same_cast}

pub events_both : (level : BufferClusterLevel) (at : ℕ) (ls ns : List ℕ) → grapheme_events level at (ls ++ ns) ≡ grapheme_events level at ls ++ grapheme_events level (at + total ls) ns
events_both level at [] ns = let e : at ≡ at + 0 = omega arith in ap (λ (i : ℕ). grapheme_events level i ns) e
events_both level at (l ∷ ls) ns =
    let e : at + l + total ls ≡ at + (l + total ls) = omega arith in
    ap (λ es. grapheme_event level at (at + l) ∷ es) (events_both level (at + l) ls ns ∙ ap (λ (i : ℕ). grapheme_events level (at + l) ls ++ grapheme_events level i ns) e)

event_shifted : (level : BufferClusterLevel) (m from to : ℕ) → shifted_event m (grapheme_event level from to) ≡ grapheme_event level (m + from) (m + to)
event_shifted MonotoneGraphemes m from to = refl
event_shifted MonotoneCharacters m from to = refl
event_shifted Characters m from to = refl
event_shifted Graphemes m from to = refl

pub events_shifted : (level : BufferClusterLevel) (m at : ℕ) (lens : List ℕ) → map (shifted_event m) (grapheme_events level at lens) ≡ grapheme_events level (m + at) lens
events_shifted level m at [] = refl
events_shifted level m at (n ∷ lens) =
    let e : m + (at + n) ≡ m + at + n = omega arith in
    ap (λ f. f ∷ map (shifted_event m) (grapheme_events level (at + n) lens)) (event_shifted level m at (at + n))
    ∙ ap (λ es. grapheme_event level (m + at) (m + (at + n)) ∷ es) (events_shifted level m (at + n) lens)
    ∙ ap (λ (i : ℕ). grapheme_event level (m + at) i ∷ grapheme_events level i lens) e

pub events_no_concats : (level : BufferClusterLevel) (at : ℕ) (lens : List ℕ) → without_concats (grapheme_events level at lens) ≡ grapheme_events level at lens
events_no_concats level at [] = refl
events_no_concats MonotoneGraphemes at (n ∷ lens) = ap (λ es. grapheme_event MonotoneGraphemes at (at + n) ∷ es) (events_no_concats MonotoneGraphemes (at + n) lens)
events_no_concats MonotoneCharacters at (n ∷ lens) = ap (λ es. grapheme_event MonotoneCharacters at (at + n) ∷ es) (events_no_concats MonotoneCharacters (at + n) lens)
events_no_concats Characters at (n ∷ lens) = ap (λ es. grapheme_event Characters at (at + n) ∷ es) (events_no_concats Characters (at + n) lens)
events_no_concats Graphemes at (n ∷ lens) = ap (λ es. grapheme_event Graphemes at (at + n) ∷ es) (events_no_concats Graphemes (at + n) lens)

pub events_lossless : (level : BufferClusterLevel) (at : ℕ) (lens : List ℕ) (n : ℕ) → AreLossless (grapheme_events level at lens) n
events_lossless level at [] n = tt
events_lossless MonotoneGraphemes at (k ∷ lens) n = (tt, events_lossless MonotoneGraphemes (at + k) lens n)
events_lossless MonotoneCharacters at (k ∷ lens) n = (tt, events_lossless MonotoneCharacters (at + k) lens n)
events_lossless Characters at (k ∷ lens) n = (tt, events_lossless Characters (at + k) lens n)
events_lossless Graphemes at (k ∷ lens) n = (tt, events_lossless Graphemes (at + k) lens n)

pub events_bounded : (level : BufferClusterLevel) (at : ℕ) (lens : List ℕ) (n : ℕ) → at + total lens ≤ n → AreBounded (grapheme_events level at lens) n
events_bounded level at [] n fits = tt
events_bounded MonotoneGraphemes at (k ∷ lens) n fits = ((omega (arith, fits), omega (arith, fits)), events_bounded MonotoneGraphemes (at + k) lens n (omega (arith, fits)))
events_bounded MonotoneCharacters at (k ∷ lens) n fits = ((omega (arith, fits), omega (arith, fits)), events_bounded MonotoneCharacters (at + k) lens n (omega (arith, fits)))
events_bounded Characters at (k ∷ lens) n fits = ((omega (arith, fits), omega (arith, fits)), events_bounded Characters (at + k) lens n (omega (arith, fits)))
events_bounded Graphemes at (k ∷ lens) n fits = ((omega (arith, fits), omega (arith, fits)), events_bounded Graphemes (at + k) lens n (omega (arith, fits)))

-- at a monotone level the event of a grapheme binds it
pub grapheme_binds : (asks : Asks) (level : BufferClusterLevel) (from to : ℕ) → IsMonotone level → bound_span asks level (grapheme_event level from to) ≡ Some (record { from = from; to = to })
grapheme_binds asks MonotoneGraphemes from to mono = refl
grapheme_binds asks MonotoneCharacters from to mono = refl
grapheme_binds asks Characters from to mono = absurd mono
grapheme_binds asks Graphemes from to mono = absurd mono

-- ---- single characters

-- a range of at most one element has no other number than its least
at_most_one : (range : List ℕ) (n : ℕ) → length range ≤ 1 → merged_number range n ≡ n
at_most_one [] n long = refl
at_most_one (m ∷ k ∷ range) n long = absurd (omega (arith, long))
at_most_one (m ∷ []) n long = by_test (m == n) refl
  where
    by_test : (b : Bool) → (m == n) ≡ b → (if b || false then m else n) ≡ n
    by_test true e = eqb-true m n e
    by_test false e = refl

same_marked : (bits : ℕ) (os : List Origin) → length os ≤ 1 → map (added_outside bits (least_number (numbers os))) os ≡ os
same_marked bits [] long = refl
same_marked bits (o ∷ q ∷ os) long = absurd (omega (arith, long))
same_marked bits (o ∷ []) long = rw (eq-eqb o.cluster o.cluster refl) refl

sliced : (from to : ℕ) (os : List Origin) → range_of from to (numbers os) ≡ numbers (slice_range os from to)
sliced from to os = ap (take (to - from)) (drop-map (λ (o : Origin). o.cluster) from os) ∙ take-map (λ (o : Origin). o.cluster) (to - from) (drop from os)

short : (from to : ℕ) (os : List Origin) → to ≤ from + 1 → length (slice_range os from to) ≤ 1
short from to os le = let many = length-take (to - from) (drop from os) in omega (arith, many, le)

single_marked : (bits from to : ℕ) (os : List Origin) → to ≤ from + 1 → origins_marked bits from to os ≡ os
single_marked bits from to os le =
    ap (λ (ns : List ℕ). take from os ++ map (added_outside bits (least_number ns)) (slice_range os from to) ++ drop (max from to) os) (sliced from to os)
    ∙ ap (λ (qs : List Origin). take from os ++ qs ++ drop (max from to) os) (same_marked bits (slice_range os from to) (short from to os le))
    ∙ cut_in_three from to os

single_merged : (from to : ℕ) (os : List Origin) → to ≤ from + 1 → origins_merged (range_of from to (numbers os)) os ≡ os
single_merged from to os le = same_cast (range_of from to (numbers os)) os (let many = length-take (to - from) (drop from (numbers os)) in omega (arith, many, le))

single_event : (asks : Asks) (level : BufferClusterLevel) (from to : ℕ) (os : List Origin) → to ≤ from + 1 → origins_after_event asks level os (grapheme_event level from to) ≡ os
single_event asks MonotoneGraphemes from to os le = single_merged from to os le
single_event asks MonotoneCharacters from to os le = single_marked 3 from to os le
single_event asks Characters from to os le = single_marked 3 from to os le
single_event asks Graphemes from to os le = single_merged from to os le

-- graphemes of one character each change no cluster, and set no flag
pub single_events : (asks : Asks) (level : BufferClusterLevel) (at : ℕ) (lens : List ℕ) (os : List Origin) → AreSingle lens → origins_after asks level (grapheme_events level at lens) os ≡ os
single_events asks level at [] os single = refl
single_events asks level at (n ∷ lens) os single =
    let one = single.0 in
    ap (origins_after asks level (grapheme_events level (at + n) lens)) (single_event asks level at (at + n) os (omega (arith, one))) ∙ single_events asks level (at + n) lens os single.1

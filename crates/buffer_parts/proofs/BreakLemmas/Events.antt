-- What is unsafe to break stays so over events.
use Rattle.std.proofs.Common.{ℕ, ◌≡◌, ◌+◌, true, List, [], ◌∷◌, ◌++◌, length, take, drop, arith, sym, subst}
use Rattle.buffer_glyphs.specs.declared.level.BufferClusterLevel.{BufferClusterLevel}
use Rattle.buffer_glyphs.specs.Levels.{IsMonotone, grapheme_manner}
use Rattle.buffer_glyphs.specs.Parts.{elements_replaced}
use Rattle.buffer_glyphs.specs.Order.{IsOrdered, BringsNone}
use Rattle.buffer_glyphs.specs.Origins.{Origin, numbers, InList, manner, origins_merged_as, origins_deleted, with_range_arranged, spans, spans_merged, Asks}
use Rattle.buffer_glyphs.specs.Events.{Event, Merge, MergeGrapheme, Replace, Circle, Delete, Move, Arrange, Sort, Reverse, Break, Concat, Tatweel, StrictBreak, Spread, Reset, origins_after_event, origins_after}
use Rattle.buffer_glyphs.specs.EventParts.{parts_of}
use Rattle.buffer_glyphs.specs.Lemmas.Numbers.{Has}
use Rattle.buffer_glyphs.specs.Lemmas.Parts.{stays_ordered}
use Rattle.buffer_glyphs.specs.Lemmas.EventParts.{event_brings}
use Rattle.buffer_parts.specs.Orderly.{IsOrderly}
use Rattle.buffer_parts.specs.Counts.{count_after, count_after_event}
use Rattle.buffer_parts.specs.Lemmas.Orderly.{orderly_are_parts}
use Rattle.buffer_parts.specs.Lemmas.Counts.{counts_follow}
use Rattle.buffer_parts.specs.Breaks.Unsafe.{is_unsafe_of, has_unsafe_of}
use Rattle.buffer_parts.specs.Breaks.Lossless.{IsPermuting, IsLossless, AreLossless}
use Rattle.buffer_parts.specs.Breaks.Laws.{EventStaysUnsafe, UnsafeStays, SafeBreaksStay, LosslessInTurn}
use Rattle.buffer_parts.proofs.BreakLemmas.Any.{any_arranged, any_reverse}
use Rattle.buffer_parts.proofs.BreakLemmas.Merged.{marked_stays, concat_stays, tatweel_stays, strictly_stays, merge_stays, spans_stay, length_spans, circle_stays, replaced_brings, replacing_stays, merged_ordered}
use Rattle.buffer_parts.proofs.BreakLemmas.Handed.{handed_there}
use Rattle.buffer_parts.proofs.BreakLemmas.Spread.{spread_stays}
use Rattle.buffer_parts.proofs.BreakLemmas.Deleted.{deleting_stays}
use Rattle.buffer_stages.specs.Lemmas.Nested.{merged_length as length_merged}

-- ---- one event

pub arranged_stays : (c from : ℕ) (order : List ℕ) (os qs : List Origin) → length qs ≡ length os → IsPermuting from order (length os) → has_unsafe_of c qs ≡ true → has_unsafe_of c (with_range_arranged from order qs) ≡ true
arranged_stays c from order os qs long p h = any_arranged (is_unsafe_of c) from order qs (subst (IsPermuting from order) (sym long) p) h

pub arranged_brings : (asks : Asks) (level : BufferClusterLevel) (from : ℕ) (order : List ℕ) (os : List Origin) → BringsNone (numbers os) (numbers (with_range_arranged from order os))
arranged_brings asks level from order os = event_brings asks level os (Arrange from order)

event_stays : (asks : Asks) (level : BufferClusterLevel) (e : Event) (os : List Origin) (c : ℕ) → asks.breaks ≡ true → IsOrdered (numbers os) → IsLossless e (length os) → Has (numbers (origins_after_event asks level os e)) c → has_unsafe_of c os ≡ true
    → has_unsafe_of c (origins_after_event asks level os e) ≡ true
event_stays asks level (Merge how from to) os c b o l there h = merge_stays (manner how level) c from to os there h
event_stays asks level (MergeGrapheme from to) os c b o l there h = merge_stays (grapheme_manner level) c from to os there h
event_stays asks level (Replace at taken given) os c b o l there h =
    let mid = origins_merged_as (manner InList level) at (at + taken) os in
    let new : Has (numbers (elements_replaced at taken given mid)) c = handed_there asks.breaks c (take taken (drop at mid)) (at + given) (elements_replaced at taken given mid) there in
    replacing_stays asks.breaks c at taken given mid b (merged_ordered (manner InList level) at (at + taken) os (omega arith) o) new (merge_stays (manner InList level) c at (at + taken) os (replaced_brings at taken given mid c new) h)
event_stays asks level (Circle after beside like) os c b o l there h = circle_stays after c beside like os h
event_stays asks level (Delete at) os c b o l there h = deleting_stays asks.breaks level c at os b o (handed_there asks.breaks c (take 1 (drop at os)) at (origins_deleted level at os) there) h
event_stays asks level (Move how from order) os c b o l there h =
    let m = manner how level in
    let mid = origins_merged_as m from (from + length order) os in
    arranged_stays c from order os mid (length_merged m from (from + length order) os) l (merge_stays m c from (from + length order) os (arranged_brings asks level from order mid c there) h)
event_stays asks level (Arrange from order) os c b o l there h = any_arranged (is_unsafe_of c) from order os l h
event_stays asks level (Sort from order) os c b o l there h =
    let m = manner InList level in
    let mid = spans_merged m from (spans order) os in
    arranged_stays c from order os mid (length_spans m from (spans order) os) l (spans_stay m c from (spans order) os (arranged_brings asks level from order mid c there) h)
event_stays asks level Reverse os c b o l there h = any_reverse (is_unsafe_of c) os h
event_stays asks level (Break from to) os c b o l there h = marked_stays c 3 from to os h
event_stays asks level (Concat from to) os c b o l there h = concat_stays asks.concat c from to os h
event_stays asks level (Tatweel from to) os c b o l there h = tatweel_stays asks.tatweel c from to os h
event_stays asks level (StrictBreak from to) os c b o l there h = strictly_stays asks.breaks c from to os h
event_stays asks level Spread os c b o l there h = spread_stays asks c os h
event_stays asks level Reset os c b o l there h = absurd l

pub event_stays_unsafe : EventStaysUnsafe
event_stays_unsafe asks level e os c b o l u = λ there. event_stays asks level e os c b o l there (u (event_brings asks level os e c there))

-- ---- some events

ordered_after : (asks : Asks) (level : BufferClusterLevel) (es : List Event) (os : List Origin) → IsMonotone level → IsOrderly asks level es os → IsOrdered (numbers os) → IsOrdered (numbers (origins_after asks level es os))
ordered_after asks level es os m h o = subst IsOrdered (sym (orderly_are_parts asks level es os m h o)) (stays_ordered (parts_of level es) (numbers os) o)

pub safe_breaks_stay : SafeBreaksStay
safe_breaks_stay asks level es os s h = record { requested = s.requested; monotone = s.monotone; ordered = ordered_after asks level es os s.monotone h s.ordered }

pub unsafe_stays : UnsafeStays
unsafe_stays asks level [] os c s h l u = u
unsafe_stays asks level (e ∷ es) os c s h l u =
    let mid = origins_after_event asks level os e in
    let counted : length mid ≡ count_after_event (length os) e = counts_follow asks level (e ∷ []) os in
    unsafe_stays asks level es mid c (safe_breaks_stay asks level (e ∷ []) os s (h.0, tt)) h.1 (subst (AreLossless es) (sym counted) l.1) (event_stays_unsafe asks level e os c s.requested s.ordered l.0 u)

first_lossless : (es fs : List Event) (n : ℕ) → AreLossless (es ++ fs) n → AreLossless es n × AreLossless fs (count_after es n)
first_lossless [] fs n h = (tt, h)
first_lossless (e ∷ es) fs n h = let rest = first_lossless es fs (count_after_event n e) h.1 in ((h.0, rest.0), rest.1)

pub both_lossless : (es fs : List Event) (n : ℕ) → AreLossless es n → AreLossless fs (count_after es n) → AreLossless (es ++ fs) n
both_lossless [] fs n h k = k
both_lossless (e ∷ es) fs n h k = (h.0, both_lossless es fs (count_after_event n e) h.1 k)

pub lossless_in_turn : LosslessInTurn
lossless_in_turn es fs n = (first_lossless es fs n, both_lossless es fs n)

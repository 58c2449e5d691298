-- Events without those that set UNSAFE_TO_CONCAT.
use Rattle.std.proofs.Common.{ℕ, Bool, false, List, [], ◌∷◌, sym, subst, ◌∙◌}
use Rattle.buffer_glyphs.specs.declared.level.BufferClusterLevel.{BufferClusterLevel}
use Rattle.buffer_glyphs.specs.Origins.{Origin, Asks}
use Rattle.buffer_glyphs.specs.Events.{Event, Merge, MergeGrapheme, Replace, Circle, Delete, Move, Arrange, Sort, Reverse, Break, Concat, Tatweel, StrictBreak, Spread, Reset, concat_marked, origins_after_event, origins_after}
use Rattle.buffer_parts.specs.Orderly.{IsOrderlyAt, IsOrderly}
use Rattle.buffer_parts.specs.Counts.{count_after_event}
use Rattle.buffer_parts.specs.Breaks.Lossless.{AreLossless}
use Rattle.buffer_parts.specs.Breaks.Concat.{SameButConcat, without_concats}
use Rattle.buffer_parts.specs.Breaks.Laws.{ConcatsAreApart}
use Rattle.buffer_parts.proofs.BreakLemmas.Concat.{same_refl, same_numbers, same_event, same_concat}

pub same_sym : (os qs : List Origin) → SameButConcat os qs → SameButConcat qs os
same_sym [] [] h = tt
same_sym [] (q ∷ qs) h = absurd h
same_sym (o ∷ os) [] h = absurd h
same_sym (o ∷ os) (q ∷ qs) h = (sym h.0, sym h.1, same_sym os qs h.2)

pub same_trans : (os qs rs : List Origin) → SameButConcat os qs → SameButConcat qs rs → SameButConcat os rs
same_trans [] [] [] h k = tt
same_trans [] [] (r ∷ rs) h k = absurd k
same_trans [] (q ∷ qs) rs h k = absurd h
same_trans (o ∷ os) [] rs h k = absurd h
same_trans (o ∷ os) (q ∷ qs) [] h k = absurd k
same_trans (o ∷ os) (q ∷ qs) (r ∷ rs) h k = (h.0 ∙ k.0, h.1 ∙ k.1, same_trans os qs rs h.2 k.2)

-- a range that is flagged as unsafe to concat is the same but for that
marked_same : (asked : Bool) (from to : ℕ) (os qs : List Origin) → SameButConcat os qs → SameButConcat (concat_marked asked from to os) qs
marked_same asked from to os qs h = same_concat asked false from to os qs h

-- ---- what the other events do

same_without : (asks : Asks) (level : BufferClusterLevel) (es : List Event) (os qs : List Origin) → SameButConcat os qs → SameButConcat (origins_after asks level es os) (origins_after asks level (without_concats es) qs)
same_without asks level [] os qs h = h
same_without asks level (Concat from to ∷ es) os qs h = same_without asks level es (concat_marked asks.concat from to os) qs (marked_same asks.concat from to os qs h)
same_without asks level (Merge how from to ∷ es) os qs h = same_without asks level es (origins_after_event asks level os (Merge how from to)) (origins_after_event asks level qs (Merge how from to)) (same_event asks asks.concat level (Merge how from to) os qs h)
same_without asks level (MergeGrapheme from to ∷ es) os qs h = same_without asks level es (origins_after_event asks level os (MergeGrapheme from to)) (origins_after_event asks level qs (MergeGrapheme from to)) (same_event asks asks.concat level (MergeGrapheme from to) os qs h)
same_without asks level (Replace at taken given ∷ es) os qs h = same_without asks level es (origins_after_event asks level os (Replace at taken given)) (origins_after_event asks level qs (Replace at taken given)) (same_event asks asks.concat level (Replace at taken given) os qs h)
same_without asks level (Circle after beside like ∷ es) os qs h = same_without asks level es (origins_after_event asks level os (Circle after beside like)) (origins_after_event asks level qs (Circle after beside like)) (same_event asks asks.concat level (Circle after beside like) os qs h)
same_without asks level (Delete at ∷ es) os qs h = same_without asks level es (origins_after_event asks level os (Delete at)) (origins_after_event asks level qs (Delete at)) (same_event asks asks.concat level (Delete at) os qs h)
same_without asks level (Move how from order ∷ es) os qs h = same_without asks level es (origins_after_event asks level os (Move how from order)) (origins_after_event asks level qs (Move how from order)) (same_event asks asks.concat level (Move how from order) os qs h)
same_without asks level (Arrange from order ∷ es) os qs h = same_without asks level es (origins_after_event asks level os (Arrange from order)) (origins_after_event asks level qs (Arrange from order)) (same_event asks asks.concat level (Arrange from order) os qs h)
same_without asks level (Sort from order ∷ es) os qs h = same_without asks level es (origins_after_event asks level os (Sort from order)) (origins_after_event asks level qs (Sort from order)) (same_event asks asks.concat level (Sort from order) os qs h)
same_without asks level (Reverse ∷ es) os qs h = same_without asks level es (origins_after_event asks level os Reverse) (origins_after_event asks level qs Reverse) (same_event asks asks.concat level Reverse os qs h)
same_without asks level (Break from to ∷ es) os qs h = same_without asks level es (origins_after_event asks level os (Break from to)) (origins_after_event asks level qs (Break from to)) (same_event asks asks.concat level (Break from to) os qs h)
same_without asks level (Tatweel from to ∷ es) os qs h = same_without asks level es (origins_after_event asks level os (Tatweel from to)) (origins_after_event asks level qs (Tatweel from to)) (same_event asks asks.concat level (Tatweel from to) os qs h)
same_without asks level (StrictBreak from to ∷ es) os qs h = same_without asks level es (origins_after_event asks level os (StrictBreak from to)) (origins_after_event asks level qs (StrictBreak from to)) (same_event asks asks.concat level (StrictBreak from to) os qs h)
same_without asks level (Spread ∷ es) os qs h = same_without asks level es (origins_after_event asks level os Spread) (origins_after_event asks level qs Spread) (same_event asks asks.concat level Spread os qs h)
same_without asks level (Reset ∷ es) os qs h = same_without asks level es (origins_after_event asks level os Reset) (origins_after_event asks level qs Reset) (same_event asks asks.concat level Reset os qs h)

pub concats_are_apart : ConcatsAreApart
concats_are_apart asks level es os = same_without asks level es os os (same_refl os)

pub orderly_without : (asks : Asks) (level : BufferClusterLevel) (es : List Event) (os qs : List Origin) → SameButConcat os qs → IsOrderly asks level es os → IsOrderly asks level (without_concats es) qs
orderly_without asks level [] os qs s h = tt
orderly_without asks level (Concat from to ∷ es) os qs s h = orderly_without asks level es (concat_marked asks.concat from to os) qs (marked_same asks.concat from to os qs s) h.1
orderly_without asks level (Merge how from to ∷ es) os qs s h = (subst (IsOrderlyAt (Merge how from to)) (same_numbers os qs s) h.0, orderly_without asks level es (origins_after_event asks level os (Merge how from to)) (origins_after_event asks level qs (Merge how from to)) (same_event asks asks.concat level (Merge how from to) os qs s) h.1)
orderly_without asks level (MergeGrapheme from to ∷ es) os qs s h = (subst (IsOrderlyAt (MergeGrapheme from to)) (same_numbers os qs s) h.0, orderly_without asks level es (origins_after_event asks level os (MergeGrapheme from to)) (origins_after_event asks level qs (MergeGrapheme from to)) (same_event asks asks.concat level (MergeGrapheme from to) os qs s) h.1)
orderly_without asks level (Replace at taken given ∷ es) os qs s h = (subst (IsOrderlyAt (Replace at taken given)) (same_numbers os qs s) h.0, orderly_without asks level es (origins_after_event asks level os (Replace at taken given)) (origins_after_event asks level qs (Replace at taken given)) (same_event asks asks.concat level (Replace at taken given) os qs s) h.1)
orderly_without asks level (Circle after beside like ∷ es) os qs s h = (subst (IsOrderlyAt (Circle after beside like)) (same_numbers os qs s) h.0, orderly_without asks level es (origins_after_event asks level os (Circle after beside like)) (origins_after_event asks level qs (Circle after beside like)) (same_event asks asks.concat level (Circle after beside like) os qs s) h.1)
orderly_without asks level (Delete at ∷ es) os qs s h = (subst (IsOrderlyAt (Delete at)) (same_numbers os qs s) h.0, orderly_without asks level es (origins_after_event asks level os (Delete at)) (origins_after_event asks level qs (Delete at)) (same_event asks asks.concat level (Delete at) os qs s) h.1)
orderly_without asks level (Move how from order ∷ es) os qs s h = (subst (IsOrderlyAt (Move how from order)) (same_numbers os qs s) h.0, orderly_without asks level es (origins_after_event asks level os (Move how from order)) (origins_after_event asks level qs (Move how from order)) (same_event asks asks.concat level (Move how from order) os qs s) h.1)
orderly_without asks level (Arrange from order ∷ es) os qs s h = (subst (IsOrderlyAt (Arrange from order)) (same_numbers os qs s) h.0, orderly_without asks level es (origins_after_event asks level os (Arrange from order)) (origins_after_event asks level qs (Arrange from order)) (same_event asks asks.concat level (Arrange from order) os qs s) h.1)
orderly_without asks level (Sort from order ∷ es) os qs s h = (subst (IsOrderlyAt (Sort from order)) (same_numbers os qs s) h.0, orderly_without asks level es (origins_after_event asks level os (Sort from order)) (origins_after_event asks level qs (Sort from order)) (same_event asks asks.concat level (Sort from order) os qs s) h.1)
orderly_without asks level (Reverse ∷ es) os qs s h = (subst (IsOrderlyAt Reverse) (same_numbers os qs s) h.0, orderly_without asks level es (origins_after_event asks level os Reverse) (origins_after_event asks level qs Reverse) (same_event asks asks.concat level Reverse os qs s) h.1)
orderly_without asks level (Break from to ∷ es) os qs s h = (subst (IsOrderlyAt (Break from to)) (same_numbers os qs s) h.0, orderly_without asks level es (origins_after_event asks level os (Break from to)) (origins_after_event asks level qs (Break from to)) (same_event asks asks.concat level (Break from to) os qs s) h.1)
orderly_without asks level (Tatweel from to ∷ es) os qs s h = (subst (IsOrderlyAt (Tatweel from to)) (same_numbers os qs s) h.0, orderly_without asks level es (origins_after_event asks level os (Tatweel from to)) (origins_after_event asks level qs (Tatweel from to)) (same_event asks asks.concat level (Tatweel from to) os qs s) h.1)
orderly_without asks level (StrictBreak from to ∷ es) os qs s h = (subst (IsOrderlyAt (StrictBreak from to)) (same_numbers os qs s) h.0, orderly_without asks level es (origins_after_event asks level os (StrictBreak from to)) (origins_after_event asks level qs (StrictBreak from to)) (same_event asks asks.concat level (StrictBreak from to) os qs s) h.1)
orderly_without asks level (Spread ∷ es) os qs s h = (subst (IsOrderlyAt Spread) (same_numbers os qs s) h.0, orderly_without asks level es (origins_after_event asks level os Spread) (origins_after_event asks level qs Spread) (same_event asks asks.concat level Spread os qs s) h.1)
orderly_without asks level (Reset ∷ es) os qs s h = (subst (IsOrderlyAt Reset) (same_numbers os qs s) h.0, orderly_without asks level es (origins_after_event asks level os Reset) (origins_after_event asks level qs Reset) (same_event asks asks.concat level Reset os qs s) h.1)

pub lossless_without : (es : List Event) (n : ℕ) → AreLossless es n → AreLossless (without_concats es) n
lossless_without [] n h = tt
lossless_without (Concat from to ∷ es) n h = lossless_without es n h.1
lossless_without (Merge how from to ∷ es) n h = (h.0, lossless_without es (count_after_event n (Merge how from to)) h.1)
lossless_without (MergeGrapheme from to ∷ es) n h = (h.0, lossless_without es (count_after_event n (MergeGrapheme from to)) h.1)
lossless_without (Replace at taken given ∷ es) n h = (h.0, lossless_without es (count_after_event n (Replace at taken given)) h.1)
lossless_without (Circle after beside like ∷ es) n h = (h.0, lossless_without es (count_after_event n (Circle after beside like)) h.1)
lossless_without (Delete at ∷ es) n h = (h.0, lossless_without es (count_after_event n (Delete at)) h.1)
lossless_without (Move how from order ∷ es) n h = (h.0, lossless_without es (count_after_event n (Move how from order)) h.1)
lossless_without (Arrange from order ∷ es) n h = (h.0, lossless_without es (count_after_event n (Arrange from order)) h.1)
lossless_without (Sort from order ∷ es) n h = (h.0, lossless_without es (count_after_event n (Sort from order)) h.1)
lossless_without (Reverse ∷ es) n h = (h.0, lossless_without es (count_after_event n Reverse) h.1)
lossless_without (Break from to ∷ es) n h = (h.0, lossless_without es (count_after_event n (Break from to)) h.1)
lossless_without (Tatweel from to ∷ es) n h = (h.0, lossless_without es (count_after_event n (Tatweel from to)) h.1)
lossless_without (StrictBreak from to ∷ es) n h = (h.0, lossless_without es (count_after_event n (StrictBreak from to)) h.1)
lossless_without (Spread ∷ es) n h = (h.0, lossless_without es (count_after_event n Spread) h.1)
lossless_without (Reset ∷ es) n h = (h.0, lossless_without es (count_after_event n Reset) h.1)

-- Events by indices that are counted from further back.
use Rattle.std.proofs.Common.{ℕ, ◌≡◌, ◌+◌, List, [], ◌∷◌, map, refl, arith}
use Rattle.buffer_glyphs.specs.Events.{Event, Merge, MergeGrapheme, Replace, Circle, Delete, Move, Arrange, Sort, Reverse, Break, Concat, Tatweel, StrictBreak, Spread, Reset}
use Rattle.buffer_glyphs.specs.Rewriting.{shifted_event}

pub further : (n m i : ℕ) → n + (m + i) ≡ n + m + i
further n m i = omega arith

pub shift_event : (n m : ℕ) (e : Event) → shifted_event n (shifted_event m e) ≡ shifted_event (n + m) e
shift_event n m (Merge how from to) = rw (further n m from, further n m to) refl
shift_event n m (MergeGrapheme from to) = rw (further n m from, further n m to) refl
shift_event n m (Replace at taken given) = rw (further n m at) refl
shift_event n m (Circle after beside like) = rw (further n m beside, further n m like) refl
shift_event n m (Delete at) = rw (further n m at) refl
shift_event n m (Move how from order) = rw (further n m from) refl
shift_event n m (Arrange from order) = rw (further n m from) refl
shift_event n m (Sort from order) = rw (further n m from) refl
shift_event n m Reverse = refl
shift_event n m (Break from to) = rw (further n m from, further n m to) refl
shift_event n m (Concat from to) = rw (further n m from, further n m to) refl
shift_event n m (Tatweel from to) = rw (further n m from, further n m to) refl
shift_event n m (StrictBreak from to) = rw (further n m from, further n m to) refl
shift_event n m Spread = refl
shift_event n m Reset = refl

-- counted from further back twice is once by both
pub shift_events : (n m : ℕ) (es : List Event) → map (shifted_event n) (map (shifted_event m) es) ≡ map (shifted_event (n + m)) es
shift_events n m [] = refl
shift_events n m (e ∷ es) = rw (shift_event n m e, shift_events n m es) refl

pub none_more : (n : ℕ) → 0 + n ≡ n
none_more n = omega arith

pub shift_by_none : (e : Event) → shifted_event 0 e ≡ e
shift_by_none (Merge how from to) = rw (none_more from, none_more to) refl
shift_by_none (MergeGrapheme from to) = rw (none_more from, none_more to) refl
shift_by_none (Replace at taken given) = rw (none_more at) refl
shift_by_none (Circle after beside like) = rw (none_more beside, none_more like) refl
shift_by_none (Delete at) = rw (none_more at) refl
shift_by_none (Move how from order) = rw (none_more from) refl
shift_by_none (Arrange from order) = rw (none_more from) refl
shift_by_none (Sort from order) = rw (none_more from) refl
shift_by_none Reverse = refl
shift_by_none (Break from to) = rw (none_more from, none_more to) refl
shift_by_none (Concat from to) = rw (none_more from, none_more to) refl
shift_by_none (Tatweel from to) = rw (none_more from, none_more to) refl
shift_by_none (StrictBreak from to) = rw (none_more from, none_more to) refl
shift_by_none Spread = refl
shift_by_none Reset = refl

pub shift_none : (es : List Event) → map (shifted_event 0) es ≡ es
shift_none [] = refl
shift_none (e ∷ es) = rw (shift_by_none e, shift_none es) refl

-- Divisible stages: what they do to a text, they do to the two fragments that it is broken into.
use Rattle.std.specs.Prelude.{ℕ, suc, ◌≡◌, ◌≤◌, ◌+◌, ◌⊎◌, Bool, true, List, [], ◌∷◌, length, Ok}
use Rattle.buffer_glyphs.specs.declared.level.BufferClusterLevel.{BufferClusterLevel}
use Rattle.buffer_glyphs.specs.Events.{Event, Merge, MergeGrapheme, Replace, Circle, Delete, Move, Arrange, Sort, Reverse, Break, Concat, Tatweel, StrictBreak, Spread, Reset}
use Rattle.buffer_core.specs.Readings.{View, Read, Stage, BufferState, state_after}
use Rattle.buffer_parts.specs.Counting.{is_left}
use Rattle.buffer_parts.specs.Breaks.Unsafe.{IsUnsafeAt, HaveSafeBreaks}
use Rattle.buffer_parts.specs.Breaks.Lossless.{AreLossless}
use Rattle.buffer_parts.specs.Breaks.Concat.{without_concats}
use Rattle.buffer_parts.specs.Breaks.Fragments.{IsWhole, AreFragments}

-- how many merges of ranges there are among events: a ligature makes one, and takes at most one number
abbrev pub merges : List Event → ℕ
merges [] = 0
merges (Merge how from to ∷ es) = suc (merges es)
merges (MergeGrapheme from to ∷ es) = merges es
merges (Replace at taken given ∷ es) = merges es
merges (Circle after beside like ∷ es) = merges es
merges (Delete at ∷ es) = merges es
merges (Move how from order ∷ es) = merges es
merges (Arrange from order ∷ es) = merges es
merges (Sort from order ∷ es) = merges es
merges (Reverse ∷ es) = merges es
merges (Break from to ∷ es) = merges es
merges (Concat from to ∷ es) = merges es
merges (Tatweel from to ∷ es) = merges es
merges (StrictBreak from to ∷ es) = merges es
merges (Spread ∷ es) = merges es
merges (Reset ∷ es) = merges es

-- the limits were enough for what was read at a view: some of the budget of nested lookups is left, and there was a
-- ligature number for each merge
pub record IsSpared (level : BufferClusterLevel) (v : View) (r : Read) : Type 0 where
  pub budget : is_left r.view.max_ops ≡ true
  pub numbers : v.lig_id + merges (without_concats (r.events level)) ≤ 7

-- a state is breakable: its origins have safe breaks, and each glyph has an item, a position and an origin
pub record IsBreakable (s : BufferState) : Type 0 where
  pub breaks : HaveSafeBreaks s.asks s.level s.origins
  pub whole : IsWhole s

-- what was read at a view uses up budget and gives none back, and takes at most one ligature number for each merge, as
-- long as there are some
pub record IsSpent (level : BufferClusterLevel) (v : View) (r : Read) : Type 0 where
  pub budget : is_left r.view.max_ops ≡ true → is_left v.max_ops ≡ true
  pub numbers : v.lig_id + merges (without_concats (r.events level)) ≤ 7 → r.view.lig_id ≤ v.lig_id + merges (without_concats (r.events level))

-- whatever a stage reads, it only spends
abbrev pub OnlySpends : Stage → Type 0
OnlySpends stage = (level : BufferClusterLevel) (v : View) (r : Read) → stage v ≡ Ok r → IsSpent level v r

-- a stage leaves a breakable state breakable
abbrev pub StaysBreakable : Stage → Type 0
StaysBreakable stage = (s : BufferState) (r : Read) → stage s.view ≡ Ok r → IsBreakable s → IsBreakable (state_after r s)

-- a stage keeps it unsafe to break at the start of each cluster where it was
abbrev pub KeepsUnsafe : Stage → Type 0
KeepsUnsafe stage = (s : BufferState) (r : Read) (c : ℕ) → stage s.view ≡ Ok r → IsBreakable s → IsUnsafeAt c s.origins → IsUnsafeAt c (state_after r s).origins

-- whatever a stage reads, its events are lossless for as many glyphs as there are items
abbrev pub LosesNoFlag : Stage → Type 0
LosesNoFlag stage = (v : View) (r : Read) (level : BufferClusterLevel) → stage v ≡ Ok r → AreLossless (r.events level) (length v.items)

-- whatever a stage reads, it leaves as many positions as items where there were as many
abbrev pub KeepsPositions : Stage → Type 0
KeepsPositions stage = (v : View) (r : Read) → stage v ≡ Ok r → length v.positions ≡ length v.items → length r.view.positions ≡ length r.view.items

-- after stages it is unsafe to break the whole at c, or two states are still its fragments there
abbrev pub StaysDivided : Bool → ℕ → BufferState → BufferState → BufferState → Type 0
StaysDivided falls c whole earlier later = IsUnsafeAt c whole.origins ⊎ AreFragments falls c whole earlier later

-- what a stage does to a breakable text, `early` does to its earlier fragment and `late` to the later one, where none is
-- refused and each is spared; these differ in the contexts, and in which ends of the text they see. Clusters fall before
-- it where `falls`, and after it where `turned`
abbrev pub Divides : (falls turned : Bool) → Stage → Stage → Stage → Type 0
Divides falls turned stage early late = (c : ℕ) (whole earlier later : BufferState) (r e l : Read) → IsBreakable whole → AreFragments falls c whole earlier later
    → stage whole.view ≡ Ok r → early earlier.view ≡ Ok e → late later.view ≡ Ok l → IsSpared whole.level whole.view r → IsSpared earlier.level earlier.view e → IsSpared later.level later.view l
    → StaysDivided turned c (state_after r whole) (state_after e earlier) (state_after l later)

-- a stage divides texts, leaves them breakable, keeps what is unsafe to break unsafe, and gives no budget back
pub record IsDivisible (falls turned : Bool) (stage early late : Stage) : Type 0 where
  pub divides : Divides falls turned stage early late
  pub breakable : StaysBreakable stage
  pub unsafe : KeepsUnsafe stage
  pub spends : OnlySpends stage
  pub early_spends : OnlySpends early
  pub late_spends : OnlySpends late

-- a stage divides texts whatever it spends
abbrev pub DividesFreely : (falls turned : Bool) → Stage → Stage → Stage → Type 0
DividesFreely falls turned stage early late = (c : ℕ) (whole earlier later : BufferState) (r e l : Read) → IsBreakable whole → AreFragments falls c whole earlier later
    → stage whole.view ≡ Ok r → early earlier.view ≡ Ok e → late later.view ≡ Ok l → StaysDivided turned c (state_after r whole) (state_after e earlier) (state_after l later)

-- a stage divides texts whatever it spends, leaves them breakable, and keeps what is unsafe to break unsafe
pub record IsFreelyDivisible (falls turned : Bool) (stage early late : Stage) : Type 0 where
  pub divides : DividesFreely falls turned stage early late
  pub breakable : StaysBreakable stage
  pub unsafe : KeepsUnsafe stage

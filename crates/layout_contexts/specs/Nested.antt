-- Lookups that a rule applies at the indices of its match, one after another (OpenType, chapter 2, sequence lookup
-- records).
use Rattle.std.specs.Prelude.{ℕ, ◌+◌, ◌-◌, ◌-ℤ◌, pos, int_lt, min, nat_le, nat_lt, Bool, ◌&&◌, if◌then◌else◌, List, [], ◌∷◌, ◌++◌, length, take, drop, Option, Some, None, slice_get}
use Rattle.buffer_glyphs.specs.declared.cause.ShapeCause.{ShapeCause}
use Rattle.buffer_glyphs.specs.declared.cause.ShapeCause.TheVariants.{TooLong}
use Rattle.buffer_glyphs.specs.Events.{Event}
use Rattle.layout_tables.specs.declared.context.SequenceLookupRecord.{SequenceLookupRecord}
use Rattle.buffer_stages.specs.Actions.{Cut, whole, Outcome, Passes, Acts, Refuses, Action}
use Rattle.layout_contexts.specs.Shifts.{indices_after_resize, moved_end}

-- a list on the way over some records: how it is cut, the indices and the end of the match
pub data RecordsOutcome : Type 0 where
  Walks : (cut : Cut) → (indices : List ℕ) → (end : ℕ) → (events : List Event) → RecordsOutcome
  Stops : (cause : ShapeCause) → RecordsOutcome

-- the list cut at an index
abbrev pub cut_at : ℕ → Cut → Cut
cut_at p c = record c { front = take p (whole c); rest = drop p (whole c) }

-- whether the side that grows where the list is cut there may hold its items
abbrev pub holds : ℕ → Cut → Bool
holds p c = if nat_lt (length c.front) p then nat_le p c.max_len else nat_le (length c.rest + (length c.front - p)) c.max_len

-- whether a nested lookup may still be applied
abbrev pub has_budget : Cut → Bool
has_budget c = int_lt (pos 0) c.max_ops

-- a cut with one step fewer left
abbrev pub with_budget_spent : Cut → Cut
with_budget_spent c = record c { max_ops = c.max_ops -ℤ pos 1 }

-- the list once the lookup at the i-th index of the match, which is p, was applied at a cut
abbrev pub nested_outcome : ℕ → ℕ → Cut → List ℕ → ℕ → Outcome → RecordsOutcome
nested_outcome i p c ps end (Passes es) = Walks c ps end es
nested_outcome i p c ps end (Acts cut es) =
    Walks cut (indices_after_resize i (length (whole c)) (length (whole cut)) ps) (moved_end p (length (whole c)) (length (whole cut)) end) es
nested_outcome i p c ps end (Refuses cause) = Stops cause

-- the list cut at the index, and a lookup applied there
abbrev pub nested_outcome_at : (ℕ → Action) → SequenceLookupRecord → ℕ → Cut → List ℕ → ℕ → RecordsOutcome
nested_outcome_at act r p c ps end =
    if holds p c then nested_outcome r.sequence_index p (cut_at p c) ps end (act r.lookup_index (cut_at p c)) else Stops TooLong

-- a record whose index exists takes a step, while one is left, and its lookup is applied
abbrev pub outcome_at_index : (ℕ → Action) → SequenceLookupRecord → Option ℕ → Cut → List ℕ → ℕ → RecordsOutcome
outcome_at_index act r None c ps end = Walks c ps end []
outcome_at_index act r (Some p) c ps end = if nat_lt p (length (whole c)) && has_budget c then nested_outcome_at act r p (with_budget_spent c) ps end else Walks c ps end []

-- a record applied at its index of the match
abbrev pub one_record : (ℕ → Action) → SequenceLookupRecord → Cut → List ℕ → ℕ → RecordsOutcome
one_record act r c ps end = outcome_at_index act r (slice_get ps r.sequence_index) c ps end

-- the list on the way, with more events before
abbrev pub walked_later : List Event → RecordsOutcome → RecordsOutcome
walked_later es (Walks cut ps end fs) = Walks cut ps end (es ++ fs)
walked_later es (Stops cause) = Stops cause

-- a further record, unless one before refused
abbrev pub then_walk : RecordsOutcome → (Cut → List ℕ → ℕ → RecordsOutcome) → RecordsOutcome
then_walk (Walks cut ps end es) next = walked_later es (next cut ps end)
then_walk (Stops cause) next = Stops cause

-- the records applied in their order
abbrev pub each_record : (ℕ → Action) → List SequenceLookupRecord → Cut → List ℕ → ℕ → RecordsOutcome
each_record act [] c ps end = Walks c ps end []
each_record act (r ∷ records) c ps end = then_walk (one_record act r c ps end) (each_record act records)

-- the records applied by the lookup at each index, where the nesting depth allows one; else none does anything or takes
-- a step
abbrev pub each_nested : Option (ℕ → Action) → List SequenceLookupRecord → Cut → List ℕ → ℕ → RecordsOutcome
each_nested None records c ps end = Walks c ps end []
each_nested (Some act) records c ps end = each_record act records c ps end

-- in the end the list is cut after the match, or at its end where the match ends past it
abbrev pub cut_after_match : RecordsOutcome → Outcome
cut_after_match (Walks cut ps end es) =
    if holds (min end (length (whole cut))) cut then Acts (cut_at (min end (length (whole cut))) cut) es else Refuses TooLong
cut_after_match (Stops cause) = Refuses cause

-- What a rule does to a list that is cut at the index where it is tried.
use Rattle.std.specs.Prelude.{ℕ, ℤ, ◌+◌, ◌-◌, nat_le, if◌then◌else◌, List, [], ◌∷◌, ◌++◌, length, take, drop, Option, Some, None}
use Rattle.buffer_glyphs.specs.declared.cause.ShapeCause.{ShapeCause}
use Rattle.buffer_glyphs.specs.declared.cause.ShapeCause.TheVariants.{TooLong}
use Rattle.buffer_glyphs.specs.Items.{Item, Position}
use Rattle.buffer_glyphs.specs.Events.{Event, Concat}
use Rattle.buffer_core.specs.Readings.{View}

-- a list cut in two, the items done and the items left, and the state that rules keep beside it
pub record Cut : Type 0 where
  pub front : List Item
  pub rest : List Item
  -- a position for each item, done or left; none for substitutions
  pub positions : List Position
  -- the last ligature number given out
  pub lig_id : ℕ
  -- how many nested lookups may still be applied
  pub max_ops : ℤ
  -- the state of the random numbers for alternates (`random_state`)
  pub random : ℕ
  -- how many items a side of the list may hold
  pub max_len : ℕ
  -- the scratch flags, without HAS_GLYPH_FLAGS
  pub scratch_flags : ℕ

-- the list that was cut
abbrev pub whole : Cut → List Item
whole c = c.front ++ c.rest

-- the cut before the first item of a view, without positions, as substitutions take it
abbrev pub uncut : View → Cut
uncut v = record { front = []; rest = v.items; positions = []; lig_id = v.lig_id; max_ops = v.max_ops; random = v.random; max_len = v.max_len; scratch_flags = v.scratch_flags }

-- the cut before the first item of a view, with its positions
abbrev pub uncut_with_positions : View → Cut
uncut_with_positions v = record (uncut v) { positions = v.positions }

-- a view with the list of a cut
abbrev pub view_at : View → Cut → View
view_at v c = record { items = whole c; positions = c.positions; lig_id = c.lig_id; max_ops = c.max_ops; random = c.random; max_len = c.max_len; direction = v.direction; scratch_flags = c.scratch_flags }

-- the cut after one more item
abbrev pub past_item : Cut → Cut
past_item c = record c { front = c.front ++ take 1 c.rest; rest = drop 1 c.rest }

-- the outcome of a rule at a cut
pub data Outcome : Type 0 where
  -- the rule doesn't match: the items stay, after events on clusters and flags
  Passes : (events : List Event) → Outcome
  -- the rule makes another cut, after events on clusters and flags
  Acts : (cut : Cut) → (events : List Event) → Outcome
  -- the rule refuses the text
  Refuses : (cause : ShapeCause) → Outcome

-- a rule: an outcome for each cut
abbrev pub Action : Type 0
Action = Cut → Outcome

-- a rule that would give n new items refuses where a side of the list may not hold them
abbrev pub within_limit : ℕ → Cut → Outcome → Outcome
within_limit n c o = if nat_le (length c.front + n) c.max_len then o else Refuses TooLong

-- a rule that was tried on m items before the cut and n from there on, and failed
abbrev pub attempt_around : ℕ → ℕ → Cut → Outcome
attempt_around back ahead c = Passes (Concat (length c.front - back) (length c.front + ahead) ∷ [])

-- an outcome with more events before its own
abbrev pub later : List Event → Outcome → Outcome
later es (Passes events) = Passes (es ++ events)
later es (Acts cut events) = Acts cut (es ++ events)
later es (Refuses cause) = Refuses cause

-- the second of two where the first passes
abbrev pub or_else : Outcome → Outcome → Outcome
or_else (Passes events) second = later events second
or_else (Acts cut events) second = Acts cut events
or_else (Refuses cause) second = Refuses cause

-- the first rule in a list that doesn't pass
abbrev pub first_rule : {R : Type 0} → (R → Action) → List R → Action
first_rule act [] c = Passes []
first_rule act (r ∷ rules) c = or_else (act r c) (first_rule act rules c)

-- a rule for the item at the cut; it passes where there is none
abbrev pub at_first : (Item → Action) → Option Item → Action
at_first act None c = Passes []
at_first act (Some x) c = act x c

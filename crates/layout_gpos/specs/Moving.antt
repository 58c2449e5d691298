-- What rules of positioning do to a cut, other than the positions that they change.
use Rattle.std.specs.Prelude.{ℕ, ◌≡◌, ◌+◌, ◌-◌, List, [], ◌∷◌, ◌++◌, length, take, drop}
use Rattle.buffer_glyphs.specs.Items.{Position}
use Rattle.buffer_glyphs.specs.Events.{Event, Break, StrictBreak}
use Rattle.buffer_stages.specs.Actions.{Cut, Outcome, Passes, Acts, Refuses, Action, whole}

-- a cut with n more items done, and with these positions
abbrev pub cut_with_positions : ℕ → List Position → Cut → Cut
cut_with_positions n ps c = record c { front = c.front ++ take n c.rest; rest = drop n c.rest; positions = ps }

-- the event that m items before the cut and n from there on are unsafe to break
abbrev pub break_around : ℕ → ℕ → Cut → List Event
break_around back ahead c = Break (length c.front - back) (length c.front + ahead) ∷ []

-- the event that n items from the cut on are unsafe to break, where PRODUCE_SAFE_BREAKS is requested
abbrev pub strict_break_around : ℕ → Cut → List Event
strict_break_around ahead c = StrictBreak (length c.front) (length c.front + ahead) ∷ []

-- the outcome of a rule at a cut leaves the items as they are
abbrev pub ItemsStay : Outcome → Cut → Type 0
ItemsStay (Passes events) c = Unit
ItemsStay (Acts cut events) c = whole cut ≡ whole c
ItemsStay (Refuses cause) c = Unit

-- a rule leaves the items as they are at each cut
abbrev pub KeepsItems : Action → Type 0
KeepsItems act = (c : Cut) → ItemsStay (act c) c

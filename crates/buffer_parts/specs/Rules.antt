-- Rules of a lookup that keep the parts of a text.
use Rattle.std.specs.Prelude.{ℕ, length}
use Rattle.buffer_glyphs.specs.declared.level.BufferClusterLevel.{BufferClusterLevel}
use Rattle.buffer_parts.specs.Keeping.{AreKept}
use Rattle.buffer_stages.specs.Actions.{Cut, whole, Outcome, Passes, Acts, Refuses, Action}

-- the events of an outcome, on n items, keep the parts of the text, and leave as many glyphs as its cut has items
abbrev pub OutcomeKeepsParts : Outcome → ℕ → Type 0
OutcomeKeepsParts (Passes es) n = (level : BufferClusterLevel) → AreKept level es n n
OutcomeKeepsParts (Acts cut es) n = (level : BufferClusterLevel) → AreKept level es n (length (whole cut))
OutcomeKeepsParts (Refuses cause) n = Unit {0}

-- a rule keeps the parts of the text wherever it is tried
abbrev pub RuleKeepsParts : Action → Type 0
RuleKeepsParts act = (c : Cut) → OutcomeKeepsParts (act c) (length (whole c))

-- Lookups that do to a text that may be broken what they do to its fragments.
use Rattle.std.specs.Prelude.{Bool, false}
use Rattle.buffer_stages.specs.Actions.{Action}
use Rattle.buffer_parts.specs.Stages.{KeepsParts}
use Rattle.buffer_parts.specs.Breaks.Divisible.{LosesNoFlag}
use Rattle.buffer_parts.specs.Breaks.Beside.{ReadsBeside}
use Rattle.layout_match.specs.Trying.{forward_pass}
use Rattle.layout_laws.specs.Breaks.Local.{AnyPositions, IsLocal, IsSteady}

-- law: a local, steady rule that is tried at each index of a text reads it as its fragments, one beside the other, or makes it unsafe to
-- break there, where it keeps the parts of a text and loses no flag
abbrev pub PassesReadBeside : Type 0
PassesReadBeside = (falls : Bool) (act : Action) → IsLocal AnyPositions act → IsSteady act → KeepsParts (forward_pass act) → LosesNoFlag (forward_pass act) → ReadsBeside false falls (forward_pass act) (forward_pass act) (forward_pass act)

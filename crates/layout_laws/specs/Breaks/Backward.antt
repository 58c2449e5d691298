-- Lookups that are tried from the right, which do to a text that may be broken what they do to its fragments.
use Rattle.std.specs.Prelude.{ℕ, ◌≡◌, Bool, true, List, [], length}
use Rattle.buffer_glyphs.specs.Events.{Event}
use Rattle.buffer_stages.specs.Actions.{Cut, whole, Outcome, Passes, Acts, Refuses, Action}
use Rattle.buffer_parts.specs.Counts.{count_after}
use Rattle.buffer_parts.specs.Stages.{KeepsParts}
use Rattle.layout_face.specs.declared.substitution.SubstLookup.{SubstLookup}
use Rattle.layout_match.specs.Applied.{ApplyContext}
use Rattle.layout_substitution.specs.Lookups.{reverse_action, backward_pass}
use Rattle.buffer_parts.specs.Breaks.Concat.{without_concats}
use Rattle.buffer_parts.specs.Breaks.Divisible.{merges, LosesNoFlag, IsDivisible}
use Rattle.buffer_parts.specs.Breaks.Beside.{ReadsBeside}
use Rattle.layout_laws.specs.Breaks.Local.{AnyPositions, IsLocal}

-- a rule made a cut d of c, after events, one for one: as many items are left, their positions, the last ligature number and the budget stay,
-- and the events merge nothing and leave as many glyphs
pub record IsOneForOne (c d : Cut) (es : List Event) : Type 0 where
  pub long : length (whole d) ≡ length (whole c)
  pub positions : d.positions ≡ c.positions
  pub number : d.lig_id ≡ c.lig_id
  pub budget : d.max_ops ≡ c.max_ops
  pub merged : merges (without_concats es) ≡ 0
  pub counted : (n : ℕ) → count_after (without_concats es) n ≡ n

-- an outcome at a cut is one for one, if the rule acts; where it passes, it only sets UNSAFE_TO_CONCAT
abbrev pub ReplacesOneForOne : Cut → Outcome → Type 0
ReplacesOneForOne c (Passes es) = without_concats es ≡ []
ReplacesOneForOne c (Acts d es) = IsOneForOne c d es
ReplacesOneForOne c (Refuses x) = Unit {0}

-- a rule acts one for one, wherever it is tried
abbrev pub ActsOneForOne : Action → Type 0
ActsOneForOne act = (c : Cut) → ReplacesOneForOne c (act c)

-- law: reverse chaining substitution is local
abbrev pub ReversesAreLocal : Type 0
ReversesAreLocal = (a : ApplyContext) (lookup : SubstLookup) → IsLocal AnyPositions (reverse_action a lookup)

-- law: it acts one for one
abbrev pub ReversesActOneForOne : Type 0
ReversesActOneForOne = (a : ApplyContext) (lookup : SubstLookup) → ActsOneForOne (reverse_action a lookup)

-- law: a local rule that acts one for one, tried at each index of a text from the right, reads it as its fragments, one beside the other, or makes
-- it unsafe to break there, where it keeps the parts of a text and loses no flag
abbrev pub BackwardPassesReadBeside : Type 0
BackwardPassesReadBeside = (falls : Bool) (act : Action) → IsLocal AnyPositions act → ActsOneForOne act → KeepsParts (backward_pass act) → LosesNoFlag (backward_pass act) → ReadsBeside true falls (backward_pass act) (backward_pass act) (backward_pass act)

-- law: reverse chaining substitution over a text is divisible
abbrev pub ReversesAreDivisible : Type 0
ReversesAreDivisible = (falls : Bool) (a : ApplyContext) (lookup : SubstLookup) → IsDivisible falls falls (backward_pass (reverse_action a lookup)) (backward_pass (reverse_action a lookup)) (backward_pass (reverse_action a lookup))

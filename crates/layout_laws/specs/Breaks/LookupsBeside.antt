-- Lookups of substitution read a text as its fragments.
use Rattle.std.specs.Prelude.{Bool, false, List}
use Rattle.layout_face.specs.declared.substitution.SubstLookup.{SubstLookup}
use Rattle.layout_match.specs.Applied.{ApplyContext}
use Rattle.layout_match.specs.Trying.{forward_pass}
use Rattle.layout_substitution.specs.Lookups.{lookup_action}
use Rattle.buffer_parts.specs.Breaks.Divisible.{IsDivisible}
use Rattle.buffer_parts.specs.Breaks.Beside.{ReadsBeside}

-- law: a lookup that is applied to a text from the left does what it does to the two fragments of the text, one beside the other, or makes it
-- unsafe to break between them
abbrev pub LookupsReadBeside : Type 0
LookupsReadBeside = (falls : Bool) (table : List SubstLookup) (a : ApplyContext) (lookup : SubstLookup) → ReadsBeside false falls (forward_pass (lookup_action table a lookup)) (forward_pass (lookup_action table a lookup)) (forward_pass (lookup_action table a lookup))

-- law: a lookup that is applied to a text from the left is divisible
abbrev pub LookupsAreDivisible : Type 0
LookupsAreDivisible = (falls : Bool) (table : List SubstLookup) (a : ApplyContext) (lookup : SubstLookup) → IsDivisible falls falls (forward_pass (lookup_action table a lookup)) (forward_pass (lookup_action table a lookup)) (forward_pass (lookup_action table a lookup))

-- Lookups of substitution are local.
use Rattle.std.specs.Prelude.{List}
use Rattle.layout_face.specs.declared.substitution.SubstLookup.{SubstLookup}
use Rattle.layout_match.specs.Applied.{ApplyContext}
use Rattle.layout_substitution.specs.Lookups.{lookup_action}
use Rattle.layout_laws.specs.Breaks.Local.{AnyPositions, IsLocal, IsSteady}

-- each lookup that is tried from the left is local, of each type, contexts with nested lookups too
abbrev pub LookupsAreLocal : Type 0
LookupsAreLocal = (table : List SubstLookup) (a : ApplyContext) (lookup : SubstLookup) → IsLocal AnyPositions (lookup_action table a lookup)

-- each such lookup is steady: where it acts, fewer items are left, no budget is given back, at most one ligature number is given for each
-- merge, and the events leave as many glyphs as items
abbrev pub LookupsAreSteady : Type 0
LookupsAreSteady = (table : List SubstLookup) (a : ApplyContext) (lookup : SubstLookup) → IsSteady (lookup_action table a lookup)

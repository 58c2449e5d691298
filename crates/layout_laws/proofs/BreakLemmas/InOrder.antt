-- Lookups of substitution in order are divisible.
use Rattle.std.proofs.Common.{Bool, true, false, if◌then◌else◌, List, [], ◌∷◌, Option, Some, None, arith, subst}
use Rattle.std.specs.Prelude.{slice_get}
use Rattle.layout_face.specs.Lookups.{is_reverse}
use Rattle.layout_face.specs.declared.parts.FaceParts.{FaceParts}
use Rattle.layout_face.specs.declared.substitution.SubstLookup.{SubstLookup}
use Rattle.layout_map_features.specs.declared.lookup.lookup_map_t.{lookup_map_t}
use Rattle.buffer_core.specs.Readings.{View, Stage, as_it_is, with_events}
use Rattle.layout_match.specs.Trying.{forward_pass}
use Rattle.layout_substitution.specs.Lookups.{lookup_action, reverse_action, backward_pass, lookup_context, lookup_stage, lookups_stage}
use Rattle.buffer_parts.specs.Breaks.Divisible.{IsSpent, OnlySpends, IsDivisible}
use Rattle.buffer_parts.proofs.BreakLemmas.Division.{divisible_in_turn, free_is_divisible, same_is_divisible}
use Rattle.layout_laws.specs.Breaks.InOrder.{LookupsInOrderAreDivisible}
use Rattle.layout_laws.proofs.BreakLemmas.Backward.{reverses_are_divisible}
use Rattle.layout_laws.proofs.BreakLemmas.Spent.{lookups_are_divisible}
use Rattle.buffer_parts.specs.Lemmas.Stages.{same_read as read_same}

abbrev Itself : Bool → Stage → Type 0
Itself falls stage = IsDivisible falls falls stage stage stage

same_spends : OnlySpends as_it_is
same_spends level v r e =
    let same = read_same (with_events [] v) r e in
    subst (IsSpent level v) same (record { budget = λ h. h; numbers = λ few. omega arith })

pub nothing_divisible : (falls : Bool) → Itself falls as_it_is
nothing_divisible falls = free_is_divisible falls falls as_it_is as_it_is as_it_is (same_is_divisible falls) same_spends same_spends same_spends

one_divisible : (falls : Bool) (font : FaceParts) (table : List SubstLookup) (o : Option SubstLookup) (m : lookup_map_t) → Itself falls (lookup_stage font table o m)
one_divisible falls font table None m = nothing_divisible falls
one_divisible falls font table (Some lookup) m = by_test (is_reverse lookup.subtables)
  where
    by_test : (t : Bool) → Itself falls (λ (v : View). if t then backward_pass (reverse_action (lookup_context font lookup m) lookup) v else forward_pass (lookup_action table (lookup_context font lookup m) lookup) v)
    by_test true = reverses_are_divisible falls (lookup_context font lookup m) lookup
    by_test false = lookups_are_divisible falls table (lookup_context font lookup m) lookup

pub lookups_in_order_are_divisible : LookupsInOrderAreDivisible
lookups_in_order_are_divisible falls font table [] = nothing_divisible falls
lookups_in_order_are_divisible falls font table (m ∷ maps) =
    let first : Stage = lookup_stage font table (slice_get table m.index) m in
    let rest : Stage = lookups_stage font table maps in
    divisible_in_turn falls falls falls first first first rest rest rest (one_divisible falls font table (slice_get table m.index) m) (lookups_in_order_are_divisible falls font table maps)

-- Rules of substitution are local.
use Rattle.std.proofs.Common.{inl, Bool, true, false, if◌then◌else◌, [], ◌∷◌, arith, refl}
use Rattle.buffer_glyphs.specs.Items.{Item}
use Rattle.buffer_stages.specs.Actions.{Cut, Passes, Action}
use Rattle.layout_match.specs.Applied.{ApplyContext}
use Rattle.layout_match.specs.Trying.{meets, at_met, met_first}
use Rattle.layout_laws.specs.Breaks.Frames.{framed_cut, IsFramed}
use Rattle.layout_laws.specs.Breaks.Local.{Placing, AnyPositions, IsBeside, IsLocal, IsBesideOrIdle, IsLocalOrIdle}
use Rattle.layout_laws.specs.Breaks.RuleLaws.{SinglesAreLocal, MultiplesAreLocal, AlternatesAreLocal, LigaturesAreLocal, FirstRulesAreLocal, MetRulesAreLocal}
use Rattle.layout_laws.proofs.BreakLemmas.Frames.{at_item}
use Rattle.layout_laws.proofs.BreakLemmas.Outcomes.{first_local, at_first_local, items_from_local}
use Rattle.layout_laws.proofs.BreakLemmas.Singles.{single_local, multiple_local, alternate_local}
use Rattle.layout_laws.proofs.BreakLemmas.Ligatures.{ligature_local}

pub singles_are_local : SinglesAreLocal
singles_are_local gdef rows = single_local gdef rows

pub multiples_are_local : MultiplesAreLocal
multiples_are_local gdef rows = multiple_local gdef rows

pub alternates_are_local : AlternatesAreLocal
alternates_are_local gdef random bits rows = alternate_local gdef random bits rows

pub ligatures_are_local : LigaturesAreLocal
ligatures_are_local a sets = ligature_local a sets

pub first_rules_are_local : FirstRulesAreLocal
first_rules_are_local act rules k = first_local AnyPositions act rules k

met_at : (P : Placing) (a : ApplyContext) (act : Action) (y : Item) → IsLocal P act → IsLocal P (at_met a act y)
met_at P a act y k o s c f p some = by_test (meets a y) (k o s c f p some)
  where
    by_test : (t : Bool) → IsBeside P o s c (act (framed_cut o s c)) (act c) → IsBeside P o s c (if t then act (framed_cut o s c) else Passes []) (if t then act c else Passes [])
    by_test true h = h
    by_test false h = (refl, refl)

pub met_local : (P : Placing) (a : ApplyContext) (act : Action) → IsLocal P act → IsLocal P (met_first a act)
met_local P a act k = at_first_local P (at_met a act) (items_from_local P (at_met a act) (λ y. met_at P a act y k) (λ f x. refl))

-- a rule that is local or idle is so where its lookup meets the item
pub met_local_or_idle : (P : Placing) (a : ApplyContext) (act : Action) → IsLocalOrIdle P act → IsLocalOrIdle P (met_first a act)
met_local_or_idle P a act k o s c f p some =
    at_item (λ (d : Cut). IsFramed o s d → P o d → IsBesideOrIdle P o s d (met_first a act (framed_cut o s d)) (met_first a act d)) c some
    (λ x xs f p. let d : Cut = record c { rest = x ∷ xs } in by_test d (meets a x) (k o s d f p (omega arith))) f p
  where
    by_test : (d : Cut) (t : Bool) → IsBesideOrIdle P o s d (act (framed_cut o s d)) (act d) → IsBesideOrIdle P o s d (if t then act (framed_cut o s d) else Passes []) (if t then act d else Passes [])
    by_test d true h = h
    by_test d false h = inl (refl, refl)

pub met_rules_are_local : MetRulesAreLocal
met_rules_are_local a act k = met_local AnyPositions a act k

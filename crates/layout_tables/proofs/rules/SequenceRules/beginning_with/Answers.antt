use Rattle.std.proofs.Common.{ℕ, List, subst, ◌∙◌}
use Rattle.layout_tables.specs.Rules.{StandWithin}
use Rattle.layout_tables.specs.declared.context.SequenceRule.{SequenceRule}
use Rattle.layout_tables.proofs.Begins.{stand_between}
use Rattle.layout_tables.proofs.rules.SequenceRules.beginning_with.Goals as goal

pub returns : goal.returns
returns c =
    let start = c.first_from.result in
    let end = c.first_from-2.result in
    let found = stand_between c.from-number.result c.as_slice-rules.result.now start end c.first_from.ensures.within c.first_from.ensures.below c.first_from-2.ensures.within c.first_from-2.ensures.below c.first_from-2.ensures.rest in
    let P : ℕ → Type 0 = λ n. StandWithin n c.as_slice-rules.result.now start end in
    let Q : List (SequenceRule ℕ) → Type 0 = λ rs. StandWithin c.args.item rs start end in
    subst Q (c.as_slice-rules.ensures ∙ c.self.view_is) (subst P c.from-number.ensures found)

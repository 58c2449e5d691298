use Rattle.std.proofs.Common.{ℕ, rules, of_calls, ltb}
use Rattle.std.proofs.lemmas.Bool.{ltb-true, ltb-false}
use Rattle.std.proofs.lemmas.Fn.{always_returns_same}
use Rattle.std.proofs.lemmas.List.Sorted.{IsPartitionedBy-ltb}
use Rattle.layout_tables.specs.declared.context.SequenceRule.{SequenceRule}
use Rattle.layout_tables.specs.Rules.{first_number}
use Rattle.layout_tables.proofs.rules.first_from.Goals as goal

pub returns-clause-below : goal.returns-clause-below
returns-clause-below c =
    let point = c.partition_point.ensures.partitioned (λ (r : SequenceRule ℕ). ltb (first_number r.input) c.args.number) (always_returns_same _ _ _ (λ a r f k. search (rules, of_calls))) (IsPartitionedBy-ltb (λ (r : SequenceRule ℕ). first_number r.input) c.args.rules.now c.args.number c.requires) in
    λ k d low high. ltb-true _ _ (point.0 k d low high)

pub returns-clause-rest : goal.returns-clause-rest
returns-clause-rest c =
    let point = c.partition_point.ensures.partitioned (λ (r : SequenceRule ℕ). ltb (first_number r.input) c.args.number) (always_returns_same _ _ _ (λ a r f k. search (rules, of_calls))) (IsPartitionedBy-ltb (λ (r : SequenceRule ℕ). first_number r.input) c.args.rules.now c.args.number c.requires) in
    λ k d low high. ltb-false _ _ (point.1 k d low high)

use Rattle.std.proofs.Common.{◌≡◌, drop}
use Rattle.std.specs.List.{list_all}
use Rattle.buffer_unicode_tables.specs.Tables.{class_of}
use Rattle.buffer_unicode_tables.specs.Tests.{same_beside_starters}
use Rattle.shape_premises.proofs.equivalence.same_for_classes.Given as goal

-- whether the rest agrees decides of all
abbrev pub invariant-loop-z : goal.invariant-loop-z
invariant-loop-z l =
    list_all (λ z. same_beside_starters (class_of l.tables) l.xs l.ys (class_of l.tables z)) (drop l.z-index l.zs)
    ≡ list_all (λ z. same_beside_starters (class_of l.tables) l.xs l.ys (class_of l.tables z)) l.zs

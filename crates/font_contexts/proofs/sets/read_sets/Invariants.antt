use Rattle.std.proofs.Common.{◌≡◌, drop}
use Rattle.font_common.specs.Offsets.{after}
use Rattle.font_contexts.specs.Rules.{rules_at_offset, rules_of_sets}
use Rattle.font_contexts.proofs.sets.read_sets.Given as goal

-- the rules so far, and those of the sets that are left, are all
abbrev pub invariant-loop-set : goal.invariant-loop-set
invariant-loop-set l = rules_of_sets (rules_at_offset l.chained l.lookup_count l.table l.base) l.fn.room.left l.sets
    ≡ after l.rules.items (rules_of_sets (rules_at_offset l.chained l.lookup_count l.table l.base) l.room.left (drop l.set-index l.sets))

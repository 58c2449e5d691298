use Rattle.std.proofs.Common.{◌+◌, ◌*◌, ◌-◌, drop, length}
use Rattle.buffer_core.specs.Sides.{items_of}
use Rattle.layout_gpos.specs.Bases.{AreKept}
use Rattle.layout_match.specs.Applied.{apply_context_of}
use Rattle.buffer_stages.specs.Actions.{whole}
use Rattle.buffer_stages.specs.Buffers.{cut_of}
use Rattle.buffer_stages.proofs.Lemmas.Performed.{ArePassed}
use Rattle.layout_contexts.specs.Chains.{chain_rule, context_subtable}
use Rattle.layout_contexts.specs.Inside.{StaysInside}
use Rattle.layout_contexts.specs.Rules.{chains_of}
use Rattle.layout_contexts.proofs.Lemmas.Walks.{AreWalked}
use Rattle.layout_positioning.specs.Lookups.{nested_actions, nested_act}
use Rattle.layout_positioning.proofs.nested.+nested.Given as goal

abbrev pub decreases-apply_record : goal.decreases-apply_record
decreases-apply_record l = 8 * l.depth + 7

abbrev pub decreases-recurse : goal.decreases-recurse
decreases-recurse l = 8 * l.depth + 6

abbrev pub decreases-apply_subtables : goal.decreases-apply_subtables
decreases-apply_subtables l = 8 * l.depth + 5

abbrev pub decreases-apply_contexts : goal.decreases-apply_contexts
decreases-apply_contexts l = 8 * l.depth + 4

abbrev pub decreases-apply_context : goal.decreases-apply_context
decreases-apply_context l = 8 * l.depth + 3

abbrev pub decreases-apply_rules : goal.decreases-apply_rules
decreases-apply_rules l = 8 * l.depth + 2

abbrev pub decreases-apply_rule : goal.decreases-apply_rule
decreases-apply_rule l = 8 * l.depth + 1

abbrev pub decreases-apply_records : goal.decreases-apply_records
decreases-apply_records l = 8 * l.depth

-- none so far acted
abbrev pub invariant-apply_contexts-loop-k : goal.invariant-apply_contexts-loop-k
invariant-apply_contexts-loop-k l = record {
  passed : ArePassed (context_subtable (nested_actions l.table.lookups l.depth l.fn.buffer.direction (apply_context_of l.ctx)) (apply_context_of l.ctx)) l.subtables (drop l.k l.subtables) l.ctx.random_state l.fn.buffer l.buffer;
  kept : AreKept (apply_context_of l.ctx) (items_of l.buffer) l.last;
}

abbrev pub decreases-apply_contexts-loop-k : goal.decreases-apply_contexts-loop-k
decreases-apply_contexts-loop-k l = length l.subtables - l.k

abbrev pub invariant-apply_rules-loop-i : goal.invariant-apply_rules-loop-i
invariant-apply_rules-loop-i l = record {
  passed : ArePassed (chain_rule (nested_actions l.table.lookups l.depth l.fn.buffer.direction (apply_context_of l.ctx)) (apply_context_of l.ctx)) (chains_of l.subtable) (drop l.i (chains_of l.subtable)) l.ctx.random_state l.fn.buffer l.buffer;
  kept : AreKept (apply_context_of l.ctx) (items_of l.buffer) l.last;
}

-- the records so far were done
abbrev pub invariant-apply_records-loop-lookup_record : goal.invariant-apply_records-loop-lookup_record
invariant-apply_records-loop-lookup_record l = record {
  walked : AreWalked (nested_act l.table.lookups (l.depth - 1) l.fn.buffer.direction (apply_context_of l.ctx)) l.records (drop l.lookup_record-index l.records) l.ctx.random_state l.ctx.random_state l.fn.buffer l.buffer l.fn.indices.items l.end l.indices.items l.at;
  inside : StaysInside (length (whole (cut_of l.fn.buffer))) (length (whole (cut_of l.buffer))) l.fn.indices.items l.indices.items l.end l.at;
  kept : AreKept (apply_context_of l.ctx) (items_of l.buffer) l.last;
}

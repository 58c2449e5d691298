use Rattle.std.proofs.Common.{take, arith}
use Rattle.layout_map_features.specs.declared.lookup.lookup_map_t.{lookup_map_t}
use Rattle.layout_map_features.specs.Entering.{entries_of}
use Rattle.layout_map_features.specs.Lookups.{joined_lookups}
use Rattle.layout_map_features.proofs.Grouping.{lookup_step}
use Rattle.layout_map_features.proofs.Inserting.{all_values, none_yet, lookups_are_in_order}
use Rattle.layout_map_features.proofs.merge.few_lookups.Goals as goal

pub loop-lookup-init : goal.loop-lookup-init
loop-lookup-init c =
    none_yet (λ (l : lookup_map_t). l.index) (λ (m : lookup_map_t). m.index) joined_lookups c.args.count c.in_ok-merged.merged.items c.args.uses.now c.in_ok-merged.ensures.items

pub merge_lookup-requires : goal.merge_lookup-requires
merge_lookup-requires c = lookups_are_in_order c.loop-lookup.merged.items c.args.count (take c.loop-lookup.lookup-index c.args.uses.now) c.loop-lookup.invariant

pub loop-lookup-preserved : goal.loop-lookup-preserved
loop-lookup-preserved c =
    lookup_step c.args.count c.args.uses.now c.loop-lookup.lookup-index _ (entries_of (λ (m : lookup_map_t). m.index) c.loop-lookup.merged.items) (entries_of (λ (m : lookup_map_t). m.index) c.merge_lookup.new.merged.items)
    c.loop-lookup-test.true c.loop-lookup.invariant c.in_ok-merge_lookup.ensures

pub returns : goal.returns
returns c =
    all_values (λ (l : lookup_map_t). l.index) (λ (m : lookup_map_t). m.index) joined_lookups c.args.count c.loop-lookup.lookup-index c.loop-lookup.merged.items c.args.uses.now
    (omega (arith, c.loop-lookup-test.false)) c.loop-lookup.invariant

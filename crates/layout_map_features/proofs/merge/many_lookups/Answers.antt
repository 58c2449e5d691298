use Rattle.layout_map_features.proofs.Grouping.{lookup_step}
use Rattle.layout_map_features.proofs.merge.many_lookups.Goals as goal

pub loop-lookup-preserved : goal.loop-lookup-preserved
loop-lookup-preserved c =
    lookup_step c.args.count c.args.uses.now c.loop-lookup.lookup-index _ c.loop-lookup.by_index.entries c.enter_lookup.new.by_index.entries
    c.loop-lookup-test.true c.loop-lookup.invariant c.in_ok-enter_lookup.ensures

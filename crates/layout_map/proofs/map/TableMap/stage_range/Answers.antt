use Rattle.std.proofs.Common.{rules, ◌≡◌, ◌<◌, length}
use Rattle.layout_map.specs.Compiled.{stage_end, stage_start}
use Rattle.layout_map.proofs.StageEnds.{stage_in_order, stage_within}
use Rattle.layout_map.proofs.map.TableMap.stage_range.Goals as goal

pub returns-clause-in_order : goal.returns-clause-in_order
returns-clause-in_order c =
    let end : c.stage_end.result ≡ stage_end c.self.inside.stages.items c.args.stage = search rules in
    let start : c.stage_start.result ≡ stage_start c.self.inside.stages.items c.args.stage = search rules in
    let lt : c.args.stage < length c.self.inside.stages.items = search rules in
    rw (end, start) (stage_in_order c.self.inside.stages.items (length c.self.inside.lookups.items) c.args.stage c.self.invariant lt)

pub returns-clause-within : goal.returns-clause-within
returns-clause-within c =
    let end : c.stage_end.result ≡ stage_end c.self.inside.stages.items c.args.stage = search rules in
    let lt : c.args.stage < length c.self.inside.stages.items = search rules in
    let total : length c.args.self.now.lookups ≡ length c.self.inside.lookups.items = search rules in
    rw (end, total) (stage_within c.self.inside.stages.items (length c.self.inside.lookups.items) c.args.stage c.self.invariant lt)

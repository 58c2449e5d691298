use Rattle.std.proofs.Common.{◌≤◌, [], arith}
use Rattle.buffer_core.specs.Sides.{items_of}
use Rattle.buffer_glyphs.specs.Items.{strip}
use Rattle.layout_match.specs.Applied.{apply_context_of, own_search}
use Rattle.layout_gpos.specs.Bases.{any_sought, takes}
use Rattle.layout_gpos.specs.Marks.{without_marks}
use Rattle.layout_gpos.proofs.bases.found_before.Goals as goal

pub found_since-requires-clause-since : goal.found_since-requires-clause-since
found_since-requires-clause-since c =
    let none : c.new.result.before ≤ 0 = (c.new.ensures (any_sought c.args.sought (apply_context_of c.args.ctx.now)) []).within in
    omega (arith, none)

pub found_since-requires-clause-kept : goal.found_since-requires-clause-kept
found_since-requires-clause-kept c = c.new.ensures (takes c.args.sought (own_search (without_marks (apply_context_of c.args.ctx.now)) (strip c.args.buffer.now.ahead))) (items_of c.args.buffer.now)

use Rattle.std.proofs.Common.{◌+◌, ◌-◌, arith}
use Rattle.buffer_stages.specs.Fronts.{one_seen, pair_seen}
use Rattle.buffer_stages.specs.Lemmas.Fronted.{after_gathered}
use Rattle.buffer_stages.proofs.fronts.gather_after.Goals as goal

pub returns : goal.returns
returns g c =
    let r = c.requires in
    after_gathered (pair_seen (g.R.FrontRule.pairs c.args.rule.now)) (one_seen (g.R.FrontRule.ones c.args.rule.now)) c.args.start c.args.begin c.args.end c.gather-count.result (c.args.begin + c.gather-count.result - c.args.begin) c.args.glyphs.now c.gather-count.new.glyphs c.rotate.new.glyphs
    r.begins r.ordered r.within c.gather-count.ensures.gathered c.gather-count.ensures.count (omega arith) c.rotate.ensures

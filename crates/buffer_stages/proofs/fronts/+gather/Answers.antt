use Rattle.std.proofs.Common.{◌+◌, ◌-◌, arith}
use Rattle.buffer_stages.specs.Fronts.{one_seen, pair_seen}
use Rattle.buffer_stages.proofs.Halves.{both_gathered, short_stays, stays_gathered}
use Rattle.buffer_stages.proofs.fronts.+gather.Goals as goal

pub returns-then-to-from-lt2-clause-gathered : goal.returns-then-to-from-lt2-clause-gathered
returns-then-to-from-lt2-clause-gathered g t c = short_stays (pair_seen (g.R.FrontRule.pairs c.args.rule.now)) (one_seen (g.R.FrontRule.ones c.args.rule.now)) c.args.from c.args.to c.args.glyphs.now c.requires.ordered c.requires.within c.if-to-from-lt2.true

pub returns-then-middle-to-clause-gathered : goal.returns-then-middle-to-clause-gathered
returns-then-middle-to-clause-gathered g t c = stays_gathered (pair_seen (g.R.FrontRule.pairs c.args.rule.now)) (one_seen (g.R.FrontRule.ones c.args.rule.now)) c.args.from c.args.to c.args.glyphs.now c.requires.ordered (c.end_of_half-middle.ensures.whole c.if-middle-to.true)

pub returns-clause-gathered : goal.returns-clause-gathered
returns-clause-gathered g t c =
    let h = c.end_of_half-middle.ensures in
    let a = h.some in
    let b = h.inside in
    let e = c.if-middle-to.false in
    (both_gathered (pair_seen (g.R.FrontRule.pairs c.args.rule.now)) (one_seen (g.R.FrontRule.ones c.args.rule.now)) c.args.from c.end_of_half-middle.result c.args.to c.gather-right.result (c.end_of_half-middle.result + c.gather-right.result - c.end_of_half-middle.result) c.args.glyphs.now c.gather-left.new.glyphs c.gather-right.new.glyphs c.rotate.new.glyphs
    (omega (arith, a)) h.inside c.requires.within (h.apart (omega (arith, b, e))) c.gather-left.ensures.gathered c.gather-right.ensures.gathered c.gather-right.ensures.count (omega arith) c.rotate.ensures).0

pub returns-clause-count : goal.returns-clause-count
returns-clause-count g t c =
    let h = c.end_of_half-middle.ensures in
    let a = h.some in
    let b = h.inside in
    let e = c.if-middle-to.false in
    let left = c.gather-left.ensures.count in
    let all = (both_gathered (pair_seen (g.R.FrontRule.pairs c.args.rule.now)) (one_seen (g.R.FrontRule.ones c.args.rule.now)) c.args.from c.end_of_half-middle.result c.args.to c.gather-right.result (c.end_of_half-middle.result + c.gather-right.result - c.end_of_half-middle.result) c.args.glyphs.now c.gather-left.new.glyphs c.gather-right.new.glyphs c.rotate.new.glyphs
    (omega (arith, a)) h.inside c.requires.within (h.apart (omega (arith, b, e))) c.gather-left.ensures.gathered c.gather-right.ensures.gathered c.gather-right.ensures.count (omega arith) c.rotate.ensures).1 in
    omega (arith, left, all)

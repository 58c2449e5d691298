use Rattle.std.proofs.Common.{◌+◌, ◌-◌, ◌/◌, arith}
use Rattle.buffer_glyphs.specs.Items.{item_of}
use Rattle.buffer_stages.specs.Fronts.{one_seen, pair_seen}
use Rattle.buffer_stages.proofs.Halves.{apart_after, cut_between, pair_gathered}
use Rattle.buffer_stages.proofs.fronts.end_of_half.Goals as goal

pub returns-then-comes_with-clause-apart : goal.returns-then-comes_with-clause-apart
returns-then-comes_with-clause-apart g c = λ lt.
    let r = c.requires in
    let a = r.two in
    let middle = c.args.from + (c.args.to - c.args.from) / 2 in
    apart_after (pair_seen (g.R.FrontRule.pairs c.args.rule.now)) c.args.from middle c.args.to c.args.glyphs.now _ (λ x y z e. g.met.R.FrontRule.apart c.args.rule.now (item_of x) (item_of y) (item_of z) e) (omega (arith, a)) lt r.within c.comes_with.result c.comes_with.ensures c.if-comes_with.true

pub returns-then-comes_with-clause-whole : goal.returns-then-comes_with-clause-whole
returns-then-comes_with-clause-whole g c = λ e.
    let r = c.requires in
    let a = r.two in
    let middle = c.args.from + (c.args.to - c.args.from) / 2 in
    (pair_gathered (pair_seen (g.R.FrontRule.pairs c.args.rule.now)) (one_seen (g.R.FrontRule.ones c.args.rule.now)) c.args.from middle c.args.to c.args.glyphs.now _ (omega (arith, a, e)) (omega (arith, a, e)) r.within c.comes_with.result c.comes_with.ensures c.if-comes_with.true).0

pub returns-then-comes_with-clause-both : goal.returns-then-comes_with-clause-both
returns-then-comes_with-clause-both g c = λ e.
    let r = c.requires in
    let a = r.two in
    let middle = c.args.from + (c.args.to - c.args.from) / 2 in
    (pair_gathered (pair_seen (g.R.FrontRule.pairs c.args.rule.now)) (one_seen (g.R.FrontRule.ones c.args.rule.now)) c.args.from middle c.args.to c.args.glyphs.now _ (omega (arith, a, e)) (omega (arith, a, e)) r.within c.comes_with.result c.comes_with.ensures c.if-comes_with.true).1

pub returns-clause-apart : goal.returns-clause-apart
returns-clause-apart g c = λ lt.
    let r = c.requires in
    let a = r.two in
    let middle = c.args.from + (c.args.to - c.args.from) / 2 in
    cut_between (pair_seen (g.R.FrontRule.pairs c.args.rule.now)) c.args.from middle c.args.to c.args.glyphs.now _ (omega (arith, a)) lt r.within c.comes_with.result c.comes_with.ensures c.if-comes_with.false

use Rattle.std.proofs.Common.{◌<◌, ◌≤◌, length, arith}
use Rattle.buffer_core.specs.Sides.{all_glyphs}
use Rattle.buffer_stages.proofs.SyllableWalks.{walked, all_walked}
use Rattle.buffer_stages.proofs.Lemmas.Syllables.{syllable_end}
use Rattle.buffer_stages.proofs.walk.each_syllable.Goals as goal

pub rewrite-requires-clause-within : goal.rewrite-requires-clause-within
rewrite-requires-clause-within g c =
    let now = c.loop-start.buffer in
    let count = c.len-count.ensures.count c.requires.ready.closed in
    let same = c.loop-start.invariant.count in
    let lt : c.loop-start.start < length (all_glyphs now) = omega (arith, c.loop-start-test.true, count, same) in
    (syllable_end c.loop-start.start c.next_syllable-end.result now lt c.next_syllable-end.ensures).1

pub loop-start-smaller : goal.loop-start-smaller
loop-start-smaller g c =
    let now = c.loop-start.buffer in
    let count = c.len-count.ensures.count c.requires.ready.closed in
    let same = c.loop-start.invariant.count in
    let lt : c.loop-start.start < length (all_glyphs now) = omega (arith, c.loop-start-test.true, count, same) in
    let further = (syllable_end c.loop-start.start c.next_syllable-end.result now lt c.next_syllable-end.ensures).0 in
    omega (arith, further, c.loop-start-test.true)

pub loop-start-preserved : goal.loop-start-preserved
loop-start-preserved g c =
    let now = c.loop-start.buffer in
    let count = c.len-count.ensures.count c.requires.ready.closed in
    let same = c.loop-start.invariant.count in
    let lt : c.loop-start.start < length (all_glyphs now) = omega (arith, c.loop-start-test.true, count, same) in
    walked (g.R.SyllableRule.rewritten c.args.rule.now) (g.met.R.SyllableRule.keeps_length c.args.rule.now) c.loop-start.start c.next_syllable-end.result c.args.buffer.now now c.rewrite.new.buffer c.loop-start.invariant lt c.next_syllable-end.ensures c.in_ok-rewrite.ensures

pub returns : goal.returns
returns g c =
    let count = c.len-count.ensures.count c.requires.ready.closed in
    let le : length (all_glyphs c.args.buffer.now) ≤ c.loop-start.start = omega (arith, c.loop-start-test.false, count) in
    all_walked (g.R.SyllableRule.rewritten c.args.rule.now) c.loop-start.start c.args.buffer.now c.loop-start.buffer c.loop-start.invariant le

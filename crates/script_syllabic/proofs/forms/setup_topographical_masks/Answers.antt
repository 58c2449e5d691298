use Rattle.std.proofs.Common.{◌<◌, ◌≤◌, length, arith}
use Rattle.buffer_core.specs.Sides.{all_glyphs}
use Rattle.buffer_stages.proofs.Lemmas.Syllables.{syllable_end}
use Rattle.script_syllabic.proofs.Forming.{formed_on, all_formed}
use Rattle.script_syllabic.proofs.forms.setup_topographical_masks.Goals as goal

pub form_syllable-before-requires-clause-within : goal.form_syllable-before-requires-clause-within
form_syllable-before-requires-clause-within c =
    let now = c.loop-start.buffer in
    let count = c.len-count.ensures.count c.flag_seams.ensures.ready.closed in
    let same = c.loop-start.invariant.count in
    let lt : c.loop-start.start < length (all_glyphs now) = omega (arith, c.loop-start-test.true, count, same) in
    (syllable_end c.loop-start.start c.next_syllable-end.result now lt c.next_syllable-end.ensures).1

pub loop-start-smaller : goal.loop-start-smaller
loop-start-smaller c =
    let now = c.loop-start.buffer in
    let count = c.len-count.ensures.count c.flag_seams.ensures.ready.closed in
    let same = c.loop-start.invariant.count in
    let lt : c.loop-start.start < length (all_glyphs now) = omega (arith, c.loop-start-test.true, count, same) in
    let further = (syllable_end c.loop-start.start c.next_syllable-end.result now lt c.next_syllable-end.ensures).0 in
    omega (arith, further, c.loop-start-test.true)

pub loop-start-preserved : goal.loop-start-preserved
loop-start-preserved c =
    let now = c.loop-start.buffer in
    let count = c.len-count.ensures.count c.flag_seams.ensures.ready.closed in
    let same = c.loop-start.invariant.count in
    let lt : c.loop-start.start < length (all_glyphs now) = omega (arith, c.loop-start-test.true, count, same) in
    formed_on c.args.masks.now c.loop-start.before c.loop-start.start c.next_syllable-end.result c.flag_seams.new.buffer now c.form_syllable-before.new.buffer c.form_syllable-before.result c.loop-start.invariant lt c.next_syllable-end.ensures c.form_syllable-before.ensures.rewritten c.form_syllable-before.ensures.connects

pub returns : goal.returns
returns c =
    let count = c.len-count.ensures.count c.flag_seams.ensures.ready.closed in
    let le : length (all_glyphs c.flag_seams.new.buffer) ≤ c.loop-start.start = omega (arith, c.loop-start-test.false, count) in
    all_formed c.args.masks.now c.loop-start.before c.loop-start.start c.args.buffer.now c.flag_seams.new.buffer c.loop-start.buffer c.flag_seams.ensures c.loop-start.invariant le

use Rattle.script_thai.proofs.Counted.{none_counted, next_counted}
use Rattle.script_thai.proofs.thai_vowel.count_above.Goals as goal

pub loop-i-init : goal.loop-i-init
loop-i-init c = none_counted c.args.glyphs.now

pub loop-i-preserved : goal.loop-i-preserved
loop-i-preserved c = next_counted c.loop-i.i c.args.glyphs.now _ c.is_mark_above.result c.loop-i-test.true c.is_mark_above.ensures c.if-not-is_mark_above.false c.loop-i.invariant

use Rattle.std.proofs.Common.{arith}
use Rattle.buffer_rows.proofs.Filled.{all_filled, below_filled, none_filled, one_filled}
use Rattle.buffer_rows.proofs.dense.fill_slots.Goals as goal

pub loop-i-init : goal.loop-i-init
loop-i-init g c = none_filled g.R.Numbered.number_of c.args.rows.now c.args.slots.now.items c.args.first c.requires.none

pub loop-i-preserved-then-number-first : goal.loop-i-preserved-then-number-first
loop-i-preserved-then-number-first g c =
    below_filled g.R.Numbered.number_of c.args.rows.now c.loop-i.slots.items c.args.first c.loop-i.i c.index-rows-i.result c.loop-i-test.true c.index-rows-i.is (omega (arith, c.number-number.ensures, c.if-number-first.true)) c.loop-i.invariant

pub loop-i-preserved : goal.loop-i-preserved
loop-i-preserved g c =
    one_filled g.R.Numbered.number_of c.args.rows.now c.loop-i.slots.items c.set_slot.new.slots.items c.args.first c.loop-i.i _ c.index-rows-i.result c.requires.rising c.loop-i-test.true c.index-rows-i.is (omega (arith, c.number-number.ensures, c.if-number-first.false)) c.set_slot.ensures.size c.set_slot.ensures.there c.set_slot.ensures.others c.loop-i.invariant

pub returns : goal.returns
returns g c = all_filled g.R.Numbered.number_of c.args.rows.now c.loop-i.slots.items c.args.first c.loop-i.i (omega (arith, c.loop-i-test.false)) c.loop-i.invariant

use Rattle.std.proofs.Common.{arith}
use Rattle.buffer_stages.specs.Fronts.{one_seen}
use Rattle.buffer_stages.proofs.TurnedBack.{all_back}
use Rattle.buffer_stages.proofs.groups.turn_groups.Goals as goal

pub returns : goal.returns
returns g c =
    let h = c.loop-i.invariant in
    let many = h.count in
    let inside = h.inside in
    let within = c.loop-i.auto.i-end in
    let past = c.loop-i-test.false in
    let same = c.reverse.ensures.len in
    all_back (one_seen (g.R.GroupRule.begins c.args.rule.now)) c.loop-i.i c.loop-i.begin _ c.args.glyphs.now c.loop-i.glyphs c.turn_back-2.new.glyphs (omega (arith, many, past, same)) (omega (arith, many, same)) h (omega (arith, inside, within)) c.turn_back-2.ensures

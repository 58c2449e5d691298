use Rattle.std.proofs.Common.{arith, get_or}
use Rattle.std.proofs.lemmas.List.{get_or_default}
use Rattle.buffer_unicode.specs.declared.rows.Pair.{Pair}
use Rattle.buffer_unicode_tables.proofs.Seconds.{one_marked}
use Rattle.buffer_unicode_tables.proofs.second_halves.mark_seconds.Goals as goal

abbrev none : Pair
none = record { first = 0; second = 0; whole = 0 }

pub loop-pair-preserved : goal.loop-pair-preserved
loop-pair-preserved c =
    let pairs = c.args.pairs.now in
    let k = c.loop-pair.pair-index in
    let pair = get_or pairs k none in
    let there = c.loop-pair-test.true in
    record {
      slots = c.loop-pair.invariant.slots;
      marked = one_marked c.loop-pair.slots.items k c.slot_of.result pair pairs there (get_or_default pairs k none pair there) c.slot_of.ensures.value (omega (arith, c.slot_of.ensures.within, c.loop-pair.invariant.slots, c.loop-pair.slots.ok.0)) c.loop-pair.invariant.marked;
    }

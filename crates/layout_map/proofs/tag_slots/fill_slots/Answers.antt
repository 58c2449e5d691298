use Rattle.std.proofs.Common.{arith}
use Rattle.std.proofs.lemmas.List.{length-set}
use Rattle.layout_map.proofs.Slotted.{one_slotted}
use Rattle.layout_map.proofs.tag_slots.fill_slots.Goals as goal

pub loop-i-preserved : goal.loop-i-preserved
loop-i-preserved c =
    let was = c.loop-i.invariant in
    record {
      slots = rw (length-set c.loop-i.slots c.slot_of.result c.entry_of.result) was.slots;
      taken =
          one_slotted c.loop-i.slots c.loop-i.i c.slot_of.result c.entry_of.result _ c.args.features.now c.loop-i-test.true c.slot_of.ensures.value (omega (arith, c.slot_of.ensures.within, was.slots)) c.entry_of.ensures was.taken;
    }

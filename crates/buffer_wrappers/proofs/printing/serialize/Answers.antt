use Rattle.std.proofs.Common.{arith, ◌<◌, ◌∙◌, length}
use Rattle.buffer_wrappers.proofs.Steps.{near_enough, near_more, pen_step, printed_step}
use Rattle.buffer_wrappers.proofs.printing.serialize.Goals as goal

pub moved-pen-requires : goal.moved-pen-requires
moved-pen-requires g c = near_enough _ _ (omega arith) c.loop-index.invariant.near

pub loop-index-preserved : goal.loop-index-preserved
loop-index-preserved g c =
    let in_places : c.loop-index.index < length c.args.positions.now = omega arith in
    record {
      pen = pen_step _ _ _ _ _ _ in_places c.loop-index.invariant.pen c.moved-pen.ensures.value;
      near = near_more _ _ (c.moved-pen.ensures.near _ c.loop-index.invariant.near);
      printed = printed_step _ _ _ _ _ _ _ _ _ _ _ _ (omega arith) in_places c.loop-index.invariant.pen
          c.in_ok-push_separator.ensures c.in_ok-push_glyph.ensures ∙ c.loop-index.invariant.printed;
    }

use Rattle.shell_run.proofs.Writing.{front_inside, front_more}
use Rattle.shell_run.proofs.write.write_lines.Goals as goal

-- what was written grows by what this write took
pub loop-count-preserved : goal.loop-count-preserved
loop-count-preserved g c =
    let lines = c.args.lines.now in
    let count = c.loop-count.count in
    let written = c.loop-count.invariant.written in
    record {
      written = front_more (g.W.Write.contents c.args.out.now) (g.W.Write.contents c.loop-count.out) (g.W.Write.contents c.write.new.self) lines count c.in-Ok.more written c.in-Ok.ensures.bytes;
      inside = front_inside lines count c.in-Ok.more c.loop-count.invariant.inside c.in-Ok.ensures.bound;
    }

use Rattle.layout_offsets.specs.AdvanceSums.{drawing}
use Rattle.layout_offsets.proofs.Near.{drawn_at_once}
use Rattle.layout_offsets.proofs.followed_links.draw_at_once.Goals as goal

pub returns-clause-drawn : goal.returns-clause-drawn
returns-clause-drawn c = drawn_at_once (drawing c.args.by_sums c.args.direction) c.args.at c.args.from c.args.positions.now c.unlink.new.positions c.draw_child.new.positions c.requires.here c.requires.near c.unlink.ensures c.draw_child.ensures

use Rattle.std.proofs.Common.{rules}
use Rattle.shape_glyphs.specs.Ignorables.{hidden_item}
use Rattle.shape_glyphs.proofs.Ended.{hidden_done}
use Rattle.shape_glyphs.proofs.ignorables.hide_each.Goals as goal

pub returns : goal.returns
returns c = hidden_done c.args.invisible c.args.buffer.now _ c.ranges.invisible (c.map_glyphs.ensures (hidden_item c.args.invisible) (λ g h r. search rules))

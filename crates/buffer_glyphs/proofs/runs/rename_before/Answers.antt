use Rattle.buffer_glyphs.specs.Items.{clusters}
use Rattle.buffer_glyphs.proofs.Joined.{renamed_beside}
use Rattle.buffer_glyphs.proofs.runs.rename_before.Goals as goal

pub returns : goal.returns
returns c = renamed_beside (clusters c.args.range.now) c.first_cluster.result c.least_in_order.result c.args.glyphs.now c.rename_back.new.glyphs c.first_cluster.ensures c.least_in_order.ensures c.requires.known c.rename_back.ensures

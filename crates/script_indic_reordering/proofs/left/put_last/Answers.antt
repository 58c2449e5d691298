use Rattle.std.proofs.Common.{arith}
use Rattle.script_indic_reordering.proofs.Lemmas.LeftPut.{put_is}
use Rattle.script_indic_reordering.proofs.left.put_last.Goals as goal

pub returns : goal.returns
returns c = put_is c.args.count c.gather-others.result c.args.glyphs.now c.gather-others.new.glyphs c.turn.new.glyphs c.rotate.new.glyphs c.requires c.gather-others.ensures.gathered c.gather-others.ensures.count c.turn.ensures c.rotate.ensures

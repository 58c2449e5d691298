use Rattle.layout_gsub.proofs.Tested.{nothing_in}
use Rattle.layout_gsub.proofs.multiple.apply_sequence.Goals as goal

pub returns-in-empty : goal.returns-in-empty
returns-in-empty c = let ctx = c.args.ctx.now in nothing_in ctx.face.now.gdef c.args.glyphs.now ctx.random_state c.args.buffer.now c.delete.new.buffer c.in-empty.len_below (c.delete.ensures ctx.random_state)

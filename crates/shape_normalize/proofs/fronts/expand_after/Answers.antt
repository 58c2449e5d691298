use Rattle.shape_normalize.proofs.Taken.{after_front}
use Rattle.shape_normalize.proofs.fronts.expand_after.Goals as goal

pub returns-clause-ok : goal.returns-clause-ok
returns-clause-ok g c =
    after_front (g.N.Normalizing.normalizer c.args.by.now) c.args.count c.args.buffer.now c.pass_glyphs.new.buffer c.expand_list.new.buffer c.in_ok-pass_glyphs.ensures.moved c.in_ok-pass_glyphs.ensures.kept
    c.in_ok-expand_list.ensures.ok

use Rattle.std.proofs.Common.{ap, ◌∙◌}
use Rattle.buffer_glyphs.specs.Glyphs.{glyphs_flagged}
use Rattle.shape_text.proofs.RangeMasks.{range_becomes}
use Rattle.shape_text.proofs.fractions.mask_range.Goals as goal

pub returns : goal.returns
returns c =
    range_becomes c.args.mask c.args.start c.args.end c.flag_within.new.glyphs c.args.buffer.now
    (c.flag_within.ensures ∙ ap (glyphs_flagged c.args.mask c.args.start c.args.end) c.info_slice_mut.ensures.value)
    c.requires.flagless c.requires.ordered c.requires.ready

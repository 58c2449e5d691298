use Rattle.script_syllabic.proofs.Masked.{mask_rewrites_front}
use Rattle.script_syllabic.proofs.rphf.RphfMaskSyllableRule.rewrite.Goals as goal

pub returns : goal.returns
returns c =
    let r = c.requires in
    mask_rewrites_front c.args.self.now.mask c.args.start c.args.end c.reph_size-size.result c.info_slice.result.now c.args.buffer.now c.add_mask.new.buffer r.ordered r.within c.info_slice.ensures c.reph_size-size.ensures.size c.add_mask.ensures

use Rattle.std.proofs.Common.{None, arith}
use Rattle.script_categories.specs.declared.category.TheConstants as category
use Rattle.script_syllabic.specs.Features.{has_feature}
use Rattle.script_syllabic.proofs.Recorded.{recording_rewrites}
use Rattle.script_syllabic.proofs.recording.PrefSyllableRule.rewrite.Goals as goal

pub returns : goal.returns
returns c =
    let r = c.requires in
    recording_rewrites (has_feature None) category.VPre c.args.start c.args.end c.record_within.new.glyphs c.info_slice_mut.result.now c.args.buffer.now r.ready (omega (arith, r.ordered)) r.within c.info_slice_mut.ensures.value c.record_within.ensures

use Rattle.std.proofs.Common.{◌+◌, ap, ◌∙◌, true, false}
use Rattle.script_myanmar.specs.Myanmar.{matras_of}
use Rattle.script_myanmar.proofs.MyanmarSteps.{matras_kept, matras_turned, range_inside, range_stripped, two_asked}
use Rattle.script_myanmar.proofs.myanmar.reverse_matras.Goals as goal

pub returns-then-not-has_two_matras : goal.returns-then-not-has_two_matras
returns-then-not-has_two_matras c =
    let a = c.args.buffer.now in
    let r = c.requires in
    let m = c.matras_of-matras.result in
    let inside = range_inside c.args.start c.args.end m c.info_slice.result.now a r.ordered r.within c.info_slice.ensures c.matras_of-matras.ensures.within in
    matras_kept c.args.start c.args.end m a r.ordered r.within inside r.ready (c.matras_of-matras.ensures.count ∙ ap matras_of (range_stripped c.args.start c.args.end c.info_slice.result.now a c.info_slice.ensures))
    (two_asked c.args.start (c.args.start + m) c.info_slice-2.result.now c.has_two_matras.result false a c.info_slice-2.ensures c.has_two_matras.ensures c.if-not-has_two_matras.true)

pub returns : goal.returns
returns c =
    let a = c.args.buffer.now in
    let r = c.requires in
    let m = c.matras_of-matras.result in
    let inside = range_inside c.args.start c.args.end m c.info_slice.result.now a r.ordered r.within c.info_slice.ensures c.matras_of-matras.ensures.within in
    matras_turned c.args.start c.args.end m a c.reverse_groups.new.buffer r.ordered r.within inside (c.matras_of-matras.ensures.count ∙ ap matras_of (range_stripped c.args.start c.args.end c.info_slice.result.now a c.info_slice.ensures))
    (two_asked c.args.start (c.args.start + m) c.info_slice-2.result.now c.has_two_matras.result true a c.info_slice-2.ensures c.has_two_matras.ensures c.if-not-has_two_matras.false) c.reverse_groups.ensures

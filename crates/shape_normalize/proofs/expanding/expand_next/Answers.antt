use Rattle.std.proofs.Common.{Ok, ap, ◌∙◌}
use Rattle.shape_normalize.proofs.Advance.{group_passed, group_too_many, run_passed}
use Rattle.shape_normalize.proofs.expanding.expand_next.Goals as goal
use Rattle.buffer_facts.proofs.Results.{passed_on}

pub returns-in_err-expand_group-clause-err : goal.returns-in_err-expand_group-clause-err
returns-in_err-expand_group-clause-err g c =
    let e = c.in_err-expand_group.field-0.0 in
    passed_on c.from_residual.result e _ c.from_residual.ensures.1
    (group_too_many (g.N.Normalizing.normalizer c.args.by.now) c.count_marks-marks.result e c.args.buffer.now c.requires.current.current c.count_marks-marks.ensures.marks c.in_err-expand_group.ensures.err)

pub returns-then-count-eq0-clause-ok : goal.returns-then-count-eq0-clause-ok
returns-then-count-eq0-clause-ok g c =
    group_passed (g.N.Normalizing.normalizer c.args.by.now) c.count_marks-marks.result c.args.buffer.now c.expand_group.new.buffer c.requires.current.current c.count_marks-marks.ensures.marks c.in_ok-expand_group.ensures.ok

pub returns-clause-ok : goal.returns-clause-ok
returns-clause-ok g c =
    let there = c.in_ok-next_glyphs.was ∙ ap Ok c.if-not-branch.false in
    run_passed (g.N.Normalizing.normalizer c.args.by.now) c.kept_run-count.result c.args.buffer.now c.next_glyphs.new.self c.kept_run-count.ensures.kept c.requires.given c.if-count-eq0.false
    (c.next_glyphs.ensures.moved there) c.next_glyphs.ensures.kept

use Rattle.std.proofs.Common.{arith, ◌∙◌}
use Rattle.shape_normalize.proofs.Runs.{none_arranged, long_stays, short_arranged, rewritten_count}
use Rattle.shape_normalize.proofs.ordering.arrange_run.Goals as goal

pub returns-then-count-eq0-clause-ok : goal.returns-then-count-eq0-clause-ok
returns-then-count-eq0-clause-ok g c = none_arranged (g.N.Normalizing.normalizer c.args.by.now).reorders c.args.start c.args.end c.args.buffer.now c.requires.ready c.if-count-eq0.true c.requires.ordered

pub returns-then-count-gt-MAX_COMBINING_MARKS-clause-ok : goal.returns-then-count-gt-MAX_COMBINING_MARKS-clause-ok
returns-then-count-gt-MAX_COMBINING_MARKS-clause-ok g c =
    long_stays (g.N.Normalizing.normalizer c.args.by.now).reorders c.args.start c.args.end c.args.buffer.now c.requires.ready c.if-count-gt-MAX_COMBINING_MARKS.true

pub returns-clause-ok : goal.returns-clause-ok
returns-clause-ok g c =
    let few = c.if-count-gt-MAX_COMBINING_MARKS.false in
    short_arranged (g.N.Normalizing.normalizer c.args.by.now).reorders c.args.start c.args.end c.args.buffer.now c.sort_run.new.buffer c.reorder_marks.new.buffer c.if-count-eq0.false (omega (arith, few))
    c.in_ok-sort_run.ensures.count c.in_ok-sort_run.ensures.ok c.reorder_marks.ensures

pub returns-clause-count : goal.returns-clause-count
returns-clause-count g c =
    let within = c.requires.within in
    let count = c.in_ok-sort_run.ensures.count in
    rewritten_count (g.N.Normalizing.normalizer c.args.by.now).reorders c.args.start c.args.end c.sort_run.new.buffer c.reorder_marks.new.buffer (g.met.N.Normalizing.keeps_count c.args.by.now) c.requires.ordered
    (omega (arith, within, count)) c.reorder_marks.ensures ∙ c.in_ok-sort_run.ensures.count

use Rattle.std.proofs.Common.{◌+◌, ap, take, drop, sym, ◌∙◌}
use Rattle.std.specs.List.{list_all}
use Rattle.buffer_glyphs.specs.Items.{strip}
use Rattle.shape_normalize.specs.KeptRuns.{is_kept}
use Rattle.shape_normalize.proofs.Kept.{group_keeps, none_kept}
use Rattle.shape_normalize.proofs.kept_runs.kept_group.Goals as goal

pub returns-then-not-are_kept-clause-kept : goal.returns-then-not-are_kept-clause-kept
returns-then-not-are_kept-clause-kept g c = none_kept (g.N.Normalizing.normalizer c.args.by.now) (drop c.args.at (strip c.args.buffer.now.ahead))

pub returns-clause-kept : goal.returns-clause-kept
returns-clause-kept g c =
    let by = g.N.Normalizing.normalizer c.args.by.now in
    let k = c.count_marks-count.result in
    group_keeps by c.args.at k c.args.buffer.now.ahead c.requires.there c.count_marks-count.ensures.marks
    (ap (λ r. list_all (is_kept by r) (take (k + 1) (drop c.args.at (strip c.args.buffer.now.ahead)))) (sym c.group_reach-reach.ensures) ∙ sym c.are_kept.ensures.value ∙ c.if-not-are_kept.false)

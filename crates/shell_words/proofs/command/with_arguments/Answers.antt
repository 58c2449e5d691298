use Rattle.std.proofs.Common.{◌∙◌, ◌<◌, ◌+◌, [], drop, length, map, sym, ap, arith}
use Rattle.clap.specs.Words.{App, with_rule}
use Rattle.shell_words.specs.Words.{rule_by, with_all}
use Rattle.shell_words.proofs.Arguments.{one_more}
use Rattle.shell_words.proofs.command.with_arguments.Goals as goal

-- one argument more
pub loop-id-preserved : goal.loop-id-preserved
loop-id-preserved c =
    let ids = c.args.ids.now in
    let i = c.loop-id.id-index in
    let rule = rule_by c.args.kind in
    let inside : i < length ids = omega arith in
    let added = c.in_ok-command.ensures.shape c.argument.ensures.own ∙ ap (with_rule _) c.argument.ensures.rule in
    c.loop-id.invariant ∙ one_more rule _ ids i (record { ref_ptr = (0, 0); now = [] }) inside
    ∙ ap (λ (app : App). with_all rule (map (λ t. t.now) (drop (i + 1) ids)) app) (sym added)

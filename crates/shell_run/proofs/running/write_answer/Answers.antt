use Rattle.std.proofs.Common.{◌≡◌, true}
use Rattle.std.proofs.lemmas.Result.{IfErr-weaker}
use Rattle.shell_run.specs.Run.{may_have_written}
use Rattle.shell_run.proofs.Runs.{may_be_written}
use Rattle.shell_run.proofs.running.write_answer.Goals as goal

pub returns-then-options-2-clause-kept : goal.returns-then-options-2-clause-kept
returns-then-options-2-clause-kept g c =
    IfErr-weaker c.write_text_lines.result _ _
    (λ e kind none. let may : may_have_written c.args.options.now e ≡ true = may_be_written c.args.options.now e c.if-options.true c.if-options-2.true kind in let no : ⊥ = cc in absurd no)
    c.write_text_lines.ensures.kind

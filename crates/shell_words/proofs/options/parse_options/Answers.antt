use Rattle.std.proofs.Common.{◌≡◌, ◌∙◌, Err, map, ap, sym}
use Rattle.std.proofs.lemmas.Result.{IfOk-weaker, IfErr-weaker}
use Rattle.clap.specs.Words.{kind_of}
use Rattle.shell_words.specs.Words.{refusal_of}
use Rattle.shell_words.proofs.Taken.{taken, refused}
use Rattle.shell_words.proofs.Refused.{options-refused}
use Rattle.shell_words.proofs.options.parse_options.Goals as goal

pub returns-in-Ok-clause-ok : goal.returns-in-Ok-clause-ok
returns-in-Ok-clause-ok g c =
    let same = taken _ (map g.S.AsStr.text c.args.words.now) c.in-Ok.matches c.in_ok-hb_shape.ensures c.in-Ok.ensures.matches c.in-Ok.ensures.kinds in
    IfOk-weaker c.read_options.result _ _ (λ o h. same ∙ h) c.read_options.ensures.ok

pub returns-in-Ok-clause-refused : goal.returns-in-Ok-clause-refused
returns-in-Ok-clause-refused g c =
    let same = taken _ (map g.S.AsStr.text c.args.words.now) c.in-Ok.matches c.in_ok-hb_shape.ensures c.in-Ok.ensures.matches c.in-Ok.ensures.kinds in
    IfErr-weaker c.read_options.result _ _ (λ e h other. same ∙ h other) c.read_options.ensures.refused

pub returns-in-Err-clause-refused : goal.returns-in-Err-clause-refused
returns-in-Err-clause-refused g c other =
    let means : c.refusal.result ≡ refusal_of (kind_of c.in-Err.error) = c.refusal.ensures ∙ ap refusal_of c.kind.ensures in
    refused _ (map g.S.AsStr.text c.args.words.now) c.in-Err.error c.in_ok-hb_shape.ensures c.in-Err.ensures.kinds (λ memory. other (means ∙ memory)) ∙ ap Err (sym means)

pub returns-in-Ok-clause-faults : goal.returns-in-Ok-clause-faults
returns-in-Ok-clause-faults g c =
    let words = map g.S.AsStr.text c.args.words.now in
    let same = taken _ words c.in-Ok.matches c.in_ok-hb_shape.ensures c.in-Ok.ensures.matches c.in-Ok.ensures.kinds in
    IfErr-weaker c.read_options.result _ _ (λ e h other. options-refused words e (same ∙ h other)) c.read_options.ensures.refused

pub returns-in-Err-clause-faults : goal.returns-in-Err-clause-faults
returns-in-Err-clause-faults g c other = options-refused _ _ (returns-in-Err-clause-refused g c other)

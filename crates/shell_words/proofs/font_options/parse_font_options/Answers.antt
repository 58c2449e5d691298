use Rattle.std.proofs.Common.{◌≡◌, ◌∙◌, Err, map, ap, sym}
use Rattle.std.proofs.lemmas.Result.{IfOk-weaker, IfErr-weaker}
use Rattle.clap.specs.Words.{kind_of}
use Rattle.shell_words.specs.Words.{refusal_of}
use Rattle.shell_words.proofs.Taken.{font_taken, font_refused}
use Rattle.shell_words.proofs.Refused.{font-request-refused}
use Rattle.shell_words.proofs.font_options.parse_font_options.Goals as goal

pub returns-in-Ok-clause-ok : goal.returns-in-Ok-clause-ok
returns-in-Ok-clause-ok g c =
    let same = font_taken _ (map g.S.AsStr.text c.args.words.now) c.in-Ok.matches c.in_ok-kuspveli.ensures c.in-Ok.ensures.matches c.in-Ok.ensures.kinds in
    IfOk-weaker c.read_request.result _ _ (λ o h. same ∙ h) c.read_request.ensures.ok

pub returns-in-Ok-clause-refused : goal.returns-in-Ok-clause-refused
returns-in-Ok-clause-refused g c =
    let same = font_taken _ (map g.S.AsStr.text c.args.words.now) c.in-Ok.matches c.in_ok-kuspveli.ensures c.in-Ok.ensures.matches c.in-Ok.ensures.kinds in
    IfErr-weaker c.read_request.result _ _ (λ e h other. same ∙ h other) c.read_request.ensures.refused

pub returns-in-Err-clause-refused : goal.returns-in-Err-clause-refused
returns-in-Err-clause-refused g c other =
    let means : c.refusal.result ≡ refusal_of (kind_of c.in-Err.error) = c.refusal.ensures ∙ ap refusal_of c.kind.ensures in
    font_refused _ (map g.S.AsStr.text c.args.words.now) c.in-Err.error c.in_ok-kuspveli.ensures c.in-Err.ensures.kinds (λ memory. other (means ∙ memory)) ∙ ap Err (sym means)

pub returns-in-Ok-clause-faults : goal.returns-in-Ok-clause-faults
returns-in-Ok-clause-faults g c =
    let words = map g.S.AsStr.text c.args.words.now in
    let same = font_taken _ words c.in-Ok.matches c.in_ok-kuspveli.ensures c.in-Ok.ensures.matches c.in-Ok.ensures.kinds in
    IfErr-weaker c.read_request.result _ _ (λ e h other. font-request-refused words e (same ∙ h other)) c.read_request.ensures.refused

pub returns-in-Err-clause-faults : goal.returns-in-Err-clause-faults
returns-in-Err-clause-faults g c other = font-request-refused _ _ (returns-in-Err-clause-refused g c other)

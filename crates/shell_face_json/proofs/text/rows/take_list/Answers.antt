use Rattle.std.proofs.Common.{◌≡◌, ◌∷◌, sym, ap, ◌∙◌, subst, arith}
use Rattle.std.proofs.lemmas.Result.{IfOk-weaker}
use Rattle.json.specs.Token.{Token}
use Rattle.json.specs.Reads.{token_of}
use Rattle.serde_json.specs.Data.{array}
use Rattle.shell_json.specs.TextValues.{BeginsWith}
use Rattle.shell_json.proofs.TokenSteps.{array_begins}
use Rattle.shell_face_json.proofs.text.rows.take_list.Goals as goal

pub returns-else-depth-eq0-clause-ok : goal.returns-else-depth-eq0-clause-ok
returns-else-depth-eq0-clause-ok g c =
    let ts = c.next.new.self in
    let r = c.take_items.new.reader in
    let read : c.args.reader.now ≡ token_of c.in_ok-token.token ∷ ts = grind arith in
    let first : c.args.reader.now ≡ Token.begin_array ∷ ts = read ∙ ap (λ t. token_of t ∷ ts) c.in-BeginArray.is in
    IfOk-weaker c.take_items.result _ _ (λ v ok.
    let begins = array_begins c.args.depth ts ok.0 r (omega arith) ok.1 in
    (array ok.0, subst (λ old. BeginsWith c.args.depth old (array ok.0) r) (sym first) begins, ok.2)) c.take_items.ensures.ok

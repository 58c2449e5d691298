use Rattle.std.proofs.Common.{◌≡◌, ◌∷◌, sym, ap, ◌∙◌, subst, arith}
use Rattle.std.proofs.lemmas.Result.{on_ok_weaker}
use Rattle.json.specs.Token.{Token}
use Rattle.json.specs.Reads.{token_of}
use Rattle.serde_json.specs.Data.{object}
use Rattle.shell_json.specs.TextValues.{BeginsWith}
use Rattle.shell_json.proofs.TokenSteps.{object_begins}
use Rattle.shell_json.proofs.members.take_object.Goals as goal

pub returns-else-depth-eq0-clause-ok : goal.returns-else-depth-eq0-clause-ok
returns-else-depth-eq0-clause-ok g c =
    let ts = c.next.new.self in
    let read : c.args.reader.now ≡ token_of c.in_ok-token.token ∷ ts = grind arith in
    let first : c.args.reader.now ≡ Token.begin_object ∷ ts = read ∙ ap (λ t. token_of t ∷ ts) c.in-BeginObject.is in
    on_ok_weaker c.take_members.result (λ ok h.
    let took = ok h in
    let begins = object_begins c.args.depth ts took.0 c.take_members.new.reader (omega arith) took.1 in
    (took.0, subst (λ old. BeginsWith c.args.depth old (object took.0) c.take_members.new.reader) (sym first) begins, took.2)) c.take_members.ensures.ok

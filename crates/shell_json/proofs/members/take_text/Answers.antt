use Rattle.std.proofs.Common.{◌≡◌, [], subst, arith}
use Rattle.json.specs.Lex.{tokens}
use Rattle.serde_json.specs.Data.{object}
use Rattle.shell_json.specs.TextValues.{BeginsWith}
use Rattle.shell_json.proofs.TokenSteps.{last_value}
use Rattle.shell_json.proofs.members.take_text.Goals as goal

pub returns-in-None : goal.returns-in-None
returns-in-None g c = record {
  ok =
      λ h.
      let took = c.in_ok-take_object.ensures.ok h in
      let d = object took.0 in
      let ended : c.take_object.new.reader ≡ [] = grind arith in
      let begins = subst (λ ts. BeginsWith 127 ts d c.take_object.new.reader) c.in_ok-reader.ensures.ok took.1 in
      (took.0, last_value c.args.text.now d (subst (λ rest. BeginsWith 127 (tokens c.args.text.now) d rest) ended begins), took.2);
}

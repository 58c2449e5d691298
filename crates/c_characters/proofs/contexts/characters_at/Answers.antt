use Rattle.std.proofs.Common.{rules, string_bytes}
use Rattle.std.proofs.lemmas.Str.{IsUtf8-string_bytes}
use Rattle.c_characters.specs.Characters.{characters_from}
use Rattle.c_characters.proofs.Around.{push_step}
use Rattle.c_characters.proofs.contexts.characters_at.Goals as goal

pub characters-preserved : goal.characters-preserved
characters-preserved c = record {
  within = search rules;
  pushed = push_step _ (string_bytes c.characters.string) (string_bytes c.push.new.self) c.characters.count c.in-Some.first.character c.in-Some.first.cluster
      (characters_from c.args.encoding c.characters.at c.characters.rest.now) (characters_from c.args.encoding c.in-Some.first.after c.in-Some.first.rest.now)
      c.characters.invariant.pushed c.in-Some.ensures.first (search rules) (IsUtf8-string_bytes c.characters.string) (search rules) c.in_ok-push.ensures.bytes;
}

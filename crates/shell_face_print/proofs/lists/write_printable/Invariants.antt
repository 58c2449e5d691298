use Rattle.std.proofs.Common.{◌≡◌, ◌++◌, map, drop}
use Rattle.shell_face_print.specs.Tags.{printable_records}
use Rattle.shell_print_json.specs.Tokens.{items_tokens}
use Rattle.shell_face_print.proofs.lists.write_printable.Given as goal

-- the tokens so far, and those of what is left
abbrev pub invariant-loop-record : goal.invariant-loop-record
invariant-loop-record g l = l.text ++ items_tokens (map g.P.ToJson.json (printable_records g.P.Keyed.key_of (drop l.record-index l.records)))
    ≡ l.initial.text ++ items_tokens (map g.P.ToJson.json (printable_records g.P.Keyed.key_of l.records))

use Rattle.std.proofs.Common.{◌≡◌, ◌++◌, map, drop}
use Rattle.shell_print_json.specs.Tokens.{items_tokens}
use Rattle.shell_face_print.proofs.lists.write_list.Given as goal

-- the tokens so far, and those of what is left
abbrev pub invariant-loop-item : goal.invariant-loop-item
invariant-loop-item g l = l.text ++ items_tokens (map g.P.ToJson.json (drop l.item-index l.items)) ≡ l.initial.text ++ items_tokens (map g.P.ToJson.json l.items)

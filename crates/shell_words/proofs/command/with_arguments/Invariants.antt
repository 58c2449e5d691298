use Rattle.std.proofs.Common.{◌≡◌, drop, map}
use Rattle.clap.specs.Words.{app_of}
use Rattle.shell_words.specs.Words.{rule_by, with_all}
use Rattle.shell_words.proofs.command.with_arguments.Given as goal

-- the arguments so far, and those of what is left
abbrev pub invariant-loop-id : goal.invariant-loop-id
invariant-loop-id l = with_all (rule_by l.kind) (map (λ t. t.now) l.ids) (app_of l.initial.command)
    ≡ with_all (rule_by l.kind) (map (λ t. t.now) (drop l.id-index l.ids)) (app_of l.command)

use Rattle.std.proofs.Common.{ap, codes, [], ◌∷◌, ◌∙◌}
use Rattle.clap.specs.Words.{App}
use Rattle.shell_words.specs.Words.{list_rule, switch_names, switch_rule, with_all}
use Rattle.shell_words.proofs.command.with_options.Goals as goal

-- the third step after the second after the first
pub returns : goal.returns
returns c =
    c.in_ok-command-3.ensures
    ∙ ap (λ (a : App). with_all switch_rule switch_names a)
    (c.in_ok-command-2.ensures ∙ ap (λ (a : App). with_all list_rule (codes "features" ∷ []) a) c.in_ok-command.ensures)

use Rattle.std.proofs.Common.{◌≡◌, ◌∙◌, List, ap, rules}
use Rattle.layout_tables.specs.Layout.{ScriptTable}
use Rattle.layout_tables.specs.Choice.{first_script}
use Rattle.layout_tables.proofs.table.ScriptsAndFeatures.first_script.Goals as goal

pub returns : goal.returns
returns c =
    let same : c.deref.result.now ≡ c.args.self.now.scripts = search rules in
    c.find_first.ensures ∙ ap (λ (scripts : List ScriptTable). first_script c.args.tags.now scripts) same

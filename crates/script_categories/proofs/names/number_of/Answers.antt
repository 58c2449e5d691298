use Rattle.std.proofs.Common.{◌∙◌}
use Rattle.script_categories.proofs.Texts.{numbers_of_texts}
use Rattle.script_categories.proofs.names.number_of.Goals as goal

pub returns : goal.returns
returns c = c.number_in_row.ensures ∙ numbers_of_texts c.args.rows.now c.args.name.now

use Rattle.c_text.proofs.Fonts.{input_of_font}
use Rattle.c_text.proofs.font.Font.read.Goals as goal

pub returns-clause-ok : goal.returns-clause-ok
returns-clause-ok c =
    input_of_font c.args.tables.now c.args.font.now c.in_ok-tables.tables c.in_ok-input.input c.in_ok-made.made.value c.in_ok-tables.ensures.ok c.in_ok-input.ensures.tables c.in_ok-input.ensures.ok c.in_ok-made.ensures

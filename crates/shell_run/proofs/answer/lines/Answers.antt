use Rattle.shell_readers.specs.Tables.{tables_value}
use Rattle.shell_run.proofs.Printing.{lines_shaped, lines_unshaped}
use Rattle.shell_run.proofs.answer.lines.Goals as goal
use Rattle.buffer_facts.proofs.Results.{passed_on}

pub returns-clause-ok : goal.returns-clause-ok
returns-clause-ok c =
    let options = c.args.options.now in
    let face = c.args.input.now.face in
    let t = tables_value c.args.input.now.tables in
    lines_shaped options t face c.args.text.now c.in_ok-buffer.buffer c.in_ok-buffer.ensures.text c.in_ok-buffer.ensures.fits c.in_ok-glyphs.glyphs _ c.in_ok-glyphs.ensures.ok (rw c.shrink_to_fit.ensures at c.in_ok-lines.ensures)

pub returns-in_err-glyphs-clause-refused : goal.returns-in_err-glyphs-clause-refused
returns-in_err-glyphs-clause-refused c =
    let options = c.args.options.now in
    let face = c.args.input.now.face in
    let t = tables_value c.args.input.now.tables in
    let fault = c.in_err-glyphs.field-0.0 in
    passed_on c.from_residual-in_err-glyphs.result fault _ c.from_residual-in_err-glyphs.ensures.1
    (λ not_memory. lines_unshaped options t face c.args.text.now c.in_ok-buffer.buffer c.in_ok-buffer.ensures.text c.in_ok-buffer.ensures.fits fault (c.in_err-glyphs.ensures.refused not_memory))

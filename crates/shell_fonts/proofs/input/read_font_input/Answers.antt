use Rattle.shell_readers.specs.declared.fault.RunFault.{RunFault}
use Rattle.shell_fonts.proofs.Reading.{both_read, font_refused, tables_faulty}
use Rattle.shell_fonts.proofs.input.read_font_input.Goals as goal
use Rattle.buffer_facts.proofs.Results.{passed_on}

pub returns-in_err-tables-clause-refused : goal.returns-in_err-tables-clause-refused
returns-in_err-tables-clause-refused c =
    let fault : RunFault = c.in_err-tables.field-0.0 in
    passed_on c.from_residual.result fault _ c.from_residual.ensures.1 (λ not_memory. tables_faulty _ _ _ fault (c.in_err-tables.ensures.refused not_memory))

pub returns-in-Err-clause-refused : goal.returns-in-Err-clause-refused
returns-in-Err-clause-refused c = λ not_memory. font_refused _ _ _ _ c.in-Err.fault c.in_ok-tables.ensures.ok (c.in-Err.ensures.refused not_memory)

pub returns-in-Ok-clause-ok : goal.returns-in-Ok-clause-ok
returns-in-Ok-clause-ok c = both_read _ _ _ _ _ c.in_ok-tables.ensures.ok c.in-Ok.ensures.ok

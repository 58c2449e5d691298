use Rattle.std.proofs.Common.{Err, ap}
use Rattle.shell_json.specs.declared.fault.JsonFault.{JsonFault}
use Rattle.shell_readers.proofs.Reading.{rest_read, rows_refused}
use Rattle.shell_readers.proofs.tables.read_all_tables.Goals as goal
use Rattle.buffer_facts.proofs.Results.{passed_on}

pub returns-in_err-characters-clause-refused : goal.returns-in_err-characters-clause-refused
returns-in_err-characters-clause-refused c =
    let fault : JsonFault = c.in_err-characters.field-0.0 in
    passed_on c.from_residual.result fault _ c.from_residual.ensures.1
    (λ not_memory. rows_refused _ fault (λ other. c.in_err-characters.ensures.refused not_memory other) (λ same. c.in_err-characters.ensures.deep (ap Err same)))

pub returns-in-Err-clause-refused : goal.returns-in-Err-clause-refused
returns-in-Err-clause-refused c = λ not_memory. rest_read _ _ (Err c.in-Err.fault) c.in_ok-characters.ensures.ok c.in_ok-characters.ensures.shallow (c.in-Err.ensures.refused not_memory _)

pub returns-in-Ok-clause-ok : goal.returns-in-Ok-clause-ok
returns-in-Ok-clause-ok c = rest_read _ _ _ c.in_ok-characters.ensures.ok c.in_ok-characters.ensures.shallow (c.in-Ok.ensures.ok _)

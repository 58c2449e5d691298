-- The machines of syllables in binary form: sections 11 to 18, the transitions and the accepting states of each machine.
use Rattle.std.specs.Prelude.{ℕ, ◌+◌, ◌*◌, List, Result, Ok}
use Rattle.font_bytes.specs.Results.{and_then}
use Rattle.font_bytes.specs.Words.{word}
use Rattle.script_categories.specs.Machines.{Machine, Machines, machines_fault}
use Rattle.shell_tables_bytes.specs.declared.fault.BinaryFault.{BinaryFault}
use Rattle.shell_tables_bytes.specs.Characters.{unless_fault}
use Rattle.shell_tables_bytes.specs.Records.{step_record, accept_record}
use Rattle.shell_tables_bytes.specs.Sections.{section}

-- the machine with an index
abbrev pub machine_at : ℕ → List ℕ → Result Machine BinaryFault
machine_at index bytes =
    and_then (section step_record 3 (11 + 2 * index) bytes) (λ next.
    and_then (section accept_record 2 (11 + 1 + 2 * index) bytes) (λ accept.
    Ok (record { states = word bytes (152 + 2 * index); next = next; accept = accept })))

-- all machines
abbrev pub machine_rows : List ℕ → Result Machines BinaryFault
machine_rows bytes =
    and_then (machine_at 0 bytes) (λ indic.
    and_then (machine_at 1 bytes) (λ khmer.
    and_then (machine_at 2 bytes) (λ myanmar.
    and_then (machine_at 3 bytes) (λ universal.
    Ok (record { indic = indic; khmer = khmer; myanmar = myanmar; universal = universal })))))

-- the machines: the first fault of a row is the result
abbrev pub machines_of : List ℕ → Result Machines BinaryFault
machines_of bytes = and_then (machine_rows bytes) (λ ms. unless_fault (machines_fault ms) ms)

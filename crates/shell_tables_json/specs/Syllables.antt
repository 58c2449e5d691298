-- The value of the key `syllables`: a state machine for each shaper that finds syllables.
use Rattle.std.specs.Prelude.{ℕ, List, [], codes, Result, Ok}
use Rattle.serde_json.specs.Data.{Data}
use Rattle.serde_json.specs.Find.{get}
use Rattle.shell_json.specs.declared.fault.JsonFault.{JsonFault}
use Rattle.shell_json.specs.Cell.{and_then}
use Rattle.shell_json.specs.Objects.{read_or, of_object}
use Rattle.shell_json.specs.Items.{row_of_two, row_of_three, natural_number_below}
use Rattle.script_categories.specs.Shapers.{categories_of, kinds_of}
use Rattle.script_categories.specs.declared.shaper.hb_ot_script_shaper_t.{hb_ot_script_shaper_t}
use Rattle.script_categories.specs.declared.shaper.hb_ot_script_shaper_t.TheVariants.{INDIC_SHAPER, KHMER_SHAPER, MYANMAR_SHAPER, UNIVERSAL_SHAPER}
use Rattle.script_categories.specs.declared.machine.Accept.{Accept}
use Rattle.script_categories.specs.declared.machine.Step.{Step}
use Rattle.script_categories.specs.Machines.{Machine, Machines}
use Rattle.shell_tables_json.specs.Rows.{rows_at, number_of_name}

-- ---- rows of a machine, by its number of states

-- [state, category, state]: a category leads from one state to another
abbrev pub step : hb_ot_script_shaper_t → ℕ → Data → Result Step JsonFault
step shaper states d =
    and_then (row_of_three (natural_number_below states) (number_of_name (categories_of shaper)) (natural_number_below states) d) (λ p.
    Ok (record { state = p.0; category = p.1.0; next = p.1.1 }))

-- [state, kind]: a syllable of a kind may end in a state
abbrev pub accept : hb_ot_script_shaper_t → ℕ → Data → Result Accept JsonFault
accept shaper states d =
    and_then (row_of_two (natural_number_below states) (number_of_name (kinds_of shaper)) d) (λ p. Ok (record { state = p.0; kind = p.1 }))

-- ---- keys

-- a machine without states
abbrev pub no_machine : Machine
no_machine = record { states = 0; next = []; accept = [] }

-- a number of 32 bits
abbrev pub state_count : Data → Result ℕ JsonFault
state_count d = natural_number_below 0x1_0000_0000 d

-- the keys of a machine in the order of their faults
abbrev pub machine_keys : hb_ot_script_shaper_t → Data → Result Machine JsonFault
machine_keys shaper d =
    and_then (read_or 0 state_count (get (codes "states") d)) (λ states.
    and_then (rows_at (codes "next") (λ r. r.state) (λ r. r.category) (step shaper states) d) (λ next.
    and_then (rows_at (codes "accept") (λ _. 0) (λ r. r.state) (accept shaper states) d) (λ accept.
    Ok (record { states = states; next = next; accept = accept }))))

-- the machine of a shaper, without states where its key is missing
abbrev pub machine_at : List ℕ → hb_ot_script_shaper_t → Data → Result Machine JsonFault
machine_at key shaper d = read_or no_machine (of_object (machine_keys shaper)) (get key d)

-- the machines in the order of their shapers' names
abbrev pub machines_keys : Data → Result Machines JsonFault
machines_keys d =
    and_then (machine_at (codes "indic") INDIC_SHAPER d) (λ indic.
    and_then (machine_at (codes "khmer") KHMER_SHAPER d) (λ khmer.
    and_then (machine_at (codes "myanmar") MYANMAR_SHAPER d) (λ myanmar.
    and_then (machine_at (codes "universal") UNIVERSAL_SHAPER d) (λ universal.
    Ok (record { indic = indic; khmer = khmer; myanmar = myanmar; universal = universal })))))

-- machines without states
abbrev pub no_machines : Machines
no_machines = record { indic = no_machine; khmer = no_machine; myanmar = no_machine; universal = no_machine }

-- the machines of the key's value
abbrev pub syllables_key : Data → Result Machines JsonFault
syllables_key d = read_or no_machines (of_object machines_keys) (get (codes "syllables") d)

-- the machines of a JSON value
abbrev pub syllables_of : Data → Result Machines JsonFault
syllables_of d = of_object syllables_key d

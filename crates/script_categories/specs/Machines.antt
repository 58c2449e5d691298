-- State machines that read the categories of characters, by their rows.
use Rattle.std.specs.Prelude.{ℕ, Bool, List, ◌==◌, ◌&&◌, nat_lt, length, find, Option, None, Some}
use Rattle.std.specs.Option.{option_map, option_or}
use Rattle.script_categories.specs.Shapers.{kinds_of}
use Rattle.script_categories.specs.declared.shaper.hb_ot_script_shaper_t.{hb_ot_script_shaper_t}
use Rattle.script_categories.specs.declared.shaper.hb_ot_script_shaper_t.TheVariants.{INDIC_SHAPER, KHMER_SHAPER, MYANMAR_SHAPER, UNIVERSAL_SHAPER}
use Rattle.script_categories.specs.declared.machine.Accept.{Accept}
use Rattle.script_categories.specs.declared.machine.Step.{Step}
use Rattle.script_categories.specs.declared.machine.SyllableMachine.{SyllableMachine}
use Rattle.script_categories.specs.declared.machine.SyllableMachines.{SyllableMachines}
use Rattle.buffer_unicode.specs.Keys.{row_fault}
use Rattle.buffer_unicode.specs.declared.fault.TablesFault.{TablesFault}

-- ---- machines as their rows, without the memory that their lists occupy

-- the rows of a machine
pub record Machine : Type 0 where
  -- the number of states
  pub states : ℕ
  pub next : List Step
  pub accept : List Accept

-- the machines of all shapers that find syllables
pub record Machines : Type 0 where
  pub indic : Machine
  pub khmer : Machine
  pub myanmar : Machine
  pub universal : Machine

-- a machine's rows, without the memory that their lists occupy
abbrev pub machine_in : SyllableMachine → Machine
machine_in m = record { states = m.states; next = m.next.items; accept = m.accept.items }

-- the rows of all machines, without the memory that their lists occupy
abbrev pub machines_in : SyllableMachines → Machines
machines_in ms = record {
  indic = machine_in ms.indic;
  khmer = machine_in ms.khmer;
  myanmar = machine_in ms.myanmar;
  universal = machine_in ms.universal;
}

-- ---- transitions

-- the state to which a category leads, if there is a transition
abbrev pub next_state : Machine → ℕ → ℕ → Option ℕ
next_state m state category =
    option_map (λ (step : Step). step.next) (find (λ (step : Step). step.state == state && step.category == category) m.next)

-- the kind of syllable that ends in a state, if it is accepting
abbrev pub accepted_kind : Machine → ℕ → Option ℕ
accepted_kind m state = option_map (λ (accept : Accept). accept.kind) (find (λ (accept : Accept). accept.state == state) m.accept)

-- the machine of a shaper, if it finds syllables
abbrev pub machine_of : Machines → hb_ot_script_shaper_t → Option Machine
machine_of ms INDIC_SHAPER = Some ms.indic
machine_of ms KHMER_SHAPER = Some ms.khmer
machine_of ms MYANMAR_SHAPER = Some ms.myanmar
machine_of ms UNIVERSAL_SHAPER = Some ms.universal
machine_of ms _ = None

-- both states of a transition are states of the machine
abbrev pub is_step_in_range : Machine → Step → Bool
is_step_in_range m step = nat_lt step.state m.states && nat_lt step.next m.states

-- an accepting state is a state of the machine, and its kind is one of the shaper's
abbrev pub is_accept_in_range : hb_ot_script_shaper_t → Machine → Accept → Bool
is_accept_in_range shaper m accept = nat_lt accept.state m.states && nat_lt accept.kind (length (kinds_of shaper))

-- the first fault of a machine's transitions
abbrev pub steps_fault : Machine → Option TablesFault
steps_fault m = row_fault (is_step_in_range m) (λ (step : Step). step.state) (λ (step : Step). step.category) None m.next

-- the first fault of a machine's accepting states
abbrev pub accepts_fault : hb_ot_script_shaper_t → Machine → Option TablesFault
accepts_fault shaper m = row_fault (is_accept_in_range shaper m) (λ _. 0) (λ (accept : Accept). accept.state) None m.accept

-- the first fault of a machine: of its transitions, then of its accepting states
abbrev pub machine_fault : hb_ot_script_shaper_t → Machine → Option TablesFault
machine_fault shaper m = option_or (steps_fault m) (accepts_fault shaper m)

-- the first fault of all machines, in the order of the shapers' names
abbrev pub machines_fault : Machines → Option TablesFault
machines_fault ms =
    option_or (option_or (option_or (machine_fault INDIC_SHAPER ms.indic) (machine_fault KHMER_SHAPER ms.khmer))
    (machine_fault MYANMAR_SHAPER ms.myanmar)) (machine_fault UNIVERSAL_SHAPER ms.universal)

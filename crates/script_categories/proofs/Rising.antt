-- Rows without a fault rise.
use Rattle.std.proofs.Common.{ℕ, ◌≡◌, Bool, true, List, [], ◌∷◌, Option, Some, None, refl}
use Rattle.std.proofs.lemmas.Bool.{and_from, cond_both}
use Rattle.std.specs.Option.{option_or}
use Rattle.script_categories.specs.declared.shaper.hb_ot_script_shaper_t.{hb_ot_script_shaper_t}
use Rattle.script_categories.specs.declared.shaper.hb_ot_script_shaper_t.TheVariants.{INDIC_SHAPER, KHMER_SHAPER, MYANMAR_SHAPER, UNIVERSAL_SHAPER}
use Rattle.script_categories.specs.Machines.{Machine, Machines, accepts_fault, is_accept_in_range, is_step_in_range, machine_fault, machines_fault, steps_fault}
use Rattle.script_categories.specs.Sound.{AreRising, IsRising}
use Rattle.script_categories.specs.declared.machine.Accept.{Accept}
use Rattle.script_categories.specs.declared.machine.Step.{Step}
use Rattle.buffer_unicode.specs.Keys.{follows, rises_after, row_fault}
use Rattle.buffer_unicode.specs.declared.fault.TablesFault.{TablesFault}
use Rattle.buffer_unicode.proofs.Faults.{rises_from}

-- of two faults neither is there
record AreNone (a b : Option TablesFault) : Type 0 where
  first : a ≡ None
  second : b ≡ None

both_none : (a b : Option TablesFault) → option_or a b ≡ None → AreNone a b
both_none None b e = record { first = refl; second = e }
both_none (Some x) b e = cc

rising : (shaper : hb_ot_script_shaper_t) (m : Machine) → machine_fault shaper m ≡ None → IsRising m
rising shaper m e =
    let none = both_none (steps_fault m) (accepts_fault shaper m) e in
    record {
      steps = rises_from (is_step_in_range m) (λ (step : Step). step.state) (λ (step : Step). step.category) None m.next none.first;
      accepts = rises_from (is_accept_in_range shaper m) (λ _. 0) (λ (accept : Accept). accept.state) None m.accept none.second;
    }

pub are_rising : (ms : Machines) → machines_fault ms ≡ None → AreRising ms
are_rising ms e =
    let indic = machine_fault INDIC_SHAPER ms.indic in
    let khmer = machine_fault KHMER_SHAPER ms.khmer in
    let myanmar = machine_fault MYANMAR_SHAPER ms.myanmar in
    let universal = machine_fault UNIVERSAL_SHAPER ms.universal in
    let four = both_none (option_or (option_or indic khmer) myanmar) universal e in
    let three = both_none (option_or indic khmer) myanmar four.first in
    let two = both_none indic khmer three.first in
    record {
      indic = rising INDIC_SHAPER ms.indic two.first;
      khmer = rising KHMER_SHAPER ms.khmer two.second;
      myanmar = rising MYANMAR_SHAPER ms.myanmar three.second;
      universal = rising UNIVERSAL_SHAPER ms.universal four.second;
    }

-- Steps of a charstring, one at a time.
use Rattle.std.proofs.Common.{◌≡◌, ◌≢◌, ℕ, zero, suc, ◌-◌, Bool, true, false, List, Result, Ok, Err, refl, arith}
use Rattle.font_bytes.specs.Results.{and_then}
use Rattle.font_bytes.specs.declared.fault.TableFault.{TableFault}
use Rattle.font_bytes.specs.declared.fault.TableFault.TheVariants.{TooLarge}
use Rattle.font_charstrings.specs.declared.machine.Context.{Context}
use Rattle.font_charstrings.specs.Machine.{State, step, runs}

-- one more step
pub runs_next : (table : List ℕ) (context : Context) (room : ℕ) (s : State) → room ≢ 0 → s.run.is_done ≡ false → runs table context room s ≡ and_then (step table context s) (runs table context (room - 1))
unfolding runs
runs_next table context zero s some going = absurd (some refl)
runs_next table context (suc room) s some going = let e : suc room - 1 ≡ room = omega arith in rw (going, e) refl

-- the end
pub runs_done : (table : List ℕ) (context : Context) (room : ℕ) (s : State) → s.run.is_done ≡ true → runs table context room s ≡ Ok (s, room)
unfolding runs
runs_done table context zero s ended = rw ended refl
runs_done table context (suc room) s ended = rw ended refl

-- no room
pub runs_short : (table : List ℕ) (context : Context) (room : ℕ) (s : State) → room ≡ 0 → s.run.is_done ≡ false → runs table context room s ≡ Err TooLarge
unfolding runs
runs_short table context zero s none going = rw going refl
runs_short table context (suc room) s none going = absurd (omega arith)

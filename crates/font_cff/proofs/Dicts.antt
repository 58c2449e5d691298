-- DICTs, one step at a time.
use Rattle.std.proofs.Common.{◌≡◌, ◌≢◌, ℕ, zero, suc, ◌-◌, ◌<◌, ◌≤◌, nat_le, true, false, List, Result, Ok, Err, refl, arith}
use Rattle.std.proofs.lemmas.Bool.Decides.{nat_tests}
use Rattle.font_bytes.specs.Results.{and_then}
use Rattle.font_cff.specs.declared.dict.DictState.{DictState}
use Rattle.font_cff.specs.Dict.{dict_step, dict_runs}

-- one more step
pub dict_next : (table : List ℕ) (end n : ℕ) (s : DictState) → n ≢ 0 → s.at < end → dict_runs table end n s ≡ and_then (dict_step table s) (dict_runs table end (n - 1))
unfolding dict_runs
dict_next table end zero s some inside = absurd (some refl)
dict_next table end (suc n) s some inside = let e : suc n - 1 ≡ n = omega arith in let t : nat_le end s.at ≡ false = grind (arith, nat_tests) in rw (t, e) refl

-- no step is left
pub dict_full : (table : List ℕ) (end n : ℕ) (s : DictState) → n ≡ 0 → dict_runs table end n s ≡ Ok s.dict
unfolding dict_runs
dict_full table end zero s none = refl
dict_full table end (suc n) s none = absurd (omega arith)

-- no byte is left
pub dict_end : (table : List ℕ) (end n : ℕ) (s : DictState) → end ≤ s.at → dict_runs table end n s ≡ Ok s.dict
unfolding dict_runs
dict_end table end zero s past = refl
dict_end table end (suc n) s past = let t : nat_le end s.at ≡ true = grind (arith, nat_tests) in rw t refl

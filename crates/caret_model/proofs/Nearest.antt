-- The nearest caret to a position, caret by caret.
use Rattle.std.proofs.Common.{ℕ, ℤ, ◌≡◌, ◌≤◌, ◌<◌, ◌+◌, true, false, nat_lt, List, length, arith, sym, subst}
use Rattle.std.specs.Prelude.{slice_index_or}
use Rattle.std.specs.Cmp.{IsStrictWeakOrder}
use Rattle.std.specs.List.{IsFirstBest}
use Rattle.std.proofs.lemmas.Bool.Decides.{nat_tests}
use Rattle.std.proofs.lemmas.List.{get_or_default}
use Rattle.std.proofs.lemmas.List.MinMax.{IsFirstBest-keeps, IsFirstBest-takes, IsStrictWeakOrder-by_number}
use Rattle.caret_model.specs.declared.carets.Caret.{Caret}
use Rattle.caret_model.specs.Moves.{distance, is_nearer}
use Rattle.buffer_facts.proofs.Numbers.{test_of_less as under, test_of_not_less as not_under}

order : (position : ℤ) → IsStrictWeakOrder (is_nearer position)
order position = IsStrictWeakOrder-by_number (distance position)

-- a caret that is nearer than the best one so far is the best one with it
pub nearer_is_best : (position : ℤ) (cs : List Caret) (i b new : ℕ) (d : Caret) (m n : ℕ) → IsFirstBest (is_nearer position) cs i b → i < length cs → m ≡ distance position (slice_index_or cs i d) → n ≡ distance position (slice_index_or cs b d) → m < n → new ≡ i
    → IsFirstBest (is_nearer position) cs (i + 1) new
nearer_is_best position cs i b new d m n best within here there less same =
    let x = slice_index_or cs i d in
    let y = slice_index_or cs b d in
    let before = best.0 in
    let nearer : is_nearer position x y ≡ true = under (distance position x) (distance position y) (omega (arith, here, there, less)) in
    let P : ℕ → Type 0 = λ k. IsFirstBest (is_nearer position) cs (i + 1) k in
    subst P (sym same) (IsFirstBest-takes (order position) cs i b x y best within (get_or_default cs i d x within) (get_or_default cs b d y (omega (arith, before, within))) nearer)

-- else the best one so far still is
pub best_is_kept : (position : ℤ) (cs : List Caret) (i b new : ℕ) (d : Caret) (m n : ℕ) → IsFirstBest (is_nearer position) cs i b → i < length cs → m ≡ distance position (slice_index_or cs i d) → n ≡ distance position (slice_index_or cs b d) → n ≤ m → new ≡ b
    → IsFirstBest (is_nearer position) cs (i + 1) new
best_is_kept position cs i b new d m n best within here there le same =
    let x = slice_index_or cs i d in
    let y = slice_index_or cs b d in
    let before = best.0 in
    let farther : is_nearer position x y ≡ false = not_under (distance position x) (distance position y) (omega (arith, here, there, le)) in
    let P : ℕ → Type 0 = λ k. IsFirstBest (is_nearer position) cs (i + 1) k in
    subst P (sym same) (IsFirstBest-keeps (order position) cs i b x y best within (get_or_default cs i d x within) (get_or_default cs b d y (omega (arith, before, within))) farther)

-- The closest caret to a byte, caret by caret.
use Rattle.std.proofs.Common.{ℕ, ◌≡◌, ◌<◌, ◌+◌, ◌&&◌, Bool, true, false, List, [], ◌∷◌, ◌++◌, length, take, arith, refl, sym, subst, ◌∙◌}
use Rattle.std.specs.Prelude.{Option, Some, None, slice_index_or}
use Rattle.std.proofs.lemmas.Bool.Decides.{nat_tests}
use Rattle.std.proofs.lemmas.List.{take_more}
use Rattle.std.proofs.lemmas.List.Elements.{All-push, All-weaker, Contains-append_left, Contains-push}
use Rattle.caret_model.specs.declared.carets.Caret.{Caret}
use Rattle.caret_model.specs.Closer.{is_closer, is_past}
use Rattle.caret_model.specs.Moves.{IsClosest, IsPast}
use Rattle.caret_model.proofs.Orders.{past_along, past_not_itself}

is_past_if : (back : Bool) (m n : ℕ) → is_past back m n ≡ true → IsPast back m n
is_past_if false m n e = grind (arith, nat_tests, e)
is_past_if true m n e = grind (arith, nat_tests, e)

past_if_not : (back : Bool) (m n : ℕ) → is_past back m n ≡ false → ¬ IsPast back m n
past_if_not false m n e h = grind (arith, nat_tests, e, h)
past_if_not true m n e h = grind (arith, nat_tests, e, h)

-- no caret is between a byte and a caret
abbrev IsBefore : Bool → ℕ → Caret → Caret → Type 0
IsBefore back byte c d = IsPast back byte d.byte → ¬ IsPast back d.byte c.byte

-- a caret that is closer than the best one so far is the best one with it
pub closer_is_best : (back : Bool) (byte : ℕ) (cs : List Caret) (best : Option Caret) (c : Caret) → IsClosest back byte cs best → is_closer back byte best c ≡ true → IsClosest back byte (cs ++ c ∷ []) (Some c)
closer_is_best back byte cs None c none closer =
    let past = is_past_if back byte c.byte closer in
    (Contains-push cs c, past, All-push (IsBefore back byte c) cs c (All-weaker (λ d. ¬ IsPast back byte d.byte) (IsBefore back byte c) (λ d other is. absurd (other is)) cs none) (λ _. past_not_itself back c.byte))
closer_is_best back byte cs (Some b) c is closer = by_tests (is_past back byte c.byte) (is_past back c.byte b.byte) refl refl closer
  where
    by_tests : (s t : Bool) → is_past back byte c.byte ≡ s → is_past back c.byte b.byte ≡ t → (s && t) ≡ true → IsClosest back byte (cs ++ c ∷ []) (Some c)
    by_tests false t e f both = cc
    by_tests true false e f both = cc
    by_tests true true e f both =
        let past = is_past_if back byte c.byte e in
        let before = is_past_if back c.byte b.byte f in
        (Contains-push cs c, past, All-push (IsBefore back byte c) cs c (All-weaker (IsBefore back byte b) (IsBefore back byte c) (λ d first p q. first p (past_along back d.byte c.byte b.byte q before)) cs is.2) (λ _. past_not_itself back c.byte))

-- else the best one so far still is
pub best_stays : (back : Bool) (byte : ℕ) (cs : List Caret) (best : Option Caret) (c : Caret) → IsClosest back byte cs best → is_closer back byte best c ≡ false → IsClosest back byte (cs ++ c ∷ []) best
best_stays back byte cs None c none closer = All-push (λ d. ¬ IsPast back byte d.byte) cs c none (past_if_not back byte c.byte closer)
best_stays back byte cs (Some b) c is closer = (Contains-append_left cs (c ∷ []) b is.0, is.1, All-push (IsBefore back byte b) cs c is.2 (by_tests (is_past back byte c.byte) (is_past back c.byte b.byte) refl refl closer))
  where
    by_tests : (s t : Bool) → is_past back byte c.byte ≡ s → is_past back c.byte b.byte ≡ t → (s && t) ≡ false → IsBefore back byte b c
    by_tests false t e f both = λ past. absurd (past_if_not back byte c.byte e past)
    by_tests true false e f both = λ _. past_if_not back c.byte b.byte f
    by_tests true true e f both = cc

-- ---- the caret at an index

pub closer_taken : (back : Bool) (byte : ℕ) (cs : List Caret) (i : ℕ) (d : Caret) (best new : Option Caret) (closer : Bool) → i < length cs → IsClosest back byte (take i cs) best → closer ≡ is_closer back byte best (slice_index_or cs i d) → closer ≡ true
    → new ≡ Some (slice_index_or cs i d) → IsClosest back byte (take (i + 1) cs) new
closer_taken back byte cs i d best new closer within is test taken same =
    let P : List Caret → Type 0 = λ ds. IsClosest back byte ds new in
    let Q : Option Caret → Type 0 = λ o. IsClosest back byte (take i cs ++ slice_index_or cs i d ∷ []) o in
    subst P (sym (take_more cs i d within)) (subst Q (sym same) (closer_is_best back byte (take i cs) best (slice_index_or cs i d) is (sym test ∙ taken)))

pub best_kept : (back : Bool) (byte : ℕ) (cs : List Caret) (i : ℕ) (d : Caret) (best new : Option Caret) (closer : Bool) → i < length cs → IsClosest back byte (take i cs) best → closer ≡ is_closer back byte best (slice_index_or cs i d) → closer ≡ false
    → new ≡ best → IsClosest back byte (take (i + 1) cs) new
best_kept back byte cs i d best new closer within is test other same =
    let P : List Caret → Type 0 = λ ds. IsClosest back byte ds new in
    let Q : Option Caret → Type 0 = λ o. IsClosest back byte (take i cs ++ slice_index_or cs i d ∷ []) o in
    subst P (sym (take_more cs i d within)) (subst Q (sym same) (best_stays back byte (take i cs) best (slice_index_or cs i d) is (sym test ∙ other)))

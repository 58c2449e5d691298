-- Selections side by side are the selection of the whole.
use Rattle.std.proofs.Common.{ℕ, ◌≡◌, Bool, true, false, nat_lt, if◌then◌else◌, arith, refl, subst}
use Rattle.std.specs.Prelude.{Option, Some, None}
use Rattle.std.proofs.lemmas.Bool.Decides.{nat_tests}
use Rattle.caret_model.specs.declared.carets.Caret.{Caret}
use Rattle.caret_model.specs.declared.carets.Selection.{Selection}
use Rattle.caret_model.specs.Laws.{SelectionsJoin}
use Rattle.caret_model.specs.Moves.{caret_at}
use Rattle.caret_model.specs.Selections.{AreSideBySide, selection_between, selection_by, selections_joined}

-- what two selections in turn are
abbrev JoinAs : Bool → Option Selection → Selection → Selection → Type 0
JoinAs backward whole s t = AreSideBySide backward s t × (whole ≡ Some (selections_joined backward s t))

between_join : (backward : Bool) (c d e : Caret) → JoinAs backward (Some (selection_between backward c e)) (selection_between backward c d) (selection_between backward d e)
between_join false c d e = (refl, refl)
between_join true c d e = (refl, refl)

by_carets : (backward : Bool) (x y z : Option Caret) (s t : Selection) → selection_by backward x y ≡ Some s → selection_by backward y z ≡ Some t → JoinAs backward (selection_by backward x z) s t
by_carets backward (Some c) (Some d) (Some e) s t first second =
    let left : selection_between backward c d ≡ s = cc in
    let right : selection_between backward d e ≡ t = cc in
    let P : Selection → Type 0 = λ u. JoinAs backward (Some (selection_between backward c e)) u t in
    let Q : Selection → Type 0 = λ u. JoinAs backward (Some (selection_between backward c e)) (selection_between backward c d) u in
    subst P left (subst Q right (between_join backward c d e))
by_carets backward None y z s t first second = cc
by_carets backward (Some c) None z s t first second = cc
by_carets backward (Some c) (Some d) None s t first second = cc

by_order : (b1 b2 b3 backward : Bool) (x y z : Option Caret) (s t : Selection) → (b1 ≡ false → b2 ≡ false → b3 ≡ false) → (if b1 then None else selection_by backward x y) ≡ Some s → (if b2 then None else selection_by backward y z) ≡ Some t
    → JoinAs backward (if b3 then None else selection_by backward x z) s t
by_order true b2 b3 backward x y z s t order first second = cc
by_order false true b3 backward x y z s t order first second = cc
by_order false false true backward x y z s t order first second = let no : true ≡ false = order refl refl in cc
by_order false false false backward x y z s t order first second = by_carets backward x y z s t first second

in_turn : (from mid to : ℕ) → nat_lt mid from ≡ false → nat_lt to mid ≡ false → nat_lt to from ≡ false
in_turn from mid to first second = grind (arith, nat_tests, first, second)

pub selections_join : SelectionsJoin
selections_join l from mid to s t first second = by_order (nat_lt mid from) (nat_lt to mid) (nat_lt to from) l.backward (caret_at l.carets from) (caret_at l.carets mid) (caret_at l.carets to) s t (in_turn from mid to) first second

-- Tables of an array of offsets, one at a time.
use Rattle.std.proofs.Common.{◌≡◌, ℕ, List, [], ◌∷◌, ◌++◌, Result, Ok, Err, refl, sym, ap, append_assoc}
use Rattle.font_bytes.specs.declared.fault.TableFault.{TableFault}
use Rattle.font_common.specs.Offsets.{after, tables_in}

-- after some and then after others
pub after_after : {A : Type 0} (xs ys : List A) (rest : Result (List A × ℕ) TableFault) → after xs (after ys rest) ≡ after (xs ++ ys) rest
after_after xs ys (Ok r) = ap (λ zs. Ok (zs, r.1)) (sym (append_assoc xs ys r.0))
after_after xs ys (Err e) = refl

-- after none
pub after_none : {A : Type 0} (rest : Result (List A × ℕ) TableFault) → after [] rest ≡ rest
after_none (Ok r) = refl
after_none (Err e) = refl

-- one more table is read
pub table_done : {A : Type 0} (read : ℕ → ℕ → Result (A × ℕ) TableFault) (done : List A) (room left o : ℕ) (os : List ℕ) (a : A) → read room o ≡ Ok (a, left)
    → after done (tables_in read room (o ∷ os)) ≡ after (done ++ a ∷ []) (tables_in read left os)
table_done read done room left o os a h = rw h (after_after done (a ∷ []) (tables_in read left os))

-- a table is refused
pub table_refused : {A : Type 0} (read : ℕ → ℕ → Result (A × ℕ) TableFault) (done : List A) (room o : ℕ) (os : List ℕ) (e : TableFault) → read room o ≡ Err e
    → after done (tables_in read room (o ∷ os)) ≡ Err e
table_refused read done room o os e h = rw h refl

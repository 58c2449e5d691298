-- Records that are kept where their keys rise.
use Rattle.std.proofs.Common.{◌≡◌, ℕ, ◌&&◌, Bool, true, false, if◌then◌else◌, List, [], ◌∷◌, ◌++◌, Option, Some, None, refl, ap, ◌∙◌, sym, append_assoc}
use Rattle.std.specs.declared.cmp.Ordering.{Ordering}
use Rattle.buffer_rows.specs.Keys.{is_above, is_rising}
use Rattle.font_common.specs.Rows.{first_rows}

-- a record that is kept
pub kept_one : {R K : Type 0} (order : K → K → Ordering) (key : R → K) (before : Option K) (r : R) (rows done all : List R) → is_above order before (key r) ≡ true
    → done ++ first_rows order key before (r ∷ rows) ≡ all → (done ++ r ∷ []) ++ first_rows order key (Some (key r)) rows ≡ all
kept_one order key before r rows done all above h =
    append_assoc done (r ∷ []) (first_rows order key (Some (key r)) rows)
    ∙ (ap (λ b. done ++ (if b then r ∷ first_rows order key (Some (key r)) rows else first_rows order key before rows)) (sym above) ∙ h)

-- a record that is not kept
pub left_out : {R K : Type 0} (order : K → K → Ordering) (key : R → K) (before : Option K) (r : R) (rows done all : List R) → is_above order before (key r) ≡ false
    → done ++ first_rows order key before (r ∷ rows) ≡ all → done ++ first_rows order key before rows ≡ all
left_out order key before r rows done all above h =
    ap (λ b. done ++ (if b then r ∷ first_rows order key (Some (key r)) rows else first_rows order key before rows)) (sym above) ∙ h

-- the first record is kept or not, and what is kept after it rises
either : {R K : Type 0} (order : K → K → Ordering) (key : R → K) (before : Option K) (r : R) (rows : List R) (b : Bool) → is_above order before (key r) ≡ b
    → is_rising order key (Some (key r)) (first_rows order key (Some (key r)) rows) ≡ true → is_rising order key before (first_rows order key before rows) ≡ true
    → is_rising order key before (if b then r ∷ first_rows order key (Some (key r)) rows else first_rows order key before rows) ≡ true
either order key before r rows true above kept other = ap (λ b. b && is_rising order key (Some (key r)) (first_rows order key (Some (key r)) rows)) above ∙ kept
either order key before r rows false above kept other = other

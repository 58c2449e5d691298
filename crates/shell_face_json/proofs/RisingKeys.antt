-- Rows whose keys follow one another rise.
use Rattle.std.proofs.Common.{◌≡◌, ◌&&◌, true, List, [], ◌∷◌, Option, Some, refl, ap}
use Rattle.std.specs.declared.cmp.Ordering.{Ordering}
use Rattle.shell_json.specs.Rows.{all_follow}
use Rattle.buffer_rows.specs.Keys.{is_above, is_rising}

same_order : {R K : Type 0} (order : K → K → Ordering) (key : R → K) (before : Option K) (rows : List R)
    → is_rising order key before rows ≡ all_follow (is_above order) key before rows
same_order order key before [] = refl
same_order order key before (r ∷ rows) = ap (λ b. is_above order before (key r) && b) (same_order order key (Some (key r)) rows)

pub keys_rise : {R K : Type 0} (order : K → K → Ordering) (key : R → K) (before : Option K) (rows : List R)
    → all_follow (is_above order) key before rows ≡ true → is_rising order key before rows ≡ true
keys_rise order key before rows e = rw (same_order order key before rows) e

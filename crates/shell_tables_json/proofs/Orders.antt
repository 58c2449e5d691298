-- Rows that follow one another rise by their keys.
use Rattle.std.proofs.Common.{◌≡◌, ℕ, ◌&&◌, true, List, [], ◌∷◌, Option, Some, refl, ap}
use Rattle.shell_json.specs.Rows.{all_follow}
use Rattle.buffer_unicode.specs.Keys.{follows, rises_after}

same_order : {R : Type 0} (high low : R → ℕ) (before : Option R) (rows : List R) → rises_after high low before rows ≡ all_follow (follows high low) (λ r. r) before rows
same_order high low before [] = refl
same_order high low before (r ∷ rows) = ap (λ b. follows high low before r && b) (same_order high low (Some r) rows)

pub rows_rise : {R : Type 0} (high low : R → ℕ) (before : Option R) (rows : List R) → all_follow (follows high low) (λ r. r) before rows ≡ true → rises_after high low before rows ≡ true
rows_rise high low before rows e = rw (same_order high low before rows) e

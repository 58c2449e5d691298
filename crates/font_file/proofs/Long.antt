-- Long metrics are within their table.
use Rattle.std.proofs.Common.{◌≡◌, ℕ, ◌*◌, ◌/◌, ◌≤◌, List, length, Ok, arith}
use Rattle.std.specs.Prelude.{Option, Some, None, min}
use Rattle.font_bytes.specs.Words.{need, word}
use Rattle.font_bytes.proofs.Inverted.{chain_ok}
use Rattle.font_metrics.specs.Advances.{long_metrics}
use Rattle.font_file.specs.Advances.{bytes_or_none}

-- as many as a table has are within it
pub long_fits : (header table : Option (List ℕ)) (long : ℕ) → long_metrics header table ≡ Ok long → 4 * long ≤ length (bytes_or_none table)
long_fits None table long e = let none : long ≡ 0 = cc in rw none (omega arith)
long_fits (Some h) None long e = let none : long ≡ 0 = cc in rw none (omega arith)
long_fits (Some h) (Some t) long e =
    let found = chain_ok (need h 0 36) (λ _. Ok (min (word h 34) (length t / 4))) long e in
    let is : min (word h 34) (length t / 4) ≡ long = cc in
    rw (← is) (omega arith)

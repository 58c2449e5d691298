-- Bytes of ASCII are their own UTF-8.
use Rattle.std.proofs.Common.{◌≡◌, ℕ, suc, ◌<◌, true, ltb, List, [], ◌∷◌, refl, arith}
use Rattle.std.specs.List.{flat_map}
use Rattle.std.specs.Char.{encode_utf8}
use Rattle.std.specs.Str.{IsAscii, IsUtf8}
use Rattle.std.proofs.lemmas.Str.{IsUtf8-from_ascii}
use Rattle.std.proofs.lemmas.Bool.Decides.{nat_tests}

pub ascii_is_utf8 : (bs : List ℕ) → IsAscii bs → IsUtf8 bs
ascii_is_utf8 bs h = IsUtf8-from_ascii bs h

pub plain : (bs : List ℕ) → IsAscii bs → flat_map encode_utf8 bs ≡ bs
unfolding encode_utf8
plain [] h = refl
plain (b ∷ bs) h =
    let first : b < 128 = h 0 in
    let low : ltb b 128 ≡ true = grind (arith, nat_tests, first) in
    rw (low, plain bs (λ i. h (suc i))) refl

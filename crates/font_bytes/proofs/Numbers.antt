-- Numbers of the bytes from an offset on.
use Rattle.std.proofs.Common.{◌≡◌, ℕ, ◌+◌, List, drop, slice_index, refl, arith}
use Rattle.std.proofs.lemmas.List.{get_or-drop}
use Rattle.byteorder.specs.Endian.{big_number}
use Rattle.font_bytes.specs.Words.{word, long}

-- the byte at an index of those from an offset on
byte_of_rest : (bytes : List ℕ) (at i j : ℕ) → at + i ≡ j → slice_index (drop at bytes) i ≡ slice_index bytes j
byte_of_rest bytes at i j e = rw e at (get_or-drop at bytes i 0)

-- the first two bytes of those from an offset on
pub word_of_rest : (bytes : List ℕ) (at : ℕ) → big_number 2 (drop at bytes) ≡ word bytes at
unfolding word
word_of_rest bytes at =
    let first = byte_of_rest bytes at 0 at (omega arith) in
    let second = byte_of_rest bytes at 1 (at + 1) refl in
    grind (arith, first, second)

-- the first four bytes of those from an offset on
pub long_of_rest : (bytes : List ℕ) (at : ℕ) → big_number 4 (drop at bytes) ≡ long bytes at
unfolding word long
long_of_rest bytes at =
    let first = byte_of_rest bytes at 0 at (omega arith) in
    let second = byte_of_rest bytes at 1 (at + 1) refl in
    let third = byte_of_rest bytes at 2 (at + 2) refl in
    let fourth = byte_of_rest bytes at 3 (at + 2 + 1) (omega arith) in
    grind (arith, first, second, third, fourth)

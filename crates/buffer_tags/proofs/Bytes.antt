-- Which bytes are of which kinds.
use Rattle.std.proofs.Common.{◌≡◌, ℕ, ◌==◌, true, false, arith}
use Rattle.std.proofs.lemmas.Bool.Decides.{nat_tests}
use Rattle.std.specs.Char.{is_ascii_digit, is_ascii_alphabetic, is_ascii_whitespace, to_ascii_lowercase}
use Rattle.buffer_tags.specs.TextParser.{is_quote, is_tag_byte}

-- a byte that a tag, a number or a word begins with, and none of the others
pub record IsPlain (byte : ℕ) : Type 0 where
  pub space : is_ascii_whitespace byte ≡ false
  pub minus : (byte == 45) ≡ false
  pub plus : (byte == 43) ≡ false
  pub equal : (byte == 61) ≡ false
  pub bracket : (byte == 91) ≡ false

pub tag_byte_is_plain : (c : ℕ) → is_tag_byte c ≡ true → IsPlain c
tag_byte_is_plain c e = record {
  space = grind (arith, nat_tests);
  minus = grind (arith, nat_tests);
  plus = grind (arith, nat_tests);
  equal = grind (arith, nat_tests);
  bracket = grind (arith, nat_tests);
}

pub tag_byte-quote : (c : ℕ) → is_tag_byte c ≡ true → is_quote c ≡ false
tag_byte-quote c e = grind (arith, nat_tests)

pub quote_is_plain : (c : ℕ) → is_quote c ≡ true → IsPlain c
quote_is_plain c e = record {
  space = grind (arith, nat_tests);
  minus = grind (arith, nat_tests);
  plus = grind (arith, nat_tests);
  equal = grind (arith, nat_tests);
  bracket = grind (arith, nat_tests);
}

pub quote-tag_byte : (c : ℕ) → is_quote c ≡ true → is_tag_byte c ≡ false
quote-tag_byte c e = grind (arith, nat_tests)

pub digit_is_plain : (c : ℕ) → is_ascii_digit c ≡ true → IsPlain c
digit_is_plain c e = record {
  space = grind (arith, nat_tests);
  minus = grind (arith, nat_tests);
  plus = grind (arith, nat_tests);
  equal = grind (arith, nat_tests);
  bracket = grind (arith, nat_tests);
}

pub space-digit : (c : ℕ) → is_ascii_whitespace c ≡ true → is_ascii_digit c ≡ false
space-digit c e = grind (arith, nat_tests)

pub space-letter : (c : ℕ) → is_ascii_whitespace c ≡ true → is_ascii_alphabetic c ≡ false
space-letter c e = grind (arith, nat_tests)

-- a letter by the small letter that it is written for
pub letter : (c small : ℕ) → to_ascii_lowercase c ≡ small → is_ascii_alphabetic small ≡ true → is_ascii_alphabetic c ≡ true
letter c small e l = grind (arith, nat_tests)

pub letter_is_plain : (c : ℕ) → is_ascii_alphabetic c ≡ true → IsPlain c
letter_is_plain c e = record {
  space = grind (arith, nat_tests);
  minus = grind (arith, nat_tests);
  plus = grind (arith, nat_tests);
  equal = grind (arith, nat_tests);
  bracket = grind (arith, nat_tests);
}

pub letter-digit : (c : ℕ) → is_ascii_alphabetic c ≡ true → is_ascii_digit c ≡ false
letter-digit c e = grind (arith, nat_tests)

-- The characters of a text, one after another.
use Rattle.std.proofs.Common.{ℕ, ◌≡◌, ◌≤◌, ◌+◌, ◌&&◌, true, nat_le, IsTrue, List, [], ◌∷◌, ◌++◌, length, refl, sym, arith, ap, suc}
use Rattle.std.specs.Prelude.{encode_utf8, encode_utf8_all}
use Rattle.std.proofs.lemmas.List.{length-append}
use Rattle.std.specs.Str.{chars, IsUtf8}
use Rattle.std.proofs.lemmas.Str.{chars-nil, chars_past_char, IsUtf8-past_char, encodes-chars, length-encode}
use Rattle.std.proofs.lemmas.Grind.{common_steps}
use Rattle.std.proofs.lemmas.Bool.Decides.{nat_tests}
use Rattle.std.specs.Char.{len_utf8}
use Rattle.buffer_core.specs.Text.{added_glyph, added_text_from, added_text, offsets_fit}

empty : (bs : List ℕ) → length bs ≡ 0 → bs ≡ []
empty [] e = refl
empty (b ∷ bs) e = cc

pub utf8_step : (bs rest : List ℕ) (c : ℕ) → IsUtf8 bs → bs ≡ encode_utf8 c ++ rest → IsUtf8 rest
utf8_step bs rest c u e = IsUtf8-past_char bs rest c u e

pub offsets_fit_none : (at : ℕ) (bs : List ℕ) → length bs ≡ 0 → offsets_fit at (chars bs) ≡ true
offsets_fit_none at bs e = let nil : bs ≡ [] = empty bs e in rw (nil, chars-nil) refl

pub offsets_fit_step : (at next : ℕ) (bs rest : List ℕ) (c : ℕ) → IsUtf8 bs → bs ≡ encode_utf8 c ++ rest → next ≡ at + length (encode_utf8 c)
    → offsets_fit at (chars bs) ≡ (nat_le at 0xFFFF_FFFF && offsets_fit next (chars rest))
offsets_fit_step at next bs rest c u e n = rw (chars_past_char bs rest c u e, n, length-encode) refl

-- the characters of so many bytes begin where 32 bits can tell
short_from : (at : ℕ) (cs : List ℕ) → at + length (encode_utf8_all cs) ≤ 0xFFFF_FFFF → offsets_fit at cs ≡ true
short_from at [] le = refl
short_from at (c ∷ cs) le =
    let both : length (encode_utf8_all (c ∷ cs)) ≡ length (encode_utf8 c) + length (encode_utf8_all cs) = length-append (encode_utf8 c) (encode_utf8_all cs) in
    let own : length (encode_utf8 c) ≡ len_utf8 c = length-encode c in
    let here : nat_le at 0xFFFF_FFFF ≡ true = grind (arith, nat_tests, le) in
    rw (here, short_from (at + len_utf8 c) cs (omega (arith, both, own, le))) refl

pub short_text_fits : (bs : List ℕ) → IsUtf8 bs → length bs ≤ 0xFFFF_FFFF → true ≡ offsets_fit 0 (chars bs)
short_text_fits bs u le = sym (short_from 0 (chars bs) (omega (arith, ap length (encodes-chars bs u), le)))

pub added_none : (at : ℕ) (bs : List ℕ) → length bs ≡ 0 → added_text_from at (chars bs) ≡ []
added_none at bs e = let nil : bs ≡ [] = empty bs e in rw (nil, chars-nil) refl

pub added_step : (at next : ℕ) (bs rest : List ℕ) (c : ℕ) → IsUtf8 bs → bs ≡ encode_utf8 c ++ rest → next ≡ at + length (encode_utf8 c)
    → added_text_from at (chars bs) ≡ added_glyph c at ∷ added_text_from next (chars rest)
added_step at next bs rest c u e n = rw (chars_past_char bs rest c u e, n, length-encode) refl

pub count_step : (bs rest : List ℕ) (c : ℕ) → IsUtf8 bs → bs ≡ encode_utf8 c ++ rest → length (chars bs) ≡ length (chars rest) + 1
count_step bs rest c u e = rw (chars_past_char bs rest c u e) (omega arith)

-- the character at the front begins where 32 bits can tell, and so do those behind it
pub fit_step : (at next : ℕ) (bs rest : List ℕ) (c : ℕ) → IsUtf8 bs → bs ≡ encode_utf8 c ++ rest → next ≡ at + length (encode_utf8 c)
    → IsTrue (offsets_fit at (chars bs)) → (at ≤ 0xFFFF_FFFF) × IsTrue (offsets_fit next (chars rest))
fit_step at next bs rest c u e n h =
    let here : (nat_le at 0xFFFF_FFFF && offsets_fit next (chars rest)) ≡ true = rw (offsets_fit_step at next bs rest c u e n) at h in
    (grind (arith, nat_tests, here), grind (arith, nat_tests, common_steps, here))

length_from : (at : ℕ) (cs : List ℕ) → length (added_text_from at cs) ≡ length cs
length_from at [] = refl
length_from at (c ∷ cs) = ap suc (length_from (at + len_utf8 c) cs)

-- as many glyphs as characters
pub length_added : (text : List ℕ) → length (added_text text) ≡ length (chars text)
length_added text = length_from 0 (chars text)

-- The starts of characters are the indices at which a text may be cut, but for its end.
use Rattle.std.proofs.Common.{ℕ, ◌≡◌, ◌≤◌, ◌<◌, ◌+◌, ◌-◌, ◌==◌, ◌||◌, ◌&&◌, inl, inr, nat_lt, Bool, true, false, List, [], ◌∷◌, ◌++◌, length, take, drop, arith, refl, sym, ap, subst, ◌∙◌}
use Rattle.std.specs.Prelude.{IsTrue}
use Rattle.std.specs.Char.{len_utf8}
use Rattle.std.specs.Str.{IsCharBoundary, IsUtf8, chars}
use Rattle.std.proofs.lemmas.Bool.{and_parts}
use Rattle.std.proofs.lemmas.Bool.Decides.{nat_tests}
use Rattle.std.proofs.lemmas.Grind.{common_steps}
use Rattle.std.proofs.lemmas.List.{length-append, length-drop, length-take-le, take-append-drop}
use Rattle.std.proofs.lemmas.Str.{IsCharBoundary-at_seam, IsUtf8-drop, IsUtf8-take, chars-append, encodes-append, encodes-chars, len_utf8_bounds, length-encode, scalars-chars}
use Rattle.buffer_glyphs.specs.Order.{has_number}
use Rattle.buffer_glyphs.specs.Lemmas.Numbers.{Has, has_cases, has_here, has_more}
use Rattle.buffer_core.specs.Text.{offsets_from}
use Rattle.shape_slices.specs.Fitting.{character_starts}
use lib.Utf8.{encode, encodes, scalars}

-- how many bytes some characters have
abbrev pub size_of : List ℕ → ℕ
size_of [] = 0
size_of (c ∷ cs) = len_utf8 c + size_of cs

size_is : (cs : List ℕ) → length (encodes cs) ≡ size_of cs
size_is [] = refl
size_is (c ∷ cs) = length-append (encode c) (encodes cs) ∙ ap (λ n. n + length (encodes cs)) (length-encode c) ∙ ap (λ n. len_utf8 c + n) (size_is cs)

-- the character after others begins after their bytes
start_there : (at : ℕ) (cs : List ℕ) (c : ℕ) (ds : List ℕ) → Has (offsets_from at (cs ++ c ∷ ds)) (at + size_of cs)
start_there at [] c ds = subst (Has (offsets_from at (c ∷ ds))) (omega arith) (has_here at (offsets_from (at + len_utf8 c) ds))
start_there at (b ∷ cs) c ds =
    has_more at (at + (len_utf8 b + size_of cs)) (offsets_from (at + len_utf8 b) (cs ++ c ∷ ds))
    (subst (Has (offsets_from (at + len_utf8 b) (cs ++ c ∷ ds))) (omega arith) (start_there (at + len_utf8 b) cs c ds))

-- a start is where the characters before it end
pub record StartsAfter (at n : ℕ) (cs : List ℕ) : Type 0 where
  pub front : List ℕ
  pub first : ℕ
  pub back : List ℕ
  pub cut : cs ≡ front ++ first ∷ back
  pub size : n ≡ at + size_of front

starts_after : (at n : ℕ) (cs : List ℕ) → Has (offsets_from at cs) n → StartsAfter at n cs
starts_after at n [] h = cc
starts_after at n (c ∷ cs) h = elim (has_cases at n (offsets_from (at + len_utf8 c) cs) h) [
  | inl here ↦ record { front = []; first = c; back = cs; cut = refl; size = omega (arith, here) }
  | inr later ↦
      let rest = starts_after (at + len_utf8 c) n cs later in
      let size = rest.size in
      record { front = c ∷ rest.front; first = rest.first; back = rest.back; cut = ap (λ ds. c ∷ ds) rest.cut; size = omega (arith, size) }
]

some_characters : (bs : List ℕ) → IsUtf8 bs → 0 < length bs → (cs : List ℕ) → chars bs ≡ cs → 0 < length cs
some_characters bs u some [] e = let none : bs ≡ [] = sym (encodes-chars bs u) ∙ ap encodes e in let no : length bs ≡ 0 = ap length none in absurd (omega (arith, some, no))
some_characters bs u some (c ∷ cs) e = omega arith

start_of_cut : (at : ℕ) (front cs : List ℕ) → 0 < length cs → Has (offsets_from at (front ++ cs)) (at + size_of front)
start_of_cut at front [] some = absurd (omega (arith, some))
start_of_cut at front (c ∷ cs) some = start_there at front c cs

-- where a text may be cut, before its end, a character begins
pub start_from_boundary : (text : List ℕ) (n : ℕ) → IsUtf8 text → n < length text → IsCharBoundary text n → Has (character_starts text) n
start_from_boundary text n u lt cut =
    let front = take n text in
    let back = drop n text in
    let front_utf8 = IsUtf8-take text n u cut in
    let back_utf8 = IsUtf8-drop text n u cut in
    let whole : chars text ≡ chars front ++ chars back = ap chars (sym (take-append-drop n text)) ∙ chars-append front back front_utf8 in
    let size : size_of (chars front) ≡ n = sym (size_is (chars front)) ∙ ap length (encodes-chars front front_utf8) ∙ length-take-le n text (omega (arith, lt)) in
    let left : 0 < length back = let many = length-drop n text in omega (arith, many, lt) in
    subst (λ (cs : List ℕ). Has (offsets_from 0 cs) n) (sym whole)
    (subst (Has (offsets_from 0 (chars front ++ chars back))) (size_plus (chars front) n size) (start_of_cut 0 (chars front) (chars back) (some_characters back back_utf8 left (chars back) refl)))
  where
    size_plus : (cs : List ℕ) (m : ℕ) → size_of cs ≡ m → 0 + size_of cs ≡ m
    size_plus cs m e = omega (arith, e)

-- where a character begins a text may be cut, and it isn't the end
pub boundary_from_start : (text : List ℕ) (n : ℕ) → IsUtf8 text → Has (character_starts text) n → (n < length text) × IsCharBoundary text n
boundary_from_start text n u h =
    let cut = starts_after 0 n (chars text) h in
    let bytes : text ≡ encodes cut.front ++ encodes (cut.first ∷ cut.back) = sym (encodes-chars text u) ∙ ap encodes cut.cut ∙ encodes-append cut.front (cut.first ∷ cut.back) in
    let size = cut.size in
    let at : length (encodes cut.front) ≡ n = size_is cut.front ∙ omega (arith, size) in
    let scalar_all : scalars (cut.front ++ cut.first ∷ cut.back) ≡ true = ap scalars (sym cut.cut) ∙ scalars-chars text u in
    let back_utf8 : IsUtf8 (encodes (cut.first ∷ cut.back)) = (cut.first ∷ cut.back, (scalars_back cut.front (cut.first ∷ cut.back) scalar_all, refl)) in
    let many : length text ≡ length (encodes cut.front) + length (encodes (cut.first ∷ cut.back)) = ap length bytes ∙ length-append (encodes cut.front) (encodes (cut.first ∷ cut.back)) in
    let last = size_is (cut.first ∷ cut.back) in
    let least = len_utf8_bounds cut.first in
    let one = least.0 in
    (omega (arith, many, at, last, one), subst (IsCharBoundary text) at (IsCharBoundary-at_seam text (encodes cut.front) (encodes (cut.first ∷ cut.back)) bytes back_utf8))
  where
    scalars_back : (cs ds : List ℕ) → scalars (cs ++ ds) ≡ true → scalars ds ≡ true
    scalars_back [] ds e = e
    scalars_back (c ∷ cs) ds e = scalars_back cs ds (let parts = and_parts _ _ e in parts.1)

pub starts_are_boundaries : (text : List ℕ) (n : ℕ) → IsUtf8 text → (n < length text → IsCharBoundary text n → IsTrue (has_number (character_starts text) n)) × (IsTrue (has_number (character_starts text) n) → (n < length text) × IsCharBoundary text n)
starts_are_boundaries text n u = (start_from_boundary text n u, boundary_from_start text n u)

-- no character begins after the last byte
pub no_start_past : (text : List ℕ) (n : ℕ) → IsUtf8 text → length text ≤ n → nat_lt n (length text) ≡ has_number (character_starts text) n
no_start_past text n u le = by_test (has_number (character_starts text) n) refl
  where
    by_test : (b : Bool) → has_number (character_starts text) n ≡ b → nat_lt n (length text) ≡ b
    by_test true e = absurd (let within = (boundary_from_start text n u e).0 in omega (arith, within, le))
    by_test false e = grind (arith, nat_tests, common_steps, le)

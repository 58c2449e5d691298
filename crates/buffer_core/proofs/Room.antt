-- Glyphs that an output or a list still holds.
use Rattle.std.proofs.Common.{ℕ, ◌≡◌, ◌≤◌, ◌<◌, ◌+◌, ◌&&◌, Bool, true, false, nat_le, List, [], ◌∷◌, ◌++◌, length, take, drop, get_or, arith, ap, sym, ◌∙◌}
use Rattle.std.proofs.lemmas.Bool.Decides.{nat_tests}
use Rattle.std.proofs.lemmas.List.{length-append, length-drop}
use Rattle.buffer_glyphs.specs.declared.info.hb_glyph_info_t.{hb_glyph_info_t}
use Rattle.buffer_glyphs.proofs.Lists.{take_one}
use Rattle.buffer_facts.proofs.Numbers.{at_most_by_test as within}

-- an element is there
pub some_ahead : (xs : List hb_glyph_info_t) (n : ℕ) → 0 < length (drop n xs) → n < length xs
some_ahead xs n some = let rest = length-drop n xs in omega (arith, rest, some)

pub more_ahead : (xs : List hb_glyph_info_t) (n k : ℕ) → n ≤ length xs → k ≤ length (drop n xs) → n + k ≤ length xs
more_ahead xs n k le more = let rest = length-drop n xs in omega (arith, rest, le, more)

-- the next element is appended to others
pub one_behind : (out new xs : List hb_glyph_info_t) (n : ℕ) (d x : hb_glyph_info_t) → n < length xs → x ≡ get_or xs n d → new ≡ out ++ x ∷ [] → new ≡ out ++ take 1 (drop n xs)
one_behind out new xs n d x lt is e = e ∙ ap (λ y. out ++ y ∷ []) is ∙ ap (λ ys. out ++ ys) (sym (take_one xs n d lt))

-- the elements that were appended to others are within the limit
pub put_within : (out gs new : List hb_glyph_info_t) (n m : ℕ) → new ≡ out ++ gs → length gs ≡ n → nat_le (length out + n) m ≡ true → length new ≤ m
put_within out gs new n m e long fits =
    let room : length out + n ≤ m = grind (arith, nat_tests, fits) in
    let sides = length-append out gs in
    rw e (omega (arith, sides, long, room))

-- both sides as one list are within the limit
pub joined_within : (s : Bool) (out ahead : List hb_glyph_info_t) (m : ℕ) → (s && nat_le (length (out ++ ahead) + 0) m) ≡ true → length (out ++ ahead) ≤ m
joined_within true out ahead m e = let le = within (length (out ++ ahead) + 0) m e in omega (arith, le)
joined_within false out ahead m e = cc

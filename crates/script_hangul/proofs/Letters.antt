-- The jamo of syllables, as many as before.
use Rattle.std.proofs.Common.{ℕ, suc, ◌≡◌, ◌<◌, ◌+◌, List, [], ◌∷◌, length, arith, refl, ap}
use Rattle.buffer_glyphs.specs.Items.{Item}
use Rattle.script_hangul.specs.declared.jamo.Letters.{Letters}
use Rattle.script_hangul.specs.declared.jamo.Letters.TheVariants.{Two, Three}
use Rattle.script_hangul.specs.Steps.{letters_from, numbers_of}

pub letters_long : (n : ℕ) (xs : List Item) → length (letters_from n xs) ≡ length xs
letters_long n [] = refl
letters_long n (x ∷ xs) = ap suc (letters_long (n + 1) xs)

pub letters_some : (letters : Letters) → 0 < length (numbers_of letters)
letters_some (Two l v) = omega arith
letters_some (Three l v t) = omega arith

-- A rule that permutes each list permutes each syllable by itself.
use Rattle.std.proofs.Common.{ℕ, List, [], ◌∷◌, map, refl, sym, subst}
use Rattle.std.proofs.lemmas.List.{map-append}
use Rattle.buffer_glyphs.specs.Items.{Item}
use Rattle.buffer_stages.specs.Pieces.{ArePermuted, in_front}
use Rattle.buffer_glyphs.specs.Rewriting.{Arrangement}
use Rattle.buffer_stages.specs.Rewriting.{each_rewritten, in_syllables}
use Rattle.buffer_stages.specs.SyllableLaws.{PermutesSeen, PermutesEachSyllable}

permutes : (see : Item → ℕ) (rule : List Item → Arrangement) → PermutesSeen see rule → (xss : List (List Item)) → ArePermuted (map (map see) xss) (map see (each_rewritten rule xss).items)
permutes see rule p [] = refl
permutes see rule p (xs ∷ xss) =
    let done = (rule xs).items in
    let left = (each_rewritten rule xss).items in
    subst (ArePermuted (map (map see) (xs ∷ xss))) (sym (map-append see done left)) (in_front (map see xs) (map see done) (map see left) (map (map see) xss) (p xs) (permutes see rule p xss))

pub permutes_each_syllable : PermutesEachSyllable
permutes_each_syllable see rule p xs = permutes see rule p (in_syllables xs)

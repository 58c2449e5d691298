-- Rules that permute.
use Rattle.std.specs.Prelude.{ℕ, List, map}
use Rattle.std.specs.List.Sorted.{IsPermutation}
use Rattle.buffer_glyphs.specs.Items.{Item}
use Rattle.buffer_stages.specs.Pieces.{ArePermuted}
use Rattle.buffer_glyphs.specs.Rewriting.{Arrangement}
use Rattle.buffer_stages.specs.Rewriting.{in_syllables, by_syllable}

-- a rule leaves of each list a permutation of the numbers that are seen of its items
abbrev pub PermutesSeen : (Item → ℕ) → (List Item → Arrangement) → Type 0
PermutesSeen see rule = (xs : List Item) → IsPermutation (map see xs) (map see (rule xs).items)

-- the glyph numbers of items
abbrev pub numbers_of : List Item → List ℕ
numbers_of xs = map (λ (x : Item). x.number) xs

-- a list was rewritten to a permutation of its numbers
abbrev pub IsPermuted : List Item → Arrangement → Type 0
IsPermuted xs r = IsPermutation (numbers_of xs) (numbers_of r.items)

-- a rule that permutes numbers permutes each syllable by itself, where it is applied syllable by syllable
abbrev pub PermutesEachSyllable : Type 0
PermutesEachSyllable = (see : Item → ℕ) (rule : List Item → Arrangement) → PermutesSeen see rule → (xs : List Item)
    → ArePermuted (map (map see) (in_syllables xs)) (map see (by_syllable rule xs).items)

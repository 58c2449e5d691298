-- The universal shaper: the order of a syllable's items (OpenType specification, Universal Shaping Engine).
use Rattle.std.specs.Prelude.{ℕ, zero, suc, ◌+◌, ◌-◌, ◌==◌, ◌&&◌, ◌||◌, not, Bool, false, nat_lt, if◌then◌else◌, List, [], ◌∷◌, drop, length, map, slice_get, Option, None, Some}
use Rattle.std.specs.List.{list_any, prefix_len}
use Rattle.script_categories.specs.declared.category.TheConstants as category
use Rattle.script_categories.specs.declared.shaper.hb_ot_script_shaper_t.TheVariants.{UNIVERSAL_SHAPER}
use Rattle.script_categories.specs.Shapers.{is_reordered}
use Rattle.buffer_glyphs.specs.LigatureWords.{is_ligated, lig_comp}
use Rattle.buffer_glyphs.specs.Items.{Item}
use Rattle.buffer_stages.specs.Pieces.{ArePermuted}
use Rattle.buffer_glyphs.specs.Rewriting.{Arrangement, eventless_arrangement, and_arranged}
use Rattle.buffer_stages.specs.Rewriting.{within, in_syllables, by_syllable}
use Rattle.buffer_stages.specs.Parts.{first_to_back}
use Rattle.buffer_stages.specs.Bytes.{kind_of_byte}

-- the categories of post-base items: finals, medials, vowels, their modifiers and those of finals (HarfBuzz:
-- POST_BASE_FLAGS64)
abbrev pub post_base_categories : List ℕ
post_base_categories =
    category.FAbv ∷ category.FBlw ∷ category.FPst ∷ category.MAbv ∷ category.MBlw ∷ category.MPst ∷ category.MPre ∷ category.VAbv ∷ category.VBlw ∷ category.VPst ∷ category.VPre
    ∷ category.VMAbv ∷ category.VMBlw ∷ category.VMPst ∷ category.VMPre ∷ category.FMAbv ∷ category.FMBlw ∷ category.FMPst ∷ []

-- the categories of halants
abbrev pub halant_categories : List ℕ
halant_categories = category.H ∷ category.HVM ∷ category.IS ∷ []

-- the categories of left vowels and left modifiers
abbrev pub left_categories : List ℕ
left_categories = category.VPre ∷ category.VMPre ∷ []

-- an item's category is in a list
abbrev pub is_among : List ℕ → Item → Bool
is_among cs x = list_any (λ c. x.category == c) cs

-- an item is a halant that is no ligature (HarfBuzz: is_halant_use)
abbrev pub is_halant : Item → Bool
is_halant x = is_among halant_categories x && not (is_ligated x)

-- an item before which a reph stops
abbrev pub stops_reph : Item → Bool
stops_reph x = is_among post_base_categories x || is_halant x

-- an item is a left vowel or modifier; of the components of a multiple substitution only the first is
abbrev pub is_left : Item → Bool
is_left x = is_among left_categories x && lig_comp x == 0

-- ---- a reph

-- the first item is a reph, and there are others
abbrev pub begins_with_reph : List Item → Bool
begins_with_reph [] = false
begins_with_reph (x ∷ xs) = x.category == category.R && nat_lt 0 (length xs)

-- the number of items from a reph up to its new index: itself and those it passes
abbrev pub reph_end : List Item → ℕ
reph_end xs = 1 + prefix_len (λ y. not (stops_reph y)) (drop 1 xs)

-- a syllable whose reph moved before the first item that stops it, else to the end
abbrev pub reph_moved : List Item → Arrangement
reph_moved xs = if begins_with_reph xs then within 0 (reph_end xs) (first_to_back 1) xs else eventless_arrangement xs

-- ---- left vowels

-- the rest of a syllable after an index of the walk, and the index after the last halant so far
pub record Step : Type 0 where
  pub rewritten : Arrangement
  pub after_halant : ℕ

-- the step at a left vowel: it moves after the last halant, merged with those that it passes
abbrev pub left_vowel_moved : ℕ → ℕ → List Item → Item → Step
left_vowel_moved i after_halant xs x =
    if is_halant x then record { rewritten = eventless_arrangement xs; after_halant = i + 1 }
    else if is_left x && nat_lt after_halant i then record { rewritten = within after_halant (i + 1) (first_to_back (i - after_halant)) xs; after_halant = after_halant }
    else record { rewritten = eventless_arrangement xs; after_halant = after_halant }

-- the step at an item of the walk, if there is one
abbrev pub left_vowel_step : ℕ → ℕ → List Item → Option Item → Step
left_vowel_step i after_halant xs None = record { rewritten = eventless_arrangement xs; after_halant = after_halant }
left_vowel_step i after_halant xs (Some x) = left_vowel_moved i after_halant xs x

-- the step at an index of a syllable
abbrev pub left_vowel_step_at : ℕ → ℕ → List Item → Step
left_vowel_step_at i after_halant xs = left_vowel_step i after_halant xs (slice_get xs i)

-- that many steps of the walk, while items move
abbrev pub left_walk : ℕ → ℕ → ℕ → List Item → Arrangement
left_walk zero i after_halant xs = eventless_arrangement xs
left_walk (suc n) i after_halant xs = and_arranged (left_vowel_step_at i after_halant xs).rewritten (left_walk n (i + 1) (left_vowel_step_at i after_halant xs).after_halant)

-- a syllable with its reph and its left vowels moved (HarfBuzz: reorder_syllable_use)
abbrev pub universal_reordered : List Item → Arrangement
universal_reordered xs = and_arranged (reph_moved xs) (left_walk (length xs) 0 0)

-- a syllable, reordered if the kind in its first item's byte is reordered
abbrev pub universal_first : List Item → Option Item → Arrangement
universal_first xs None = eventless_arrangement xs
universal_first xs (Some x) = if is_reordered UNIVERSAL_SHAPER (kind_of_byte x.syllable) then universal_reordered xs else eventless_arrangement xs

-- the reading of one syllable
abbrev pub universal_syllable : List Item → Arrangement
universal_syllable xs = universal_first xs (slice_get xs 0)

-- law: the reordering permutes each syllable by itself, by glyph numbers
abbrev pub UniversalPermutes : Type 0
UniversalPermutes = (xs : List Item)
    → ArePermuted (map (map (λ (x : Item). x.number)) (in_syllables xs)) (map (λ (x : Item). x.number) (by_syllable universal_syllable xs).items)

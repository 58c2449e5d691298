-- Khmer: how vowels split, and which items of a syllable move to its start (Unicode core specification, Khmer; OpenType
-- specification, Creating fonts for Khmer).
use Rattle.std.specs.Prelude.{ℕ, zero, suc, ◌+◌, ◌-◌, ◌==◌, ◌&&◌, Bool, nat_le, if◌then◌else◌, List, [], ◌∷◌, length, map, slice_get, Option, None, Some}
use Rattle.std.specs.List.{list_any}
use Rattle.script_categories.specs.declared.ot_category_t.TheConstants as category
use Rattle.script_categories.specs.declared.shaper.hb_ot_script_shaper_t.TheVariants.{KHMER_SHAPER}
use Rattle.script_categories.specs.Shapers.{is_reordered}
use Rattle.buffer_unicode_tables.specs.Tables.{Tables, split_of}
use Rattle.buffer_glyphs.specs.Items.{Item}
use Rattle.buffer_stages.specs.Pieces.{ArePermuted}
use Rattle.buffer_glyphs.specs.Rewriting.{Arrangement, eventless_arrangement, and_arranged}
use Rattle.buffer_stages.specs.Rewriting.{within, in_syllables, by_syllable}
use Rattle.buffer_stages.specs.Parts.{items_with_features, first_to_back}
use Rattle.buffer_stages.specs.Bytes.{kind_of_byte}
use Rattle.script_khmer.specs.declared.khmer.KhmerMasks.{KhmerMasks}

-- ---- split vowels

-- U+17C1, the left half of split vowels
abbrev pub LEFT_PART : ℕ
LEFT_PART = 0x17C1

-- the vowels with a left half
abbrev pub split_vowels : List ℕ
split_vowels = 0x17BE ∷ 0x17BF ∷ 0x17C0 ∷ 0x17C4 ∷ 0x17C5 ∷ []

-- the decomposition for Khmer: such a vowel becomes U+17C1 and itself, U+17C1 has none, and others decompose as in
-- Unicode (HarfBuzz: decompose_khmer)
abbrev pub khmer_split : Tables → ℕ → Option (ℕ × ℕ)
khmer_split t u = if u == LEFT_PART then None else if list_any (λ v. u == v) split_vowels then Some (LEFT_PART, u) else split_of t u

-- ---- a syllable

-- the rest of a syllable after an index of the walk, and the number of coengs counted
pub record Step : Type 0 where
  pub rewritten : Arrangement
  pub count : ℕ

-- the step at an item that doesn't move
abbrev pub unchanged_step : ℕ → List Item → Step
unchanged_step count xs = record { rewritten = eventless_arrangement xs; count = count }

-- a coeng and the Ro after it get a mask and move to the start, and the items after them get another mask
abbrev pub coeng_moved : KhmerMasks → ℕ → List Item → Arrangement
coeng_moved m index xs = and_arranged (and_arranged (within index (index + 2) (items_with_features m.pref) xs) (within 0 (index + 2) (first_to_back index))) (within (index + 2) (length xs) (items_with_features m.cfar))

-- the left matra at an index moves to the start
abbrev pub vowel_moved : ℕ → List Item → Arrangement
vowel_moved index xs = within 0 (index + 1) (first_to_back index) xs

-- the step at a coeng, by the item after it: with Ro it is a form
abbrev pub coeng_step : KhmerMasks → ℕ → ℕ → List Item → Item → Step
coeng_step m index count xs y = if y.category == category.OT_Ra then record { rewritten = coeng_moved m index xs; count = 2 } else unchanged_step (count + 1) xs

-- the step at a left matra, which moves to the start
abbrev pub vowel_step : ℕ → ℕ → List Item → Item → Step
vowel_step index count xs x = if x.category == category.OT_VPre then record { rewritten = vowel_moved index xs; count = count } else unchanged_step count xs

-- an item is a coeng that still counts: at most two were counted
abbrev pub is_coeng : ℕ → Item → Bool
is_coeng count x = x.category == category.OT_H && nat_le count 2

-- the step at an item, by what is after it
abbrev pub step_at : KhmerMasks → ℕ → ℕ → List Item → Option Item → Option Item → Step
step_at m index count xs None next = unchanged_step count xs
step_at m index count xs (Some x) None = vowel_step index count xs x
step_at m index count xs (Some x) (Some y) = if is_coeng count x then coeng_step m index count xs y else vowel_step index count xs x

-- the step at an index of a syllable
abbrev pub khmer_at : KhmerMasks → ℕ → ℕ → List Item → Step
khmer_at m index count xs = step_at m index count xs (slice_get xs index) (slice_get xs (index + 1))

-- that many steps of the walk, while items move
abbrev pub khmer_walk : KhmerMasks → ℕ → ℕ → ℕ → List Item → Arrangement
khmer_walk m zero index count xs = eventless_arrangement xs
khmer_walk m (suc n) index count xs = and_arranged (khmer_at m index count xs).rewritten (khmer_walk m n (index + 1) (khmer_at m index count xs).count)

-- a syllable whose items after the first have the post-base mask, walked from the second item on (HarfBuzz:
-- reorder_consonant_syllable)
abbrev pub khmer_reordered : KhmerMasks → List Item → Arrangement
khmer_reordered m xs = and_arranged (within 1 (length xs) (items_with_features m.post_base) xs) (khmer_walk m (length xs - 1) 1 0)

-- a syllable, reordered if the kind in its first item's byte is reordered
abbrev pub khmer_first : KhmerMasks → List Item → Option Item → Arrangement
khmer_first m xs None = eventless_arrangement xs
khmer_first m xs (Some x) = if is_reordered KHMER_SHAPER (kind_of_byte x.syllable) then khmer_reordered m xs else eventless_arrangement xs

-- the reading of one Khmer syllable
abbrev pub khmer_syllable : KhmerMasks → List Item → Arrangement
khmer_syllable m xs = khmer_first m xs (slice_get xs 0)

-- law: the reordering permutes each syllable by itself, by glyph numbers
abbrev pub KhmerPermutes : Type 0
KhmerPermutes = (m : KhmerMasks) (xs : List Item)
    → ArePermuted (map (map (λ (x : Item). x.number)) (in_syllables xs)) (map (λ (x : Item). x.number) (by_syllable (khmer_syllable m) xs).items)

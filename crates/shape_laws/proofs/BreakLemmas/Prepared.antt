-- The properties of the characters of two texts, one after the other.
use Rattle.std.proofs.Common.{ℕ, suc, ◌≡◌, ◌≤◌, ◌<◌, ◌+◌, ◌*◌, ◌%◌, ◌==◌, ◌||◌, not, Bool, true, false, List, [], ◌∷◌, ◌++◌, length, map, Option, None, Some, arith, refl, sym, ap, ◌∙◌}
use Rattle.std.specs.Int.RustNames.{bit_and}
use Rattle.std.proofs.lemmas.Nat.{and_block, and_mask, and_or_self}
use Rattle.unicode.specs.GeneralCategory.{general_category}
use Rattle.buffer_unicode.specs.Category.{category_number}
use Rattle.buffer_unicode.specs.Character.{is_default_ignorable_character}
use Rattle.buffer_unicode_tables.specs.Tables.{Tables}
use Rattle.buffer_glyphs.specs.Items.{Item}
use Rattle.buffer_core.specs.Graphemes.{continues as continues_item}
use Rattle.buffer_properties.specs.Properties.{bit_if, is_hidden_character, properties_of}
use Rattle.buffer_properties.proofs.PropertyWords.{category_fits}
use Rattle.buffer_properties.proofs.Words.{at_most_one, word_of}
use Rattle.buffer_parts.specs.Breaks.Fragments.{AreGiven, with_ligature_renamed}
use Rattle.shape_text.specs.declared.graphemes.Before.{Before}
use Rattle.shape_text.specs.Graphemes.{continues, is_extender, is_joined}
use Rattle.shape_text.specs.Properties.{items_prepared, next_before, prepared_item}
use Rattle.shape_parts.proofs.Graphemes.{no_middle_bit, alone_word}
use Rattle.buffer_facts.proofs.Truth.{first_false as neither}

-- what is read of the last of some characters, after others
abbrev pub before_after : Tables → Option Before → List Item → Option Before
before_after t before [] = before
before_after t before (x ∷ xs) = before_after t (Some (next_before t before x.number)) xs

-- whether the first of some characters continues the grapheme of the one before them
abbrev pub first_continues : Tables → Option Before → List Item → Bool
first_continues t before [] = false
first_continues t before (y ∷ ys) = continues t before y.number

pub prepared_both : (t : Tables) (before : Option Before) (xs ys : List Item) → items_prepared t before (xs ++ ys) ≡ items_prepared t before xs ++ items_prepared t (before_after t before xs) ys
prepared_both t before [] ys = refl
prepared_both t before (x ∷ xs) ys = ap (λ zs. prepared_item t (continues t before x.number) x ∷ zs) (prepared_both t (Some (next_before t before x.number)) xs ys)

not_first : (t : Tables) (before : Option Before) (u : ℕ) → continues t before u ≡ false → continues t None u ≡ false
not_first t None u e = e
not_first t (Some b) u e = neither (is_extender u) (is_joined t b u) e

-- characters of which the first continues no grapheme have the properties that they have alone
pub prepared_alone : (t : Tables) (before : Option Before) (ys : List Item) → first_continues t before ys ≡ false → items_prepared t before ys ≡ items_prepared t None ys
prepared_alone t before [] e = refl
prepared_alone t before (y ∷ ys) e =
    let alone = not_first t before y.number e in
    ap (λ (b : Bool). prepared_item t b y ∷ items_prepared t (Some (record { character = y.number; continues = b })) ys) (e ∙ sym alone)

-- ---- ligature numbers

pub prepared_renamed : (t : Tables) (before : Option Before) (name : ℕ → ℕ) (xs : List Item) → items_prepared t before (map (with_ligature_renamed name) xs) ≡ map (with_ligature_renamed name) (items_prepared t before xs)
prepared_renamed t before name [] = refl
prepared_renamed t before name (x ∷ xs) = ap (λ zs. with_ligature_renamed name (prepared_item t (continues t before x.number) x) ∷ zs) (prepared_renamed t (Some (next_before t before x.number)) name xs)

pub prepared_given : (t : Tables) (before : Option Before) (last : ℕ) (xs : List Item) → AreGiven last xs → AreGiven last (items_prepared t before xs)
prepared_given t before last [] h = tt
prepared_given t before last (x ∷ xs) h = (h.0, prepared_given t (Some (next_before t before x.number)) last xs h.1)

pub before_renamed : (t : Tables) (before : Option Before) (name : ℕ → ℕ) (xs : List Item) → before_after t before (map (with_ligature_renamed name) xs) ≡ before_after t before xs
before_renamed t before name [] = refl
before_renamed t before name (x ∷ xs) = before_renamed t (Some (next_before t before x.number)) name xs

-- ---- the continuation bit

-- an item has the continuation bit exactly where its character continues a grapheme
pub prepared_continues : (t : Tables) (b : Bool) (x : Item) → continues_item (prepared_item t b x) ≡ b
prepared_continues t true x = ap (λ n. not (n == 0)) (and_or_self 0x80 (properties_of x.number))
prepared_continues t false x = ap (λ n. not (n == 0)) (alone_word x.number)

-- What stands for a character has to be to the letters beside it as the character is, for contexts to show the letters of
-- a text.
use Rattle.std.specs.Prelude.{ℕ, ◌≡◌, ◌≤◌, ◌==◌, ◌||◌, ◌⊎◌, ⊤, Bool, true, false, if◌then◌else◌, List, [], ◌∷◌, ◌++◌, length, reverse, take, Option, None, Some}
use Rattle.std.specs.List.{All}
use Rattle.unicode.specs.GeneralCategory.{general_category}
use Rattle.buffer_unicode.specs.Category.{category_number}
use Rattle.buffer_unicode.specs.Character.{is_variation_selector_character}
use Rattle.buffer_unicode_tables.specs.Tables.{Tables, class_of, counterpart_in}
use Rattle.buffer_glyphs.specs.Items.{Item}
use Rattle.buffer_glyphs.specs.Rewriting.{Arrangement}
use Rattle.buffer_properties.specs.Characters.{mark_class}
use Rattle.buffer_properties.specs.Normalizer.{Normalizer}
use Rattle.script_categories.specs.declared.joining_types.hb_arabic_joining_type_t.TheVariants.{U, L, R, D, GroupAlaph, GroupDalathRish, T, X}
use Rattle.script_joining.specs.Joining.{is_letter, nearest, types_of_characters, types_of_items}
use Rattle.script_joining.specs.Types.{JoiningType, joining_type, type_of_character, type_of_item}
use Rattle.shape_laws.specs.Breaks.Joining.{ShowsAfter, ShowsBefore, has_letter, nearest_after}

-- ---- types

-- the type of the first letter of two characters; that of the second where neither is a letter
abbrev pub first_letter : JoiningType → JoiningType → JoiningType
first_letter s t = if is_letter s then s else t

-- the joining type of a second half; an absent one (0) counts as transparent
abbrev pub type_of_half : Tables → ℕ → JoiningType
type_of_half t b = if b == 0 then T else type_of_character t b

-- two characters are to the letters on both sides as one of some type is
abbrev pub AreSeenAs : JoiningType → JoiningType → JoiningType → Type 0
AreSeenAs whole s t = (first_letter s t ≡ whole) × (first_letter t s ≡ whole)

-- transparent or non-joining: of characters of these types letters see the same in any order
abbrev pub joins_nothing : JoiningType → Bool
joins_nothing U = true
joins_nothing L = false
joins_nothing R = false
joins_nothing D = false
joins_nothing GroupAlaph = false
joins_nothing GroupDalathRish = false
joins_nothing T = true
joins_nothing X = false

-- ---- of tables and the font

-- the halves of a decomposition, where there is one, are to the letters beside them as a character of some type
abbrev pub HalvesKeepType : Tables → JoiningType → Option (ℕ × ℕ) → Type 0
HalvesKeepType t whole None = ⊤
HalvesKeepType t whole (Some (a, b)) = AreSeenAs whole (type_of_character t a) (type_of_half t b)

-- a character's counterpart in another direction, where it has one, has its joining type: by the character's general
-- category, which it keeps, and by its own
abbrev pub CounterpartKeepsType : Tables → ℕ → Option ℕ → Type 0
CounterpartKeepsType t u None = ⊤
CounterpartKeepsType t u (Some v) = (joining_type t v (category_number (general_category u)) ≡ type_of_character t u) × (type_of_character t v ≡ type_of_character t u)

-- what stands for a character is to the letters beside it as the character is: its decomposition, its composition with
-- another, its counterpart in another direction. Variation selectors are transparent, and characters that canonical
-- ordering may move (UAX 15, D109), and U+25CC, are transparent or non-joining
pub record KeepsTypes (k : Normalizer) : Type 0 where
  pub halves : (u : ℕ) → HalvesKeepType k.tables (type_of_character k.tables u) (k.splits u)
  pub composites : (a b u : ℕ) → k.composes a b ≡ Some u → AreSeenAs (type_of_character k.tables u) (type_of_character k.tables a) (type_of_character k.tables b)
  pub mirrored : (u : ℕ) → CounterpartKeepsType k.tables u (counterpart_in k.tables.mirrored u)
  pub vertical : (u : ℕ) → CounterpartKeepsType k.tables u (counterpart_in k.tables.vertical u)
  pub selectors : (u : ℕ) → is_variation_selector_character u ≡ true → type_of_character k.tables u ≡ T
  pub ordered : (u : ℕ) → (class_of k.tables u == 0 || joins_nothing (type_of_character k.tables u)) ≡ true
  pub circle : joins_nothing (type_of_character k.tables 0x25CC) ≡ true

-- ---- the letters at both ends of a text

-- the first letter of some characters and the last one, where there are letters
abbrev pub Ends : Type 0
Ends = Option (JoiningType × JoiningType)

-- the first letter and the last one of two texts, one after the other
abbrev pub ends_joined : Ends → Ends → Ends
ends_joined None q = q
ends_joined (Some p) None = Some p
ends_joined (Some p) (Some q) = Some (p.0, q.1)

-- the ends of one character
abbrev pub ends_of_one : JoiningType → Ends
ends_of_one t = if is_letter t then Some (t, t) else None

-- the ends of some characters
abbrev pub ends_of : List JoiningType → Ends
ends_of [] = None
ends_of (t ∷ ts) = ends_joined (ends_of_one t) (ends_of ts)

-- an item has the joining type of its character, and is transparent or non-joining where canonical ordering may move it
pub record IsTyped (t : Tables) (z : Item) : Type 0 where
  pub own : type_of_item t z ≡ type_of_character t z.number
  pub ordered : (mark_class z == 0 || joins_nothing (type_of_item t z)) ≡ true

-- items stand for others: the first letter and the last one are the same
pub record StandFor (t : Tables) (xs zs : List Item) : Type 0 where
  pub ends : ends_of (types_of_items t zs) ≡ ends_of (types_of_items t xs)
  pub typed : All (IsTyped t) zs

-- an order of a run of marks that are transparent or non-joining keeps its ends
abbrev pub OrderKeepsTypes : Tables → (List Item → Arrangement) → Type 0
OrderKeepsTypes t reorders = (run : List Item) → All (IsTyped t) run → All (λ z. joins_nothing (type_of_item t z) ≡ true) run → StandFor t run (reorders run).items

-- ---- contexts

-- the contexts of two texts, one after the other, show each the letters of the other one's characters: `pre` and `post` are
-- the contexts of both, nearest first, `late_pre` that before the later one, and `early_post` that after the earlier one
pub record CharactersShow (t : Tables) (pre post early_post late_pre earlier later : List ℕ) : Type 0 where
  pub before : ShowsBefore (nearest_after (nearest (types_of_characters t pre)) (types_of_characters t earlier)) (nearest (types_of_characters t late_pre))
  pub after : ShowsAfter (types_of_characters t later) (types_of_characters t post) (nearest (types_of_characters t early_post))

-- the contexts of two texts are the n characters of the other one and of their context that are nearest; there is a letter
-- in the later one, or n characters are enough for all that follow
pub record AreNearest (t : Tables) (n : ℕ) (pre post early_post late_pre earlier later : List ℕ) : Type 0 where
  pub before : late_pre ≡ take n (reverse earlier ++ pre)
  pub after : early_post ≡ take n (later ++ post)
  pub letter : (has_letter (types_of_characters t later) ≡ true) ⊎ (length (later ++ post) ≤ n)

-- Items of the tables' characters have the tables' classes.
use Rattle.std.proofs.Common.{ℕ, ◌≡◌, ◌≢◌, ◌+◌, ◌*◌, ◌%◌, ◌==◌, ◌||◌, if◌then◌else◌, Bool, true, false, List, [], ◌∷◌, map, refl, sym, ap, ap₂, ◌∙◌, arith, inl, inr}
use Rattle.std.proofs.lemmas.Bool.{cases_Bool, cases_eq, cond-true, cond-false}
use Rattle.std.proofs.lemmas.Nat.{and_mask}
use Rattle.std.specs.Int.RustNames.{bit_and}
use Rattle.unicode.specs.GeneralCategory.{general_category}
use Rattle.ucd_category.specs.declared.GeneralCategory.{GeneralCategory}
use Rattle.ucd_category.specs.declared.GeneralCategory.TheVariants.{Control, Format, Unassigned, PrivateUse, Surrogate, LowercaseLetter, ModifierLetter, OtherLetter, TitlecaseLetter, UppercaseLetter, SpacingMark, EnclosingMark, NonspacingMark, DecimalNumber, LetterNumber, OtherNumber, ConnectorPunctuation, DashPunctuation, ClosePunctuation, FinalPunctuation, InitialPunctuation, OtherPunctuation, OpenPunctuation, CurrencySymbol, ModifierSymbol, MathSymbol, OtherSymbol, LineSeparator, ParagraphSeparator, SpaceSeparator}
use Rattle.buffer_unicode.specs.Category.{category_number, is_mark_category}
use Rattle.buffer_unicode.specs.Character.{is_default_ignorable_character}
use Rattle.buffer_unicode_tables.specs.ClassOrder.{class_order, beside_starters}
use Rattle.buffer_unicode_tables.specs.Lawful.{ClassesAreOfMarks}
use Rattle.buffer_unicode_tables.proofs.Orders.{order_from_classes, classes_from_order}
use Rattle.buffer_unicode_tables.specs.Tables.{Tables, class_of}
use Rattle.buffer_glyphs.specs.Items.{Item}
use Rattle.buffer_properties.specs.Properties.{is_mark_character, properties_of, character_class}
use Rattle.buffer_properties.proofs.Words.{low_bits_are_the_category}
use Rattle.buffer_properties.specs.Characters.{is_mark_number, is_mark, mark_class, standing_for}
use Rattle.buffer_properties.specs.Expanding.{piece_of}
use Rattle.buffer_properties.specs.Normalizer.{Normalizer}
use Rattle.buffer_properties.specs.Premises.{HasShortRuns}

pub mark_numbers : (g : GeneralCategory) → is_mark_number (category_number g) ≡ is_mark_category g
mark_numbers Control = refl
mark_numbers Format = refl
mark_numbers Unassigned = refl
mark_numbers PrivateUse = refl
mark_numbers Surrogate = refl
mark_numbers LowercaseLetter = refl
mark_numbers ModifierLetter = refl
mark_numbers OtherLetter = refl
mark_numbers TitlecaseLetter = refl
mark_numbers UppercaseLetter = refl
mark_numbers SpacingMark = refl
mark_numbers EnclosingMark = refl
mark_numbers NonspacingMark = refl
mark_numbers DecimalNumber = refl
mark_numbers LetterNumber = refl
mark_numbers OtherNumber = refl
mark_numbers ConnectorPunctuation = refl
mark_numbers DashPunctuation = refl
mark_numbers ClosePunctuation = refl
mark_numbers FinalPunctuation = refl
mark_numbers InitialPunctuation = refl
mark_numbers OtherPunctuation = refl
mark_numbers OpenPunctuation = refl
mark_numbers CurrencySymbol = refl
mark_numbers ModifierSymbol = refl
mark_numbers MathSymbol = refl
mark_numbers OtherSymbol = refl
mark_numbers LineSeparator = refl
mark_numbers ParagraphSeparator = refl
mark_numbers SpaceSeparator = refl

-- the low bits of the property word are the category
category_of_properties : (u : ℕ) → bit_and (properties_of u) 0x1F ≡ category_number (general_category u)
category_of_properties u = low_bits_are_the_category u

-- an item that stands for a character is a mark where the character is
pub mark_of_character : (t : Tables) (u : ℕ) (x : Item) → is_mark (standing_for t u x) ≡ is_mark_character u
mark_of_character t u x = ap is_mark_number (category_of_properties u) ∙ mark_numbers (general_category u)

-- a test made twice
tested_twice : (b : Bool) (k : ℕ) → (k ≢ 0 → b ≡ true) → (if b then (if b then k else 0) else 0) ≡ k
tested_twice true k h = refl
tested_twice false k h =
    elim (cases_eq k 0) [
      | inl z ↦ sym z
      | inr n ↦ let no = h n in cc
    ]

pub class_of_character : (t : Tables) (u : ℕ) (x : Item) → ClassesAreOfMarks t → mark_class (standing_for t u x) ≡ class_of t u
unfolding character_class
class_of_character t u x marks =
    ap (λ b. if b then character_class t u else 0) (mark_of_character t u x) ∙ tested_twice (is_mark_character u) (class_of t u) (marks u)

pub class_of_piece : (c : Normalizer) (x : Item) (u : ℕ) → ClassesAreOfMarks c.tables → mark_class (piece_of c x u) ≡ class_of c.tables u
unfolding piece_of
class_of_piece c x u marks = class_of_character c.tables u x marks

beside_map : {X Y : Type 0} (f : X → Y) (class : Y → ℕ) (own : X → ℕ) (k : ℕ) (xs : List X) → ((x : X) → class (f x) ≡ own x) → beside_starters class k (map f xs) ≡ map f (beside_starters own k xs)
beside_map f class own k [] h = refl
beside_map f class own k (x ∷ xs) h =
    let ih = beside_map f class own k xs h in
    let same : (class (f x) == 0 || class (f x) == k) ≡ (own x == 0 || own x == k) = ap (λ n. n == 0 || n == k) (h x) in
    elim (cases_Bool (own x == 0 || own x == k)) [
      | inl at ↦ cond-true _ _ _ (same ∙ at) ∙ (ap (λ ys. f x ∷ ys) ih ∙ ap (map f) (sym (cond-true _ _ _ at)))
      | inr off ↦ cond-false _ _ _ (same ∙ off) ∙ (ih ∙ ap (map f) (sym (cond-false _ _ _ off)))
    ]

-- what has one class order has it when each element is changed to one of its class
pub order_map : {X Y : Type 0} (f : X → Y) (class : Y → ℕ) (own : X → ℕ) (xs ys : List X) → ((x : X) → class (f x) ≡ own x) → class_order own xs ≡ class_order own ys → class_order class (map f xs) ≡ class_order class (map f ys)
order_map f class own xs ys h e =
    order_from_classes class (map f xs) (map f ys)
    (λ k. beside_map f class own k xs h ∙ (ap (map f) (classes_from_order own xs ys e k) ∙ sym (beside_map f class own k ys h)))

pub short_map : {X Y : Type 0} (f : X → Y) (class : Y → ℕ) (own : X → ℕ) (met : ℕ) (xs : List X) → ((x : X) → class (f x) ≡ own x) → HasShortRuns own met xs → HasShortRuns class met (map f xs)
short_map f class own met [] h s = s
short_map f class own met (x ∷ xs) h s =
    let same : (class (f x) == 0) ≡ (own x == 0) = ap (λ n. n == 0) (h x) in
    (s.0, rw same (short_map f class own (if own x == 0 then 0 else met + 1) xs h s.1))

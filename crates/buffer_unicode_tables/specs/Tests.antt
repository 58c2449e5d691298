-- The tests that decide whether tables are lawful.
use Rattle.std.specs.Prelude.{ℕ, ◌==◌, ◌&&◌, ◌||◌, Bool, true, false, List, [], ◌∷◌, ◌++◌, Option, Some, None, is_none}
use Rattle.std.specs.List.{list_all}
use Rattle.unicode.specs.GeneralCategory.{general_category}
use Rattle.buffer_unicode.specs.Category.{is_mark_category}
use Rattle.buffer_unicode.specs.declared.rows.CharacterClass.{CharacterClass}
use Rattle.buffer_unicode_tables.specs.ClassOrder.{beside_starters}
use Rattle.buffer_unicode_tables.specs.Expansion.{Splits}
use Rattle.buffer_unicode_tables.specs.Tables.{Tables, split_of, class_of}
use Rattle.buffer_unicode_tables.specs.Texts.{full_expansion}

-- whether the second half of a decomposition, if it has one, doesn't decompose
abbrev pub second_half_stays : Splits → Option (ℕ × ℕ) → Bool
second_half_stays splits None = true
second_half_stays splits (Some (a, b)) = b == 0 || is_none (splits b)

-- whether two lists of characters are the same
abbrev pub same_text : List ℕ → List ℕ → Bool
same_text [] [] = true
same_text [] (y ∷ ys) = false
same_text (x ∷ xs) [] = false
same_text (x ∷ xs) (y ∷ ys) = x == y && same_text xs ys

-- whether two texts have the same starters and characters of a class
abbrev pub same_beside_starters : (ℕ → ℕ) → List ℕ → List ℕ → ℕ → Bool
same_beside_starters class xs ys c = same_text (beside_starters class c xs) (beside_starters class c ys)

-- whether two texts have the same starters and characters of each class that occurs
abbrev pub has_same_classes : (ℕ → ℕ) → List ℕ → List ℕ → Bool
has_same_classes class xs ys =
    same_beside_starters class xs ys 0
    && (list_all (λ x. same_beside_starters class xs ys (class x)) xs && list_all (λ y. same_beside_starters class xs ys (class y)) ys)

-- whether a composite has the class order of its pair
abbrev pub whole_is_equivalent : Tables → ℕ → ℕ → Option ℕ → Bool
whole_is_equivalent t a b None = true
whole_is_equivalent t a b (Some u) = has_same_classes (class_of t) (full_expansion t u) (full_expansion t a ++ full_expansion t b)

-- whether a character of nonzero class is a combining mark
abbrev pub class_is_of_mark : CharacterClass → Bool
class_is_of_mark r = r.class == 0 || is_mark_category (general_category r.character)

-- whether the halves of a decomposition have a class
abbrev pub pieces_have_class : (ℕ → ℕ) → ℕ → Option (ℕ × ℕ) → Bool
pieces_have_class class c None = true
pieces_have_class class c (Some (a, b)) = class a == c && (b == 0 || class b == c)

-- whether the halves of a character of nonzero class have its class
abbrev pub keeps_class : Tables → ℕ → Bool
keeps_class t u = class_of t u == 0 || pieces_have_class (class_of t) (class_of t u) (split_of t u)

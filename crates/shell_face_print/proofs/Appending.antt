-- Lists of tokens that grow by the tokens of a value.
use Rattle.std.proofs.Common.{◌≡◌, ℕ, ℤ, pos, negsuc, List, [], ◌∷◌, ◌++◌, Option, Some, None, refl, sym, ap, ◌∙◌, append_assoc}
use Rattle.std.specs.Fmt.{signed_decimal}
use Rattle.json.specs.Token.{Token, begin_array, end_array, begin_object, end_object, key}
use Rattle.serde_json.specs.Data.{Data, Members, no_members}
use Rattle.serde_json.specs.Find.{of_integer}
use Rattle.serde_json.specs.Written.{number_text}
use Rattle.shell_print_json.specs.Tokens.{members_tokens, optional_tokens}
use Rattle.shell_print_json.specs.Values.{member_if}

-- an integer's text is its decimal number
pub integer_text : (z : ℤ) → number_text (of_integer z) ≡ signed_decimal z
integer_text (pos n) = refl
integer_text (negsuc n) = refl

-- ---- lists that grow by several lists

pub two : {A : Type 0} (s₀ s₁ s₂ a b : List A) → s₁ ≡ s₀ ++ a → s₂ ≡ s₁ ++ b → s₂ ≡ s₀ ++ (a ++ b)
two s₀ s₁ s₂ a b e₁ e₂ = e₂ ∙ ap (λ s. s ++ b) e₁ ∙ append_assoc s₀ a b

pub three : {A : Type 0} (s₀ s₁ s₂ s₃ a b c : List A)
    → s₁ ≡ s₀ ++ a → s₂ ≡ s₁ ++ b → s₃ ≡ s₂ ++ c → s₃ ≡ s₀ ++ (a ++ (b ++ c))
three s₀ s₁ s₂ s₃ a b c e₁ e₂ e₃ = two s₀ s₁ s₃ a (b ++ c) e₁ (two s₁ s₂ s₃ b c e₂ e₃)

pub four : {A : Type 0} (s₀ s₁ s₂ s₃ s₄ a b c d : List A)
    → s₁ ≡ s₀ ++ a → s₂ ≡ s₁ ++ b → s₃ ≡ s₂ ++ c → s₄ ≡ s₃ ++ d → s₄ ≡ s₀ ++ (a ++ (b ++ (c ++ d)))
four s₀ s₁ s₂ s₃ s₄ a b c d e₁ e₂ e₃ e₄ = two s₀ s₁ s₄ a (b ++ (c ++ d)) e₁ (three s₁ s₂ s₃ s₄ b c d e₂ e₃ e₄)

pub five : {A : Type 0} (s₀ s₁ s₂ s₃ s₄ s₅ a b c d e : List A)
    → s₁ ≡ s₀ ++ a → s₂ ≡ s₁ ++ b → s₃ ≡ s₂ ++ c → s₄ ≡ s₃ ++ d → s₅ ≡ s₄ ++ e
    → s₅ ≡ s₀ ++ (a ++ (b ++ (c ++ (d ++ e))))
five s₀ s₁ s₂ s₃ s₄ s₅ a b c d e e₁ e₂ e₃ e₄ e₅ = two s₀ s₁ s₅ a (b ++ (c ++ (d ++ e))) e₁ (four s₁ s₂ s₃ s₄ s₅ b c d e e₂ e₃ e₄ e₅)

pub six : {A : Type 0} (s₀ s₁ s₂ s₃ s₄ s₅ s₆ a b c d e f : List A)
    → s₁ ≡ s₀ ++ a → s₂ ≡ s₁ ++ b → s₃ ≡ s₂ ++ c → s₄ ≡ s₃ ++ d → s₅ ≡ s₄ ++ e → s₆ ≡ s₅ ++ f
    → s₆ ≡ s₀ ++ (a ++ (b ++ (c ++ (d ++ (e ++ f)))))
six s₀ s₁ s₂ s₃ s₄ s₅ s₆ a b c d e f e₁ e₂ e₃ e₄ e₅ e₆ =
    two s₀ s₁ s₆ a (b ++ (c ++ (d ++ (e ++ f)))) e₁ (five s₁ s₂ s₃ s₄ s₅ s₆ b c d e f e₂ e₃ e₄ e₅ e₆)

-- ---- rows

-- a row of an item, and of those after it
pub row_two : (s₀ s₁ s₂ s₃ a b : List Token)
    → s₁ ≡ s₀ ++ begin_array ∷ [] → s₂ ≡ s₁ ++ a → s₃ ≡ s₂ ++ b → s₃ ≡ s₀ ++ begin_array ∷ (a ++ b)
row_two s₀ s₁ s₂ s₃ a b e₁ e₂ e₃ = three s₀ s₁ s₂ s₃ (begin_array ∷ []) a b e₁ e₂ e₃

-- a row of two items, and of those after them
pub row_three : (s₀ s₁ s₂ s₃ s₄ a b c : List Token)
    → s₁ ≡ s₀ ++ begin_array ∷ [] → s₂ ≡ s₁ ++ a → s₃ ≡ s₂ ++ b → s₄ ≡ s₃ ++ c → s₄ ≡ s₀ ++ begin_array ∷ (a ++ (b ++ c))
row_three s₀ s₁ s₂ s₃ s₄ a b c e₁ e₂ e₃ e₄ = four s₀ s₁ s₂ s₃ s₄ (begin_array ∷ []) a b c e₁ e₂ e₃ e₄

-- a row of three items, and of those after them
pub row_four : (s₀ s₁ s₂ s₃ s₄ s₅ a b c d : List Token)
    → s₁ ≡ s₀ ++ begin_array ∷ [] → s₂ ≡ s₁ ++ a → s₃ ≡ s₂ ++ b → s₄ ≡ s₃ ++ c → s₅ ≡ s₄ ++ d
    → s₅ ≡ s₀ ++ begin_array ∷ (a ++ (b ++ (c ++ d)))
row_four s₀ s₁ s₂ s₃ s₄ s₅ a b c d e₁ e₂ e₃ e₄ e₅ = five s₀ s₁ s₂ s₃ s₄ s₅ (begin_array ∷ []) a b c d e₁ e₂ e₃ e₄ e₅

-- ---- objects

-- a key where it has a value is followed by the other members
pub optional_member : (name : List ℕ) (d : Option Data) (ms : Members) → members_tokens (member_if name d ms) ≡ optional_tokens name d ++ members_tokens ms
optional_member name None ms = refl
optional_member name (Some d) ms = refl

-- the last key of an object, and its end
pub last_member : (s₀ s₁ s₂ : List Token) (name : List ℕ) (d : Option Data)
    → s₁ ≡ s₀ ++ optional_tokens name d → s₂ ≡ s₁ ++ end_object ∷ [] → s₂ ≡ s₀ ++ members_tokens (member_if name d no_members)
last_member s₀ s₁ s₂ name None e₁ e₂ = two s₀ s₁ s₂ [] (end_object ∷ []) e₁ e₂
last_member s₀ s₁ s₂ name (Some d) e₁ e₂ = two s₀ s₁ s₂ (optional_tokens name (Some d)) (end_object ∷ []) e₁ e₂

-- two keys, and the members after them
pub member_three : (s₀ s₁ s₂ s₃ a b c : List Token) (k l : Token)
    → s₁ ≡ s₀ ++ k ∷ a → s₂ ≡ s₁ ++ l ∷ b → s₃ ≡ s₂ ++ c → s₃ ≡ s₀ ++ k ∷ (a ++ l ∷ (b ++ c))
member_three s₀ s₁ s₂ s₃ a b c k l e₁ e₂ e₃ = three s₀ s₁ s₂ s₃ (k ∷ a) (l ∷ b) c e₁ e₂ e₃

-- three keys, and the members after them
pub member_four : (s₀ s₁ s₂ s₃ s₄ a b c d : List Token) (k l m : Token)
    → s₁ ≡ s₀ ++ k ∷ a → s₂ ≡ s₁ ++ l ∷ b → s₃ ≡ s₂ ++ m ∷ c → s₄ ≡ s₃ ++ d
    → s₄ ≡ s₀ ++ k ∷ (a ++ l ∷ (b ++ m ∷ (c ++ d)))
member_four s₀ s₁ s₂ s₃ s₄ a b c d k l m e₁ e₂ e₃ e₄ = four s₀ s₁ s₂ s₃ s₄ (k ∷ a) (l ∷ b) (m ∷ c) d e₁ e₂ e₃ e₄

-- an object of a key, and of the members after it
pub object_two : (s₀ s₁ s₂ s₃ a b : List Token) (k : Token)
    → s₁ ≡ s₀ ++ begin_object ∷ [] → s₂ ≡ s₁ ++ k ∷ a → s₃ ≡ s₂ ++ b → s₃ ≡ s₀ ++ begin_object ∷ k ∷ (a ++ b)
object_two s₀ s₁ s₂ s₃ a b k e₁ e₂ e₃ = three s₀ s₁ s₂ s₃ (begin_object ∷ []) (k ∷ a) b e₁ e₂ e₃

-- an object of two keys, and of the members after them
pub object_three : (s₀ s₁ s₂ s₃ s₄ a b c : List Token) (k l : Token)
    → s₁ ≡ s₀ ++ begin_object ∷ [] → s₂ ≡ s₁ ++ k ∷ a → s₃ ≡ s₂ ++ l ∷ b → s₄ ≡ s₃ ++ c
    → s₄ ≡ s₀ ++ begin_object ∷ k ∷ (a ++ l ∷ (b ++ c))
object_three s₀ s₁ s₂ s₃ s₄ a b c k l e₁ e₂ e₃ e₄ = four s₀ s₁ s₂ s₃ s₄ (begin_object ∷ []) (k ∷ a) (l ∷ b) c e₁ e₂ e₃ e₄

-- an object of three keys, and of the members after them
pub object_four : (s₀ s₁ s₂ s₃ s₄ s₅ a b c d : List Token) (k l m : Token)
    → s₁ ≡ s₀ ++ begin_object ∷ [] → s₂ ≡ s₁ ++ k ∷ a → s₃ ≡ s₂ ++ l ∷ b → s₄ ≡ s₃ ++ m ∷ c → s₅ ≡ s₄ ++ d
    → s₅ ≡ s₀ ++ begin_object ∷ k ∷ (a ++ l ∷ (b ++ m ∷ (c ++ d)))
object_four s₀ s₁ s₂ s₃ s₄ s₅ a b c d k l m e₁ e₂ e₃ e₄ e₅ =
    five s₀ s₁ s₂ s₃ s₄ s₅ (begin_object ∷ []) (k ∷ a) (l ∷ b) (m ∷ c) d e₁ e₂ e₃ e₄ e₅

-- an object of four keys
pub object_five : (s₀ s₁ s₂ s₃ s₄ s₅ s₆ a b c d e : List Token) (k l m n : Token)
    → s₁ ≡ s₀ ++ begin_object ∷ [] → s₂ ≡ s₁ ++ k ∷ a → s₃ ≡ s₂ ++ l ∷ b → s₄ ≡ s₃ ++ m ∷ c → s₅ ≡ s₄ ++ n ∷ d → s₆ ≡ s₅ ++ e
    → s₆ ≡ s₀ ++ begin_object ∷ k ∷ (a ++ l ∷ (b ++ m ∷ (c ++ n ∷ (d ++ e))))
object_five s₀ s₁ s₂ s₃ s₄ s₅ s₆ a b c d e k l m n e₁ e₂ e₃ e₄ e₅ e₆ =
    six s₀ s₁ s₂ s₃ s₄ s₅ s₆ (begin_object ∷ []) (k ∷ a) (l ∷ b) (m ∷ c) (n ∷ d) e e₁ e₂ e₃ e₄ e₅ e₆

-- a key and its value
pub key_value : (s₀ s₁ s₂ a : List Token) (k : Token) → s₁ ≡ s₀ ++ k ∷ [] → s₂ ≡ s₁ ++ a → s₂ ≡ s₀ ++ k ∷ a
key_value s₀ s₁ s₂ a k e₁ e₂ = two s₀ s₁ s₂ (k ∷ []) a e₁ e₂

-- a key, and two more of which each may be missing
pub member_and_optional : (s₀ s₁ s₂ s₃ a : List Token) (k : Token) (name last : List ℕ) (d e : Option Data)
    → s₁ ≡ s₀ ++ k ∷ a → s₂ ≡ s₁ ++ optional_tokens name d → s₃ ≡ s₂ ++ members_tokens (member_if last e no_members)
    → s₃ ≡ s₀ ++ k ∷ (a ++ members_tokens (member_if name d (member_if last e no_members)))
member_and_optional s₀ s₁ s₂ s₃ a k name last d e e₁ e₂ e₃ =
    three s₀ s₁ s₂ s₃ (k ∷ a) (optional_tokens name d) (members_tokens (member_if last e no_members)) e₁ e₂ e₃
    ∙ ap (λ ts. s₀ ++ k ∷ (a ++ ts)) (sym (optional_member name d (member_if last e no_members)))

-- ---- lists

-- a list whose items were appended one by one
pub list_ends : (s₀ s₁ s₂ s₃ items : List Token)
    → s₁ ≡ s₀ ++ begin_array ∷ [] → s₂ ++ end_array ∷ [] ≡ s₁ ++ items → s₃ ≡ s₂ ++ end_array ∷ [] → s₃ ≡ s₀ ++ begin_array ∷ items
list_ends s₀ s₁ s₂ s₃ items e₁ e₂ e₃ = e₃ ∙ two s₀ s₁ (s₂ ++ end_array ∷ []) (begin_array ∷ []) items e₁ e₂

-- Lists that are written item by item, and values behind references.
use Rattle.std.proofs.Common.{◌≡◌, ◌<◌, ◌+◌, ℕ, Bool, true, false, if◌then◌else◌, List, [], ◌∷◌, ◌++◌, length, map, drop, get_or, Option, Some, None, option_copied, sym, ap, ◌∙◌, append_assoc}
use denote.Ref.{Bor}
use Rattle.std.proofs.lemmas.List.{drop_more}
use Rattle.json.specs.Token.{Token}
use Rattle.serde_json.specs.Data.{Data}
use Rattle.shell_print_json.specs.Tokens.{value_tokens, items_tokens}
use Rattle.shell_print_json.specs.Values.{or_null}
use Rattle.shell_face_print.specs.Tags.{is_printable_tag, printable_records}

-- a value behind a reference, or null, is the value or null
pub or_null_copied : {A : Type 0} (f : A → Data) (r : Option (Bor A)) (o : Option A) → option_copied r ≡ o → or_null (λ value. f value.now) r ≡ or_null f o
or_null_copied f None o e = ap (or_null f) e
or_null_copied f (Some value) o e = ap (or_null f) e

-- an item, and those after it
rest_from : {A : Type 0} (xs : List A) (i : ℕ) (x : A) → i < length xs → x ≡ get_or xs i x → x ∷ drop (i + 1) xs ≡ drop i xs
rest_from xs i x inside is = ap (λ y. y ∷ drop (i + 1) xs) is ∙ sym (drop_more xs i x inside)

-- an item more
pub list_step : {A : Type 0} (f : A → Data) (xs : List A) (i : ℕ) (x : A) (text next whole : List Token)
    → i < length xs → x ≡ get_or xs i x → text ++ items_tokens (map f (drop i xs)) ≡ whole → next ≡ text ++ value_tokens (f x)
    → next ++ items_tokens (map f (drop (i + 1) xs)) ≡ whole
list_step f xs i x text next whole inside is before grown =
    ap (λ t. t ++ items_tokens (map f (drop (i + 1) xs))) grown
    ∙ append_assoc text (value_tokens (f x)) (items_tokens (map f (drop (i + 1) xs)))
    ∙ ap (λ ys. text ++ items_tokens (map f ys)) (rest_from xs i x inside is) ∙ before

-- the records that are left, after one that is printable
pub printable_step : {A : Type 0} (f : A → Data) (tag_of : A → ℕ) (xs : List A) (i : ℕ) (x : A) (text next whole : List Token)
    → i < length xs → x ≡ get_or xs i x → is_printable_tag (record { 0 = tag_of x }) ≡ true
    → text ++ items_tokens (map f (printable_records tag_of (drop i xs))) ≡ whole → next ≡ text ++ value_tokens (f x)
    → next ++ items_tokens (map f (printable_records tag_of (drop (i + 1) xs))) ≡ whole
printable_step f tag_of xs i x text next whole inside is holds before grown =
    let rest = printable_records tag_of (drop (i + 1) xs) in
    ap (λ t. t ++ items_tokens (map f rest)) grown
    ∙ append_assoc text (value_tokens (f x)) (items_tokens (map f rest))
    ∙ ap (λ ys. text ++ items_tokens (map f ys)) (sym (ap (λ b. if b then x ∷ rest else rest) holds) ∙ ap (printable_records tag_of) (rest_from xs i x inside is))
    ∙ before

-- the records that are left, after one that isn't printable
pub unprintable_step : {A : Type 0} (f : A → Data) (tag_of : A → ℕ) (xs : List A) (i : ℕ) (x : A) (text whole : List Token)
    → i < length xs → x ≡ get_or xs i x → is_printable_tag (record { 0 = tag_of x }) ≡ false
    → text ++ items_tokens (map f (printable_records tag_of (drop i xs))) ≡ whole
    → text ++ items_tokens (map f (printable_records tag_of (drop (i + 1) xs))) ≡ whole
unprintable_step f tag_of xs i x text whole inside is fails before =
    let rest = printable_records tag_of (drop (i + 1) xs) in
    ap (λ ys. text ++ items_tokens (map f ys)) (sym (ap (λ b. if b then x ∷ rest else rest) fails) ∙ ap (printable_records tag_of) (rest_from xs i x inside is))
    ∙ before

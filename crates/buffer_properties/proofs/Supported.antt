-- Where the font has each character of a full expansion.
use Rattle.std.proofs.Common.{ℕ, zero, suc, ◌≡◌, ◌==◌, ◌||◌, Bool, true, List, [], ◌∷◌, Option, Some, None, option_map, sym, ap, ◌∙◌, inl, inr}
use Rattle.std.proofs.lemmas.Bool.{cases_Bool, cond-true, and_parts, or_left, or_right}
use Rattle.std.proofs.lemmas.List.Folds.{list_all-append}
use Rattle.std.specs.List.{list_all}
use Rattle.std.specs.Option.{option_or}
use Rattle.buffer_unicode_tables.specs.Expansion.{Splits, with_second_piece, by_halves, expansion_by_splits, ends_by, ends_within, EndWithin}
use Rattle.buffer_unicode_tables.specs.Tables.{Tables, split_of}
use Rattle.buffer_unicode_tables.specs.Texts.{full_expansion}
use Rattle.buffer_unicode_tables.proofs.Expansions.{expansion_of_pieces}
use Rattle.buffer_properties.specs.SupportedExpansion.{Reach, Greatest, alone, by_supported, supported_expansion, in_pieces}

all_followed : (has : ℕ → Bool) (b : ℕ) (front : List ℕ) → list_all has (with_second_piece b front) ≡ true → (list_all has front ≡ true) × ((b == 0 || has b) ≡ true)
all_followed has b front h =
    elim (cases_Bool (b == 0)) [
      | inl z ↦ (rw z at h, or_left (b == 0) (has b) z)
      | inr n ↦
          let pieces = and_parts (list_all has front) (list_all has (b ∷ [])) (sym (list_all-append has front (b ∷ [])) ∙ (rw n at h)) in
          let last = and_parts (has b) true pieces.1 in
          (pieces.0, or_right (b == 0) (has b) last.0)
    ]

-- a split is supported where the font has what its pieces expand to
pieces_supported : (has : ℕ → Bool) (expand : ℕ → Option (List ℕ)) (full : ℕ → List ℕ) (a b : ℕ) → list_all has (with_second_piece b (full a)) ≡ true
    → (list_all has (full a) ≡ true → expand a ≡ Some (full a)) → by_supported has expand (Some (a, b)) ≡ Some (with_second_piece b (full a))
pieces_supported has expand full a b h e =
    let pieces = all_followed has b (full a) h in
    cond-true _ _ _ pieces.1 ∙ ap (option_map (with_second_piece b)) (e pieces.0)

split_or_alone : (has : ℕ → Bool) (expand : ℕ → Option (List ℕ)) (full : ℕ → List ℕ) (ends : ℕ → Bool) (u : ℕ) (o : Option (ℕ × ℕ)) → ends_by ends o ≡ true → list_all has (by_halves full u o) ≡ true
    → ((a : ℕ) → ends a ≡ true → list_all has (full a) ≡ true → expand a ≡ Some (full a)) → option_or (by_supported has expand o) (alone has u) ≡ Some (by_halves full u o)
split_or_alone has expand full ends u None e h k = let pieces = and_parts (has u) true h in cond-true _ _ _ pieces.0
split_or_alone has expand full ends u (Some (a, b)) e h k = ap (λ p. option_or p (alone has u)) (pieces_supported has expand full a b h (k a e))

supported_full : (has : ℕ → Bool) (splits : Splits) (depth u : ℕ) → ends_within splits depth u ≡ true → list_all has (expansion_by_splits splits depth u) ≡ true → supported_expansion Greatest has splits depth u ≡ Some (expansion_by_splits splits depth u)
unfolding supported_expansion expansion_by_splits ends_within
supported_full has splits zero u e h = let pieces = and_parts (has u) true h in cond-true _ _ _ pieces.0
supported_full has splits (suc depth) u e h =
    split_or_alone has (supported_expansion Greatest has splits depth) (expansion_by_splits splits depth) (ends_within splits depth) u (splits u) e h (λ a. supported_full has splits depth a)

-- the greatest expansion of a character that splits is the full one
pub greatest_pieces : (has : ℕ → Bool) (t : Tables) (u a b : ℕ) → EndWithin (split_of t) 8 → split_of t u ≡ Some (a, b) → list_all has (full_expansion t u) ≡ true
    → in_pieces Greatest has (split_of t) u ≡ Some (full_expansion t u)
unfolding in_pieces
greatest_pieces has t u a b ends s h =
    let whole = expansion_of_pieces t u a b ends s in
    ap (by_supported has (supported_expansion Greatest has (split_of t) 8)) s
    ∙ (pieces_supported has (supported_expansion Greatest has (split_of t) 8) (full_expansion t) a b (ap (list_all has) (sym whole) ∙ h) (λ k. supported_full has (split_of t) 8 a (ends a) k)
    ∙ ap Some (sym whole))

-- a character that doesn't split has no pieces
pub no_pieces : (reach : Reach) (has : ℕ → Bool) (splits : Splits) (u : ℕ) → splits u ≡ None → in_pieces reach has splits u ≡ None
unfolding in_pieces
no_pieces reach has splits u s = ap (by_supported has (supported_expansion reach has splits 8)) s

-- pieces by splits that agree
pub pieces_agree : (reach : Reach) (has : ℕ → Bool) (f g : Splits) (u : ℕ) → ((v : ℕ) → f v ≡ g v) → in_pieces reach has f u ≡ in_pieces reach has g u
pieces_agree reach has f g u h =
    let e : f ≡ g = λ i. λ v. h v i in
    ap (λ s. in_pieces reach has s u) e

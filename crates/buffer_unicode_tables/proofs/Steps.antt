-- Steps between equivalent texts keep the class order of the full expansion.
use Rattle.std.proofs.Common.{ℕ, zero, suc, ◌≡◌, ◌≢◌, ◌==◌, true, false, List, [], ◌∷◌, ◌++◌, append_assoc, ne_eqb, eq-eqb, Option, Some, None, refl, sym, ap, ◌∙◌, inl, inr}
use Rattle.std.proofs.lemmas.Bool.{cases_eq}
use Rattle.std.proofs.lemmas.List.{append-nil}
use Rattle.std.proofs.lemmas.List.Concat.{flat_map-append}
use Rattle.buffer_unicode_tables.specs.ClassOrder.{beside_starters}
use Rattle.buffer_unicode_tables.specs.Expansion.{with_second_piece, by_halves, expansion_by_splits, EndWithin}
use Rattle.buffer_unicode_tables.specs.Lawful.{IsLawful, SplitsKeepClass}
use Rattle.buffer_unicode_tables.specs.Laws.{SplitsKeepExpansion, StepsKeepOrder, EquivalentsHaveOneOrder, PairsKeepOrder}
use Rattle.buffer_unicode_tables.proofs.Orders.{beside_starters-append, order_from_classes, classes_from_order}
use Rattle.buffer_unicode_tables.specs.Tables.{Tables, split_of, class_of}
use Rattle.buffer_unicode_tables.specs.Texts.{full_expansion, full_text, text_order, IsSwap, splits, joins, swaps, same, then_step}
use Rattle.buffer_unicode_tables.proofs.Expansions.{expansion_of_pieces, expansion_of_split}

pub full_append : (t : Tables) (xs ys : List ℕ) → full_text t (xs ++ ys) ≡ full_text t xs ++ full_text t ys
full_append t xs ys = flat_map-append (full_expansion t) xs ys

-- the halves of a decomposition have the expansion of the whole
whole_as_pieces : (t : Tables) (u a b : ℕ) → EndWithin (split_of t) 8 → IsLawful t → split_of t u ≡ Some (a, b) → full_expansion t u ≡ full_text t (with_second_piece b (a ∷ []))
whole_as_pieces t u a b ends lawful s =
    elim (cases_eq b 0) [
      | inl z ↦
          let at : (b == 0) ≡ true = eq-eqb b 0 z in
          let whole = expansion_of_pieces t u a b ends s in
          rw at (whole ∙ (rw at (sym (append-nil (full_expansion t a)))))
      | inr n ↦
          let off : (b == 0) ≡ false = ne_eqb b 0 n in
          let whole = expansion_of_split t u a b ends lawful.second_pieces_stay s n in
          rw off (whole ∙ ap (λ zs. full_expansion t a ++ zs) (sym (append-nil (full_expansion t b))))
    ]

pub splits_keep_expansion : SplitsKeepExpansion
splits_keep_expansion t ends lawful xs ys s =
    let pieces = with_second_piece s.second (s.first ∷ []) in
    let whole = whole_as_pieces t s.whole s.first s.second ends lawful s.splits in
    ap (full_text t) s.is_before
    ∙ (full_append t s.front (s.whole ∷ s.back)
    ∙ (ap (λ zs. full_text t s.front ++ (zs ++ full_text t s.back)) whole
    ∙ (ap (λ zs. full_text t s.front ++ zs) (sym (full_append t (with_second_piece s.second (s.first ∷ [])) s.back))
    ∙ (sym (full_append t s.front (with_second_piece s.second (s.first ∷ []) ++ s.back))
    ∙ ap (full_text t) (sym s.is_after)))))

-- each character has a class
abbrev AllOfClass : (ℕ → ℕ) → ℕ → List ℕ → Type 0
AllOfClass class k [] = Unit {0}
AllOfClass class k (x ∷ xs) = (class x ≡ k) × AllOfClass class k xs

all_push : (class : ℕ → ℕ) (k : ℕ) (xs : List ℕ) (b : ℕ) → AllOfClass class k xs → class b ≡ k → AllOfClass class k (xs ++ b ∷ [])
all_push class k [] b h e = (e, tt)
all_push class k (x ∷ xs) b h e = (h.0, all_push class k xs b h.1 e)

all_followed : (class : ℕ → ℕ) (k : ℕ) (xs : List ℕ) (b : ℕ) → AllOfClass class k xs → (b ≢ 0 → class b ≡ k) → AllOfClass class k (with_second_piece b xs)
all_followed class k xs b h e =
    elim (cases_eq b 0) [
      | inl z ↦ let at : (b == 0) ≡ true = eq-eqb b 0 z in rw at h
      | inr n ↦ let off : (b == 0) ≡ false = ne_eqb b 0 n in rw off (all_push class k xs b h (e n))
    ]

pieces_of_class : (class : ℕ → ℕ) (k : ℕ) (expand : ℕ → List ℕ) (u : ℕ) (o : Option (ℕ × ℕ)) → class u ≡ k → ((a b : ℕ) → o ≡ Some (a, b) → (AllOfClass class k (expand a)) × (b ≢ 0 → class b ≡ k)) → AllOfClass class k (by_halves expand u o)
pieces_of_class class k expand u None e h = (e, tt)
pieces_of_class class k expand u (Some (a, b)) e h = let pieces = h a b refl in all_followed class k (expand a) b pieces.0 pieces.1

-- what a character of nonzero class expands to has its class
expansion_of_class : (t : Tables) → SplitsKeepClass t → (k : ℕ) → k ≢ 0 → (depth u : ℕ) → class_of t u ≡ k → AllOfClass (class_of t) k (expansion_by_splits (split_of t) depth u)
unfolding expansion_by_splits
expansion_of_class t keeps k n zero u e = (e, tt)
expansion_of_class t keeps k n (suc depth) u e =
    pieces_of_class (class_of t) k (expansion_by_splits (split_of t) depth) u (split_of t u) e
    (λ a b s. let kept = keeps u a b s (λ z. n (sym e ∙ z)) in (expansion_of_class t keeps k n depth a (kept.0 ∙ e), λ m. kept.1 m ∙ e))

none_beside : (class : ℕ → ℕ) (k c : ℕ) (xs : List ℕ) → k ≢ 0 → k ≢ c → AllOfClass class k xs → beside_starters class c xs ≡ []
none_beside class k c [] n apart h = refl
none_beside class k c (x ∷ xs) n apart h =
    let starter : (class x == 0) ≡ false = ne_eqb (class x) 0 (λ z. n (sym h.0 ∙ z)) in
    let other : (class x == c) ≡ false = ne_eqb (class x) c (λ z. apart (sym h.0 ∙ z)) in
    rw (starter, other, none_beside class k c xs n apart h.1) refl

beside_three : (class : ℕ → ℕ) (c : ℕ) (front xs ys back : List ℕ) → beside_starters class c (front ++ (xs ++ (ys ++ back))) ≡ beside_starters class c front ++ (beside_starters class c xs ++ (beside_starters class c ys ++ beside_starters class c back))
beside_three class c front xs ys back =
    beside_starters-append class c front (xs ++ (ys ++ back))
    ∙ ap (λ zs. beside_starters class c front ++ zs) (beside_starters-append class c xs (ys ++ back) ∙ ap (λ zs. beside_starters class c xs ++ zs) (beside_starters-append class c ys back))

-- blocks of two nonzero classes may be exchanged
blocks_swap : (class : ℕ → ℕ) (j k : ℕ) (front xs ys back : List ℕ) → j ≢ 0 → k ≢ 0 → j ≢ k → AllOfClass class j xs → AllOfClass class k ys
    → (c : ℕ) → beside_starters class c (front ++ (xs ++ (ys ++ back))) ≡ beside_starters class c (front ++ (ys ++ (xs ++ back)))
blocks_swap class j k front xs ys back nj nk apart hx hy c =
    let left = beside_three class c front xs ys back in
    let right = beside_three class c front ys xs back in
    elim (cases_eq j c) [
      | inl at ↦
          let none = none_beside class k c ys nk (λ z. apart (at ∙ sym z)) hy in
          left ∙ (rw none refl ∙ sym right)
      | inr off ↦
          let none = none_beside class j c xs nj off hx in
          left ∙ (rw none refl ∙ sym right)
    ]

full_two : (t : Tables) (front : List ℕ) (x y : ℕ) (back : List ℕ) → full_text t (front ++ x ∷ y ∷ back) ≡ full_text t front ++ (full_expansion t x ++ (full_expansion t y ++ full_text t back))
full_two t front x y back = full_append t front (x ∷ y ∷ back)

swaps_keep_order : (t : Tables) → IsLawful t → (xs ys : List ℕ) → IsSwap t xs ys → text_order t (full_text t xs) ≡ text_order t (full_text t ys)
swaps_keep_order t lawful xs ys s =
    let first = expansion_of_class t lawful.splits_keep_class (class_of t s.first) s.first_nonzero 8 s.first refl in
    let second = expansion_of_class t lawful.splits_keep_class (class_of t s.second) s.second_nonzero 8 s.second refl in
    let agree = blocks_swap (class_of t) (class_of t s.first) (class_of t s.second) (full_text t s.front) (full_expansion t s.first) (full_expansion t s.second) (full_text t s.back) s.first_nonzero s.second_nonzero s.apart first second in
    let before = ap (full_text t) s.is_before ∙ full_two t s.front s.first s.second s.back in
    let after = ap (full_text t) s.is_after ∙ full_two t s.front s.second s.first s.back in
    ap (text_order t) before ∙ (order_from_classes (class_of t) _ _ agree ∙ sym (ap (text_order t) after))

pub steps_keep_order : StepsKeepOrder
steps_keep_order t ends lawful xs ys (splits s) = ap (text_order t) (splits_keep_expansion t ends lawful xs ys s)
steps_keep_order t ends lawful xs ys (joins s) = sym (ap (text_order t) (splits_keep_expansion t ends lawful ys xs s))
steps_keep_order t ends lawful xs ys (swaps s) = swaps_keep_order t lawful xs ys s

pub equivalents_have_one_order : EquivalentsHaveOneOrder
equivalents_have_one_order t ends lawful xs _ same = refl
equivalents_have_one_order t ends lawful xs _ (then_step ys zs h s) = equivalents_have_one_order t ends lawful xs ys h ∙ steps_keep_order t ends lawful ys zs s

beside_middle : (class : ℕ → ℕ) (c : ℕ) (front xs ys back : List ℕ) → beside_starters class c xs ≡ beside_starters class c ys → beside_starters class c (front ++ (xs ++ back)) ≡ beside_starters class c (front ++ (ys ++ back))
beside_middle class c front xs ys back e =
    beside_starters-append class c front (xs ++ back)
    ∙ (ap (λ zs. beside_starters class c front ++ zs) (beside_starters-append class c xs back ∙ (ap (λ zs. zs ++ beside_starters class c back) e ∙ sym (beside_starters-append class c ys back)))
    ∙ sym (beside_starters-append class c front (ys ++ back)))

pub pairs_keep_order : PairsKeepOrder
pairs_keep_order t lawful front back a b u e =
    let one = lawful.pairs_are_equivalent a b u e in
    let pair = full_expansion t a ++ full_expansion t b in
    let agree : (c : ℕ) → beside_starters (class_of t) c (full_text t front ++ (full_expansion t u ++ full_text t back)) ≡ beside_starters (class_of t) c (full_text t front ++ ((full_expansion t a ++ full_expansion t b) ++ full_text t back)) =
    λ c. beside_middle (class_of t) c (full_text t front) (full_expansion t u) (full_expansion t a ++ full_expansion t b) (full_text t back)
    (classes_from_order (class_of t) (full_expansion t u) (full_expansion t a ++ full_expansion t b) one c) in
    ap (text_order t) (full_append t front (u ∷ back))
    ∙ (order_from_classes (class_of t) _ _ agree
    ∙ sym (ap (text_order t) (full_two t front a b back ∙ ap (λ zs. full_text t front ++ zs) (sym (append_assoc (full_expansion t a) (full_expansion t b) (full_text t back))))))

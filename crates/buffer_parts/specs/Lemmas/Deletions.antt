-- In order, a deletion unites parts where the last item of one is deleted.
use Rattle.std.proofs.Common.{ℕ, ◌≡◌, ◌+◌, ◌||◌, ◌⊎◌, inl, inr, Bool, true, false, if◌then◌else◌, List, [], ◌∷◌, ◌++◌, Option, Some, None, take, drop, arith, refl, ap, sym, subst, ◌∙◌}
use Rattle.std.proofs.lemmas.Grind.{common_steps}
use Rattle.std.proofs.lemmas.List.{drop-drop, take-append-drop}
use Rattle.buffer_glyphs.specs.Parts.{first_of, last_of, is_number, numbers_without, after_part_events}
use Rattle.buffer_glyphs.specs.Order.{IsChain, IsInOrder, IsLeast}
use Rattle.buffer_glyphs.specs.Lemmas.Drawn.{last_more}
use Rattle.buffer_glyphs.specs.Lemmas.Numbers.{Has, MayHave, has_here, has_cases, has_right, has_either, has_first, has_last}
use Rattle.buffer_glyphs.specs.Lemmas.Parts.{Stands, keeps_order, keeps_numbers}
use Rattle.buffer_glyphs.specs.Lemmas.Ends.{from_has}
use Rattle.buffer_parts.specs.CharacterParts.{neighbour_union, deletion_union}
use Rattle.buffer_parts.specs.TextLaws.{DeletionsUniteTheLast, PartsFitText}
use Rattle.buffer_glyphs.specs.Lemmas.Merges.{stands_chain as in_chain, chain_right as chain_rest}
use Rattle.buffer_glyphs.proofs.Least.{is_number_has, may_left, may_right, none_beside, keeps_least, in_order}

-- neighbours of an item whose part has another are of that part
abbrev IsOne : (ℕ → ℕ → Type 0) → Type 0
IsOne R = (x y : ℕ) → R x y → R y x → x ≡ y

is_number_is : (m n : ℕ) → m ≡ n → is_number (Some m) n ≡ true
is_number_is m n e = grind (arith, common_steps, e)

number_before : (R : ℕ → ℕ → Type 0) → IsOne R → (n : ℕ) (front back : List ℕ) → IsChain R (front ++ n ∷ back) → Has front n → is_number (last_of front) n ≡ true
number_before R one n [] back c h = cc
number_before R one n (x ∷ []) back c h = elim (has_cases x n [] h) [ inl e ↦ is_number_is x n e | inr none ↦ cc ]
number_before R one n (x ∷ y ∷ ys) back c h =
    ap (λ o. is_number o n) (last_more x y ys)
    ∙ number_before R one n (y ∷ ys) back c.1 (elim (has_cases x n (y ∷ ys) h) [
      | inl e ↦
          let up : R n y = subst (λ (k : ℕ). R k y) e c.0.0 in
          let down : R y n = from_has R y n (ys ++ n ∷ back) c.1.0 (has_right n ys (n ∷ back) (has_here n back)) in
          subst (Has (y ∷ ys)) (sym (one n y up down)) (has_here y ys)
      | inr later ↦ later
    ])

number_after : (R : ℕ → ℕ → Type 0) → IsOne R → (n : ℕ) (back : List ℕ) → IsChain R (n ∷ back) → Has back n → is_number (first_of back) n ≡ true
number_after R one n [] c h = cc
number_after R one n (y ∷ ys) c h = elim (has_cases y n ys h) [
  | inl e ↦ is_number_is y n e
  | inr later ↦ is_number_is y n (one y n (from_has R y n ys c.1.0 later) c.0.0)
]

unites_none : (before after : Option ℕ) (n : ℕ) → (is_number before n ≡ true) ⊎ (is_number after n ≡ true) → deletion_union before (Some n) after ≡ None
unites_none before after n h = by_sides (is_number before n) (is_number after n) refl refl
  where
    by_sides : (s t : Bool) → is_number before n ≡ s → is_number after n ≡ t → (if s || t then None else neighbour_union before after n) ≡ None
    by_sides true t e d = refl
    by_sides false true e d = refl
    by_sides false false e d = elim h [ inl one ↦ cc | inr one ↦ cc ]

chain_unites_none : (R : ℕ → ℕ → Type 0) → IsOne R → (n : ℕ) (front back : List ℕ) → IsChain R (front ++ n ∷ back) → Has (front ++ back) n → deletion_union (last_of front) (Some n) (first_of back) ≡ None
chain_unites_none R one n front back c h = unites_none (last_of front) (first_of back) n (elim (has_either n front back h) [
  | inl there ↦ inl (number_before R one n front back c there)
  | inr there ↦ inr (number_after R one n back (chain_rest R front (n ∷ back) c) there)
])

stands_one : (falls : Bool) → IsOne (Stands falls)
stands_one false x y up down = omega (arith, up, down)
stands_one true x y up down = omega (arith, up, down)

cut_at : (at n : ℕ) (ns rest : List ℕ) → drop at ns ≡ rest → first_of rest ≡ Some n → ns ≡ take at ns ++ n ∷ drop (at + 1) ns
cut_at at n ns [] e f = cc
cut_at at n ns (m ∷ rest) e f =
    let same : m ≡ n = cc in
    let there : drop (at + 1) ns ≡ rest = sym (drop-drop 1 at ns) ∙ ap (drop 1) e in
    sym (take-append-drop at ns) ∙ ap (λ xs. take at ns ++ xs) (e ∙ ap (λ k. k ∷ rest) same ∙ ap (λ xs. n ∷ xs) (sym there))

unites_the_last : (before after : Option ℕ) (n : ℕ) (others : List ℕ) → MayHave others before → MayHave others after → (before ≡ None → after ≡ None → others ≡ []) → deletion_union before (Some n) after ≡ None → Has others n ⊎ (others ≡ [])
unites_the_last before after n others b a none e = by_sides (is_number before n) (is_number after n) refl refl e
  where
    alone : (p q : Option ℕ) → (p ≡ None → q ≡ None → others ≡ []) → neighbour_union p q n ≡ None → Has others n ⊎ (others ≡ [])
    alone (Some p) q f d = cc
    alone None (Some q) f d = cc
    alone None None f d = inr (f refl refl)

    by_sides : (s t : Bool) → is_number before n ≡ s → is_number after n ≡ t → (if s || t then None else neighbour_union before after n) ≡ None → Has others n ⊎ (others ≡ [])
    by_sides true t p q d = inl (is_number_has before n others p b)
    by_sides false true p q d = inl (is_number_has after n others q a)
    by_sides false false p q d = alone before after none d

pub deletions_unite_the_last : DeletionsUniteTheLast
deletions_unite_the_last falls at n ns o here = (
  λ h. ap (λ x. deletion_union (last_of (take at ns)) x (first_of (drop (at + 1) ns))) here
      ∙ chain_unites_none (Stands falls) (stands_one falls) n (take at ns) (drop (at + 1) ns) (subst (IsChain (Stands falls)) (cut_at at n ns (drop at ns) refl here) (in_chain falls ns o)) h,
  λ none. unites_the_last (last_of (take at ns)) (first_of (drop (at + 1) ns)) n (numbers_without at ns)
      (may_left (last_of (take at ns)) (take at ns) (drop (at + 1) ns) (has_last (take at ns)))
      (may_right (first_of (drop (at + 1) ns)) (take at ns) (drop (at + 1) ns) (has_first (drop (at + 1) ns)))
      (none_beside (take at ns) (drop (at + 1) ns))
      (ap (λ x. deletion_union (last_of (take at ns)) x (first_of (drop (at + 1) ns))) (sym here) ∙ none),
)

-- ---- clusters fit the text

least_zero : (ns : List ℕ) → Has ns 0 → IsLeast 0 ns
least_zero ns h = record { among = h; below = λ n has. omega arith }

pub parts_fit_text : PartsFitText
parts_fit_text es falls starts o g some h = record {
  ordered = in_order _ (after_part_events es starts) (keeps_order es falls starts o);
  starting = keeps_numbers es starts;
  zero_there = (keeps_least es falls starts 0 g o (least_zero starts h) some).among;
}

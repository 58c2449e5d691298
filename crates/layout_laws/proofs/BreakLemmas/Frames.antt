-- Cuts in a longer list.
use Rattle.std.proofs.Common.{ℕ, ◌≡◌, ◌≤◌, ◌<◌, ◌+◌, inl, inr, List, [], ◌∷◌, ◌++◌, length, map, take, drop, reverse, arith, refl, ap, sym, subst, ◌∙◌, append_assoc}
use Rattle.std.proofs.lemmas.List.{map-append, length-map, length-append, reverse-append, take-append-drop}
use Rattle.buffer_glyphs.specs.Items.{Item}
use Rattle.buffer_stages.specs.Actions.{Cut, whole}
use Rattle.buffer_parts.specs.Breaks.Fragments.{with_ligature_renamed, AreGiven, IsNaming}
use Rattle.layout_laws.specs.Breaks.Frames.{Outside, Inside, named_items, framed_cut, AreForeign, IsFramed, IsExtended}

-- ---- pieces of a framed cut

pub front_joined : (o : Outside) (s : Inside) (xs ys : List Item) → o.before ++ named_items s xs ++ named_items s ys ≡ o.before ++ named_items s (xs ++ ys)
front_joined o s xs ys = append_assoc o.before (named_items s xs) (named_items s ys) ∙ ap (λ (zs : List Item). o.before ++ zs) (sym (map-append (with_ligature_renamed s.name) xs ys))

pub front_long : (o : Outside) (s : Inside) (xs : List Item) → length (o.before ++ named_items s xs) ≡ length o.before + length xs
front_long o s xs = length-append o.before (named_items s xs) ∙ ap (λ (n : ℕ). length o.before + n) (length-map xs (with_ligature_renamed s.name))

pub rest_long : (o : Outside) (s : Inside) (xs : List Item) → length (named_items s xs ++ o.after) ≡ length xs + length o.after
rest_long o s xs = length-append (named_items s xs) o.after ∙ ap (λ (n : ℕ). n + length o.after) (length-map xs (with_ligature_renamed s.name))

pub whole_framed : (o : Outside) (s : Inside) (c : Cut) → whole (framed_cut o s c) ≡ o.before ++ (named_items s (whole c) ++ o.after)
whole_framed o s c =
    append_assoc o.before (named_items s c.front) (named_items s c.rest ++ o.after)
    ∙ ap (λ (zs : List Item). o.before ++ zs) (sym (append_assoc (named_items s c.front) (named_items s c.rest) o.after) ∙ ap (λ (zs : List Item). zs ++ o.after) (sym (map-append (with_ligature_renamed s.name) c.front c.rest)))

pub whole_long : (o : Outside) (s : Inside) (c : Cut) → length (whole (framed_cut o s c)) ≡ length o.before + length (whole c) + length o.after
whole_long o s c =
    let inner = rest_long o s (whole c) in
    let all = length-append o.before (named_items s (whole c) ++ o.after) in
    omega (arith, ap (λ (zs : List Item). length zs) (whole_framed o s c), all, inner)

pub reverse_named : (g : Item → Item) (xs : List Item) → reverse (map g xs) ≡ map g (reverse xs)
reverse_named g [] = refl
reverse_named g (x ∷ xs) =
    reverse-append (g x ∷ []) (map g xs) ∙ ap (λ (ys : List Item). ys ++ g x ∷ []) (reverse_named g xs) ∙ sym (map-append g (reverse xs) (x ∷ [])) ∙ ap (map g) (sym (reverse-append (x ∷ []) xs))

-- the items before a cut, the nearest first
pub backward_framed : (o : Outside) (s : Inside) (xs : List Item) → reverse (o.before ++ named_items s xs) ≡ named_items s (reverse xs) ++ reverse o.before
backward_framed o s xs = reverse-append o.before (named_items s xs) ∙ ap (λ (ys : List Item). ys ++ reverse o.before) (reverse_named (with_ligature_renamed s.name) xs)

-- ---- what holds at a cut before an item

pub at_item : (Q : Cut → Type 0) (c : Cut) → 0 < length c.rest → ((x : Item) (xs : List Item) → Q (record c { rest = x ∷ xs })) → Q c
at_item Q c some k = by_rest c.rest refl
  where
    by_rest : (ys : List Item) → c.rest ≡ ys → Q c
    by_rest [] e = let none : 0 < length {A = Item} [] = subst (λ (zs : List Item). 0 < length zs) e some in absurd (omega (arith, none))
    by_rest (y ∷ ys) e = subst (λ (zs : List Item). Q (record c { rest = zs })) (sym e) (k y ys)

-- ---- ligature numbers that were given

pub given_both : (last : ℕ) (xs ys : List Item) → AreGiven last xs → AreGiven last ys → AreGiven last (xs ++ ys)
given_both last [] ys h k = k
given_both last (x ∷ xs) ys h k = (h.0, given_both last xs ys h.1 k)

pub given_first : (last : ℕ) (xs ys : List Item) → AreGiven last (xs ++ ys) → AreGiven last xs
given_first last [] ys h = tt
given_first last (x ∷ xs) ys h = (h.0, given_first last xs ys h.1)

pub given_more : (last next : ℕ) (xs : List Item) → last ≤ next → AreGiven last xs → AreGiven next xs
given_more last next [] le h = tt
given_more last next (x ∷ xs) le h = (omega (arith, le, h.0), given_more last next xs le h.1)

-- a fragment with other items, of numbers that were given, is framed as it was
pub still_framed : (o : Outside) (s : Inside) (c d : Cut) → d.lig_id ≡ c.lig_id → AreGiven c.lig_id d.front → AreGiven c.lig_id d.rest → IsFramed o s c → IsFramed o s d
still_framed o s c d e front rest h = record {
  names = subst (λ (n : ℕ). IsNaming s.name n s.lig_id) (sym e) h.names;
  front = subst (λ (n : ℕ). AreGiven n d.front) (sym e) front;
  rest = subst (λ (n : ℕ). AreGiven n d.rest) (sym e) rest;
  before = h.before;
  after = h.after;
  foreign_before = subst (λ (n : ℕ). AreForeign s.name n o.before) (sym e) h.foreign_before;
  foreign_after = subst (λ (n : ℕ). AreForeign s.name n o.after) (sym e) h.foreign_after;
  some = h.some;
}

-- no number was given
pub same_extended : (s : Inside) (c d : Cut) → d.lig_id ≡ c.lig_id → IsExtended s c s d
same_extended s c d e = record { up = omega arith; names = λ n le. inl (omega (arith, le, e), refl) }

pub extended_twice : (s t u : Inside) (c d e : Cut) → IsExtended s c t d → IsExtended t d u e → IsExtended s c u e
extended_twice s t u c d e h k = record {
  up = omega (arith, h.up, k.up);
  names = λ n le. elim (k.names n le) [
    | inl old ↦ elim (h.names n old.0) [
      | inl older ↦ inl (older.0, old.1 ∙ older.1)
      | inr new ↦ inr (omega (arith, new, old.1))
    ]
    | inr new ↦ inr (omega (arith, new, h.up))
  ];
}

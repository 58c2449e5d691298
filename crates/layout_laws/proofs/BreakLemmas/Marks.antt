-- Attachment of marks is local.
use Rattle.std.proofs.Common.{ℕ, zero, suc, ◌≡◌, ◌≤◌, ◌<◌, ◌+◌, ◌-◌, ◌==◌, ◌&&◌, ◌||◌, inl, inr, Bool, true, false, not, nat_lt, min, if◌then◌else◌, List, [], ◌∷◌, ◌++◌, Option, Some, None, Result, Ok, Err, length, map, reverse, set, arith, refl, ap, sym, subst, ◌∙◌}
use Rattle.std.specs.Prelude.{slice_get}
use Rattle.std.proofs.lemmas.Grind.{common_steps}
use Rattle.std.proofs.lemmas.List.{length-append, length-set, length-reverse, reverse-append}
use Rattle.std.proofs.lemmas.Option.{slice_get_within}
use Rattle.buffer_glyphs.specs.Items.{Item, Position}
use Rattle.buffer_glyphs.specs.LigatureWords.{is_mark, is_multiplied, lig_comp, lig_id}
use Rattle.buffer_glyphs.specs.Events.{Break}
use Rattle.buffer_glyphs.specs.Parts.{first_of}
use Rattle.buffer_rows.specs.Keys.{row_of}
use Rattle.layout_common.specs.Rows.{value_of}
use Rattle.layout_tables.specs.Marks.{base_anchor, component_anchor, component_count}
use Rattle.layout_tables.specs.declared.value.Anchor.{Anchor}
use Rattle.layout_tables.specs.declared.mark.BaseRow.{BaseRow}
use Rattle.layout_tables.specs.declared.mark.LigatureRow.{LigatureRow}
use Rattle.layout_tables.specs.declared.mark.MarkBasePos.{MarkBasePos}
use Rattle.layout_tables.specs.declared.mark.MarkLigPos.{MarkLigPos}
use Rattle.layout_tables.specs.declared.mark.MarkRecord.{MarkRecord}
use Rattle.buffer_stages.specs.Actions.{Cut, whole, Action, attempt_around}
use Rattle.layout_offsets.specs.Links.{position_at, is_near, link_to}
use Rattle.layout_match.specs.Applied.{ApplyContext, own_search}
use Rattle.layout_match.specs.Matches.{nearest_from}
use Rattle.layout_match.specs.Searches.{Search, is_skippable}
use Rattle.layout_gpos.specs.Anchors.{anchored_position, with_mark_attached, with_attachment_flag}
use Rattle.layout_gpos.specs.Moving.{break_around}
use Rattle.layout_gpos.specs.Marks.{any_item, item_before, without_marks, among_marks, is_later_component, is_match, is_ligature_item, is_base_item, nearest_taken, base_before, ligature_before, attach_if, is_there, with_found, on_base, mark_on_base, mark_to_base, component_in, on_component, on_ligature, mark_on_ligature, mark_to_ligature, is_own_ligature, belong_together, on_mark, mark_on_mark, mark_to_mark}
use Rattle.buffer_parts.specs.Breaks.Fragments.{with_ligature_renamed, IsNaming, AreGiven}
use Rattle.layout_laws.specs.Breaks.Matching.{IsBlind, FindsSame}
use Rattle.layout_laws.specs.Breaks.Frames.{Outside, Inside, framed_cut, AreForeign, IsFramed}
use Rattle.layout_laws.specs.Breaks.Local.{IsBeside, IsLocal}
use Rattle.layout_laws.specs.Breaks.Positioned.{LeadInside, continues, AreApart, ArePlaced, around}
use Rattle.layout_laws.proofs.BreakLemmas.Words.{number_named, component_named}
use Rattle.layout_laws.proofs.BreakLemmas.Blind.{answer_blind}
use Rattle.layout_laws.proofs.BreakLemmas.Singles.{same_test, none_named}
use Rattle.layout_laws.proofs.BreakLemmas.Frames.{front_long, backward_framed, given_both}
use Rattle.layout_laws.proofs.BreakLemmas.Matching.{searches_from_agree, none_before}
use Rattle.layout_laws.proofs.BreakLemmas.Outcomes.{at_first_local}
use Rattle.layout_laws.proofs.BreakLemmas.Placed.{change_around, near_farther, link_farther, leads_set, acted_beside, range_same, item_named}
use Rattle.layout_laws.proofs.BreakLemmas.Components.{item_given as given_at}
use Rattle.buffer_parts.proofs.BreakLemmas.Apart.{differs as other_test}
use Rattle.buffer_facts.proofs.Numbers.{same_by_test as equal_test, test_of_same as test_equal}

-- ---- an attached mark

mark_around : (o : Outside) (n i j at to : ℕ) (base mark : Anchor) (ps : List Position) → length o.left ≡ n → i < length ps → at ≡ n + i → to ≡ n + j → with_mark_attached at to base mark (around o ps) ≡ around o (with_mark_attached i j base mark ps)
mark_around o n i j at to base mark ps e lt same other =
    ap (λ (m : ℕ). with_mark_attached m to base mark (around o ps)) same ∙ ap (λ (m : ℕ). with_mark_attached (n + i) m base mark (around o ps)) other
    ∙ ap (λ (near : Bool). if near then set (around o ps) (n + i) (anchored_position base mark (link_to (n + i) (n + j)) (position_at (n + i) (around o ps))) else around o ps) (near_farther n i j) ∙ by_near (is_near i j)
  where
    by_near : (near : Bool) → (if near then set (around o ps) (n + i) (anchored_position base mark (link_to (n + i) (n + j)) (position_at (n + i) (around o ps))) else around o ps) ≡ around o (if near then set ps i (anchored_position base mark (link_to i j) (position_at i ps)) else ps)
    by_near true = ap (λ l. set (around o ps) (n + i) (anchored_position base mark l (position_at (n + i) (around o ps)))) (link_farther n i j) ∙ change_around o (anchored_position base mark (link_to i j)) ps n i e lt
    by_near false = refl

pub mark_long : (i j : ℕ) (base mark : Anchor) (ps : List Position) → length (with_mark_attached i j base mark ps) ≡ length ps
mark_long i j base mark ps = by_near (is_near i j)
  where
    by_near : (near : Bool) → length (if near then set ps i (anchored_position base mark (link_to i j) (position_at i ps)) else ps) ≡ length ps
    by_near true = length-set ps i (anchored_position base mark (link_to i j) (position_at i ps))
    by_near false = refl

mark_links : (i j : ℕ) (base mark : Anchor) (ps : List Position) → j < length ps → LeadInside ps → LeadInside (with_mark_attached i j base mark ps)
mark_links i j base mark ps lt h = by_near (is_near i j) refl
  where
    by_near : (near : Bool) → is_near i j ≡ near → LeadInside (if near then set ps i (anchored_position base mark (link_to i j) (position_at i ps)) else ps)
    by_near true e = leads_set ps i (anchored_position base mark (link_to i j) (position_at i ps)) h (inr (j, lt, e, refl))
    by_near false e = h

-- ---- numbers of ligatures under other names

same_numbers : (name : ℕ → ℕ) (last given : ℕ) → IsNaming name last given → (x y : Item) → lig_id x ≤ last → lig_id y ≤ last → (lig_id (with_ligature_renamed name x) == lig_id (with_ligature_renamed name y)) ≡ (lig_id x == lig_id y)
same_numbers name last given names x y le more =
    ap (λ (n : ℕ). n == lig_id (with_ligature_renamed name y)) (number_named name x) ∙ ap (λ (n : ℕ). name (lig_id x) == n) (number_named name y)
    ∙ same_test (name (lig_id x)) (name (lig_id y)) (lig_id x) (lig_id y) (λ e. names.apart (lig_id x) (lig_id y) le more e) (λ e. ap name e)

no_number : (name : ℕ → ℕ) (last given : ℕ) → IsNaming name last given → (x : Item) → lig_id x ≤ last → (lig_id (with_ligature_renamed name x) == 0) ≡ (lig_id x == 0)
no_number name last given names x le = ap (λ (n : ℕ). n == 0) (number_named name x) ∙ none_named name last given (lig_id x) names le

later_named : (name : ℕ → ℕ) (last given : ℕ) → IsNaming name last given → (x y : Item) → lig_id x ≤ last → lig_id y ≤ last → is_later_component (Some (with_ligature_renamed name y)) (with_ligature_renamed name x) ≡ is_later_component (Some y) x
later_named name last given names x y le more =
    let z = with_ligature_renamed name x in
    let w = with_ligature_renamed name y in
    ap (λ (b : Bool). is_multiplied x && is_multiplied y && not (is_mark y) && b && nat_lt 0 (lig_comp z) && lig_comp w == lig_comp z - 1) (same_numbers name last given names x y le more)
    ∙ ap (λ (n : ℕ). is_multiplied x && is_multiplied y && not (is_mark y) && lig_id x == lig_id y && nat_lt 0 n && lig_comp w == n - 1) (component_named name x)
    ∙ ap (λ (n : ℕ). is_multiplied x && is_multiplied y && not (is_mark y) && lig_id x == lig_id y && nat_lt 0 (lig_comp x) && n == lig_comp x - 1) (component_named name y)

never : (a b c d e : Bool) → (a && b && c && false && d && e) ≡ false
never true true true d e = refl
never true true false d e = refl
never true false c d e = refl
never false b c d e = refl

-- an item of the fragment is no later component of one before it, as it is none where both have no number
foreign_apart : (name : ℕ → ℕ) (last given : ℕ) → IsNaming name last given → (x y : Item) → lig_id x ≤ last → ((n : ℕ) → n ≤ last → name n ≡ lig_id y → n ≡ 0) → continues y x ≡ false → is_later_component (Some y) (with_ligature_renamed name x) ≡ false
foreign_apart name last given names x y le foreign apart =
    let z = with_ligature_renamed name x in
    ap (λ (n : ℕ). is_multiplied x && is_multiplied y && not (is_mark y) && n == lig_id y && nat_lt 0 (lig_comp z) && lig_comp y == lig_comp z - 1) (number_named name x)
    ∙ ap (λ (n : ℕ). is_multiplied x && is_multiplied y && not (is_mark y) && name (lig_id x) == lig_id y && nat_lt 0 n && lig_comp y == n - 1) (component_named name x)
    ∙ by_number (lig_id x == 0) refl apart
  where
    by_number : (t : Bool) → (lig_id x == 0) ≡ t → (t && is_later_component (Some y) x) ≡ false → (is_multiplied x && is_multiplied y && not (is_mark y) && name (lig_id x) == lig_id y && nat_lt 0 (lig_comp x) && lig_comp y == lig_comp x - 1) ≡ false
    by_number true e f =
        let none : lig_id x ≡ 0 = equal_test (lig_id x) 0 e in
        ap (λ (n : ℕ). is_multiplied x && is_multiplied y && not (is_mark y) && n == lig_id y && nat_lt 0 (lig_comp x) && lig_comp y == lig_comp x - 1) (ap name none ∙ names.none ∙ sym none) ∙ f
    by_number false e f =
        let other : (name (lig_id x) == lig_id y) ≡ false = other_test (name (lig_id x)) (lig_id y) (λ same. let yes = test_equal (lig_id x) 0 (foreign (lig_id x) le same) in cc) in
        ap (λ (b : Bool). is_multiplied x && is_multiplied y && not (is_mark y) && b && nat_lt 0 (lig_comp x) && lig_comp y == lig_comp x - 1) other ∙ never (is_multiplied x) (is_multiplied y) (not (is_mark y)) (nat_lt 0 (lig_comp x)) (lig_comp y == lig_comp x - 1)

-- ---- searches for a base or a ligature

rises_by_test : (b : Bool) (at i : ℕ) (r : Result ℕ ℕ) → (r ≡ Ok i → at + 1 ≤ i) → (if b then Ok at else r) ≡ Ok i → at ≤ i
rises_by_test true at i r h e = let same : at ≡ i = cc in omega (arith, same)
rises_by_test false at i r h e = let up = h e in omega (arith, up)

taken_rises : (takes : Item → Option Item → Bool) (at i : ℕ) (xs : List Item) → nearest_taken takes at xs ≡ Ok i → at ≤ i
taken_rises takes at i [] e = cc
taken_rises takes at i (x ∷ xs) e = rises_by_test (takes x (first_of xs)) at i (nearest_taken takes (at + 1) xs) (λ h. taken_rises takes (at + 1) i xs h) e

same_by_test : (b : Bool) (at n : ℕ) (r s : Result ℕ ℕ) → at < n → FindsSame n r s → FindsSame n (if b then Ok at else r) (if b then Ok at else s)
same_by_test true at n r s lt h = (refl, lt)
same_by_test false at n r s lt h = h

-- a search takes items of a fragment in a text as it takes them alone
abbrev TakesSame : (Item → Option Item → Bool) → (ℕ → ℕ) → ℕ → Type 0
TakesSame takes f last = (x y : Item) → lig_id x ≤ last → lig_id y ≤ last → takes (with_ligature_renamed f x) (Some (with_ligature_renamed f y)) ≡ takes x (Some y)

-- and the last one, the item after which is outside
abbrev EndsSame : (Item → Option Item → Bool) → (ℕ → ℕ) → List Item → List Item → Type 0
EndsSame takes f [] ys = Unit {0}
EndsSame takes f (x ∷ []) ys = takes (with_ligature_renamed f x) (first_of ys) ≡ takes x None
EndsSame takes f (x ∷ y ∷ xs) ys = EndsSame takes f (y ∷ xs) ys

taken_agrees : (takes : Item → Option Item → Bool) (f : ℕ → ℕ) (last at n : ℕ) (xs ys : List Item) → TakesSame takes f last → AreGiven last xs → EndsSame takes f xs ys → n ≡ at + length xs
    → FindsSame n (nearest_taken takes at (map (with_ligature_renamed f) xs ++ ys)) (nearest_taken takes at xs)
taken_agrees takes f last at n [] ys inner given ends e = none_before n (nearest_taken takes at ys) at (λ i h. let up = taken_rises takes at i ys h in omega (arith, e, up))
taken_agrees takes f last at n (x ∷ []) ys inner given ends e =
    subst (λ (b : Bool). FindsSame n (if b then Ok at else nearest_taken takes (at + 1) ys) (if takes x None then Ok at else Err (at + 1))) (sym ends)
    (same_by_test (takes x None) at n (nearest_taken takes (at + 1) ys) (Err (at + 1)) (omega (arith, e)) (none_before n (nearest_taken takes (at + 1) ys) (at + 1) (λ i h. let up = taken_rises takes (at + 1) i ys h in omega (arith, e, up))))
taken_agrees takes f last at n (x ∷ y ∷ xs) ys inner given ends e =
    let r = nearest_taken takes (at + 1) (map (with_ligature_renamed f) (y ∷ xs) ++ ys) in
    let s = nearest_taken takes (at + 1) (y ∷ xs) in
    subst (λ (b : Bool). FindsSame n (if b then Ok at else r) (if takes x (Some y) then Ok at else s)) (sym (inner x y given.0 given.1.0))
    (same_by_test (takes x (Some y)) at n r s (omega (arith, e)) (taken_agrees takes f last (at + 1) n (y ∷ xs) ys inner given.1 ends (omega (arith, e))))

-- ---- the item before the fragment

abbrev last_of : List Item → Option Item
last_of [] = None
last_of (x ∷ []) = Some x
last_of (x ∷ y ∷ xs) = last_of (y ∷ xs)

last_pushed : (xs : List Item) (x : Item) → last_of (xs ++ x ∷ []) ≡ Some x
last_pushed [] x = refl
last_pushed (y ∷ []) x = refl
last_pushed (y ∷ z ∷ xs) x = last_pushed (z ∷ xs) x

-- the item that stands last, the nearest first, is the first of the fragment
apart_last : (before : Option Item) (front rest : List Item) → AreApart before (first_of (front ++ rest)) → AreApart before (last_of (reverse front))
apart_last None front rest h = tt
apart_last (Some y) [] rest h = tt
apart_last (Some y) (x ∷ xs) rest h =
    let last : last_of (reverse (x ∷ xs)) ≡ Some x = ap last_of (reverse-append (x ∷ []) xs) ∙ last_pushed (reverse xs) x in
    subst (AreApart (Some y)) (sym last) h

foreign_both : (name : ℕ → ℕ) (last : ℕ) (xs ys : List Item) → AreForeign name last xs → AreForeign name last ys → AreForeign name last (xs ++ ys)
foreign_both name last [] ys h k = k
foreign_both name last (x ∷ xs) ys h k = (h.0, foreign_both name last xs ys h.1 k)

foreign_reverse : (name : ℕ → ℕ) (last : ℕ) (xs : List Item) → AreForeign name last xs → AreForeign name last (reverse xs)
foreign_reverse name last [] h = tt
foreign_reverse name last (x ∷ xs) h = subst (AreForeign name last) (sym (reverse-append (x ∷ []) xs)) (foreign_both name last (reverse xs) (x ∷ []) (foreign_reverse name last xs h.1) (h.0, tt))

pub given_reverse : (last : ℕ) (xs : List Item) → AreGiven last xs → AreGiven last (reverse xs)
given_reverse last [] h = tt
given_reverse last (x ∷ xs) h = subst (AreGiven last) (sym (reverse-append (x ∷ []) xs)) (given_both last (reverse xs) (x ∷ []) (given_reverse last xs h.1) (h.0, tt))

slice_get_none : (xs : List Item) (i : ℕ) → slice_get xs i ≡ None → length xs ≤ i
slice_get_none [] i e = omega arith
slice_get_none (x ∷ xs) zero e = cc
slice_get_none (x ∷ xs) (suc i) e = omega (arith, slice_get_none xs i e)

-- ---- bases and ligatures

any_blind : (t : Search) → IsBlind (any_item t)
any_blind t = answer_blind t (λ x. not (is_skippable t x)) (λ f x. refl)

base_same : (t : Search) (name : ℕ → ℕ) (last given : ℕ) → IsNaming name last given → TakesSame (is_base_item t) name last
base_same t name last given names x y le more =
    let z = with_ligature_renamed name x in
    let w = with_ligature_renamed name y in
    ap (λ m. is_match m && not (is_later_component (Some w) z)) (any_blind t name x) ∙ ap (λ (b : Bool). is_match (any_item t x) && not b) (later_named name last given names x y le more)

base_ends : (t : Search) (name : ℕ → ℕ) (last given : ℕ) → IsNaming name last given → (xs ys : List Item) → AreGiven last xs → AreForeign name last ys → AreApart (first_of ys) (last_of xs) → EndsSame (is_base_item t) name xs ys
base_ends t name last given names [] ys h foreign apart = tt
base_ends t name last given names (x ∷ []) [] h foreign apart = ap (λ m. is_match m && not false) (any_blind t name x)
base_ends t name last given names (x ∷ []) (y ∷ ys) h foreign apart =
    let z = with_ligature_renamed name x in
    ap (λ m. is_match m && not (is_later_component (Some y) z)) (any_blind t name x) ∙ ap (λ (b : Bool). is_match (any_item t x) && not b) (foreign_apart name last given names x y h.0 foreign.0 apart)
base_ends t name last given names (x ∷ w ∷ xs) ys h foreign apart = base_ends t name last given names (w ∷ xs) ys h.1 foreign apart

ligature_same : (t : Search) (name : ℕ → ℕ) (last : ℕ) → TakesSame (is_ligature_item t) name last
ligature_same t name last x y le more = ap is_match (any_blind t name x)

ligature_ends : (t : Search) (name : ℕ → ℕ) (xs ys : List Item) → EndsSame (is_ligature_item t) name xs ys
ligature_ends t name [] ys = tt
ligature_ends t name (x ∷ []) ys = ap is_match (any_blind t name x)
ligature_ends t name (x ∷ w ∷ xs) ys = ligature_ends t name (w ∷ xs) ys

together_named : (name : ℕ → ℕ) (last given : ℕ) → IsNaming name last given → (x y : Item) → lig_id x ≤ last → lig_id y ≤ last → belong_together (with_ligature_renamed name x) (with_ligature_renamed name y) ≡ belong_together x y
together_named name last given names x y le more =
    let z = with_ligature_renamed name x in
    let w = with_ligature_renamed name y in
    let none_x = no_number name last given names x le in
    let none_y = no_number name last given names y more in
    ap (λ (b : Bool). if b then lig_id z == 0 || lig_comp z == lig_comp w else is_own_ligature z || is_own_ligature w) (same_numbers name last given names x y le more)
    ∙ ap (λ (b : Bool). if lig_id x == lig_id y then b || lig_comp z == lig_comp w else (not b && lig_comp z == 0) || is_own_ligature w) none_x
    ∙ ap (λ (b : Bool). if lig_id x == lig_id y then lig_id x == 0 || lig_comp z == lig_comp w else (not (lig_id x == 0) && lig_comp z == 0) || (not b && lig_comp w == 0)) none_y
    ∙ ap (λ (n : ℕ). if lig_id x == lig_id y then lig_id x == 0 || n == lig_comp w else (not (lig_id x == 0) && n == 0) || (not (lig_id y == 0) && lig_comp w == 0)) (component_named name x)
    ∙ ap (λ (n : ℕ). if lig_id x == lig_id y then lig_id x == 0 || lig_comp x == n else (not (lig_id x == 0) && lig_comp x == 0) || (not (lig_id y == 0) && n == 0)) (component_named name y)

component_same : (name : ℕ → ℕ) (last given : ℕ) → IsNaming name last given → (count : Option ℕ) (l x : Item) → lig_id l ≤ last → lig_id x ≤ last → component_in count (with_ligature_renamed name l) (with_ligature_renamed name x) ≡ component_in count l x
component_same name last given names None l x le more = refl
component_same name last given names (Some n) l x le more =
    let z = with_ligature_renamed name l in
    let w = with_ligature_renamed name x in
    ap (λ (k : ℕ). if n == 0 then None else Some k)
    (ap (λ (b : Bool). if b && not (lig_id z == 0) && nat_lt 0 (lig_comp w) then min (lig_comp w) n - 1 else n - 1) (same_numbers name last given names l x le more)
    ∙ ap (λ (b : Bool). if lig_id l == lig_id x && not b && nat_lt 0 (lig_comp w) then min (lig_comp w) n - 1 else n - 1) (no_number name last given names l le)
    ∙ ap (λ (k : ℕ). if lig_id l == lig_id x && not (lig_id l == 0) && nat_lt 0 k then min k n - 1 else n - 1) (component_named name x))

-- ---- attachment

module _ (o : Outside) (s : Inside) (c : Cut) (x : Item) (xs : List Item) (h : IsFramed o s (record c { rest = x ∷ xs })) (k : ArePlaced o (record c { rest = x ∷ xs })) where
  abbrev here : Cut
  here = record c { rest = x ∷ xs }

  abbrev there : Cut
  there = framed_cut o s (record c { rest = x ∷ xs })

  at : length there.front ≡ length o.before + length c.front
  at = front_long o s c.front

  size : length (whole here) ≡ length c.front + length {A = Item} (x ∷ xs)
  size = length-append c.front (x ∷ xs)

  -- attachment to an item of the fragment
  attach_inside : (base mark : Option Anchor) (back : ℕ) → back < length c.front → IsBeside ArePlaced o s here (attach_if base mark back there) (attach_if base mark back here)
  attach_inside None mark back lt = (refl, refl)
  attach_inside (Some base) None back lt = (refl, refl)
  attach_inside (Some base) (Some mark) back lt =
      let i = length c.front in
      let j = length c.front - (back + 1) in
      let first : i < length c.positions = omega (arith, k.positions, size) in
      let to : length there.front - (back + 1) ≡ length o.before + j = omega (arith, at, lt) in
      acted_beside o s here 1 (with_mark_attached (length there.front) (length there.front - (back + 1)) base mark (around o c.positions)) (with_mark_attached i j base mark c.positions)
      (with_attachment_flag (is_near (length there.front) (length there.front - (back + 1))) s.scratch_flags) (with_attachment_flag (is_near i j) c.scratch_flags) (break_around (back + 1) 1 there) (break_around (back + 1) 1 here) h k (omega arith) (omega arith)
      (mark_long i j base mark c.positions) (mark_links i j base mark c.positions (omega (arith, first)) k.links) (mark_around o (length o.before) i j (length there.front) (length there.front - (back + 1)) base mark c.positions k.left first at to)
      (range_same Break (length there.front - (back + 1)) (length there.front + 1) (length o.before + j) (length o.before + (i + 1)) to (omega (arith, at))) ((omega (arith, size), omega (arith, size)), tt)

  -- attachment to an item before the fragment
  attach_outside : (base mark : Option Anchor) (back end : ℕ) → length c.front ≤ back → back < length there.front → IsBeside ArePlaced o s here (attach_if base mark back there) (attempt_around end 1 here)
  attach_outside None mark back end past lt = (refl, refl)
  attach_outside (Some base) None back end past lt = (refl, refl)
  attach_outside (Some base) (Some mark) back end past lt = inl (inl (omega (arith, at, past, lt), omega (arith, at), omega (arith, at, size)))

  -- a rule for the item before that was found, in the text and in the fragment
  pub found_beside : (theirs ours : ℕ → Option Item → Action) → ((back : ℕ) (y : Item) → back < length c.front → lig_id y ≤ c.lig_id → IsBeside ArePlaced o s here (theirs back (Some (with_ligature_renamed s.name y)) there) (ours back (Some y) here))
      → ((back end : ℕ) → IsBeside ArePlaced o s here (theirs back None there) (attempt_around end 1 here)) → ((back end : ℕ) (y : Item) → length c.front ≤ back → back < length there.front → IsBeside ArePlaced o s here (theirs back (Some y) there) (attempt_around end 1 here))
      → (far near : Result ℕ ℕ) → FindsSame (length (reverse c.front)) far near → IsBeside ArePlaced o s here (with_found theirs far there) (with_found ours near here)
  found_beside theirs ours inside none outside (Ok i) (Ok j) e = by_item (slice_get (reverse c.front) j) refl
    where
      lt : j < length c.front
      lt = omega (arith, e.1, length-reverse c.front)

      by_item : (y : Option Item) → slice_get (reverse c.front) j ≡ y → IsBeside ArePlaced o s here (with_found theirs (Ok i) there) (ours j y here)
      by_item None g = let past = slice_get_none (reverse c.front) j g in absurd (omega (arith, past, e.1))
      by_item (Some y) g =
          let same : slice_get (reverse there.front) i ≡ Some (with_ligature_renamed s.name y) =
          ap (λ (m : ℕ). slice_get (reverse there.front) m) e.0 ∙ ap (λ (ys : List Item). slice_get ys j) (backward_framed o s c.front) ∙ item_named s.name (reverse c.front) (reverse o.before) j y g in
          subst (λ (z : Option Item). IsBeside ArePlaced o s here (theirs i z there) (ours j (Some y) here)) (sym same)
          (subst (λ (m : ℕ). IsBeside ArePlaced o s here (theirs m (Some (with_ligature_renamed s.name y)) there) (ours j (Some y) here)) (sym e.0) (inside j y lt (given_at c.lig_id (reverse c.front) j y (given_reverse c.lig_id c.front h.front) g)))
  found_beside theirs ours inside none outside (Ok i) (Err end) e = by_item (slice_get (reverse there.front) i) refl
    where
      by_item : (y : Option Item) → slice_get (reverse there.front) i ≡ y → IsBeside ArePlaced o s here (theirs i y there) (attempt_around end 1 here)
      by_item None g = none i end
      by_item (Some y) g = let lt = slice_get_within (reverse there.front) i y g in outside i end y (omega (arith, e, length-reverse c.front)) (omega (arith, lt, length-reverse there.front))
  found_beside theirs ours inside none outside (Err far) (Ok j) e = absurd e
  found_beside theirs ours inside none outside (Err far) (Err end) e = (refl, refl)

  -- ---- mark to base

  base_inside : (bases : List BaseRow) (m : MarkRecord) (back : ℕ) (y : Item) → back < length c.front → IsBeside ArePlaced o s here (on_base bases m back (Some (with_ligature_renamed s.name y)) there) (on_base bases m back (Some y) here)
  base_inside bases m back y lt = by_test (is_there (row_of (λ r. r.glyph) y.number bases))
    where
      by_test : (b : Bool) → IsBeside ArePlaced o s here (if b then attach_if (base_anchor y.number m.class bases) m.anchor back there else attempt_around (back + 1) 1 there) (if b then attach_if (base_anchor y.number m.class bases) m.anchor back here else attempt_around (back + 1) 1 here)
      by_test true = attach_inside (base_anchor y.number m.class bases) m.anchor back lt
      by_test false = (refl, refl)

  base_outside : (bases : List BaseRow) (m : MarkRecord) (back end : ℕ) (y : Item) → length c.front ≤ back → back < length there.front → IsBeside ArePlaced o s here (on_base bases m back (Some y) there) (attempt_around end 1 here)
  base_outside bases m back end y past lt = by_test (is_there (row_of (λ r. r.glyph) y.number bases))
    where
      by_test : (b : Bool) → IsBeside ArePlaced o s here (if b then attach_if (base_anchor y.number m.class bases) m.anchor back there else attempt_around (back + 1) 1 there) (attempt_around end 1 here)
      by_test true = attach_outside (base_anchor y.number m.class bases) m.anchor back end past lt
      by_test false = (refl, refl)

  base_found : (a : ApplyContext) → FindsSame (length (reverse c.front)) (base_before a there) (base_before a here)
  base_found a =
      let t = own_search (without_marks a) (x ∷ xs) in
      let ys = reverse c.front in
      let given = given_reverse c.lig_id c.front h.front in
      subst (λ (zs : List Item). FindsSame (length ys) (nearest_taken (is_base_item t) 0 zs) (nearest_taken (is_base_item t) 0 ys)) (sym (backward_framed o s c.front))
      (taken_agrees (is_base_item t) s.name c.lig_id 0 (length ys) ys (reverse o.before) (base_same t s.name c.lig_id s.lig_id h.names) given
      (base_ends t s.name c.lig_id s.lig_id h.names ys (reverse o.before) given (foreign_reverse s.name c.lig_id o.before h.foreign_before) (apart_last (first_of (reverse o.before)) c.front (x ∷ xs) k.apart)) (omega arith))

  base_beside : (a : ApplyContext) (bases : List BaseRow) (m : Option MarkRecord) → IsBeside ArePlaced o s here (mark_on_base a bases m there) (mark_on_base a bases m here)
  base_beside a bases None = (refl, refl)
  base_beside a bases (Some m) =
      found_beside (on_base bases m) (on_base bases m) (λ back y lt le. base_inside bases m back y lt) (λ back end. (refl, refl)) (λ back end y past lt. base_outside bases m back end y past lt) (base_before a there) (base_before a here) (base_found a)

  -- ---- mark to ligature

  component_inside : (ligatures : List LigatureRow) (m : MarkRecord) (back glyph : ℕ) (n : Option ℕ) → back < length c.front → IsBeside ArePlaced o s here (on_component ligatures m back glyph n there) (on_component ligatures m back glyph n here)
  component_inside ligatures m back glyph None lt = (refl, refl)
  component_inside ligatures m back glyph (Some n) lt = attach_inside (component_anchor glyph n m.class ligatures) m.anchor back lt

  component_outside : (ligatures : List LigatureRow) (m : MarkRecord) (back end glyph : ℕ) (n : Option ℕ) → length c.front ≤ back → back < length there.front → IsBeside ArePlaced o s here (on_component ligatures m back glyph n there) (attempt_around end 1 here)
  component_outside ligatures m back end glyph None past lt = (refl, refl)
  component_outside ligatures m back end glyph (Some n) past lt = attach_outside (component_anchor glyph n m.class ligatures) m.anchor back end past lt

  ligature_found : (a : ApplyContext) → FindsSame (length (reverse c.front)) (ligature_before a there) (ligature_before a here)
  ligature_found a =
      let t = own_search (without_marks a) (x ∷ xs) in
      let ys = reverse c.front in
      subst (λ (zs : List Item). FindsSame (length ys) (nearest_taken (is_ligature_item t) 0 zs) (nearest_taken (is_ligature_item t) 0 ys)) (sym (backward_framed o s c.front))
      (taken_agrees (is_ligature_item t) s.name c.lig_id 0 (length ys) ys (reverse o.before) (ligature_same t s.name c.lig_id) (given_reverse c.lig_id c.front h.front) (ligature_ends t s.name ys (reverse o.before)) (omega arith))

  ligature_beside : (a : ApplyContext) (ligatures : List LigatureRow) (m : Option MarkRecord) → IsBeside ArePlaced o s here (mark_on_ligature a ligatures (with_ligature_renamed s.name x) m there) (mark_on_ligature a ligatures x m here)
  ligature_beside a ligatures None = (refl, refl)
  ligature_beside a ligatures (Some m) =
      found_beside (on_ligature ligatures m (with_ligature_renamed s.name x)) (on_ligature ligatures m x)
      (λ back y lt le. subst (λ (n : Option ℕ). IsBeside ArePlaced o s here (on_component ligatures m back y.number n there) (on_ligature ligatures m x back (Some y) here)) (sym (component_same s.name c.lig_id s.lig_id h.names (component_count y.number ligatures) y x le h.rest.0))
      (component_inside ligatures m back y.number (component_in (component_count y.number ligatures) y x) lt)) (λ back end. (refl, refl))
      (λ back end y past lt. component_outside ligatures m back end y.number (component_in (component_count y.number ligatures) y (with_ligature_renamed s.name x)) past lt) (ligature_before a there) (ligature_before a here) (ligature_found a)

  -- ---- mark to mark

  mark_inside : (bases : List BaseRow) (m : MarkRecord) (back : ℕ) (y : Item) → back < length c.front → lig_id y ≤ c.lig_id → IsBeside ArePlaced o s here (on_mark bases m (with_ligature_renamed s.name x) back (Some (with_ligature_renamed s.name y)) there) (on_mark bases m x back (Some y) here)
  mark_inside bases m back y lt le =
      subst (λ (b : Bool). IsBeside ArePlaced o s here (if is_mark y && b then on_base bases m back (Some (with_ligature_renamed s.name y)) there else attempt_around (back + 1) 1 there) (on_mark bases m x back (Some y) here)) (sym (together_named s.name c.lig_id s.lig_id h.names x y h.rest.0 le)) (by_test (is_mark y && belong_together x y))
    where
      by_test : (b : Bool) → IsBeside ArePlaced o s here (if b then on_base bases m back (Some (with_ligature_renamed s.name y)) there else attempt_around (back + 1) 1 there) (if b then on_base bases m back (Some y) here else attempt_around (back + 1) 1 here)
      by_test true = base_inside bases m back y lt
      by_test false = (refl, refl)

  mark_outside : (bases : List BaseRow) (m : MarkRecord) (back end : ℕ) (y : Item) → length c.front ≤ back → back < length there.front → IsBeside ArePlaced o s here (on_mark bases m (with_ligature_renamed s.name x) back (Some y) there) (attempt_around end 1 here)
  mark_outside bases m back end y past lt = by_test (is_mark y && belong_together (with_ligature_renamed s.name x) y)
    where
      by_test : (b : Bool) → IsBeside ArePlaced o s here (if b then on_base bases m back (Some y) there else attempt_around (back + 1) 1 there) (attempt_around end 1 here)
      by_test true = base_outside bases m back end y past lt
      by_test false = (refl, refl)

  pub before_found : (a : ApplyContext) → FindsSame (length (reverse c.front)) (item_before a there) (item_before a here)
  before_found a =
      let t = own_search a (x ∷ xs) in
      let ys = reverse c.front in
      subst (λ (zs : List Item). FindsSame (length ys) (nearest_from (any_item t) 0 zs) (nearest_from (any_item t) 0 ys)) (sym (backward_framed o s c.front)) (searches_from_agree (any_item t) s.name 0 ys (reverse o.before) (any_blind t) (omega arith))

  mark_beside : (a : ApplyContext) (bases : List BaseRow) (m : Option MarkRecord) → IsBeside ArePlaced o s here (mark_on_mark a bases (with_ligature_renamed s.name x) m there) (mark_on_mark a bases x m here)
  mark_beside a bases None = (refl, refl)
  mark_beside a bases (Some m) =
      found_beside (on_mark bases m (with_ligature_renamed s.name x)) (on_mark bases m x) (λ back y lt le. mark_inside bases m back y lt le) (λ back end. (refl, refl)) (λ back end y past lt. mark_outside bases m back end y past lt) (item_before (among_marks a) there) (item_before (among_marks a) here) (before_found (among_marks a))

-- ---- rules

pub to_base_local : (a : ApplyContext) (t : MarkBasePos) → IsLocal ArePlaced (mark_to_base a t)
to_base_local a t = at_first_local ArePlaced (λ x. mark_on_base a t.bases (value_of x.number t.marks)) (λ o s c x xs h k. base_beside o s c x xs h k a t.bases (value_of x.number t.marks))

pub to_ligature_local : (a : ApplyContext) (t : MarkLigPos) → IsLocal ArePlaced (mark_to_ligature a t)
to_ligature_local a t = at_first_local ArePlaced (λ x. mark_on_ligature a t.ligatures x (value_of x.number t.marks)) (λ o s c x xs h k. ligature_beside o s c x xs h k a t.ligatures (value_of x.number t.marks))

pub to_mark_local : (a : ApplyContext) (t : MarkBasePos) → IsLocal ArePlaced (mark_to_mark a t)
to_mark_local a t = at_first_local ArePlaced (λ x. mark_on_mark a t.bases x (value_of x.number t.marks)) (λ o s c x xs h k. mark_beside o s c x xs h k a t.bases (value_of x.number t.marks))

-- What events do to parts in order, and to the numbers of parts.
use Rattle.std.proofs.Common.{ℕ, ◌≡◌, ◌≤◌, ◌+◌, ◌⊎◌, inl, inr, Bool, true, false, not, min, max, List, [], ◌∷◌, reverse, arith, refl, subst, sym, ◌∙◌}
use Rattle.std.proofs.lemmas.Bool.Decides.{nat_tests}
use Rattle.std.proofs.lemmas.Grind.{common_steps}
use Rattle.buffer_glyphs.specs.Parts.{PartEvent, JoinParts, ReplaceParts, DeletePart, CirclePart, ReverseParts, united_number, united_numbers, joined_numbers, range_of, before_deletion, numbers_replaced, after_part_event, after_part_events}
use Rattle.buffer_glyphs.specs.Order.{IsInOrder, IsOrdered, BringsNone, falls_after}
use Rattle.buffer_glyphs.specs.Laws.{KeepsOrder, KeepsNumbers}
use Rattle.buffer_glyphs.specs.Lemmas.Chains.{chain_map, chain_reverse}
use Rattle.buffer_glyphs.specs.Lemmas.Drawn.{IsDrawn, chain_drawn, drawn_replaced, drawn_without, drawn_doubled}
use Rattle.buffer_glyphs.specs.Lemmas.Numbers.{Has, has_map, has_reverse, drawn_brings}
use Rattle.buffer_glyphs.specs.Lemmas.Unions.{Unites, joined_unites, left_unites}

-- how a number stands to one after it
abbrev pub Stands : Bool → ℕ → ℕ → Type 0
Stands false x y = x ≤ y
Stands true x y = y ≤ x

pub stands_self : (falls : Bool) (x : ℕ) → Stands falls x x
stands_self false x = omega arith
stands_self true x = omega arith

pub united_rises : (m n x y : ℕ) → x ≤ y → united_number (min m n) (max m n) x ≤ united_number (min m n) (max m n) y
united_rises m n x y h = grind (arith, nat_tests, common_steps)

united_stands : (falls : Bool) (m n x y : ℕ) → Stands falls x y → Stands falls (united_number (min m n) (max m n) x) (united_number (min m n) (max m n) y)
united_stands false m n x y h = united_rises m n x y h
united_stands true m n x y h = united_rises m n y x h

order_united : (falls : Bool) (m n : ℕ) (ns : List ℕ) → IsInOrder falls ns → IsInOrder falls (united_numbers m n ns)
order_united false m n ns h = chain_map (Stands false) (united_number (min m n) (max m n)) (united_stands false m n) ns h
order_united true m n ns h = chain_map (Stands true) (united_number (min m n) (max m n)) (united_stands true m n) ns h

pub order_drawn : (falls : Bool) {xs ys : List ℕ} → IsDrawn xs ys → IsInOrder falls xs → IsInOrder falls ys
order_drawn false d h = chain_drawn (Stands false) (stands_self false) d h
order_drawn true d h = chain_drawn (Stands true) (stands_self true) d h

order_reverse : (falls : Bool) (ns : List ℕ) → IsInOrder falls ns → IsInOrder (not falls) (reverse ns)
order_reverse false ns h = chain_reverse (Stands false) ns h
order_reverse true ns h = chain_reverse (Stands true) ns h

order_unites : (falls : Bool) (ns : List ℕ) → IsInOrder falls ns → Unites (IsInOrder falls) ns
order_unites falls ns h = record { same = h; union = λ m n _ _. order_united falls m n ns h }

-- one event keeps the order
pub event_keeps_order : (e : PartEvent) (falls : Bool) (ns : List ℕ) → IsInOrder falls ns → IsInOrder (falls_after falls (e ∷ [])) (after_part_event ns e)
event_keeps_order (JoinParts from to) falls ns h = joined_unites (IsInOrder falls) from to ns (order_unites falls ns h)
event_keeps_order (ReplaceParts at taken given) falls ns h =
    order_drawn falls (drawn_replaced at taken given (joined_numbers (range_of at (at + taken) ns) ns)) (joined_unites (IsInOrder falls) at (at + taken) ns (order_unites falls ns h))
event_keeps_order (DeletePart at) falls ns h = order_drawn falls (drawn_without at (before_deletion at ns)) (left_unites (IsInOrder falls) at ns (order_unites falls ns h))
event_keeps_order (CirclePart beside) falls ns h = order_drawn falls (drawn_doubled beside ns) h
event_keeps_order ReverseParts falls ns h = order_reverse falls ns h

falls_after_step : (falls : Bool) (e : PartEvent) (es : List PartEvent) → falls_after falls (e ∷ es) ≡ falls_after (falls_after falls (e ∷ [])) es
falls_after_step falls (JoinParts from to) es = refl
falls_after_step falls (ReplaceParts at taken given) es = refl
falls_after_step falls (DeletePart at) es = refl
falls_after_step falls (CirclePart beside) es = refl
falls_after_step falls ReverseParts es = refl

pub keeps_order : KeepsOrder
keeps_order [] falls ns h = h
keeps_order (e ∷ es) falls ns h = rw falls_after_step (keeps_order es (falls_after falls (e ∷ [])) (after_part_event ns e) (event_keeps_order e falls ns h))

-- a list in one order or the other stays so
pub stays_ordered : (es : List PartEvent) (ns : List ℕ) → IsOrdered ns → IsOrdered (after_part_events es ns)
stays_ordered es ns h = elim h [ inl rises ↦ ordered_from (falls_after false es) (after_part_events es ns) (keeps_order es false ns rises) | inr falls ↦ ordered_from (falls_after true es) (after_part_events es ns) (keeps_order es true ns falls) ]
  where
    ordered_from : (falls : Bool) (ms : List ℕ) → IsInOrder falls ms → IsOrdered ms
    ordered_from false ms o = inl o
    ordered_from true ms o = inr o

united_cases : (m n k : ℕ) → (united_number (min m n) (max m n) k ≡ k) ⊎ (united_number (min m n) (max m n) k ≡ m) ⊎ (united_number (min m n) (max m n) k ≡ n)
united_cases m n k = grind (arith, nat_tests, common_steps)

numbers_united : (ns : List ℕ) (m n : ℕ) → Has ns m → Has ns n → BringsNone ns (united_numbers m n ns)
numbers_united ns m n hm hn k h =
    let P : ℕ → Type 0 = λ j. Has ns j in
    let from = has_map (united_number (min m n) (max m n)) k ns h in
    subst P from.2 (elim (united_cases m n from.0) [ inl e ↦ subst P (sym e) from.1 | inr (inl e) ↦ subst P (sym e) hm | inr (inr e) ↦ subst P (sym e) hn ])

numbers_unite : (ns : List ℕ) → Unites (BringsNone ns) ns
numbers_unite ns = record { same = λ n h. h; union = numbers_united ns }

pub numbers_through : (old mid new : List ℕ) → BringsNone old mid → BringsNone mid new → BringsNone old new
numbers_through old mid new h k n has = h n (k n has)

-- one event brings no number
pub event_keeps_numbers : (e : PartEvent) (ns : List ℕ) → BringsNone ns (after_part_event ns e)
event_keeps_numbers (JoinParts from to) ns = joined_unites (BringsNone ns) from to ns (numbers_unite ns)
event_keeps_numbers (ReplaceParts at taken given) ns =
    let mid = joined_numbers (range_of at (at + taken) ns) ns in
    numbers_through ns mid (numbers_replaced at taken given mid) (joined_unites (BringsNone ns) at (at + taken) ns (numbers_unite ns)) (drawn_brings (drawn_replaced at taken given mid))
event_keeps_numbers (DeletePart at) ns = numbers_through ns (before_deletion at ns) (after_part_event ns (DeletePart at)) (left_unites (BringsNone ns) at ns (numbers_unite ns)) (drawn_brings (drawn_without at (before_deletion at ns)))
event_keeps_numbers (CirclePart beside) ns = drawn_brings (drawn_doubled beside ns)
event_keeps_numbers ReverseParts ns = λ n h. sym (has_reverse n ns) ∙ h

pub keeps_numbers : KeepsNumbers
keeps_numbers [] ns = λ n h. h
keeps_numbers (e ∷ es) ns = numbers_through ns (after_part_event ns e) (after_part_events es (after_part_event ns e)) (event_keeps_numbers e ns) (keeps_numbers es (after_part_event ns e))

-- Arrays that are written from their first item.
use Rattle.std.proofs.Common.{ℕ, ◌≡◌, ◌+◌, ◌<◌, List, [], ◌∷◌, ◌++◌, get_or, length, map, take, drop, set, sym, ap, ◌∙◌, arith}
use Rattle.std.proofs.lemmas.List.{append_assoc, drop_more, get_or-map, length-map, length-set, length-take, set_at, take_more}

-- one more item is written
pub written_next : {X Y : Type 0} (f : X → Y) (gs : List X) (room now : List Y) (i : ℕ) (d : X) (z : Y) → (now ≡ take i (map f gs) ++ drop i room) × (length now ≡ length room) → i < length gs → i < length room → z ≡ f (get_or gs i d)
    → (set now i z ≡ take (i + 1) (map f gs) ++ drop (i + 1) room) × (length (set now i z) ≡ length room)
written_next f gs room now i d z before inside lt is =
    let front = take i (map f gs) in let count = length-map gs f in
    let long : length front ≡ i = omega (arith, length-take i (map f gs), count, inside) in
    let parts : now ≡ front ++ get_or room i z ∷ drop (i + 1) room = before.0 ∙ ap (λ l. front ++ l) (drop_more room i z lt) in (
      ap (λ l. set l i z) parts ∙ set_at front _ _ z i long ∙ sym (append_assoc front (z ∷ []) _)
          ∙ ap (λ l. l ++ drop (i + 1) room) (ap (λ y. front ++ y ∷ []) (is ∙ sym (get_or-map f gs i d (f d) inside)) ∙ sym (take_more (map f gs) i (f d) (omega (arith, count, inside)))),
      length-set now i z ∙ before.1,
    )

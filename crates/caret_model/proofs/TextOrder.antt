-- What stands from left to right, in the order of the text.
use Rattle.std.proofs.Common.{ℕ, ◌≡◌, ◌≤◌, ◌<◌, ◌-◌, Bool, true, false, Some, None, List, length, reverse, get_or, slice_get, arith, refl, sym, ap, ◌∙◌}
use Rattle.std.proofs.lemmas.List.{get_or-reverse, length-reverse}
use Rattle.std.proofs.lemmas.Option.{slice_get-get_or, slice_get_past}
use Rattle.caret_model.specs.Stops.{in_text_order}

pub forward_item : {X : Type 0} (xs : List X) (i : ℕ) (x : X) → slice_get xs i ≡ Some x → slice_get (in_text_order false xs) i ≡ Some x
forward_item xs i x at = at

pub backward_item : {X : Type 0} (xs : List X) (i : ℕ) (x : X) → i < length xs → slice_get xs (length xs - 1 - i) ≡ Some x → slice_get (in_text_order true xs) i ≡ Some x
backward_item xs i x within at =
    let many = length-reverse xs in
    slice_get-get_or (reverse xs) i x (omega (arith, many, within))
    ∙ ap Some (get_or-reverse xs i x within) ∙ sym (slice_get-get_or xs (length xs - 1 - i) x (omega (arith, within))) ∙ at

pub order_count : {X : Type 0} (b : Bool) (xs : List X) → length (in_text_order b xs) ≡ length xs
order_count false xs = refl
order_count true xs = length-reverse xs

pub none_past : {X : Type 0} (b : Bool) (xs : List X) (i : ℕ) → length xs ≤ i → slice_get (in_text_order b xs) i ≡ None
none_past b xs i past = let many = order_count b xs in slice_get_past (in_text_order b xs) i (omega (arith, many, past))

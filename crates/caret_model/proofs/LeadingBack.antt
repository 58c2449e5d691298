-- Carets by their bytes and positions.
use Rattle.std.proofs.Common.{ℕ, zero, suc, ℤ, ◌≡◌, ◌≤◌, ◌<◌, ◌==◌, ◌-◌, ◌-ℤ◌, Bool, true, false, nat_lt, if◌then◌else◌, List, length, arith, sym, ap, ◌∙◌}
use Rattle.std.specs.Prelude.{Option, Some, None, Contains, option_and_then, position, slice_get, slice_index_or}
use Rattle.std.specs.Int.RustNames.{unsigned_abs}
use Rattle.std.specs.List.{position_or_len}
use Rattle.std.proofs.lemmas.Bool.Decides.{nat_tests}
use Rattle.std.proofs.lemmas.Grind.{common_steps}
use Rattle.std.proofs.lemmas.Int.{ints}
use Rattle.std.proofs.lemmas.List.Sums.{position_or_len_is}
use Rattle.std.proofs.lemmas.Option.{get_or_from_slice_get, slice_get-get_or, slice_get_within}
use Rattle.caret_model.specs.declared.carets.Caret.{Caret}
use Rattle.caret_model.specs.Laws.{CaretsLeadBack}
use Rattle.caret_model.specs.Lines.{IsLine, Line}
use Rattle.caret_model.specs.Moves.{IsNearest, distance, index_at, is_nearer, left_of}
use Rattle.caret_model.proofs.Orders.{carets_in_order, past_other}
use Rattle.buffer_facts.proofs.Numbers.{test_of_itself as same_number}

-- ---- bytes

-- an element that passes a test is the first that does, where none before it passes
position_first : {X : Type 0} (p : X → Bool) (xs : List X) (i : ℕ) (x : X) → slice_get xs i ≡ Some x → p x ≡ true → ((k : ℕ) (y : X) → k < i → slice_get xs k ≡ Some y → p y ≡ false) → position p xs ≡ Some i
position_first p xs i x at passes none =
    let within : i < length xs = slice_get_within xs i x at in
    let first : position_or_len p xs ≡ i =
    position_or_len_is p xs i x (omega (arith, within)) (λ k less. none k (slice_index_or xs k x) less (slice_get-get_or xs k x (omega (arith, within, less)))) (λ _. ap p (get_or_from_slice_get xs i x x at) ∙ passes) in
    let is : nat_lt i (length xs) ≡ true = grind (arith, nat_tests, within) in
    ap (λ n. if nat_lt n (length xs) then Some n else None) first ∙ ap (λ b. if b then Some i else None) is

-- the byte of a caret leads to its index
pub byte_leads_back : (l : Line) (i : ℕ) (c : Caret) → IsLine l → slice_get l.carets i ≡ Some c → index_at l.carets c.byte ≡ Some i
byte_leads_back l i c is at =
    position_first (λ (d : Caret). d.byte == c.byte) l.carets i c at (same_number c.byte) (λ k d less to. past_other l.backward d.byte c.byte (carets_in_order l k i d c is less to at))

-- ---- positions

no_distance : (a b : ℤ) → unsigned_abs (a -ℤ b) ≡ 0 → a ≡ b
no_distance a b h = omega (arith, ints, h)

own_distance : (a : ℤ) → unsigned_abs (a -ℤ a) ≡ 0
own_distance a = omega (arith, ints)

-- where a caret is at a position, the nearest one is too
nearest_at : (cs : List Caret) (i : ℕ) (c near : Caret) → slice_get cs i ≡ Some c → IsNearest c.position cs near → near.position ≡ c.position
nearest_at cs i c near at is =
    let here : slice_index_or cs i c ≡ c = get_or_from_slice_get cs i c c at in
    let there : slice_index_or cs is.index c ≡ near = get_or_from_slice_get cs is.index near c is.is in
    let within : i < length cs = slice_get_within cs i c at in
    let best = is.best in
    let no_nearer : is_nearer c.position c near ≡ false = ap (λ d. is_nearer c.position d near) (sym here) ∙ ap (λ d. is_nearer c.position (slice_index_or cs i c) d) (sym there) ∙ best.1 i c within in
    let own : distance c.position c ≡ 0 = own_distance c.position in
    let none : distance c.position near ≡ 0 = none_less (distance c.position c) (distance c.position near) own no_nearer in
    no_distance near.position c.position none
  where
    none_less : (m n : ℕ) → m ≡ 0 → nat_lt m n ≡ false → n ≡ 0
    none_less m n e h = grind (arith, nat_tests, e, h)

contained : (cs : List Caret) (i : ℕ) (c : Caret) → slice_get cs i ≡ Some c → Contains cs c
contained cs i c at = (i, slice_get_within cs i c at, get_or_from_slice_get cs i c c at)

pub carets_lead_back : CaretsLeadBack
carets_lead_back l i c is at = record {
  index = byte_leads_back l i c is at;
  caret = ap (option_and_then (slice_get l.carets)) (byte_leads_back l i c is at) ∙ at;
  position = λ near nearest. nearest_at l.carets i c near at nearest;
  only = λ near nearest alone. alone near (contained l.carets nearest.index near nearest.is) (nearest_at l.carets i c near at nearest);
}

-- ---- the caret to the left

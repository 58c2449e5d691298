-- Glyphs behind the cursor that moved after others.
use Rattle.std.specs.Global.{Vec}
use Rattle.std.proofs.Common.{ℕ, ◌≡◌, ◌≤◌, ◌+◌, Bool, true, false, List, ◌++◌, length, take, drop, arith, refl, ap, sym, ◌∙◌}
use Rattle.std.proofs.lemmas.List.{drop_at, take_at, take-append-drop, length-take-le}
use Rattle.buffer_glyphs.specs.declared.info.hb_glyph_info_t.{hb_glyph_info_t}
use Rattle.buffer_lists.specs.declared.order.ClusterOrder.{ClusterOrder}
use Rattle.buffer_core.specs.declared.buffer.hb_buffer_t.TheInside.{Inside}
use Rattle.buffer_core.specs.Inside.{sides_of, IsSound}
use Rattle.buffer_core.specs.Moving.{with_output_moved, with_range_moved}
use Rattle.buffer_core.proofs.RangeMoves.{moved_front, moved_length}
use Rattle.buffer_core.proofs.Changed.{front_before}

-- where a list is cut after such a range
cut_after : {X : Type 0} (start n k m : ℕ) (xs : List X) → start + (n + k) ≤ m → m ≤ length xs → with_range_moved start n k xs ≡ with_range_moved start n k (take m xs) ++ drop m xs
cut_after start n k m xs le within =
    let long = length-take-le m xs within in
    ap (with_range_moved start n k) (sym (take-append-drop m xs)) ∙ moved_front start n k (take m xs) (drop m xs) (omega (arith, long, le))

moved_take : {X : Type 0} (start n k m : ℕ) (xs : List X) → start + (n + k) ≤ m → m ≤ length xs → take m (with_range_moved start n k xs) ≡ with_range_moved start n k (take m xs)
moved_take start n k m xs le within =
    let long = length-take-le m xs within in
    ap (take m) (cut_after start n k m xs le within) ∙ take_at (with_range_moved start n k (take m xs)) (drop m xs) m (moved_length start n k (take m xs) (omega (arith, long, le)) ∙ long)

moved_drop : {X : Type 0} (start n k m : ℕ) (xs : List X) → start + (n + k) ≤ m → m ≤ length xs → drop m (with_range_moved start n k xs) ≡ drop m xs
moved_drop start n k m xs le within =
    let long = length-take-le m xs within in
    ap (drop m) (cut_after start n k m xs le within) ∙ drop_at (with_range_moved start n k (take m xs)) (drop m xs) m (moved_length start n k (take m xs) (omega (arith, long, le)) ∙ long)

-- the view of the buffer whose list had the range moved
pub moved_output_view : (b : Inside) (info : Vec hb_glyph_info_t) (order : ClusterOrder) (start n k : ℕ) → IsSound b → start + (n + k) ≤ length (sides_of b).behind → info.items ≡ with_range_moved start n k b.info.items
    → sides_of (record b { info = info; order = order }) ≡ with_output_moved start n k (sides_of b)
moved_output_view b info order start n k s le e = by_open b.have_output refl
  where
    by_open : (t : Bool) → b.have_output ≡ t → sides_of (record b { info = info; order = order }) ≡ with_output_moved start n k (sides_of b)
    by_open true h =
        let low = front_before b s h in
        let within : b.out_len ≤ length b.info.items = omega (arith, low, s.cursor) in
        let there : start + (n + k) ≤ length (take b.out_len b.info.items) = rw h at le in
        let fits : start + (n + k) ≤ b.out_len = omega (arith, there, length-take-le b.out_len b.info.items within) in
        let past : start + (n + k) ≤ b.idx = omega (arith, fits, low) in
        rw (h, e, moved_take start n k b.out_len b.info.items fits within, moved_drop start n k b.idx b.info.items past s.cursor) refl
    by_open false h =
        let there : start + (n + k) ≤ length (take b.idx b.info.items) = rw h at le in
        let fits : start + (n + k) ≤ b.idx = omega (arith, there, length-take-le b.idx b.info.items s.cursor) in
        rw (h, e, moved_take start n k b.idx b.info.items fits s.cursor, moved_drop start n k b.idx b.info.items fits s.cursor) refl

-- Glyphs behind the cursor that were lent.
use Rattle.std.specs.Global.{Vec}
use Rattle.std.specs.Vec.{with_items_from}
use Rattle.std.proofs.Common.{ℕ, zero, suc, ◌≡◌, ◌≤◌, ◌+◌, ◌-◌, Bool, true, false, max, List, [], ◌∷◌, ◌++◌, length, take, drop, refl, arith, ap, sym, ◌∙◌}
use Rattle.std.proofs.Math.Seq.{drop-append_seam, take-append_seam}
use Rattle.std.proofs.lemmas.List.{length-append, length-drop, length-take-le, take-append-drop, take-append-le, take-take, take_all, drop_all, drop_at}
use Rattle.std.proofs.lemmas.Bool.Decides.{nat_tests}
use Rattle.std.proofs.lemmas.Grind.{common_steps}
use Rattle.buffer_lists.specs.declared.order.ClusterOrder.{ClusterOrder}
use Rattle.buffer_glyphs.specs.declared.info.hb_glyph_info_t.{hb_glyph_info_t}
use Rattle.buffer_core.specs.declared.buffer.hb_buffer_t.TheInside.{Inside}
use Rattle.buffer_core.specs.Inside.{sides_of, IsSound}
use Rattle.buffer_core.specs.Lending.{refilled_list, with_output_refilled}
use Rattle.buffer_core.specs.Sides.{Sides, all_glyphs}
use Rattle.buffer_core.proofs.Changed.{front_before as front_within}

-- what is written from the front on has at least as many elements as there were
written_long : (xs ws : List hb_glyph_info_t) → length xs ≤ length (ws ++ drop (length ws) xs)
written_long xs ws = omega (arith, length-append ws (drop (length ws) xs), length-drop (length ws) xs)

front_put : (n : ℕ) (xs ws : List hb_glyph_info_t) → n ≡ length xs
    → take n ((ws ++ drop (length ws) xs) ++ drop (length (ws ++ drop (length ws) xs)) xs) ≡ refilled_list ws xs
front_put n xs ws e =
    take-append-le n (ws ++ drop (length ws) xs) (drop (length (ws ++ drop (length ws) xs)) xs) (omega (arith, e, written_long xs ws))
    ∙ ap (λ k. take k (ws ++ drop (length ws) xs)) e

-- the glyphs that the cursor has passed
pub passed_back : (b : Inside) (order : ClusterOrder) (ws : List hb_glyph_info_t) → b.have_output ≡ false → b.idx ≤ length b.info.items
    → b.info.len ≡ length b.info.items → sides_of (record b { info = with_items_from b.info 0 ws; order = order }) ≡ with_output_refilled ws (sides_of b)
passed_back b order ws closed le counted =
    let gs = b.info.items in
    let long : length (take b.idx gs) ≡ b.idx = length-take-le b.idx gs le in
    let all : take b.idx gs ++ drop b.idx gs ≡ gs = take-append-drop b.idx gs in
    rw (closed, long, all, front_put b.info.len gs ws counted) refl

refilled_front : (xs ws : List hb_glyph_info_t) (m : ℕ) → m ≤ length xs → take m (refilled_list ws xs) ≡ refilled_list ws (take m xs)
refilled_front xs ws m le =
    let whole : take m (refilled_list ws xs) ≡ take m (ws ++ drop (length ws) xs) = take-take m (length xs) (ws ++ drop (length ws) xs) le in
    let long : length (take m xs) ≡ m = length-take-le m xs le in
    whole ∙ over ws xs m ∙ ap (λ k. take k (ws ++ drop (length ws) (take m xs))) (sym long)
  where
    over : (ws xs : List hb_glyph_info_t) (m : ℕ) → take m (ws ++ drop (length ws) xs) ≡ take m (ws ++ drop (length ws) (take m xs))
    over [] xs m = sym (take-take m m xs (omega arith))
    over (w ∷ ws) xs zero = refl
    over (w ∷ ws) [] (suc m) = refl
    over (w ∷ ws) (x ∷ xs) (suc m) = ap (λ ys. w ∷ ys) (over ws xs m)

refilled_rest : (xs ws : List hb_glyph_info_t) (n : ℕ) → n ≤ length xs → drop n (refilled_list ws xs) ≡ refilled_list (drop n ws) (drop n xs)
refilled_rest xs ws zero le = refl
refilled_rest [] ws (suc n) le = absurd (omega (arith, le))
refilled_rest (x ∷ xs) [] (suc n) le = ap (drop n) (take_all (length xs) xs (omega arith)) ∙ sym (take_all (length (drop n xs)) (drop n xs) (omega arith))
refilled_rest (x ∷ xs) (w ∷ ws) (suc n) le = refilled_rest xs ws n (omega (arith, le))

-- the output, with the input next after what was read and after the output's end
pub front_back : (b : Inside) (order : ClusterOrder) (ws : List hb_glyph_info_t) → b.have_output ≡ true → max (b.idx - b.gap) b.out_len ≡ b.idx → b.out_len ≤ b.idx → b.idx ≤ length b.info.items
    → b.info.len ≡ length b.info.items → sides_of (record b { info = with_items_from b.info 0 ws; order = order }) ≡ with_output_refilled ws (sides_of b)
front_back b order ws h least ordered le counted =
    let gs = b.info.items in
    let long : length (take b.out_len gs) ≡ b.out_len = length-take-le b.out_len gs (omega (arith, ordered, le)) in
    let most : max (b.idx - b.gap) (length (take b.out_len gs)) ≡ b.idx = ap (max (b.idx - b.gap)) long ∙ least in
    let behind : take b.out_len (refilled_list ws gs) ≡ refilled_list ws (take b.out_len gs) = refilled_front gs ws b.out_len (omega (arith, ordered, le)) in
    let ahead : drop b.idx (refilled_list ws gs) ≡ refilled_list (drop b.idx ws) (drop b.idx gs) = refilled_rest gs ws b.idx le in
    rw (h, front_put b.info.len gs ws counted, most, behind, ahead) refl

-- the input moved up to what was read and to the output's end
abbrev pub moved_up : Inside → Vec hb_glyph_info_t → ℕ → Inside
moved_up b info at = record b { info = info; idx = at; gap = b.gap - (b.idx - at) }

pub moved_up_view : (b : Inside) (info : Vec hb_glyph_info_t) (at : ℕ) → IsSound b → b.have_output ≡ true → at ≡ max b.out_len (b.idx - b.gap) → info.items ≡ take at b.info.items ++ drop b.idx b.info.items → sides_of (moved_up b info at) ≡ sides_of b
moved_up_view b info at s h e i =
    let front = front_within b s h in
    let within : at ≤ b.idx = top b.out_len b.gap b.idx at e front in
    let long : length (take at b.info.items) ≡ at = length-take-le at b.info.items (omega (arith, within, s.cursor)) in
    let behind : take b.out_len (take at b.info.items ++ drop b.idx b.info.items) ≡ take b.out_len b.info.items =
    take-append-le b.out_len (take at b.info.items) (drop b.idx b.info.items) (let le = least b.out_len b.gap b.idx at e in omega (arith, long, le)) ∙ take-take b.out_len at b.info.items (least b.out_len b.gap b.idx at e) in
    let ahead : drop at (take at b.info.items ++ drop b.idx b.info.items) ≡ drop b.idx b.info.items = drop_at (take at b.info.items) (drop b.idx b.info.items) at long in
    let read : at - (b.gap - (b.idx - at)) ≡ b.idx - b.gap = same_read b.out_len b.gap b.idx at e s.opened within in
    rw (h, i, behind, ahead, read) refl
  where
    top : (front gap idx at : ℕ) → at ≡ max front (idx - gap) → front ≤ idx → at ≤ idx
    top front gap idx at e le = grind (arith, nat_tests, common_steps, e, le)

    least : (front gap idx at : ℕ) → at ≡ max front (idx - gap) → front ≤ at
    least front gap idx at e = grind (arith, nat_tests, common_steps, e)

    same_read : (front gap idx at : ℕ) → at ≡ max front (idx - gap) → gap ≤ idx → at ≤ idx → at - (gap - (idx - at)) ≡ idx - gap
    same_read front gap idx at e le within = grind (arith, nat_tests, common_steps, e, le, within)

-- the glyphs behind the cursor, in the list
pub behind_back : (b : Inside) (info : Vec hb_glyph_info_t) (order : ClusterOrder) (at end : ℕ) → IsSound b → end ≡ length (sides_of b).behind → at ≡ max end (b.idx - b.gap) → info.items ≡ take at b.info.items ++ drop b.idx b.info.items → info.len ≡ length info.items
    → ((ws : List hb_glyph_info_t) → sides_of (record (moved_up b info at) { info = with_items_from info 0 ws; order = order }) ≡ with_output_refilled ws (sides_of b)) × (take (end - 0) info.items ≡ (sides_of b).behind)
behind_back b info order at end s e most i counted = by_open b.have_output refl
  where
    whole : (k : ℕ) → k - 0 ≡ k
    whole k = omega arith

    top : (front gap idx at : ℕ) → at ≡ max front (idx - gap) → front ≤ idx → at ≤ idx
    top front gap idx at e le = grind (arith, nat_tests, common_steps, e, le)

    same : (gap idx at : ℕ) → at ≡ max idx (idx - gap) → at ≡ idx
    same gap idx at e = grind (arith, nat_tests, common_steps, e)

    at_is_most : (front gap idx at : ℕ) → at ≡ max front (idx - gap) → gap ≤ idx → front ≤ idx → max (at - (gap - (idx - at))) front ≡ at
    at_is_most front gap idx at e le within = grind (arith, nat_tests, common_steps, e, le, within)

    by_open : (t : Bool) → b.have_output ≡ t → ((ws : List hb_glyph_info_t) → sides_of (record (moved_up b info at) { info = with_items_from info 0 ws; order = order }) ≡ with_output_refilled ws (sides_of b)) × (take (end - 0) info.items ≡ (sides_of b).behind)
    by_open true h =
        let front = front_within b s h in
        let end_is : end ≡ b.out_len = (let there : end ≡ length (take b.out_len b.info.items) = rw h at e in there ∙ length-take-le b.out_len b.info.items (omega (arith, front, s.cursor))) in
        let least : at ≡ max b.out_len (b.idx - b.gap) = most ∙ ap (λ k. max k (b.idx - b.gap)) end_is in
        let within : at ≤ b.idx = top b.out_len b.gap b.idx at least front in
        let after : b.out_len ≤ at = grind (arith, nat_tests, common_steps, least) in
        let long : length info.items ≡ at + (length b.info.items - b.idx) = ap length i ∙ length-append (take at b.info.items) (drop b.idx b.info.items) ∙ ap (λ k. k + length (drop b.idx b.info.items)) (length-take-le at b.info.items (omega (arith, within, s.cursor))) ∙ ap (λ k. at + k) (length-drop b.idx b.info.items) in
        let view = moved_up_view b info at s h least i in (
          λ ws. front_back (moved_up b info at) order ws h (at_is_most b.out_len b.gap b.idx at least s.opened front) after (omega (arith, long)) counted ∙ ap (with_output_refilled ws) view,
          rw (h, whole end, end_is) (rw h at (ap (λ (t : Sides). t.behind) view)),
        )
    by_open false h =
        let end_is : end ≡ b.idx = (let there : end ≡ length (take b.idx b.info.items) = rw h at e in there ∙ length-take-le b.idx b.info.items s.cursor) in
        let at_is : at ≡ b.idx = same b.gap b.idx at (most ∙ ap (λ k. max k (b.idx - b.gap)) end_is) in
        let items : info.items ≡ b.info.items = i ∙ ap (λ k. take k b.info.items ++ drop b.idx b.info.items) at_is ∙ take-append-drop b.idx b.info.items in
        let view : sides_of (moved_up b info at) ≡ sides_of b = rw (h, items, at_is) refl in (
          λ ws. passed_back (moved_up b info at) order ws h (omega (arith, at_is, ap length items, s.cursor)) counted ∙ ap (with_output_refilled ws) view,
          rw (h, whole end, end_is, items) refl,
        )

-- as many as were lent
closed_back : (s : Sides) (gs : List hb_glyph_info_t) → length gs ≡ length s.behind → refilled_list gs (all_glyphs s) ≡ gs ++ s.ahead
closed_back s gs e =
    let rest : drop (length gs) (all_glyphs s) ≡ s.ahead = ap (λ k. drop k (all_glyphs s)) e ∙ drop-append_seam s.behind s.ahead in
    let long : length (gs ++ s.ahead) ≡ length (all_glyphs s) = omega (arith, length-append gs s.ahead, length-append s.behind s.ahead, e) in
    ap (λ ys. take (length (all_glyphs s)) (gs ++ ys)) rest ∙ take_all (length (all_glyphs s)) (gs ++ s.ahead) (omega (arith, long))

open_back : (old gs : List hb_glyph_info_t) → length gs ≡ length old → refilled_list gs old ≡ gs
open_back old gs e = ap (λ k. take k (gs ++ drop (length gs) old)) (sym e) ∙ take-append_seam gs (drop (length gs) old)

-- nothing comes back past the front
none_back : (old : List hb_glyph_info_t) → refilled_list [] old ≡ old
none_back old = take_all (length old) old (omega arith)

rest_back : (s : Sides) (gs : List hb_glyph_info_t) → length gs ≡ length s.behind → refilled_list (drop (max s.read (length s.behind)) gs) s.ahead ≡ s.ahead
rest_back s gs e =
    let none : drop (max s.read (length s.behind)) gs ≡ [] = drop_all (max s.read (length s.behind)) gs (most s.read (length s.behind) (length gs) e) in
    ap (λ ys. refilled_list ys s.ahead) none ∙ none_back s.ahead
  where
    most : (m n k : ℕ) → k ≡ n → k ≤ max m n
    most m n k e = grind (arith, nat_tests, e)

back : (is_open : Bool) (s : Sides) (gs : List hb_glyph_info_t) → is_open ≡ s.is_open → length gs ≡ length s.behind → with_output_refilled gs s ≡ record s { behind = gs }
back true s gs opened e = let rest = rest_back s gs e in rw (sym opened, open_back s.behind gs e, rest) refl
back false s gs opened e =
    let front : take (length s.behind) (gs ++ s.ahead) ≡ gs = ap (λ k. take k (gs ++ s.ahead)) (sym e) ∙ take-append_seam gs s.ahead in
    let rest : drop (length s.behind) (gs ++ s.ahead) ≡ s.ahead = ap (λ k. drop k (gs ++ s.ahead)) (sym e) ∙ drop-append_seam gs s.ahead in
    rw (sym opened, closed_back s gs e, front, rest) refl

pub output_comes_back : (s : Sides) (gs : List hb_glyph_info_t) → length gs ≡ length s.behind → with_output_refilled gs s ≡ record s { behind = gs }
output_comes_back s gs e = back s.is_open s gs refl e

-- Positions of marks, one after another.
use Rattle.std.proofs.Common.{ℕ, zero, suc, ◌≡◌, ◌≤◌, ◌<◌, ◌+◌, true, List, [], ◌∷◌, ◌++◌, length, take, drop, set, get_or, arith, refl, sym, ap, subst, ◌∙◌}
use Rattle.std.specs.Prelude.{Bool, false, nat_le, ◌&&◌}
use Rattle.std.proofs.lemmas.Bool.{leb-true}
use Rattle.std.proofs.Math.Numerals.{add-one}
use Rattle.std.proofs.lemmas.List.{drop_all, get_or-map, length-map, length-set, take-append-drop}
use Rattle.buffer_common.specs.declared.direction.Direction.{Direction}
use Rattle.layout_face.specs.declared.parts.FaceParts.{FaceParts}
use Rattle.buffer_glyphs.specs.declared.info.hb_glyph_info_t.{hb_glyph_info_t}
use Rattle.buffer_glyphs.specs.Items.{Item, Position, item_of}
use Rattle.buffer_glyphs.specs.Events.{Event}
use Rattle.buffer_core.specs.Readings.{View, always}
use Rattle.buffer_core.specs.Lending.{refilled_list, with_positions_refilled}
use Rattle.buffer_core.specs.Sides.{Sides, all_glyphs, items_of, view_of}
use Rattle.buffer_stages.specs.Buffers.{are_glyphs}
use Rattle.buffer_stages.specs.Ready.{IsDone, IsReady}
use Rattle.buffer_stages.specs.Lemmas.Written.{happened_followed, refilled_whole}
use Rattle.buffer_stages.specs.Stages.{Becomes, Happens}
use Rattle.shape_fallback.specs.declared.around.Placing.{Placing}
use Rattle.shape_fallback.specs.declared.marks.Before.{Before}
use Rattle.shape_fallback.specs.declared.marks.Before.TheVariants.{Nothing}
use Rattle.shape_fallback.specs.declared.marks.Step.{Step}
use Rattle.shape_fallback.specs.Marks.{HasBound, base_events, is_left_to_right, positioned_marks, step, with_positioned_marks}
use Rattle.buffer_facts.proofs.Truth.{first_true as left_true, second_true as right_true}

-- ---- a list of positions, of which so many are what the whole has

next_set : (whole ps : List Position) (i : ℕ) (q : Position) (rest : List Position) → i < length ps → drop i whole ≡ q ∷ rest → set (take i whole ++ drop i ps) i q ≡ take (suc i) whole ++ drop (suc i) ps
next_set whole [] i q rest lt e = absurd (omega (arith, lt))
next_set [] (p ∷ ps) i q rest lt e = cc (e, drop_all {X = Position} i [] (omega arith))
next_set (w ∷ whole) (p ∷ ps) zero q rest lt e = ap (λ z. z ∷ ps) (cc e)
next_set (w ∷ whole) (p ∷ ps) (suc i) q rest lt e = ap (λ zs. w ∷ zs) (next_set whole ps i q rest (omega (arith, lt)) e)

rest_left : (whole : List Position) (i : ℕ) (q : Position) (rest : List Position) → drop i whole ≡ q ∷ rest → drop (suc i) whole ≡ rest
rest_left [] i q rest e = cc (e, drop_all {X = Position} i [] (omega arith))
rest_left (w ∷ whole) zero q rest e = cc e
rest_left (w ∷ whole) (suc i) q rest e = rest_left whole i q rest e

still_there : (whole ps : List Position) (i : ℕ) (d q : Position) (rest : List Position) → i < length ps → drop i whole ≡ q ∷ rest → get_or (take i whole ++ drop i ps) i d ≡ get_or ps i d
still_there whole [] i d q rest lt e = absurd (omega (arith, lt))
still_there [] (p ∷ ps) i d q rest lt e = cc (e, drop_all {X = Position} i [] (omega arith))
still_there (w ∷ whole) (p ∷ ps) zero d q rest lt e = refl
still_there (w ∷ whole) (p ∷ ps) (suc i) d q rest lt e = still_there whole ps i d q rest (omega (arith, lt)) e

-- the walk at an index
walk_there : (font : FaceParts) (by : Placing) (before : Before) (xs : List Item) (ps : List Position) (i : ℕ) (x : Item) (p : Position) → i < length xs → i < length ps
    → positioned_marks font by before (drop i xs) (drop i ps)
    ≡ (step font by (get_or xs i x) (get_or ps i p) before).position ∷ positioned_marks font by (step font by (get_or xs i x) (get_or ps i p) before).before (drop (suc i) xs) (drop (suc i) ps)
walk_there font by before [] ps i x p lt le = absurd (omega (arith, lt))
walk_there font by before (y ∷ xs) [] i x p lt le = absurd (omega (arith, le))
walk_there font by before (y ∷ xs) (r ∷ ps) zero x p lt le = refl
walk_there font by before (y ∷ xs) (r ∷ ps) (suc i) x p lt le = walk_there font by before xs ps i x p (omega (arith, lt)) (omega (arith, le))

-- ---- on a buffer

-- so many positions of a buffer are written, and nothing else is
pub record OnTheWay (font : FaceParts) (by : Placing) (i count : ℕ) (before : Before) (start now : Sides) : Type 0 where
  pub same : now ≡ record start { positions = now.positions }
  pub closed : now.is_open ≡ false
  pub glyphs : length (all_glyphs start) ≡ count
  pub many : length start.positions ≡ count
  pub still : length now.positions ≡ count
  pub rest : drop i (positioned_marks font by Nothing (items_of start) start.positions) ≡ positioned_marks font by before (drop i (items_of start)) (drop i start.positions)
  pub so_far : now.positions ≡ take i (positioned_marks font by Nothing (items_of start) start.positions) ++ drop i start.positions
  pub bound : HasBound before
  pub numbers : are_glyphs (items_of start) ≡ true

pub begins : (font : FaceParts) (by : Placing) (count : ℕ) (s : Sides) → count ≡ length (all_glyphs s) → IsReady s → are_glyphs (items_of s) ≡ true → OnTheWay font by 0 count Nothing s s
begins font by count s e ready numbers = record {
  same = refl;
  closed = ready.closed;
  glyphs = sym e;
  many = ready.placed ∙ sym e;
  still = ready.placed ∙ sym e;
  rest = refl;
  so_far = refl;
  bound = tt;
  numbers = numbers;
}

go_on : (font : FaceParts) (by : Placing) (i count : ℕ) (before : Before) (g : hb_glyph_info_t) (p : Position) (st : Step) (start now : Sides) → i < count
    → st ≡ step font by (item_of (get_or (all_glyphs now) i g)) (get_or now.positions i p) before → HasBound st.before → OnTheWay font by i count before start now
    → OnTheWay font by (suc i) count st.before start (with_positions_refilled (set now.positions i st.position) now)
go_on font by i count before g p st start now lt is bound w =
    let xs : List Item = items_of start in
    let ps : List Position = start.positions in
    let whole : List Position = positioned_marks font by Nothing xs ps in
    let many_xs : i < length xs = (let same = length-map (all_glyphs start) item_of in let all = w.glyphs in omega (arith, lt, same, all)) in
    let many_ps : i < length ps = (let many = w.many in omega (arith, lt, many)) in
    let there : Step = step font by (get_or xs i (item_of g)) (get_or ps i p) before in
    let left : List Position = positioned_marks font by there.before (drop (suc i) xs) (drop (suc i) ps) in
    let cut : drop i whole ≡ there.position ∷ left = w.rest ∙ walk_there font by before xs ps i (item_of g) p many_xs many_ps in
    let item : item_of (get_or (all_glyphs now) i g) ≡ get_or xs i (item_of g) =
    ap (λ (t : Sides). item_of (get_or (all_glyphs t) i g)) w.same ∙ sym (get_or-map item_of (all_glyphs start) i g (item_of g) (let all = w.glyphs in omega (arith, lt, all))) in
    let position_is : get_or now.positions i p ≡ get_or ps i p = ap (λ qs. get_or qs i p) w.so_far ∙ still_there whole ps i p there.position left many_ps cut in
    let made : st ≡ there = is ∙ ap (λ x. step font by x (get_or now.positions i p) before) item ∙ ap (λ q. step font by (get_or xs i (item_of g)) q before) position_is in
    let filled = refilled_whole (set now.positions i st.position) now.positions (length-set now.positions i st.position) in
    record {
      same = ap (λ (t : Sides). record t { positions = refilled_list (set now.positions i st.position) now.positions }) w.same;
      closed = w.closed;
      glyphs = w.glyphs;
      many = w.many;
      still = ap length filled ∙ length-set now.positions i st.position ∙ w.still;
      rest = rest_left whole i there.position left cut ∙ ap (λ (t : Step). positioned_marks font by t.before (drop (suc i) xs) (drop (suc i) ps)) (sym made);
      so_far = filled ∙ ap (λ qs. set qs i st.position) w.so_far ∙ next_set whole ps i st.position left many_ps (cut ∙ ap (λ (t : Step). t.position ∷ left) (sym made));
      bound = bound;
      numbers = w.numbers;
    }

pub goes_on : (font : FaceParts) (by : Placing) (i count : ℕ) (before : Before) (g : hb_glyph_info_t) (p : Position) (st : Step) (gs : List hb_glyph_info_t) (ps lent : List Position) (start now : Sides)
    → gs ≡ all_glyphs now → ps ≡ now.positions → lent ≡ now.positions → i < count → st ≡ step font by (item_of (get_or gs i g)) (get_or ps i p) before → HasBound st.before
    → OnTheWay font by i count before start now → OnTheWay font by (i + 1) count st.before start (with_positions_refilled (set lent i st.position) now)
goes_on font by i count before g p st gs ps lent start now glyphs positions_are is lt made bound w =
    let P : List Position → Type 0 = λ qs. OnTheWay font by (i + 1) count st.before start (with_positions_refilled (set qs i st.position) now) in
    let Q : ℕ → Type 0 = λ n. OnTheWay font by n count st.before start (with_positions_refilled (set now.positions i st.position) now) in
    let made' : st ≡ step font by (item_of (get_or (all_glyphs now) i g)) (get_or now.positions i p) before =
    made ∙ ap (λ hs. step font by (item_of (get_or hs i g)) (get_or ps i p) before) glyphs ∙ ap (λ qs. step font by (item_of (get_or (all_glyphs now) i g)) (get_or qs i p) before) positions_are in
    subst P (sym is) (subst Q (sym (add-one i)) (go_on font by i count before g p st start now lt made' bound w))

all_taken : (whole : List Position) (i : ℕ) → drop i whole ≡ [] → take i whole ++ [] ≡ whole
all_taken whole i e = ap (λ ys. take i whole ++ ys) (sym e) ∙ take-append-drop i whole

pub ends : (font : FaceParts) (by : Placing) (i count : ℕ) (before : Before) (start now : Sides) → IsReady start → count ≤ i → OnTheWay font by i count before start now
    → Becomes (items_of start) (positioned_marks font by Nothing (items_of start) start.positions) start now
ends font by i count before start now ready le w =
    let xs : List Item = items_of start in
    let ps : List Position = start.positions in
    let whole : List Position = positioned_marks font by Nothing xs ps in
    let none_ps : drop i ps ≡ [] = drop_all i ps (let many = w.many in omega (arith, le, many)) in
    let none_xs : drop i xs ≡ [] = drop_all i xs (let same = length-map (all_glyphs start) item_of in let all = w.glyphs in omega (arith, le, same, all)) in
    let none_left : drop i whole ≡ [] = w.rest ∙ ap (λ ys. positioned_marks font by before ys (drop i ps)) none_xs in
    let there : now.positions ≡ whole = w.so_far ∙ ap (λ qs. take i whole ++ qs) none_ps ∙ all_taken whole i none_left in
    let same : now ≡ record start { positions = whole } = w.same ∙ ap (λ qs. record start { positions = qs }) there in
    let long : length whole ≡ length (all_glyphs start) = ap length (sym there) ∙ w.still ∙ sym w.glyphs in
    let P : Sides → Type 0 = λ t. Becomes xs whole start t in
    subst P (sym same) (record {
      view = refl;
      origins = refl;
      settings = refl;
      ready = record { closed = ready.closed; front = ready.front; unread = ready.unread; placed = long; unrefused = ready.unrefused };
    })

-- a glyph on the way has a number that a glyph can have
number_within : (xs : List Item) (i : ℕ) (x : Item) → i < length xs → are_glyphs xs ≡ true → (get_or xs i x).number ≤ 65535
number_within [] i x lt e = absurd (omega (arith, lt))
number_within (y ∷ xs) zero x lt e = leb-true y.number 65535 (left_true (nat_le y.number 65535) (are_glyphs xs) e)
number_within (y ∷ xs) (suc i) x lt e = number_within xs i x (omega (arith, lt)) (right_true (nat_le y.number 65535) (are_glyphs xs) e)

pub numbers_within : (font : FaceParts) (by : Placing) (i count : ℕ) (before : Before) (g : hb_glyph_info_t) (gs : List hb_glyph_info_t) (start now : Sides) → gs ≡ all_glyphs now → i < count
    → OnTheWay font by i count before start now → (get_or gs i g).glyph_id ≤ 65535
numbers_within font by i count before g gs start now e lt w =
    let all = w.glyphs in
    let same = length-map (all_glyphs start) item_of in
    let item : get_or (items_of start) i (item_of g) ≡ item_of (get_or gs i g) =
    get_or-map item_of (all_glyphs start) i g (item_of g) (omega (arith, lt, all)) ∙ sym (ap (λ hs. item_of (get_or hs i g)) e ∙ ap (λ (t : Sides). item_of (get_or (all_glyphs t) i g)) w.same) in
    subst (λ (x : Item). x.number ≤ 65535) item (number_within (items_of start) i (item_of g) (omega (arith, lt, all, same)) w.numbers)

-- ---- the stage

pub marks_done : (font : FaceParts) (components : Direction) (adjust : Bool) (s mid new : Sides) → Happens (base_events 0 (items_of s)) s mid
    → Becomes (items_of mid) (positioned_marks font (record { direction = mid.direction; left_to_right = is_left_to_right components; adjust_offsets = adjust }) Nothing (items_of mid) mid.positions) mid new
    → IsDone (always (with_positioned_marks font components adjust)) s new
marks_done font components adjust s mid new h b =
    let F : View → View = λ v. record v {
      positions = positioned_marks font (record { direction = v.direction; left_to_right = is_left_to_right components; adjust_offsets = adjust }) Nothing v.items v.positions;
    } in
    let view : view_of new ≡ F (view_of s) = b.view ∙ ap F h.view in
    let f = happened_followed (base_events 0 (items_of s)) (F (view_of s)) (always (with_positioned_marks font components adjust)) s new view (b.origins ∙ h.origins) (b.settings ∙ h.settings) b.ready refl in
    record {
      follows = f.follows;
      settings = f.settings;
      ready = f.ready;
      numbers = λ are. ap (λ (v : View). are_glyphs v.items) view ∙ are;
    }

pub same_numbers : (es : List Event) (s mid : Sides) → Happens es s mid → are_glyphs (items_of s) ≡ true → are_glyphs (items_of mid) ≡ true
same_numbers es s mid h are = ap (λ (v : View). are_glyphs v.items) h.view ∙ are

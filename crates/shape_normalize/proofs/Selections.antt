-- The walk over characters with selectors among them.
use Rattle.std.proofs.Common.{ℕ, suc, ◌≡◌, ◌≤◌, ◌<◌, ◌+◌, ◌-◌, Bool, true, false, List, [], ◌∷◌, ◌++◌, Option, Some, None, length, take, drop, refl, sym, ap, ap₂, subst, ◌∙◌, arith, append_assoc}
use Rattle.std.specs.Prelude.{is_some, if◌then◌else◌}
use Rattle.std.proofs.lemmas.List.{append-nil, length-map, length-drop}
use Rattle.buffer_glyphs.specs.declared.cause.ShapeCause.{ShapeCause}
use Rattle.buffer_glyphs.specs.declared.info.hb_glyph_info_t.{hb_glyph_info_t}
use Rattle.buffer_glyphs.specs.Items.{Item, item_of, strip}
use Rattle.buffer_glyphs.proofs.Lists.{drop_next}
use Rattle.buffer_core.specs.Sides.{Sides}
use Rattle.buffer_glyphs.specs.Rewriting.{Arrangement, in_turn}
use Rattle.buffer_properties.specs.Characters.{is_selector}
use Rattle.buffer_properties.specs.Expanding.{pending_item, meets_selector, selections_after}
use Rattle.buffer_properties.specs.Normalizer.{Normalizer}
use Rattle.buffer_stages.specs.Appending.{AppendsArrangement, RefusesRoomFor}
use Rattle.shape_normalize.specs.Walking.{one_or_none, waits_after, arrangements_at, PutsWaiting, Selects, SelectsTooMany, SelectsAll, SelectsAllTooMany}
use Rattle.shape_normalize.proofs.Lemmas.Chain.{brought_none, brought_both, overfills_after}

-- that many of k items after the first were handled
pub record IsSelecting (c : Normalizer) (k at : ℕ) (waits : Bool) (start now : Sides) : Type 0 where
  pub x : Item
  pub xs : List Item
  pub before : Option Item
  pub done : List Arrangement
  pub seen : strip start.ahead ≡ x ∷ xs
  pub enough : k ≤ length xs
  pub within : at ≤ k
  pub waiting : is_some before ≡ waits
  pub is_open : now.is_open ≡ true
  pub brought : AppendsArrangement (in_turn done) (one_or_none before ++ drop at xs) start now
  pub whole : done ++ selections_after c before (take (k - at) (drop at xs)) ≡ selections_after c (Some x) (take k xs)

pub selecting_begun : (c : Normalizer) (k : ℕ) (s : Sides) → s.is_open ≡ true → k < length s.ahead → IsSelecting c k 0 true s s
selecting_begun c k s opened lt = by_case s.ahead refl
  where
    by_case : (gs : List hb_glyph_info_t) → s.ahead ≡ gs → IsSelecting c k 0 true s s
    by_case [] e = absurd (let none = ap length e in omega (arith, none, lt))
    by_case (g ∷ gs) e = record {
      x = item_of g;
      xs = strip gs;
      before = Some (item_of g);
      done = [];
      seen = ap strip e;
      enough = let all = ap length e in omega (arith, all, lt, length-map gs item_of);
      within = omega arith;
      waiting = refl;
      is_open = opened;
      brought = subst (λ zs. AppendsArrangement (in_turn []) zs s s) (ap strip e) (brought_none s);
      whole = let same : k - 0 ≡ k = omega arith in ap (λ n. selections_after c (Some (item_of g)) (take n (strip gs))) same;
    }

pub selecting_room : (c : Normalizer) (k at : ℕ) (waits : Bool) (start now : Sides) → at < k → IsSelecting c k at waits start now → (if waits then 1 else 0) < length now.ahead
selecting_room c k at waits start now lt w = by_case w.before refl
  where
    all : length now.ahead ≡ length (one_or_none w.before ++ drop at w.xs)
    all = sym (length-map now.ahead item_of) ∙ ap length w.brought.ahead

    by_case : (b : Option Item) → w.before ≡ b → (if waits then 1 else 0) < length now.ahead
    by_case None e =
        let off : waits ≡ false = sym w.waiting ∙ ap is_some e in
        let len = all ∙ ap (λ (q : Option Item). length (one_or_none q ++ drop at w.xs)) e in
        let enough = w.enough in
        rw off (omega (arith, len, length-drop at w.xs, enough, lt))
    by_case (Some y) e =
        let on : waits ≡ true = sym w.waiting ∙ ap is_some e in
        let len = all ∙ ap (λ (q : Option Item). length (one_or_none q ++ drop at w.xs)) e in
        let enough = w.enough in
        rw on (omega (arith, len, length-drop at w.xs, enough, lt))

selected_case : (c : Normalizer) (before : Option Item) (y : Item) (zs : List Item) (t : Bool)
    → (if t then meets_selector c before y else pending_item c before) ++ selections_after c (if t then None else Some y) zs ≡ (if t then meets_selector c before y ++ selections_after c None zs else pending_item c before ++ selections_after c (Some y) zs)
selected_case c before y zs true = refl
selected_case c before y zs false = refl

-- the output of an item, and of those after it
selected_step : (c : Normalizer) (before : Option Item) (y : Item) (zs : List Item) → arrangements_at c before y ++ selections_after c (waits_after y) zs ≡ selections_after c before (y ∷ zs)
selected_step c before y zs = selected_case c before y zs (is_selector y)

rest_whole : (c : Normalizer) (k at : ℕ) (xs : List Item) (before : Option Item) (y : Item) (ys : List Item) → at < k → drop at xs ≡ y ∷ ys
    → arrangements_at c before y ++ selections_after c (waits_after y) (take (k - (at + 1)) (drop (at + 1) xs)) ≡ selections_after c before (take (k - at) (drop at xs))
rest_whole c k at xs before y ys lt d =
    let m = k - (at + 1) in
    let count : k - at ≡ suc m = omega (arith, lt) in
    let rest : drop (at + 1) xs ≡ ys = sym (drop_next xs at) ∙ ap (drop 1) d in
    let cut : take (k - at) (drop at xs) ≡ y ∷ take m ys = ap (λ n. take n (drop at xs)) count ∙ ap (take (suc m)) d in
    ap (λ zs. arrangements_at c before y ++ selections_after c (waits_after y) (take m zs)) rest ∙ selected_step c before y (take m ys) ∙ ap (selections_after c before) (sym cut)

pub selecting_more : (c : Normalizer) (k at : ℕ) (waits b : Bool) (start now next : Sides) → at < k → IsSelecting c k at waits start now → Selects c waits b now next → IsSelecting c k (at + 1) b start next
selecting_more c k at waits b start now next lt w selects = by_case (drop at w.xs) refl
  where
    by_case : (zs : List Item) → drop at w.xs ≡ zs → IsSelecting c k (at + 1) b start next
    by_case [] d = absurd (let none = ap length d in let enough = w.enough in omega (arith, none, length-drop at w.xs, enough, lt))
    by_case (y ∷ ys) d =
        let met = selects w.before y ys w.waiting (w.brought.ahead ∙ ap (λ zs. one_or_none w.before ++ zs) d) in
        let rest : drop (at + 1) w.xs ≡ ys = sym (drop_next w.xs at) ∙ ap (drop 1) d in
        record {
          x = w.x;
          xs = w.xs;
          before = waits_after y;
          done = w.done ++ arrangements_at c w.before y;
          seen = w.seen;
          enough = w.enough;
          within = omega (arith, lt);
          waiting = met.0;
          is_open = ap (λ (s : Sides). s.is_open) met.1.frame ∙ w.is_open;
          brought = subst (λ zs. AppendsArrangement (in_turn (w.done ++ arrangements_at c w.before y)) (one_or_none (waits_after y) ++ zs) start next) (sym rest)
              (brought_both w.done (arrangements_at c w.before y) (one_or_none w.before ++ drop at w.xs) (one_or_none (waits_after y) ++ ys) start now next w.brought met.1);
          whole =
              append_assoc w.done (arrangements_at c w.before y) (selections_after c (waits_after y) (take (k - (at + 1)) (drop (at + 1) w.xs)))
              ∙ ap (λ ps. w.done ++ ps) (rest_whole c k at w.xs w.before y ys lt d) ∙ w.whole;
        }

same_first : (c : Normalizer) (k : ℕ) (x y : Item) (xs ys : List Item) → x ∷ xs ≡ y ∷ ys → selections_after c (Some x) (take k xs) ≡ selections_after c (Some y) (take k ys)
same_first c k x y xs ys e = let first : x ≡ y = cc in let rest : xs ≡ ys = cc in ap₂ (λ x xs. selections_after c (Some x) (take k xs)) first rest

same_rest : (k : ℕ) (x y : Item) (xs ys : List Item) → x ∷ xs ≡ y ∷ ys → drop k xs ≡ drop k ys
same_rest k x y xs ys e = let rest : xs ≡ ys = cc in ap (drop k) rest

pub selecting_too_many : (c : Normalizer) (k at : ℕ) (waits : Bool) (e : ShapeCause) (start now : Sides) → at < k → IsSelecting c k at waits start now → SelectsTooMany c waits e now → SelectsAllTooMany c k e start
selecting_too_many c k at waits e start now lt w goes x xs seen = by_case (drop at w.xs) refl
  where
    by_case : (zs : List Item) → drop at w.xs ≡ zs → RefusesRoomFor (length (in_turn (selections_after c (Some x) (take k xs))).items) e start
    by_case [] d = absurd (let none = ap length d in let enough = w.enough in omega (arith, none, length-drop at w.xs, enough, lt))
    by_case (y ∷ ys) d =
        let over = goes w.before y ys w.waiting (w.brought.ahead ∙ ap (λ zs. one_or_none w.before ++ zs) d) in
        let more = selections_after c (waits_after y) (take (k - (at + 1)) (drop (at + 1) w.xs)) in
        let whole : w.done ++ (arrangements_at c w.before y ++ more) ≡ selections_after c (Some x) (take k xs) =
        ap (λ ps. w.done ++ ps) (rest_whole c k at w.xs w.before y ys lt d) ∙ w.whole ∙ same_first c k w.x x w.xs xs (sym w.seen ∙ seen) in
        subst (λ ps. RefusesRoomFor (length (in_turn ps).items) e start) whole
        (overfills_after w.done (arrangements_at c w.before y) more (one_or_none w.before ++ drop at w.xs) e start now w.brought over)

last_whole : (c : Normalizer) (k at : ℕ) (waits : Bool) (start now : Sides) → k ≤ at → (w : IsSelecting c k at waits start now) → w.done ++ pending_item c w.before ≡ selections_after c (Some w.x) (take k w.xs)
last_whole c k at waits start now le w =
    let none : k - at ≡ 0 = omega (arith, le) in
    ap (λ n. w.done ++ selections_after c w.before (take n (drop at w.xs))) (sym none) ∙ w.whole

pub selecting_done : (c : Normalizer) (k at : ℕ) (waits : Bool) (start now next : Sides) → k ≤ at → IsSelecting c k at waits start now → PutsWaiting c waits now next → SelectsAll c k start next
selecting_done c k at waits start now next le w puts x xs seen =
    let within = w.within in
    let all : at ≡ k = omega (arith, le, within) in
    let last = puts w.before (drop at w.xs) w.waiting w.brought.ahead in
    let both = brought_both w.done (pending_item c w.before) (one_or_none w.before ++ drop at w.xs) (drop at w.xs) start now next w.brought last in
    let same = sym w.seen ∙ seen in
    subst (λ zs. AppendsArrangement (in_turn (selections_after c (Some x) (take k xs))) zs start next) (ap (λ n. drop n w.xs) all ∙ same_rest k w.x x w.xs xs same)
    (subst (λ ps. AppendsArrangement (in_turn ps) (drop at w.xs) start next) (last_whole c k at waits start now le w ∙ same_first c k w.x x w.xs xs same) both)

waiting_count : (c : Normalizer) (before : Option Item) (waits : Bool) → is_some before ≡ waits → (if waits then 1 else 0) ≡ length (in_turn (pending_item c before)).items
waiting_count c None waits e = ap (λ t. if t then 1 else 0) (sym e)
waiting_count c (Some x) waits e = ap (λ t. if t then 1 else 0) (sym e)

pub last_selecting_too_many : (c : Normalizer) (k at : ℕ) (waits : Bool) (e : ShapeCause) (start now : Sides) → k ≤ at → IsSelecting c k at waits start now → RefusesRoomFor (if waits then 1 else 0) e now → SelectsAllTooMany c k e start
last_selecting_too_many c k at waits e start now le w over x xs seen =
    let same = sym w.seen ∙ seen in
    let whole : w.done ++ (pending_item c w.before ++ []) ≡ selections_after c (Some x) (take k xs) =
    ap (λ ps. w.done ++ ps) (append-nil (pending_item c w.before)) ∙ last_whole c k at waits start now le w ∙ same_first c k w.x x w.xs xs same in
    subst (λ ps. RefusesRoomFor (length (in_turn ps).items) e start) whole
    (overfills_after w.done (pending_item c w.before) [] (one_or_none w.before ++ drop at w.xs) e start now w.brought (subst (λ n. RefusesRoomFor n e now) (waiting_count c w.before waits w.waiting) over))

pub last_room : (c : Normalizer) (k at : ℕ) (waits : Bool) (start now : Sides) → IsSelecting c k at waits start now → waits ≡ true → 0 < length now.ahead
last_room c k at waits start now w on = by_case w.before refl
  where
    by_case : (b : Option Item) → w.before ≡ b → 0 < length now.ahead
    by_case None e = absurd (let bad = sym on ∙ sym w.waiting ∙ ap is_some e in cc)
    by_case (Some y) e =
        let len = sym (length-map now.ahead item_of) ∙ ap length w.brought.ahead ∙ ap (λ (q : Option Item). length (one_or_none q ++ drop at w.xs)) e in
        omega (arith, len)

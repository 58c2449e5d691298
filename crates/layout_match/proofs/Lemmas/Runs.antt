-- A run of glyphs at which a rule passes, moved over at once.
use Rattle.std.proofs.Common.{ℕ, suc, ◌≡◌, ◌≢◌, ◌≤◌, ◌<◌, ◌+◌, ◌&&◌, Bool, true, false, nat_le, List, [], ◌∷◌, ◌++◌, length, take, drop, Err, refl, sym, ap, subst, ◌∙◌, arith, append_assoc}
use Rattle.std.specs.List.{list_any}
use Rattle.std.proofs.lemmas.Bool.Decides.{nat_tests}
use Rattle.std.proofs.lemmas.List.{append-nil, map-append, take-map, drop-map, take-append-drop, length-append, length-map, length-take-le}
use Rattle.buffer_glyphs.specs.declared.cause.ShapeCause.TheVariants.{TooLong}
use Rattle.buffer_glyphs.specs.Items.{Item, item_of, strip}
use Rattle.buffer_core.specs.Readings.{View}
use Rattle.buffer_core.specs.Steps.{nothing_then}
use Rattle.buffer_core.specs.Sides.{Sides, all_glyphs, after_next_glyphs, fits_next, items_of}
use Rattle.buffer_stages.specs.Actions.{Cut, view_at, past_item, Passes, Acts, Refuses, Action}
use Rattle.buffer_stages.specs.Performing.{cut_with}
use Rattle.layout_match.specs.Applied.{ApplyContext}
use Rattle.layout_match.specs.Skipping.{PassesAll, PassesAt}
use Rattle.layout_match.specs.Steps.{IsIdleRun, IsIdleRunTooLong}
use Rattle.layout_match.specs.Trying.{trials, after_outcome, meets, met_first, outcome_past_item}
use Rattle.layout_match.proofs.Lemmas.Idle.{idle_all}
use Rattle.buffer_core.proofs.Kept.{moved_all as run_moved_all}

-- ---- at cuts

-- a rule that passes at the cut, where the items done have room for one more
past_one : (act : Action) (v : View) (n : ℕ) (start : Cut) (front rest : List Item) (x : Item) → PassesAll act (x ∷ []) → nat_le (length front + 1) start.max_len ≡ true
    → trials act v (suc n) (record start { front = front; rest = x ∷ rest }) ≡ trials act v n (record start { front = front ++ x ∷ []; rest = rest })
past_one act v n start front rest x passes room =
    let c : Cut = record start { front = front; rest = x ∷ rest } in
    let here : act c ≡ Passes [] = passes.0 c rest refl in
    let over : outcome_past_item (act c) c ≡ Acts (past_item c) [] = ap (λ o. outcome_past_item o c) here ∙ rw room refl in
    ap (λ o. after_outcome o (trials act v n) v c) over ∙ nothing_then (view_at v (past_item c)) (trials act v n (past_item c))

-- where they have none, it is refused
one_too_many : (act : Action) (v : View) (n : ℕ) (start : Cut) (front rest : List Item) (x : Item) → PassesAll act (x ∷ []) → nat_le (length front + 1) start.max_len ≡ false → trials act v (suc n) (record start { front = front; rest = x ∷ rest }) ≡ Err TooLong
one_too_many act v n start front rest x passes full =
    let c : Cut = record start { front = front; rest = x ∷ rest } in
    let here : act c ≡ Passes [] = passes.0 c rest refl in
    let over : outcome_past_item (act c) c ≡ Refuses TooLong = ap (λ o. outcome_past_item o c) here ∙ rw full refl in
    ap (λ o. after_outcome o (trials act v n) v c) over

room_for_one : (front xs : List Item) (x : Item) (m : ℕ) → nat_le (length front + length (x ∷ xs)) m ≡ true → nat_le (length front + 1) m ≡ true
room_for_one front xs x m fits = grind (arith, nat_tests, fits)

next_front : (front xs : List Item) (x : Item) → length (front ++ x ∷ []) + length xs ≡ length front + length (x ∷ xs)
next_front front xs x =
    let one = length-append front (x ∷ []) in
    omega (arith, one)

-- trials at items at which the rule passes, then at so many indices more
over_items : (act : Action) (v : View) (n : ℕ) (start : Cut) (front xs rest : List Item) → PassesAll act xs → (0 < length xs → nat_le (length front + length xs) start.max_len ≡ true)
    → trials act v (length xs + n) (record start { front = front; rest = xs ++ rest }) ≡ trials act v n (record start { front = front ++ xs; rest = rest })
over_items act v n start front [] rest passes fits =
    let none : 0 + n ≡ n = omega arith in
    ap (λ m. trials act v m (record start { front = front; rest = rest })) none ∙ ap (λ fs. trials act v n (record start { front = fs; rest = rest })) (sym (append-nil front))
over_items act v n start front (x ∷ xs) rest passes fits =
    let more : suc (length xs) + n ≡ suc (length xs + n) = omega arith in
    let same : (front ++ x ∷ []) ++ xs ≡ front ++ x ∷ xs = append_assoc front (x ∷ []) xs in
    let all : nat_le (length front + length (x ∷ xs)) start.max_len ≡ true = fits (omega arith) in
    ap (λ m. trials act v m (record start { front = front; rest = x ∷ xs ++ rest })) more ∙ past_one act v (length xs + n) start front (xs ++ rest) x (passes.0, tt) (room_for_one front xs x start.max_len all)
    ∙ over_items act v n start (front ++ x ∷ []) xs rest passes.1 (λ _. ap (λ m. nat_le m start.max_len) (next_front front xs x) ∙ all) ∙ ap (λ fs. trials act v n (record start { front = fs; rest = rest })) same

-- the items done have no room for all of them
too_many_items : (act : Action) (v : View) (n : ℕ) (start : Cut) (front xs rest : List Item) → PassesAll act xs → 0 < length xs → nat_le (length front + length xs) start.max_len ≡ false → trials act v (length xs + n) (record start { front = front; rest = xs ++ rest }) ≡ Err TooLong
too_many_items act v n start front [] rest passes some full = absurd (omega (arith, some))
too_many_items act v n start front (x ∷ xs) rest passes some full =
    ap (λ m. trials act v m (record start { front = front; rest = x ∷ xs ++ rest })) more
    ∙ by_room (nat_le (length front + 1) start.max_len) refl (λ room. too_many_items act v n start (front ++ x ∷ []) xs rest passes.1 (later xs refl room) (ap (λ m. nat_le m start.max_len) (next_front front xs x) ∙ full))
  where
    more : suc (length xs) + n ≡ suc (length xs + n)
    more = omega arith

    later : (ys : List Item) → xs ≡ ys → nat_le (length front + 1) start.max_len ≡ true → 0 < length xs
    later [] e room =
        let none : length xs ≡ 0 = ap length e in
        absurd (grind (arith, nat_tests, room, full, none))
    later (y ∷ ys) e room =
        let long : length xs ≡ suc (length ys) = ap length e in
        omega (arith, long)

    by_room : (b : Bool) → nat_le (length front + 1) start.max_len ≡ b → (nat_le (length front + 1) start.max_len ≡ true → trials act v (length xs + n) (record start { front = front ++ x ∷ []; rest = xs ++ rest }) ≡ Err TooLong)
        → trials act v (suc (length xs + n)) (record start { front = front; rest = x ∷ xs ++ rest }) ≡ Err TooLong
    by_room false over again = one_too_many act v (length xs + n) start front (xs ++ rest) x (passes.0, tt) over
    by_room true room again = past_one act v (length xs + n) start front (xs ++ rest) x (passes.0, tt) room ∙ again room

-- ---- at buffers

-- the items stay
pub run_items : (act : Action) (s new : Sides) → IsIdleRun act s new → items_of new ≡ items_of s
run_items act s new run = ap items_of run.moved ∙ ap strip (run_moved_all run.count s)

run_cut : (k r : ℕ) (s : Sides) → cut_with r (after_next_glyphs k s) ≡ record (cut_with r s) { front = strip s.behind ++ take k (strip s.ahead); rest = drop k (strip s.ahead) }
run_cut k r s = rw (map-append, take-map, drop-map) refl

run_length : (k : ℕ) (s : Sides) → k ≤ length s.ahead → length (take k (strip s.ahead)) ≡ k
run_length k s within =
    let long = length-map s.ahead item_of in
    length-take-le k (strip s.ahead) (omega (arith, long, within))

run_room : (k : ℕ) (s : Sides) → k ≤ length s.ahead → nat_le (length (strip s.behind) + length (take k (strip s.ahead))) s.max_len ≡ nat_le (length s.behind + k) s.max_len
run_room k s within = ap (λ n. nat_le (n + length (take k (strip s.ahead))) s.max_len) (length-map s.behind item_of) ∙ ap (λ n. nat_le (length s.behind + n) s.max_len) (run_length k s within)

-- the trials from before a run are those from after it
pub run_trials : (act : Action) (v : View) (n r : ℕ) (s new : Sides) (run : IsIdleRun act s new) → trials act v (run.count + n) (cut_with r s) ≡ trials act v n (cut_with r new)
run_trials act v n r s new run =
    let k = run.count in
    let xs = take k (strip s.ahead) in
    let rest = drop k (strip s.ahead) in
    let c = cut_with r s in
    let whole : xs ++ rest ≡ strip s.ahead = take-append-drop k (strip s.ahead) in
    let over : trials act v (length xs + n) (record c { front = strip s.behind; rest = xs ++ rest }) ≡ trials act v n (record c { front = strip s.behind ++ xs; rest = rest }) = over_items act v n c (strip s.behind) xs rest run.passes (λ some. run_room k s run.within ∙ run.room (subst (λ m. 0 < m) (run_length k s run.within) some)) in
    ap (λ m. trials act v (m + n) c) (sym (run_length k s run.within)) ∙ ap (λ ys. trials act v (length xs + n) (record c { rest = ys })) (sym whole) ∙ over ∙ ap (trials act v n) (sym (run_cut k r s)) ∙ ap (λ (t : Sides). trials act v n (cut_with r t)) (sym run.moved)

pub run_refused : (act : Action) (v : View) (n r : ℕ) (s : Sides) (run : IsIdleRunTooLong act s) → trials act v (run.count + n) (cut_with r s) ≡ Err TooLong
run_refused act v n r s run =
    let k = run.count in
    let xs = take k (strip s.ahead) in
    let rest = drop k (strip s.ahead) in
    let c = cut_with r s in
    let whole : xs ++ rest ≡ strip s.ahead = take-append-drop k (strip s.ahead) in
    let long = run_length k s run.within in
    let refused : trials act v (length xs + n) (record c { front = strip s.behind; rest = xs ++ rest }) ≡ Err TooLong = too_many_items act v n c (strip s.behind) xs rest run.passes (omega (arith, long, run.some)) (run_room k s run.within ∙ run.full) in
    ap (λ m. trials act v (m + n) c) (sym long) ∙ ap (λ ys. trials act v (length xs + n) (record c { rest = ys })) (sym whole) ∙ refused

-- ---- the glyphs that a lookup isn't tried at

take_none : {X : Type 0} (xs : List X) → take 0 xs ≡ []
take_none [] = refl
take_none (x ∷ xs) = refl

drop_none : {X : Type 0} (xs : List X) → drop 0 xs ≡ xs
drop_none [] = refl
drop_none (x ∷ xs) = refl

none_moved : (s : Sides) → after_next_glyphs 0 s ≡ s
none_moved s =
    let read : s.read + 0 ≡ s.read = omega arith in
    ap (λ gs. record s { behind = s.behind ++ gs; ahead = drop 0 s.ahead; read = s.read + 0 }) (take_none s.ahead) ∙ ap (λ gs. record s { behind = gs; ahead = drop 0 s.ahead; read = s.read + 0 }) (append-nil s.behind)
    ∙ ap (λ gs. record s { ahead = gs; read = s.read + 0 }) (drop_none s.ahead) ∙ ap (λ n. record s { read = n }) read

-- no glyph
pub no_run : (act : Action) (s : Sides) → IsIdleRun act s s
no_run act s =
    let P : List Item → Type 0 = λ xs. PassesAll act xs in
    record { count = 0; within = omega arith; passes = subst P (sym (take_none (strip s.ahead))) tt; room = λ some. absurd (omega (arith, some)); moved = sym (none_moved s) }

open_room : (k : ℕ) (s : Sides) (b : Bool) → s.is_open ≡ true → fits_next k s ≡ b → nat_le (length s.behind + k) s.max_len ≡ b
open_room k s b opened fits = sym (rw opened refl) ∙ fits

-- with an output open
pub run_over : (a : ApplyContext) (act : Action) (covers : ℕ → Bool) (k : ℕ) (s new : Sides) → k ≤ length s.ahead → ((x : Item) → covers x.number ≡ false → PassesAt act x) → list_any (λ (x : Item). meets a x && covers x.number) (take k (strip s.ahead)) ≡ false → s.is_open ≡ true → fits_next k s ≡ true → new ≡ after_next_glyphs k s
    → IsIdleRun (met_first a act) s new
run_over a act covers k s new within passes idle opened fits moved = record { count = k; within = within; passes = idle_all a act covers (take k (strip s.ahead)) passes idle; room = λ _. open_room k s true opened fits; moved = moved }

pub run_too_long : (a : ApplyContext) (act : Action) (covers : ℕ → Bool) (k : ℕ) (s : Sides) → k ≢ 0 → k ≤ length s.ahead → ((x : Item) → covers x.number ≡ false → PassesAt act x) → list_any (λ (x : Item). meets a x && covers x.number) (take k (strip s.ahead)) ≡ false → s.is_open ≡ true → fits_next k s ≡ false
    → IsIdleRunTooLong (met_first a act) s
run_too_long a act covers k s some within passes idle opened full = record { count = k; some = omega (arith, some); within = within; passes = idle_all a act covers (take k (strip s.ahead)) passes idle; full = open_room k s false opened full }

-- without an output, in a list within its limit
pub run_closed : (a : ApplyContext) (act : Action) (covers : ℕ → Bool) (k n : ℕ) (s new : Sides) → k ≤ length s.ahead → ((x : Item) → covers x.number ≡ false → PassesAt act x) → list_any (λ (x : Item). meets a x && covers x.number) (take k (strip s.ahead)) ≡ false → n ≡ length (all_glyphs s) → n ≤ s.max_len → new ≡ after_next_glyphs k s
    → IsIdleRun (met_first a act) s new
run_closed a act covers k n s new within passes idle count limit moved =
    let both = length-append s.behind s.ahead in
    let le : length s.behind + k ≤ s.max_len = omega (arith, both, within, count, limit) in
    record { count = k; within = within; passes = idle_all a act covers (take k (strip s.ahead)) passes idle; room = λ _. grind (arith, nat_tests, le); moved = moved }

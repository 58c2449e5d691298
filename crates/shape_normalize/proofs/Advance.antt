-- The walk over kept runs and groups.
use Rattle.std.proofs.Common.{ℕ, suc, ◌≡◌, ◌≢◌, ◌<◌, ◌≤◌, ◌+◌, true, List, [], ◌∷◌, ◌++◌, length, take, drop, refl, sym, ap, subst, ◌∙◌, arith}
use Rattle.std.specs.List.{prefix_len}
use Rattle.std.proofs.lemmas.List.{length-append, length-drop, length-map, length-take-le, take-append-drop}
use Rattle.std.proofs.lemmas.List.Sums.{prefix_len-le-length}
use Rattle.buffer_glyphs.specs.declared.cause.ShapeCause.{ShapeCause}
use Rattle.buffer_glyphs.specs.Items.{Item, item_of, strip}
use Rattle.buffer_glyphs.specs.Rewriting.{Arrangement, beside, eventless_arrangement, in_turn}
use Rattle.buffer_core.specs.Sides.{Sides, after_next_glyphs, all_glyphs}
use Rattle.buffer_properties.specs.Characters.{is_mark}
use Rattle.buffer_properties.specs.Expanding.{expanded_group, expanded_list}
use Rattle.buffer_properties.specs.Normalizer.{Normalizer}
use Rattle.buffer_stages.specs.Appending.{AppendsArrangement, RefusesRoomFor}
use Rattle.shape_normalize.specs.KeptRuns.{Advances, HasOwn, Keeps}
use Rattle.shape_normalize.specs.Walking.{Groups, GroupsTooMany}
use Rattle.shape_normalize.proofs.Kept.{own_dropped}
use Rattle.shape_normalize.proofs.Lemmas.Chain.{beside_assoc, brought_none, brought_then, in_turn_both, none_behind, none_beside, overfills_behind, overfills_more}
use Rattle.shape_normalize.proofs.Taken.{front_brought, groups_list, groups_of, groups_over}

-- ---- a kept run

pub run_passed : (c : Normalizer) (n : ℕ) (s t : Sides) → Keeps c n (strip s.ahead) → HasOwn c (strip s.ahead) → n ≢ 0 → t ≡ after_next_glyphs n s → all_glyphs t ≡ all_glyphs s → Advances c s t
run_passed c n s t keeps own some is kept = record {
  count = n;
  done = eventless_arrangement (take n (strip s.ahead));
  some = omega (arith, some);
  brought = front_brought n s t is kept;
  whole = keeps.expanded own;
}

pub run_too_many : (c : Normalizer) (n : ℕ) (e : ShapeCause) (s : Sides) → Keeps c n (strip s.ahead) → HasOwn c (strip s.ahead) → RefusesRoomFor n e s → RefusesRoomFor (length (expanded_list c (strip s.ahead)).items) e s
run_too_many c n e s keeps own over =
    let xs = strip s.ahead in
    let le = keeps.within in
    let all = ap (λ (a : Arrangement). length a.items) (keeps.expanded own) in
    let sides = length-append (take n xs) (expanded_list c (drop n xs)).items in
    let front = length-take-le n xs le in
    overfills_more n (length (expanded_list c xs).items) e s (omega (arith, all, sides, front)) over

-- ---- a group

group_whole : (c : Normalizer) (k : ℕ) (x : Item) (xs : List Item) → k ≡ prefix_len is_mark xs → expanded_list c (x ∷ xs) ≡ beside (in_turn (expanded_group c x (take k xs))) (expanded_list c (drop k xs))
group_whole c k x xs count =
    ap in_turn (groups_over c x [] xs) ∙ ap (λ j. in_turn (expanded_group c x (take j xs) ++ groups_of c (drop j xs))) (sym count)
    ∙ sym (in_turn_both (expanded_group c x (take k xs)) (groups_of c (drop k xs))) ∙ ap (beside (in_turn (expanded_group c x (take k xs)))) (groups_list c (drop k xs))

marks_there : (k : ℕ) (xs : List Item) → k ≡ prefix_len is_mark xs → length (take k xs) ≡ k
marks_there k xs count = let le = prefix_len-le-length is_mark xs in length-take-le k xs (omega (arith, le, count))

pub group_passed : (c : Normalizer) (k : ℕ) (s t : Sides) → 0 < length s.ahead → k ≡ prefix_len is_mark (drop 1 (strip s.ahead)) → Groups c k s t → Advances c s t
group_passed c k s t some count goes = by_case (strip s.ahead) refl
  where
    by_case : (xs : List Item) → strip s.ahead ≡ xs → Advances c s t
    by_case [] e = absurd (let none = ap length e in omega (arith, none, some, length-map s.ahead item_of))
    by_case (x ∷ xs) e =
        let few : k ≡ prefix_len is_mark xs = count ∙ ap (λ ys. prefix_len is_mark (drop 1 ys)) e in
        record {
          count = suc k;
          done = in_turn (expanded_group c x (take k xs));
          some = omega arith;
          brought =
              subst (λ ys. AppendsArrangement (in_turn (expanded_group c x (take k xs))) (drop (suc k) ys) s t) (sym e)
              (goes x (take k xs) (drop k xs) (e ∙ ap (λ ys. x ∷ ys) (sym (take-append-drop k xs))) (marks_there k xs few));
          whole =
              subst (λ ys. expanded_list c ys ≡ beside (in_turn (expanded_group c x (take k xs))) (expanded_list c (drop (suc k) ys))) (sym e) (group_whole c k x xs few);
        }

pub group_too_many : (c : Normalizer) (k : ℕ) (e : ShapeCause) (s : Sides) → 0 < length s.ahead → k ≡ prefix_len is_mark (drop 1 (strip s.ahead)) → GroupsTooMany c k e s
    → RefusesRoomFor (length (expanded_list c (strip s.ahead)).items) e s
group_too_many c k e s some count goes = by_case (strip s.ahead) refl
  where
    by_case : (xs : List Item) → strip s.ahead ≡ xs → RefusesRoomFor (length (expanded_list c (strip s.ahead)).items) e s
    by_case [] f = absurd (let none = ap length f in omega (arith, none, some, length-map s.ahead item_of))
    by_case (x ∷ xs) f =
        let few : k ≡ prefix_len is_mark xs = count ∙ ap (λ ys. prefix_len is_mark (drop 1 ys)) f in
        let over = goes x (take k xs) (drop k xs) (f ∙ ap (λ ys. x ∷ ys) (sym (take-append-drop k xs))) (marks_there k xs few) in
        let all = ap (λ (a : Arrangement). length a.items) (ap (expanded_list c) f ∙ group_whole c k x xs few) in
        let sides = length-append (in_turn (expanded_group c x (take k xs))).items (expanded_list c (drop k xs)).items in
        overfills_more (length (in_turn (expanded_group c x (take k xs))).items) (length (expanded_list c (strip s.ahead)).items) e s (omega (arith, all, sides)) over

-- ---- one after another

-- the items before the cursor were output, each as it expands
pub record IsAdvancing (c : Normalizer) (start now : Sides) : Type 0 where
  pub is_open : now.is_open ≡ true
  pub own : HasOwn c (strip now.ahead)
  pub done : Arrangement
  pub brought : AppendsArrangement done (strip now.ahead) start now
  pub whole : expanded_list c (strip start.ahead) ≡ beside done (expanded_list c (strip now.ahead))

pub advancing_begun : (c : Normalizer) (s : Sides) → s.is_open ≡ true → HasOwn c (strip s.ahead) → IsAdvancing c s s
advancing_begun c s opened own = record {
  is_open = opened;
  own = own;
  done = eventless_arrangement [];
  brought = brought_none s;
  whole = sym (none_beside (expanded_list c (strip s.ahead)));
}

pub advancing_more : (c : Normalizer) (start now next : Sides) → IsAdvancing c start now → Advances c now next → IsAdvancing c start next
advancing_more c start now next w step =
    let rest : strip next.ahead ≡ drop step.count (strip now.ahead) = step.brought.ahead in
    record {
      is_open = ap (λ (s : Sides). s.is_open) step.brought.frame ∙ w.is_open;
      own = subst (HasOwn c) (sym rest) (own_dropped c step.count (strip now.ahead) w.own);
      done = beside w.done step.done;
      brought =
          subst (λ xs. AppendsArrangement (beside w.done step.done) xs start next) (sym rest)
          (brought_then w.done step.done (strip now.ahead) (drop step.count (strip now.ahead)) start now next w.brought step.brought);
      whole =
          w.whole ∙ ap (beside w.done) step.whole ∙ sym (beside_assoc w.done step.done (expanded_list c (drop step.count (strip now.ahead))))
          ∙ ap (λ xs. beside (beside w.done step.done) (expanded_list c xs)) (sym rest);
    }

pub advancing_less : (c : Normalizer) (now next : Sides) → 0 < length now.ahead → Advances c now next → length next.ahead < length now.ahead
advancing_less c now next lt step =
    let rest = ap length step.brought.ahead in
    let some = step.some in
    omega (arith, rest, some, lt, length-drop step.count (strip now.ahead), length-map next.ahead item_of, length-map now.ahead item_of)

pub advancing_too_many : (c : Normalizer) (e : ShapeCause) (start now : Sides) → IsAdvancing c start now → RefusesRoomFor (length (expanded_list c (strip now.ahead)).items) e now
    → RefusesRoomFor (length (expanded_list c (strip start.ahead)).items) e start
advancing_too_many c e start now w over =
    let all = ap (λ (a : Arrangement). length a.items) w.whole in
    let sides = length-append w.done.items (expanded_list c (strip now.ahead)).items in
    overfills_more (length w.done.items + length (expanded_list c (strip now.ahead)).items) (length (expanded_list c (strip start.ahead)).items) e start (omega (arith, all, sides))
    (overfills_behind w.done (strip now.ahead) (length (expanded_list c (strip now.ahead)).items) e start now w.brought over)

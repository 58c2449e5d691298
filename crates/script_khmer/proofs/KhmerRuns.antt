-- Runs of indices of a Khmer syllable.
use Rattle.std.proofs.Common.{ℕ, suc, ◌≡◌, ◌<◌, ◌+◌, ◌==◌, ◌&&◌, not, Bool, true, false, nat_le, nat_lt, if◌then◌else◌, List, [], ◌∷◌, ◌++◌, Some, length, map, take, drop, slice_get, refl, sym, ap, subst, ◌∙◌, arith, append_assoc}
use Rattle.std.specs.Int.RustNames.{bit_or}
use Rattle.std.specs.Int.Bits.{or_add_and}
use Rattle.std.proofs.lemmas.Nat.{and_or_self}
use Rattle.std.proofs.lemmas.Bool.Decides.{nat_tests}
use Rattle.std.proofs.lemmas.Grind.{common_steps}
use Rattle.std.proofs.lemmas.List.{append-nil, length-append, length-map, map-append}
use Rattle.std.proofs.Math.Seq.{take-append_seam, drop-append_seam}
use Rattle.script_categories.specs.declared.ot_category_t.TheConstants as category
use Rattle.buffer_glyphs.specs.Items.{Item, without_flags}
use Rattle.buffer_glyphs.specs.Levels.{InList}
use Rattle.buffer_glyphs.specs.Events.{Event, Move}
use Rattle.buffer_stages.specs.Moves.{MoveToFront, all_moved, move_events, with_range_moved, order_of_move}
use Rattle.buffer_stages.specs.Fronts.{moves_to_front, fronts, elements_after_fronts}
use Rattle.buffer_glyphs.specs.Rewriting.{Arrangement, eventless_arrangement, shifted_event, and_arranged}
use Rattle.buffer_stages.specs.Rewriting.{within}
use Rattle.buffer_stages.specs.Parts.{fronts_moved, item_with_features, items_with_features}
use Rattle.buffer_stages.proofs.Lemmas.Fronts.{shift_moves}
use Rattle.script_khmer.specs.declared.khmer.KhmerMasks.{KhmerMasks}
use Rattle.script_khmer.specs.Khmer.{Step, is_coeng, khmer_at, khmer_walk, unchanged_step, vowel_moved}
use Rattle.script_khmer.specs.Runs.{IsPlain, IsRun, forms_masked, forms_moved, is_vowel, together}
use Rattle.buffer_stages.specs.Lemmas.Fronted.{all_moved_fronts, moved_one, moved_two, moves_seen}
use Rattle.script_khmer.proofs.KhmerSteps.{at_form, at_other, coeng_turned, front_turned, got_after, got_next, met_if, within_at}
use Rattle.buffer_facts.proofs.Truth.{both_true}

abbrev kind : Item → ℕ
kind x = x.category

-- what a walk of a run leaves: moves of what got its masks, and then the walk of the others
abbrev moved_then : (Item → Item → Bool) → KhmerMasks → ℕ → ℕ → ℕ → List Item → List Item → List Item → Arrangement
moved_then pair m k i c front zs post =
    and_arranged (record { items = all_moved 0 (moves_to_front pair is_vowel i zs) (front ++ (forms_masked pair (item_with_features m.pref) zs ++ post)); events = move_events 0 (moves_to_front pair is_vowel i zs) }) (khmer_walk m k (i + length zs) c)

abbrev Does : Bool → KhmerMasks → ℕ → ℕ → ℕ → List Item → List Item → List Item → Type 0
Does forms m k i c front zs post = khmer_walk m (length zs + k) i c (front ++ (zs ++ post)) ≡ moved_then (together forms) m k i c front zs post

-- a first item that is in no form
single : (forms : Bool) (m : KhmerMasks) (k i c : ℕ) (x : Item) (front zs post : List Item) → i ≡ length front → 0 < i → is_coeng c x ≡ false
    → (is_vowel x ≡ true → Does forms m k (i + 1) c (x ∷ front) zs post) → (is_vowel x ≡ false → Does forms m k (i + 1) c (front ++ x ∷ []) zs post)
    → khmer_walk m (suc (length zs) + k) i c (front ++ (x ∷ (zs ++ post)))
    ≡ and_arranged (record {
      items = all_moved 0 (if is_vowel x && nat_lt 0 i then record { passed = i; taken = 1 } ∷ moves_to_front (together forms) is_vowel (i + 1) zs else moves_to_front (together forms) is_vowel (i + 1) zs) (front ++ (x ∷ (forms_masked (together forms) (item_with_features m.pref) zs ++ post)));
      events = move_events 0 (if is_vowel x && nat_lt 0 i then record { passed = i; taken = 1 } ∷ moves_to_front (together forms) is_vowel (i + 1) zs else moves_to_front (together forms) is_vowel (i + 1) zs);
    }) (khmer_walk m k (i + suc (length zs)) c)
single forms m k i c x front zs post at some other first later =
    let xs = front ++ (x ∷ (zs ++ post)) in
    let more : suc (length zs) + k ≡ suc (length zs + k) = omega arith in
    let step = at_other m i c xs x (is_vowel x) (got_after front x (zs ++ post) i at) other refl in
    let lt : nat_lt 0 i ≡ true = grind (arith, nat_tests, common_steps, some) in
    let test : is_vowel x ≡ (is_vowel x && nat_lt 0 i) = sym (ap (λ b. is_vowel x && b) lt ∙ and_true (is_vowel x)) in
    ap (λ j. khmer_walk m j i c xs) more
    ∙ ap (λ (s : Step). and_arranged s.rewritten (khmer_walk m (length zs + k) (i + 1) s.count)) step
    ∙ by_test (is_vowel x) first later
    ∙ ap (λ t. left_if t) test
  where
    rest : List MoveToFront
    rest = moves_to_front (together forms) is_vowel (i + 1) zs

    formed : List Item
    formed = forms_masked (together forms) (item_with_features m.pref) zs

    left_if : Bool → Arrangement
    left_if t = and_arranged (record {
      items = all_moved 0 (if t then record { passed = i; taken = 1 } ∷ rest else rest) (front ++ (x ∷ (formed ++ post)));
      events = move_events 0 (if t then record { passed = i; taken = 1 } ∷ rest else rest);
    }) (khmer_walk m k (i + suc (length zs)) c)

    and_true : (b : Bool) → (b && true) ≡ b
    and_true true = refl
    and_true false = refl

    by_test : (t : Bool) → (t ≡ true → Does forms m k (i + 1) c (x ∷ front) zs post) → (t ≡ false → Does forms m k (i + 1) c (front ++ x ∷ []) zs post)
        → and_arranged (met_if t (record { rewritten = vowel_moved i (front ++ (x ∷ (zs ++ post))); count = c }) (unchanged_step c (front ++ (x ∷ (zs ++ post))))).rewritten
        (khmer_walk m (length zs + k) (i + 1) (met_if t (record { rewritten = vowel_moved i (front ++ (x ∷ (zs ++ post))); count = c }) (unchanged_step c (front ++ (x ∷ (zs ++ post))))).count) ≡ left_if t
    by_test true f g =
        let move : Event = Move InList 0 (order_of_move i 1) in
        let turned : with_range_moved 0 i 1 (front ++ (x ∷ (formed ++ post))) ≡ (x ∷ front) ++ (formed ++ post) = ap (λ j. with_range_moved 0 j 1 (front ++ (x ∷ (formed ++ post)))) at ∙ moved_one [] front x (formed ++ post) in
        let last : i + 1 + length zs ≡ i + suc (length zs) = omega arith in
        ap (λ r. and_arranged r (khmer_walk m (length zs + k) (i + 1) c)) (front_turned i 1 front (x ∷ []) (zs ++ post) at refl)
        ∙ ap (λ (r : Arrangement). record { items = r.items; events = move ∷ r.events }) (f refl)
        ∙ ap (λ ys. and_arranged (record { items = all_moved 0 rest ys; events = move ∷ move_events 0 rest }) (khmer_walk m k (i + 1 + length zs) c)) (sym turned)
        ∙ ap (λ j. and_arranged (record { items = all_moved 0 (record { passed = i; taken = 1 } ∷ rest) (front ++ (x ∷ (formed ++ post))); events = move ∷ move_events 0 rest }) (khmer_walk m k j c)) last
    by_test false f g =
        let last : i + 1 + length zs ≡ i + suc (length zs) = omega arith in
        ap (khmer_walk m (length zs + k) (i + 1) c) (sym (append_assoc front (x ∷ []) (zs ++ post)))
        ∙ g refl
        ∙ ap (λ ys. and_arranged (record { items = all_moved 0 rest ys; events = move_events 0 rest }) (khmer_walk m k (i + 1 + length zs) c)) (append_assoc front (x ∷ []) (formed ++ post))
        ∙ ap (λ j. and_arranged (record { items = all_moved 0 rest (front ++ (x ∷ (formed ++ post))); events = move_events 0 rest }) (khmer_walk m k j c)) last

-- a form, after which the walk meets the item before it once more, and leaves it unchanged
form_step : (m : KhmerMasks) (n i c : ℕ) (x y t : Item) (fs rest : List Item) → i ≡ length (fs ++ t ∷ []) → IsPlain t → is_coeng c x ≡ true → (y.category == category.OT_Ra) ≡ true
    → khmer_walk m (suc (suc n)) i c ((fs ++ t ∷ []) ++ (x ∷ y ∷ rest))
    ≡ and_arranged (record { items = (item_with_features m.pref x ∷ item_with_features m.pref y ∷ (fs ++ t ∷ [])) ++ map (item_with_features m.cfar) rest; events = Move InList 0 (order_of_move i 2) ∷ [] }) (khmer_walk m n (i + 2) 2)
form_step m n i c x y t fs rest at plain coeng ra =
    let front = fs ++ t ∷ [] in
    let xs = front ++ (x ∷ y ∷ rest) in
    let far = map (item_with_features m.cfar) rest in
    let pair = item_with_features m.pref x ∷ item_with_features m.pref y ∷ [] in
    let ys = (pair ++ front) ++ far in
    let move : Event = Move InList 0 (order_of_move i 2) in
    let first = at_form m i c xs x y (got_after front x (y ∷ rest) i at) (got_next front x y rest i at) coeng ra in
    let long = length-append fs (t ∷ []) in
    let there : slice_get ys (i + 1) ≡ Some t =
    ap (λ zs. slice_get (item_with_features m.pref x ∷ item_with_features m.pref y ∷ zs) (i + 1)) (append_assoc fs (t ∷ []) far) ∙ got_after (pair ++ fs) t far (i + 1) (omega (arith, at, long)) in
    let no_coeng : is_coeng 2 t ≡ false = ap (λ b. b && true) plain.0 in
    let again : khmer_at m (i + 1) 2 ys ≡ unchanged_step 2 ys = at_other m (i + 1) 2 ys t false there no_coeng plain.1 in
    let on : i + 1 + 1 ≡ i + 2 = omega arith in
    let second : khmer_walk m (suc n) (i + 1) 2 ys ≡ khmer_walk m n (i + 2) 2 ys =
    ap (λ (s : Step). and_arranged s.rewritten (khmer_walk m n (i + 1 + 1) s.count)) again ∙ ap (λ j. khmer_walk m n j 2 ys) on in
    ap (λ (s : Step). and_arranged s.rewritten (khmer_walk m (suc n) (i + 1) s.count)) first
    ∙ ap (λ r. and_arranged r (khmer_walk m (suc n) (i + 1) 2)) (coeng_turned m i front x y rest at)
    ∙ ap (λ (r : Arrangement). record { items = r.items; events = move ∷ r.events }) second

-- ---- a mask twice is that mask once

or_twice : (a b : ℕ) → bit_or (bit_or a b) b ≡ bit_or a b
or_twice a b = omega (arith, or_add_and (bit_or a b) b, and_or_self b a)

masked_twice : (bits : ℕ) (xs : List Item) → map (item_with_features bits) (map (item_with_features bits) xs) ≡ map (item_with_features bits) xs
masked_twice bits [] = refl
masked_twice bits (x ∷ xs) = rw (or_twice x.mask (without_flags bits), masked_twice bits xs) refl

-- ---- runs

run_masked : (forms few : Bool) (bits : ℕ) (zs : List Item) → IsRun forms few zs → IsRun forms few (map (item_with_features bits) zs)
run_masked forms few bits [] h = tt
run_masked forms few bits (x ∷ []) h = (h.0, tt)
run_masked forms few bits (x ∷ y ∷ zs) h = (h.0, run_masked forms few bits (y ∷ zs) h.1)

tail_same : (f : Item → Item) (x : Item) (zs : List Item) → map f (x ∷ zs) ≡ x ∷ zs → map f zs ≡ zs
tail_same f x zs e = ap (drop 1) e

-- a run's first item that is in no form is no coeng that counts
alone_not : (a b : Bool) → b ≡ false → (a && not b) ≡ false → a ≡ false
alone_not true true e f = cc
alone_not true false e f = cc
alone_not false b e f = refl

-- a form in front of what was masked already
form_then : (m : KhmerMasks) (k i c : ℕ) (x y t : Item) (fs zs post : List Item) → i ≡ length (fs ++ t ∷ []) → IsPlain t → is_coeng c x ≡ true → together true x y ≡ true
    → Does true m k (i + 2) 2 (item_with_features m.pref x ∷ item_with_features m.pref y ∷ (fs ++ t ∷ [])) (map (item_with_features m.cfar) zs) (map (item_with_features m.cfar) post)
    → khmer_walk m (length (x ∷ y ∷ zs) + k) i c ((fs ++ t ∷ []) ++ ((x ∷ y ∷ zs) ++ post))
    ≡ and_arranged (record { items = all_moved 0 (moves_to_front (together true) is_vowel i (x ∷ y ∷ zs)) ((fs ++ t ∷ []) ++ (forms_masked (together true) (item_with_features m.pref) (x ∷ y ∷ map (item_with_features m.cfar) zs) ++ map (item_with_features m.cfar) post)); events = move_events 0 (moves_to_front (together true) is_vowel i (x ∷ y ∷ zs)) }) (khmer_walk m k (i + length (x ∷ y ∷ zs)) 2)
form_then m k i c x y t fs zs post at plain coeng pair does =
    let front = fs ++ t ∷ [] in
    let far = item_with_features m.cfar in
    let px = item_with_features m.pref x in
    let py = item_with_features m.pref y in
    let ra = (both_true (x.category == category.OT_H) (y.category == category.OT_Ra) pair).1 in
    let move : Event = Move InList 0 (order_of_move i 2) in
    let more : length (x ∷ y ∷ zs) + k ≡ suc (suc (length zs + k)) = omega arith in
    let n = length (map far zs) in
    let long : n ≡ length zs = length-map zs far in
    let formed = forms_masked (together true) (item_with_features m.pref) (map far zs) ++ map far post in
    let rest = moves_to_front (together true) is_vowel (i + 2) (map far zs) in
    let seen : rest ≡ moves_to_front (together true) is_vowel (i + 2) zs = sym (moves_seen far (together true) is_vowel (i + 2) zs) in
    let turned : with_range_moved 0 i 2 (front ++ (px ∷ py ∷ formed)) ≡ (px ∷ py ∷ front) ++ formed = ap (λ j. with_range_moved 0 j 2 (front ++ (px ∷ py ∷ formed))) at ∙ moved_two [] front px py formed in
    let last : i + 2 + n ≡ i + length (x ∷ y ∷ zs) = omega (arith, long) in
    let later : khmer_walk m (length zs + k) (i + 2) 2 ((px ∷ py ∷ front) ++ map far (zs ++ post)) ≡ moved_then (together true) m k (i + 2) 2 (px ∷ py ∷ front) (map far zs) (map far post) =
    ap (λ ys. khmer_walk m (length zs + k) (i + 2) 2 ((px ∷ py ∷ front) ++ ys)) (map-append far zs post)
    ∙ ap (λ j. khmer_walk m (j + k) (i + 2) 2 ((px ∷ py ∷ front) ++ (map far zs ++ map far post))) (sym long) ∙ does in
    ap (λ j. khmer_walk m j i c (front ++ (x ∷ y ∷ (zs ++ post)))) more
    ∙ form_step m (length zs + k) i c x y t fs (zs ++ post) at plain coeng ra
    ∙ ap (λ (r : Arrangement). record { items = r.items; events = move ∷ r.events }) later
    ∙ ap (λ ys. and_arranged (record { items = all_moved 0 rest ys; events = move ∷ move_events 0 rest }) (khmer_walk m k (i + 2 + n) 2)) (sym turned)
    ∙ ap (λ j. and_arranged (record { items = all_moved 0 rest (with_range_moved 0 i 2 (front ++ (px ∷ py ∷ formed))); events = move ∷ move_events 0 rest }) (khmer_walk m k j 2)) last
    ∙ ap (λ ms. and_arranged (record { items = all_moved 0 ms (with_range_moved 0 i 2 (front ++ (px ∷ py ∷ formed))); events = move ∷ move_events 0 ms }) (khmer_walk m k (i + length (x ∷ y ∷ zs)) 2)) seen
    ∙ ap (λ b. tested b) (sym pair)
  where
    tested : Bool → Arrangement
    tested b =
        and_arranged (record {
          items = all_moved 0 (moves_if b) ((fs ++ t ∷ []) ++ (formed_if b ++ map (item_with_features m.cfar) post));
          events = move_events 0 (moves_if b);
        }) (khmer_walk m k (i + length (x ∷ y ∷ zs)) 2)
      where
        moves_if : Bool → List MoveToFront
        moves_if d = if d then record { passed = i; taken = 2 } ∷ moves_to_front (together true) is_vowel (i + 2) zs
            else if is_vowel x && nat_lt 0 i then record { passed = i; taken = 1 } ∷ moves_to_front (together true) is_vowel (i + 1) (y ∷ zs) else moves_to_front (together true) is_vowel (i + 1) (y ∷ zs)

        formed_if : Bool → List Item
        formed_if d = if d then item_with_features m.pref x ∷ item_with_features m.pref y ∷ forms_masked (together true) (item_with_features m.pref) (map (item_with_features m.cfar) zs) else x ∷ forms_masked (together true) (item_with_features m.pref) (y ∷ map (item_with_features m.cfar) zs)

-- the last of some items is plain
abbrev EndsPlain : List Item → Type 0
EndsPlain front = (fs : List Item) × (t : Item) × (front ≡ fs ++ t ∷ []) × IsPlain t

-- after a form all items have the masks for it
record IsAfterForm (m : KhmerMasks) (c : ℕ) (front zs post : List Item) : Type 0 where
  count : c ≡ 2
  items : map (item_with_features m.cfar) zs ≡ zs
  rest : map (item_with_features m.cfar) post ≡ post
  ends : EndsPlain front

abbrev Again : Bool → KhmerMasks → ℕ → List Item → List Item → List Item → Type 0
Again false m c front zs post = Unit {0}
Again true m c front zs post = IsAfterForm m c front zs post

again_moved : (forms : Bool) (m : KhmerMasks) (c : ℕ) (x : Item) (front zs post : List Item) → Again forms m c front (x ∷ zs) post → Again forms m c (x ∷ front) zs post
again_moved false m c x front zs post a = tt
again_moved true m c x front zs post a =
    let end = a.ends in
    record { count = a.count; items = tail_same (item_with_features m.cfar) x zs a.items; rest = a.rest; ends = (x ∷ end.0, end.1, ap (λ ys. x ∷ ys) end.2, end.3) }

again_stayed : (forms : Bool) (m : KhmerMasks) (c : ℕ) (x : Item) (front zs post : List Item) → is_coeng c x ≡ false → is_vowel x ≡ false → Again forms m c front (x ∷ zs) post → Again forms m c (front ++ x ∷ []) zs post
again_stayed false m c x front zs post other stays a = tt
again_stayed true m c x front zs post other stays a =
    let same = a.count in
    record { count = same; items = tail_same (item_with_features m.cfar) x zs a.items; rest = a.rest; ends = (front, x, refl, (no_coeng (x.category == category.OT_H) (ap (λ k. x.category == category.OT_H && nat_le k 2) (sym same) ∙ other), stays)) }
  where
    no_coeng : (b : Bool) → (b && true) ≡ false → b ≡ false
    no_coeng true f = cc
    no_coeng false f = refl

form_after : (m : KhmerMasks) (k i c : ℕ) (x y : Item) (front zs post : List Item) → i ≡ length front → together true x y ≡ true → IsAfterForm m c front (x ∷ y ∷ zs) post
    → ((turned : List Item) → i + 2 ≡ length turned → IsAfterForm m 2 turned zs post → Does true m k (i + 2) 2 turned zs post) → Does true m k i c front (x ∷ y ∷ zs) post
form_after m k i c x y front zs post at pair a later =
    let far = item_with_features m.cfar in
    let end = a.ends in
    let fs = end.0 in
    let t = end.1 in
    let turned = item_with_features m.pref x ∷ item_with_features m.pref y ∷ (fs ++ t ∷ []) in
    let same_zs : map far zs ≡ zs = tail_same far y zs (tail_same far x (y ∷ zs) a.items) in
    let same_post = a.rest in
    let front_is = end.2 in
    let size : i ≡ length (fs ++ t ∷ []) = at ∙ ap length front_is in
    let coeng : is_coeng 2 x ≡ true = ap (λ b. b && true) (both_true (x.category == category.OT_H) (y.category == category.OT_Ra) pair).0 in
    let next : Does true m k (i + 2) 2 turned zs post = later turned (omega (arith, size)) (record { count = refl; items = same_zs; rest = same_post; ends = (item_with_features m.pref x ∷ item_with_features m.pref y ∷ fs, t, refl, end.3) }) in
    let masked_next = subst (λ ws. Does true m k (i + 2) 2 turned ws (map far post)) (sym same_zs) (subst (λ ws. Does true m k (i + 2) 2 turned zs ws) (sym same_post) next) in
    let moves = moves_to_front (together true) is_vowel i (x ∷ y ∷ zs) in
    let here : Does true m k i 2 (fs ++ t ∷ []) (x ∷ y ∷ zs) post =
    form_then m k i 2 x y t fs zs post size end.3 coeng pair masked_next
    ∙ ap (λ ws. and_arranged (record { items = all_moved 0 moves ((fs ++ t ∷ []) ++ (forms_masked (together true) (item_with_features m.pref) (x ∷ y ∷ ws) ++ map far post)); events = move_events 0 moves }) (khmer_walk m k (i + length (x ∷ y ∷ zs)) 2)) same_zs
    ∙ ap (λ ws. and_arranged (record { items = all_moved 0 moves ((fs ++ t ∷ []) ++ (forms_masked (together true) (item_with_features m.pref) (x ∷ y ∷ zs) ++ ws)); events = move_events 0 moves }) (khmer_walk m k (i + length (x ∷ y ∷ zs)) 2)) same_post in
    subst (λ n. Does true m k i n front (x ∷ y ∷ zs) post) (sym a.count) (subst (λ ws. Does true m k i 2 ws (x ∷ y ∷ zs) post) (sym front_is) here)

run_walked : (forms few : Bool) (m : KhmerMasks) (zs : List Item) (k i c : ℕ) (front post : List Item) → i ≡ length front → 0 < i → nat_le c 2 ≡ few → IsRun forms few zs → Again forms m c front zs post → Does forms m k i c front zs post
run_walked forms few m [] k i c front post at some counts run again =
    let none : 0 + k ≡ k = omega arith in
    let same : i + 0 ≡ i = omega arith in
    ap (λ n. khmer_walk m n i c (front ++ post)) none ∙ ap (λ n. khmer_walk m k n c (front ++ post)) (sym same)
run_walked forms few m (x ∷ []) k i c front post at some counts run again =
    let other : is_coeng c x ≡ false = ap (λ b. x.category == category.OT_H && b) counts ∙ run.0 in
    let long = length-append front (x ∷ []) in
    single forms m k i c x front [] post at some other
    (λ e. run_walked forms few m [] k (i + 1) c (x ∷ front) post (omega (arith, at)) (omega arith) counts tt (again_moved forms m c x front [] post again))
    (λ e. run_walked forms few m [] k (i + 1) c (front ++ x ∷ []) post (omega (arith, at, long)) (omega arith) counts tt (again_stayed forms m c x front [] post other e again))
run_walked false few m (x ∷ y ∷ zs) k i c front post at some counts run again =
    let other : is_coeng c x ≡ false = ap (λ b. x.category == category.OT_H && b) counts ∙ alone_not (x.category == category.OT_H && few) false refl run.0 in
    let long = length-append front (x ∷ []) in
    single false m k i c x front (y ∷ zs) post at some other
    (λ f. run_walked false few m (y ∷ zs) k (i + 1) c (x ∷ front) post (omega (arith, at)) (omega arith) counts run.1 tt)
    (λ f. run_walked false few m (y ∷ zs) k (i + 1) c (front ++ x ∷ []) post (omega (arith, at, long)) (omega arith) counts run.1 tt)
run_walked true few m (x ∷ y ∷ zs) k i c front post at some counts run again =
    by_pair (together true x y) refl
    (λ turned size formed. run_walked true few m zs k (i + 2) 2 turned post size (omega arith) (ap (λ n. nat_le n 2) (sym again.count) ∙ counts) run.1.1 formed)
    (λ turned size formed. run_walked true few m (y ∷ zs) k (i + 1) c turned post size (omega arith) counts run.1 formed)
  where
    formed_if : Bool → List Item
    formed_if d = if d then item_with_features m.pref x ∷ item_with_features m.pref y ∷ forms_masked (together true) (item_with_features m.pref) zs else x ∷ forms_masked (together true) (item_with_features m.pref) (y ∷ zs)

    moves_if : Bool → List MoveToFront
    moves_if d = if d then record { passed = i; taken = 2 } ∷ moves_to_front (together true) is_vowel (i + 2) zs
        else if is_vowel x && nat_lt 0 i then record { passed = i; taken = 1 } ∷ moves_to_front (together true) is_vowel (i + 1) (y ∷ zs) else moves_to_front (together true) is_vowel (i + 1) (y ∷ zs)

    tested : Bool → Arrangement
    tested d = and_arranged (record { items = all_moved 0 (moves_if d) (front ++ (formed_if d ++ post)); events = move_events 0 (moves_if d) }) (khmer_walk m k (i + length (x ∷ y ∷ zs)) c)

    by_pair : (d : Bool) → together true x y ≡ d
        → ((turned : List Item) → i + 2 ≡ length turned → IsAfterForm m 2 turned zs post → Does true m k (i + 2) 2 turned zs post)
        → ((turned : List Item) → i + 1 ≡ length turned → IsAfterForm m c turned (y ∷ zs) post → Does true m k (i + 1) c turned (y ∷ zs) post)
        → Does true m k i c front (x ∷ y ∷ zs) post
    by_pair true e two one = form_after m k i c x y front zs post at e again two
    by_pair false e two one =
        let other : is_coeng c x ≡ false = ap (λ b. x.category == category.OT_H && b) counts ∙ alone_not (x.category == category.OT_H && few) (together true x y) e run.0 in
        let long = length-append front (x ∷ []) in
        single true m k i c x front (y ∷ zs) post at some other
        (λ f. one (x ∷ front) (omega (arith, at)) (again_moved true m c x front (y ∷ zs) post again))
        (λ f. one (front ++ x ∷ []) (omega (arith, at, long)) (again_stayed true m c x front (y ∷ zs) post other f again))
        ∙ ap tested (sym e)

unformed : (f : Item → Item) (zs : List Item) → forms_masked (together false) f zs ≡ zs
unformed f [] = refl
unformed f (x ∷ []) = refl
unformed f (x ∷ y ∷ zs) = ap (λ ys. x ∷ ys) (unformed f (y ∷ zs))

-- ---- as rules of a list

-- moves depend on categories alone
same_moves : (forms : Bool) (i : ℕ) (xs ys : List Item) → map kind xs ≡ map kind ys → moves_to_front (together forms) is_vowel i xs ≡ moves_to_front (together forms) is_vowel i ys
same_moves forms i xs ys e =
    let pair : ℕ → ℕ → Bool = λ a b. forms && (a == category.OT_H && b == category.OT_Ra) in
    let one : ℕ → Bool = λ a. a == category.OT_VPre in
    moves_seen kind pair one i xs ∙ ap (moves_to_front pair one i) e ∙ sym (moves_seen kind pair one i ys)

formed_kinds : (bits : ℕ) (zs : List Item) → map kind (forms_masked (together true) (item_with_features bits) zs) ≡ map kind zs
formed_kinds bits [] = refl
formed_kinds bits (x ∷ []) = refl
formed_kinds bits (x ∷ y ∷ zs) = by_pair (together true x y) (formed_kinds bits zs) (formed_kinds bits (y ∷ zs))
  where
    by_pair : (d : Bool) → map kind (forms_masked (together true) (item_with_features bits) zs) ≡ map kind zs → map kind (forms_masked (together true) (item_with_features bits) (y ∷ zs)) ≡ map kind (y ∷ zs)
        → map kind (if d then item_with_features bits x ∷ item_with_features bits y ∷ forms_masked (together true) (item_with_features bits) zs else x ∷ forms_masked (together true) (item_with_features bits) (y ∷ zs)) ≡ map kind (x ∷ y ∷ zs)
    by_pair true e f = ap (λ ks. x.category ∷ y.category ∷ ks) e
    by_pair false e f = ap (λ ks. x.category ∷ ks) f

masked_kinds : (bits : ℕ) (zs : List Item) → map kind (map (item_with_features bits) zs) ≡ map kind zs
masked_kinds bits [] = refl
masked_kinds bits (x ∷ zs) = ap (λ ks. x.category ∷ ks) (masked_kinds bits zs)

pub formed_size : {X : Type 0} (pair : X → X → Bool) (f : X → X) (zs : List X) → length (forms_masked pair f zs) ≡ length zs
formed_size pair f [] = refl
formed_size pair f (x ∷ []) = refl
formed_size {X = X} pair f (x ∷ y ∷ zs) = by_pair (pair x y) (formed_size pair f zs) (formed_size pair f (y ∷ zs))
  where
    by_pair : (d : Bool) → length (forms_masked pair f zs) ≡ length zs → length (forms_masked pair f (y ∷ zs)) ≡ suc (length zs) → length (if d then f x ∷ f y ∷ forms_masked pair f zs else x ∷ forms_masked pair f (y ∷ zs)) ≡ suc (suc (length zs))
    by_pair true e g = ap (λ n. suc (suc n)) e
    by_pair false e g = ap suc g

-- what comes to the front from an index on, as moves
run_moves : (pair : Item → Item → Bool) (one : Item → Bool) (p to : ℕ) (front zs post : List Item) → p ≡ length front → to ≡ p + length zs
    → within 0 to (fronts_moved pair one p) (front ++ (zs ++ post)) ≡ record { items = all_moved 0 (moves_to_front pair one p zs) (front ++ (zs ++ post)); events = move_events 0 (moves_to_front pair one p zs) }
run_moves pair one p to front zs post at last =
    let both = front ++ zs in
    let tail : drop p both ≡ zs = ap (λ n. drop n both) at ∙ drop-append_seam front zs in
    let head : take p both ≡ front = ap (λ n. take n both) at ∙ take-append_seam front zs in
    let size = length-append front zs in
    let moves : all_moved 0 (moves_to_front pair one p zs) (front ++ (zs ++ post)) ≡ (fronts pair one zs ++ (front ++ elements_after_fronts pair one zs)) ++ post =
    ap (λ n. all_moved 0 (moves_to_front pair one n zs) (front ++ (zs ++ post))) at ∙ all_moved_fronts pair one [] front zs post in
    within_at (fronts_moved pair one p) 0 to (front ++ (zs ++ post)) [] both post refl (omega (arith, last, at, size)) (sym (append_assoc front zs post))
    ∙ ap (λ ys. record { items = (fronts pair one ys ++ (take p both ++ elements_after_fronts pair one ys)) ++ post; events = map (shifted_event 0) (move_events 0 (moves_to_front pair one p ys)) }) tail
    ∙ ap (λ ys. record { items = (fronts pair one zs ++ (ys ++ elements_after_fronts pair one zs)) ++ post; events = map (shifted_event 0) (move_events 0 (moves_to_front pair one p zs)) }) head
    ∙ ap (λ es. record { items = (fronts pair one zs ++ (front ++ elements_after_fronts pair one zs)) ++ post; events = es }) (shift_moves 0 0 (moves_to_front pair one p zs))
    ∙ ap (λ ys. record { items = ys; events = move_events 0 (moves_to_front pair one p zs) }) (sym moves)

-- a run of vowels
pub vowels_walked : (m : KhmerMasks) (c k p to : ℕ) (front zs post : List Item) → p ≡ length front → to ≡ p + length zs → 0 < p → IsRun false (nat_le c 2) zs
    → khmer_walk m (length zs + k) p c (front ++ (zs ++ post)) ≡ and_arranged (within 0 to (fronts_moved (together false) is_vowel p) (front ++ (zs ++ post))) (khmer_walk m k to c)
vowels_walked m c k p to front zs post at last some run =
    let moves = moves_to_front (together false) is_vowel p zs in
    run_walked false (nat_le c 2) m zs k p c front post at some refl run tt
    ∙ ap (λ ws. and_arranged (record { items = all_moved 0 moves (front ++ (ws ++ post)); events = move_events 0 moves }) (khmer_walk m k (p + length zs) c)) (unformed (item_with_features m.pref) zs)
    ∙ ap (λ r. and_arranged r (khmer_walk m k (p + length zs) c)) (sym (run_moves (together false) is_vowel p to front zs post at last))
    ∙ ap (λ j. and_arranged (within 0 to (fronts_moved (together false) is_vowel p) (front ++ (zs ++ post))) (khmer_walk m k j c)) (sym last)

-- a run of forms
forms_are : (m : KhmerMasks) (p to : ℕ) (x y : Item) (front zs post : List Item) → p ≡ length front → to ≡ p + length (x ∷ y ∷ zs)
    → forms_moved m p to (front ++ ((x ∷ y ∷ zs) ++ post))
    ≡ record { items = all_moved 0 (moves_to_front (together true) is_vowel p (x ∷ y ∷ zs)) (front ++ (forms_masked (together true) (item_with_features m.pref) (x ∷ y ∷ map (item_with_features m.cfar) zs) ++ map (item_with_features m.cfar) post)); events = move_events 0 (moves_to_front (together true) is_vowel p (x ∷ y ∷ zs)) }
forms_are m p to x y front zs post at last =
    let far = item_with_features m.cfar in
    let xs = front ++ (x ∷ y ∷ (zs ++ post)) in
    let head = front ++ (x ∷ y ∷ []) in
    let ms = x ∷ y ∷ map far zs in
    let formed = forms_masked (together true) (item_with_features m.pref) ms in
    let form_rule : List Item → Arrangement = λ ys. eventless_arrangement (forms_masked (together true) (item_with_features m.pref) ys) in
    let long = length-append front (x ∷ y ∷ []) in
    let size : length xs ≡ length head + length (zs ++ post) = omega (arith, long, length-append front (x ∷ y ∷ (zs ++ post))) in
    let masked_size : length (map far zs) ≡ length zs = length-map zs far in
    let first : within (p + 2) (length xs) (items_with_features m.cfar) xs ≡ record { items = front ++ (ms ++ map far post); events = [] } =
    within_at (items_with_features m.cfar) (p + 2) (length xs) xs head (zs ++ post) [] (omega (arith, at, long)) size
    (sym (append_assoc front (x ∷ y ∷ []) (zs ++ post)) ∙ ap (λ ys. head ++ ys) (sym (append-nil (zs ++ post))))
    ∙ ap (λ ys. record { items = ys; events = [] }) (append-nil (head ++ map far (zs ++ post)) ∙ append_assoc front (x ∷ y ∷ []) (map far (zs ++ post)) ∙ ap (λ ys. front ++ (x ∷ y ∷ ys)) (map-append far zs post)) in
    let second : within p to form_rule (front ++ (ms ++ map far post)) ≡ record { items = front ++ (formed ++ map far post); events = [] } =
    within_at form_rule p to (front ++ (ms ++ map far post)) front ms (map far post) at (omega (arith, last, at, masked_size)) refl ∙ ap (λ ys. record { items = ys; events = [] }) (append_assoc front formed (map far post)) in
    let formed_long : length formed ≡ length ms = formed_size (together true) (item_with_features m.pref) ms in
    let third = run_moves (together true) is_vowel p to front formed (map far post) at (omega (arith, last, formed_long, masked_size)) in
    let same = same_moves true p formed (x ∷ y ∷ zs) (formed_kinds m.pref ms ∙ ap (λ ks. x.category ∷ y.category ∷ ks) (masked_kinds m.cfar zs)) in
    ap (λ r. and_arranged (and_arranged r (within p to form_rule)) (within 0 to (fronts_moved (together true) is_vowel p))) first
    ∙ ap (λ r. and_arranged r (within 0 to (fronts_moved (together true) is_vowel p))) second
    ∙ third
    ∙ ap (λ ms. record { items = all_moved 0 ms (front ++ (formed ++ map far post)); events = move_events 0 ms }) same

pub forms_walked : (m : KhmerMasks) (c k p to : ℕ) (x y t : Item) (fs zs post : List Item) → p ≡ length (fs ++ t ∷ []) → to ≡ p + length (x ∷ y ∷ zs) → IsPlain t → nat_le c 2 ≡ true → together true x y ≡ true → IsRun true true (x ∷ y ∷ zs)
    → khmer_walk m (length (x ∷ y ∷ zs) + k) p c ((fs ++ t ∷ []) ++ ((x ∷ y ∷ zs) ++ post)) ≡ and_arranged (forms_moved m p to ((fs ++ t ∷ []) ++ ((x ∷ y ∷ zs) ++ post))) (khmer_walk m k to 2)
forms_walked m c k p to x y t fs zs post at last plain few pair run =
    let far = item_with_features m.cfar in
    let turned = item_with_features m.pref x ∷ item_with_features m.pref y ∷ (fs ++ t ∷ []) in
    let coeng : is_coeng c x ≡ true = ap (λ b. x.category == category.OT_H && b) few ∙ ap (λ b. b && true) (both_true (x.category == category.OT_H) (y.category == category.OT_Ra) pair).0 in
    form_then m k p c x y t fs zs post at plain coeng pair
    (run_walked true true m (map far zs) k (p + 2) 2 turned (map far post) (omega (arith, at)) (omega arith) refl (run_masked true true m.cfar zs run.1.1)
    (record { count = refl; items = masked_twice m.cfar zs; rest = masked_twice m.cfar post; ends = (item_with_features m.pref x ∷ item_with_features m.pref y ∷ fs, t, refl, plain) }))
    ∙ ap (λ r. and_arranged r (khmer_walk m k (p + length (x ∷ y ∷ zs)) 2)) (sym (forms_are m p to x y (fs ++ t ∷ []) zs post at last))
    ∙ ap (λ j. and_arranged (forms_moved m p to ((fs ++ t ∷ []) ++ ((x ∷ y ∷ zs) ++ post))) (khmer_walk m k j 2)) (sym last)

-- Left vowels between two halants.
use Rattle.std.proofs.Common.{ℕ, zero, suc, ◌≡◌, ◌≤◌, ◌<◌, ◌+◌, ◌-◌, ◌&&◌, Bool, true, false, not, nat_lt, if◌then◌else◌, List, [], ◌∷◌, ◌++◌, Some, get_or, length, map, take, drop, slice_get, refl, sym, ap, subst, ◌∙◌, arith, append_assoc}
use Rattle.std.specs.Prelude.{slice_range}
use Rattle.std.specs.List.{prefix_len}
use Rattle.std.proofs.lemmas.Bool.Decides.{nat_tests}
use Rattle.std.proofs.lemmas.Grind.{common_steps}
use Rattle.std.proofs.lemmas.List.{length-append, length-drop, length-map, length-take-le, drop-drop, drop-take}
use Rattle.std.proofs.lemmas.Option.{slice_get-get_or}
use Rattle.buffer_glyphs.specs.declared.info.hb_glyph_info_t.{hb_glyph_info_t}
use Rattle.buffer_glyphs.specs.Items.{Item, item_of, strip}
use Rattle.buffer_glyphs.specs.Levels.{InList}
use Rattle.buffer_glyphs.specs.Events.{Event, Move}
use Rattle.buffer_core.specs.Sides.{Sides, all_glyphs, items_of}
use Rattle.buffer_stages.specs.Ready.{IsReady}
use Rattle.buffer_stages.specs.Moves.{MoveToFront, all_moved, move_events, with_range_moved, order_of_move, reach}
use Rattle.buffer_stages.specs.Fronts.{moves_to_front, with_fronts_moved_after}
use Rattle.buffer_stages.specs.Lemmas.Fronted.{gathered_after_length, moved_one, moves_alone, moves_grow, reach_fits, part_of as middle}
use Rattle.buffer_stages.specs.Lemmas.Nested.{reach_grows}
use Rattle.buffer_glyphs.specs.Rewriting.{Arrangement, eventless_arrangement, shifted_event, and_arranged}
use Rattle.buffer_stages.specs.Rewriting.{within}
use Rattle.buffer_core.specs.Sides.{origins_by, view_of}
use Rattle.buffer_stages.specs.Moves.{IsGrowing}
use Rattle.buffer_stages.specs.SyllableBuffers.{IsRewritten}
use Rattle.buffer_stages.specs.Parts.{first_to_back, fronts_moved}
use Rattle.buffer_stages.proofs.Lemmas.Fronts.{part_moves, shift_moves}
use Rattle.buffer_stages.specs.Lemmas.Parts.{moved_range, range_size, rewritten_part, within_size}
use Rattle.buffer_stages.specs.Lemmas.Rewritings.{counted, rewritten_count, rewritten_next, rewritten_same, rewritten_slice}
use Rattle.script_universal.specs.Reordering.{Step, is_halant, is_left, left_vowel_step_at, left_walk}
use Rattle.script_universal.specs.Walked.{IsWalked, together}
use Rattle.buffer_stages.proofs.Lemmas.Elements.{split_at}
use Rattle.buffer_glyphs.specs.Lemmas.Origins.{slice_seen as range_seen}
use Rattle.buffer_glyphs.specs.Lemmas.Glyphs.{cut_out as whole_cut}

-- none of some items is a halant
abbrev pub NoHalants : List Item → Type 0
NoHalants [] = Unit {0}
NoHalants (x ∷ xs) = (is_halant x ≡ false) × NoHalants xs

-- ---- one left vowel after another

got_at : (pre front : List Item) (x : Item) (rest : List Item) (i : ℕ) → i ≡ length pre + length front → slice_get (pre ++ (front ++ x ∷ rest)) i ≡ Some x
got_at pre front x rest i e = ap (slice_get (pre ++ (front ++ x ∷ rest))) e ∙ got_after pre
  where
    got_front : (f : List Item) → slice_get (f ++ x ∷ rest) (length f) ≡ Some x
    got_front [] = refl
    got_front (y ∷ ys) = got_front ys

    got_after : (p : List Item) → slice_get (p ++ (front ++ x ∷ rest)) (length p + length front) ≡ Some x
    got_after [] = let none : 0 + length front ≡ length front = omega arith in ap (slice_get (front ++ x ∷ rest)) none ∙ got_front front
    got_after (y ∷ ys) = let more : suc (length ys) + length front ≡ suc (length ys + length front) = omega arith in ap (slice_get (y ∷ (ys ++ (front ++ x ∷ rest)))) more ∙ got_after ys

-- the step at an index without a halant
abbrev step_if : Bool → ℕ → ℕ → List Item → Step
step_if t i b xs = if t then record { rewritten = within b (i + 1) (first_to_back (i - b)) xs; after_halant = b } else record { rewritten = eventless_arrangement xs; after_halant = b }

at_index : (i b : ℕ) (xs : List Item) (x : Item) → slice_get xs i ≡ Some x → is_halant x ≡ false → left_vowel_step_at i b xs ≡ step_if (is_left x && nat_lt b i) i b xs
at_index i b xs x e h = rw e (ap (λ t. if t then record { rewritten = eventless_arrangement xs; after_halant = i + 1 } else step_if (is_left x && nat_lt b i) i b xs) h)

-- a move within a sublist
move_within : (b n : ℕ) (xs : List Item) → b + (n + 1) ≤ length xs → within b (b + n + 1) (first_to_back (b + n - b)) xs ≡ record { items = with_range_moved b n 1 xs; events = Move InList b (order_of_move n 1) ∷ [] }
move_within b n xs fits =
    let part = slice_range xs b (b + n + 1) in
    let long : b + n + 1 - b ≡ n + 1 = omega arith in
    let size : length part ≡ n + 1 = range_size b (b + n + 1) xs (omega arith) (omega (arith, fits)) ∙ long in
    let passed : b + n - b ≡ n = omega arith in
    let one : length part - n ≡ 1 = omega (arith, size) in
    let none : b + 0 ≡ b = omega arith in
    let left : b + n + 1 - b - n ≡ 1 = omega arith in
    let cut : take b xs ++ (drop n part ++ take n part) ++ drop (b + n + 1) xs ≡ with_range_moved b n 1 xs = sym (moved_range b (b + n + 1) n xs (omega arith) (omega (arith, fits))) ∙ ap (λ m. with_range_moved b n m xs) left in
    ap (λ m. record { items = take b xs ++ (drop m part ++ take m part) ++ drop (b + n + 1) xs; events = Move InList (b + 0) (order_of_move m (length part - m)) ∷ [] }) passed
    ∙ ap (λ ys. record { items = ys; events = Move InList (b + 0) (order_of_move n (length part - n)) ∷ [] }) cut
    ∙ ap (λ m. record { items = with_range_moved b n 1 xs; events = Move InList (b + 0) (order_of_move n m) ∷ [] }) one
    ∙ ap (λ m. record { items = with_range_moved b n 1 xs; events = Move InList m (order_of_move n 1) ∷ [] }) none

-- a walk over items of which none is a halant: the moves of its left vowels
walk_range : (zs : List Item) (m b i : ℕ) (pre front post : List Item) → length pre ≡ b → i ≡ b + length front → NoHalants zs
    → left_walk (length zs + m) i b (pre ++ (front ++ (zs ++ post)))
    ≡ and_arranged (record { items = all_moved b (moves_to_front together is_left (length front) zs) (pre ++ (front ++ (zs ++ post))); events = move_events b (moves_to_front together is_left (length front) zs) }) (left_walk m (i + length zs) b)
walk_range [] m b i pre front post at here h =
    let none : 0 + m ≡ m = omega arith in
    let same : i + 0 ≡ i = omega arith in
    ap (λ k. left_walk k i b (pre ++ (front ++ ([] ++ post)))) none ∙ ap (λ k. left_walk m k b (pre ++ (front ++ ([] ++ post)))) (sym same)
walk_range (x ∷ zs) m b i pre front post at here h =
    let xs = pre ++ (front ++ (x ∷ (zs ++ post))) in
    let n = length front in
    let more : suc (length zs) + m ≡ suc (length zs + m) = omega arith in
    let got = got_at pre front x (zs ++ post) i (here ∙ ap (λ k. k + n) (sym at)) in
    let step = at_index i b xs x got h.0 in
    let test : nat_lt b i ≡ nat_lt 0 n = ap (nat_lt b) here ∙ (grind (arith, nat_tests, common_steps)) in
    let ms = moves_to_front together is_left n (x ∷ zs) in
    let split = moves_alone is_left n x zs in
    let size : b + (n + 1) ≤ length xs = omega (arith, at, length-append pre (front ++ (x ∷ (zs ++ post))), length-append front (x ∷ (zs ++ post))) in
    ap (λ k. left_walk k i b xs) more
    ∙ ap (λ (s : Step). and_arranged s.rewritten (left_walk (length zs + m) (i + 1) s.after_halant)) (step ∙ ap (λ t. step_if (is_left x && t) i b xs) test)
    ∙ by_test (is_left x && nat_lt 0 n) size (walk_range zs m b (i + 1) pre (x ∷ front) post at (omega (arith, here)) h.1) (walk_range zs m b (i + 1) pre (front ++ x ∷ []) post at (omega (arith, here, length-append front (x ∷ []))) h.1)
    ∙ ap (λ (ns : List MoveToFront). and_arranged (record { items = all_moved b ns xs; events = move_events b ns }) (left_walk m (i + suc (length zs)) b)) (sym split)
  where
    rest_of : ℕ → List Item → Arrangement
    rest_of k ys = and_arranged (record { items = all_moved b (moves_to_front together is_left k zs) ys; events = move_events b (moves_to_front together is_left k zs) }) (left_walk m (i + 1 + length zs) b)

    by_test : (t : Bool) → b + (length front + 1) ≤ length (pre ++ (front ++ (x ∷ (zs ++ post))))
        → left_walk (length zs + m) (i + 1) b (pre ++ ((x ∷ front) ++ (zs ++ post))) ≡ rest_of (suc (length front)) (pre ++ ((x ∷ front) ++ (zs ++ post)))
        → left_walk (length zs + m) (i + 1) b (pre ++ ((front ++ x ∷ []) ++ (zs ++ post))) ≡ rest_of (length (front ++ x ∷ [])) (pre ++ ((front ++ x ∷ []) ++ (zs ++ post)))
        → and_arranged (step_if t i b (pre ++ (front ++ (x ∷ (zs ++ post))))).rewritten (left_walk (length zs + m) (i + 1) (step_if t i b (pre ++ (front ++ (x ∷ (zs ++ post))))).after_halant)
        ≡ and_arranged (record {
          items = all_moved b (if t then record { passed = length front; taken = 1 } ∷ moves_to_front together is_left (length front + 1) zs else moves_to_front together is_left (length front + 1) zs) (pre ++ (front ++ (x ∷ (zs ++ post))));
          events = move_events b (if t then record { passed = length front; taken = 1 } ∷ moves_to_front together is_left (length front + 1) zs else moves_to_front together is_left (length front + 1) zs);
        }) (left_walk m (i + suc (length zs)) b)
    by_test true size first later =
        let xs = pre ++ (front ++ (x ∷ (zs ++ post))) in
        let n = length front in
        let e : Event = Move InList b (order_of_move n 1) in
        let turned : with_range_moved b n 1 xs ≡ pre ++ ((x ∷ front) ++ (zs ++ post)) = ap (λ k. with_range_moved k n 1 xs) (sym at) ∙ moved_one pre front x (zs ++ post) in
        let one : suc n ≡ n + 1 = omega arith in
        let last : i + 1 + length zs ≡ i + suc (length zs) = omega arith in
        let moves : within b (i + 1) (first_to_back (i - b)) xs ≡ record { items = with_range_moved b n 1 xs; events = e ∷ [] } =
        ap (λ k. within b (k + 1) (first_to_back (k - b)) xs) here ∙ move_within b n xs size in
        let then_all : left_walk (length zs + m) (i + 1) b (with_range_moved b n 1 xs) ≡ rest_of (n + 1) (with_range_moved b n 1 xs) =
        ap (left_walk (length zs + m) (i + 1) b) turned ∙ first ∙ ap (λ k. rest_of k (pre ++ ((x ∷ front) ++ (zs ++ post)))) one ∙ ap (rest_of (n + 1)) (sym turned) in
        ap (λ r. and_arranged r (left_walk (length zs + m) (i + 1) b)) moves
        ∙ ap (λ (r : Arrangement). record { items = r.items; events = e ∷ r.events }) then_all
        ∙ ap (λ k. and_arranged (record { items = all_moved b (record { passed = n; taken = 1 } ∷ moves_to_front together is_left (n + 1) zs) xs; events = move_events b (record { passed = n; taken = 1 } ∷ moves_to_front together is_left (n + 1) zs) }) (left_walk m k b)) last
    by_test false size first later =
        let xs = pre ++ (front ++ (x ∷ (zs ++ post))) in
        let whole : pre ++ ((front ++ x ∷ []) ++ (zs ++ post)) ≡ xs = ap (λ ys. pre ++ ys) (append_assoc front (x ∷ []) (zs ++ post)) in
        let last : i + 1 + length zs ≡ i + suc (length zs) = omega arith in
        ap (left_walk (length zs + m) (i + 1) b) (sym whole) ∙ later ∙ ap (λ k. rest_of k (pre ++ ((front ++ x ∷ []) ++ (zs ++ post)))) (length-append front (x ∷ [])) ∙ ap (rest_of (length front + 1)) whole
        ∙ ap (λ k. and_arranged (record { items = all_moved b (moves_to_front together is_left (length front + 1) zs) xs; events = move_events b (moves_to_front together is_left (length front + 1) zs) }) (left_walk m k b)) last

-- ---- up to the next halant

abbrev pub passes : Item → Bool
passes y = not (is_halant y)

none_before : (ys : List Item) → NoHalants (take (prefix_len passes ys) ys)
none_before [] = tt
none_before (x ∷ ys) = by_test (is_halant x) refl (none_before ys)
  where
    by_test : (t : Bool) → is_halant x ≡ t → NoHalants (take (prefix_len passes ys) ys) → NoHalants (take (if not t then 1 + prefix_len passes ys else 0) (x ∷ ys))
    by_test true e h = tt
    by_test false e h = let one : suc (prefix_len passes ys) ≡ 1 + prefix_len passes ys = omega arith in subst (λ n. NoHalants (take n (x ∷ ys))) one (e, h)

halant_there : (ys : List Item) → prefix_len passes ys < length ys → (h : Item) × (slice_get (drop (prefix_len passes ys) ys) 0 ≡ Some h) × (is_halant h ≡ true)
halant_there [] lt = absurd (omega (arith, lt))
halant_there (x ∷ ys) lt = by_test (is_halant x) refl lt (halant_there ys)
  where
    Stands : ℕ → List Item → Type 0
    Stands n zs = (h : Item) × (slice_get (drop n zs) 0 ≡ Some h) × (is_halant h ≡ true)

    by_test : (t : Bool) → is_halant x ≡ t → (if not t then 1 + prefix_len passes ys else 0) < suc (length ys) → (prefix_len passes ys < length ys → Stands (prefix_len passes ys) ys) → Stands (if not t then 1 + prefix_len passes ys else 0) (x ∷ ys)
    by_test true e less later = (x, refl, e)
    by_test false e less later = let one : suc (prefix_len passes ys) ≡ 1 + prefix_len passes ys = omega arith in subst (λ n. Stands n (x ∷ ys)) one (later (omega (arith, less)))

got_from : (xs : List Item) (n : ℕ) → slice_get (drop n xs) 0 ≡ slice_get xs n
got_from [] zero = refl
got_from [] (suc n) = refl
got_from (x ∷ xs) zero = refl
got_from (x ∷ xs) (suc n) = got_from xs n

-- what stands from an index of a part on
part_from : (start end i : ℕ) (gs : List hb_glyph_info_t) → start + i ≤ end → strip (slice_range gs (start + i) end) ≡ drop i (slice_range (strip gs) start end)
part_from start end i gs le =
    let n : end - start ≡ i + (end - (start + i)) = omega (arith, le) in
    range_seen item_of (start + i) end gs
    ∙ sym (ap (λ m. drop i (take m (drop start (strip gs)))) n ∙ drop-take i (end - (start + i)) (drop start (strip gs)) ∙ ap (take (end - (start + i))) (drop-drop i start (strip gs)))

-- ---- a range that was rewritten

abbrev range_done : ℕ → ℕ → List Item → Arrangement
range_done i to xs = record { items = all_moved i (moves_to_front together is_left 0 (slice_range xs i to)) xs; events = move_events i (moves_to_front together is_left 0 (slice_range xs i to)) }

part_is : (i to : ℕ) (xs : List Item) → i ≤ to → to ≤ length xs → within i to (fronts_moved together is_left 0) xs ≡ range_done i to xs
part_is i to xs le fits =
    let ms = moves_to_front together is_left 0 (slice_range xs i to) in
    let none : i + 0 ≡ i = omega arith in
    ap (λ es. record { items = take i xs ++ with_fronts_moved_after together is_left 0 (slice_range xs i to) ++ drop to xs; events = es }) (shift_moves i 0 ms ∙ ap (λ k. move_events k ms) none)
    ∙ ap (λ ys. record { items = ys; events = move_events i ms }) (part_moves together is_left i to 0 xs (omega (arith, le)) fits)

part_size : (i to : ℕ) (xs : List Item) → i ≤ to → to ≤ length xs → length (range_done i to xs).items ≡ length xs
part_size i to xs le fits = ap (λ (r : Arrangement). length r.items) (sym (part_is i to xs le fits)) ∙ within_size (fronts_moved together is_left 0) i to xs (λ ys. gathered_after_length together is_left 0 ys) le fits

walk_is : (n i count : ℕ) (xs : List Item) → i + count ≤ n → length xs ≡ n → NoHalants (take count (drop i xs)) → left_walk (n - i) i i xs ≡ and_arranged (range_done i (i + count) xs) (left_walk (n - (i + count)) (i + count) i)
walk_is n i count xs le size none =
    let to = i + count in
    let zs = slice_range xs i to in
    let pre = take i xs in
    let post = drop to xs in
    let whole : pre ++ ([] ++ (zs ++ post)) ≡ xs = sym (append_assoc pre zs post) ∙ whole_cut i to xs (omega arith) in
    let a : length pre ≡ i = length-take-le i xs (omega (arith, le, size)) in
    let c : to - i ≡ count = omega arith in
    let long : length zs ≡ count = range_size i to xs (omega arith) (omega (arith, le, size)) ∙ c in
    let total : n - i ≡ length zs + (n - to) = omega (arith, long, le) in
    let free : NoHalants zs = subst (λ k. NoHalants (take k (drop i xs))) (sym c) none in
    let walk = walk_range zs (n - to) i i pre [] post a (let same : i ≡ i + 0 = omega arith in same) free in
    ap (λ k. left_walk k i i xs) total
    ∙ subst (λ ys. left_walk (length zs + (n - to)) i i ys ≡ and_arranged (record { items = all_moved i (moves_to_front together is_left 0 zs) ys; events = move_events i (moves_to_front together is_left 0 zs) }) (left_walk (n - to) (i + length zs) i)) whole walk
    ∙ ap (λ k. and_arranged (range_done i to xs) (left_walk (n - to) (i + k) i)) long

pub record IsLeftRange (start end i count : ℕ) (a b : Sides) : Type 0 where
  pub inside : start + i + count ≤ end
  pub fits : end ≤ length (all_glyphs a)
  pub counts : count ≡ prefix_len passes (strip (slice_range (all_glyphs a) (start + i) end))
  pub rewrites : IsRewritten (fronts_moved together is_left 0 (slice_range (items_of a) (start + i) (start + i + count))) (start + i) (start + i + count) a b

range_part : (start end i count : ℕ) (a b : Sides) → IsLeftRange start end i count a b → IsRewritten (range_done i (i + count) (slice_range (items_of a) start end)) start end a b
range_part start end i count a b s =
    let xs = slice_range (items_of a) start end in
    let le = s.inside in
    let fits = s.fits in
    let size = range_size start end (items_of a) (omega (arith, le)) (omega (arith, counted a, fits)) in
    subst (λ r. IsRewritten r start end a b) (part_is i (i + count) xs (omega arith) (omega (arith, size, le)))
    (rewritten_part (fronts_moved together is_left 0) start end i (i + count) (start + i) (start + i + count) a b refl (omega arith) (omega arith) (omega (arith, le)) (omega (arith, counted a, fits)) s.rewrites)

-- what the walk from the end of the range on yields is what the whole walk yields
range_does : (start end i count : ℕ) (a b new : Sides) → IsLeftRange start end i count a b
    → IsRewritten (left_walk (end - start - (i + count)) (i + count) i (slice_range (items_of b) start end)) start end b new
    → IsRewritten (left_walk (end - start - i) i i (slice_range (items_of a) start end)) start end a new
range_does start end i count a b new s f =
    let xs = slice_range (items_of a) start end in
    let le = s.inside in
    let fits = s.fits in
    let there : end ≤ length (items_of a) = omega (arith, counted a, fits) in
    let size : length xs ≡ end - start = range_size start end (items_of a) (omega (arith, le)) there in
    let seen : strip (slice_range (all_glyphs a) (start + i) end) ≡ drop i xs = part_from start end i (all_glyphs a) (omega (arith, le)) in
    let none : NoHalants (take count (drop i xs)) = subst (λ k. NoHalants (take k (drop i xs))) (sym (s.counts ∙ ap (prefix_len passes) seen)) (none_before (drop i xs)) in
    let walk = walk_is (end - start) i count xs (omega (arith, le)) size none in
    let long = part_size i (i + count) xs (omega arith) (omega (arith, size, le)) ∙ size in
    subst (λ r. IsRewritten r start end a new) (sym walk)
    (rewritten_next (range_done i (i + count) xs) (left_walk (end - start - (i + count)) (i + count) i) start end a b new (omega (arith, le)) there long (range_part start end i count a b s) f)

range_count : (start end i count : ℕ) (a b : Sides) → IsLeftRange start end i count a b → length (all_glyphs b) ≡ length (all_glyphs a)
range_count start end i count a b s =
    let xs = slice_range (items_of a) start end in
    let le = s.inside in
    let fits = s.fits in
    let there : end ≤ length (items_of a) = omega (arith, counted a, fits) in
    let size : length xs ≡ end - start = range_size start end (items_of a) (omega (arith, le)) there in
    rewritten_count (range_done i (i + count) xs) start end a b (omega (arith, le)) there (part_size i (i + count) xs (omega arith) (omega (arith, size, le)) ∙ size) (range_part start end i count a b s)

-- the range ends the syllable
pub last_walked : (start end i count : ℕ) (a b : Sides) → IsLeftRange start end i count a b → start + i + count ≡ end → IsWalked start end i (end - start) a b
last_walked start end i count a b s at =
    let r = s.rewrites in
    record {
      ready = r.ready;
      size = range_count start end i count a b s;
      does = λ new f.
          let first : end - start - (end - start) ≡ 0 = omega arith in
          let second : end - start - (i + count) ≡ 0 = omega (arith, at) in
          let ys = slice_range (items_of b) start end in
          let same : IsRewritten (eventless_arrangement ys) start end b new = subst (λ n. IsRewritten (left_walk n (end - start) (end - start) ys) start end b new) first f in
          range_does start end i count a b new s (subst (λ n. IsRewritten (left_walk n (i + count) i ys) start end b new) (sym second) same);
    }

-- a halant ends it
pub halant_walked : (start end i count : ℕ) (a b : Sides) → IsLeftRange start end i count a b → start + i + count < end → IsWalked start end i (i + count + 1) a b
halant_walked start end i count a b s lt =
    let r = s.rewrites in
    let xs = slice_range (items_of a) start end in
    let le = s.inside in
    let fits = s.fits in
    let to = i + count in
    let there : end ≤ length (items_of a) = omega (arith, counted a, fits) in
    let size : length xs ≡ end - start = range_size start end (items_of a) (omega (arith, le)) there in
    let seen : strip (slice_range (all_glyphs a) (start + i) end) ≡ drop i xs = part_from start end i (all_glyphs a) (omega (arith, le)) in
    let is : prefix_len passes (drop i xs) ≡ count = sym (s.counts ∙ ap (prefix_len passes) seen) in
    let tail = length-drop i xs in
    let found = halant_there (drop i xs) (omega (arith, is, tail, size, lt)) in
    let part = part_size i to xs (omega arith) (omega (arith, size, le)) ∙ size in
    let ys = slice_range (items_of b) start end in
    let now : ys ≡ (range_done i to xs).items = rewritten_slice (range_done i to xs) start end a b (omega (arith, le)) there part (range_part start end i count a b s) in
    let laid : ys ≡ take i xs ++ with_fronts_moved_after together is_left 0 (slice_range xs i to) ++ drop to xs = now ∙ sym (part_moves together is_left i to 0 xs (omega arith) (omega (arith, size, le))) in
    let long = gathered_after_length together is_left 0 (slice_range xs i to) ∙ range_size i to xs (omega arith) (omega (arith, size, le)) in
    let rest : drop to ys ≡ drop to xs = ap (drop to) laid ∙ (middle i to xs (with_fronts_moved_after together is_left 0 (slice_range xs i to)) (omega arith) (omega (arith, size, le)) long).1 in
    let at : slice_get ys to ≡ Some found.0 =
    sym (got_from ys to) ∙ ap (λ zs. slice_get zs 0) (rest ∙ sym (drop-drop count i xs) ∙ ap (λ n. drop n (drop i xs)) (sym is)) ∙ found.1 in
    record {
      ready = r.ready;
      size = range_count start end i count a b s;
      does = λ new f.
          let left : end - start - to ≡ suc (end - start - (to + 1)) = omega (arith, lt) in
          let halts : left_vowel_step_at to i ys ≡ record { rewritten = eventless_arrangement ys; after_halant = to + 1 } = met_halant to i ys found.0 at found.2 in
          let walk : left_walk (end - start - to) to i ys ≡ left_walk (end - start - (to + 1)) (to + 1) (to + 1) ys =
          ap (λ n. left_walk n to i ys) left ∙ ap (λ (st : Step). and_arranged st.rewritten (left_walk (end - start - (to + 1)) (to + 1) st.after_halant)) halts in
          range_does start end i count a b new s (subst (λ q. IsRewritten q start end b new) (sym walk) f);
    }
  where
    met_halant : (n b : ℕ) (zs : List Item) (x : Item) → slice_get zs n ≡ Some x → is_halant x ≡ true → left_vowel_step_at n b zs ≡ record { rewritten = eventless_arrangement zs; after_halant = n + 1 }
    met_halant n b zs x e h = rw e (ap (λ t. if t then record { rewritten = eventless_arrangement zs; after_halant = n + 1 } else step_if (is_left x && nat_lt b n) n b zs) h)

-- ---- one range after another

pub none_walked : (start end : ℕ) (s : Sides) → IsReady s → IsWalked start end 0 0 s s
none_walked start end s ready = record { ready = ready; size = refl; does = λ new f. f }

pub both_walked : (start end i j k : ℕ) (a b c : Sides) → IsWalked start end i j a b → IsWalked start end j k b c → IsWalked start end i k a c
both_walked start end i j k a b c f g = record { ready = g.ready; size = g.size ∙ f.size; does = λ new h. f.does new (g.does new h) }

pub all_walked : (start end j : ℕ) (a b : Sides) → start ≤ end → end - start ≤ j → IsWalked start end 0 j a b → IsRewritten (left_walk (end - start) 0 0 (slice_range (items_of a) start end)) start end a b
all_walked start end j a b le past f =
    let none : end - start - j ≡ 0 = omega (arith, past) in
    let all : end - start - 0 ≡ end - start = omega arith in
    let ys = slice_range (items_of b) start end in
    subst (λ n. IsRewritten (left_walk n 0 0 (slice_range (items_of a) start end)) start end a b) all
    (f.does b (subst (λ n. IsRewritten (left_walk n j j ys) start end b b) (sym none) (rewritten_same start end b le f.ready)))

-- ---- the last left vowel of a range

abbrev pub left_reach : ℕ → ℕ → List hb_glyph_info_t → ℕ
left_reach n i gs = reach n (moves_to_front together is_left i (strip (drop i gs)))

left_step : (gs : List hb_glyph_info_t) (i n : ℕ) (g : hb_glyph_info_t) (t : Bool) → slice_get gs i ≡ Some g → (is_left (item_of g) && nat_lt 0 i) ≡ t → left_reach n i gs ≡ left_reach (if t then i + 1 else n) (i + 1) gs
left_step gs i n g t at e =
    ap (λ hs. reach n (moves_to_front together is_left i (strip hs))) (split_at gs i g at) ∙ ap (reach n) (moves_alone is_left i (item_of g) (strip (drop (i + 1) gs))) ∙ ap (λ b. reach n (if b then record { passed = i; taken = 1 } ∷ rest else rest)) e ∙ by_test t
  where
    rest : List MoveToFront
    rest = moves_to_front together is_left (i + 1) (strip (drop (i + 1) gs))

    by_test : (b : Bool) → reach n (if b then record { passed = i; taken = 1 } ∷ rest else rest) ≡ reach (if b then i + 1 else n) rest
    by_test true = refl
    by_test false = refl

pub left_next : (gs : List hb_glyph_info_t) (i n m : ℕ) (g : hb_glyph_info_t) → slice_get gs i ≡ Some g → (is_left (item_of g) && nat_lt 0 i) ≡ true → left_reach n i gs ≡ m → left_reach (i + 1) (i + 1) gs ≡ m
left_next gs i n m g at e h = sym (left_step gs i n g true at e) ∙ h

pub other_next : (gs : List hb_glyph_info_t) (i n m : ℕ) (g : hb_glyph_info_t) → slice_get gs i ≡ Some g → (is_left (item_of g) && nat_lt 0 i) ≡ false → left_reach n i gs ≡ m → left_reach n (i + 1) gs ≡ m
other_next gs i n m g at e h = sym (left_step gs i n g false at e) ∙ h

pub left_kept : (gs : List hb_glyph_info_t) (i n next m : ℕ) (d : hb_glyph_info_t) (t : Bool) → i < length gs → t ≡ (is_left (item_of (get_or gs i d)) && nat_lt 0 i) → t ≡ true → next ≡ i + 1 → left_reach n i gs ≡ m → left_reach next (i + 1) gs ≡ m
left_kept gs i n next m d t lt is on e h = ap (λ k. left_reach k (i + 1) gs) e ∙ left_next gs i n m (get_or gs i d) (slice_get-get_or gs i d lt) (sym is ∙ on) h

pub other_kept : (gs : List hb_glyph_info_t) (i n next m : ℕ) (d : hb_glyph_info_t) (t : Bool) → i < length gs → t ≡ (is_left (item_of (get_or gs i d)) && nat_lt 0 i) → t ≡ false → next ≡ n → left_reach n i gs ≡ m → left_reach next (i + 1) gs ≡ m
other_kept gs i n next m d t lt is off e h = ap (λ k. left_reach k (i + 1) gs) e ∙ other_next gs i n m (get_or gs i d) (slice_get-get_or gs i d lt) (sym is ∙ off) h

pub left_all : (gs : List hb_glyph_info_t) (i n m : ℕ) → length gs ≤ i → left_reach n i gs ≡ m → n ≡ m
left_all gs i n m le h = sym (ap (λ hs. reach n (moves_to_front together is_left i (strip hs))) (past gs i le)) ∙ h
  where
    past : (hs : List hb_glyph_info_t) (j : ℕ) → length hs ≤ j → drop j hs ≡ []
    past [] zero lt = refl
    past [] (suc j) lt = refl
    past (k ∷ ks) zero lt = absurd (omega (arith, lt))
    past (k ∷ ks) (suc j) lt = past ks j (omega (arith, lt))

pub left_fits : (gs : List hb_glyph_info_t) (n : ℕ) → n ≡ left_reach 1 0 gs → 1 < n → n ≤ length gs
left_fits gs n e lt = by_size (strip gs) (length-map gs item_of) e
  where
    by_size : (xs : List Item) → length xs ≡ length gs → n ≡ reach 1 (moves_to_front together is_left 0 xs) → n ≤ length gs
    by_size [] len f = absurd (omega (arith, f, lt))
    by_size (x ∷ xs) len f = let le = reach_fits together is_left 1 0 (x ∷ xs) (omega arith) in omega (arith, len, f, le)

-- no left vowel moves
no_moves : (xs : List Item) → reach 1 (moves_to_front together is_left 0 xs) < 2 → moves_to_front together is_left 0 xs ≡ []
no_moves [] lt = refl
no_moves (x ∷ xs) lt = by_moves (moves_to_front together is_left 0 (x ∷ xs)) grows lt
  where
    grows : IsGrowing 2 (moves_to_front together is_left 0 (x ∷ xs))
    grows = subst (IsGrowing 2) (sym (moves_alone is_left 0 x xs ∙ by_left (is_left x))) (moves_grow together is_left 2 1 xs (omega arith))
      where
        by_left : (t : Bool) → (if t && nat_lt 0 0 then record { passed = 0; taken = 1 } ∷ moves_to_front together is_left (0 + 1) xs else moves_to_front together is_left (0 + 1) xs) ≡ moves_to_front together is_left 1 xs
        by_left true = refl
        by_left false = refl

    by_moves : (ms : List MoveToFront) → IsGrowing 2 ms → reach 1 ms < 2 → ms ≡ []
    by_moves [] g less = refl
    by_moves (m ∷ ms) g less = let up = reach_grows (m.passed + m.taken) ms g.1 in let first = g.0 in absurd (omega (arith, up, first, less))

pub reach_is : (start end n : ℕ) (gs hs : List hb_glyph_info_t) → gs ≡ hs → n ≡ left_reach 1 0 (slice_range gs start end) → n ≡ reach 1 (moves_to_front together is_left 0 (slice_range (strip hs) start end))
reach_is start end n gs hs same e =
    e ∙ ap (λ ks. left_reach 1 0 (slice_range ks start end)) same ∙ ap (λ xs. reach 1 (moves_to_front together is_left 0 xs)) (range_seen item_of start end hs)

pub range_stays : (start end n : ℕ) (gs : List hb_glyph_info_t) (a : Sides) → IsReady a → start ≤ end → end ≤ length (all_glyphs a) → gs ≡ all_glyphs a → n ≡ left_reach 1 0 (slice_range gs start end) → n < 2
    → IsRewritten (fronts_moved together is_left 0 (slice_range (items_of a) start end)) start end a a
range_stays start end n gs a ready le fits seen e lt =
    let part = slice_range (items_of a) start end in
    let same = reach_is start end n gs (all_glyphs a) seen e in
    let none = no_moves part (omega (arith, same, lt)) in
    record {
      view = ap (λ xs. record (view_of a) { items = xs }) (sym (part_moves together is_left start end 0 (items_of a) (omega (arith, le)) (omega (arith, counted a, fits)) ∙ ap (λ ms. all_moved start ms (items_of a)) none));
      origins = ap (λ ms. origins_by (map (shifted_event start) (move_events 0 ms)) a) (sym none);
      settings = refl;
      ready = ready;
    }

pub range_is : (start end i count : ℕ) (gs : List hb_glyph_info_t) (a b : Sides) → start + i < end → end ≤ length (all_glyphs a) → gs ≡ all_glyphs a
    → count ≡ prefix_len passes (strip (slice_range gs (start + i) end)) → count ≤ length (slice_range gs (start + i) end)
    → IsRewritten (fronts_moved together is_left 0 (slice_range (items_of a) (start + i) (start + i + count))) (start + i) (start + i + count) a b → IsLeftRange start end i count a b
range_is start end i count gs a b lt fits same e few f =
    let size = ap (λ hs. length (slice_range hs (start + i) end)) same ∙ range_size (start + i) end (all_glyphs a) (omega (arith, lt)) fits in
    record {
      inside = omega (arith, size, few, lt);
      fits = fits;
      counts = e ∙ ap (λ hs. prefix_len passes (strip (slice_range hs (start + i) end))) same;
      rewrites = f;
    }

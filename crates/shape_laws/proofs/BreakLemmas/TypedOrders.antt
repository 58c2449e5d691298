-- Orders of marks keep the letters at both ends of a run.
use Rattle.std.proofs.Common.{ℕ, ◌≡◌, ◌+◌, ◌-◌, ◌==◌, ◌||◌, Bool, true, false, if◌then◌else◌, List, [], ◌∷◌, ◌++◌, map, take, drop, Option, None, Some, append_assoc, arith, refl, sym, ap, subst, ◌∙◌}
use Rattle.std.specs.Prelude.{max}
use Rattle.std.specs.List.{All}
use Rattle.std.specs.List.Sorted.{IsPermutation}
use Rattle.std.proofs.lemmas.List.{drop-drop, take-append-drop}
use Rattle.std.proofs.lemmas.List.Elements.{All-append, All-cons, All-drop, All-head, All-nil, All-tail, All-take}
use Rattle.std.proofs.lemmas.List.Sorted.{All-permutation, IsPermutation-append_comm, IsPermutation-append_left, IsPermutation-append_right}
use Rattle.buffer_unicode_tables.specs.Tables.{Tables}
use Rattle.buffer_glyphs.specs.Events.{Move}
use Rattle.buffer_glyphs.specs.Items.{Item}
use Rattle.buffer_glyphs.specs.Levels.{InList}
use Rattle.buffer_glyphs.specs.Origins.{with_range_changed}
use Rattle.buffer_glyphs.specs.Rewriting.{eventless_arrangement}
use Rattle.buffer_properties.specs.Characters.{mark_class}
use Rattle.buffer_stages.specs.Moves.{order_of_move, with_range_moved}
use Rattle.script_joining.specs.Types.{type_of_item}
use Rattle.script_arabic.specs.Marks.{count_below, count_leading, item_with_class}
use Rattle.script_arabic.specs.MarkOrder.{arabic_order, leading_first, leading_marks}
use Rattle.script_hebrew.specs.Hebrew.{first_three}
use Rattle.script_hebrew.specs.MarkOrder.{hebrew_order, with_marks_swapped}
use Rattle.shape_laws.specs.Breaks.Types.{IsTyped, OrderKeepsTypes, StandFor, joins_nothing}
use Rattle.shape_laws.proofs.BreakLemmas.Ends.{AreQuiet, quiet_moved}
use Rattle.shape_laws.proofs.BreakLemmas.Typed.{stand_both, stand_same, stand_then}

-- ---- moves

-- a list is its range of two, between what is before and after it
two_ranges : {X : Type 0} (start n k : ℕ) (xs : List X) → (take start xs ++ (take n (drop start xs) ++ take k (drop (start + n) xs))) ++ drop (start + (n + k)) xs ≡ xs
two_ranges start n k xs =
    let first = take n (drop start xs) in
    let second = take k (drop (start + n) xs) in
    let further : start + (n + k) ≡ start + n + k = omega arith in
    let back : second ++ drop (start + (n + k)) xs ≡ drop (start + n) xs = ap (λ (m : ℕ). second ++ drop m xs) further ∙ ap (λ ys. second ++ ys) (sym (drop-drop k (start + n) xs)) ∙ take-append-drop k (drop (start + n) xs) in
    append_assoc (take start xs) (first ++ second) (drop (start + (n + k)) xs)
    ∙ ap (λ ys. take start xs ++ ys) (append_assoc first second (drop (start + (n + k)) xs) ∙ ap (λ ys. first ++ ys) (back ∙ sym (drop-drop n start xs)) ∙ take-append-drop n (drop start xs)) ∙ take-append-drop start xs

-- a move of a range permutes
range_permutes : {X : Type 0} (start n k : ℕ) (xs : List X) → IsPermutation xs (with_range_moved start n k xs)
range_permutes start n k xs =
    let first = take n (drop start xs) in
    let second = take k (drop (start + n) xs) in
    let last = drop (start + (n + k)) xs in
    subst (λ ys. IsPermutation ys (with_range_moved start n k xs)) (two_ranges start n k xs)
    (IsPermutation-append_left last (take start xs ++ (first ++ second)) (take start xs ++ (second ++ first)) (IsPermutation-append_right (take start xs) (first ++ second) (second ++ first) (IsPermutation-append_comm first second)))

-- an item joins nothing
abbrev Quiet : Tables → Item → Type 0
Quiet t z = joins_nothing (type_of_item t z) ≡ true

-- items in another order stand for the run, and join nothing either
record StandQuietly (t : Tables) (xs zs : List Item) : Type 0 where
  stand : StandFor t xs zs
  quiet : AreQuiet t zs

moved_stand : (t : Tables) (start n k : ℕ) (xs : List Item) → All (IsTyped t) xs → AreQuiet t xs → StandQuietly t xs (with_range_moved start n k xs)
moved_stand t start n k xs p q =
    let moved = range_permutes start n k xs in
    let zs = with_range_moved start n k xs in
    record {
      stand = record { ends = quiet_moved t xs zs q moved; typed = All-permutation (IsTyped t) xs zs moved p };
      quiet = All-permutation (Quiet t) xs zs moved q;
    }

-- ---- classes

classed_stand : (t : Tables) (class : ℕ) (xs : List Item) → All (IsTyped t) xs → AreQuiet t xs → StandQuietly t xs (map (item_with_class class) xs)
classed_stand t class [] p q = record { stand = stand_same t [] p; quiet = q }
classed_stand t class (x ∷ xs) p q =
    let own = (All-head (IsTyped t) x xs p).own in
    let quiet = All-head (Quiet t) x xs q in
    let y = item_with_class class x in
    let rest = classed_stand t class xs (All-tail (IsTyped t) x xs p) (All-tail (Quiet t) x xs q) in
    let typed : IsTyped t y = record { own = own; ordered = ap (λ b. mark_class y == 0 || b) quiet ∙ or_true (mark_class y == 0) } in
    record {
      stand = stand_both t (x ∷ []) (y ∷ []) xs (map (item_with_class class) xs) (record { ends = refl; typed = All-cons (IsTyped t) y [] typed (All-nil (IsTyped t)) }) rest.stand;
      quiet = All-cons (Quiet t) y (map (item_with_class class) xs) quiet rest.quiet;
    }
  where
    or_true : (b : Bool) → (b || true) ≡ true
    or_true true = refl
    or_true false = refl

-- two parts of a list, of which the first stands for another
first_stands : (t : Tables) (xs zs ys : List Item) → StandQuietly t xs zs → All (IsTyped t) ys → AreQuiet t ys → StandQuietly t (xs ++ ys) (zs ++ ys)
first_stands t xs zs ys p h q = record { stand = stand_both t xs zs ys ys p.stand (stand_same t ys h); quiet = All-append (Quiet t) zs ys p.quiet q }

second_stands : (t : Tables) (xs ys zs : List Item) → All (IsTyped t) xs → AreQuiet t xs → StandQuietly t ys zs → StandQuietly t (xs ++ ys) (xs ++ zs)
second_stands t xs ys zs h q p = record { stand = stand_both t xs xs ys zs (stand_same t xs h) p.stand; quiet = All-append (Quiet t) xs zs q p.quiet }

changed_stand : (t : Tables) (class to : ℕ) (xs : List Item) → All (IsTyped t) xs → AreQuiet t xs → StandQuietly t xs (with_range_changed (item_with_class class) 0 to xs)
changed_stand t class to xs p q =
    let front = take (to - 0) xs in
    let back = drop (max 0 to) xs in
    let same : max 0 to ≡ to - 0 = omega arith in
    let whole : front ++ back ≡ xs = ap (λ (n : ℕ). front ++ drop n xs) same ∙ take-append-drop (to - 0) xs in
    subst (λ ys. StandQuietly t ys (with_range_changed (item_with_class class) 0 to xs)) whole
    (first_stands t front (map (item_with_class class) front) back (classed_stand t class front (All-take (IsTyped t) (to - 0) xs p) (All-take (Quiet t) (to - 0) xs q)) (All-drop (IsTyped t) (max 0 to) xs p) (All-drop (Quiet t) (max 0 to) xs q))

quietly_then : (t : Tables) (xs ys zs : List Item) → StandQuietly t xs ys → StandQuietly t ys zs → StandQuietly t xs zs
quietly_then t xs ys zs p q = record { stand = stand_then t xs ys zs p.stand q.stand; quiet = q.quiet }

quietly_same : (t : Tables) (xs : List Item) → All (IsTyped t) xs → AreQuiet t xs → StandQuietly t xs xs
quietly_same t xs p q = record { stand = stand_same t xs p; quiet = q }

-- ---- the shapers' orders

pub none_keeps : (t : Tables) → OrderKeepsTypes t (λ run. eventless_arrangement run)
none_keeps t run p q = stand_same t run p

pub hebrew_keeps : (t : Tables) → OrderKeepsTypes t hebrew_order
hebrew_keeps t run p q = by_index (first_three run)
  where
    by_index : (o : Option ℕ) → StandFor t run (with_marks_swapped o run).items
    by_index None = stand_same t run p
    by_index (Some n) = (moved_stand t (n + 1) 1 1 run p q).stand

leading_stands : (t : Tables) (class below leading : ℕ) (run : List Item) → All (IsTyped t) run → AreQuiet t run → StandQuietly t run (leading_marks class below leading run).items
leading_stands t class below leading run p q =
    let one = moved_stand t 0 below leading run p q in
    let two = changed_stand t class leading (with_range_moved 0 below leading run) one.stand.typed one.quiet in
    elim (leading == 0) as (λ b. StandQuietly t run (if b then eventless_arrangement run else record { items = with_range_changed (item_with_class class) 0 leading (with_range_moved 0 below leading run); events = Move InList 0 (order_of_move below leading) ∷ [] }).items) [
      | true ↦ quietly_same t run p q
      | false ↦ quietly_then t run (with_range_moved 0 below leading run) (with_range_changed (item_with_class class) 0 leading (with_range_moved 0 below leading run)) one two
    ]

pub arabic_keeps : (t : Tables) → OrderKeepsTypes t arabic_order
arabic_keeps t run p q =
    let first = leading_first 220 25 run in
    let n = count_leading 220 run in
    let one = leading_stands t 25 (count_below 220 run) n run p q in
    let front = take n first.items in
    let rest = drop n first.items in
    let two = leading_stands t 26 (count_below 230 rest) (count_leading 230 rest) rest (All-drop (IsTyped t) n first.items one.stand.typed) (All-drop (Quiet t) n first.items one.quiet) in
    let both = second_stands t front rest (leading_first 230 26 rest).items (All-take (IsTyped t) n first.items one.stand.typed) (All-take (Quiet t) n first.items one.quiet) two in
    (quietly_then t run first.items (front ++ (leading_first 230 26 rest).items) one (subst (λ ys. StandQuietly t ys (front ++ (leading_first 230 26 rest).items)) (take-append-drop n first.items) both)).stand

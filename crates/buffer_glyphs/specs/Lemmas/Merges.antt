-- A merge of a range: the least coarsening that unites it, and in order a join.
use Rattle.std.proofs.Common.{ℕ, ◌≡◌, ◌≢◌, ◌≤◌, ◌+◌, ◌-◌, ◌⊎◌, inl, inr, Bool, true, false, min, max, if◌then◌else◌, List, [], ◌∷◌, ◌++◌, map, take, drop, arith, refl, ap, subst, sym, ◌∙◌, append_assoc}
use Rattle.std.specs.Prelude.{fold}
use Rattle.std.proofs.lemmas.Bool.Decides.{nat_tests}
use Rattle.std.proofs.lemmas.Grind.{common_steps}
use Rattle.std.proofs.lemmas.List.{map-id, drop-drop, take-append-drop}
use Rattle.buffer_glyphs.specs.declared.level.BufferClusterLevel.{BufferClusterLevel}
use Rattle.buffer_glyphs.specs.Parts.{JoinParts, united_number, last_from, joined_numbers, range_of, after_part_event}
use Rattle.buffer_glyphs.specs.Order.{AllFrom, IsChain, IsInOrder, IsOrdered, IsLeast, BringsNone, has_number}
use Rattle.buffer_glyphs.specs.Merges.{least_number, merged_number, merged_numbers, numbers_merged_as, numbers_merged_at, IsOneOn}
use Rattle.buffer_glyphs.specs.Levels.{InList, IsMonotone, IsUniting, Manner, Unites, Marks, Keeps, manner}
use Rattle.buffer_glyphs.specs.Laws.{MergeUnites, MergeIsJoin}
use Rattle.buffer_glyphs.specs.Lemmas.Parts.{Stands, stands_self}
use Rattle.buffer_glyphs.specs.Lemmas.Numbers.{Has, has_here, has_more, has_cases, has_right, has_either, has_take, has_drop, has_map, has_last_from}
use Rattle.buffer_glyphs.specs.Lemmas.Ends.{from_first, to_last, from_has, joined_alike}

min_cases : (m n : ℕ) → (min m n ≡ m) ⊎ (min m n ≡ n)
min_cases m n = grind (arith, nat_tests, common_steps)

least_from : (acc : ℕ) (ns : List ℕ) → IsLeast (fold min acc ns) (acc ∷ ns)
least_from acc [] = record { among = has_here acc []; below = λ n h. elim (has_cases acc n [] h) [ inl e ↦ omega (arith, e) | inr none ↦ cc ] }
least_from acc (m ∷ ms) =
    let rest = least_from (min acc m) ms in
    let low : fold min (min acc m) ms ≤ min acc m = rest.below (min acc m) (has_here (min acc m) ms) in
    record {
      among = elim (has_cases (min acc m) (fold min (min acc m) ms) ms rest.among) [
        | inl e ↦ elim (min_cases acc m) [
          | inl left ↦ let P : ℕ → Type 0 = λ k. Has (acc ∷ m ∷ ms) k in subst P (sym left ∙ e) (has_here acc (m ∷ ms))
          | inr right ↦ let P : ℕ → Type 0 = λ k. Has (acc ∷ m ∷ ms) k in subst P (sym right ∙ e) (has_more acc m (m ∷ ms) (has_here m ms))
        ]
        | inr later ↦ has_more acc (fold min (min acc m) ms) (m ∷ ms) (has_more m (fold min (min acc m) ms) ms later)
      ];
      below = λ n h. elim (has_cases acc n (m ∷ ms) h) [
        | inl e ↦ omega (arith, e, low)
        | inr later ↦ elim (has_cases m n ms later) [ inl e ↦ omega (arith, e, low) | inr last ↦ rest.below n (has_more (min acc m) n ms last) ]
      ];
    }

-- the least number of a list that has one
pub least_number_is : (n : ℕ) (ns : List ℕ) → IsLeast (least_number (n ∷ ns)) (n ∷ ns)
least_number_is n ns = least_from n ns

same_least : (k m : ℕ) (ns : List ℕ) → IsLeast k ns → IsLeast m ns → k ≡ m
same_least k m ns l r = omega (arith, l.below m r.among, r.below k l.among)

pub has_least : (n : ℕ) (range : List ℕ) → Has range n → Has range (least_number range)
has_least n [] h = cc
has_least n (x ∷ xs) h = (least_number_is x xs).among

pub merged_in : (range : List ℕ) (n : ℕ) → Has range n → merged_number range n ≡ least_number range
merged_in range n h = rw h refl

merged_same : (range : List ℕ) (f : ℕ → ℕ) → IsOneOn range f → (n : ℕ) (t : Bool) → has_number range n ≡ t → f (if t then least_number range else n) ≡ f n
merged_same range f one n true e = one (least_number range) n (has_least n range e) e
merged_same range f one n false e = refl

pub merge_unites : MergeUnites
merge_unites range = record {
  unites = λ m n h k. merged_in range m h ∙ sym (merged_in range n k);
  least = λ f one n. merged_same range f one n (has_number range n) refl;
}

pub map_alike : (f g : ℕ → ℕ) (ns : List ℕ) → ((n : ℕ) → Has ns n → f n ≡ g n) → map f ns ≡ map g ns
map_alike f g [] same = refl
map_alike f g (n ∷ ns) same =
    let first = same n (has_here n ns) in
    let rest = map_alike f g ns (λ m h. same m (has_more n m ns h)) in
    ap (λ m. m ∷ map f ns) first ∙ ap (λ ms. g n ∷ ms) rest

pub chain_left : (R : ℕ → ℕ → Type 0) (xs ys : List ℕ) → IsChain R (xs ++ ys) → IsChain R xs
chain_left R [] ys h = tt
chain_left R (x ∷ xs) ys h = (all_left x xs h.0, chain_left R xs ys h.1)
  where
    all_left : (m : ℕ) (zs : List ℕ) → AllFrom R m (zs ++ ys) → AllFrom R m zs
    all_left m [] a = tt
    all_left m (z ∷ zs) a = (a.0, all_left m zs a.1)

pub chain_right : (R : ℕ → ℕ → Type 0) (xs ys : List ℕ) → IsChain R (xs ++ ys) → IsChain R ys
chain_right R [] ys h = h
chain_right R (x ∷ xs) ys h = chain_right R xs ys h.1

-- a number of the first part is related to each of the second
pub chain_across : (R : ℕ → ℕ → Type 0) (m n : ℕ) (xs ys : List ℕ) → IsChain R (xs ++ ys) → Has xs m → Has ys n → R m n
chain_across R m n [] ys h hm hn = cc
chain_across R m n (x ∷ xs) ys h hm hn = elim (has_cases x m xs hm) [
  | inl e ↦ let P : ℕ → Type 0 = λ k. R k n in subst P e (from_has R x n (xs ++ ys) h.0 (has_right n xs ys hn))
  | inr later ↦ chain_across R m n xs ys h.1 later hn
]

before_rising : (x y n : ℕ) → x ≤ y → n ≤ x → n ≢ x → united_number (min x y) (max x y) n ≡ n
before_rising x y n h k ne = grind (arith, nat_tests, common_steps)

after_rising : (x y n : ℕ) → x ≤ y → y ≤ n → n ≢ y → united_number (min x y) (max x y) n ≡ n
after_rising x y n h k ne = grind (arith, nat_tests, common_steps)

before_falling : (x y n : ℕ) → y ≤ x → x ≤ n → n ≢ x → united_number (min x y) (max x y) n ≡ n
before_falling x y n h k ne = grind (arith, nat_tests, common_steps)

after_falling : (x y n : ℕ) → y ≤ x → n ≤ y → n ≢ y → united_number (min x y) (max x y) n ≡ n
after_falling x y n h k ne = grind (arith, nat_tests, common_steps)

-- a number on either side of a range stays as it is
pub outside : (falls : Bool) (x y n : ℕ) → Stands falls x y → (Stands falls n x × n ≢ x) ⊎ (Stands falls y n × n ≢ y) → united_number (min x y) (max x y) n ≡ n
outside false x y n h (inl k) = before_rising x y n h k.0 k.1
outside false x y n h (inr k) = after_rising x y n h k.0 k.1
outside true x y n h (inl k) = before_falling x y n h k.0 k.1
outside true x y n h (inr k) = after_falling x y n h k.0 k.1

pub stands_chain : (falls : Bool) (ns : List ℕ) → IsInOrder falls ns → IsChain (Stands falls) ns
stands_chain false ns h = h
stands_chain true ns h = h

in_order : (falls : Bool) (ns : List ℕ) → IsChain (Stands falls) ns → IsInOrder falls ns
in_order false ns h = h
in_order true ns h = h

not_among : (range : List ℕ) (n m : ℕ) → has_number range n ≡ false → Has range m → n ≢ m
not_among range n m e h same = let bad : has_number range n ≡ true = rw same h in let none : true ≡ false = sym bad ∙ e in cc

least_end : (falls : Bool) (x : ℕ) (xs : List ℕ) → IsChain (Stands falls) (x ∷ xs) → IsLeast (min x (last_from x xs)) (x ∷ xs)
least_end falls x xs o = record {
  among = elim (min_cases x (last_from x xs)) [
    | inl first ↦ subst (Has (x ∷ xs)) (sym first) (has_here x xs)
    | inr last ↦ subst (Has (x ∷ xs)) (sym last) (has_last_from x xs)
  ];
  below = λ n h. below falls n (from_first (Stands falls) (stands_self falls) x n xs o.0 h) (to_last (Stands falls) (stands_self falls) x n xs o h);
}
  where
    below : (f : Bool) (n : ℕ) → Stands f x n → Stands f n (last_from x xs) → min x (last_from x xs) ≤ n
    below false n h k = omega arith
    below true n h k = omega arith

least_of_ends : (falls : Bool) (x : ℕ) (xs : List ℕ) → IsChain (Stands falls) (x ∷ xs) → least_number (x ∷ xs) ≡ min x (last_from x xs)
least_of_ends falls x xs o = same_least (least_number (x ∷ xs)) (min x (last_from x xs)) (x ∷ xs) (least_number_is x xs) (least_end falls x xs o)

joined_at : (falls : Bool) (x n : ℕ) (front xs back : List ℕ) → IsChain (Stands falls) (front ++ (x ∷ xs) ++ back) → Has (front ++ (x ∷ xs) ++ back) n → (t : Bool) → has_number (x ∷ xs) n ≡ t
    → (if t then least_number (x ∷ xs) else n) ≡ united_number (min x (last_from x xs)) (max x (last_from x xs)) n
joined_at falls x n front xs back o h true e =
    let range = chain_right (Stands falls) front (x ∷ xs) (chain_left (Stands falls) (front ++ (x ∷ xs)) back o) in
    least_of_ends falls x xs range ∙ sym (joined_alike falls x n xs (in_order falls (x ∷ xs) range) e)
joined_at falls x n front xs back o h false e =
    let last = last_from x xs in
    let near = chain_left (Stands falls) (front ++ (x ∷ xs)) back o in
    let range = chain_right (Stands falls) front (x ∷ xs) near in
    let ends : Stands falls x last = to_last (Stands falls) (stands_self falls) x x xs range (has_here x xs) in
    sym (outside falls x last n ends (elim (has_either n (front ++ (x ∷ xs)) back h) [
      | inl there ↦ elim (has_either n front (x ∷ xs) there) [
        | inl before ↦ inl (chain_across (Stands falls) n x front (x ∷ xs) near before (has_here x xs), not_among (x ∷ xs) n x e (has_here x xs))
        | inr among ↦ let none : true ≡ false = sym among ∙ e in cc
      ]
      | inr beyond ↦ inr (chain_across (Stands falls) last n (front ++ (x ∷ xs)) back o (has_right last front (x ∷ xs) (has_last_from x xs)) beyond, not_among (x ∷ xs) n last e (has_last_from x xs))
    ]))

pub merge_is_join : MergeIsJoin
merge_is_join falls front [] back o = map-id (front ++ [] ++ back)
merge_is_join falls front (x ∷ xs) back o =
    map_alike (merged_number (x ∷ xs)) (united_number (min x (last_from x xs)) (max x (last_from x xs))) (front ++ (x ∷ xs) ++ back)
    (λ n h. joined_at falls x n front xs back (stands_chain falls (front ++ (x ∷ xs) ++ back) o) h (has_number (x ∷ xs) n) refl)

cut_out : (from to : ℕ) (ns : List ℕ) → from ≤ to → take from ns ++ range_of from to ns ++ drop to ns ≡ ns
cut_out from to ns le =
    let there : from + (to - from) ≡ to = omega arith in
    let beyond : drop (to - from) (drop from ns) ≡ drop to ns = drop-drop (to - from) from ns ∙ ap (λ n. drop n ns) there in
    append_assoc (take from ns) (range_of from to ns) (drop to ns) ∙ ap (λ ms. take from ns ++ (range_of from to ns ++ ms)) (sym beyond) ∙ ap (λ ms. take from ns ++ ms) (take-append-drop (to - from) (drop from ns)) ∙ take-append-drop from ns

merge_joins_order : (falls : Bool) (from to : ℕ) (ns : List ℕ) → from ≤ to → IsInOrder falls ns → merged_numbers (range_of from to ns) ns ≡ after_part_event ns (JoinParts from to)
merge_joins_order falls from to ns le o =
    let P : List ℕ → Type 0 = λ ms. IsInOrder falls ms → merged_numbers (range_of from to ns) ms ≡ joined_numbers (range_of from to ns) ms in
    subst P (cut_out from to ns le) (merge_is_join falls (take from ns) (range_of from to ns) (drop to ns)) o

pub merge_joins_ordered : (from to : ℕ) (ns : List ℕ) → from ≤ to → IsOrdered ns → merged_numbers (range_of from to ns) ns ≡ after_part_event ns (JoinParts from to)
merge_joins_ordered from to ns le o = elim o [ inl rises ↦ merge_joins_order false from to ns le rises | inr falls ↦ merge_joins_order true from to ns le falls ]

-- in order, at a monotone level, a merge of the indices from `from` up to before `to` is a join
pub merge_joins : (level : BufferClusterLevel) (from to : ℕ) (ns : List ℕ) → from ≤ to → IsMonotone level → IsOrdered ns → numbers_merged_at level from to ns ≡ after_part_event ns (JoinParts from to)
merge_joins level from to ns le mono o = by_manner (manner InList level) mono
  where
    by_manner : (m : Manner) → IsUniting m → numbers_merged_as m from to ns ≡ after_part_event ns (JoinParts from to)
    by_manner Unites u = merge_joins_ordered from to ns le o
    by_manner Marks u = absurd u
    by_manner Keeps u = absurd u

pub has_in_range : (from to n : ℕ) (ns : List ℕ) → Has (range_of from to ns) n → Has ns n
has_in_range from to n ns h = has_drop n from ns (has_take n (to - from) (drop from ns) h)

merged_known : (range ns : List ℕ) → ((n : ℕ) → Has range n → Has ns n) → (n : ℕ) → Has ns n → (t : Bool) → has_number range n ≡ t → Has ns (if t then least_number range else n)
merged_known range ns known n h true e = known (least_number range) (has_least n range e)
merged_known range ns known n h false e = h

merge_brings_none : (from to : ℕ) (ns : List ℕ) → BringsNone ns (merged_numbers (range_of from to ns) ns)
merge_brings_none from to ns n h =
    let range = range_of from to ns in
    let source = has_map (merged_number range) n ns h in
    subst (Has ns) source.2 (merged_known range ns (λ m k. has_in_range from to m ns k) source.0 source.1 (has_number range source.0) refl)

-- a merge brings no number
pub numbers_brought : (m : Manner) (from to : ℕ) (ns : List ℕ) → BringsNone ns (numbers_merged_as m from to ns)
numbers_brought Unites from to ns = merge_brings_none from to ns
numbers_brought Marks from to ns = λ n h. h
numbers_brought Keeps from to ns = λ n h. h

pub merged_at_brings : (level : BufferClusterLevel) (from to : ℕ) (ns : List ℕ) → BringsNone ns (numbers_merged_at level from to ns)
merged_at_brings level from to ns = numbers_brought (manner InList level) from to ns

-- Clusters that stay unsafe to break as origins leave and hand on their flags.
use Rattle.std.proofs.Common.{ℕ, zero, suc, ◌≡◌, ◌≤◌, ◌+◌, ◌-◌, ◌==◌, ◌⊎◌, inl, inr, Bool, true, false, if◌then◌else◌, List, [], ◌∷◌, ◌++◌, Option, Some, None, length, map, take, drop, arith, refl, ap, sym, subst, ◌∙◌}
use Rattle.std.specs.List.{list_any}
use Rattle.std.specs.Int.RustNames.{bit_or}
use Rattle.std.proofs.lemmas.List.{append-nil, take-append-drop, drop-drop, length-append, length-drop, length-replicate, length-take}
use Rattle.std.proofs.Math.Seq.{take-append_seam, drop-append_seam, take-nil}
use Rattle.buffer_glyphs.specs.Parts.{first_of, last_of, is_number, last_from, or, copies, elements_replaced}
use Rattle.buffer_glyphs.specs.Order.{IsOrdered}
use Rattle.buffer_glyphs.specs.Origins.{Origin, numbers, flags_added, with_first_changed, with_last_changed, is_unsafe, unsafe_flags, flags_for, other_cluster, origins_handed_before, origins_handed_after, origins_handed_on, origins_handed_if}
use Rattle.buffer_glyphs.specs.Lemmas.Numbers.{Has, MayHave, has_here, has_more, has_cases, has_left, has_either, has_last}
use Rattle.buffer_glyphs.specs.Lemmas.Drawn.{last_more}
use Rattle.buffer_glyphs.specs.Lemmas.Deletions.{last_is}
use Rattle.buffer_glyphs.specs.Lemmas.Ends.{from_first, to_last}
use Rattle.buffer_glyphs.specs.Lemmas.Merges.{chain_left, chain_right, chain_across}
use Rattle.buffer_glyphs.specs.Lemmas.Handed.{numbers_handed_if}
use Rattle.buffer_parts.specs.Breaks.Unsafe.{is_unsafe_of, has_unsafe_of}
use Rattle.buffer_parts.proofs.BreakLemmas.Any.{any_here, any_more, any_cases, any_left, any_right, any_halves, any_mapped}
use Rattle.buffer_parts.proofs.BreakLemmas.Flags.{unsafe_kept, unsafe_added, unsafe_of, of_unsafe, added_stays}
use Rattle.buffer_parts.proofs.BreakLemmas.Apart.{lasting}
use Rattle.buffer_glyphs.proofs.Joined.{order_second as ordered_right}
use Rattle.buffer_stages.specs.Lemmas.Nested.{numbers_both}
use Rattle.buffer_facts.proofs.Numbers.{some_is as some_number, same_by_test as equal_test}
use Rattle.buffer_facts.proofs.Truth.{both_true}

-- ---- what is unsafe stays so

last_any : {X : Type 0} (p : X → Bool) (f : X → X) (xs : List X) → ((x : X) → p x ≡ true → p (f x) ≡ true) → list_any p xs ≡ true → list_any p (with_last_changed f xs) ≡ true
last_any p f xs keeps h =
    let n = length xs - 1 in
    elim (any_halves p n xs h) [
      | inl before ↦ any_left p (take n xs) (map f (drop n xs)) before
      | inr last ↦ any_right p (take n xs) (map f (drop n xs)) (any_mapped p f (drop n xs) keeps last)
    ]

first_any : {X : Type 0} (p : X → Bool) (f : X → X) (xs : List X) → ((x : X) → p x ≡ true → p (f x) ≡ true) → list_any p xs ≡ true → list_any p (with_first_changed f xs) ≡ true
first_any p f xs keeps h = elim (any_halves p 1 xs h) [
  | inl first ↦ any_left p (map f (take 1 xs)) (drop 1 xs) (any_mapped p f (take 1 xs) keeps first)
  | inr later ↦ any_right p (map f (take 1 xs)) (drop 1 xs) later
]

on_stays : (c : ℕ) (gone : List Origin) (seam : ℕ) (os : List Origin) → has_unsafe_of c os ≡ true → has_unsafe_of c (origins_handed_on gone seam os) ≡ true
on_stays c gone seam os h =
    let p = is_unsafe_of c in
    let front = take seam os in
    let back = drop seam os in
    let before = last_of (numbers front) in
    elim (any_halves p seam os h) [
      | inl there ↦ any_left p (origins_handed_before gone front) (origins_handed_after gone before back) (last_any p (flags_added (flags_for before gone)) front (λ o g. added_stays c (flags_for before gone) o g) there)
      | inr there ↦
          let after = flags_for (other_cluster before (first_of (numbers back))) gone in
          any_right p (origins_handed_before gone front) (origins_handed_after gone before back) (first_any p (flags_added after) back (λ o g. added_stays c after o g) there)
    ]

pub handing_stays : (asked : Bool) (c : ℕ) (gone : List Origin) (seam : ℕ) (os : List Origin) → has_unsafe_of c os ≡ true → has_unsafe_of c (origins_handed_if asked gone seam os) ≡ true
handing_stays true c gone seam os h = on_stays c gone seam os h
handing_stays false c gone seam os h = h

pub handed_there : (asked : Bool) (c : ℕ) (gone : List Origin) (seam : ℕ) (os : List Origin) → Has (numbers (origins_handed_if asked gone seam os)) c → Has (numbers os) c
handed_there asked c gone seam os h = subst (λ (ns : List ℕ). Has ns c) (numbers_handed_if asked gone seam os) h

-- ---- what leaves gives its flags to a neighbour of its cluster

unsafe_among : (c : ℕ) (gone : List Origin) → has_unsafe_of c gone ≡ true → is_unsafe (unsafe_flags c gone) ≡ true
unsafe_among c [] h = cc
unsafe_among c (o ∷ gone) h = by_test (is_unsafe_of c o) refl (λ later. unsafe_among c gone later)
  where
    by_test : (t : Bool) → is_unsafe_of c o ≡ t → (has_unsafe_of c gone ≡ true → is_unsafe (unsafe_flags c gone) ≡ true) → is_unsafe (if t then bit_or o.flags (unsafe_flags c gone) else unsafe_flags c gone) ≡ true
    by_test true e rest = unsafe_kept o.flags (unsafe_flags c gone) (both_true (o.cluster == c) (is_unsafe o.flags) e).1
    by_test false e rest = elim (any_cases (is_unsafe_of c) o gone h) [ inl here ↦ let no : true ≡ false = sym here ∙ e in cc | inr later ↦ rest later ]

last_gets : (c bits : ℕ) (os : List Origin) → is_unsafe bits ≡ true → last_of (numbers os) ≡ Some c → has_unsafe_of c (with_last_changed (flags_added bits) os) ≡ true
last_gets c bits [] some e = cc
last_gets c bits (o ∷ []) some e = any_here (is_unsafe_of c) (flags_added bits o) [] (of_unsafe c (flags_added bits o) (some_number o.cluster c e) (unsafe_added o.flags bits some))
last_gets c bits (o ∷ q ∷ qs) some e =
    let f = flags_added bits in
    let os = o ∷ q ∷ qs in
    let more : length os - 1 ≡ suc (length (q ∷ qs) - 1) = omega arith in
    let is : with_last_changed f os ≡ o ∷ with_last_changed f (q ∷ qs) = ap (λ n. take n os ++ map f (drop n os)) more in
    ap (has_unsafe_of c) is ∙ any_more (is_unsafe_of c) o (with_last_changed f (q ∷ qs)) (last_gets c bits (q ∷ qs) some (sym (last_more o.cluster q.cluster (numbers qs)) ∙ e))

first_gets : (c bits : ℕ) (os : List Origin) → is_unsafe bits ≡ true → first_of (numbers os) ≡ Some c → has_unsafe_of c (with_first_changed (flags_added bits) os) ≡ true
first_gets c bits [] some e = cc
first_gets c bits (o ∷ os) some e = any_here (is_unsafe_of c) (flags_added bits o) os (of_unsafe c (flags_added bits o) (some_number o.cluster c e) (unsafe_added o.flags bits some))

-- one beside a seam is of the cluster
abbrev pub IsBeside : ℕ → ℕ → List Origin → Type 0
IsBeside c seam os = (last_of (numbers (take seam os)) ≡ Some c) ⊎ (first_of (numbers (drop seam os)) ≡ Some c)

on_gives : (c : ℕ) (gone : List Origin) (seam : ℕ) (os : List Origin) → has_unsafe_of c gone ≡ true → IsBeside c seam os → has_unsafe_of c (origins_handed_on gone seam os) ≡ true
on_gives c gone seam os h beside = by_side beside
  where
    front : List Origin
    front = take seam os

    back : List Origin
    back = drop seam os

    some : is_unsafe (unsafe_flags c gone) ≡ true
    some = unsafe_among c gone h

    to_before : last_of (numbers front) ≡ Some c → has_unsafe_of c (origins_handed_on gone seam os) ≡ true
    to_before e =
        any_left (is_unsafe_of c) (origins_handed_before gone front) (origins_handed_after gone (last_of (numbers front)) back)
        (ap (λ o. has_unsafe_of c (with_last_changed (flags_added (flags_for o gone)) front)) e ∙ last_gets c (unsafe_flags c gone) front some e)

    to_after : (before : Option ℕ) → last_of (numbers front) ≡ before → is_number before c ≡ false → first_of (numbers back) ≡ Some c → has_unsafe_of c (origins_handed_on gone seam os) ≡ true
    to_after before d other e =
        let is : other_cluster (last_of (numbers front)) (first_of (numbers back)) ≡ Some c =
        ap (λ o. other_cluster o (first_of (numbers back))) d ∙ ap (other_cluster before) e ∙ ap (λ (t : Bool). if t then None else Some c) other in
        any_right (is_unsafe_of c) (origins_handed_before gone front) (origins_handed_after gone (last_of (numbers front)) back)
        (ap (λ o. has_unsafe_of c (with_first_changed (flags_added (flags_for o gone)) back)) is ∙ first_gets c (unsafe_flags c gone) back some e)

    by_number : (p : ℕ) → last_of (numbers front) ≡ Some p → (t : Bool) → (p == c) ≡ t → first_of (numbers back) ≡ Some c → has_unsafe_of c (origins_handed_on gone seam os) ≡ true
    by_number p d true same e = to_before (d ∙ ap (λ n. Some n) (equal_test p c same))
    by_number p d false other e = to_after (Some p) d other e

    by_before : (before : Option ℕ) → last_of (numbers front) ≡ before → first_of (numbers back) ≡ Some c → has_unsafe_of c (origins_handed_on gone seam os) ≡ true
    by_before None d e = to_after None d refl e
    by_before (Some p) d e = by_number p d (p == c) refl e

    by_side : IsBeside c seam os → has_unsafe_of c (origins_handed_on gone seam os) ≡ true
    by_side (inl e) = to_before e
    by_side (inr e) = by_before (last_of (numbers front)) refl e

pub handing_gives : (asked : Bool) (c : ℕ) (gone : List Origin) (seam : ℕ) (os : List Origin) → asked ≡ true → has_unsafe_of c gone ≡ true → IsBeside c seam os → has_unsafe_of c (origins_handed_if asked gone seam os) ≡ true
handing_gives true c gone seam os e h beside = on_gives c gone seam os h beside
handing_gives false c gone seam os e h beside = cc

-- ---- numbers in order: those of a cluster stand side by side

-- the last of some numbers before others is one of the others that is among them
pub last_same : (c : ℕ) (front range : List ℕ) → IsOrdered (front ++ range) → Has front c → Has range c → last_of front ≡ Some c
last_same c [] range o h k = cc
last_same c (n ∷ front) range o h k = last_is n front ∙ ap (λ m. Some m) (by_order o)
  where
    last : ℕ
    last = last_from n front

    among : Has (n ∷ front) last
    among = subst (λ o. MayHave (n ∷ front) o) (last_is n front) (has_last (n ∷ front))

    by_order : IsOrdered ((n ∷ front) ++ range) → last ≡ c
    by_order (inl rises) =
        let up : last ≤ c = chain_across (λ x y. x ≤ y) last c (n ∷ front) range rises among k in
        let low : c ≤ last = to_last (λ x y. x ≤ y) (λ x. omega arith) n c front (chain_left (λ x y. x ≤ y) (n ∷ front) range rises) h in
        omega (arith, up, low)
    by_order (inr falls) =
        let down : c ≤ last = chain_across (λ x y. y ≤ x) last c (n ∷ front) range falls among k in
        let high : last ≤ c = to_last (λ x y. y ≤ x) (λ x. omega arith) n c front (chain_left (λ x y. y ≤ x) (n ∷ front) range falls) h in
        omega (arith, down, high)

-- the first of some numbers after others is one of the others that is among them
pub first_same : (c : ℕ) (range back : List ℕ) → IsOrdered (range ++ back) → Has range c → Has back c → first_of back ≡ Some c
first_same c range [] o h k = cc
first_same c range (n ∷ back) o h k = ap (λ m. Some m) (by_order o)
  where
    by_order : IsOrdered (range ++ n ∷ back) → n ≡ c
    by_order (inl rises) =
        let up : c ≤ n = chain_across (λ x y. x ≤ y) c n range (n ∷ back) rises h (has_here n back) in
        let low : n ≤ c = from_first (λ x y. x ≤ y) (λ x. omega arith) n c back (chain_right (λ x y. x ≤ y) range (n ∷ back) rises).0 k in
        omega (arith, up, low)
    by_order (inr falls) =
        let down : n ≤ c = chain_across (λ x y. y ≤ x) c n range (n ∷ back) falls h (has_here n back) in
        let high : c ≤ n = from_first (λ x y. y ≤ x) (λ x. omega arith) n c back (chain_right (λ x y. y ≤ x) range (n ∷ back) falls).0 k in
        omega (arith, down, high)

-- a number on either side of a range in order that has it is beside the range
pub beside_range : (c : ℕ) (front range back : List ℕ) → IsOrdered (front ++ (range ++ back)) → Has range c → Has (front ++ back) c → (last_of front ≡ Some c) ⊎ (first_of back ≡ Some c)
beside_range c front range back o h there = elim (has_either c front back there) [
  | inl before ↦ inl (last_same c front (range ++ back) o before (has_left c range back h))
  | inr after ↦ inr (first_same c range back (ordered_right front (range ++ back) o) h after)
]

-- what is unsafe of a cluster is of it
pub unsafe_has : (c : ℕ) (os : List Origin) → has_unsafe_of c os ≡ true → Has (numbers os) c
unsafe_has c [] h = cc
unsafe_has c (o ∷ os) h = elim (any_cases (is_unsafe_of c) o os h) [
  | inl here ↦ subst (λ n. Has (o.cluster ∷ numbers os) n) (unsafe_of c o here).0 (has_here o.cluster (numbers os))
  | inr later ↦ has_more o.cluster c (numbers os) (unsafe_has c os later)
]

-- ---- copies of the first of those that leave

copies_has : (n g c : ℕ) → Has (copies n (Some g)) c → g ≡ c
copies_has zero g c h = cc
copies_has (suc n) g c h = elim (has_cases g c (copies n (Some g)) h) [ inl e ↦ e | inr later ↦ copies_has n g c later ]

copies_end : (n g : ℕ) → last_from g (copies n (Some g)) ≡ g
copies_end zero g = refl
copies_end (suc n) g = copies_end n g

copies_last : (n g : ℕ) (ns : List ℕ) → last_of (ns ++ copies (suc n) (Some g)) ≡ Some g
copies_last n g ns = lasting ns g (copies n (Some g)) ∙ last_is g (copies n (Some g)) ∙ ap (λ m. Some m) (copies_end n g)

-- a number of a range in order that is left as the range is replaced by copies of its first is beside the end of those
copies_beside : (c given g : ℕ) (front gone back : List ℕ) → IsOrdered (front ++ ((g ∷ gone) ++ back)) → Has (g ∷ gone) c → Has ((front ++ copies given (Some g)) ++ back) c
    → (last_of (front ++ copies given (Some g)) ≡ Some c) ⊎ (first_of back ≡ Some c)
copies_beside c zero g front gone back o h there =
    let none = append-nil front in
    subst (λ (ns : List ℕ). (last_of ns ≡ Some c) ⊎ (first_of back ≡ Some c)) (sym none) (beside_range c front (g ∷ gone) back o h (subst (λ (ns : List ℕ). Has (ns ++ back) c) none there))
copies_beside c (suc n) g front gone back o h there =
    let new = copies (suc n) (Some g) in
    let same : g ≡ c → (last_of (front ++ new) ≡ Some c) ⊎ (first_of back ≡ Some c) = λ e. inl (copies_last n g front ∙ ap (λ m. Some m) e) in
    elim (has_either c (front ++ new) back there) [
      | inl near ↦ elim (has_either c front new near) [
        | inl before ↦ same (some_number g c (first_same c front ((g ∷ gone) ++ back) o before (has_left c (g ∷ gone) back h)))
        | inr among ↦ same (copies_has (suc n) g c among)
      ]
      | inr after ↦ inr (first_same c (g ∷ gone) back (ordered_right front ((g ∷ gone) ++ back) o) h after)
    ]

copies_numbers : (n : ℕ) (o : Origin) → numbers (copies n (Some o)) ≡ copies n (Some o.cluster)
copies_numbers zero o = refl
copies_numbers (suc n) o = ap (λ ns. o.cluster ∷ ns) (copies_numbers n o)

copies_count : (n : ℕ) (o : Origin) → length (copies n (Some o)) ≡ n
copies_count n o = length-replicate n o

-- a seam between two lists
pub seam_beside : (c : ℕ) (xs ys : List Origin) → (last_of (numbers xs) ≡ Some c) ⊎ (first_of (numbers ys) ≡ Some c) → IsBeside c (length xs) (xs ++ ys)
seam_beside c xs ys h =
    subst (λ (zs : List Origin). (last_of (numbers zs) ≡ Some c) ⊎ (first_of (numbers (drop (length xs) (xs ++ ys))) ≡ Some c)) (sym (take-append_seam xs ys))
    (subst (λ (zs : List Origin). (last_of (numbers xs) ≡ Some c) ⊎ (first_of (numbers zs) ≡ Some c)) (sym (drop-append_seam xs ys)) h)

-- an origin of those replaced whose cluster is left
pub replaced_beside : (c at taken given : ℕ) (os : List Origin) → IsOrdered (numbers os) → Has (numbers (take taken (drop at os))) c → Has (numbers (elements_replaced at taken given os)) c → IsBeside c (at + given) (elements_replaced at taken given os)
replaced_beside c at taken given os o h there = by_rest (drop at os) refl
  where
    front : List Origin
    front = take at os

    back : List Origin
    back = drop (at + taken) os

    by_left : (x : Origin) (rest gone : List Origin) → drop at os ≡ x ∷ rest → take taken (drop at os) ≡ x ∷ gone → IsBeside c (at + given) (elements_replaced at taken given os)
    by_left x rest gone e f =
        let new = copies given (Some x) in
        let is : elements_replaced at taken given os ≡ (front ++ new) ++ back = ap (λ (xs : List Origin). (front ++ copies given (or (first_of xs) (last_of front))) ++ back) e in
        let count = length-drop at os in
        let some : length (drop at os) ≡ suc (length rest) = ap length e in
        let first : length front ≡ at = let n = length-take at os in omega (arith, n, count, some) in
        let seam : length (front ++ new) ≡ at + given = let n = length-append front new in let m = copies_count given x in omega (arith, n, m, first) in
        let whole : os ≡ front ++ ((x ∷ gone) ++ back) =
        sym (take-append-drop at os) ∙ ap (λ (xs : List Origin). front ++ xs) (sym (take-append-drop taken (drop at os)) ∙ ap (λ (xs : List Origin). take taken (drop at os) ++ xs) (drop-drop taken at os) ∙ ap (λ (xs : List Origin). xs ++ back) f) in
        let order : IsOrdered (numbers front ++ ((x.cluster ∷ numbers gone) ++ numbers back)) =
        subst IsOrdered (ap numbers whole ∙ numbers_both front ((x ∷ gone) ++ back) ∙ ap (λ (ns : List ℕ). numbers front ++ ns) (numbers_both (x ∷ gone) back)) o in
        let seen : numbers (front ++ new) ≡ numbers front ++ copies given (Some x.cluster) = numbers_both front new ∙ ap (λ (ns : List ℕ). numbers front ++ ns) (copies_numbers given x) in
        let left : Has ((numbers front ++ copies given (Some x.cluster)) ++ numbers back) c =
        subst (λ (ns : List ℕ). Has ns c) (ap numbers is ∙ numbers_both (front ++ new) back ∙ ap (λ (ns : List ℕ). ns ++ numbers back) seen) there in
        let among : Has (x.cluster ∷ numbers gone) c = subst (λ (xs : List Origin). Has (numbers xs) c) f h in
        let beside = copies_beside c given x.cluster (numbers front) (numbers gone) (numbers back) order among left in
        let at_seam = seam_beside c (front ++ new) back (subst (λ (ns : List ℕ). (last_of ns ≡ Some c) ⊎ (first_of (numbers back) ≡ Some c)) (sym seen) beside) in
        subst (λ (xs : List Origin). IsBeside c (at + given) xs) (sym is) (subst (λ n. IsBeside c n ((front ++ new) ++ back)) seam at_seam)

    by_taken : (n : ℕ) (x : Origin) (rest : List Origin) → taken ≡ n → drop at os ≡ x ∷ rest → IsBeside c (at + given) (elements_replaced at taken given os)
    by_taken zero x rest d e = let none : Has (numbers (take zero (drop at os))) c = subst (λ n. Has (numbers (take n (drop at os))) c) d h in cc
    by_taken (suc n) x rest d e = by_left x rest (take n rest) e (ap (λ m. take m (drop at os)) d ∙ ap (take (suc n)) e)

    by_rest : (rest : List Origin) → drop at os ≡ rest → IsBeside c (at + given) (elements_replaced at taken given os)
    by_rest [] e = let none : Has [] c = subst (λ (xs : List Origin). Has (numbers xs) c) (ap (take taken) e ∙ take-nil {A = Origin} taken) h in cc
    by_rest (x ∷ rest) e = by_taken taken x rest refl e

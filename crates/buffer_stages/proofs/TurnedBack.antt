-- Groups in reversed order, by turning all round and then each group.
use Rattle.std.proofs.Common.{ℕ, suc, ◌≡◌, ◌≤◌, ◌<◌, ◌+◌, ◌-◌, Bool, true, false, if◌then◌else◌, List, [], ◌∷◌, ◌++◌, length, take, drop, get_or, refl, sym, ap, subst, ◌∙◌, arith, append_assoc, append-nil}
use Rattle.std.specs.Prelude.{reverse, slice_range}
use Rattle.std.proofs.Math.Seq.{take-suc, take-append_seam, drop-append_seam}
use Rattle.std.proofs.lemmas.List.{drop_all, drop_more, drop-append-le, drop-take, length-append, length-drop, length-reverse, length-take-le, reverse-append, reverse-reverse, take_all}
use Rattle.buffer_stages.specs.Turned.{leading_turned}

-- a list that was turned round, with each group turned once more; a group ends with what begins it
abbrev turned_back : {X : Type 0} → (X → Bool) → List X → List X → List X
turned_back begins [] group = reverse group
turned_back begins (x ∷ xs) group = if begins x then (x ∷ reverse group) ++ turned_back begins xs [] else turned_back begins xs (group ++ x ∷ [])

abbrev NoneBegins : {X : Type 0} → (X → Bool) → List X → Type 0
NoneBegins begins [] = Unit {0}
NoneBegins begins (x ∷ xs) = (begins x ≡ false) × NoneBegins begins xs

-- what begins no group stays after that in front
none_begin : {X : Type 0} (begins : X → Bool) (zs group done : List X) → NoneBegins begins zs → leading_turned begins zs group done ≡ (group ++ zs) ++ done
none_begin begins [] group done h = ap (λ ys. ys ++ done) (sym (append-nil group))
none_begin begins (z ∷ zs) group done h =
    ap (λ b. if b then leading_turned begins zs (z ∷ []) (group ++ done) else leading_turned begins zs (group ++ z ∷ []) done) h.0
    ∙ none_begin begins zs (group ++ z ∷ []) done h.1 ∙ ap (λ ys. ys ++ done) (append_assoc group (z ∷ []) zs)

-- the last group is moved to the front
last_front : {X : Type 0} (begins : X → Bool) (xs : List X) (y : X) (zs group done : List X) → begins y ≡ true → NoneBegins begins zs → leading_turned begins (xs ++ y ∷ zs) group done ≡ (y ∷ zs) ++ leading_turned begins xs group done
last_front begins [] y zs group done e h =
    ap (λ b. if b then leading_turned begins zs (y ∷ []) (group ++ done) else leading_turned begins zs (group ++ y ∷ []) done) e ∙ none_begin begins zs (y ∷ []) (group ++ done) h
last_front begins (x ∷ xs) y zs group done e h = by_test (begins x) (last_front begins xs y zs (x ∷ []) (group ++ done) e h) (last_front begins xs y zs (group ++ x ∷ []) done e h)
  where
    by_test : (t : Bool) → leading_turned begins (xs ++ y ∷ zs) (x ∷ []) (group ++ done) ≡ (y ∷ zs) ++ leading_turned begins xs (x ∷ []) (group ++ done)
        → leading_turned begins (xs ++ y ∷ zs) (group ++ x ∷ []) done ≡ (y ∷ zs) ++ leading_turned begins xs (group ++ x ∷ []) done
        → (if t then leading_turned begins (xs ++ y ∷ zs) (x ∷ []) (group ++ done) else leading_turned begins (xs ++ y ∷ zs) (group ++ x ∷ []) done)
        ≡ (y ∷ zs) ++ (if t then leading_turned begins xs (x ∷ []) (group ++ done) else leading_turned begins xs (group ++ x ∷ []) done)
    by_test true a b = a
    by_test false a b = b

back_is : {X : Type 0} (begins : X → Bool) (rs group : List X) → NoneBegins begins (reverse group) → turned_back begins rs group ≡ leading_turned begins (reverse rs ++ reverse group) [] []
back_is begins [] group h = sym (none_begin begins (reverse group) [] [] h ∙ append-nil (reverse group))
back_is {X = X} begins (y ∷ rs) group h =
    by_test (begins y) refl (back_is begins rs [] tt) (λ e. back_is begins rs (group ++ y ∷ []) (subst (λ (ys : List X). NoneBegins begins ys) (sym (reverse-append group (y ∷ []))) (e, h)))
  where
    whole : reverse (y ∷ rs) ++ reverse group ≡ reverse rs ++ (y ∷ reverse group)
    whole = ap (λ zs. zs ++ reverse group) (reverse-append (y ∷ []) rs) ∙ append_assoc (reverse rs) (y ∷ []) (reverse group)

    by_test : (t : Bool) → begins y ≡ t → turned_back begins rs [] ≡ leading_turned begins (reverse rs ++ []) [] []
        → (begins y ≡ false → turned_back begins rs (group ++ y ∷ []) ≡ leading_turned begins (reverse rs ++ reverse (group ++ y ∷ [])) [] [])
        → (if t then (y ∷ reverse group) ++ turned_back begins rs [] else turned_back begins rs (group ++ y ∷ [])) ≡ leading_turned begins (reverse (y ∷ rs) ++ reverse group) [] []
    by_test true e a b =
        ap (λ ys. (y ∷ reverse group) ++ ys) (a ∙ ap (λ zs. leading_turned begins zs [] []) (append-nil (reverse rs)))
        ∙ sym (last_front begins (reverse rs) y (reverse group) [] [] e h) ∙ ap (λ zs. leading_turned begins zs [] []) (sym whole)
    by_test false e a b = b e ∙ ap (λ zs. leading_turned begins (reverse rs ++ zs) [] []) (reverse-append group (y ∷ [])) ∙ ap (λ zs. leading_turned begins zs [] []) (sym whole)

all_turned : {X : Type 0} (begins : X → Bool) (xs : List X) → turned_back begins (reverse xs) [] ≡ leading_turned begins xs [] []
all_turned begins xs = back_is begins (reverse xs) [] tt ∙ ap (λ zs. leading_turned begins zs [] []) (append-nil (reverse (reverse xs)) ∙ reverse-reverse xs)

-- groups up to an index were turned once more, and the last begins at another
pub record AreTurnedBack {X : Type 0} (begins : X → Bool) (i group : ℕ) (old now : List X) : Type 0 where
  pub all : take group now ++ turned_back begins (drop i now) (drop group (take i now)) ≡ turned_back begins (reverse old) []
  pub inside : group ≤ i
  pub count : length now ≡ length old

pub none_turned_back : {X : Type 0} (begins : X → Bool) (old now : List X) → now ≡ reverse old → AreTurnedBack begins 0 0 old now
none_turned_back begins old now e = record { all = ap (λ xs. turned_back begins xs []) e; inside = omega arith; count = ap length e ∙ length-reverse old }

-- up to an index and with it
with_next : {X : Type 0} (i group : ℕ) (d : X) (xs : List X) → i < length xs → group ≤ i → drop group (take (i + 1) xs) ≡ drop group (take i xs) ++ get_or xs i d ∷ []
with_next i group d xs lt le =
    let one : i + 1 ≡ suc i = omega arith in
    let size = length-take-le i xs (omega (arith, lt)) in
    ap (λ n. drop group (take n xs)) one ∙ ap (drop group) (take-suc xs i d lt) ∙ drop-append-le group (take i xs) (get_or xs i d ∷ []) (omega (arith, size, le))

pub kept_back : {X : Type 0} (begins : X → Bool) (i group : ℕ) (d : X) (old now : List X) → i < length now → begins (get_or now i d) ≡ false → AreTurnedBack begins i group old now → AreTurnedBack begins (i + 1) group old now
kept_back begins i group d old now lt e h =
    let x = get_or now i d in
    let rest = drop (i + 1) now in
    let pend = drop group (take i now) in
    let inside = h.inside in
    record {
      all =
          ap (λ ys. take group now ++ turned_back begins rest ys) (with_next i group d now lt h.inside)
          ∙ ap (λ ys. take group now ++ ys) (sym (ap (λ b. if b then (x ∷ reverse pend) ++ turned_back begins rest [] else turned_back begins rest (pend ++ x ∷ [])) e))
          ∙ ap (λ ys. take group now ++ turned_back begins ys pend) (sym (drop_more now i d lt)) ∙ h.all;
      inside = omega (arith, inside);
      count = h.count;
    }

pub group_back : {X : Type 0} (begins : X → Bool) (i group : ℕ) (d : X) (old now next : List X) → i < length now → begins (get_or now i d) ≡ true → AreTurnedBack begins i group old now
    → next ≡ take group now ++ reverse (slice_range now group (i + 1)) ++ drop (i + 1) now → AreTurnedBack begins (i + 1) (i + 1) old next
group_back begins i group d old now next lt e h is =
    let x = get_or now i d in
    let rest = drop (i + 1) now in
    let pend = drop group (take i now) in
    let inside = h.inside in
    let cut : slice_range now group (i + 1) ≡ pend ++ x ∷ [] =
    sym (ap (λ n. drop group (take n now)) (let m : i + 1 ≡ group + (i + 1 - group) = omega (arith, inside) in m) ∙ drop-take group (i + 1 - group) now) ∙ with_next i group d now lt h.inside in
    let back : reverse (slice_range now group (i + 1)) ≡ x ∷ reverse pend = ap reverse cut ∙ reverse-append pend (x ∷ []) in
    let front = take group now ++ (x ∷ reverse pend) in
    let whole : next ≡ front ++ rest = is ∙ ap (λ ys. (take group now ++ ys) ++ rest) back in
    let a = length-take-le group now (omega (arith, lt, inside)) in
    let b = length-take-le i now (omega (arith, lt)) in
    let c = length-drop group (take i now) in
    let f = length-reverse pend in
    let size : length front ≡ i + 1 = length-append (take group now) (x ∷ reverse pend) ∙ omega (arith, a, b, c, f, inside) in
    let took : take (i + 1) next ≡ front = ap (take (i + 1)) whole ∙ ap (λ n. take n (front ++ rest)) (sym size) ∙ take-append_seam front rest in
    let left : drop (i + 1) next ≡ rest = ap (drop (i + 1)) whole ∙ ap (λ n. drop n (front ++ rest)) (sym size) ∙ drop-append_seam front rest in
    let none : drop (i + 1) (take (i + 1) next) ≡ [] = ap (drop (i + 1)) took ∙ drop_all (i + 1) front (omega (arith, size)) in
    let long = length-append front rest in
    let tail = length-drop (i + 1) now in
    let many = h.count in
    record {
      all =
          ap (λ ys. ys ++ turned_back begins (drop (i + 1) next) (drop (i + 1) (take (i + 1) next))) took
          ∙ ap (λ ys. front ++ turned_back begins ys (drop (i + 1) (take (i + 1) next))) left
          ∙ ap (λ ys. front ++ turned_back begins rest ys) none
          ∙ append_assoc (take group now) (x ∷ reverse pend) (turned_back begins rest [])
          ∙ ap (λ ys. take group now ++ ys) (sym (ap (λ t. if t then (x ∷ reverse pend) ++ turned_back begins rest [] else turned_back begins rest (pend ++ x ∷ [])) e))
          ∙ ap (λ ys. take group now ++ turned_back begins ys pend) (sym (drop_more now i d lt)) ∙ h.all;
      inside = omega arith;
      count = ap length whole ∙ omega (arith, long, tail, size, lt, many);
    }

pub all_back : {X : Type 0} (begins : X → Bool) (i group n : ℕ) (old now last : List X) → length now ≤ i → n ≡ length now → AreTurnedBack begins i group old now → group ≤ n
    → last ≡ take group now ++ reverse (slice_range now group n) ++ drop n now → last ≡ leading_turned begins old [] []
all_back begins i group n old now last past e h le is =
    let cut : slice_range now group n ≡ drop group now =
    sym (ap (λ m. drop group (take m now)) (let m : n ≡ group + (n - group) = omega (arith, le) in m) ∙ drop-take group (n - group) now) ∙ ap (drop group) (take_all n now (omega (arith, e))) in
    is ∙ ap (λ ys. (take group now ++ reverse (slice_range now group n)) ++ ys) (drop_all n now (omega (arith, e)))
    ∙ append-nil (take group now ++ reverse (slice_range now group n)) ∙ ap (λ ys. take group now ++ reverse ys) cut
    ∙ sym (ap (λ ys. take group now ++ turned_back begins ys (drop group (take i now))) (drop_all i now past) ∙ ap (λ ys. take group now ++ reverse (drop group ys)) (take_all i now past))
    ∙ h.all ∙ all_turned begins old

-- Groups in reversed order.
use Rattle.std.proofs.Common.{ℕ, ◌≡◌, Bool, true, false, if◌then◌else◌, List, [], ◌∷◌, ◌++◌, map, take, drop, reverse, Some, slice_get, refl, sym, ap, subst, ◌∙◌, append_assoc}
use Rattle.std.specs.Prelude.{not}
use Rattle.std.specs.List.{flat_map}
use Rattle.std.proofs.lemmas.Grind.{reverse_onto}
use Rattle.std.proofs.lemmas.List.{append-nil, map-append}
use Rattle.buffer_lists.specs.Groups.{joined_count}
use Rattle.buffer_lists.specs.Lemmas.GroupsTurned.{groups_cut}
use Rattle.std.proofs.lemmas.List.Concat.{flat_map-append}
use Rattle.buffer_lists.specs.Turning.{groups, groups_reversed_list, in_front}
use Rattle.buffer_lists.specs.Lemmas.Picked.{AreAt, are_both}
use Rattle.buffer_stages.specs.Turned.{leading_turned}

-- what follows the first item of a group begins no group
abbrev NoneBegins : {X : Type 0} → (X → Bool) → List X → Type 0
NoneBegins begins [] = Unit {0}
NoneBegins begins (x ∷ xs) = (begins x ≡ false) × NoneBegins begins xs

abbrev pub follows_on : {X : Type 0} → (X → Bool) → X → X → Bool
follows_on begins x y = not (begins y)

one_group : {X : Type 0} (begins : X → Bool) (x : X) (xs : List X) → NoneBegins begins xs → groups (follows_on begins) (x ∷ xs) ≡ (x ∷ xs) ∷ []
one_group begins x [] h = refl
one_group begins x (y ∷ ys) h = ap (in_front (follows_on begins) x) (one_group begins y ys h.1) ∙ ap (λ b. if not b then (x ∷ y ∷ ys) ∷ [] else (x ∷ []) ∷ (y ∷ ys) ∷ []) h.0

-- a group in front of an element that begins another
group_first : {X : Type 0} (begins : X → Bool) (x : X) (xs : List X) (y : X) (ys : List X) → NoneBegins begins xs → begins y ≡ true
    → groups (follows_on begins) ((x ∷ xs) ++ (y ∷ ys)) ≡ (x ∷ xs) ∷ groups (follows_on begins) (y ∷ ys)
group_first begins x [] y ys h e =
    let j = joined_count (follows_on begins) y ys in
    let cut : groups (follows_on begins) (y ∷ ys) ≡ (y ∷ take j ys) ∷ groups (follows_on begins) (drop j ys) = groups_cut (follows_on begins) y ys in
    ap (in_front (follows_on begins) x) cut ∙ ap (λ b. if not b then (x ∷ y ∷ take j ys) ∷ groups (follows_on begins) (drop j ys) else (x ∷ []) ∷ (y ∷ take j ys) ∷ groups (follows_on begins) (drop j ys)) e
    ∙ ap (λ gs. (x ∷ []) ∷ gs) (sym cut)
group_first begins x (z ∷ zs) y ys h e =
    ap (in_front (follows_on begins) x) (group_first begins z zs y ys h.1 e)
    ∙ ap (λ b. if not b then (x ∷ z ∷ zs) ∷ groups (follows_on begins) (y ∷ ys) else (x ∷ []) ∷ (z ∷ zs) ∷ groups (follows_on begins) (y ∷ ys)) h.0

none_more : {X : Type 0} (begins : X → Bool) (xs : List X) (y : X) → NoneBegins begins xs → begins y ≡ false → NoneBegins begins (xs ++ y ∷ [])
none_more begins [] y h e = (e, tt)
none_more begins (x ∷ xs) y h e = (h.0, none_more begins xs y h.1 e)

turned_group : {X : Type 0} (begins : X → Bool) (x : X) (group : List X) (xs done : List X) → NoneBegins begins group
    → leading_turned begins xs (x ∷ group) done ≡ groups_reversed_list (follows_on begins) ((x ∷ group) ++ xs) ++ done
turned_group begins x group [] done h =
    ap (λ ys. ys ++ done) (sym (append-nil (x ∷ group)) ∙ ap (λ gs. flat_map (λ ys. ys) (reverse gs)) (sym (one_group begins x group h)) ∙ ap (groups_reversed_list (follows_on begins)) (sym (append-nil (x ∷ group))))
turned_group begins x group (y ∷ ys) done h = by_test (begins y) refl (turned_group begins y [] ys ((x ∷ group) ++ done) tt) (λ e. turned_group begins x (group ++ y ∷ []) ys done (none_more begins group y h e))
  where
    by_test : (t : Bool) → begins y ≡ t → leading_turned begins ys (y ∷ []) ((x ∷ group) ++ done) ≡ groups_reversed_list (follows_on begins) (y ∷ ys) ++ ((x ∷ group) ++ done)
        → (begins y ≡ false → leading_turned begins ys (x ∷ (group ++ y ∷ [])) done ≡ groups_reversed_list (follows_on begins) ((x ∷ (group ++ y ∷ [])) ++ ys) ++ done)
        → (if t then leading_turned begins ys (y ∷ []) ((x ∷ group) ++ done) else leading_turned begins ys ((x ∷ group) ++ y ∷ []) done) ≡ groups_reversed_list (follows_on begins) ((x ∷ group) ++ (y ∷ ys)) ++ done
    by_test true e first later =
        let rest = groups (follows_on begins) (y ∷ ys) in
        let whole : groups_reversed_list (follows_on begins) ((x ∷ group) ++ (y ∷ ys)) ≡ groups_reversed_list (follows_on begins) (y ∷ ys) ++ (x ∷ group) =
        ap (λ gs. flat_map (λ zs. zs) (reverse gs)) (group_first begins x group y ys h e) ∙ ap (flat_map (λ zs. zs)) (reverse_onto rest (x ∷ group) []) ∙ flat_map-append (λ zs. zs) (reverse rest) ((x ∷ group) ∷ []) ∙ ap (λ zs. flat_map (λ ws. ws) (reverse rest) ++ zs) (append-nil (x ∷ group)) in
        first ∙ sym (append_assoc (groups_reversed_list (follows_on begins) (y ∷ ys)) (x ∷ group) done) ∙ ap (λ zs. zs ++ done) (sym whole)
    by_test false e first later = later e ∙ ap (λ zs. groups_reversed_list (follows_on begins) (x ∷ zs) ++ done) (append_assoc group (y ∷ []) ys)

-- groups that are put in front one by one are in reversed order
pub turned_all : {X : Type 0} (begins : X → Bool) (xs : List X) → leading_turned begins xs [] [] ≡ groups_reversed_list (follows_on begins) xs
turned_all begins [] = refl
turned_all begins (x ∷ xs) = by_test (begins x) (turned_group begins x [] xs [] tt ∙ append-nil (groups_reversed_list (follows_on begins) (x ∷ xs)))
  where
    by_test : (t : Bool) → leading_turned begins xs (x ∷ []) [] ≡ groups_reversed_list (follows_on begins) (x ∷ xs) → (if t then leading_turned begins xs (x ∷ []) [] else leading_turned begins xs (x ∷ []) []) ≡ groups_reversed_list (follows_on begins) (x ∷ xs)
    by_test true e = e
    by_test false e = e

-- ---- what is seen of them, and at which indices they stood

pub turned_seen : {X Y : Type 0} (f : X → Y) (begins : Y → Bool) (xs group done : List X) → map f (leading_turned (λ x. begins (f x)) xs group done) ≡ leading_turned begins (map f xs) (map f group) (map f done)
turned_seen f begins [] group done = map-append f group done
turned_seen f begins (x ∷ xs) group done = by_test (begins (f x)) (turned_seen f begins xs (x ∷ []) (group ++ done) ∙ ap (leading_turned begins (map f xs) (f x ∷ [])) (map-append f group done)) (turned_seen f begins xs (group ++ x ∷ []) done ∙ ap (λ zs. leading_turned begins (map f xs) zs (map f done)) (map-append f group (x ∷ [])))
  where
    by_test : (t : Bool) → map f (leading_turned (λ y. begins (f y)) xs (x ∷ []) (group ++ done)) ≡ leading_turned begins (map f xs) (f x ∷ []) (map f group ++ map f done)
        → map f (leading_turned (λ y. begins (f y)) xs (group ++ x ∷ []) done) ≡ leading_turned begins (map f xs) (map f group ++ f x ∷ []) (map f done)
        → map f (if t then leading_turned (λ y. begins (f y)) xs (x ∷ []) (group ++ done) else leading_turned (λ y. begins (f y)) xs (group ++ x ∷ []) done)
        ≡ (if t then leading_turned begins (map f xs) (f x ∷ []) (map f group ++ map f done) else leading_turned begins (map f xs) (map f group ++ f x ∷ []) (map f done))
    by_test true e f = e
    by_test false e f = f

pub turned_at : {X : Type 0} (all : List X) (begins : X → Bool) (begins_at : ℕ → Bool) → ((i : ℕ) (x : X) → slice_get all i ≡ Some x → begins_at i ≡ begins x)
    → (is gi di : List ℕ) (xs gx dx : List X) → AreAt all is xs → AreAt all gi gx → AreAt all di dx → AreAt all (leading_turned begins_at is gi di) (leading_turned begins xs gx dx)
turned_at all begins begins_at agree [] gi di [] gx dx a g d = are_both all gi gx di dx g d
turned_at all begins begins_at agree [] gi di (x ∷ xs) gx dx a g d = absurd a
turned_at all begins begins_at agree (i ∷ is) gi di [] gx dx a g d = absurd a
turned_at all begins begins_at agree (i ∷ is) gi di (x ∷ xs) gx dx a g d =
    by_test (begins x) (agree i x a.0) (turned_at all begins begins_at agree is (i ∷ []) (gi ++ di) xs (x ∷ []) (gx ++ dx) a.1 (a.0, tt) (are_both all gi gx di dx g d))
    (turned_at all begins begins_at agree is (gi ++ i ∷ []) di xs (gx ++ x ∷ []) dx a.1 (are_both all gi gx (i ∷ []) (x ∷ []) g (a.0, tt)) d)
  where
    by_test : (t : Bool) → begins_at i ≡ t → AreAt all (leading_turned begins_at is (i ∷ []) (gi ++ di)) (leading_turned begins xs (x ∷ []) (gx ++ dx)) → AreAt all (leading_turned begins_at is (gi ++ i ∷ []) di) (leading_turned begins xs (gx ++ x ∷ []) dx)
        → AreAt all (if begins_at i then leading_turned begins_at is (i ∷ []) (gi ++ di) else leading_turned begins_at is (gi ++ i ∷ []) di) (if t then leading_turned begins xs (x ∷ []) (gx ++ dx) else leading_turned begins xs (gx ++ x ∷ []) dx)
    by_test true e p q = subst (λ (b : Bool). AreAt all (if b then leading_turned begins_at is (i ∷ []) (gi ++ di) else leading_turned begins_at is (gi ++ i ∷ []) di) (leading_turned begins xs (x ∷ []) (gx ++ dx))) (sym e) p
    by_test false e p q = subst (λ (b : Bool). AreAt all (if b then leading_turned begins_at is (i ∷ []) (gi ++ di) else leading_turned begins_at is (gi ++ i ∷ []) di) (leading_turned begins xs (gx ++ x ∷ []) dx)) (sym e) q

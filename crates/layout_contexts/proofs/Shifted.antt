-- Places one after another, as far as there is room.
use Rattle.std.proofs.Common.{ℕ, ◌≡◌, ◌≤◌, ◌<◌, ◌+◌, ◌-◌, zero, suc, List, [], ◌∷◌, ◌++◌, length, take, drop, map, get_or, refl, sym, ap, ◌∙◌, arith}
use Rattle.std.proofs.lemmas.List.{drop_more, drop_all, append-nil, append_assoc, take_all, length-drop, length-map}
use Rattle.std.proofs.Math.Seq.{take-append_seam}
use Rattle.layout_contexts.specs.Shifts.{following, indices_after_resize}

full : (n : ℕ) (qs rs : List ℕ) → length qs ≡ n → take n (qs ++ rs) ≡ qs
full n qs rs e = ap (λ k. take k (qs ++ rs)) (sym e) ∙ take-append_seam qs rs

short : (n : ℕ) (qs : List ℕ) → length qs ≤ n → take n qs ≡ qs
short n qs le = take_all n qs le

-- one more is added before what is left
one_added : (n p : ℕ) (qs rs left more all : List ℕ) → left ≡ p ∷ more → take n (qs ++ left) ≡ all → rs ≡ qs ++ p ∷ [] → take n (rs ++ more) ≡ all
one_added n p qs rs left more all first is add = ap (take n) (ap (λ ns. ns ++ more) add ∙ append_assoc qs (p ∷ []) more ∙ ap (λ ns. qs ++ ns) (sym first)) ∙ is

-- none is left
none_left : (n : ℕ) (qs left all : List ℕ) → left ≡ [] → length qs ≤ n → take n (qs ++ left) ≡ all → qs ≡ all
none_left n qs left all none le is = sym (short n qs le) ∙ ap (take n) (sym (append-nil qs) ∙ ap (λ ns. qs ++ ns) (sym none)) ∙ is

following_next : (index count k : ℕ) → k < count → following (index + k) (count - k) ≡ (index + k + 1) ∷ following (index + (k + 1)) (count - (k + 1))
following_next index count k lt =
    let more : count - k ≡ suc (count - (k + 1)) = omega (arith, lt) in
    let on : index + k + 1 ≡ index + (k + 1) = omega arith in
    ap (following (index + k)) more ∙ ap (λ q. (index + k + 1) ∷ following q (count - (k + 1))) on

pub following_on : (index count k : ℕ) (qs rs all : List ℕ) → k < count → take 64 (qs ++ following (index + k) (count - k)) ≡ all → rs ≡ qs ++ (index + k + 1) ∷ [] → take 64 (rs ++ following (index + (k + 1)) (count - (k + 1))) ≡ all
following_on index count k qs rs all lt is add = one_added 64 (index + k + 1) qs rs (following (index + k) (count - k)) (following (index + (k + 1)) (count - (k + 1))) all (following_next index count k lt) is add

pub following_full : (left qs all : List ℕ) → length qs ≡ 64 → take 64 (qs ++ left) ≡ all → qs ≡ all
following_full left qs all e is = sym (full 64 qs left e) ∙ is

pub following_all : (index count k : ℕ) (qs all : List ℕ) → count ≤ k → length qs ≤ 64 → take 64 (qs ++ following (index + k) (count - k)) ≡ all → qs ≡ all
following_all index count k qs all done le is =
    let none : count - k ≡ 0 = omega (arith, done) in
    none_left 64 qs (following (index + k) (count - k)) all (ap (following (index + k)) none) le is

pub moved_on : (before after k p : ℕ) (later qs rs all : List ℕ) → k < length later → p ≡ get_or later k 0 → take 64 (qs ++ map (λ q. q + after - before) (drop k later)) ≡ all → rs ≡ qs ++ (p + after - before) ∷ []
    → take 64 (rs ++ map (λ q. q + after - before) (drop (k + 1) later)) ≡ all
moved_on before after k p later qs rs all lt at is add =
    let f : ℕ → ℕ = λ q. q + after - before in
    one_added 64 (f p) qs rs (map f (drop k later)) (map f (drop (k + 1) later)) all (ap (map f) (drop_more later k 0 lt) ∙ ap (λ q. f q ∷ map f (drop (k + 1) later)) (sym at)) is add

pub moved_all : (before after k : ℕ) (later qs all : List ℕ) → length later ≤ k → length qs ≤ 64 → take 64 (qs ++ map (λ q. q + after - before) (drop k later)) ≡ all → qs ≡ all
moved_all before after k later qs all done le is = none_left 64 qs (map (λ q. q + after - before) (drop k later)) all (ap (map (λ q. q + after - before)) (drop_all k later done)) le is

-- ---- the parts of the list

unmoved : (ps : List ℕ) → map (λ q. q + 0 - 0) ps ≡ ps
unmoved [] = refl
unmoved (p ∷ ps) = let e : p + 0 - 0 ≡ p = omega arith in ap (λ q. q ∷ map (λ q. q + 0 - 0) ps) e ∙ ap (λ qs. p ∷ qs) (unmoved ps)

-- what is cut may be cut before
cut_before : (n : ℕ) (xs ys : List ℕ) → take n (take n xs ++ ys) ≡ take n (xs ++ ys)
cut_before zero xs ys = refl
cut_before (suc n) [] ys = refl
cut_before (suc n) (x ∷ xs) ys = ap (λ zs. x ∷ zs) (cut_before n xs ys)

pub all_settled : (i before after : ℕ) (ps a b c : List ℕ) → a ≡ take 64 ([] ++ map (λ q. q + 0 - 0) (take (i + 1) ps)) → b ≡ take 64 (a ++ following (get_or ps i 0) (after - before)) → c ≡ take 64 (b ++ map (λ q. q + after - before) (drop (before - after) (drop (i + 1) ps)))
    → c ≡ indices_after_resize i before after ps
all_settled i before after ps a b c ea eb ec =
    let more = map (λ q. q + after - before) (drop (before - after) (drop (i + 1) ps)) in
    let fill = following (get_or ps i 0) (after - before) in
    let first : a ≡ take 64 (take (i + 1) ps) = ea ∙ ap (take 64) (unmoved (take (i + 1) ps)) in
    let second : b ≡ take 64 (take (i + 1) ps ++ fill) = eb ∙ ap (λ qs. take 64 (qs ++ fill)) first ∙ cut_before 64 (take (i + 1) ps) fill in
    ec ∙ ap (λ qs. take 64 (qs ++ more)) second ∙ cut_before 64 (take (i + 1) ps ++ fill) more

pub rest_whole : (n : ℕ) (xs : List ℕ) → take (length xs - n) (drop n xs) ≡ drop n xs
rest_whole n xs = let e : length (drop n xs) ≡ length xs - n = length-drop n xs in take_all (length xs - n) (drop n xs) (omega (arith, e))

unsunk : (by : ℕ) (ps : List ℕ) → map (λ q. q + by - 0) ps ≡ map (λ q. q + by) ps
unsunk by [] = refl
unsunk by (p ∷ ps) = let e : p + by - 0 ≡ p + by = omega arith in ap (λ q. q ∷ map (λ q. q + by - 0) ps) e ∙ ap (λ qs. (p + by) ∷ qs) (unsunk by ps)

pub all_moved : (by : ℕ) (ps a b : List ℕ) → length ps ≤ 64 → a ≡ [] → b ≡ take 64 (a ++ map (λ q. q + by - 0) ps) → b ≡ map (λ q. q + by) ps
all_moved by ps a b le ea eb =
    let long : length (map (λ q. q + by) ps) ≤ 64 = let e : length (map (λ q. q + by) ps) ≡ length ps = length-map ps (λ q. q + by) in omega (arith, e, le) in
    eb ∙ ap (λ qs. take 64 (qs ++ map (λ q. q + by - 0) ps)) ea ∙ ap (take 64) (unsunk by ps) ∙ take_all 64 (map (λ q. q + by) ps) long

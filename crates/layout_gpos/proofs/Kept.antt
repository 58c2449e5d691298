-- A search for a base that goes on where an earlier one began.
use Rattle.std.proofs.Common.{ℕ, ◌≡◌, ◌≤◌, ◌<◌, ◌+◌, ◌-◌, ◌++◌, Bool, true, false, if◌then◌else◌, Option, List, [], ◌∷◌, length, take, drop, reverse, Ok, Err, refl, sym, ap, subst, ◌∙◌, arith}
use Rattle.std.specs.Prelude.{Result, IfOk, IfErr}
use Rattle.std.proofs.Math.Seq.{drop-append_seam, take-append_seam}
use Rattle.std.proofs.lemmas.List.{take-append-drop, take-append-le, reverse-append, length-reverse, length-drop, length-map, length-append, map-append}
use Rattle.buffer_glyphs.specs.Items.{Item, item_of, strip}
use Rattle.buffer_glyphs.specs.Parts.{first_of}
use Rattle.buffer_core.specs.Sides.{Sides, items_of}
use Rattle.layout_match.specs.Applied.{ApplyContext, own_search}
use Rattle.layout_match.specs.Searches.{Search}
use Rattle.buffer_stages.specs.Buffers.{cut_of}
use Rattle.layout_gpos.specs.declared.bases.LastSearch.{LastSearch}
use Rattle.layout_gpos.specs.declared.bases.Sought.{Sought}
use Rattle.layout_gpos.specs.Bases.{IsKept, any_sought, search_result_from, takes}
use Rattle.layout_gpos.specs.Marks.{nearest_taken, nearest_before, without_marks}

pub kept_first : (test : Item → Option Item → Bool) (xs : List Item) → IsKept test xs (record { before = 0; found = Err 0 })
kept_first test xs = record { within = omega arith; inside = tt; read = omega arith; is = refl }

-- a search that begins so much farther back
by_farther : (b : Bool) (k at : ℕ) (r s : Result ℕ ℕ) → r ≡ search_result_from k s → (if b then Ok (at + k) else r) ≡ search_result_from k (if b then Ok at else s)
by_farther true k at r s e = refl
by_farther false k at r s e = e

nearest_farther : (test : Item → Option Item → Bool) (k at : ℕ) (xs : List Item) → nearest_taken test (at + k) xs ≡ search_result_from k (nearest_taken test at xs)
nearest_farther test k at [] = refl
nearest_farther test k at (x ∷ xs) =
    let same : at + k + 1 ≡ at + 1 + k = omega arith in
    by_farther (test x (first_of xs)) k at (nearest_taken test (at + k + 1) xs) (nearest_taken test (at + 1) xs) (ap (λ n. nearest_taken test n xs) same ∙ nearest_farther test k (at + 1) xs)

older : (xs : List Item) (b : ℕ) → drop (length xs - b) (reverse xs) ≡ reverse (take b xs)
older xs b =
    let parts : reverse xs ≡ reverse (drop b xs) ++ reverse (take b xs) = ap reverse (sym (take-append-drop b xs)) ∙ reverse-append (take b xs) (drop b xs) in
    let long : length xs - b ≡ length (reverse (drop b xs)) = sym (length-reverse (drop b xs) ∙ length-drop b xs) in
    ap (drop (length xs - b)) parts ∙ ap (λ n. drop n (reverse (drop b xs) ++ reverse (take b xs))) long ∙ drop-append_seam (reverse (drop b xs)) (reverse (take b xs))

-- a lookup that isn't kept to syllables takes the same everywhere
same_tests : (k : Sought) (a : ApplyContext) (rest : List Item) → a.per_syllable ≡ false → takes k (own_search (without_marks a) rest) ≡ any_sought k a
same_tests k a rest free = rw free refl

-- so what is kept serves everywhere
pub kept_there : (k : Sought) (a : ApplyContext) (rest xs : List Item) (l : LastSearch) → a.per_syllable ≡ false → IsKept (any_sought k a) xs l → IsKept (takes k (own_search (without_marks a) rest)) xs l
kept_there k a rest xs l free h = subst (λ (q : Item → Option Item → Bool). IsKept q xs l) (sym (same_tests k a rest free)) h

before_is : (b : ℕ) (s : Sides) → b ≤ length s.behind → take b (items_of s) ≡ take b (strip s.behind)
before_is b s le =
    let long : length (strip s.behind) ≡ length s.behind = length-map s.behind item_of in
    ap (take b) (map-append item_of s.behind s.ahead) ∙ take-append-le b (strip s.behind) (strip s.ahead) (omega (arith, long, le))

-- the glyphs behind the last search were passed over
pub went_on : (k : Sought) (a : ApplyContext) (search : Search) (l : LastSearch) (more at : ℕ) (found : Result ℕ ℕ) (s : Sides) → l.before ≤ length s.behind → IsKept (takes k (own_search (without_marks a) (strip s.ahead))) (items_of s) l → more ≡ length s.behind - l.before → more ≤ at → at ≤ more
    → search ≡ own_search (without_marks a) (strip s.ahead) → nearest_taken (takes k search) at (drop at (reverse (strip s.behind))) ≡ nearest_taken (takes k search) 0 (reverse (strip s.behind)) → found ≡ search_result_from more l.found → found ≡ nearest_before (takes k) a (cut_of s)
went_on k a search l more at found s since kept e from to is passed f =
    let test = takes k (own_search (without_marks a) (strip s.ahead)) in
    let xs = strip s.behind in
    let long : length xs ≡ length s.behind = length-map s.behind item_of in
    let zero_more : at ≡ 0 + at = omega arith in
    let there : at ≡ length xs - l.before = omega (arith, from, to, e, long) in
    let P : Search → Type 0 = λ q. nearest_taken (takes k q) at (drop at (reverse xs)) ≡ nearest_taken (takes k q) 0 (reverse xs) in
    let all : nearest_taken test at (drop at (reverse xs)) ≡ nearest_taken test 0 (reverse xs) = subst P is passed in
    let behind : nearest_taken test at (drop at (reverse xs)) ≡ search_result_from at (nearest_taken test 0 (reverse (take l.before xs))) =
    ap (nearest_taken test at) (ap (λ n. drop n (reverse xs)) there ∙ older xs l.before) ∙ ap (λ n. nearest_taken test n (reverse (take l.before xs))) zero_more ∙ nearest_farther test at 0 (reverse (take l.before xs)) in
    let kept_is : l.found ≡ nearest_taken test 0 (reverse (take l.before xs)) = kept.is ∙ ap (λ ys. nearest_taken test 0 (reverse ys)) (before_is l.before s since) in
    let same : at ≡ more = omega (arith, from, to) in
    f ∙ ap (λ n. search_result_from n l.found) (sym same) ∙ ap (search_result_from at) kept_is ∙ sym behind ∙ all

-- what was found is kept
pub kept_now : (k : Sought) (a : ApplyContext) (n : ℕ) (found : Result ℕ ℕ) (s : Sides) → a.per_syllable ≡ false → n ≡ length s.behind → found ≡ nearest_before (takes k) a (cut_of s) → IfOk found (λ at. at < length s.behind) → IfErr found (λ end. end ≤ length s.behind) → IsKept (any_sought k a) (items_of s) (record { before = n; found = found })
kept_now k a n found s free count is inside read =
    let xs = strip s.behind in
    let long : length xs ≡ length s.behind = length-map s.behind item_of in
    let both = length-append s.behind s.ahead in
    let all : length (items_of s) ≡ length (s.behind ++ s.ahead) = length-map (s.behind ++ s.ahead) item_of in
    let P : ℕ → Type 0 = λ k. IfOk found (λ at. at < k) in
    let Q : ℕ → Type 0 = λ k. IfErr found (λ end. end ≤ k) in
    let whole : take n (items_of s) ≡ xs = ap (λ k. take k (items_of s)) (count ∙ sym long) ∙ ap (take (length xs)) (map-append item_of s.behind s.ahead) ∙ take-append_seam xs (strip s.ahead) in
    record {
      within = omega (arith, count, both, all);
      inside = subst P (sym count) inside;
      read = subst Q (sym count) read;
      is = is ∙ ap (λ q. nearest_taken q 0 (reverse xs)) (same_tests k a (strip s.ahead) free) ∙ ap (λ ys. nearest_taken (any_sought k a) 0 (reverse ys)) (sym whole);
    }

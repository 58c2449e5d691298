-- One wanted glyph after another.
use Rattle.std.proofs.Common.{ℕ, ◌≡◌, ◌≤◌, ◌<◌, ◌+◌, Bool, false, List, [], ◌∷◌, ◌++◌, length, drop, map, Ok, Err, refl, sym, ap, subst, ◌∙◌}
use Rattle.std.proofs.lemmas.List.{drop_more, drop_all, drop-map, append-nil, append_assoc}
use Rattle.std.specs.List.{All}
use Rattle.std.proofs.lemmas.List.Elements.{All-nil, All-cons, All-append}
use Rattle.buffer_glyphs.specs.Items.{Item}
use Rattle.layout_match.specs.Searches.{Search, answer}
use Rattle.layout_match.specs.Matches.{nearest_from, sequence_end, indices, answers_of}
use Rattle.layout_match.specs.Sequences.{test_at}

-- what is asked for from the k-th on
asks_left : (s : Search) (tests : List (Item → Bool)) (k : ℕ) → k < length tests → drop k (answers_of s tests) ≡ answer s (test_at tests k) ∷ drop (k + 1) (answers_of s tests)
asks_left s tests k lt = drop-map (answer s) k tests ∙ ap (map (answer s)) (drop_more tests k (λ x. false) lt) ∙ ap (λ fs. answer s (test_at tests k) ∷ fs) (sym (drop-map (answer s) (k + 1) tests))

pub one_reached : (s : Search) (tests : List (Item → Bool)) (k at p : ℕ) (xs : List Item) → k < length tests → Ok p ≡ nearest_from (answer s (test_at tests k)) at xs → sequence_end (drop k (answers_of s tests)) at xs ≡ sequence_end (drop (k + 1) (answers_of s tests)) (p + 1) xs
one_reached s tests k at p xs lt e = rw (asks_left s tests k lt, sym e) refl

pub one_failed : (s : Search) (tests : List (Item → Bool)) (k at end : ℕ) (xs : List Item) → k < length tests → Err end ≡ nearest_from (answer s (test_at tests k)) at xs → sequence_end (drop k (answers_of s tests)) at xs ≡ Err end
one_failed s tests k at end xs lt e = rw (asks_left s tests k lt, sym e) refl

pub all_reached : (s : Search) (tests : List (Item → Bool)) (k at : ℕ) (xs : List Item) → length tests ≤ k → sequence_end (drop k (answers_of s tests)) at xs ≡ Ok at
all_reached s tests k at xs le = rw (drop-map (answer s) k tests, drop_all k tests le) refl

pub one_index : (s : Search) (tests : List (Item → Bool)) (k at p : ℕ) (xs : List Item) → k < length tests → Ok p ≡ nearest_from (answer s (test_at tests k)) at xs → indices (drop k (answers_of s tests)) at xs ≡ p ∷ indices (drop (k + 1) (answers_of s tests)) (p + 1) xs
one_index s tests k at p xs lt e = rw (asks_left s tests k lt, sym e) refl

pub failed_index : (s : Search) (tests : List (Item → Bool)) (k at end : ℕ) (xs : List Item) → k < length tests → Err end ≡ nearest_from (answer s (test_at tests k)) at xs → indices (drop k (answers_of s tests)) at xs ≡ []
failed_index s tests k at end xs lt e = rw (asks_left s tests k lt, sym e) refl

pub all_indices : (s : Search) (tests : List (Item → Bool)) (k at : ℕ) (xs : List Item) → length tests ≤ k → indices (drop k (answers_of s tests)) at xs ≡ []
all_indices s tests k at xs le = rw (drop-map (answer s) k tests, drop_all k tests le) refl

-- what was noted is all
pub noted_all : (s : Search) (tests : List (Item → Bool)) (k at end : ℕ) (xs : List Item) (qs all : List ℕ) → k < length tests → Err end ≡ nearest_from (answer s (test_at tests k)) at xs
    → qs ++ indices (drop k (answers_of s tests)) at xs ≡ all → qs ≡ all
noted_all s tests k at end xs qs all lt e is = sym (append-nil qs) ∙ ap (λ rs. qs ++ rs) (sym (failed_index s tests k at end xs lt e)) ∙ is

-- one more is noted
pub noted_one : (s : Search) (tests : List (Item → Bool)) (k at p : ℕ) (xs : List Item) (qs rs all : List ℕ) → k < length tests → Ok p ≡ nearest_from (answer s (test_at tests k)) at xs
    → qs ++ indices (drop k (answers_of s tests)) at xs ≡ all → rs ≡ qs ++ p ∷ [] → rs ++ indices (drop (k + 1) (answers_of s tests)) (p + 1) xs ≡ all
noted_one s tests k at p xs qs rs all lt e is more = ap (λ ns. ns ++ indices (drop (k + 1) (answers_of s tests)) (p + 1) xs) more ∙ append_assoc qs (p ∷ []) (indices (drop (k + 1) (answers_of s tests)) (p + 1) xs) ∙ ap (λ ns. qs ++ ns) (sym (one_index s tests k at p xs lt e)) ∙ is

pub noted_low : (n p : ℕ) (qs rs : List ℕ) → All (λ q. q < n) qs → p < n → rs ≡ qs ++ p ∷ [] → All (λ q. q < n) rs
noted_low n p qs rs all lt e =
    let P : List ℕ → Type 0 = λ ns. All (λ q. q < n) ns in
    subst P (sym e) (All-append (λ q. q < n) qs (p ∷ []) all (All-cons (λ q. q < n) p [] lt (All-nil (λ q. q < n))))

pub noted_first : (n : ℕ) (qs rs : List ℕ) → qs ≡ [] → 0 < n → rs ≡ qs ++ 0 ∷ [] → All (λ q. q < n) rs
noted_first n qs rs none lt e = noted_low n 0 [] rs (All-nil (λ q. q < n)) lt (e ∙ ap (λ ns. ns ++ 0 ∷ []) none)

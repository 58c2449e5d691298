-- The features of one value more.
use Rattle.std.proofs.Common.{◌≡◌, ◌∙◌, ℕ, zero, suc, ◌+◌, ◌<◌, List, [], ◌∷◌, ◌++◌, length, get_or, drop, map, Result, Ok, Err, refl, sym, ap, append_assoc, add-one, arith}
use Rattle.std.proofs.lemmas.List.{append-nil}
use Rattle.std.specs.Borrow.{Bor}
use Rattle.std.specs.List.{flat_map}
use Rattle.shell_readers.specs.declared.fault.RunFault.{RunFault}
use Rattle.buffer_tags.specs.declared.feature.Feature.{Feature}
use Rattle.buffer_tags.specs.FeatureText.{feature_of_text}
use Rattle.shell_words.specs.Words.{and_then, or_words, after, features_of, features_in, pieces_of}

after_both : (fs gs : List Feature) (r : Result (List Feature) RunFault) → after fs (after gs r) ≡ after (fs ++ gs) r
after_both fs gs (Ok hs) = ap Ok (sym (append_assoc fs gs hs))
after_both fs gs (Err e) = refl

one_more : (fs : List Feature) (r : Result Feature RunFault) (all some : Result (List Feature) RunFault) (next : List Feature → Result (List Feature) RunFault)
    → ((gs : List Feature) → after gs all ≡ and_then (after gs some) next)
    → after fs (and_then r (λ f. after (f ∷ []) all)) ≡ and_then (after fs (and_then r (λ f. after (f ∷ []) some))) next
one_more fs (Ok f) all some next h = after_both fs (f ∷ []) all ∙ h (fs ++ (f ∷ [])) ∙ ap (λ r. and_then r next) (sym (after_both fs (f ∷ []) some))
one_more fs (Err e) all some next h = refl

features_append : (fs : List Feature) (xs ys : List (List ℕ)) → after fs (features_of (xs ++ ys)) ≡ and_then (after fs (features_of xs)) (λ gs. after gs (features_of ys))
features_append fs [] ys = rw append-nil refl
features_append fs (x ∷ xs) ys =
    one_more fs (or_words (feature_of_text x)) (features_of (xs ++ ys)) (features_of xs) (λ gs. after gs (features_of ys)) (λ gs. features_append gs xs ys)

pub value_step : (fs : List Feature) (vs : List (Bor (List ℕ))) (i : ℕ) (d : Bor (List ℕ)) → i < length vs
    → after fs (features_in (map (λ t. t.now) (drop i vs))) ≡ and_then (after fs (features_of (pieces_of (get_or vs i d).now))) (λ gs. after gs (features_in (map (λ t. t.now) (drop (i + 1) vs))))
value_step fs [] i d h = absurd (omega (arith, h))
value_step fs (v ∷ vs) zero d h = features_append fs (pieces_of v.now) (flat_map pieces_of (map (λ t. t.now) vs))
value_step fs (v ∷ vs) (suc i) d h = let low : i < length vs = omega (arith, h) in rw add-one (rw add-one at (value_step fs vs i d low))

pub value_taken : (fs : List Feature) (vs : List (Bor (List ℕ))) (i : ℕ) (d : Bor (List ℕ)) → i < length vs → (gs : List Feature)
    → after fs (features_of (pieces_of (get_or vs i d).now)) ≡ Ok gs → after fs (features_in (map (λ t. t.now) (drop i vs))) ≡ after gs (features_in (map (λ t. t.now) (drop (i + 1) vs)))
value_taken fs vs i d h gs e = value_step fs vs i d h ∙ ap (λ r. and_then r (λ gs. after gs (features_in (map (λ t. t.now) (drop (i + 1) vs))))) e

pub value_refused : (fs : List Feature) (vs : List (Bor (List ℕ))) (i : ℕ) (d : Bor (List ℕ)) → i < length vs → (f : RunFault)
    → after fs (features_of (pieces_of (get_or vs i d).now)) ≡ Err f → after fs (features_in (map (λ t. t.now) (drop i vs))) ≡ Err f
value_refused fs vs i d h f e = value_step fs vs i d h ∙ ap (λ r. and_then r (λ gs. after gs (features_in (map (λ t. t.now) (drop (i + 1) vs))))) e

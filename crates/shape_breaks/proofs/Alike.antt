-- Pieces that are marked alike.
use Rattle.std.proofs.Common.{ℕ, ◌≡◌, ◌||◌, ◌⊎◌, inl, inr, Bool, true, false, List, [], ◌∷◌, ◌++◌, drop, refl, sym, ap, ◌∙◌}
use Rattle.std.specs.List.{All, flat_map, list_any}
use Rattle.std.proofs.lemmas.List.Folds.{list_any-append}
use Rattle.std.proofs.lemmas.List.Elements.{All-head, All-tail}
use Rattle.buffer_facts.proofs.Truth.{or_first}
use Rattle.buffer_properties.specs.Properties.{is_mark_character}
use Rattle.shape_breaks.specs.ManyCuts.{AlikePiecesHaveLikeMarks}

abbrev Marked : List ℕ → Type 0
Marked us = list_any is_mark_character (drop 1 us) ≡ true

abbrev Unmarked : List ℕ → Type 0
Unmarked us = list_any is_mark_character us ≡ false

marked_first : (us vs : List ℕ) → Marked us → Marked (us ++ vs)
marked_first [] vs h = absurd (let no : false ≡ true = h in cc)
marked_first (u ∷ us) vs h = list_any-append is_mark_character us vs ∙ or_first (list_any is_mark_character us) (list_any is_mark_character vs) h

both_false : (a b : Bool) → a ≡ false → b ≡ false → (a || b) ≡ false
both_false true b e f = cc
both_false false b e f = f

unmarked_all : (ps : List (List ℕ)) → All Unmarked ps → Unmarked (flat_map (λ ws. ws) ps)
unmarked_all [] h = refl
unmarked_all (p ∷ ps) h =
    list_any-append is_mark_character p (flat_map (λ ws. ws) ps) ∙ both_false (list_any is_mark_character p) (list_any is_mark_character (flat_map (λ ws. ws) ps)) (All-head Unmarked p ps h) (unmarked_all ps (All-tail Unmarked p ps h))

pub alike_pieces : AlikePiecesHaveLikeMarks
alike_pieces us vs ps (inl h) = inl (All-head Marked us (vs ∷ ps) h, marked_first vs (flat_map (λ ws. ws) ps) (All-head Marked vs ps (All-tail Marked us (vs ∷ ps) h)))
alike_pieces us vs ps (inr h) = inr (All-head Unmarked us (vs ∷ ps) h, unmarked_all (vs ∷ ps) (All-tail Unmarked us (vs ∷ ps) h))

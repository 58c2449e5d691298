-- Without merges the walk over groups turns round their order.
use Rattle.std.proofs.Common.{ℕ, suc, zero, ◌≡◌, ◌≤◌, Bool, true, false, if◌then◌else◌, List, [], ◌∷◌, ◌++◌, length, map, take, drop, reverse, arith, refl, ap, sym, ◌∙◌, append_assoc}
use Rattle.std.specs.List.{flat_map}
use Rattle.std.proofs.lemmas.Grind.{reverse_onto}
use Rattle.std.proofs.lemmas.List.{length-drop, append-nil}
use Rattle.std.proofs.lemmas.List.Concat.{flat_map-append}
use Rattle.std.proofs.Math.Seq.{take-append_seam, drop-append_seam}
use Rattle.buffer_glyphs.specs.declared.info.hb_glyph_info_t.{hb_glyph_info_t as Glyph}
use Rattle.buffer_glyphs.specs.declared.level.BufferClusterLevel.{BufferClusterLevel}
use Rattle.buffer_glyphs.specs.Items.{Position}
use Rattle.buffer_lists.specs.Groups.{joined_count, group_length}
use Rattle.buffer_lists.specs.Turning.{in_front, groups, groups_reversed_list, all_turned, turning_of}
use Rattle.buffer_lists.specs.Laws.{pieces_of_lengths, GroupsAreAll, TurnsGroups}

-- the first group, and those after it
pub groups_cut : {X : Type 0} (p : X → X → Bool) (x : X) (xs : List X) → groups p (x ∷ xs) ≡ take (group_length p (x ∷ xs)) (x ∷ xs) ∷ groups p (drop (group_length p (x ∷ xs)) (x ∷ xs))
groups_cut p x [] = refl
groups_cut p x (y ∷ ys) =
    let rest = groups_cut p y ys in
    let j = joined_count p y ys in
    ap (in_front p x) rest
    ∙ elim (p x y) as (λ t. (if t then (x ∷ y ∷ take j ys) ∷ groups p (drop j ys) else (x ∷ []) ∷ (y ∷ take j ys) ∷ groups p (drop j ys)) ≡ take (suc (if t then suc j else 0)) (x ∷ y ∷ ys) ∷ groups p (drop (suc (if t then suc j else 0)) (x ∷ y ∷ ys)))
    [ true ↦ refl | false ↦ ap (λ gss. (x ∷ []) ∷ gss) (sym rest) ]

pub turned_onto : {X : Type 0} (p : X → X → Bool) (x : X) (xs : List X) → groups_reversed_list p (x ∷ xs) ≡ groups_reversed_list p (drop (group_length p (x ∷ xs)) (x ∷ xs)) ++ take (group_length p (x ∷ xs)) (x ∷ xs)
turned_onto p x xs =
    let n = group_length p (x ∷ xs) in
    let first = take n (x ∷ xs) in
    let rest = groups p (drop n (x ∷ xs)) in
    ap (λ gss. flat_map (λ ys. ys) (reverse gss)) (groups_cut p x xs) ∙ ap (flat_map (λ ys. ys)) (reverse_onto rest first []) ∙ flat_map-append (λ ys. ys) (reverse rest) (first ∷ []) ∙ ap (λ zs. flat_map (λ ys. ys) (reverse rest) ++ zs) (append-nil first)

all_plain : (n : ℕ) (level : BufferClusterLevel) (p : Glyph → Glyph → Bool) (gs : List Glyph) (ps pa : List Position) (m : Bool) (rest_glyphs : List Glyph) → length rest_glyphs ≤ n
    → (all_turned false level p n (record { glyphs = gs; positions = ps; rest_glyphs = rest_glyphs; rest_positions = pa; is_marked = m })).glyphs ≡ groups_reversed_list p rest_glyphs ++ gs
all_plain zero level p gs ps pa m [] le = refl
all_plain zero level p gs ps pa m (x ∷ xs) le = absurd (omega arith)
all_plain (suc n) level p gs ps pa m [] le = all_plain n level p gs ps pa _ [] (omega arith)
all_plain (suc n) level p gs ps pa m (x ∷ xs) le =
    let k = group_length p (x ∷ xs) in
    let few : length (drop k (x ∷ xs)) ≤ n = omega (arith, length-drop k (x ∷ xs)) in
    all_plain n level p (take k (x ∷ xs) ++ gs) (take k pa ++ ps) (drop k pa) _ (drop k (x ∷ xs)) few
    ∙ sym (append_assoc (groups_reversed_list p (drop k (x ∷ xs))) (take k (x ∷ xs)) gs) ∙ ap (λ ys. ys ++ gs) (sym (turned_onto p x xs))

pub turned_plain : (level : BufferClusterLevel) (p : Glyph → Glyph → Bool) (gs : List Glyph) (ps : List Position) → (turning_of false level p gs ps).glyphs ≡ groups_reversed_list p gs
turned_plain level p gs ps = all_plain (length gs) level p [] [] ps false gs (omega arith) ∙ append-nil (groups_reversed_list p gs)

onto_flat : {X : Type 0} (p : X → X → Bool) (x : X) (gss : List (List X)) → flat_map (λ ys. ys) (in_front p x gss) ≡ x ∷ flat_map (λ ys. ys) gss
onto_flat p x [] = refl
onto_flat p x ([] ∷ gss) = refl
onto_flat p x ((y ∷ ys) ∷ gss) = elim (p x y) as (λ t. flat_map (λ zs. zs) (if t then (x ∷ y ∷ ys) ∷ gss else (x ∷ []) ∷ (y ∷ ys) ∷ gss) ≡ x ∷ flat_map (λ zs. zs) ((y ∷ ys) ∷ gss)) [ true ↦ refl | false ↦ refl ]

pub flat_groups : GroupsAreAll
flat_groups p [] = refl
flat_groups p (g ∷ gs) = onto_flat p g (groups p gs) ∙ ap (λ hs. g ∷ hs) (flat_groups p gs)

cut_flat : {X : Type 0} (gss : List (List X)) → pieces_of_lengths (map (λ hs. length hs) gss) (flat_map (λ hs. hs) gss) ≡ gss
cut_flat [] = refl
cut_flat (g ∷ gss) = rw (take-append_seam g (flat_map (λ hs. hs) gss), drop-append_seam g (flat_map (λ hs. hs) gss), cut_flat gss) refl

pub turns_groups : TurnsGroups
turns_groups p gs = cut_flat (reverse (groups p gs))

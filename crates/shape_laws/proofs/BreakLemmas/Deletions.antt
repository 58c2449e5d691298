-- Glyphs deleted from two texts, one after the other.
use Rattle.std.proofs.Common.{ℕ, suc, ◌≡◌, ◌<◌, ◌+◌, ◌-◌, not, Bool, true, false, if◌then◌else◌, List, [], ◌∷◌, ◌++◌, length, map, arith, refl, ap, ◌∙◌}
use Rattle.std.proofs.lemmas.Bool.Decides.{nat_tests}
use Rattle.std.proofs.lemmas.Grind.{common_steps}
use Rattle.buffer_glyphs.specs.declared.level.BufferClusterLevel.{BufferClusterLevel}
use Rattle.buffer_glyphs.specs.Items.{Item, Position}
use Rattle.buffer_glyphs.specs.Events.{Delete, IsPlain}
use Rattle.buffer_glyphs.specs.EventParts.{parts_of}
use Rattle.buffer_glyphs.specs.Order.{IsGiving}
use Rattle.buffer_glyphs.specs.Parts.{DeletePart, after_part_event}
use Rattle.buffer_glyphs.specs.Rewriting.{shifted_event}
use Rattle.buffer_lists.specs.Events.{deletions_from}
use Rattle.buffer_lists.specs.Facts.{items_kept, positions_kept}
use Rattle.buffer_parts.specs.Counts.{count_after, count_after_event}
use Rattle.buffer_parts.specs.Breaks.Concat.{without_concats}
use Rattle.buffer_parts.specs.Breaks.Fragments.{AreGiven, with_ligature_renamed}
use Rattle.buffer_parts.specs.Breaks.Lossless.{AreLossless}
use Rattle.buffer_parts.specs.Breaks.Sides.{AreBounded}
use Rattle.shape_parts.proofs.Glyphs.{one_gone as one_deleted}

-- a test doesn't read the ligature word of an item
abbrev pub SparesWord : (Item → Bool) → Type 0
SparesWord goes = (n : ℕ) (x : Item) → goes (record x { lig_props = n }) ≡ goes x

-- ---- events

pub deletions_plain : (goes : Item → Bool) (at : ℕ) (xs : List Item) → IsPlain (deletions_from goes at xs)
deletions_plain goes at [] = tt
deletions_plain goes at (x ∷ xs) = elim (goes x) as (λ b. IsPlain (if b then Delete at ∷ deletions_from goes at xs else deletions_from goes (at + 1) xs)) [ true ↦ deletions_plain goes at xs | false ↦ deletions_plain goes (at + 1) xs ]

pub deletions_lossless : (goes : Item → Bool) (at : ℕ) (xs : List Item) (n : ℕ) → AreLossless (deletions_from goes at xs) n
deletions_lossless goes at [] n = tt
deletions_lossless goes at (x ∷ xs) n =
    elim (goes x) as (λ b. AreLossless (if b then Delete at ∷ deletions_from goes at xs else deletions_from goes (at + 1) xs) n)
    [ true ↦ (tt, deletions_lossless goes at xs (count_after_event n (Delete at))) | false ↦ deletions_lossless goes (at + 1) xs n ]

pub deletions_no_concat : (goes : Item → Bool) (at : ℕ) (xs : List Item) → without_concats (deletions_from goes at xs) ≡ deletions_from goes at xs
deletions_no_concat goes at [] = refl
deletions_no_concat goes at (x ∷ xs) =
    elim (goes x) as (λ b. without_concats (if b then Delete at ∷ deletions_from goes at xs else deletions_from goes (at + 1) xs) ≡ (if b then Delete at ∷ deletions_from goes at xs else deletions_from goes (at + 1) xs))
    [ true ↦ ap (λ es. Delete at ∷ es) (deletions_no_concat goes at xs) | false ↦ deletions_no_concat goes (at + 1) xs ]

pub deletions_give : (goes : Item → Bool) (level : BufferClusterLevel) (at : ℕ) (xs : List Item) (ns : List ℕ) → IsGiving (parts_of level (deletions_from goes at xs)) ns
deletions_give goes level at [] ns = tt
deletions_give goes level at (x ∷ xs) ns =
    elim (goes x) as (λ b. IsGiving (parts_of level (if b then Delete at ∷ deletions_from goes at xs else deletions_from goes (at + 1) xs)) ns)
    [ true ↦ (tt, deletions_give goes level at xs (after_part_event ns (DeletePart at))) | false ↦ deletions_give goes level (at + 1) xs ns ]

pub deletions_bounded : (goes : Item → Bool) (at : ℕ) (xs : List Item) (n : ℕ) → n ≡ at + length xs → AreBounded (deletions_from goes at xs) n
deletions_bounded goes at [] n e = tt
deletions_bounded goes at (x ∷ xs) n e = by_test (goes x) (deletions_bounded goes at xs (count_after_event n (Delete at)) (let one = one_deleted at n (omega (arith, e)) in omega (arith, e, one))) (deletions_bounded goes (at + 1) xs n (omega (arith, e)))
  where
    by_test : (b : Bool) → AreBounded (deletions_from goes at xs) (count_after_event n (Delete at)) → AreBounded (deletions_from goes (at + 1) xs) n → AreBounded (if b then Delete at ∷ deletions_from goes at xs else deletions_from goes (at + 1) xs) n
    by_test true fewer kept = (omega (arith, e), fewer)
    by_test false fewer kept = kept

pub deletions_shifted : (goes : Item → Bool) (m at : ℕ) (xs : List Item) → map (shifted_event m) (deletions_from goes at xs) ≡ deletions_from goes (m + at) xs
deletions_shifted goes m at [] = refl
deletions_shifted goes m at (x ∷ xs) = by_test (goes x) (deletions_shifted goes m at xs) (let next : m + (at + 1) ≡ m + at + 1 = omega arith in deletions_shifted goes m (at + 1) xs ∙ ap (λ (i : ℕ). deletions_from goes i xs) next)
  where
    by_test : (b : Bool) → map (shifted_event m) (deletions_from goes at xs) ≡ deletions_from goes (m + at) xs → map (shifted_event m) (deletions_from goes (at + 1) xs) ≡ deletions_from goes (m + at + 1) xs
        → map (shifted_event m) (if b then Delete at ∷ deletions_from goes at xs else deletions_from goes (at + 1) xs) ≡ (if b then Delete (m + at) ∷ deletions_from goes (m + at) xs else deletions_from goes (m + at + 1) xs)
    by_test true fewer kept = ap (λ es. Delete (m + at) ∷ es) fewer
    by_test false fewer kept = kept

pub deletions_both : (goes : Item → Bool) (at : ℕ) (xs ys : List Item) → deletions_from goes at (xs ++ ys) ≡ deletions_from goes at xs ++ deletions_from goes (at + length (items_kept goes xs)) ys
deletions_both goes at [] ys = let here : at ≡ at + 0 = omega arith in ap (λ (i : ℕ). deletions_from goes i ys) here
deletions_both goes at (x ∷ xs) ys = by_test (goes x) (deletions_both goes at xs ys) (deletions_both goes (at + 1) xs ys)
  where
    by_test : (b : Bool) → deletions_from goes at (xs ++ ys) ≡ deletions_from goes at xs ++ deletions_from goes (at + length (items_kept goes xs)) ys
        → deletions_from goes (at + 1) (xs ++ ys) ≡ deletions_from goes (at + 1) xs ++ deletions_from goes (at + 1 + length (items_kept goes xs)) ys
        → (if b then Delete at ∷ deletions_from goes at (xs ++ ys) else deletions_from goes (at + 1) (xs ++ ys))
        ≡ (if b then Delete at ∷ deletions_from goes at xs else deletions_from goes (at + 1) xs) ++ deletions_from goes (at + length (if not b then x ∷ items_kept goes xs else items_kept goes xs)) ys
    by_test true fewer kept = ap (λ es. Delete at ∷ es) fewer
    by_test false fewer kept = let next : at + 1 + length (items_kept goes xs) ≡ at + suc (length (items_kept goes xs)) = omega arith in kept ∙ ap (λ (i : ℕ). deletions_from goes (at + 1) xs ++ deletions_from goes i ys) next

pub deletions_renamed : (goes : Item → Bool) → SparesWord goes → (f : ℕ → ℕ) (at : ℕ) (xs : List Item) → deletions_from goes at (map (with_ligature_renamed f) xs) ≡ deletions_from goes at xs
deletions_renamed goes spares f at [] = refl
deletions_renamed goes spares f at (x ∷ xs) =
    rw (spares (with_ligature_renamed f x).lig_props x, deletions_renamed goes spares f at xs, deletions_renamed goes spares f (at + 1) xs) refl

-- ---- what is kept

pub kept_both : (goes : Item → Bool) (xs ys : List Item) → items_kept goes (xs ++ ys) ≡ items_kept goes xs ++ items_kept goes ys
kept_both goes [] ys = refl
kept_both goes (x ∷ xs) ys =
    elim (goes x) as (λ b. (if not b then x ∷ items_kept goes (xs ++ ys) else items_kept goes (xs ++ ys)) ≡ (if not b then x ∷ items_kept goes xs else items_kept goes xs) ++ items_kept goes ys)
    [ true ↦ kept_both goes xs ys | false ↦ ap (λ zs. x ∷ zs) (kept_both goes xs ys) ]

pub kept_renamed : (goes : Item → Bool) → SparesWord goes → (f : ℕ → ℕ) (xs : List Item) → items_kept goes (map (with_ligature_renamed f) xs) ≡ map (with_ligature_renamed f) (items_kept goes xs)
kept_renamed goes spares f [] = refl
kept_renamed goes spares f (x ∷ xs) = rw (spares (with_ligature_renamed f x).lig_props x, kept_renamed goes spares f xs) (by_test (goes x))
  where
    by_test : (b : Bool) → (if not b then with_ligature_renamed f x ∷ map (with_ligature_renamed f) (items_kept goes xs) else map (with_ligature_renamed f) (items_kept goes xs)) ≡ map (with_ligature_renamed f) (if not b then x ∷ items_kept goes xs else items_kept goes xs)
    by_test true = refl
    by_test false = refl

pub kept_given : (goes : Item → Bool) (last : ℕ) (xs : List Item) → AreGiven last xs → AreGiven last (items_kept goes xs)
kept_given goes last [] h = tt
kept_given goes last (x ∷ xs) h =
    elim (goes x) as (λ b. AreGiven last (if not b then x ∷ items_kept goes xs else items_kept goes xs)) [ true ↦ kept_given goes last xs h.1 | false ↦ (h.0, kept_given goes last xs h.1) ]

pub positions_both : (goes : Item → Bool) (xs ys : List Item) (ps qs : List Position) → length ps ≡ length xs → positions_kept goes (xs ++ ys) (ps ++ qs) ≡ positions_kept goes xs ps ++ positions_kept goes ys qs
positions_both goes [] ys [] qs e = refl
positions_both goes [] ys (p ∷ ps) qs e = absurd (omega (arith, e))
positions_both goes (x ∷ xs) ys [] qs e = absurd (omega (arith, e))
positions_both goes (x ∷ xs) ys (p ∷ ps) qs e =
    let rest = positions_both goes xs ys ps qs (omega (arith, e)) in
    elim (goes x) as (λ b. (if b then positions_kept goes (xs ++ ys) (ps ++ qs) else p ∷ positions_kept goes (xs ++ ys) (ps ++ qs)) ≡ (if b then positions_kept goes xs ps else p ∷ positions_kept goes xs ps) ++ positions_kept goes ys qs)
    [ true ↦ rest | false ↦ ap (λ zs. p ∷ zs) rest ]

pub positions_renamed : (goes : Item → Bool) → SparesWord goes → (f : ℕ → ℕ) (xs : List Item) (ps : List Position) → positions_kept goes (map (with_ligature_renamed f) xs) ps ≡ positions_kept goes xs ps
positions_renamed goes spares f [] ps = refl
positions_renamed goes spares f (x ∷ xs) [] = refl
positions_renamed goes spares f (x ∷ xs) (p ∷ ps) = rw (spares (with_ligature_renamed f x).lig_props x, positions_renamed goes spares f xs ps) refl

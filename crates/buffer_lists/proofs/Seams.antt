-- Where the seams of the order by a key are.
use Rattle.std.specs.List.{All, list_all}
use Rattle.std.proofs.Common.{ℕ, suc, zero, ◌≡◌, ◌≤◌, ◌<◌, ◌+◌, nat_lt, true, false, List, [], ◌∷◌, ◌++◌, length, take, drop, arith, refl, ap, sym, ◌∙◌}
use Rattle.std.proofs.lemmas.Bool.Decides.{nat_tests}
use Rattle.std.proofs.lemmas.List.{length-take-le}
use Rattle.std.proofs.lemmas.List.Elements.{All-nil, All-cons, All-head, All-tail, All-weaker}
use Rattle.buffer_rows.specs.KeyOrder.{key_order}
use Rattle.buffer_glyphs.specs.declared.info.hb_glyph_info_t.{hb_glyph_info_t as Glyph}
use Rattle.buffer_lists.specs.declared.sorting.KeyedIndex.{KeyedIndex}
use Rattle.buffer_lists.specs.Laws.{SeamParts}
use Rattle.buffer_lists.specs.Sorting.{keyed_indices_from, indices_by_key, is_seam}
use Rattle.buffer_lists.proofs.Indices.{all_keyed}
use Rattle.buffer_lists.specs.Lemmas.KeyOrder.{seam_by_key}

keyed_cut : (k : Glyph → ℕ) (j i : ℕ) (gs : List Glyph) → keyed_indices_from k j gs ≡ keyed_indices_from k j (take i gs) ++ keyed_indices_from k (j + i) (drop i gs)
keyed_cut k j zero gs = let none : j + 0 ≡ j = omega arith in rw none refl
keyed_cut k j (suc i) [] = refl
keyed_cut k j (suc i) (g ∷ gs) =
    let there : j + 1 + i ≡ j + suc i = omega arith in
    ap (λ es. record { key = k g; index = j } ∷ es) (keyed_cut k (j + 1) i gs ∙ ap (λ m. keyed_indices_from k (j + 1) (take i gs) ++ keyed_indices_from k m (drop i gs)) there)

pub keyed_length : (k : Glyph → ℕ) (j : ℕ) (gs : List Glyph) → length (keyed_indices_from k j gs) ≡ length gs
keyed_length k j [] = refl
keyed_length k j (g ∷ gs) = ap suc (keyed_length k (j + 1) gs)

keyed_from_on : (k : Glyph → ℕ) (i j : ℕ) (gs : List Glyph) → i ≤ j → All (λ (e : KeyedIndex). i ≤ e.index) (keyed_indices_from k j gs)
keyed_from_on k i j [] le = All-nil (λ (e : KeyedIndex). i ≤ e.index)
keyed_from_on k i j (g ∷ gs) le = All-cons (λ (e : KeyedIndex). i ≤ e.index) (record { key = k g; index = j }) (keyed_indices_from k (j + 1) gs) le (keyed_from_on k i (j + 1) gs (omega arith))

-- what holds of each key of glyphs holds of each that stands with an index
to_keyed : (P : ℕ → Type 0) (k : Glyph → ℕ) (j : ℕ) (gs : List Glyph) → All (λ g. P (k g)) gs → All (λ (e : KeyedIndex). P e.key) (keyed_indices_from k j gs)
to_keyed P k j [] h = All-nil (λ (e : KeyedIndex). P e.key)
to_keyed P k j (g ∷ gs) h = All-cons (λ (e : KeyedIndex). P e.key) (record { key = k g; index = j }) (keyed_indices_from k (j + 1) gs) (All-head (λ x. P (k x)) g gs h) (to_keyed P k (j + 1) gs (All-tail (λ x. P (k x)) g gs h))

from_keyed : (P : ℕ → Type 0) (k : Glyph → ℕ) (j : ℕ) (gs : List Glyph) → All (λ (e : KeyedIndex). P e.key) (keyed_indices_from k j gs) → All (λ g. P (k g)) gs
from_keyed P k j [] h = All-nil (λ g. P (k g))
from_keyed P k j (g ∷ gs) h =
    All-cons (λ x. P (k x)) g gs (All-head (λ (e : KeyedIndex). P e.key) (record { key = k g; index = j }) (keyed_indices_from k (j + 1) gs) h)
    (from_keyed P k (j + 1) gs (All-tail (λ (e : KeyedIndex). P e.key) (record { key = k g; index = j }) (keyed_indices_from k (j + 1) gs) h))

pub seam_parts : SeamParts
seam_parts k gs i le =
    let key = λ (e : KeyedIndex). e.key in
    let p = λ (e : KeyedIndex). nat_lt e.index i in
    let front = keyed_indices_from k 0 (take i gs) in
    let back = keyed_indices_from k i (drop i gs) in
    let none : 0 + i ≡ i = omega arith in
    let cut : keyed_indices_from k 0 gs ≡ front ++ back = keyed_cut k 0 i gs ∙ ap (λ m. front ++ keyed_indices_from k m (drop i gs)) none in
    let short = length-take-le i gs le in
    let long : length front ≡ i = keyed_length k 0 (take i gs) ∙ short in
    let picked = All-weaker (λ (e : KeyedIndex). e.index < i) (λ e. p e ≡ true) (λ e h. grind (arith, nat_tests)) front (all_keyed k 0 i (take i gs) (omega (arith, short))) in
    let other = All-weaker (λ (e : KeyedIndex). i ≤ e.index) (λ e. p e ≡ false) (λ e h. grind (arith, nat_tests)) back (keyed_from_on k i i (drop i gs) (omega arith)) in
    let known = seam_by_key key p front back picked other in
    let same : list_all p (take (length front) (key_order key (front ++ back))) ≡ is_seam (indices_by_key k gs) i = ap (λ m. list_all p (take m (key_order key (front ++ back)))) long ∙ ap (λ es. list_all p (take i (key_order key es))) (sym cut) in (
      λ h. from_keyed (λ n. All (λ x. n ≤ k x) (drop i gs)) k 0 (take i gs) (All-weaker (λ (e : KeyedIndex). All (λ (f : KeyedIndex). e.key ≤ f.key) back) (λ e. All (λ x. e.key ≤ k x) (drop i gs)) (λ e b. from_keyed (λ m. e.key ≤ m) k i (drop i gs) b) front (known.0 (same ∙ h))),
      λ h. sym same ∙ known.1 (All-weaker (λ (e : KeyedIndex). All (λ x. e.key ≤ k x) (drop i gs)) (λ e. All (λ (f : KeyedIndex). e.key ≤ f.key) back) (λ e b. to_keyed (λ m. e.key ≤ m) k i (drop i gs) b) front (to_keyed (λ n. All (λ x. n ≤ k x) (drop i gs)) k 0 (take i gs) h)),
    )

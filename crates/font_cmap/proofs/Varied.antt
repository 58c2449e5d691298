-- The rows of variation selectors, step by step.
use Rattle.std.proofs.Common.{◌≡◌, ◌≢◌, ℕ, zero, suc, ◌+◌, ◌-◌, ◌<◌, ◌≤◌, List, [], ◌∷◌, ◌++◌, Result, Ok, Err, refl, sym, ap, ◌∙◌, append_assoc, arith}
use Rattle.std.specs.List.{flat_map}
use Rattle.layout_face.specs.declared.parts.VariationRow.{VariationRow}
use Rattle.font_bytes.specs.declared.fault.TableFault.{TableFault}
use Rattle.font_bytes.specs.Results.{and_then}
use Rattle.font_cmap.specs.Variations.{variation_row, variants_in, after, selector_at, selectors_in}

variants_step : (glyph : ℕ → ℕ) (s c count : ℕ) → count ≢ 0 → variants_in glyph s c count ≡ variation_row s c (glyph c) ++ variants_in glyph s (c + 1) (count - 1)
unfolding variants_in
variants_step glyph s c zero some = absurd (some refl)
variants_step glyph s c (suc count) some = let e : suc count - 1 ≡ count = omega arith in rw e refl

variants_more : (glyph : ℕ → ℕ) (s c count offset : ℕ) → offset < count
    → variants_in glyph s (c + offset) (count - offset) ≡ variation_row s (c + offset) (glyph (c + offset)) ++ variants_in glyph s (c + (offset + 1)) (count - (offset + 1))
variants_more glyph s c count offset inside =
    let some : count - offset ≢ 0 = omega arith in
    let next : c + offset + 1 ≡ c + (offset + 1) = omega arith in
    let left : count - offset - 1 ≡ count - (offset + 1) = omega arith in
    let e : variants_in glyph s (c + offset) (count - offset) ≡ variation_row s (c + offset) (glyph (c + offset)) ++ variants_in glyph s (c + offset + 1) (count - offset - 1) = variants_step glyph s (c + offset) (count - offset) some in
    rw (next, left) at e

-- the row of one more character is done
pub variant_pushed : (glyph : ℕ → ℕ) (done all : List VariationRow) (s c count offset : ℕ) → offset < count → done ++ variants_in glyph s (c + offset) (count - offset) ≡ all
    → (done ++ variation_row s (c + offset) (glyph (c + offset))) ++ variants_in glyph s (c + (offset + 1)) (count - (offset + 1)) ≡ all
variant_pushed glyph done all s c count offset inside h = append_assoc done _ _ ∙ (ap (λ rs. done ++ rs) (sym (variants_more glyph s c count offset inside)) ∙ h)

-- no character is left
pub variants_end : (glyph : ℕ → ℕ) (s c count offset : ℕ) → count ≤ offset → variants_in glyph s c (count - offset) ≡ []
unfolding variants_in
variants_end glyph s c count offset past = let e : count - offset ≡ 0 = omega arith in rw e refl

-- ---- after others

after_after : (xs ys : List VariationRow) (rest : Result (List VariationRow × ℕ) TableFault) → after xs (after ys rest) ≡ after (xs ++ ys) rest
after_after xs ys (Ok r) = ap (λ zs. Ok (zs, r.1)) (sym (append_assoc xs ys r.0))
after_after xs ys (Err e) = refl

parts_are : (xs ys : List VariationRow) (m n : ℕ) → ◌≡◌ {A = Result (List VariationRow × ℕ) TableFault} (Ok (xs, m)) (Ok (ys, n)) → (xs ≡ ys) × (m ≡ n)
parts_are xs ys m n h =
    let both : ◌≡◌ {A = List VariationRow × ℕ} (xs, m) (ys, n) = cc in
    (ap (λ (p : List VariationRow × ℕ). p.0) both, ap (λ (p : List VariationRow × ℕ). p.1) both)

-- what follows rows that are read
pub after_step : (done mid : List VariationRow) (left : ℕ) (first : Result (List VariationRow × ℕ) TableFault) (next : ℕ → Result (List VariationRow × ℕ) TableFault)
    → after done first ≡ Ok (mid, left) → after done (and_then first (λ a. after a.0 (next a.1))) ≡ after mid (next left)
after_step done mid left (Ok a) next h =
    let both = parts_are (done ++ a.0) mid a.1 left h in
    let front = both.0 in
    let rest = both.1 in
    after_after done a.0 (next a.1) ∙ (ap (λ xs. after xs (next a.1)) front ∙ ap (λ n. after mid (next n)) rest)
after_step done mid left (Err e) next h = cc

-- nothing before
pub after_none : (rest : Result (List VariationRow × ℕ) TableFault) → after [] rest ≡ rest
after_none (Ok r) = refl
after_none (Err e) = refl

-- both are read
pub joined : (done mid new : List VariationRow) (left last : ℕ) (first : Result (List VariationRow × ℕ) TableFault) (next : ℕ → Result (List VariationRow × ℕ) TableFault)
    → after done first ≡ Ok (mid, left) → after mid (next left) ≡ Ok (new, last) → after done (and_then first (λ a. after a.0 (next a.1))) ≡ Ok (new, last)
joined done mid new left last first next h k = after_step done mid left first next h ∙ k

-- the first is refused
pub first_refused : (first : Result (List VariationRow × ℕ) TableFault) (next : ℕ → Result (List VariationRow × ℕ) TableFault) (e : TableFault)
    → first ≡ Err e → and_then first (λ a. after a.0 (next a.1)) ≡ Err e
first_refused first next e h = rw h refl

-- the second is refused
pub second_refused : (done mid : List VariationRow) (left : ℕ) (first : Result (List VariationRow × ℕ) TableFault) (next : ℕ → Result (List VariationRow × ℕ) TableFault) (e : TableFault)
    → after done first ≡ Ok (mid, left) → next left ≡ Err e → and_then first (λ a. after a.0 (next a.1)) ≡ Err e
second_refused done mid left (Ok a) next e h k =
    let both = parts_are (done ++ a.0) mid a.1 left h in
    let rest = both.1 in
    rw (rest, k) refl
second_refused done mid left (Err x) next e h k = cc

-- rows after others are refused as they are
pub after_refused : (done : List VariationRow) (rest : Result (List VariationRow × ℕ) TableFault) (e : TableFault) → after done rest ≡ Err e → rest ≡ Err e
after_refused done (Ok r) e h = cc
after_refused done (Err x) e h = h

-- ---- arrays

-- the rows of one more element are done
pub flat_pushed : (f : ℕ → List VariationRow) (done all : List VariationRow) (x : ℕ) (rest xs : List ℕ) → rest ≡ x ∷ xs → done ++ flat_map f rest ≡ all → (done ++ f x) ++ flat_map f xs ≡ all
flat_pushed f done all x rest xs e h = append_assoc done _ _ ∙ (ap (λ ys. done ++ flat_map f ys) (sym e) ∙ h)

-- the rows of one more selector are done
pub selectors_pushed : (table : List ℕ) (glyph : ℕ → ℕ) (base : ℕ) (done mid : List VariationRow) (room left at : ℕ) (rest ats : List ℕ) (all : Result (List VariationRow × ℕ) TableFault)
    → ats ≡ at ∷ rest → after done (selector_at table glyph base room at) ≡ Ok (mid, left) → after done (selectors_in table glyph base room ats) ≡ all → after mid (selectors_in table glyph base left rest) ≡ all
selectors_pushed table glyph base done mid room left at rest ats all e h whole =
    sym (after_step done mid left (selector_at table glyph base room at) (λ r. selectors_in table glyph base r rest) h)
    ∙ (ap (λ os. after done (selectors_in table glyph base room os)) (sym e) ∙ whole)

-- Sums made and taken apart, one position after another.
use Rattle.std.proofs.Common.{ℕ, zero, suc, pos, ◌≡◌, ◌≤◌, ◌<◌, ◌+◌, inl, inr, List, [], ◌∷◌, ◌++◌, length, set, take, drop, arith, refl, ap, sym, subst, ◌∙◌}
use Rattle.std.proofs.lemmas.Bool.Decides.{eqb_tells, leb_tells}
use Rattle.std.proofs.lemmas.List.{length-set, get_or-set_same, get_or-set_other, take_more, drop_more, take-set-le, drop-set-lt, take_all, drop_all, append-nil, append_assoc}
use Rattle.std.specs.Int.{int_wrap, w32}
use Rattle.std.proofs.lemmas.Int.{int_wrap_fits, fits_signed_from_abs}
use Rattle.std.proofs.lemmas.Nat.{pow_pos}
use Rattle.buffer_glyphs.specs.Items.{Position, zero_position}
use Rattle.layout_offsets.specs.declared.advance_sums.Pen.{Pen}
use Rattle.layout_offsets.specs.FollowedLinks.{kind_tested, kinds_tested}
use Rattle.layout_offsets.specs.Links.{position_at}
use Rattle.layout_offsets.specs.AdvanceSums.{Fits, AllFit, pen_down, pen_after, pen_of, pen_way, with_pen, advance_sums_from, advance_sums, advances_of_sums_from, advances_of_sums}
use Rattle.layout_offsets.proofs.Lemmas.Summing.{IsSumming, IsParting}

-- a list that is rewritten from its front
step : {S : Type 0} (run : S → List Position → List Position) (s s' : S) (q : Position) (i : ℕ) (ps : List Position) → i < length ps
    → run s (position_at i ps ∷ drop (i + 1) ps) ≡ q ∷ run s' (drop (i + 1) ps)
    → take (i + 1) (set ps i q) ++ run s' (drop (i + 1) (set ps i q)) ≡ take i ps ++ run s (drop i ps)
step run s s' q i ps lt e =
    let len = length-set ps i q in
    let within : i < length (set ps i q) = omega (arith, len, lt) in
    let one : take (i + 1) (set ps i q) ≡ take i ps ++ q ∷ [] =
    take_more (set ps i q) i zero_position within ∙ ap (λ xs. xs ++ position_at i (set ps i q) ∷ []) (take-set-le i ps i q (omega arith)) ∙ ap (λ p. take i ps ++ p ∷ []) (get_or-set_same ps i q zero_position lt) in
    ap (λ xs. xs ++ run s' (drop (i + 1) (set ps i q))) one ∙ ap (λ xs. (take i ps ++ q ∷ []) ++ run s' xs) (drop-set-lt (i + 1) ps i q (omega arith))
    ∙ append_assoc (take i ps) (q ∷ []) (run s' (drop (i + 1) ps)) ∙ ap (λ xs. take i ps ++ xs) (sym e) ∙ ap (λ xs. take i ps ++ run s xs) (sym (drop_more ps i zero_position lt))

nothing_left : {S : Type 0} (run : S → List Position → List Position) (s : S) (i : ℕ) (ps : List Position) → run s [] ≡ [] → length ps ≤ i → take i ps ++ run s (drop i ps) ≡ ps
nothing_left run s i ps e le = ap (λ xs. take i ps ++ run s xs) (drop_all i ps le) ∙ ap (λ xs. take i ps ++ xs) e ∙ append-nil (take i ps) ∙ take_all i ps le

pub summing_first : (ps : List Position) → IsSumming ps 0 pen_down ps
summing_first ps = record { leads = refl; long = refl; left = λ k le. refl; fit = λ k lt. absurd (omega (arith, lt)) }

summing_more : (old : List Position) (i : ℕ) (pen : Pen) (ps : List Position) → IsSumming old i pen ps → i < length ps → Fits (position_at i ps)
    → IsSumming old (i + 1) (pen_after pen (kind_tested (position_at i ps))) (set ps i (with_pen (pen_after pen (kind_tested (position_at i ps))) (kind_tested (position_at i ps))))
summing_more old i pen ps s lt fits =
    let p = kind_tested (position_at i ps) in
    let q = with_pen (pen_after pen p) p in
    record {
      leads = step (λ pen xs. advance_sums_from pen (kinds_tested xs)) pen (pen_after pen p) q i ps lt refl ∙ s.leads;
      long = length-set ps i q ∙ s.long;
      left = λ k le. get_or-set_other ps i k q zero_position (omega (arith, le)) ∙ s.left k (omega (arith, le));
      fit = λ k lt_k. elim (eqb_tells k i) [
        | inl is ↦ subst (λ (r : Position). Fits r) (s.left i (omega arith) ∙ ap (λ (m : ℕ). position_at m old) (sym is.1)) fits
        | inr other ↦ let apart = other.1 in s.fit k (omega (arith, apart, lt_k))
      ];
    }

pub summing_next : (old : List Position) (i : ℕ) (pen pen' : Pen) (ps : List Position) (p q : Position) → IsSumming old i pen ps → i < length ps → p ≡ kind_tested (position_at i ps) → Fits (position_at i ps)
    → pen' ≡ pen_after pen p → q ≡ with_pen pen' p → IsSumming old (i + 1) pen' (set ps i q)
summing_next old i pen pen' ps p q s lt e fits f g =
    let there = summing_more old i pen ps s lt fits in
    let r = kind_tested (position_at i ps) in
    let pens : pen' ≡ pen_after pen r = f ∙ ap (pen_after pen) e in
    let at_q : q ≡ with_pen (pen_after pen r) r = g ∙ ap (λ (pen : Pen). with_pen pen p) pens ∙ ap (with_pen (pen_after pen r)) e in
    subst (λ (a : Position). IsSumming old (i + 1) pen' (set ps i a)) (sym at_q) (subst (λ (a : Pen). IsSumming old (i + 1) a (set ps i (with_pen (pen_after pen r) r))) (sym pens) there)

pub summing_last : (old : List Position) (i : ℕ) (pen : Pen) (ps : List Position) → IsSumming old i pen ps → length ps ≤ i → ps ≡ advance_sums (kinds_tested old)
summing_last old i pen ps s le = sym (nothing_left (λ pen xs. advance_sums_from pen (kinds_tested xs)) pen i ps refl le) ∙ s.leads

zero_fits : int_wrap w32 (pos 0) ≡ pos 0
zero_fits = int_wrap_fits w32 (pos 0) (fits_signed_from_abs w32 (pos 0) (pow_pos 31))

outside_fits : (k : ℕ) (ps : List Position) → length ps ≤ k → Fits (position_at k ps)
outside_fits k [] le = (zero_fits, zero_fits)
outside_fits zero (p ∷ ps) le = absurd (omega (arith, le))
outside_fits (suc k) (p ∷ ps) le = outside_fits k ps (omega (arith, le))

pub summing_fits : (old : List Position) (i : ℕ) (pen : Pen) (ps : List Position) → IsSumming old i pen ps → length ps ≤ i → AllFit old
summing_fits old i pen ps s le k = elim (leb_tells i k) [
  | inl outside ↦ let long = s.long in let beyond = outside.1 in outside_fits k old (omega (arith, le, long, beyond))
  | inr inside ↦ s.fit k inside.1
]

pub parting_first : (ps : List Position) → IsParting ps 0 pen_down ps
parting_first ps = record { leads = refl; long = refl }

pub parting_next : (old : List Position) (i : ℕ) (pen : Pen) (ps : List Position) → IsParting old i pen ps → i < length ps
    → IsParting old (i + 1) (pen_of (position_at i ps)) (set ps i (with_pen (pen_way pen (pen_of (position_at i ps))) (position_at i ps)))
parting_next old i pen ps s lt =
    let p = position_at i ps in
    let q = with_pen (pen_way pen (pen_of p)) p in
    record { leads = step advances_of_sums_from pen (pen_of p) q i ps lt refl ∙ s.leads; long = length-set ps i q ∙ s.long }

pub parting_last : (old : List Position) (i : ℕ) (pen : Pen) (ps : List Position) → IsParting old i pen ps → length ps ≤ i → ps ≡ advances_of_sums old
parting_last old i pen ps s le = sym (nothing_left advances_of_sums_from pen i ps refl le) ∙ s.leads

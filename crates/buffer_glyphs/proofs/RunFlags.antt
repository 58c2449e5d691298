-- The flags of the run of a cluster at the front.
use Rattle.std.specs.List.{prefix_len}
use Rattle.std.specs.Int.RustNames.{bit_or}
use Rattle.std.specs.Int.Bits.{or_zero_l, or_zero_r}
use Rattle.std.proofs.Common.{ℕ, suc, ◌≡◌, ◌+◌, ◌≤◌, ◌<◌, ◌==◌, ◌&&◌, ◌/◌, Bool, true, false, if◌then◌else◌, List, [], ◌∷◌, fold, length, take, drop, get_or, arith, ap, sym, ◌∙◌}
use Rattle.buffer_glyphs.specs.declared.info.hb_glyph_info_t.{hb_glyph_info_t as Glyph}
use Rattle.buffer_glyphs.specs.Items.{flags_of, glyph_flags}
use Rattle.buffer_glyphs.specs.Origins.{is_unsafe, origins, run_flags, unsafe_flags}
use Rattle.buffer_glyphs.specs.Lemmas.Handed.{unsafe_seen}
use Rattle.std.proofs.lemmas.List.{drop_all, drop_more}
use Rattle.std.proofs.lemmas.Nat.{or_shr}
use lib.Arith.{bin_ind}
use lib.Bits.{or_step}

or_assoc : (c a b : ℕ) → bit_or (bit_or a b) c ≡ bit_or a (bit_or b c)
or_assoc =
    bin_ind (λ (c : ℕ). (a b : ℕ) → bit_or (bit_or a b) c ≡ bit_or a (bit_or b c)) (λ a b. or_zero_r (bit_or a b) ∙ sym (ap (bit_or a) (or_zero_r b)))
    (λ c ih a b.
    let p : bit_or (bit_or a b / 2) (c / 2) ≡ bit_or (a / 2) (bit_or b c / 2) = ap (λ x. bit_or x (c / 2)) (or_shr a b 1) ∙ ih (a / 2) (b / 2) ∙ sym (ap (bit_or (a / 2)) (or_shr b c 1)) in
    omega (arith, or_step (bit_or a b) c, or_step a (bit_or b c), or_step a b, or_step b c))

run_joined : (c a : ℕ) (gs : List Glyph) → fold bit_or a (flags_of (take (prefix_len (λ (g : Glyph). g.cluster == c) gs) gs)) ≡ bit_or a (run_flags c (origins gs))
run_joined c a [] = sym (or_zero_r a)
run_joined c a (g ∷ gs) = by_test (g.cluster == c) (run_joined c (bit_or a (glyph_flags g)) gs)
  where
    by_test : (t : Bool) → fold bit_or (bit_or a (glyph_flags g)) (flags_of (take (prefix_len (λ (h : Glyph). h.cluster == c) gs) gs)) ≡ bit_or (bit_or a (glyph_flags g)) (run_flags c (origins gs))
        → fold bit_or a (flags_of (take (if t then 1 + prefix_len (λ (h : Glyph). h.cluster == c) gs else 0) (g ∷ gs))) ≡ bit_or a (if t then bit_or (glyph_flags g) (run_flags c (origins gs)) else 0)
    by_test false rest = sym (or_zero_r a)
    by_test true rest =
        let n = prefix_len (λ (h : Glyph). h.cluster == c) gs in
        let more : 1 + n ≡ suc n = omega arith in
        ap (λ k. fold bit_or a (flags_of (take k (g ∷ gs)))) more ∙ rest ∙ or_assoc (run_flags c (origins gs)) a (glyph_flags g)

pub run_folded : (c : ℕ) (gs : List Glyph) → fold bit_or 0 (flags_of (take (prefix_len (λ (g : Glyph). g.cluster == c) gs) gs)) ≡ run_flags c (origins gs)
run_folded c gs = run_joined c 0 gs ∙ or_zero_l (run_flags c (origins gs))

-- the flags so far, with those of one more glyph
pub unsafe_more : (c a own i : ℕ) (gs : List Glyph) (d g : Glyph) → own ≡ (if g.cluster == c && is_unsafe g.mask then glyph_flags g else 0) → g ≡ get_or gs i d → i < length gs → bit_or a (unsafe_flags c (origins (drop i gs))) ≡ unsafe_flags c (origins gs)
    → bit_or (bit_or a own) (unsafe_flags c (origins (drop (i + 1) gs))) ≡ unsafe_flags c (origins gs)
unsafe_more c a own i gs d g here is lt e =
    let back = drop (i + 1) gs in
    let cut : drop i gs ≡ g ∷ back = drop_more gs i d lt ∙ ap (λ h. h ∷ back) (sym is) in
    ap (λ n. bit_or (bit_or a n) (unsafe_flags c (origins back))) here
    ∙ ap (λ t. bit_or (bit_or a (if g.cluster == c && t then glyph_flags g else 0)) (unsafe_flags c (origins back))) (unsafe_seen g.mask)
    ∙ by_test (g.cluster == c && is_unsafe (glyph_flags g)) (unsafe_flags c (origins back))
    ∙ sym (ap (λ hs. bit_or a (unsafe_flags c (origins hs))) cut) ∙ e
  where
    by_test : (t : Bool) (n : ℕ) → bit_or (bit_or a (if t then glyph_flags g else 0)) n ≡ bit_or a (if t then bit_or (glyph_flags g) n else n)
    by_test true n = or_assoc n a (glyph_flags g)
    by_test false n = ap (λ m. bit_or m n) (or_zero_r a)

pub unsafe_begins : (n : ℕ) → bit_or 0 n ≡ n
unsafe_begins n = or_zero_l n

pub unsafe_ends : (c a i : ℕ) (gs : List Glyph) → length gs ≤ i → bit_or a (unsafe_flags c (origins (drop i gs))) ≡ unsafe_flags c (origins gs) → a ≡ unsafe_flags c (origins gs)
unsafe_ends c a i gs le e = sym (ap (λ hs. bit_or a (unsafe_flags c (origins hs))) (drop_all i gs le) ∙ or_zero_r a) ∙ e

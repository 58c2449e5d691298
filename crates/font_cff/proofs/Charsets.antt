-- Ranges of charsets, one at a time.
use Rattle.std.proofs.Common.{◌≡◌, ◌≢◌, ℕ, zero, suc, ◌+◌, ◌-◌, ◌==◌, Bool, true, false, List, [], ◌∷◌, ◌++◌, Result, Ok, Err, refl, sym, ap, append_assoc, arith}
use Rattle.std.proofs.lemmas.Bool.Decides.{nat_tests}
use Rattle.std.proofs.lemmas.List.{append-nil}
use Rattle.font_bytes.specs.declared.fault.TableFault.{TableFault}
use Rattle.font_bytes.specs.Results.{and_then}
use Rattle.font_bytes.specs.Words.{need, word}
use Rattle.font_cff.specs.Fonts.{numbers}
use Rattle.font_cff.specs.Charset.{before_sids, left_width, range_length, range_sids}

-- before some and then before others
before_before : (xs ys : List ℕ) (rest : Result (List ℕ) TableFault) → before_sids xs (before_sids ys rest) ≡ before_sids (xs ++ ys) rest
before_before xs ys (Ok r) = ap (λ zs. Ok zs) (sym (append_assoc xs ys r))
before_before xs ys (Err e) = refl

ranges_step : (table : List ℕ) (is_wide : Bool) (n at left : ℕ) → n ≢ 0 → left ≢ 0 → range_sids table is_wide n at left
    ≡ and_then (need table at (2 + left_width is_wide)) (λ _.
    before_sids (numbers (word table at) (range_length table is_wide at left))
    (range_sids table is_wide (n - 1) (at + (2 + left_width is_wide)) (left - range_length table is_wide at left)))
unfolding range_sids
ranges_step table is_wide zero at left some more = absurd (some refl)
ranges_step table is_wide (suc n) at left some more =
    let e : suc n - 1 ≡ n = omega arith in
    let t : (left == 0) ≡ false = grind (arith, nat_tests) in
    rw (t, e) refl

-- one more range
pub ranges_next : (table done : List ℕ) (is_wide : Bool) (n at left : ℕ) → n ≢ 0 → left ≢ 0 → need table at (2 + left_width is_wide) ≡ Ok tt
    → before_sids done (range_sids table is_wide n at left)
    ≡ before_sids (done ++ numbers (word table at) (range_length table is_wide at left)) (range_sids table is_wide (n - 1) (at + (2 + left_width is_wide)) (left - range_length table is_wide at left))
ranges_next table done is_wide n at left some more inside =
    rw (ranges_step table is_wide n at left some more, inside) (before_before done _ _)

-- the table ends
pub ranges_short : (table done : List ℕ) (is_wide : Bool) (n at left : ℕ) (e : TableFault) → n ≢ 0 → left ≢ 0 → need table at (2 + left_width is_wide) ≡ Err e
    → before_sids done (range_sids table is_wide n at left) ≡ Err e
ranges_short table done is_wide n at left e some more short = rw (ranges_step table is_wide n at left some more, short) refl

-- all glyphs are named
pub ranges_full : (table done : List ℕ) (is_wide : Bool) (n at left : ℕ) → left ≡ 0 → before_sids done (range_sids table is_wide n at left) ≡ Ok done
unfolding range_sids
ranges_full table done is_wide zero at left none = ap (λ xs. Ok xs) (append-nil done)
ranges_full table done is_wide (suc n) at left none = let t : (left == 0) ≡ true = grind (arith, nat_tests) in rw t (ap (λ xs. Ok xs) (append-nil done))

-- as many ranges as there are glyphs
pub ranges_over : (table done : List ℕ) (is_wide : Bool) (n at left : ℕ) → n ≡ 0 → before_sids done (range_sids table is_wide n at left) ≡ Ok done
unfolding range_sids
ranges_over table done is_wide zero at left none = ap (λ xs. Ok xs) (append-nil done)
ranges_over table done is_wide (suc n) at left none = absurd (omega arith)

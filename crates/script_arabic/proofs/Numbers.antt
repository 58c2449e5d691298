-- The sums of the widths of tiles.
use Rattle.std.proofs.Common.{ℕ, ℤ, zero, suc, pos, ◌≡◌, ◌≤◌, ◌<◌, ◌+◌, ◌-◌, ◌*◌, ◌/◌, ◌+ℤ◌, ◌-ℤ◌, ◌≤ℤ◌, ◌<ℤ◌, ap, ◌∙◌, arith}
use Rattle.std.specs.Prelude.{neg_ℤ}
use Rattle.std.proofs.lemmas.Int.{ints}
use Rattle.std.proofs.Math.Nat.{add-mul, mul-add, mul_comm, mul-div-le, lt-div-mul-add}
use Rattle.script_arabic.specs.declared.tile.Tile.{Tile}
use Rattle.script_arabic.specs.TilePositions.{copy_begin}

first_step : (x : ℤ) (w o : ℕ) → x -ℤ pos w ≡ x +ℤ pos (0 * o) -ℤ pos ((0 + 1) * w)
first_step x w o = omega (arith, ints)

next_step : (x a : ℤ) (n w o : ℕ) → a ≡ x +ℤ pos (n * o) -ℤ pos ((n + 1) * w) → a -ℤ pos w +ℤ pos o ≡ x +ℤ pos (suc n * o) -ℤ pos ((suc n + 1) * w)
next_step x a n w o e =
    let one : suc n ≡ n + 1 = omega arith in
    let p : suc n * o ≡ n * o + 1 * o = ap (λ m. m * o) one ∙ add-mul n 1 o in
    let q : (suc n + 1) * w ≡ (n + 1) * w + 1 * w = ap (λ m. (m + 1) * w) one ∙ add-mul (n + 1) 1 w in
    omega (arith, ints, e, p, q)

pub copies_begin : (t : Tile) (x : ℤ) (n w o : ℕ) → t.width ≡ pos w → t.overlap ≡ pos o → copy_begin t x n ≡ x +ℤ pos (n * o) -ℤ pos ((n + 1) * w)
copies_begin t x zero w o e f = ap (λ y. x -ℤ y) e ∙ first_step x w o
copies_begin t x (suc n) w o e f =
    let h = copies_begin t x n w o e f in
    ap (λ y. copy_begin t x n -ℤ y +ℤ t.overlap) e ∙ ap (λ y. copy_begin t x n -ℤ pos w +ℤ y) f ∙ next_step x (copy_begin t x n) n w o h

-- the begin of tiles to the left, with that many tiles of a width more
pub grown : (b x : ℤ) (c n o w f r : ℕ) → x ≡ pos (c * n * o) -ℤ pos (f + (c + 1) * r) → b ≡ x +ℤ pos (c * o) -ℤ pos ((c + 1) * w) → b ≡ pos (c * (n + 1) * o) -ℤ pos (f + (c + 1) * (r + w))
grown b x c n o w f r e g =
    let p : c * (n + 1) * o ≡ c * n * o + c * o = ap (λ m. m * o) (mul-add c n 1) ∙ add-mul (c * n) (c * 1) o ∙ ap (λ m. c * n * o + m * o) (let k : c * 1 ≡ c = omega arith in k) in
    let q : (c + 1) * (r + w) ≡ (c + 1) * r + (c + 1) * w = mul-add (c + 1) r w in
    omega (arith, ints, e, g, p, q)

pub fixed_grown : (b x : ℤ) (c n o w f r : ℕ) → x ≡ pos (c * n * o) -ℤ pos (f + (c + 1) * r) → b ≡ x -ℤ pos w → b ≡ pos (c * n * o) -ℤ pos (f + w + (c + 1) * r)
fixed_grown b x c n o w f r e g = omega (arith, ints, e, g)

-- the whole width
pub record IsBetween (word width : ℤ) (count : ℕ) : Type 0 where
  pub enough : word ≤ℤ width
  pub little : width <ℤ (word +ℤ pos count)

pub between : (word b : ℤ) (left f r c n o k : ℕ) → word ≡ pos (left + f) → left ≤ (c + 1) * r → 0 < c * n → k ≡ (c + 1) * r - left → o ≡ k / (c * n) → b ≡ pos (c * n * o) -ℤ pos (f + (c + 1) * r) → IsBetween word (neg_ℤ b) (c * n)
between word b left f r c n o k e le some is share at =
    let p : c * n * o ≤ k = (let m = mul-div-le k (c * n) in let s : c * n * o ≡ c * n * (k / (c * n)) = ap (λ m. c * n * m) share in omega (arith, m, s)) in
    let q : k < c * n * o + c * n = (let m : k < k / (c * n) * (c * n) + c * n = lt-div-mul-add some in let s : c * n * o ≡ k / (c * n) * (c * n) = ap (λ m. c * n * m) share ∙ mul_comm (c * n) (k / (c * n)) in omega (arith, m, s)) in
    record { enough = omega (arith, ints, e, le, is, at, p); little = omega (arith, ints, e, le, is, at, q) }

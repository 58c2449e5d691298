-- Offsets that wrap to 32 bits.
use Rattle.std.proofs.Common.{ℕ, ℤ, suc, ◌≡◌, ◌+◌, ◌-ℤ◌, sym, ap, ◌∙◌, SFits, arith, to_z, of_z, ◌%◌, ◌-◌}
use Rattle.std.specs.Prelude.{neg_ℤ}
use Rattle.std.specs.Int.{int_wrap, int_wrapping_add, int_wrapping_sub, w32}
use Rattle.std.proofs.lemmas.Int.{SFits-int_wrap, int_wrap-add_left, of_z-to_z, to_z-of_z, wrapping_add_is, wrapping_sub_is}
use Rattle.script_arabic.specs.declared.tile.Tile.{Tile}
use Rattle.script_arabic.specs.TilePositions.{copy_begin}

pub first_is : (t : Tile) (x at : ℤ) → SFits w32 x → SFits w32 t.width → x ≡ int_wrap w32 at → int_wrapping_sub w32 x t.width ≡ int_wrap w32 (copy_begin t at 0)
first_is t x at f g e = wrapping_sub_is w32 x t.width f g ∙ ap (λ y. int_wrap w32 (y -ℤ t.width)) e ∙ int_wrap-add_left w32 at (neg_ℤ t.width)

next_whole : (t : Tile) (x at : ℤ) (n : ℕ) → SFits w32 x → SFits w32 t.width → SFits w32 t.overlap → x ≡ int_wrap w32 (copy_begin t at n)
    → int_wrapping_add w32 (int_wrapping_sub w32 x t.width) t.overlap ≡ int_wrap w32 (copy_begin t at (n + 1))
next_whole t x at n f g h e =
    let b = copy_begin t at n in
    let left : int_wrapping_sub w32 x t.width ≡ int_wrap w32 (b -ℤ t.width) = wrapping_sub_is w32 x t.width f g ∙ ap (λ y. int_wrap w32 (y -ℤ t.width)) e ∙ int_wrap-add_left w32 b (neg_ℤ t.width) in
    let one : n + 1 ≡ suc n = omega arith in
    ap (λ y. int_wrapping_add w32 y t.overlap) left
    ∙ wrapping_add_is w32 (int_wrap w32 (b -ℤ t.width)) t.overlap (SFits-int_wrap w32 (b -ℤ t.width)) h
    ∙ int_wrap-add_left w32 (b -ℤ t.width) t.overlap
    ∙ ap (λ m. int_wrap w32 (copy_begin t at m)) (sym one)

pub next_is : (t : Tile) (x at : ℤ) (n : ℕ) → SFits w32 x → SFits w32 t.width → SFits w32 t.overlap → x ≡ int_wrap w32 (copy_begin t at n)
    → to_z w32 (((of_z w32 x + (4294967296 - of_z w32 t.width)) % 4294967296 + of_z w32 t.overlap) % 4294967296) ≡ int_wrap w32 (copy_begin t at (n + 1))
next_is t x at n f g h e =
    let m = (of_z w32 x + (4294967296 - of_z w32 t.width)) % 4294967296 in
    ap (λ k. to_z w32 ((k + of_z w32 t.overlap) % 4294967296)) (sym (of_z-to_z w32 m (omega arith))) ∙ next_whole t x at n f g h e

-- a number of 32 bits is what its bits are
pub back : (x at : ℤ) → x ≡ int_wrap w32 at → to_z w32 (of_z w32 x) ≡ int_wrap w32 at
back x at e = ap (λ y. to_z w32 (of_z w32 y)) e ∙ to_z-of_z w32 (int_wrap w32 at) (SFits-int_wrap w32 at)

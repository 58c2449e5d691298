-- The property word and the scratch flags of a character that is no default ignorable.
use Rattle.std.proofs.Common.{ℕ, ◌≡◌, ◌≤◌, ◌+◌, ◌==◌, Bool, nat_le, true, false, ◌||◌, List, ◌∷◌, drop, refl, ap, arith}
use Rattle.std.proofs.lemmas.Bool.Decides.{nat_tests}
use Rattle.std.proofs.lemmas.Bool.{or_parts}
use Rattle.std.specs.List.{list_any}
use Rattle.unicode.specs.GeneralCategory.{general_category}
use Rattle.buffer_unicode.specs.Category.{category_number}
use Rattle.buffer_unicode.specs.Character.{default_ignorable_ranges, is_default_ignorable_character, is_in_range}
use Rattle.buffer_properties.specs.Properties.{bit_if, is_hidden_character, properties_of, scratch_flags_of}

-- a test that fails on a list fails on its first element and on the others
first_fails : (u : ℕ) (r : ℕ × ℕ) (rs : List (ℕ × ℕ)) → list_any (is_in_range u) (r ∷ rs) ≡ false → (is_in_range u r ≡ false) × (list_any (is_in_range u) rs ≡ false)
first_fails u r rs e = or_parts (is_in_range u r) (list_any (is_in_range u) rs) e

-- a character outside a range is outside a range within it
within : (u a b c d : ℕ) → is_in_range u (a, b) ≡ false → a ≤ c → d ≤ b → is_in_range u (c, d) ≡ false
within u a b c d e le less = grind (arith, nat_tests, e, le, less)

is_not : (u a b c : ℕ) → is_in_range u (a, b) ≡ false → a ≤ c → c ≤ b → (u == c) ≡ false
is_not u a b c e le less = grind (arith, nat_tests, e, le, less)

-- what a character that is no default ignorable is not
record IsPlain (u : ℕ) : Type 0 where
  pub hidden : is_hidden_character u ≡ false
  pub joiner : (u == 0x200D) ≡ false
  pub non_joiner : (u == 0x200C) ≡ false
  pub grapheme_joiner : (u == 0x034F) ≡ false

all_four : (a b c d : Bool) → a ≡ false → b ≡ false → c ≡ false → d ≡ false → (a || (b || (c || (d || false)))) ≡ false
all_four a b c d e f g h = rw e (rw f (rw g (rw h refl)))

-- a character that is no default ignorable is not hidden and no joiner
plain_of : (u : ℕ) → is_default_ignorable_character u ≡ false → IsPlain u
plain_of u e =
    let r1 = first_fails u (0x00AD, 0x00AD) (drop 1 default_ignorable_ranges) e in
    let r2 = first_fails u (0x034F, 0x034F) (drop 2 default_ignorable_ranges) r1.1 in
    let r3 = first_fails u (0x061C, 0x061C) (drop 3 default_ignorable_ranges) r2.1 in
    let r4 = first_fails u (0x17B4, 0x17B5) (drop 4 default_ignorable_ranges) r3.1 in
    let r5 = first_fails u (0x180B, 0x180F) (drop 5 default_ignorable_ranges) r4.1 in
    let r6 = first_fails u (0x200B, 0x200F) (drop 6 default_ignorable_ranges) r5.1 in
    let r7 = first_fails u (0x202A, 0x202E) (drop 7 default_ignorable_ranges) r6.1 in
    let r8 = first_fails u (0x2060, 0x206F) (drop 8 default_ignorable_ranges) r7.1 in
    let r9 = first_fails u (0xFE00, 0xFE0F) (drop 9 default_ignorable_ranges) r8.1 in
    let r10 = first_fails u (0xFEFF, 0xFEFF) (drop 10 default_ignorable_ranges) r9.1 in
    let r11 = first_fails u (0xFFF0, 0xFFF8) (drop 11 default_ignorable_ranges) r10.1 in
    let r12 = first_fails u (0x1D173, 0x1D17A) (drop 12 default_ignorable_ranges) r11.1 in
    let r13 = first_fails u (0xE0000, 0xE0FFF) (drop 13 default_ignorable_ranges) r12.1 in
    record {
      hidden = all_four _ _ _ _
          (within u 0x180B 0x180F 0x180B 0x180D r5.0 (omega arith) (omega arith))
          (within u 0x180B 0x180F 0x180F 0x180F r5.0 (omega arith) (omega arith))
          (within u 0xE0000 0xE0FFF 0xE0020 0xE007F r13.0 (omega arith) (omega arith))
          (within u 0x034F 0x034F 0x034F 0x034F r2.0 (omega arith) (omega arith));
      joiner = is_not u 0x200B 0x200F 0x200D r6.0 (omega arith) (omega arith);
      non_joiner = is_not u 0x200B 0x200F 0x200C r6.0 (omega arith) (omega arith);
      grapheme_joiner = is_not u 0x034F 0x034F 0x034F r2.0 (omega arith) (omega arith);
    }

no_bits : (n : ℕ) (i h j k : Bool) → i ≡ false → h ≡ false → j ≡ false → k ≡ false → n + (bit_if i 0x20 + (bit_if h 0x40 + (bit_if j 0x100 + bit_if k 0x200))) ≡ n
no_bits n i h j k e f g l = rw e (rw f (rw g (rw l (omega arith))))

-- the property word of a character that is no default ignorable is its category
pub plain_word : (u : ℕ) → is_default_ignorable_character u ≡ false → properties_of u ≡ category_number (general_category u)
unfolding properties_of
plain_word u e = let o = plain_of u e in no_bits (category_number (general_category u)) _ _ _ _ e o.hidden o.joiner o.non_joiner

flags_left : (n : ℕ) (i j : Bool) → i ≡ false → j ≡ false → n + (bit_if i 2 + bit_if j 16) ≡ n
flags_left n i j e f = rw e (rw f (omega arith))

-- the scratch flags of a character that is no default ignorable
pub plain_flags : (u : ℕ) → is_default_ignorable_character u ≡ false → scratch_flags_of u ≡ bit_if (nat_le 0x80 u) 1
plain_flags u e = let o = plain_of u e in flags_left (bit_if (nat_le 0x80 u) 1) _ _ e o.grapheme_joiner

-- the scratch flags of a default ignorable
pub ignorable_flags : (u : ℕ) → is_default_ignorable_character u ≡ true → scratch_flags_of u ≡ bit_if (nat_le 0x80 u) 1 + (2 + bit_if (u == 0x034F) 16)
ignorable_flags u e = ap (λ b. bit_if (nat_le 0x80 u) 1 + (bit_if b 2 + bit_if (u == 0x034F) 16)) e

-- The rules keep the length of a syllable.
use Rattle.std.proofs.Common.{ℕ, suc, ◌≡◌, ◌≤◌, ◌+◌, ◌==◌, Bool, true, false, if◌then◌else◌, List, [], ◌∷◌, length, Some, None, refl, ap, arith}
use Rattle.std.specs.Prelude.{min, not}
use Rattle.script_categories.specs.declared.category.TheConstants as category
use Rattle.buffer_glyphs.specs.Items.{Item}
use Rattle.buffer_glyphs.specs.LigatureWords.{is_substituted}
use Rattle.buffer_stages.specs.Parts.{items_with_features}
use Rattle.buffer_stages.specs.Lemmas.Parts.{masked_size, within_size}
use Rattle.script_syllabic.specs.Features.{has_feature, pref_recorded, with_first_recorded, reph_size, rphf_masked, rphf_recorded, with_category}

pub reph_within : (xs : List Item) → reph_size xs ≤ length xs
reph_within [] = omega arith
reph_within (x ∷ xs) = by_first (x.category == category.R)
  where
    by_first : (t : Bool) → (if t then 1 else min 3 (1 + length xs)) ≤ suc (length xs)
    by_first true = omega arith
    by_first false = omega arith

pub rphf_keeps : (mask : ℕ) (xs : List Item) → length (rphf_masked mask xs).items ≡ length xs
rphf_keeps mask xs = within_size (items_with_features mask) 0 (reph_size xs) xs (masked_size mask) (omega arith) (reph_within xs)

recorded_size : (test : Item → Bool) (c : ℕ) (xs : List Item) → length (with_first_recorded test c xs) ≡ length xs
recorded_size test c [] = refl
recorded_size test c (x ∷ xs) = by_tests (recorded_size test c xs) (test x) (is_substituted x)
  where
    by_tests : length (with_first_recorded test c xs) ≡ length xs → (s t : Bool) → length (if not s then x ∷ xs else if t then with_category c x ∷ xs else x ∷ with_first_recorded test c xs) ≡ suc (length xs)
    by_tests later true true = refl
    by_tests later true false = ap suc later
    by_tests later false t = refl

pub rphf_recorded_size : (mask : ℕ) (xs : List Item) → length (rphf_recorded mask xs).items ≡ length xs
rphf_recorded_size mask xs = recorded_size (has_feature (Some mask)) category.R xs

pub pref_recorded_size : (xs : List Item) → length (pref_recorded xs).items ≡ length xs
pref_recorded_size xs = recorded_size (has_feature None) category.VPre xs

-- A syllable has as many positions as categories.
use Rattle.std.proofs.Common.{ℕ, suc, ◌≡◌, ◌≤◌, ◌==◌, ◌&&◌, Bool, true, false, if◌then◌else◌, List, [], ◌∷◌, length, drop, refl, ap, ◌∙◌, arith}
use Rattle.std.specs.Prelude.{not, replicate}
use Rattle.std.specs.List.{list_any, position_or_len}
use Rattle.std.proofs.lemmas.List.{length-append, length-drop, length-replicate}
use Rattle.std.proofs.lemmas.List.Sums.{prefix_len-le-length}
use Rattle.script_categories.specs.declared.ot_category_t.TheConstants as category
use Rattle.script_categories.specs.declared.ot_position_t.TheConstants as position
use Rattle.script_myanmar.specs.Myanmar.{base_of, positions_by_base, from_base, is_base, kinzi, myanmar_positions, position_after, position_of, positions_after}

pub after_size : (now before : ℕ) (cs : List ℕ) → length (positions_after now before cs) ≡ length cs
after_size now before [] = refl
after_size now before (c ∷ cs) = ap suc (after_size (position_after now c) (position_of now before c) cs)

from_base_size : (cs : List ℕ) → length (from_base cs) ≡ length cs
from_base_size [] = refl
from_base_size (c ∷ cs) = ap suc (after_size position.POS_AFTER_MAIN position.POS_BASE_C cs)

pub base_within : (cs : List ℕ) → base_of cs ≤ length cs
base_within cs = by_test (list_any is_base cs)
  where
    by_test : (t : Bool) → (if t then position_or_len is_base cs else 0) ≤ length cs
    by_test true = prefix_len-le-length (λ c. not (is_base c)) cs
    by_test false = omega arith

pub kinzi_within : (cs : List ℕ) → kinzi cs ≤ length cs
kinzi_within [] = omega arith
kinzi_within (a ∷ []) = omega arith
kinzi_within (a ∷ b ∷ []) = omega arith
kinzi_within (a ∷ b ∷ c ∷ cs) = by_test (a == category.OT_Ra && b == category.OT_As && c == category.OT_H)
  where
    by_test : (t : Bool) → (if t then 3 else 0) ≤ length (a ∷ b ∷ c ∷ cs)
    by_test true = omega arith
    by_test false = omega arith

pub based_size : (cs : List ℕ) → length (positions_by_base cs) ≡ length cs
based_size cs = length-append (replicate (base_of cs) position.POS_PRE_C) (from_base (drop (base_of cs) cs))
    ∙ omega (arith, length-replicate (base_of cs) position.POS_PRE_C, from_base_size (drop (base_of cs) cs), length-drop (base_of cs) cs, base_within cs)

pub positions_size : (cs : List ℕ) → length (myanmar_positions cs) ≡ length cs
positions_size cs = length-append (replicate (kinzi cs) position.POS_AFTER_MAIN) (positions_by_base (drop (kinzi cs) cs))
    ∙ omega (arith, length-replicate (kinzi cs) position.POS_AFTER_MAIN, based_size (drop (kinzi cs) cs), length-drop (kinzi cs) cs, kinzi_within cs)

-- Chains of decompositions for the Indic shaper end where Unicode's end.
use Rattle.std.proofs.Common.{ℕ, zero, suc, ◌≡◌, ◌==◌, Bool, true, false, if◌then◌else◌, Option, None, Some, refl}
use Rattle.std.specs.Prelude.{is_none}
use Rattle.std.specs.List.{list_any}
use Rattle.buffer_unicode_tables.specs.Expansion.{EndWithin, ends_by, ends_within}
use Rattle.buffer_unicode_tables.specs.Tables.{Tables, split_of}
use Rattle.script_indic.specs.Characters.{indic_split, whole_letters}
use Rattle.buffer_unicode_tables.proofs.Chains.{ends_by_more as more_end}

chain_ends : (t : Tables) (depth u : ℕ) → ends_within (split_of t) depth u ≡ true → ends_within (indic_split t) depth u ≡ true
unfolding ends_within
chain_ends t zero u e = by_test (list_any (λ v. u == v) whole_letters)
  where
    by_test : (whole : Bool) → is_none (if whole then None else split_of t u) ≡ true
    by_test true = refl
    by_test false = e
chain_ends t (suc depth) u e = by_test (chain_ends t depth) (list_any (λ v. u == v) whole_letters)
  where
    by_test : ((a : ℕ) → ends_within (split_of t) depth a ≡ true → ends_within (indic_split t) depth a ≡ true) → (whole : Bool) → ends_by (ends_within (indic_split t) depth) (if whole then None else split_of t u) ≡ true
    by_test more true = refl
    by_test more false = more_end (ends_within (split_of t) depth) (ends_within (indic_split t) depth) more (split_of t u) e

-- chains of decompositions of the Indic shaper end within a depth where Unicode's do
pub indic_splits_end : (t : Tables) (depth : ℕ) → EndWithin (split_of t) depth → EndWithin (indic_split t) depth
indic_splits_end t depth e = λ u. chain_ends t depth u (e u)

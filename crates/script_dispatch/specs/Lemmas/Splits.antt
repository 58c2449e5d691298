-- Chains of first halves end, as each shaper decomposes characters.
use Rattle.std.proofs.Common.{ℕ, zero, suc, ◌≡◌, ◌==◌, Bool, true, false, if◌then◌else◌, None, Some, refl}
use Rattle.std.specs.Prelude.{⊤}
use Rattle.std.specs.List.{list_any}
use Rattle.buffer_unicode_tables.specs.Expansion.{EndWithin, ends_by, ends_within}
use Rattle.buffer_unicode_tables.specs.Tables.{Tables, split_of}
use Rattle.script_plan.specs.declared.plan.hb_script_plan_t.{hb_script_plan_t}
use Rattle.script_plan.specs.Lemmas.Unchanged.{nine_splits}
use Rattle.script_categories.specs.declared.shaper.hb_ot_script_shaper_t.{hb_ot_script_shaper_t}
use Rattle.script_categories.specs.declared.shaper.hb_ot_script_shaper_t.TheVariants.{ARABIC_SHAPER, HANGUL_SHAPER, HEBREW_SHAPER, INDIC_SHAPER, KHMER_SHAPER, MYANMAR_SHAPER, MYANMAR_ZAWGYI_SHAPER, THAI_SHAPER, UNIVERSAL_SHAPER}
use Rattle.script_indic.specs.Characters.{indic_split}
use Rattle.script_indic.proofs.Splits.{indic_splits_end}
use Rattle.script_khmer.specs.Khmer.{LEFT_PART, khmer_split, split_vowels}
use Rattle.script_dispatch.specs.Hooks.{splits_by}
use Rattle.script_dispatch.specs.declared.any_shaper.hb_ot_any_shaper_t.{hb_ot_any_shaper_t}
use Rattle.script_dispatch.specs.declared.any_shaper.hb_ot_any_shaper_t.TheVariants as any
use Rattle.script_dispatch.specs.Rules.{rules_of}
use Rattle.buffer_unicode_tables.proofs.Chains.{ends_by_more as by_more, no_split_ends as none_more}

-- the left half of a Khmer vowel has no decomposition
left_ends : (t : Tables) (depth : ℕ) → ends_within (khmer_split t) depth LEFT_PART ≡ true
unfolding ends_within
left_ends t zero = refl
left_ends t (suc depth) = refl

-- a chain that ends within some decompositions in Unicode ends within one more
khmer_more : (t : Tables) (depth u : ℕ) → ends_within (split_of t) depth u ≡ true → ends_within (khmer_split t) (suc depth) u ≡ true
unfolding ends_within
khmer_more t zero u h = by_tests (u == LEFT_PART) (list_any (λ v. u == v) split_vowels)
  where
    by_tests : (left vowel : Bool) → ends_by (ends_within (khmer_split t) zero) (if left then None else if vowel then Some (LEFT_PART, u) else split_of t u) ≡ true
    by_tests true vowel = refl
    by_tests false true = left_ends t zero
    by_tests false false = none_more (ends_within (khmer_split t) zero) (split_of t u) h
khmer_more t (suc depth) u h = by_tests (khmer_more t depth) (u == LEFT_PART) (list_any (λ v. u == v) split_vowels)
  where
    by_tests : ((a : ℕ) → ends_within (split_of t) depth a ≡ true → ends_within (khmer_split t) (suc depth) a ≡ true) → (left vowel : Bool) → ends_by (ends_within (khmer_split t) (suc depth)) (if left then None else if vowel then Some (LEFT_PART, u) else split_of t u) ≡ true
    by_tests more true vowel = refl
    by_tests more false true = left_ends t (suc depth)
    by_tests more false false = by_more (ends_within (split_of t) depth) (ends_within (khmer_split t) (suc depth)) more (split_of t u) h

by_shaper : (shaper : hb_ot_script_shaper_t) (t : Tables) → EndWithin (split_of t) 8 → EndWithin (splits_by shaper t) 9
by_shaper KHMER_SHAPER t e = λ u. khmer_more t 8 u (e u)
by_shaper ARABIC_SHAPER t e = nine_splits (split_of t) e
by_shaper HANGUL_SHAPER t e = nine_splits (split_of t) e
by_shaper HEBREW_SHAPER t e = nine_splits (split_of t) e
by_shaper INDIC_SHAPER t e = nine_splits (indic_split t) (indic_splits_end t 8 e)
by_shaper MYANMAR_SHAPER t e = nine_splits (split_of t) e
by_shaper MYANMAR_ZAWGYI_SHAPER t e = nine_splits (split_of t) e
by_shaper THAI_SHAPER t e = nine_splits (split_of t) e
by_shaper UNIVERSAL_SHAPER t e = nine_splits (split_of t) e

pub splits_end : (shaper : hb_ot_any_shaper_t) (plan : hb_script_plan_t ⊤) (t : Tables) → EndWithin (split_of t) 8 → EndWithin ((rules_of shaper plan).splits t) 9
splits_end any.Default plan t e = nine_splits (split_of t) e
splits_end any.Dumber plan t e = nine_splits (split_of t) e
splits_end (any.Script shaper) plan t e = by_shaper shaper t e

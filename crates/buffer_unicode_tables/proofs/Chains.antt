-- Chains of first halves.
use Rattle.std.proofs.Common.{ℕ, zero, suc, ◌≡◌, ◌≢◌, ◌+◌, ◌-◌, ◌*◌, ◌/◌, ◌%◌, ◌<◌, ◌≤◌, ◌==◌, Bool, true, false, MatchBool, List, [], ◌∷◌, ◌++◌, append_assoc, ne_eqb, eq-eqb, Option, Some, None, is_none, option_map, refl, sym, ◌∙◌, arith, inl, inr, eqb-true}
use Rattle.std.proofs.lemmas.Bool.{and_parts, and_cases, cond_both, cases_eq, cases_Bool}
use Rattle.std.specs.List.{list_all, find}
use Rattle.buffer_unicode.specs.declared.rows.Split.{Split}
use Rattle.buffer_unicode_tables.specs.Expansion.{Splits, with_second_piece, expansion_by_splits, ends_within, ends_by, EndWithin, HasDeepChain}
use Rattle.buffer_unicode_tables.specs.Hangul.{is_syllable, hangul_split}
use Rattle.buffer_unicode_tables.specs.Ranges.{AllAmong, SomeAmong}
use Rattle.buffer_unicode_tables.specs.Tables.{splits_of}
use Rattle.buffer_unicode_tables.proofs.Syllables.{among_bounds, no_split_without_syllable, split_without_trailing, split_with_trailing}
use Rattle.buffer_unicode.proofs.Searches.{find_passes}

pub ends_without_split : (splits : Splits) (depth u : ℕ) → splits u ≡ None → ends_within splits depth u ≡ true
unfolding ends_within
ends_without_split splits zero u h = rw h refl
ends_without_split splits (suc depth) u h = rw h refl

pub ends_not_at_zero : (splits : Splits) (depth u a b : ℕ) → splits u ≡ Some (a, b) → depth ≡ 0 → ends_within splits depth u ≡ false
unfolding ends_within
ends_not_at_zero splits zero u a b h e = rw h refl
ends_not_at_zero splits (suc depth) u a b h e = absurd (omega (arith, e))

pub ends_with_first : (splits : Splits) (depth u a b : ℕ) → splits u ≡ Some (a, b) → depth ≢ 0 → ends_within splits depth u ≡ ends_within splits (depth - 1) a
unfolding ends_within
ends_with_first splits zero u a b h n = absurd (n refl)
ends_with_first splits (suc depth) u a b h n =
    let e : suc depth - 1 ≡ depth = omega arith in
    rw (h, e) refl

pub ends_by_more : (e f : ℕ → Bool) → ((a : ℕ) → e a ≡ true → f a ≡ true) → (s : Option (ℕ × ℕ)) → ends_by e s ≡ true → ends_by f s ≡ true
ends_by_more e f more None h = refl
ends_by_more e f more (Some (a, b)) h = more a h

pub no_split_ends : (e : ℕ → Bool) (s : Option (ℕ × ℕ)) → is_none s ≡ true → ends_by e s ≡ true
no_split_ends e None h = refl
no_split_ends e (Some (a, b)) h = cc

-- a chain that ends within some splits ends within more
pub ends_more : (splits : Splits) (depth u : ℕ) → ends_within splits depth u ≡ true → ends_within splits (suc depth) u ≡ true
unfolding ends_within
ends_more splits zero u h = no_split_ends (ends_within splits zero) (splits u) h
ends_more splits (suc depth) u h = ends_by_more (ends_within splits depth) (ends_within splits (suc depth)) (ends_more splits depth) (splits u) h

syllable_splits : (splits : List Split) (u a b : ℕ) → hangul_split u ≡ Some (a, b) → splits_of splits u ≡ Some (a, b)
syllable_splits splits u a b h = rw h refl

without_trailing : (splits : List Split) (depth s : ℕ) → 0xAC00 ≤ s → s < 0xD7A4 → (s - 0xAC00) % 28 ≡ 0
    → ends_within (splits_of splits) (suc depth) s ≡ ends_within (splits_of splits) depth (0x1100 + (s - 0xAC00) / 588)
without_trailing splits depth s low high bare =
    let e : suc depth - 1 ≡ depth = omega arith in
    let step = ends_with_first (splits_of splits) (suc depth) s _ _ (syllable_splits splits s _ _ (split_without_trailing s low high bare)) (omega arith) in
    rw e at step

with_trailing : (splits : List Split) (depth s : ℕ) → 0xAC00 ≤ s → s < 0xD7A4 → (s - 0xAC00) % 28 ≢ 0
    → ends_within (splits_of splits) (suc depth) s ≡ ends_within (splits_of splits) depth (s - (s - 0xAC00) % 28)
with_trailing splits depth s low high some =
    let e : suc depth - 1 ≡ depth = omega arith in
    let step = ends_with_first (splits_of splits) (suc depth) s _ _ (syllable_splits splits s _ _ (split_with_trailing s low high some)) (omega arith) in
    rw e at step

-- a syllable ends where its leading consonant does, two splits later
syllable_ends : (splits : List Split) (s : ℕ) → 0xAC00 ≤ s → s < 0xD7A4 → AllAmong 0x1100 19 (ends_within (splits_of splits) 6) → ends_within (splits_of splits) 8 s ≡ true
syllable_ends splits s low high leading =
    elim (cases_eq ((s - 0xAC00) % 28) 0) [
      | inl bare ↦ without_trailing splits 7 s low high bare ∙ ends_more (splits_of splits) 6 _ (leading (0x1100 + (s - 0xAC00) / 588) (omega arith) (omega arith))
      | inr some ↦
          let front = s - (s - 0xAC00) % 28 in
          with_trailing splits 7 s low high some
          ∙ (without_trailing splits 6 (s - (s - 0xAC00) % 28) (omega arith) (omega arith) (omega arith)
          ∙ leading (0x1100 + (s - (s - 0xAC00) % 28 - 0xAC00) / 588) (omega arith) (omega arith))
    ]

table_ends : (splits rows : List Split) (u : ℕ) → list_all (λ (r : Split). ends_within (splits_of splits) 8 r.whole) rows ≡ true → hangul_split u ≡ None → (o : Option Split) → o ≡ find (λ (r : Split). r.whole == u) rows
    → splits_of splits u ≡ option_map (λ (r : Split). (r.first, r.second)) o → ends_within (splits_of splits) 8 u ≡ true
table_ends splits rows u h none None e s = ends_without_split (splits_of splits) 8 u s
table_ends splits rows u h none (Some r) e s =
    let found = find_passes (λ (r : Split). r.whole == u) (λ (r : Split). ends_within (splits_of splits) 8 r.whole) rows r (sym e) h in
    let at : r.whole ≡ u = eqb-true r.whole u found.0 in
    rw at at found.1

-- where the chains from the rows and from the leading consonants end, all do
pub all_end : (splits : List Split) → list_all (λ (r : Split). ends_within (splits_of splits) 8 r.whole) splits ≡ true → AllAmong 0x1100 19 (ends_within (splits_of splits) 6) → EndWithin (splits_of splits) 8
all_end splits rows leading u =
    elim (cases_Bool (is_syllable u)) [
      | inl syllable ↦ let bounds = among_bounds 0xAC00 11172 u syllable in syllable_ends splits u bounds.0 bounds.1 leading
      | inr other ↦
          let none = no_split_without_syllable u other in
          table_ends splits splits u rows none (find (λ (r : Split). r.whole == u) splits) refl (rw none refl)
    ]

-- a row from which the chain does not end
pub row_is_deep : (splits rows : List Split) → list_all (λ (r : Split). ends_within (splits_of splits) 8 r.whole) rows ≡ false → HasDeepChain (splits_of splits) 8
row_is_deep splits [] h = cc
row_is_deep splits (r ∷ rs) h =
    elim (and_cases (ends_within (splits_of splits) 8 r.whole) (list_all (λ (r : Split). ends_within (splits_of splits) 8 r.whole) rs) h) [
      | inl here ↦ (r.whole, here)
      | inr later ↦ row_is_deep splits rs later
    ]

-- a leading consonant from which the chain does not end in time, and so a syllable that begins with it
pub syllable_is_deep : (splits : List Split) → SomeAmong 0x1100 19 (λ l. ends_within (splits_of splits) 6 l ≡ false) → HasDeepChain (splits_of splits) 8
syllable_is_deep splits (l, (low, high, deep)) =
    let s = 0xAC00 + (l - 0x1100) * 588 + 1 in
    let leading : 0x1100 + (0xAC00 + (l - 0x1100) * 588 + 1 - (0xAC00 + (l - 0x1100) * 588 + 1 - 0xAC00) % 28 - 0xAC00) / 588 ≡ l = omega arith in (
      s,
      with_trailing splits 7 (0xAC00 + (l - 0x1100) * 588 + 1) (omega arith) (omega arith) (omega arith)
          ∙ (without_trailing splits 6 (0xAC00 + (l - 0x1100) * 588 + 1 - (0xAC00 + (l - 0x1100) * 588 + 1 - 0xAC00) % 28) (omega arith) (omega arith) (omega arith)
          ∙ rw leading deep),
    )

pub ends_or_not : (splits : List Split) (leading : Bool) → list_all (λ (r : Split). ends_within (splits_of splits) 8 r.whole) splits ≡ true
    → MatchBool leading (AllAmong 0x1100 19 (ends_within (splits_of splits) 6)) (SomeAmong 0x1100 19 (λ l. ends_within (splits_of splits) 6 l ≡ false))
    → MatchBool leading (EndWithin (splits_of splits) 8) (HasDeepChain (splits_of splits) 8)
ends_or_not splits true rows leading = all_end splits rows leading
ends_or_not splits false rows leading = syllable_is_deep splits leading

pub expanded_at_zero : (splits : Splits) (depth u : ℕ) → depth ≡ 0 → expansion_by_splits splits depth u ≡ u ∷ []
unfolding expansion_by_splits
expanded_at_zero splits zero u e = refl
expanded_at_zero splits (suc depth) u e = absurd (omega (arith, e))

pub expanded_alone : (splits : Splits) (depth u : ℕ) → splits u ≡ None → expansion_by_splits splits depth u ≡ u ∷ []
unfolding expansion_by_splits
expanded_alone splits zero u h = refl
expanded_alone splits (suc depth) u h = rw h refl

pub expanded_pieces : (splits : Splits) (depth u a b : ℕ) → splits u ≡ Some (a, b) → depth ≢ 0 → expansion_by_splits splits depth u ≡ with_second_piece b (expansion_by_splits splits (depth - 1) a)
unfolding expansion_by_splits
expanded_pieces splits zero u a b h n = absurd (n refl)
expanded_pieces splits (suc depth) u a b h n =
    let e : suc depth - 1 ≡ depth = omega arith in
    rw (h, e) refl

pub with_second : (splits : Splits) (depth u a b : ℕ) (old mid new : List ℕ) → splits u ≡ Some (a, b) → depth ≢ 0 → b ≢ 0 → mid ≡ old ++ expansion_by_splits splits (depth - 1) a → new ≡ mid ++ b ∷ []
    → new ≡ old ++ expansion_by_splits splits depth u
with_second splits depth u a b old mid new h n present m e =
    let pieces = expanded_pieces splits depth u a b h n in
    let off : (b == 0) ≡ false = ne_eqb b 0 present in
    rw (e, m, pieces, off) (append_assoc old (expansion_by_splits splits (depth - 1) a) (b ∷ []))

pub without_second : (splits : Splits) (depth u a b : ℕ) (old mid : List ℕ) → splits u ≡ Some (a, b) → depth ≢ 0 → b ≡ 0 → mid ≡ old ++ expansion_by_splits splits (depth - 1) a
    → mid ≡ old ++ expansion_by_splits splits depth u
without_second splits depth u a b old mid h n absent m =
    let pieces = expanded_pieces splits depth u a b h n in
    let at : (b == 0) ≡ true = eq-eqb b 0 absent in
    rw (m, pieces, at) refl

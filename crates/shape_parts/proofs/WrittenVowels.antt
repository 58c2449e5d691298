-- Vowels of Thai and Lao whose graphemes are merged before, or once each is written.
use Rattle.std.proofs.Common.{ℕ, zero, suc, ◌≡◌, ◌≤◌, ◌<◌, ◌+◌, ◌-◌, ◌*◌, ◌==◌, ◌&&◌, ◌⊎◌, inl, inr, not, Bool, true, false, nat_le, if◌then◌else◌, List, [], ◌∷◌, ◌++◌, Ok, Err, length, take, drop, reverse, arith, refl, ap, sym, subst, ◌∙◌}
use Rattle.std.specs.Prelude.{min}
use Rattle.std.specs.Int.{bit_at}
use Rattle.std.specs.Int.RustNames.{bit_and}
use Rattle.std.specs.List.{list_any, prefix_len}
use Rattle.std.proofs.lemmas.Bool.Decides.{nat_tests}
use Rattle.std.proofs.lemmas.Grind.{common_steps}
use Rattle.std.proofs.lemmas.List.{append-nil, length-append, length-map, length-reverse, length-take, length-take-le, reverse-append}
use Rattle.std.proofs.lemmas.List.Folds.{length-prefix_len}
use Rattle.std.proofs.lemmas.Nat.Bits.{and_pow, bit_at-lt}
use Rattle.buffer_glyphs.specs.declared.cause.ShapeCause.TheVariants.{TooLong}
use Rattle.buffer_glyphs.specs.declared.level.BufferClusterLevel.{BufferClusterLevel}
use Rattle.buffer_glyphs.specs.Items.{Item}
use Rattle.buffer_glyphs.specs.Parts.{elements_replaced, range_of}
use Rattle.buffer_glyphs.specs.Levels.{InList, InOutput, manner, grapheme_manner}
use Rattle.buffer_glyphs.specs.Merges.{merged_number}
use Rattle.buffer_glyphs.specs.Origins.{Asks, Manner, Unites, Marks, Keeps, Origin, cast, numbers, origins_merged_as, with_range_arranged}
use Rattle.buffer_glyphs.specs.Events.{Event, Arrange, Merge, MergeGrapheme, Move, Replace, origins_after}
use Rattle.buffer_glyphs.specs.Lemmas.Origins.{origins_after_both}
use Rattle.buffer_parts.specs.Counts.{count_after}
use Rattle.buffer_parts.specs.Lemmas.Counts.{counts_follow}
use Rattle.buffer_parts.specs.Lemmas.Plainly.{replacement_kept}
use Rattle.buffer_core.specs.Readings.{Read, Reading, View, then_read, then_reading, with_events}
use Rattle.buffer_core.specs.Sides.{zero_positions}
use Rattle.buffer_stages.specs.Moves.{order_of_move}
use Rattle.buffer_stages.specs.Lemmas.Moves.{order_long}
use Rattle.buffer_parts.specs.Lemmas.Stages.{at_read, both_read}
use Rattle.script_syllabic.specs.Graphemes.{merges_by, with_graphemes_merged}
use Rattle.script_thai.proofs.Vowel.{vowel_long}
use Rattle.script_thai.specs.Texts.{has_private_forms, private_if}
use Rattle.script_thai.specs.ThaiPrivate.{with_private}
use Rattle.script_thai.specs.ThaiVowel.{count_above, events_of_vowel, is_mark_above, is_sara_am, marks_above, nikhahit, sara_aa, split_events, text_with_splits, thai_or_lao, vowel_rule, vowels_decomposed, with_vowel}
use Rattle.shape_parts.specs.WrittenMerges.{VowelsMergeWhereWritten, written_characters, written_vowel}
use Rattle.script_hangul.proofs.Unions.{HaveSame, IsFlagless, merges_alike, same_as, unions_alike}
use Rattle.script_hangul.proofs.Carried.{Passes, begins_at, carried_passes, doubling_carries, graphemes_flagless, have_after, have_twice, moving_passes, output_flagless, range_over, replaced_many, replaced_numbers, whole_numbers}
use Rattle.script_hangul.proofs.WrittenEvents.{AreWritten, both_written, clusters_by_requests, merge_alone, merged_unasked, merges_alone, merges_written, origins_by_requests, unasked}
use Rattle.script_thai.proofs.Counted.{last_counted}
use Rattle.buffer_stages.specs.Lemmas.Nested.{merged_length as merged_many}
use Rattle.buffer_lists.proofs.Lemmas.SortedEvents.{lone_merged as merged_alone}

-- ---- the merges before, by the character before each

-- merges of the characters from an index on, each by itself and by whether it follows one that is no mark above
abbrev merges_before : ℕ → Bool → List Item → List Event
merges_before at p [] = []
merges_before at p (x ∷ xs) = (if is_sara_am x && p then MergeGrapheme (at - 1) (at + 1) ∷ [] else []) ++ merges_before (at + 1) (not (is_mark_above x)) xs

pass_is : (at : ℕ) (x : Item) (xs : List Item) → merges_alone vowel_rule at (x ∷ xs) ≡ merges_before (at + 1) (not (is_mark_above x)) xs
pass_is at x [] = refl
pass_is at x (y ∷ ys) =
    ap (λ es. merge_alone at (vowel_rule (x ∷ y ∷ ys)) ++ es) (pass_is (at + 1) y ys) ∙ ap (λ es. es ++ merges_before (at + 1 + 1) (not (is_mark_above y)) ys) (by_test (is_sara_am y && not (is_mark_above x)))
  where
    by_test : (t : Bool) → merge_alone at (if t then 2 else 0) ≡ (if t then MergeGrapheme (at + 1 - 1) (at + 1 + 1) ∷ [] else [])
    by_test true =
        let a : at ≡ at + 1 - 1 = omega arith in
        let b : at + 2 ≡ at + 1 + 1 = omega arith in
        ap (λ i. MergeGrapheme i (at + 2) ∷ []) a ∙ ap (λ j. MergeGrapheme (at + 1 - 1) j ∷ []) b
    by_test false = refl

pass_whole : (xs : List Item) → merges_alone vowel_rule 0 xs ≡ merges_before 0 false xs
pass_whole [] = refl
pass_whole (x ∷ xs) = pass_is 0 x xs ∙ ap (λ es. es ++ merges_before (0 + 1) (not (is_mark_above x)) xs) (sym (none (is_sara_am x)))
  where
    none : (t : Bool) → (if t && false then MergeGrapheme (0 - 1) (0 + 1) ∷ [] else []) ≡ []
    none true = refl
    none false = refl

-- ---- whether a text ends with a character that is no mark above

abbrev ends_with_base : List Item → Bool
ends_with_base out = not (length out == 0) && (count_above out == 0)

base_last : (out : List Item) (x : Item) → ends_with_base (out ++ x ∷ []) ≡ not (is_mark_above x)
base_last out x =
    let long = length-append out (x ∷ []) in
    let some : (length (out ++ x ∷ []) == 0) ≡ false = grind (arith, common_steps, nat_tests, long) in
    ap (λ t. not t && (count_above (out ++ x ∷ []) == 0)) some ∙ ap (λ n. n == 0) (last_counted out x) ∙ by_test (is_mark_above x) (count_above out)
  where
    by_test : (t : Bool) (n : ℕ) → ((if t then 1 + n else 0) == 0) ≡ not t
    by_test true n = grind (arith, common_steps, nat_tests)
    by_test false n = refl

-- the number of such a vowel is that of Thai or that of Lao
vowel_number : (u : ℕ) → (thai_or_lao u == 0x0E33) ≡ true → (u ≡ 0x0E33) ⊎ (u ≡ 0x0EB3)
vowel_number u e =
    let k = bit_and u 0x80 in
    let bit : k ≡ bit_at u 7 * 128 = and_pow u 7 in
    let few = bit_at-lt u 7 in
    let is : u - k ≡ 0x0E33 = grind (arith, common_steps, e) in
    by_bit u k (bit_at u 7) bit few is
  where
    by_bit : (v k b : ℕ) → k ≡ b * 128 → b < 2 → v - k ≡ 0x0E33 → (v ≡ 0x0E33) ⊎ (v ≡ 0x0EB3)
    by_bit v k zero bit few is = inl (omega (arith, bit, is))
    by_bit v k (suc zero) bit few is = inr (omega (arith, bit, is))
    by_bit v k (suc (suc b)) bit few is = absurd (omega (arith, few))

-- a number is that of a mark above
abbrev marks : ℕ → Bool
marks u = list_any (λ m. m == thai_or_lao u) marks_above

-- neither such a vowel nor its second half is a mark above
vowel_unmarked : (x : Item) → is_sara_am x ≡ true → (is_mark_above x ≡ false) × (is_mark_above (sara_aa x) ≡ false)
vowel_unmarked x e = elim (vowel_number x.number e) [ inl thai ↦ (ap marks thai, ap (λ u. marks (u - 1)) thai) | inr lao ↦ (ap marks lao, ap (λ u. marks (u - 1)) lao) ]

base_vowel : (out : List Item) (x : Item) → is_sara_am x ≡ true → ends_with_base (with_vowel out x) ≡ not (is_mark_above x)
base_vowel out x e =
    let before = length out - count_above out in
    let none = vowel_unmarked x e in
    base_last (take before out ++ (nikhahit x ∷ drop before out)) (sara_aa x) ∙ ap not (none.1 ∙ sym none.0)

-- ---- one vowel

-- a vowel is decomposed in its cluster
decomposed : (level : BufferClusterLevel) (at : ℕ) (os : List Origin) → origins_after unasked level (Replace at 1 2 ∷ []) os ≡ elements_replaced at 1 2 os
decomposed level at os = ap (elements_replaced at 1 2) (merged_alone (manner InList level) at os)

front_long : (at : ℕ) (os : List Origin) → at ≤ length os → length (take at (numbers os)) ≡ at
front_long at os le = let n : Origin → ℕ = λ o. o.cluster in length-take-le at (numbers os) (let long = length-map os n in omega (arith, long, le))

-- the numbers of a range up to a vowel, and up to either of its halves, are the same
pub record AreDoubled (a at : ℕ) (os : List Origin) : Type 0 where
  pub old : HaveSame (range_of a (at + 1) (numbers os)) (range_of a (at + 2) (numbers (elements_replaced at 1 2 os)))
  pub new : HaveSame (range_of a (at + 1) (numbers (elements_replaced at 1 2 os))) (range_of a (at + 2) (numbers (elements_replaced at 1 2 os)))

vowel_ranges : (a at : ℕ) (os : List Origin) → a ≤ at → at + 1 ≤ length os → AreDoubled a at os
vowel_ranges a at os le fits =
    let ns = numbers os in
    let long : length ns ≡ length os = length-map os (λ (o : Origin). o.cluster) in
    let b = begins_at at ns (omega (arith, fits, long)) in
    let c = b.first in
    let front = take at ns in
    let zs = drop a front in
    let size : length front ≡ at = front_long at os (omega (arith, fits)) in
    let old : range_of a (at + 1) ns ≡ zs ++ c ∷ [] = ap (range_of a (at + 1)) (sym (whole_numbers at ns c b.rest b.is)) ∙ range_over a at 1 front (c ∷ b.rest) size le in
    let new = replaced_numbers at 2 os c b.rest b.is in
    let first : range_of a (at + 1) (numbers (elements_replaced at 1 2 os)) ≡ zs ++ c ∷ [] = ap (range_of a (at + 1)) new ∙ range_over a at 1 front (c ∷ c ∷ b.rest) size le in
    let both : range_of a (at + 2) (numbers (elements_replaced at 1 2 os)) ≡ zs ++ c ∷ c ∷ [] = ap (range_of a (at + 2)) new ∙ range_over a at 2 front (c ∷ c ∷ b.rest) size le in
    let same = have_after zs (c ∷ []) (c ∷ c ∷ []) (have_twice c []) in
    record {
      old = same_as (range_of a (at + 1) ns) (range_of a (at + 2) (numbers (elements_replaced at 1 2 os))) (zs ++ c ∷ []) (zs ++ c ∷ c ∷ []) old both same;
      new = same_as (range_of a (at + 1) (numbers (elements_replaced at 1 2 os))) (range_of a (at + 2) (numbers (elements_replaced at 1 2 os))) (zs ++ c ∷ []) (zs ++ c ∷ c ∷ []) first both same;
    }

-- a merge up to a vowel is one up to its second half
merge_doubled : (m : Manner) (a at : ℕ) (os : List Origin) → IsFlagless m → a ≤ at → at + 1 ≤ length os → elements_replaced at 1 2 (origins_merged_as m a (at + 1) os) ≡ origins_merged_as m a (at + 2) (elements_replaced at 1 2 os)
merge_doubled Unites a at os p le fits =
    let range = range_of a (at + 1) (numbers os) in
    (doubling_carries at).natural (λ (o : Origin). cast (merged_number range o.cluster) 0 o) os fits
    ∙ unions_alike range (range_of a (at + 2) (numbers (elements_replaced at 1 2 os))) (elements_replaced at 1 2 os) (vowel_ranges a at os le fits).old
merge_doubled Marks a at os p le fits = absurd p
merge_doubled Keeps a at os p le fits = refl

doubled_many : (level : BufferClusterLevel) (at : ℕ) (os : List Origin) → at + 1 ≤ length os → at + 1 ≤ length (origins_after unasked level (Replace at 1 2 ∷ []) os)
doubled_many level at os fits = let e = ap length (decomposed level at os) ∙ replaced_many at 1 2 os (omega arith) fits in omega (arith, e)

-- merges from a vowel on pass its decomposition
decomposition_passes : (level : BufferClusterLevel) (at : ℕ) → Passes (grapheme_manner level) (λ os. origins_after unasked level (Replace at 1 2 ∷ []) os) (at + 1) at (at + 1)
decomposition_passes level at i c os fits =
    let m = grapheme_manner level in
    decomposed level at (origins_merged_as m (at + i) (at + i + c) os)
    ∙ carried_passes m (elements_replaced at 1 2) (at + 1) at (at + 1) (graphemes_flagless level) (doubling_carries at) i c os fits
    ∙ ap (origins_merged_as m (at + 1 + i) (at + 1 + i + c)) (sym (decomposed level at os))

-- they pass the move of its first half
vowel_passes : (level : BufferClusterLevel) (at n : ℕ) → n ≤ at → Passes (grapheme_manner level) (λ os. origins_after unasked level (events_of_vowel at n) os) (at + 1) at (at + 1)
vowel_passes level at n le = by_test (n == 0)
  where
    by_test : (t : Bool) → Passes (grapheme_manner level) (λ os. origins_after unasked level (Replace at 1 2 ∷ (if t then [] else Move InOutput (at - n) (order_of_move n 1) ∷ [])) os) (at + 1) at (at + 1)
    by_test true = decomposition_passes level at
    by_test false = λ i c os fits.
        let order = order_of_move n 1 in
        let from = at - n in
        let end : from + length order ≡ at + 1 = let long = order_long n 1 in omega (arith, le, long) in
        ap (λ qs. with_range_arranged from order (origins_merged_as (manner InOutput level) from (from + length order) qs)) (decomposition_passes level at i c os fits)
        ∙ moving_passes (grapheme_manner level) level from (at + 1) (at + 1) order (graphemes_flagless level) end (omega arith) i c (origins_after unasked level (Replace at 1 2 ∷ []) os) (doubled_many level at os fits)

merges_pass : (level : BufferClusterLevel) (at n k : ℕ) (p : Bool) (xs : List Item) (os : List Origin) → n ≤ at → at + 1 ≤ k → at + 1 ≤ length os
    → origins_after unasked level (events_of_vowel at n) (origins_after unasked level (merges_before k p xs) os) ≡ origins_after unasked level (merges_before (k + 1) p xs) (origins_after unasked level (events_of_vowel at n) os)
merges_pass level at n k p [] os le later fits = refl
merges_pass level at n k p (x ∷ xs) os le later fits = by_test (is_sara_am x && p) (λ qs enough. merges_pass level at n (k + 1) (not (is_mark_above x)) xs qs le (omega (arith, later)) enough)
  where
    q : Bool
    q = not (is_mark_above x)

    by_test : (t : Bool)
        → ((qs : List Origin) → at + 1 ≤ length qs
        → origins_after unasked level (events_of_vowel at n) (origins_after unasked level (merges_before (k + 1) q xs) qs) ≡ origins_after unasked level (merges_before (k + 1 + 1) q xs) (origins_after unasked level (events_of_vowel at n) qs))
        → origins_after unasked level (events_of_vowel at n) (origins_after unasked level ((if t then MergeGrapheme (k - 1) (k + 1) ∷ [] else []) ++ merges_before (k + 1) q xs) os)
        ≡ origins_after unasked level ((if t then MergeGrapheme (k + 1 - 1) (k + 1 + 1) ∷ [] else []) ++ merges_before (k + 1 + 1) q xs) (origins_after unasked level (events_of_vowel at n) os)
    by_test true next =
        let m = grapheme_manner level in
        let i = k - 1 - at in
        let here : at + i ≡ k - 1 = omega (arith, later) in
        let end : at + i + 2 ≡ k + 1 = omega (arith, later) in
        let there : at + 1 + i ≡ k + 1 - 1 = omega (arith, later) in
        let last : at + 1 + i + 2 ≡ k + 1 + 1 = omega (arith, later) in
        let merged = origins_merged_as m (k - 1) (k + 1) os in
        let many = merged_many m (k - 1) (k + 1) os in
        let E : List Origin → List Origin = λ qs. origins_after unasked level (events_of_vowel at n) qs in
        let passed : E merged ≡ origins_merged_as m (k + 1 - 1) (k + 1 + 1) (E os) =
        ap (λ j. E (origins_merged_as m j (k + 1) os)) (sym here) ∙ ap (λ j. E (origins_merged_as m (at + i) j os)) (sym end) ∙ vowel_passes level at n le i 2 os fits
        ∙ ap (λ j. origins_merged_as m j (at + 1 + i + 2) (E os)) there ∙ ap (λ j. origins_merged_as m (k + 1 - 1) j (E os)) last in
        next merged (omega (arith, fits, many)) ∙ ap (λ qs. origins_after unasked level (merges_before (k + 1 + 1) q xs) qs) passed
    by_test false next = next os fits

-- ---- one vowel written

-- the merge before a vowel that follows no mark above, and its events, are those where it is written
vowel_written : (level : BufferClusterLevel) (at n : ℕ) (os : List Origin) → n ≤ at → at + 1 ≤ length os
    → origins_after unasked level (events_of_vowel at n) (origins_after unasked level (if not (at == 0) && (n == 0) then MergeGrapheme (at - 1) (at + 1) ∷ [] else []) os) ≡ origins_after unasked level (written_vowel at n) os
vowel_written level at n os le fits = by_tests (at == 0) (n == 0)
  where
    from : ℕ
    from = at - n

    order : List ℕ
    order = order_of_move n 1

    halves : List Origin
    halves = origins_after unasked level (Replace at 1 2 ∷ []) os

    moved : with_range_arranged from order (origins_merged_as (manner InOutput level) from (from + length order) halves) ≡ with_range_arranged from order (origins_merged_as (manner InOutput level) from (at + 2) halves)
    moved =
        let end : from + length order ≡ at + 1 = let long = order_long n 1 in omega (arith, le, long) in
        let how = manner InOutput level in
        let same = decomposed level at os in
        ap (with_range_arranged from order)
        (ap (λ j. origins_merged_as how from j halves) end
        ∙ ap (origins_merged_as how from (at + 1)) same
        ∙ merges_alike how from (at + 1) from (at + 2) (elements_replaced at 1 2 os) (output_flagless level) (vowel_ranges from at os (omega arith) fits).new
        ∙ ap (origins_merged_as how from (at + 2)) (sym same))

    by_tests : (s t : Bool)
        → origins_after unasked level (Replace at 1 2 ∷ (if t then [] else Move InOutput from order ∷ [])) (origins_after unasked level (if not s && t then MergeGrapheme (at - 1) (at + 1) ∷ [] else []) os)
        ≡ origins_after unasked level (Replace at 1 2 ∷ (if t then (if s then [] else MergeGrapheme (at - 1) (at + 2) ∷ []) else Merge InOutput from (at + 2) ∷ Arrange from order ∷ [])) os
    by_tests true true = refl
    by_tests true false = moved
    by_tests false true =
        let m = grapheme_manner level in
        decomposed level at (origins_merged_as m (at - 1) (at + 1) os)
        ∙ merge_doubled m (at - 1) at os (graphemes_flagless level) (omega arith) fits
        ∙ ap (origins_merged_as m (at - 1) (at + 2)) (sym (decomposed level at os))
    by_tests false false = moved

written_count : (level : BufferClusterLevel) (at n k : ℕ) (os : List Origin) → length os ≡ at + suc k → length (origins_after unasked level (written_vowel at n) os) ≡ at + 2 + k
written_count level at n k os long =
    counts_follow unasked level (written_vowel at n) os ∙ ap (count_after (written_vowel at n)) long ∙ by_tests (at == 0) (n == 0)
    ∙ (replacement_kept at 1 2 (at + suc k) (at + 2 + k) (omega arith) (omega arith) (omega arith) (omega arith)).counted
  where
    by_tests : (s t : Bool)
        → count_after (Replace at 1 2 ∷ (if t then (if s then [] else MergeGrapheme (at - 1) (at + 2) ∷ []) else Merge InOutput (at - n) (at + 2) ∷ Arrange (at - n) (order_of_move n 1) ∷ [])) (at + suc k) ≡ count_after (Replace at 1 2 ∷ []) (at + suc k)
    by_tests true true = refl
    by_tests true false = refl
    by_tests false true = refl
    by_tests false false = refl

pub above_few : (out : List Item) → count_above out ≤ length out
above_few out =
    let n = prefix_len is_mark_above (reverse out) in
    let a = length-prefix_len is_mark_above (reverse out) in
    let b = length-take n (reverse out) in
    let c : length (reverse out) ≡ length out = length-reverse out in
    few n (length (reverse out)) (length out) (sym b ∙ a) c
  where
    few : (n many all : ℕ) → min n many ≡ n → many ≡ all → n ≤ all
    few n many all e f = grind (arith, nat_tests, common_steps, e, f)

-- ---- all

vowels_written : (level : BufferClusterLevel) (out xs : List Item) (os : List Origin) → length os ≡ length out + length xs
    → origins_after unasked level (merges_before (length out) (ends_with_base out) xs ++ split_events out xs) os ≡ origins_after unasked level (written_characters out xs) os
vowels_written level out [] os long = refl
vowels_written level out (x ∷ xs) os long =
    by_test (is_sara_am x) refl (λ qs e. vowels_written level (out ++ x ∷ []) xs qs e) (λ qs e. vowels_written level (with_vowel out x) xs qs e)
  where
    at : ℕ
    at = length out

    n : ℕ
    n = count_above out

    q : Bool
    q = not (is_mark_above x)

    by_test : (t : Bool) → is_sara_am x ≡ t
        → ((qs : List Origin) → length qs ≡ length (out ++ x ∷ []) + length xs
        → origins_after unasked level (merges_before (length (out ++ x ∷ [])) (ends_with_base (out ++ x ∷ [])) xs ++ split_events (out ++ x ∷ []) xs) qs ≡ origins_after unasked level (written_characters (out ++ x ∷ []) xs) qs)
        → ((qs : List Origin) → length qs ≡ length (with_vowel out x) + length xs
        → origins_after unasked level (merges_before (length (with_vowel out x)) (ends_with_base (with_vowel out x)) xs ++ split_events (with_vowel out x) xs) qs ≡ origins_after unasked level (written_characters (with_vowel out x) xs) qs)
        → origins_after unasked level (((if t && ends_with_base out then MergeGrapheme (at - 1) (at + 1) ∷ [] else []) ++ merges_before (at + 1) q xs) ++ ((if t then events_of_vowel at n else []) ++ split_events (if t then with_vowel out x else out ++ x ∷ []) xs)) os
        ≡ origins_after unasked level ((if t then written_vowel at n else []) ++ written_characters (if t then with_vowel out x else out ++ x ∷ []) xs) os
    by_test false e other vowel =
        let size : length (out ++ x ∷ []) ≡ at + 1 = length-append out (x ∷ []) in
        ap (λ k. origins_after unasked level (merges_before k q xs ++ split_events (out ++ x ∷ []) xs) os) (sym size)
        ∙ ap (λ b. origins_after unasked level (merges_before (length (out ++ x ∷ [])) b xs ++ split_events (out ++ x ∷ []) xs) os) (sym (base_last out x))
        ∙ other os (let shape : length os ≡ at + suc (length xs) = long in omega (arith, shape, size))
    by_test true e other vowel =
        let first : List Event = if ends_with_base out then MergeGrapheme (at - 1) (at + 1) ∷ [] else [] in
        let rest = merges_before (at + 1) q xs in
        let later = merges_before (at + 1 + 1) q xs in
        let es = events_of_vowel at n in
        let out' = with_vowel out x in
        let splits = split_events out' xs in
        let shape : length os ≡ at + suc (length xs) = long in
        let few = above_few out in
        let fits : at + 1 ≤ length os = omega (arith, shape) in
        let begun = origins_after unasked level first os in
        let begun_many : at + 1 ≤ length begun = by_base (ends_with_base out) fits in
        let written = origins_after unasked level (written_vowel at n) os in
        let size : length out' ≡ at + 2 = vowel_long out x in
        let there : at + 1 + 1 ≡ length out' = omega (arith, size) in
        let base : q ≡ ends_with_base out' = sym (base_vowel out x e) in
        origins_after_both unasked level (first ++ rest) (es ++ splits) os
        ∙ ap (λ qs. origins_after unasked level (es ++ splits) qs) (origins_after_both unasked level first rest os)
        ∙ origins_after_both unasked level es splits (origins_after unasked level rest begun)
        ∙ ap (λ qs. origins_after unasked level splits qs) (merges_pass level at n (at + 1) q xs begun few (omega arith) begun_many)
        ∙ ap (λ qs. origins_after unasked level splits (origins_after unasked level later qs)) (vowel_written level at n os few fits)
        ∙ sym (origins_after_both unasked level later splits written)
        ∙ ap (λ k. origins_after unasked level (merges_before k q xs ++ splits) written) there
        ∙ ap (λ b. origins_after unasked level (merges_before (length out') b xs ++ splits) written) base
        ∙ vowel written (let many = written_count level at n (length xs) os shape in omega (arith, many, size))
        ∙ sym (origins_after_both unasked level (written_vowel at n) (written_characters out' xs) os)
      where
        by_base : (b : Bool) → at + 1 ≤ length os → at + 1 ≤ length (origins_after unasked level (if b then MergeGrapheme (at - 1) (at + 1) ∷ [] else []) os)
        by_base true fits = let many = merged_many (grapheme_manner level) (at - 1) (at + 1) os in omega (arith, many, fits)
        by_base false fits = fits

-- ---- the hook

split_written : (out xs : List Item) → AreWritten (split_events out xs)
split_written out [] = tt
split_written out (x ∷ xs) = by_test (is_sara_am x) (split_written (out ++ x ∷ []) xs) (split_written (with_vowel out x) xs)
  where
    by_count : (n : ℕ) (t : Bool) → AreWritten (Replace (length out) 1 2 ∷ (if t then [] else Move InOutput (length out - n) (order_of_move n 1) ∷ []))
    by_count n true = tt
    by_count n false = tt

    by_test : (t : Bool) → AreWritten (split_events (out ++ x ∷ []) xs) → AreWritten (split_events (with_vowel out x) xs)
        → AreWritten ((if t then events_of_vowel (length out) (count_above out) else []) ++ split_events (if t then with_vowel out x else out ++ x ∷ []) xs)
    by_test true other vowel = both_written (events_of_vowel (length out) (count_above out)) (split_events (with_vowel out x) xs) (by_count (count_above out) (count_above out == 0)) vowel
    by_test false other vowel = other

characters_written : (out xs : List Item) → AreWritten (written_characters out xs)
characters_written out [] = tt
characters_written out (x ∷ xs) = by_test (is_sara_am x) (characters_written (out ++ x ∷ []) xs) (characters_written (with_vowel out x) xs)
  where
    at : ℕ
    at = length out

    by_tests : (n : ℕ) (s t : Bool) → AreWritten (Replace at 1 2 ∷ (if t then (if s then [] else MergeGrapheme (at - 1) (at + 2) ∷ []) else Merge InOutput (at - n) (at + 2) ∷ Arrange (at - n) (order_of_move n 1) ∷ []))
    by_tests n true true = tt
    by_tests n false true = tt
    by_tests n s false = tt

    by_test : (t : Bool) → AreWritten (written_characters (out ++ x ∷ []) xs) → AreWritten (written_characters (with_vowel out x) xs)
        → AreWritten ((if t then written_vowel at (count_above out) else []) ++ written_characters (if t then with_vowel out x else out ++ x ∷ []) xs)
    by_test true other vowel = both_written (written_vowel at (count_above out)) (written_characters (with_vowel out x) xs) (by_tests (count_above out) (at == 0) (count_above out == 0)) vowel
    by_test false other vowel = other

-- with the merges before, and with each after its vowel, the clusters are the same; so are the flags where PRODUCE_SAFE_BREAKS isn't requested
abbrev AreWrittenAlike : Asks → BufferClusterLevel → List Item → List Event → List Origin → Type 0
AreWrittenAlike asks level xs es os =
    (numbers (origins_after asks level es os) ≡ numbers (origins_after asks level (written_characters [] xs) os))
    × (asks.breaks ≡ false → origins_after asks level es os ≡ origins_after asks level (written_characters [] xs) os)

whole_text : (asks : Asks) (level : BufferClusterLevel) (xs : List Item) (os : List Origin) → length os ≡ length xs → AreWrittenAlike asks level xs (merges_by vowel_rule 0 xs ++ split_events [] xs) os
whole_text asks level xs os long =
    let es = merges_by vowel_rule 0 xs ++ split_events [] xs in
    let fs = written_characters [] xs in
    let p = both_written (merges_by vowel_rule 0 xs) (split_events [] xs) (merges_written vowel_rule 0 xs) (split_written [] xs) in
    let q = characters_written [] xs in
    let counted : length os ≡ 0 + length xs = omega (arith, long) in
    let same : origins_after unasked level es os ≡ origins_after unasked level fs os =
    merged_unasked level vowel_rule 0 xs (split_events [] xs) os ∙ ap (λ ms. origins_after unasked level (ms ++ split_events [] xs) os) (pass_whole xs) ∙ vowels_written level [] xs os counted in
    (clusters_by_requests asks level es fs os p q (ap numbers same), λ none. origins_by_requests asks level es fs os p q none same)

pub vowels_merge_where_written : VowelsMergeWhereWritten
vowels_merge_where_written m script t font text r long e =
    let two = both_read (vowels_decomposed text.view) (private_if (has_private_forms m script) t font) r e in
    let quiet : two.second.events text.level ≡ [] = no_events (has_private_forms m script) two.first.view two.second two.second_is in
    let first = by_limit (nat_le (length (text_with_splits [] text.view.items)) text.view.max_len) two.first two.first_is in
    subst (λ (s : Read). AreAlike (s.events text.level)) two.both
    (subst AreAlike (sym (ap (λ es. two.first.events text.level ++ es) quiet ∙ append-nil (two.first.events text.level))) first)
  where
    AreAlike : List Event → Type 0
    AreAlike es = AreWrittenAlike text.asks text.level text.view.items es text.origins

    no_events : (b : Bool) (v : View) (s : Read) → ◌≡◌ {A = Reading} (if b then Ok (with_private t font v) else Ok (with_events [] v)) (Ok s) → s.events text.level ≡ []
    no_events true v s f = at_read (λ q. q.events text.level ≡ []) (with_private t font v) s f refl
    no_events false v s f = at_read (λ q. q.events text.level ≡ []) (with_events [] v) s f refl

    split_read : Read
    split_read = record { view = record text.view { items = text_with_splits [] text.view.items; positions = zero_positions (length (text_with_splits [] text.view.items)) }; events = λ level. split_events [] text.view.items }

    by_limit : (b : Bool) (s : Read) → ◌≡◌ {A = Reading} (then_reading (with_graphemes_merged vowel_rule text.view) (if b then Ok split_read else Err TooLong)) (Ok s) → AreAlike (s.events text.level)
    by_limit true s f =
        at_read (λ q. AreAlike (q.events text.level)) (then_read (with_graphemes_merged vowel_rule text.view) split_read) s f (whole_text text.asks text.level text.view.items text.origins long)
    by_limit false s f = cc

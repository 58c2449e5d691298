-- What merges, replacements and a reversal do to the origins of glyphs.
use Rattle.std.proofs.Common.{ℕ, ◌≡◌, ◌≤◌, ◌+◌, ◌-◌, ◌==◌, ◌||◌, max, Bool, true, false, if◌then◌else◌, List, [], ◌∷◌, ◌++◌, length, map, take, drop, reverse, refl, sym, ap, ◌∙◌, arith}
use Rattle.std.specs.Prelude.{Option, Some, None}
use Rattle.std.proofs.lemmas.Grind.{common_steps}
use Rattle.std.proofs.lemmas.List.{append-nil, map-append, take-append-drop, take-map, drop-map}
use Rattle.std.proofs.Math.Seq.{take-append_seam, drop-append-add}
use Rattle.buffer_glyphs.specs.declared.info.hb_glyph_info_t.{hb_glyph_info_t}
use Rattle.buffer_glyphs.specs.declared.level.BufferClusterLevel.{BufferClusterLevel}
use Rattle.buffer_glyphs.specs.declared.level.BufferClusterLevel.TheVariants.{MonotoneGraphemes, MonotoneCharacters, Characters, Graphemes}
use Rattle.buffer_glyphs.specs.Parts.{first_of, last_of, or, copies, elements_replaced, range_of}
use Rattle.buffer_glyphs.specs.Merges.{least_number, merged_number}
use Rattle.buffer_glyphs.specs.Origins.{Origin, origin_of, origins, numbers, cast, added_outside, InList, InOutput, Manner, Unites, Marks, Keeps, manner, origins_merged_as}
use Rattle.buffer_glyphs.specs.Events.{Merge, Replace, Reverse}
use Rattle.buffer_glyphs.specs.Lemmas.Origins.{cut_in_three, origins_of_merged_at, origins_of_replaced}
use Rattle.buffer_glyphs.specs.Lemmas.Handed.{none_handed}
use Rattle.buffer_core.specs.Sides.{Sides, all_glyphs, after_reverse, origins_of, origins_by, requests_breaks}
use Rattle.buffer_core.specs.Merging.{output_merged_at, with_output_merged, with_output_glyph, with_glyph_passed, with_merged, index_in_all}
use Rattle.buffer_core.proofs.Kept.{map-reverse}
use Rattle.buffer_core.proofs.Merged.{all_merged}
use Rattle.buffer_core.proofs.Replaced.{all_copied}
use Rattle.buffer_core.proofs.Across.{all_output_merged}
use Rattle.buffer_facts.proofs.Numbers.{test_of_itself as itself, chosen_same as alone}
use Rattle.buffer_facts.proofs.Lists.{map_same}

pub cast_self : (c : ℕ) (o : Origin) → c ≡ o.cluster → cast c 0 o ≡ o
cast_self c o e = rw (e, itself o.cluster) refl

pub no_range : (os : List Origin) → map (λ (o : Origin). cast (merged_number [] o.cluster) 0 o) os ≡ os
no_range os = map_same (λ (o : Origin). cast (merged_number [] o.cluster) 0 o) os (λ o. cast_self o.cluster o refl)

pub one_range : (n : ℕ) (os : List Origin) → map (λ (o : Origin). cast (merged_number (n ∷ []) o.cluster) 0 o) os ≡ os
one_range n os = map_same (λ (o : Origin). cast (merged_number (n ∷ []) o.cluster) 0 o) os (λ o. cast_self (merged_number (n ∷ []) o.cluster) o (alone n o.cluster (n == o.cluster) refl))

pub short_range : (ns : List ℕ) (os : List Origin) → map (λ (o : Origin). cast (merged_number (take 1 ns) o.cluster) 0 o) os ≡ os
short_range [] os = no_range os
short_range (n ∷ ns) os = one_range n os

pub one_marked : (os : List Origin) → map (added_outside 3 (least_number (take 1 (numbers os)))) (take 1 os) ≡ take 1 os
one_marked [] = refl
one_marked (o ∷ os) = rw (itself o.cluster) refl

-- and none merge
pub merged_none : (m : Manner) (at : ℕ) (os : List Origin) → origins_merged_as m at (at + 0) os ≡ os
merged_none Unites at os = let none : at + 0 - at ≡ 0 = omega arith in rw none (no_range os)
merged_none Marks at os =
    let none : at + 0 - at ≡ 0 = omega arith in
    let range : take (at + 0 - at) (drop at os) ≡ [] = ap (λ k. take k (drop at os)) none in
    ap (λ xs. take at os ++ map (added_outside 3 (least_number (range_of at (at + 0) (numbers os)))) xs ++ drop (max at (at + 0)) os) range
    ∙ ap (λ xs. take at os ++ xs ++ drop (max at (at + 0)) os) (sym range) ∙ cut_in_three at (at + 0) os
merged_none Keeps at os = refl

-- `merge_clusters`
pub merged_origins : (start end : ℕ) (s : Sides) → start ≤ end → origins_of (with_merged (index_in_all start s) (index_in_all end s) s) ≡ origins_by (Merge InList (index_in_all start s) (index_in_all end s) ∷ []) s
merged_origins start end s le =
    let from = index_in_all start s in
    let to = index_in_all end s in
    ap origins (all_merged from to s) ∙ origins_of_merged_at s.level from to (all_glyphs s) (omega arith)

output_origins_at : (level : BufferClusterLevel) (from to : ℕ) (gs : List hb_glyph_info_t) → from ≤ to → origins (output_merged_at level from to gs) ≡ origins_merged_as (manner InOutput level) from to (origins gs)
output_origins_at MonotoneGraphemes from to gs le = origins_of_merged_at MonotoneGraphemes from to gs le
output_origins_at MonotoneCharacters from to gs le = origins_of_merged_at MonotoneCharacters from to gs le
output_origins_at Characters from to gs le = refl
output_origins_at Graphemes from to gs le = refl

-- `merge_out_clusters`
pub output_origins : (from to : ℕ) (s : Sides) → from ≤ to → origins_of (with_output_merged from to s) ≡ origins_by (Merge InOutput from to ∷ []) s
output_origins from to s le = ap origins (all_output_merged from to s) ∙ output_origins_at s.level from to (all_glyphs s) le

-- `output_glyph`
pub copy_origins : (n : ℕ) (s : Sides) → origins_of (with_output_glyph n s) ≡ origins_by (Replace (length s.behind) 0 1 ∷ []) s
copy_origins n s =
    let b = length s.behind in
    let os = origins_merged_as (manner InList s.level) b (b + 0) (origins_of s) in
    ap origins (all_copied 0 (n ∷ []) s) ∙ origins_of_replaced b 0 (n ∷ []) (all_glyphs s) ∙ ap (elements_replaced b 0 1) (sym (merged_none (manner InList s.level) b (origins (all_glyphs s))))
    ∙ sym (none_handed (requests_breaks s) (b + 1) (elements_replaced b 0 1 os))

no_copies : {X : Type 0} (o : Option X) → copies 0 o ≡ []
no_copies None = refl
no_copies (Some x) = refl

-- the glyph at the cursor deleted, before its flags are handed on
pub skipped_origins : (s : Sides) → origins_of (with_glyph_passed s) ≡ elements_replaced (length s.behind) 1 0 (origins_of s)
skipped_origins s =
    let os = origins (all_glyphs s) in
    let b = length s.behind in
    let front : take b os ≡ origins s.behind = take-map origin_of b (all_glyphs s) ∙ ap origins (take-append_seam s.behind s.ahead) in
    let rest : drop (b + 1) os ≡ origins (drop 1 s.ahead) = drop-map origin_of (b + 1) (all_glyphs s) ∙ ap origins (drop-append-add s.behind s.ahead 1) in
    map-append origin_of s.behind (drop 1 s.ahead) ∙ ap (λ xs. xs ++ origins (drop 1 s.ahead)) (sym front) ∙ ap (λ xs. take b os ++ xs) (sym rest) ∙ ap (λ xs. xs ++ drop (b + 1) os) (sym (append-nil (take b os)))
    ∙ ap (λ xs. take b os ++ xs ++ drop (b + 1) os) (sym (no_copies (or (first_of (drop b os)) (last_of (take b os)))))

-- `reverse`
pub reversed_origins : (s : Sides) → origins_of (after_reverse s) ≡ origins_by (Reverse ∷ []) s
reversed_origins s = ap origins (take-append-drop s.read (reverse (all_glyphs s))) ∙ map-reverse origin_of (all_glyphs s)

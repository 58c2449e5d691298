-- Events by which texts of Thai, Lao and Hangul are written, and what requests for flags change of them.
use Rattle.std.proofs.Common.{ℕ, ◌≡◌, ◌+◌, ◌==◌, Bool, true, false, if◌then◌else◌, List, [], ◌∷◌, ◌++◌, length, take, drop, refl, ap, sym, ◌∙◌}
use Rattle.buffer_glyphs.specs.declared.level.BufferClusterLevel.{BufferClusterLevel}
use Rattle.buffer_glyphs.specs.Items.{Item}
use Rattle.buffer_glyphs.specs.Parts.{elements_replaced}
use Rattle.buffer_glyphs.specs.Merges.{numbers_merged_as}
use Rattle.buffer_glyphs.specs.Levels.{InList, manner, grapheme_manner}
use Rattle.buffer_glyphs.specs.Origins.{Asks, Origin, numbers, Manner, origins_merged_as, with_range_arranged}
use Rattle.buffer_glyphs.specs.Events.{Event, Merge, MergeGrapheme, Replace, Circle, Delete, Move, Arrange, Sort, Reverse, Break, Concat, Tatweel, StrictBreak, Spread, Reset, origins_after, origins_replaced, strictly_marked}
use Rattle.buffer_glyphs.specs.Lemmas.EventParts.{numbers_strict}
use Rattle.buffer_glyphs.specs.Lemmas.Handed.{numbers_handed_if}
use Rattle.buffer_glyphs.specs.Lemmas.Origins.{numbers_merged_by}
use Rattle.buffer_glyphs.specs.Lemmas.Replacements.{among_seen}
use Rattle.script_syllabic.specs.Graphemes.{merge_of, merges_by}
use Rattle.script_hangul.proofs.Carried.{arranged_seen}

-- no event but merges, replacements, moves and breaks that are requested
abbrev pub AreWritten : List Event → Type 0
AreWritten [] = Unit {0}
AreWritten (Merge how from to ∷ es) = AreWritten es
AreWritten (MergeGrapheme from to ∷ es) = AreWritten es
AreWritten (Replace at taken given ∷ es) = AreWritten es
AreWritten (Move how from order ∷ es) = AreWritten es
AreWritten (Arrange from order ∷ es) = AreWritten es
AreWritten (StrictBreak from to ∷ es) = AreWritten es
AreWritten (Circle after beside like ∷ es) = ⊥
AreWritten (Delete at ∷ es) = ⊥
AreWritten (Sort from order ∷ es) = ⊥
AreWritten (Reverse ∷ es) = ⊥
AreWritten (Break from to ∷ es) = ⊥
AreWritten (Concat from to ∷ es) = ⊥
AreWritten (Tatweel from to ∷ es) = ⊥
AreWritten (Spread ∷ es) = ⊥
AreWritten (Reset ∷ es) = ⊥

pub both_written : (es fs : List Event) → AreWritten es → AreWritten fs → AreWritten (es ++ fs)
both_written [] fs p q = q
both_written (Merge how from to ∷ es) fs p q = both_written es fs p q
both_written (MergeGrapheme from to ∷ es) fs p q = both_written es fs p q
both_written (Replace at taken given ∷ es) fs p q = both_written es fs p q
both_written (Move how from order ∷ es) fs p q = both_written es fs p q
both_written (Arrange from order ∷ es) fs p q = both_written es fs p q
both_written (StrictBreak from to ∷ es) fs p q = both_written es fs p q
both_written (Circle after beside like ∷ es) fs p q = absurd p
both_written (Delete at ∷ es) fs p q = absurd p
both_written (Sort from order ∷ es) fs p q = absurd p
both_written (Reverse ∷ es) fs p q = absurd p
both_written (Break from to ∷ es) fs p q = absurd p
both_written (Concat from to ∷ es) fs p q = absurd p
both_written (Tatweel from to ∷ es) fs p q = absurd p
both_written (Spread ∷ es) fs p q = absurd p
both_written (Reset ∷ es) fs p q = absurd p

-- ---- clusters

merged_clusters : (m : Manner) (from to : ℕ) (os qs : List Origin) → numbers os ≡ numbers qs → numbers (origins_merged_as m from to os) ≡ numbers (origins_merged_as m from to qs)
merged_clusters m from to os qs e = numbers_merged_by m from to os ∙ ap (numbers_merged_as m from to) e ∙ sym (numbers_merged_by m from to qs)

arranged_clusters : (from : ℕ) (order : List ℕ) (os qs : List Origin) → numbers os ≡ numbers qs → numbers (with_range_arranged from order os) ≡ numbers (with_range_arranged from order qs)
arranged_clusters from order os qs e =
    let v : Origin → ℕ = λ o. o.cluster in
    sym (arranged_seen v from order os) ∙ ap (with_range_arranged from order) e ∙ arranged_seen v from order qs

replaced_clusters : (b c : Bool) (at taken given : ℕ) (os qs : List Origin) → numbers os ≡ numbers qs → numbers (origins_replaced b at taken given os) ≡ numbers (origins_replaced c at taken given qs)
replaced_clusters b c at taken given os qs e = put b os ∙ ap (elements_replaced at taken given) e ∙ sym (put c qs)
  where
    put : (asked : Bool) (rs : List Origin) → numbers (origins_replaced asked at taken given rs) ≡ elements_replaced at taken given (numbers rs)
    put asked rs = numbers_handed_if asked (take taken (drop at rs)) (at + given) (elements_replaced at taken given rs) ∙ among_seen (λ (o : Origin). o.cluster) at taken given rs

-- clusters after such events depend on clusters alone, and on no request
pub numbers_after : (asks other : Asks) (level : BufferClusterLevel) (es : List Event) (os qs : List Origin) → AreWritten es → numbers os ≡ numbers qs → numbers (origins_after asks level es os) ≡ numbers (origins_after other level es qs)
numbers_after asks other level [] os qs p e = e
numbers_after asks other level (Merge how from to ∷ es) os qs p e =
    let m = manner how level in
    numbers_after asks other level es (origins_merged_as m from to os) (origins_merged_as m from to qs) p (merged_clusters m from to os qs e)
numbers_after asks other level (MergeGrapheme from to ∷ es) os qs p e =
    let m = grapheme_manner level in
    numbers_after asks other level es (origins_merged_as m from to os) (origins_merged_as m from to qs) p (merged_clusters m from to os qs e)
numbers_after asks other level (Replace at taken given ∷ es) os qs p e =
    let merged : List Origin → List Origin = origins_merged_as (manner InList level) at (at + taken) in
    numbers_after asks other level es (origins_replaced asks.breaks at taken given (merged os)) (origins_replaced other.breaks at taken given (merged qs)) p
    (replaced_clusters asks.breaks other.breaks at taken given (merged os) (merged qs) (merged_clusters (manner InList level) at (at + taken) os qs e))
numbers_after asks other level (Move how from order ∷ es) os qs p e =
    let merged : List Origin → List Origin = origins_merged_as (manner how level) from (from + length order) in
    numbers_after asks other level es (with_range_arranged from order (merged os)) (with_range_arranged from order (merged qs)) p
    (arranged_clusters from order (merged os) (merged qs) (merged_clusters (manner how level) from (from + length order) os qs e))
numbers_after asks other level (Arrange from order ∷ es) os qs p e =
    numbers_after asks other level es (with_range_arranged from order os) (with_range_arranged from order qs) p (arranged_clusters from order os qs e)
numbers_after asks other level (StrictBreak from to ∷ es) os qs p e =
    numbers_after asks other level es (strictly_marked asks.breaks from to os) (strictly_marked other.breaks from to qs) p
    (numbers_strict asks.breaks from to os ∙ e ∙ sym (numbers_strict other.breaks from to qs))
numbers_after asks other level (Circle after beside like ∷ es) os qs p e = absurd p
numbers_after asks other level (Delete at ∷ es) os qs p e = absurd p
numbers_after asks other level (Sort from order ∷ es) os qs p e = absurd p
numbers_after asks other level (Reverse ∷ es) os qs p e = absurd p
numbers_after asks other level (Break from to ∷ es) os qs p e = absurd p
numbers_after asks other level (Concat from to ∷ es) os qs p e = absurd p
numbers_after asks other level (Tatweel from to ∷ es) os qs p e = absurd p
numbers_after asks other level (Spread ∷ es) os qs p e = absurd p
numbers_after asks other level (Reset ∷ es) os qs p e = absurd p

-- ---- requests

-- no flags are requested
abbrev pub unasked : Asks
unasked = record { concat = false; tatweel = false; breaks = false }

-- where PRODUCE_SAFE_BREAKS isn't requested, such events leave what they leave without any request
origins_unasked : (asks : Asks) (level : BufferClusterLevel) (es : List Event) (os : List Origin) → AreWritten es → asks.breaks ≡ false → origins_after asks level es os ≡ origins_after unasked level es os
origins_unasked asks level [] os p none = refl
origins_unasked asks level (Merge how from to ∷ es) os p none = origins_unasked asks level es (origins_merged_as (manner how level) from to os) p none
origins_unasked asks level (MergeGrapheme from to ∷ es) os p none = origins_unasked asks level es (origins_merged_as (grapheme_manner level) from to os) p none
origins_unasked asks level (Replace at taken given ∷ es) os p none =
    let merged = origins_merged_as (manner InList level) at (at + taken) os in
    ap (λ b. origins_after asks level es (origins_replaced b at taken given merged)) none ∙ origins_unasked asks level es (elements_replaced at taken given merged) p none
origins_unasked asks level (Move how from order ∷ es) os p none = origins_unasked asks level es (with_range_arranged from order (origins_merged_as (manner how level) from (from + length order) os)) p none
origins_unasked asks level (Arrange from order ∷ es) os p none = origins_unasked asks level es (with_range_arranged from order os) p none
origins_unasked asks level (StrictBreak from to ∷ es) os p none = ap (λ b. origins_after asks level es (strictly_marked b from to os)) none ∙ origins_unasked asks level es os p none
origins_unasked asks level (Circle after beside like ∷ es) os p none = absurd p
origins_unasked asks level (Delete at ∷ es) os p none = absurd p
origins_unasked asks level (Sort from order ∷ es) os p none = absurd p
origins_unasked asks level (Reverse ∷ es) os p none = absurd p
origins_unasked asks level (Break from to ∷ es) os p none = absurd p
origins_unasked asks level (Concat from to ∷ es) os p none = absurd p
origins_unasked asks level (Tatweel from to ∷ es) os p none = absurd p
origins_unasked asks level (Spread ∷ es) os p none = absurd p
origins_unasked asks level (Reset ∷ es) os p none = absurd p

-- the clusters after two lists of events are the same by all requests, if they are without any
pub clusters_by_requests : (asks : Asks) (level : BufferClusterLevel) (es fs : List Event) (os : List Origin) → AreWritten es → AreWritten fs → numbers (origins_after unasked level es os) ≡ numbers (origins_after unasked level fs os)
    → numbers (origins_after asks level es os) ≡ numbers (origins_after asks level fs os)
clusters_by_requests asks level es fs os p q e = numbers_after asks unasked level es os os p refl ∙ e ∙ numbers_after unasked asks level fs os os q refl

-- so are the flags where PRODUCE_SAFE_BREAKS isn't requested
pub origins_by_requests : (asks : Asks) (level : BufferClusterLevel) (es fs : List Event) (os : List Origin) → AreWritten es → AreWritten fs → asks.breaks ≡ false → origins_after unasked level es os ≡ origins_after unasked level fs os
    → origins_after asks level es os ≡ origins_after asks level fs os
origins_by_requests asks level es fs os p q none e = origins_unasked asks level es os p none ∙ e ∙ sym (origins_unasked asks level fs os q none)

-- ---- merges of graphemes alone

-- the merge of n items from an index on into one grapheme, with no break
abbrev pub merge_alone : ℕ → ℕ → List Event
merge_alone at n = if n == 0 then [] else MergeGrapheme at (at + n) ∷ []

-- the merges of a list's items from an index on, by a rule, with no breaks
abbrev pub merges_alone : (List Item → ℕ) → ℕ → List Item → List Event
merges_alone rule at [] = []
merges_alone rule at (x ∷ xs) = merge_alone at (rule (x ∷ xs)) ++ merges_alone rule (at + 1) xs

-- the breaks change nothing where none is requested
pub merged_unasked : (level : BufferClusterLevel) (rule : List Item → ℕ) (at : ℕ) (xs : List Item) (es : List Event) (os : List Origin) → origins_after unasked level (merges_by rule at xs ++ es) os ≡ origins_after unasked level (merges_alone rule at xs ++ es) os
merged_unasked level rule at [] es os = refl
merged_unasked level rule at (x ∷ xs) es os = by_test (rule (x ∷ xs)) (rule (x ∷ xs) == 0) (merged_unasked level rule (at + 1) xs es)
  where
    by_test : (n : ℕ) (t : Bool)
        → ((qs : List Origin) → origins_after unasked level (merges_by rule (at + 1) xs ++ es) qs ≡ origins_after unasked level (merges_alone rule (at + 1) xs ++ es) qs)
        → origins_after unasked level (((if t then [] else MergeGrapheme at (at + n) ∷ StrictBreak at (at + n) ∷ []) ++ merges_by rule (at + 1) xs) ++ es) os
        ≡ origins_after unasked level (((if t then [] else MergeGrapheme at (at + n) ∷ []) ++ merges_alone rule (at + 1) xs) ++ es) os
    by_test n true next = next os
    by_test n false next = next (origins_merged_as (grapheme_manner level) at (at + n) os)

pub merges_written : (rule : List Item → ℕ) (at : ℕ) (xs : List Item) → AreWritten (merges_by rule at xs)
merges_written rule at [] = tt
merges_written rule at (x ∷ xs) = both_written (merge_of at (rule (x ∷ xs))) (merges_by rule (at + 1) xs) (one (rule (x ∷ xs))) (merges_written rule (at + 1) xs)
  where
    one : (n : ℕ) → AreWritten (merge_of at n)
    one n = elim (n == 0) as (λ t. AreWritten (if t then [] else MergeGrapheme at (at + n) ∷ StrictBreak at (at + n) ∷ [])) [ true ↦ tt | false ↦ tt ]

pub merges_alone_written : (rule : List Item → ℕ) (at : ℕ) (xs : List Item) → AreWritten (merges_alone rule at xs)
merges_alone_written rule at [] = tt
merges_alone_written rule at (x ∷ xs) = both_written (merge_alone at (rule (x ∷ xs))) (merges_alone rule (at + 1) xs) (one (rule (x ∷ xs))) (merges_alone_written rule (at + 1) xs)
  where
    one : (n : ℕ) → AreWritten (merge_alone at n)
    one n = elim (n == 0) as (λ t. AreWritten (if t then [] else MergeGrapheme at (at + n) ∷ [])) [ true ↦ tt | false ↦ tt ]

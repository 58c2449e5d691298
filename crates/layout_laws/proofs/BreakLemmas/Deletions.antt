-- Deletions of GSUB: each flags the neighbours of the deleted item before, and only one at the index 0 takes the first item of a list away.
use Rattle.std.proofs.Common.{ℕ, zero, suc, ◌≡◌, ◌≤◌, ◌<◌, ◌+◌, ◌-◌, ◌*◌, ◌==◌, ◌&&◌, ◌⊎◌, inl, inr, Bool, true, false, nat_lt, nat_le, min, if◌then◌else◌, List, [], ◌∷◌, ◌++◌, Option, Some, None, Ok, Err, length, map, take, drop, arith, refl, ap, sym, subst, ◌∙◌, append_assoc}
use Rattle.std.specs.Prelude.{slice_get, ◌/◌, ◌%◌}
use Rattle.std.proofs.lemmas.List.{take-append-drop}
use Rattle.buffer_glyphs.specs.declared.cause.ShapeCause.TheVariants.{TooLong}
use Rattle.buffer_glyphs.specs.declared.level.BufferClusterLevel.{BufferClusterLevel}
use Rattle.buffer_glyphs.specs.Items.{Item}
use Rattle.buffer_glyphs.specs.Levels.{InList}
use Rattle.buffer_glyphs.specs.LigatureWords.{component_bound, component_word, is_lig_base, lig_comp, lig_id, ligature_word}
use Rattle.buffer_glyphs.specs.Parts.{first_of}
use Rattle.buffer_glyphs.specs.Events.{Event, Merge, MergeGrapheme, Replace, Circle, Delete, Move, Arrange, Sort, Reverse, Break, Concat, Tatweel, StrictBreak, Spread, Reset}
use Rattle.buffer_glyphs.specs.Rewriting.{shifted_event}
use Rattle.buffer_core.specs.Readings.{View, Read, Reading, with_events, then_reading}
use Rattle.buffer_stages.specs.Actions.{Cut, whole, view_at, uncut, uncut_with_positions, past_item, Outcome, Passes, Acts, Refuses, Action, within_limit, later, or_else}
use Rattle.layout_face.specs.declared.parts.GlyphDefinition.{GlyphDefinition}
use Rattle.layout_face.specs.declared.substitution.SubstLookup.{SubstLookup}
use Rattle.layout_tables.specs.declared.context.SequenceLookupRecord.{SequenceLookupRecord}
use Rattle.layout_match.specs.Applied.{ApplyContext, own_search, next_random}
use Rattle.layout_match.specs.Matches.{input_indices}
use Rattle.layout_match.specs.Trying.{after_outcome, outcome_past_item, trial_at, trials, forward_pass}
use Rattle.layout_contexts.specs.Nested.{RecordsOutcome, Walks, Stops, cut_at, holds, has_budget, with_budget_spent, nested_outcome, outcome_at_index, one_record, walked_later, then_walk, each_record, each_nested, cut_after_match}
use Rattle.layout_gsub.specs.Ligating.{items_at, has_own_number, own_number, last_given, component_count, components_at, passed_items, after_components, component_deletions, last_index, ligature_item, ligature_substitution}
use Rattle.layout_gsub.specs.Multiples.{component_item, multiplied_item, cut_with_multiple, multiple_substitution, deletion}
use Rattle.layout_gsub.specs.Replacements.{substituted_item, cut_with_substitute, single_substitution}
use Rattle.layout_substitution.specs.Lookups.{cut_at_index, lookup_action, reverse_action, backward_trials, backward_pass}
use Rattle.layout_laws.proofs.Lemmas.Rules.{Limits, NestRelated}
use Rattle.layout_laws.proofs.Lemmas.Substitutions.{IsSubstituted, forward_related, backward_related}
use Rattle.buffer_parts.specs.Breaks.Concat.{without_concats}
use Rattle.layout_laws.specs.Breaks.Seams.{IsOwn, IsOwnFirst}
use Rattle.layout_laws.proofs.BreakLemmas.Passes.{pass_read, pass_events}
use Rattle.buffer_parts.proofs.BreakLemmas.Division.{without_both}
use Rattle.layout_gpos.proofs.Lemmas.Left.{past_left as items_stay}
use Rattle.layout_positioning.proofs.Left.{cut_whole}
use Rattle.buffer_facts.proofs.Truth.{lacks_second as no_both}

-- ---- deletions with their neighbours flagged

-- a range that begins at an index was flagged just before, and it begins before the item i
abbrev pub IsFlaggedBefore : Option ℕ → ℕ → Type 0
IsFlaggedBefore None i = ⊥
IsFlaggedBefore (Some from) i = from ≡ i - 1

-- each deletion among events comes directly after the flagging of a range from the item before it on; where the event before them flagged
-- one from an index on, that is given
abbrev pub AreFlaggedDeletions : Option ℕ → List Event → Type 0
AreFlaggedDeletions before [] = Unit {0}
AreFlaggedDeletions before (Delete at ∷ es) = IsFlaggedBefore before at × AreFlaggedDeletions None es
AreFlaggedDeletions before (StrictBreak from to ∷ es) = AreFlaggedDeletions (Some from) es
AreFlaggedDeletions before (Merge how from to ∷ es) = AreFlaggedDeletions None es
AreFlaggedDeletions before (MergeGrapheme from to ∷ es) = AreFlaggedDeletions None es
AreFlaggedDeletions before (Replace at taken given ∷ es) = AreFlaggedDeletions None es
AreFlaggedDeletions before (Circle after beside like ∷ es) = AreFlaggedDeletions None es
AreFlaggedDeletions before (Move how from order ∷ es) = AreFlaggedDeletions None es
AreFlaggedDeletions before (Arrange from order ∷ es) = AreFlaggedDeletions None es
AreFlaggedDeletions before (Sort from order ∷ es) = AreFlaggedDeletions None es
AreFlaggedDeletions before (Reverse ∷ es) = AreFlaggedDeletions None es
AreFlaggedDeletions before (Break from to ∷ es) = AreFlaggedDeletions None es
AreFlaggedDeletions before (Concat from to ∷ es) = AreFlaggedDeletions None es
AreFlaggedDeletions before (Tatweel from to ∷ es) = AreFlaggedDeletions None es
AreFlaggedDeletions before (Spread ∷ es) = AreFlaggedDeletions None es
AreFlaggedDeletions before (Reset ∷ es) = AreFlaggedDeletions None es

-- an item is deleted at the index 0
abbrev pub DeleteFirst : List Event → Type 0
DeleteFirst [] = ⊥
DeleteFirst (Delete at ∷ es) = (at ≡ 0) ⊎ DeleteFirst es
DeleteFirst (StrictBreak from to ∷ es) = DeleteFirst es
DeleteFirst (Merge how from to ∷ es) = DeleteFirst es
DeleteFirst (MergeGrapheme from to ∷ es) = DeleteFirst es
DeleteFirst (Replace at taken given ∷ es) = DeleteFirst es
DeleteFirst (Circle after beside like ∷ es) = DeleteFirst es
DeleteFirst (Move how from order ∷ es) = DeleteFirst es
DeleteFirst (Arrange from order ∷ es) = DeleteFirst es
DeleteFirst (Sort from order ∷ es) = DeleteFirst es
DeleteFirst (Reverse ∷ es) = DeleteFirst es
DeleteFirst (Break from to ∷ es) = DeleteFirst es
DeleteFirst (Concat from to ∷ es) = DeleteFirst es
DeleteFirst (Tatweel from to ∷ es) = DeleteFirst es
DeleteFirst (Spread ∷ es) = DeleteFirst es
DeleteFirst (Reset ∷ es) = DeleteFirst es

-- with some range flagged before, the same holds
flagged_after : (before : Option ℕ) (es : List Event) → AreFlaggedDeletions None es → AreFlaggedDeletions before es
flagged_after before [] h = tt
flagged_after before (Delete at ∷ es) h = absurd h.0
flagged_after before (StrictBreak from to ∷ es) h = h
flagged_after before (Merge how from to ∷ es) h = h
flagged_after before (MergeGrapheme from to ∷ es) h = h
flagged_after before (Replace at taken given ∷ es) h = h
flagged_after before (Circle after beside like ∷ es) h = h
flagged_after before (Move how from order ∷ es) h = h
flagged_after before (Arrange from order ∷ es) h = h
flagged_after before (Sort from order ∷ es) h = h
flagged_after before (Reverse ∷ es) h = h
flagged_after before (Break from to ∷ es) h = h
flagged_after before (Concat from to ∷ es) h = h
flagged_after before (Tatweel from to ∷ es) h = h
flagged_after before (Spread ∷ es) h = h
flagged_after before (Reset ∷ es) h = h

flagged_both : (before : Option ℕ) (es fs : List Event) → AreFlaggedDeletions before es → AreFlaggedDeletions None fs → AreFlaggedDeletions before (es ++ fs)
flagged_both before [] fs h k = flagged_after before fs k
flagged_both before (Delete at ∷ es) fs h k = (h.0, flagged_both None es fs h.1 k)
flagged_both before (StrictBreak from to ∷ es) fs h k = flagged_both (Some from) es fs h k
flagged_both before (Merge how from to ∷ es) fs h k = flagged_both None es fs h k
flagged_both before (MergeGrapheme from to ∷ es) fs h k = flagged_both None es fs h k
flagged_both before (Replace at taken given ∷ es) fs h k = flagged_both None es fs h k
flagged_both before (Circle after beside like ∷ es) fs h k = flagged_both None es fs h k
flagged_both before (Move how from order ∷ es) fs h k = flagged_both None es fs h k
flagged_both before (Arrange from order ∷ es) fs h k = flagged_both None es fs h k
flagged_both before (Sort from order ∷ es) fs h k = flagged_both None es fs h k
flagged_both before (Reverse ∷ es) fs h k = flagged_both None es fs h k
flagged_both before (Break from to ∷ es) fs h k = flagged_both None es fs h k
flagged_both before (Concat from to ∷ es) fs h k = flagged_both None es fs h k
flagged_both before (Tatweel from to ∷ es) fs h k = flagged_both None es fs h k
flagged_both before (Spread ∷ es) fs h k = flagged_both None es fs h k
flagged_both before (Reset ∷ es) fs h k = flagged_both None es fs h k

-- the events after others have their deletions flagged, too
pub flagged_rest : (before : Option ℕ) (es fs : List Event) → AreFlaggedDeletions before (es ++ fs) → (after : Option ℕ) × AreFlaggedDeletions after fs
flagged_rest before [] fs h = (before, h)
flagged_rest before (Delete at ∷ es) fs h = flagged_rest None es fs h.1
flagged_rest before (StrictBreak from to ∷ es) fs h = flagged_rest (Some from) es fs h
flagged_rest before (Merge how from to ∷ es) fs h = flagged_rest None es fs h
flagged_rest before (MergeGrapheme from to ∷ es) fs h = flagged_rest None es fs h
flagged_rest before (Replace at taken given ∷ es) fs h = flagged_rest None es fs h
flagged_rest before (Circle after beside like ∷ es) fs h = flagged_rest None es fs h
flagged_rest before (Move how from order ∷ es) fs h = flagged_rest None es fs h
flagged_rest before (Arrange from order ∷ es) fs h = flagged_rest None es fs h
flagged_rest before (Sort from order ∷ es) fs h = flagged_rest None es fs h
flagged_rest before (Reverse ∷ es) fs h = flagged_rest None es fs h
flagged_rest before (Break from to ∷ es) fs h = flagged_rest None es fs h
flagged_rest before (Concat from to ∷ es) fs h = flagged_rest None es fs h
flagged_rest before (Tatweel from to ∷ es) fs h = flagged_rest None es fs h
flagged_rest before (Spread ∷ es) fs h = flagged_rest None es fs h
flagged_rest before (Reset ∷ es) fs h = flagged_rest None es fs h

deletes_after : (es fs : List Event) → DeleteFirst fs → DeleteFirst (es ++ fs)
deletes_after [] fs h = h
deletes_after (Delete at ∷ es) fs h = inr (deletes_after es fs h)
deletes_after (StrictBreak from to ∷ es) fs h = deletes_after es fs h
deletes_after (Merge how from to ∷ es) fs h = deletes_after es fs h
deletes_after (MergeGrapheme from to ∷ es) fs h = deletes_after es fs h
deletes_after (Replace at taken given ∷ es) fs h = deletes_after es fs h
deletes_after (Circle after beside like ∷ es) fs h = deletes_after es fs h
deletes_after (Move how from order ∷ es) fs h = deletes_after es fs h
deletes_after (Arrange from order ∷ es) fs h = deletes_after es fs h
deletes_after (Sort from order ∷ es) fs h = deletes_after es fs h
deletes_after (Reverse ∷ es) fs h = deletes_after es fs h
deletes_after (Break from to ∷ es) fs h = deletes_after es fs h
deletes_after (Concat from to ∷ es) fs h = deletes_after es fs h
deletes_after (Tatweel from to ∷ es) fs h = deletes_after es fs h
deletes_after (Spread ∷ es) fs h = deletes_after es fs h
deletes_after (Reset ∷ es) fs h = deletes_after es fs h

deletes_before : (es fs : List Event) → DeleteFirst es → DeleteFirst (es ++ fs)
deletes_before [] fs h = absurd h
deletes_before (Delete at ∷ es) fs (inl h) = inl h
deletes_before (Delete at ∷ es) fs (inr h) = inr (deletes_before es fs h)
deletes_before (StrictBreak from to ∷ es) fs h = deletes_before es fs h
deletes_before (Merge how from to ∷ es) fs h = deletes_before es fs h
deletes_before (MergeGrapheme from to ∷ es) fs h = deletes_before es fs h
deletes_before (Replace at taken given ∷ es) fs h = deletes_before es fs h
deletes_before (Circle after beside like ∷ es) fs h = deletes_before es fs h
deletes_before (Move how from order ∷ es) fs h = deletes_before es fs h
deletes_before (Arrange from order ∷ es) fs h = deletes_before es fs h
deletes_before (Sort from order ∷ es) fs h = deletes_before es fs h
deletes_before (Reverse ∷ es) fs h = deletes_before es fs h
deletes_before (Break from to ∷ es) fs h = deletes_before es fs h
deletes_before (Concat from to ∷ es) fs h = deletes_before es fs h
deletes_before (Tatweel from to ∷ es) fs h = deletes_before es fs h
deletes_before (Spread ∷ es) fs h = deletes_before es fs h
deletes_before (Reset ∷ es) fs h = deletes_before es fs h

-- what was flagged just before events in a fragment was so in the text
abbrev IsBeforeBoth : ℕ → Option ℕ → Option ℕ → Type 0
IsBeforeBoth n near far = (from : ℕ) → near ≡ Some from → far ≡ Some (n + from)

pub none_both : (n : ℕ) (far : Option ℕ) → IsBeforeBoth n None far
none_both n far from e = cc

some_both : (n from : ℕ) → IsBeforeBoth n (Some from) (Some (n + from))
some_both n from other e = let same : from ≡ other = cc in ap (λ (k : ℕ). Some (n + k)) same

-- a deletion at the index 0 of a fragment would flag another range in the text
deleted_there : (n at : ℕ) (near far : Option ℕ) → 0 < n → at ≡ 0 → IsBeforeBoth n near far → IsFlaggedBefore near at → IsFlaggedBefore far (n + at) → ⊥
deleted_there n at None far some none both h k = h
deleted_there n at (Some from) far some none both h k =
    let there : n + from ≡ n + at - 1 = subst (λ (o : Option ℕ). IsFlaggedBefore o (n + at)) (both from refl) k in
    omega (arith, some, none, h, there)

pub first_stays : (n : ℕ) (near far : Option ℕ) (es : List Event) → 0 < n → IsBeforeBoth n near far → AreFlaggedDeletions near es → AreFlaggedDeletions far (map (shifted_event n) es) → DeleteFirst es → ⊥
first_stays n near far [] some both h k d = d
first_stays n near far (Delete at ∷ es) some both h k (inl none) = deleted_there n at near far some none both h.0 k.0
first_stays n near far (Delete at ∷ es) some both h k (inr d) = first_stays n None None es some (none_both n None) h.1 k.1 d
first_stays n near far (StrictBreak from to ∷ es) some both h k d = first_stays n (Some from) (Some (n + from)) es some (some_both n from) h k d
first_stays n near far (Merge how from to ∷ es) some both h k d = first_stays n None None es some (none_both n None) h k d
first_stays n near far (MergeGrapheme from to ∷ es) some both h k d = first_stays n None None es some (none_both n None) h k d
first_stays n near far (Replace at taken given ∷ es) some both h k d = first_stays n None None es some (none_both n None) h k d
first_stays n near far (Circle after beside like ∷ es) some both h k d = first_stays n None None es some (none_both n None) h k d
first_stays n near far (Move how from order ∷ es) some both h k d = first_stays n None None es some (none_both n None) h k d
first_stays n near far (Arrange from order ∷ es) some both h k d = first_stays n None None es some (none_both n None) h k d
first_stays n near far (Sort from order ∷ es) some both h k d = first_stays n None None es some (none_both n None) h k d
first_stays n near far (Reverse ∷ es) some both h k d = first_stays n None None es some (none_both n None) h k d
first_stays n near far (Break from to ∷ es) some both h k d = first_stays n None None es some (none_both n None) h k d
first_stays n near far (Concat from to ∷ es) some both h k d = first_stays n None None es some (none_both n None) h k d
first_stays n near far (Tatweel from to ∷ es) some both h k d = first_stays n None None es some (none_both n None) h k d
first_stays n near far (Spread ∷ es) some both h k d = first_stays n None None es some (none_both n None) h k d
first_stays n near far (Reset ∷ es) some both h k d = first_stays n None None es some (none_both n None) h k d

-- ---- what all rules do

-- the deletions of an outcome are flagged, and where the rule acts, the first item stays its own, or is deleted
abbrev OwnStays : Cut → Outcome → Type 0
OwnStays c (Passes es) = AreFlaggedDeletions None (without_concats es)
OwnStays c (Acts d es) = AreFlaggedDeletions None (without_concats es) × (IsOwnFirst (first_of (whole c)) → IsOwnFirst (first_of (whole d)) ⊎ DeleteFirst (without_concats es))
OwnStays c (Refuses x) = Unit {0}

abbrev by_owning : Limits
by_owning = record {
  Index = Unit {0};
  Holds = λ i c o p. OwnStays c o;
  limit = λ i c. c.max_len;
  scratch_flags = λ i c. c.scratch_flags;
  budget = λ i c. c.max_ops;
}

flagged_without : (es fs : List Event) → AreFlaggedDeletions None (without_concats es) → AreFlaggedDeletions None (without_concats fs) → AreFlaggedDeletions None (without_concats (es ++ fs))
flagged_without es fs h k = subst (AreFlaggedDeletions None) (sym (without_both es fs)) (flagged_both None (without_concats es) (without_concats fs) h k)

deletes_late : (es fs : List Event) → DeleteFirst (without_concats fs) → DeleteFirst (without_concats (es ++ fs))
deletes_late es fs h = subst DeleteFirst (sym (without_both es fs)) (deletes_after (without_concats es) (without_concats fs) h)

deletes_early : (es fs : List Event) → DeleteFirst (without_concats es) → DeleteFirst (without_concats (es ++ fs))
deletes_early es fs h = subst DeleteFirst (sym (without_both es fs)) (deletes_before (without_concats es) (without_concats fs) h)

-- what was deleted after other events
late_or : (A : Type 0) (es fs : List Event) → A ⊎ DeleteFirst (without_concats fs) → A ⊎ DeleteFirst (without_concats (es ++ fs))
late_or A es fs (inl h) = inl h
late_or A es fs (inr d) = inr (deletes_late es fs d)

later_owns : (c : Cut) (es : List Event) (o : Outcome) → AreFlaggedDeletions None (without_concats es) → OwnStays c o → OwnStays c (later es o)
later_owns c es (Passes fs) h k = flagged_without es fs h k
later_owns c es (Acts d fs) h k = (flagged_without es fs h k.0, λ own. late_or (IsOwnFirst (first_of (whole d))) es fs (k.1 own))
later_owns c es (Refuses x) h k = tt

either_owns : (c : Cut) (o second : Outcome) → OwnStays c o → OwnStays c second → OwnStays c (or_else o second)
either_owns c (Passes es) second h k = later_owns c es second h k
either_owns c (Acts d es) second h k = h
either_owns c (Refuses x) second h k = tt

limit_owns : (n : ℕ) (c a : Cut) (o : Outcome) → OwnStays c o → OwnStays c (within_limit n a o)
limit_owns n c a o h = by_test (nat_le (length a.front + n) a.max_len)
  where
    by_test : (t : Bool) → OwnStays c (if t then o else Refuses TooLong)
    by_test true = h
    by_test false = tt

-- ---- records of contexts

abbrev RecordsOwn : Cut → RecordsOutcome → Type 0
RecordsOwn c (Walks d ps end es) = AreFlaggedDeletions None (without_concats es) × (IsOwnFirst (first_of (whole c)) → IsOwnFirst (first_of (whole d)) ⊎ DeleteFirst (without_concats es))
RecordsOwn c (Stops x) = Unit {0}

nested_owns : (i p : ℕ) (c d : Cut) (ps : List ℕ) (end : ℕ) (q : Outcome) → whole d ≡ whole c → OwnStays d q → RecordsOwn c (nested_outcome i p d ps end q)
nested_owns i p c d ps end (Passes es) same h = (h, λ own. inl (subst (λ (xs : List Item). IsOwnFirst (first_of xs)) (sym same) own))
nested_owns i p c d ps end (Acts b es) same h = (h.0, λ own. h.1 (subst (λ (xs : List Item). IsOwnFirst (first_of xs)) (sym same) own))
nested_owns i p c d ps end (Refuses x) same h = tt

index_owns : (act : ℕ → Action) → ((i : ℕ) (c : Cut) → OwnStays c (act i c)) → (r : SequenceLookupRecord) (o : Option ℕ) (c : Cut) (ps : List ℕ) (end : ℕ) → RecordsOwn c (outcome_at_index act r o c ps end)
index_owns act k r None c ps end = (tt, λ own. inl own)
index_owns act k r (Some p) c ps end = by_tests (nat_lt p (length (whole c)) && has_budget c) (holds p (with_budget_spent c))
  where
    by_tests : (t u : Bool) → RecordsOwn c (if t then (if u then nested_outcome r.sequence_index p (cut_at p (with_budget_spent c)) ps end (act r.lookup_index (cut_at p (with_budget_spent c))) else Stops TooLong) else Walks c ps end [])
    by_tests false u = (tt, λ own. inl own)
    by_tests true false = tt
    by_tests true true = nested_owns r.sequence_index p c (cut_at p (with_budget_spent c)) ps end (act r.lookup_index (cut_at p (with_budget_spent c))) (cut_whole p (with_budget_spent c)) (k r.lookup_index (cut_at p (with_budget_spent c)))

then_owns : (c : Cut) (a : RecordsOutcome) (next : Cut → List ℕ → ℕ → RecordsOutcome) → RecordsOwn c a → ((d : Cut) (ps : List ℕ) (to : ℕ) → RecordsOwn d (next d ps to)) → RecordsOwn c (then_walk a next)
then_owns c (Stops x) next h k = tt
then_owns c (Walks d ps to es) next h k = by_next (next d ps to) (k d ps to)
  where
    by_next : (b : RecordsOutcome) → RecordsOwn d b → RecordsOwn c (walked_later es b)
    by_next (Walks e qs end fs) g = (flagged_without es fs h.0 g.0, λ own. elim (h.1 own) [ inl mid ↦ late_or (IsOwnFirst (first_of (whole e))) es fs (g.1 mid) | inr d ↦ inr (deletes_early es fs d) ])
    by_next (Stops x) g = tt

each_owns : (act : ℕ → Action) → ((i : ℕ) (c : Cut) → OwnStays c (act i c)) → (records : List SequenceLookupRecord) (c : Cut) (ps : List ℕ) (end : ℕ) → RecordsOwn c (each_record act records c ps end)
each_owns act k [] c ps end = (tt, λ own. inl own)
each_owns act k (r ∷ records) c ps end = then_owns c (one_record act r c ps end) (each_record act records) (index_owns act k r (slice_get ps r.sequence_index) c ps end) (λ d qs to. each_owns act k records d qs to)

match_owns : (c : Cut) (a : RecordsOutcome) → RecordsOwn c a → OwnStays c (cut_after_match a)
match_owns c (Stops x) h = tt
match_owns c (Walks w ps end es) h = by_test (holds (min end (length (whole w))) w)
  where
    acts : OwnStays c (Acts (cut_at (min end (length (whole w))) w) es)
    acts = (h.0, λ own. elim (h.1 own) [ inl mid ↦ inl (subst (λ (xs : List Item). IsOwnFirst (first_of xs)) (sym (cut_whole (min end (length (whole w))) w)) mid) | inr d ↦ inr d ])

    by_test : (t : Bool) → OwnStays c (if t then Acts (cut_at (min end (length (whole w))) w) es else Refuses TooLong)
    by_test true = acts
    by_test false = tt

nest_owns : (nest : Option (ℕ → Action)) (records : List SequenceLookupRecord) (ps : List ℕ) (end : ℕ) (c : Cut) → NestRelated by_owning nest → OwnStays c (cut_after_match (each_nested nest records c ps end))
nest_owns None records ps end c k = match_owns c (Walks c ps end []) (tt, λ own. inl own)
nest_owns (Some act) records ps end c k = match_owns c (each_nested (Some act) records c ps end) (each_owns act (λ i d. k i tt d) records c ps end)

-- ---- the first item

-- where the items of a cut become others from it on, of which the first is its own where the item at the cut is
pub first_kept : (front rest new : List Item) → (IsOwnFirst (first_of rest) → IsOwnFirst (first_of new)) → IsOwnFirst (first_of (front ++ rest)) → IsOwnFirst (first_of (front ++ new))
first_kept [] rest new k own = k own
first_kept (x ∷ front) rest new k own = own

pub one_own : (gdef : GlyphDefinition) (glyph : ℕ) (rest : List Item) → IsOwnFirst (first_of rest) → IsOwnFirst (first_of (map (substituted_item gdef glyph) (take 1 rest) ++ drop 1 rest))
one_own gdef glyph [] own = own
one_own gdef glyph (x ∷ rest) own = own

one_owns : (gdef : GlyphDefinition) (o : Option ℕ) (c a : Cut) → whole a ≡ whole c → OwnStays c (single_substitution gdef o a)
one_owns gdef None c a same = tt
one_owns gdef (Some glyph) c a same =
    let put : List Item = map (substituted_item gdef glyph) (take 1 a.rest) in
    limit_owns 1 c a (Acts (cut_with_substitute gdef glyph a) []) (
      tt,
      λ own.
          inl (subst (λ (xs : List Item). IsOwnFirst (first_of xs)) (sym (append_assoc a.front put (drop 1 a.rest))) (first_kept a.front a.rest (put ++ drop 1 a.rest) (one_own gdef glyph a.rest) (subst (λ (xs : List Item). IsOwnFirst (first_of xs)) (sym same) own))),
    )

-- an item with the ligature word of another
pub same_word : (x y : Item) → y.lig_props ≡ x.lig_props → IsOwn x → IsOwn y
same_word x y e own = ap (λ (n : ℕ). (n / 0x2000_0000 == 0) && nat_lt 0 (if (n / 0x1000_0000 % 2 == 1) then 0 else n % 0x1000_0000)) e ∙ own

component_own : (gdef : GlyphDefinition) (x : Item) (glyph : ℕ) → IsOwn x → IsOwn (component_item gdef x 0 glyph)
component_own gdef x glyph own = by_test (lig_id x == 0)
  where
    by_test : (t : Bool) → IsOwn (record (component_item gdef x 0 glyph) { lig_props = if t then component_word 0 0 else x.lig_props })
    by_test true = refl
    by_test false = own

several_own : (gdef : GlyphDefinition) (glyph : ℕ) (more : List ℕ) (rest : List Item) (x : Item) → first_of rest ≡ Some x → IsOwnFirst (first_of rest) → IsOwnFirst (first_of (multiplied_item gdef (glyph ∷ more) (first_of rest) ++ drop 1 rest))
several_own gdef glyph more [] x e own = cc
several_own gdef glyph more (y ∷ rest) x e own = component_own gdef y glyph own

several_owns : (gdef : GlyphDefinition) (glyph : ℕ) (more : List ℕ) (x : Item) (c : Cut) → first_of c.rest ≡ Some x → OwnStays c (multiple_substitution gdef (glyph ∷ more) c)
several_owns gdef glyph more x c e =
    let put : List Item = multiplied_item gdef (glyph ∷ more) (first_of c.rest) in
    limit_owns (length (glyph ∷ more)) c c (Acts (cut_with_multiple gdef (glyph ∷ more) c) _) (
      tt,
      λ own.
          inl (subst (λ (xs : List Item). IsOwnFirst (first_of xs)) (sym (append_assoc c.front put (drop 1 c.rest))) (first_kept c.front c.rest (put ++ drop 1 c.rest) (several_own gdef glyph more c.rest x e) own)),
    )

-- where items stand before the cut, the first stays; else it is that at the cut which is deleted
none_owns : (c : Cut) → OwnStays c (deletion c)
none_owns c = ((refl, tt), λ own. by_front c.front own)
  where
    by_front : (front : List Item) → IsOwnFirst (first_of (front ++ c.rest)) → IsOwnFirst (first_of (front ++ drop 1 c.rest)) ⊎ ((length front ≡ 0) ⊎ ⊥)
    by_front [] own = inr (inl refl)
    by_front (x ∷ front) own = inl own

is_base : (id m : ℕ) → m ≤ 268435455 → (id * 536870912 + (268435456 + m)) / 268435456 % 2 ≡ 1
is_base id m le = omega (arith, le)

-- a ligature with a number is its own component
ligature_own : (gdef : GlyphDefinition) (glyph : ℕ) (components : List Item) (id : ℕ) (x : Item) → IsOwn x → IsOwn (ligature_item gdef glyph components id x)
ligature_own gdef glyph components id x own = by_test (has_own_number components)
  where
    by_test : (t : Bool) → IsOwn (record (ligature_item gdef glyph components id x) { lig_props = if t then ligature_word id (component_count components) else x.lig_props })
    by_test true =
        let y : Item = record (ligature_item gdef glyph components id x) { lig_props = ligature_word id (component_count components) } in
        let base : is_lig_base y ≡ true = ap (λ (n : ℕ). n == 1) (is_base id (min (component_count components) component_bound) (omega arith)) in
        no_both (lig_id y == 0) (nat_lt 0 (lig_comp y)) (ap (λ (b : Bool). nat_lt 0 (if b then 0 else y.lig_props % 0x1000_0000)) base)
    by_test false = own

ligated_own : (gdef : GlyphDefinition) (glyph : ℕ) (components : List Item) (id : ℕ) (rest passed after : List Item) (x : Item) → first_of rest ≡ Some x → IsOwnFirst (first_of rest) → IsOwnFirst (first_of ((map (ligature_item gdef glyph components id) (take 1 rest) ++ passed) ++ after))
ligated_own gdef glyph components id [] passed after x e own = cc
ligated_own gdef glyph components id (y ∷ rest) passed after x e own = ligature_own gdef glyph components id y own

deletions_flagged : (at gone : ℕ) (places : List ℕ) → AreFlaggedDeletions None (without_concats (component_deletions at gone places))
deletions_flagged at gone [] = tt
deletions_flagged at gone (i ∷ places) = deletions_flagged at (gone + 1) places

ligature_owns : (gdef : GlyphDefinition) (glyph end : ℕ) (places : List ℕ) (x : Item) (c : Cut) → first_of c.rest ≡ Some x → OwnStays c (ligature_substitution gdef glyph places end c)
ligature_owns gdef glyph end places x c e =
    let components : List Item = items_at places c.rest in
    let id : ℕ = own_number components c.lig_id in
    let first : List Item = map (ligature_item gdef glyph components id) (take 1 c.rest) in
    let own : ℕ = components_at 0 c.rest in
    let passed : List Item = passed_items (has_own_number components) id own own 1 (drop 1 places) c.rest in
    let after : List Item = after_components components id (slice_get c.rest (last_index places)) (drop end c.rest) in
    limit_owns (1 + length passed) c c (Acts (record c { front = c.front ++ first ++ passed; rest = after; lig_id = last_given components c.lig_id }) (Merge InList (length c.front) (length c.front + end) ∷ component_deletions (length c.front) 0 (drop 1 places))) (
      deletions_flagged (length c.front) 0 (drop 1 places),
      λ o.
          inl (subst (λ (xs : List Item). IsOwnFirst (first_of xs)) (sym (ap (λ (xs : List Item). xs ++ after) (append_assoc c.front first passed) ∙ append_assoc c.front (first ++ passed) after)) (first_kept c.front c.rest ((first ++ passed) ++ after) (ligated_own gdef glyph components id c.rest passed after x e) o)),
    )

owning_substituted : IsSubstituted by_owning
owning_substituted = record {
  closed = record {
    passes = λ i c. tt;
    attempts = λ i back ahead c. tt;
    either = λ i c o p second third f g. either_owns c o second f g;
    breaks = λ i from to c o p f. later_owns c (Break from to ∷ []) o tt f;
    nested = λ i nest records ps end c k. nest_owns nest records ps end c k;
  };
  one = λ i gdef glyph c. one_owns gdef (Some glyph) c c refl;
  drawn = λ i gdef glyphs c. later_owns c (Break 0 (length (whole c)) ∷ []) (single_substitution gdef (slice_get glyphs (next_random c.random % length glyphs)) (record c { random = next_random c.random })) tt (one_owns gdef (slice_get glyphs (next_random c.random % length glyphs)) c (record c { random = next_random c.random }) refl);
  several = λ i gdef glyph next more x c there. several_owns gdef glyph (next ∷ more) x c there;
  none = λ i x c there. none_owns c;
  ligature = λ i a glyph end tests x c there found. ligature_owns a.font.gdef glyph end (input_indices (own_search a c.rest) tests c.rest) x c there;
  there = λ i gdef glyph ahead back c. (tt, λ own. inl (first_kept c.front c.rest (map (substituted_item gdef glyph) (take 1 c.rest) ++ drop 1 c.rest) (one_own gdef glyph c.rest) own));
}

-- ---- all indices

-- a reading from a cut on leaves the first item its own, or deletes it, and flags its deletions
abbrev OwnReading : Cut → Reading → Type 0
OwnReading c (Ok r) = (level : BufferClusterLevel) → AreFlaggedDeletions None (without_concats (r.events level)) × (IsOwnFirst (first_of (whole c)) → IsOwnFirst (first_of r.view.items) ⊎ DeleteFirst (without_concats (r.events level)))
OwnReading c (Err x) = Unit {0}

-- from a cut with the same items, before which nothing was read
passed_reading : (c : Cut) (es : List Event) (v : View) (q : Reading) → AreFlaggedDeletions None (without_concats es) → OwnReading c q → OwnReading c (then_reading (with_events es v) q)
passed_reading c es v (Ok r) h k = λ level. (flagged_without es (r.events level) h (k level).0, λ own. late_or (IsOwnFirst (first_of r.view.items)) es (r.events level) ((k level).1 own))
passed_reading c es v (Err x) h k = tt

acted_reading : (c d : Cut) (es : List Event) (v : View) (q : Reading) → OwnStays c (Acts d es) → OwnReading d q → OwnReading c (then_reading (with_events es v) q)
acted_reading c d es v (Ok r) h k = λ level.
    (flagged_without es (r.events level) h.0 (k level).0, λ own. elim (h.1 own) [ inl mid ↦ late_or (IsOwnFirst (first_of r.view.items)) es (r.events level) ((k level).1 mid) | inr gone ↦ inr (deletes_early es (r.events level) gone) ])
acted_reading c d es v (Err x) h k = tt

outcome_reading : (o : Outcome) (next : Cut → Reading) (v : View) (c : Cut) → OwnStays c o → ((d : Cut) → OwnReading d (next d)) → OwnReading c (after_outcome o next v c)
outcome_reading (Passes es) next v c h k = passed_reading c es (view_at v c) (next c) h (k c)
outcome_reading (Acts d es) next v c h k = acted_reading c d es (view_at v d) (next d) h (k d)
outcome_reading (Refuses x) next v c h k = tt

past_owns : (o : Outcome) (c : Cut) → OwnStays c o → OwnStays c (outcome_past_item o c)
past_owns (Passes es) c h = limit_owns 1 c c (Acts (past_item c) es) (h, λ own. inl (subst (λ (xs : List Item). IsOwnFirst (first_of xs)) (sym (items_stay 1 c)) own))
past_owns (Acts d es) c h = h
past_owns (Refuses x) c h = tt

trial_reading : (act : Action) → ((c : Cut) → OwnStays c (act c)) → (next : Cut → Reading) (v : View) (xs : List Item) (c : Cut) → ((d : Cut) → OwnReading d (next d)) → OwnReading c (trial_at act next v xs c)
trial_reading act h next v [] c k = λ level. (tt, λ own. inl own)
trial_reading act h next v (x ∷ xs) c k = outcome_reading (outcome_past_item (act c) c) next v c (past_owns (act c) c (h c)) k

trials_own : (act : Action) → ((c : Cut) → OwnStays c (act c)) → (v : View) (n : ℕ) (c : Cut) → OwnReading c (trials act v n c)
trials_own act h v zero c = λ level. (tt, λ own. inl own)
trials_own act h v (suc n) c = trial_reading act h (trials act v n) v c.rest c (λ d. trials_own act h v n d)

-- what a lookup read of a text flags its deletions, and leaves the first item its own, or deletes it
pub record IsOwnRead (level : BufferClusterLevel) (v : View) (r : Read) : Type 0 where
  pub flagged : AreFlaggedDeletions None (without_concats (r.events level))
  pub own : IsOwnFirst (first_of v.items) → IsOwnFirst (first_of r.view.items) ⊎ DeleteFirst (without_concats (r.events level))

pub forward_owns : (table : List SubstLookup) (a : ApplyContext) (lookup : SubstLookup) (level : BufferClusterLevel) (v : View) (r : Read) → forward_pass (lookup_action table a lookup) v ≡ Ok r → IsOwnRead level v r
forward_owns table a lookup level v r e =
    let act = lookup_action table a lookup in
    let p = pass_read act v r e in
    let walk : OwnReading (uncut v) (Ok p.walk) = subst (OwnReading (uncut v)) p.walk_is (trials_own act (forward_related by_owning tt owning_substituted table a lookup) v (length v.items) (uncut v)) in
    record {
      flagged = subst (λ (es : List Event). AreFlaggedDeletions None (without_concats es)) (pass_events act v r p level) (walk level).0;
      own = λ own. elim ((walk level).1 own) [
        | inl stays ↦ inl (subst (λ (x : Read). IsOwnFirst (first_of x.view.items)) p.read stays)
        | inr gone ↦ inr (subst (λ (es : List Event). DeleteFirst (without_concats es)) (pass_events act v r p level) gone)
      ];
    }

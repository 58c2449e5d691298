-- Nested lookups that depend on no limit of length.
use Rattle.std.proofs.Common.{ℕ, ◌≡◌, ◌&&◌, Bool, true, false, nat_lt, min, if◌then◌else◌, List, [], ◌∷◌, ◌++◌, Option, Some, None, length, refl, ap, subst, ◌∙◌}
use Rattle.std.specs.Prelude.{slice_get}
use Rattle.buffer_glyphs.specs.declared.cause.ShapeCause.{ShapeCause}
use Rattle.buffer_glyphs.specs.declared.cause.ShapeCause.TheVariants.{TooLong}
use Rattle.buffer_glyphs.specs.Events.{Event}
use Rattle.layout_tables.specs.declared.context.SequenceLookupRecord.{SequenceLookupRecord}
use Rattle.buffer_stages.specs.Actions.{Cut, whole, Outcome, Passes, Acts, Refuses, Action}
use Rattle.layout_contexts.specs.Nested.{RecordsOutcome, Walks, Stops, cut_at, holds, has_budget, with_budget_spent, nested_outcome, nested_outcome_at, outcome_at_index, one_record, walked_later, then_walk, each_record, cut_after_match}
use Rattle.layout_contexts.specs.Shifts.{indices_after_resize, moved_end}
use Rattle.buffer_parts.specs.Alike.{attachment_bit}
use Rattle.layout_laws.specs.Alike.{cut_as, CutsAlike, OutcomesAlike, RuleDependsOnNoLength, WalksAlike}
use Rattle.layout_laws.specs.RuleLengths.{NestedDependOnNoLength}
use Rattle.layout_laws.proofs.Lemmas.Alike.{at_alike_cut, cuts_alike, refused_outcomes, limited_outcomes}

-- ---- nested lookups

stopped_walks : (w : RecordsOutcome) (y : ShapeCause) → WalksAlike w (Stops y)
stopped_walks (Walks c ps end es) y = tt
stopped_walks (Stops x) y = tt

limited_walks : (p q : Bool) (a b : RecordsOutcome) (x y : ShapeCause) → WalksAlike a b → WalksAlike (if p then a else Stops x) (if q then b else Stops y)
limited_walks true true a b x y k = k
limited_walks true false a b x y k = stopped_walks a y
limited_walks false q a b x y k = tt

whole_alike : (c d : Cut) → CutsAlike c d → whole c ≡ whole d
whole_alike c d s = at_alike_cut c d (λ d. whole c ≡ whole d) s (λ limit scratch_flags e. refl)

nested_cut_alike : (p : ℕ) (c d : Cut) → CutsAlike c d → CutsAlike (cut_at p c) (cut_at p d)
nested_cut_alike p c d s = at_alike_cut c d (λ d. CutsAlike (cut_at p c) (cut_at p d)) s (λ limit scratch_flags e. cuts_alike (cut_at p c) limit scratch_flags e)

there_alike : (i p : ℕ) (c d : Cut) (ps : List ℕ) (end : ℕ) (o q : Outcome) → CutsAlike c d → OutcomesAlike o q → WalksAlike (nested_outcome i p c ps end o) (nested_outcome i p d ps end q)
there_alike i p c d ps end (Passes es) (Passes fs) s k = (s, refl, refl, k)
there_alike i p c d ps end (Passes es) (Acts e fs) s k = absurd k
there_alike i p c d ps end (Passes es) (Refuses y) s k = tt
there_alike i p c d ps end (Acts b es) (Passes fs) s k = absurd k
there_alike i p c d ps end (Acts b es) (Acts e fs) s k =
    let before = ap (λ xs. length xs) (whole_alike c d s) in
    let after = ap (λ xs. length xs) (whole_alike b e k.0) in
    subst (λ (n : ℕ). WalksAlike (nested_outcome i p c ps end (Acts b es)) (Walks e (indices_after_resize i n (length (whole e)) ps) (moved_end p n (length (whole e)) end) fs)) before
    (subst (λ (n : ℕ). WalksAlike (nested_outcome i p c ps end (Acts b es)) (Walks e (indices_after_resize i (length (whole c)) n ps) (moved_end p (length (whole c)) n end) fs)) after (k.0, refl, refl, k.1))
there_alike i p c d ps end (Acts b es) (Refuses y) s k = tt
there_alike i p c d ps end (Refuses x) q s k = tt

nested_at_alike : (act : ℕ → Action) (r : SequenceLookupRecord) (p : ℕ) (c d : Cut) (ps : List ℕ) (end : ℕ) → ((i : ℕ) → RuleDependsOnNoLength (act i)) → CutsAlike c d → WalksAlike (nested_outcome_at act r p c ps end) (nested_outcome_at act r p d ps end)
nested_at_alike act r p c d ps end k s =
    limited_walks (holds p c) (holds p d) (nested_outcome r.sequence_index p (cut_at p c) ps end (act r.lookup_index (cut_at p c))) (nested_outcome r.sequence_index p (cut_at p d) ps end (act r.lookup_index (cut_at p d))) TooLong TooLong
    (there_alike r.sequence_index p (cut_at p c) (cut_at p d) ps end (act r.lookup_index (cut_at p c)) (act r.lookup_index (cut_at p d)) (nested_cut_alike p c d s) (k r.lookup_index (cut_at p c) (cut_at p d) (nested_cut_alike p c d s)))

at_index_alike : (act : ℕ → Action) (r : SequenceLookupRecord) (o : Option ℕ) (c d : Cut) (ps : List ℕ) (end : ℕ) → ((i : ℕ) → RuleDependsOnNoLength (act i)) → CutsAlike c d → WalksAlike (outcome_at_index act r o c ps end) (outcome_at_index act r o d ps end)
at_index_alike act r None c d ps end k s = (s, refl, refl, refl)
at_index_alike act r (Some p) c d ps end k s = at_alike_cut c d (λ d. WalksAlike (outcome_at_index act r (Some p) c ps end) (outcome_at_index act r (Some p) d ps end)) s (λ limit scratch_flags e. by_test limit scratch_flags e (nat_lt p (length (whole c)) && has_budget c))
  where
    by_test : (limit scratch_flags : ℕ) → attachment_bit c.scratch_flags ≡ attachment_bit scratch_flags → (t : Bool) → WalksAlike (if t then nested_outcome_at act r p (with_budget_spent c) ps end else Walks c ps end []) (if t then nested_outcome_at act r p (with_budget_spent (cut_as limit scratch_flags c)) ps end else Walks (cut_as limit scratch_flags c) ps end [])
    by_test limit scratch_flags e true = nested_at_alike act r p (with_budget_spent c) (with_budget_spent (cut_as limit scratch_flags c)) ps end k (cuts_alike (with_budget_spent c) limit scratch_flags e)
    by_test limit scratch_flags e false = (cuts_alike c limit scratch_flags e, refl, refl, refl)

walked_later_alike : (es fs : List Event) (w u : RecordsOutcome) → es ≡ fs → WalksAlike w u → WalksAlike (walked_later es w) (walked_later fs u)
walked_later_alike es fs (Walks c ps end gs) (Walks d qs to hs) e k = (k.0, k.1, k.2, ap (λ (xs : List Event). xs ++ gs) e ∙ ap (λ (xs : List Event). fs ++ xs) k.3)
walked_later_alike es fs (Walks c ps end gs) (Stops y) e k = tt
walked_later_alike es fs (Stops x) u e k = tt

abbrev WayAlike : (Cut → List ℕ → ℕ → RecordsOutcome) → Type 0
WayAlike next = (c d : Cut) (ps : List ℕ) (end : ℕ) → CutsAlike c d → WalksAlike (next c ps end) (next d ps end)

then_walk_alike : (w u : RecordsOutcome) (next : Cut → List ℕ → ℕ → RecordsOutcome) → WalksAlike w u → WayAlike next → WalksAlike (then_walk w next) (then_walk u next)
then_walk_alike (Walks c ps end es) (Walks d qs to fs) next k n = walked_later_alike es fs (next c ps end) (next d qs to) k.3
    (subst (λ (xs : List ℕ). WalksAlike (next c ps end) (next d xs to)) k.1 (subst (λ (m : ℕ). WalksAlike (next c ps end) (next d ps m)) k.2 (n c d ps end k.0)))
then_walk_alike (Walks c ps end es) (Stops y) next k n = stopped_walks (then_walk (Walks c ps end es) next) y
then_walk_alike (Stops x) u next k n = tt

each_alike : (act : ℕ → Action) (records : List SequenceLookupRecord) → ((i : ℕ) → RuleDependsOnNoLength (act i)) → WayAlike (each_record act records)
each_alike act [] k c d ps end s = (s, refl, refl, refl)
each_alike act (r ∷ records) k c d ps end s = then_walk_alike (one_record act r c ps end) (one_record act r d ps end) (each_record act records) (at_index_alike act r (slice_get ps r.sequence_index) c d ps end k s) (each_alike act records k)

pub after_match_alike : (w u : RecordsOutcome) → WalksAlike w u → OutcomesAlike (cut_after_match w) (cut_after_match u)
after_match_alike (Walks c ps end es) (Walks d qs to fs) k =
    let place : min end (length (whole c)) ≡ min to (length (whole d)) = ap (λ (m : ℕ). min m (length (whole c))) k.2 ∙ ap (λ xs. min to (length xs)) (whole_alike c d k.0) in
    limited_outcomes (holds (min end (length (whole c))) c) (holds (min to (length (whole d))) d) (Acts (cut_at (min end (length (whole c))) c) es) (Acts (cut_at (min to (length (whole d))) d) fs) TooLong TooLong
    (subst (λ (m : ℕ). CutsAlike (cut_at (min end (length (whole c))) c) (cut_at m d)) place (nested_cut_alike (min end (length (whole c))) c d k.0), k.3)
after_match_alike (Walks c ps end es) (Stops y) k = refused_outcomes (cut_after_match (Walks c ps end es)) y
after_match_alike (Stops x) u k = tt

nested_alike : (act : ℕ → Action) (records : List SequenceLookupRecord) (ps : List ℕ) (end : ℕ) → ((i : ℕ) → RuleDependsOnNoLength (act i)) → RuleDependsOnNoLength (λ c. cut_after_match (each_record act records c ps end))
nested_alike act records ps end k c d s = after_match_alike (each_record act records c ps end) (each_record act records d ps end) (each_alike act records k c d ps end s)

pub nested_depend_on_no_length : NestedDependOnNoLength
nested_depend_on_no_length None records ps end k = λ c d s. after_match_alike (Walks c ps end []) (Walks d ps end []) (s, refl, refl, refl)
nested_depend_on_no_length (Some act) records ps end k = nested_alike act records ps end k

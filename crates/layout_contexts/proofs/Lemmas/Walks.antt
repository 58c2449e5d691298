-- One record after another, whatever the lookups do.
use Rattle.std.proofs.Common.{ℕ, ◌≡◌, ◌≢◌, ◌≤◌, ◌<◌, ◌+◌, true, false, Bool, List, [], ◌∷◌, length, drop, get_or, min, Result, Ok, Err, None, refl, sym, ap, subst, ◌∙◌, if◌then◌else◌, arith}
use Rattle.std.proofs.lemmas.List.{drop_more, drop_all, append-nil}
use Rattle.std.proofs.lemmas.Option.{slice_get_within, get_or_from_slice_get}
use Rattle.buffer_glyphs.specs.declared.cause.ShapeCause.{ShapeCause}
use Rattle.buffer_glyphs.specs.declared.cause.ShapeCause.TheVariants.{OutOfMemory, TooLong}
use Rattle.buffer_glyphs.specs.Events.{Event}
use Rattle.buffer_core.specs.Sides.{Sides, items_of}
use Rattle.layout_tables.specs.declared.context.SequenceLookupRecord.{SequenceLookupRecord}
use Rattle.buffer_stages.specs.Actions.{Cut, Action, Outcome, Passes, Acts, Refuses, whole}
use Rattle.buffer_stages.specs.Buffers.{cut_of, are_glyphs, IsStill}
use Rattle.buffer_stages.specs.Performing.{cut_with}
use Rattle.layout_contexts.specs.Shifts.{indices_after_resize, moved_end}
use Rattle.layout_contexts.specs.MatchIndices.{AreRising}
use Rattle.layout_contexts.specs.Nested.{RecordsOutcome, Walks, Stops, cut_at, cut_after_match, each_record, holds, nested_outcome, one_record, then_walk, walked_later}
use Rattle.layout_contexts.specs.Nesting.{IsLeft, Nests, Walking}
use Rattle.layout_contexts.specs.Records.{RecordBegins, IsRecordBegun}
use Rattle.layout_contexts.proofs.Lemmas.Steps.{here, passed_left, then_left, walk_behind, walk_there}
use Rattle.layout_contexts.proofs.Lemmas.Rising.{resized_rise}

-- some records were done; what the others leave from here, all leave from the start
pub record AreWalked (act : ℕ → Action) (all left : List SequenceLookupRecord) (before random : ℕ) (start now : Sides) (ps : List ℕ) (end : ℕ) (qs : List ℕ) (at : ℕ) : Type 0 where
  pub still : IsStill start now
  pub numbers : are_glyphs (items_of start) ≡ true → are_glyphs (items_of now) ≡ true
  pub walks : (result : Result ℕ ShapeCause) (rs : List ℕ) (after : ℕ) (final : Sides) → Walking (each_record act left (cut_with random now) qs at) result rs after now final → Walking (each_record act all (cut_with before start) ps end) result rs after start final

pub none_walked : (act : ℕ → Action) (all : List SequenceLookupRecord) (random : ℕ) (s : Sides) (ps : List ℕ) (end : ℕ) → AreWalked act all (drop 0 all) random random s s ps end ps end
none_walked act all random s ps end = record { still = refl; numbers = λ h. h; walks = λ result rs after final h. h }

pub all_walked : (act : ℕ → Action) (all : List SequenceLookupRecord) (k before random : ℕ) (start now : Sides) (ps : List ℕ) (end : ℕ) (qs : List ℕ) (at : ℕ) → length all ≤ k → AreWalked act all (drop k all) before random start now ps end qs at
    → Walking (each_record act all (cut_with before start) ps end) (Ok at) qs random start now
all_walked act all k before random start now ps end qs at le w =
    let none : each_record act (drop k all) (cut_with random now) qs at ≡ Walks (cut_with random now) qs at [] = rw (drop_all k all le) refl in
    let P : RecordsOutcome → Type 0 = λ v. Walking v (Ok at) qs random now now in
    w.walks (Ok at) qs random now (subst P (sym none) (refl, refl, here random now))

each_first : (act : ℕ → Action) (all : List SequenceLookupRecord) (k : ℕ) (r : SequenceLookupRecord) (c : Cut) (qs : List ℕ) (at : ℕ) → k < length all → r ≡ get_or all k r
    → each_record act (drop k all) c qs at ≡ then_walk (one_record act r c qs at) (each_record act (drop (k + 1) all))
each_first act all k r c qs at lt is = ap (λ rs. each_record act rs c qs at) (drop_more all k r lt ∙ ap (λ q. q ∷ drop (k + 1) all) (sym is))

failed : (w : RecordsOutcome) (next : Cut → List ℕ → ℕ → RecordsOutcome) (x : ShapeCause) (rs : List ℕ) (after : ℕ) (a b : Sides) → Walking w (Err x) rs after a b → Walking (then_walk w next) (Err x) rs after a b
failed (Stops cause) next x rs after a b h = by
  where
    by : x ≢ OutOfMemory → Stops cause ≡ Stops x
    by n = h n
failed (Walks cut ps end es) next x rs after a b h = by (next cut ps end)
  where
    by : (v : RecordsOutcome) → Walking (walked_later es v) (Err x) rs after a b
    by (Walks cut ps end fs) = λ n. let e = h n in cc
    by (Stops cause) = λ n. let e = h n in cc

-- the next record refuses
pub walk_failed : (act : ℕ → Action) (all : List SequenceLookupRecord) (k : ℕ) (r : SequenceLookupRecord) (before random after : ℕ) (start now final : Sides) (ps : List ℕ) (end : ℕ) (qs rs : List ℕ) (at : ℕ) (x : ShapeCause) → k < length all → r ≡ get_or all k r
    → AreWalked act all (drop k all) before random start now ps end qs at → Walking (one_record act r (cut_with random now) qs at) (Err x) rs after now final → Walking (each_record act all (cut_with before start) ps end) (Err x) rs after start final
walk_failed act all k r before random after start now final ps end qs rs at x lt is w h =
    let P : RecordsOutcome → Type 0 = λ v. Walking v (Err x) rs after now final in
    w.walks (Err x) rs after final (subst P (sym (each_first act all k r (cut_with random now) qs at lt is)) (failed (one_record act r (cut_with random now) qs at) (each_record act (drop (k + 1) all)) x rs after now final h))

stepped : (w : RecordsOutcome) (next : Cut → List ℕ → ℕ → RecordsOutcome) (at random : ℕ) (qs : List ℕ) (a b : Sides) → Walking w (Ok at) qs random a b → (x : Result ℕ ShapeCause) (rs : List ℕ) (after : ℕ) (final : Sides) → Walking (next (cut_with random b) qs at) x rs after b final → Walking (then_walk w next) x rs after a final
stepped (Stops cause) next at random qs a b h x rs after final g = absurd h
stepped (Walks cut ps end es) next at random qs a b h x rs after final g =
    let P : Cut → Type 0 = λ c. Walking (next c qs at) x rs after b final in
    let Q : List ℕ → Type 0 = λ ns. Walking (next cut ns at) x rs after b final in
    let R : ℕ → Type 0 = λ n. Walking (next cut ps n) x rs after b final in
    walk_behind cut es random after (next cut ps end) x rs a b final h.2 (subst R h.0 (subst Q h.1 (subst P h.2.cut_is g)))

still_of : (w : RecordsOutcome) (at random : ℕ) (qs : List ℕ) (a b : Sides) → Walking w (Ok at) qs random a b → IsStill a b
still_of (Stops cause) at random qs a b h = absurd h
still_of (Walks cut ps end es) at random qs a b h = h.2.still

numbers_of : (w : RecordsOutcome) (at random : ℕ) (qs : List ℕ) (a b : Sides) → Walking w (Ok at) qs random a b → are_glyphs (items_of a) ≡ true → are_glyphs (items_of b) ≡ true
numbers_of (Stops cause) at random qs a b h = absurd h
numbers_of (Walks cut ps end es) at random qs a b h = h.2.numbers

-- the next record is done
pub one_walked : (act : ℕ → Action) (all : List SequenceLookupRecord) (k : ℕ) (r : SequenceLookupRecord) (before random to_random : ℕ) (start now next : Sides) (ps : List ℕ) (end : ℕ) (qs : List ℕ) (at : ℕ) (rs : List ℕ) (to : ℕ) → k < length all → r ≡ get_or all k r
    → AreWalked act all (drop k all) before random start now ps end qs at → Walking (one_record act r (cut_with random now) qs at) (Ok to) rs to_random now next → AreWalked act all (drop (k + 1) all) before to_random start next ps end rs to
one_walked act all k r before random to_random start now next ps end qs at rs to lt is w h = record {
  still = still_of (one_record act r (cut_with random now) qs at) to to_random rs now next h ∙ w.still;
  numbers = λ n. numbers_of (one_record act r (cut_with random now) qs at) to to_random rs now next h (w.numbers n);
  walks = λ x zs after final g.
      let P : RecordsOutcome → Type 0 = λ v. Walking v x zs after now final in
      w.walks x zs after final (subst P (sym (each_first act all k r (cut_with random now) qs at lt is)) (stepped (one_record act r (cut_with random now) qs at) (each_record act (drop (k + 1) all)) to to_random rs now next h x zs after final g));
}

-- ---- one record, by what its beginning told

walking_err : (w : RecordsOutcome) (x : ShapeCause) (rs : List ℕ) (after : ℕ) (s t : Sides) → (x ≢ OutOfMemory → w ≡ Stops x) → Walking w (Err x) rs after s t
walking_err (Walks cut qs at es) x rs after s t h = h
walking_err (Stops cause) x rs after s t h = h

nests_refuses : (o : Outcome) (x : ShapeCause) (before after : ℕ) (s t : Sides) → Nests o (Err x) before after s t → x ≢ OutOfMemory → o ≡ Refuses x
nests_refuses (Passes es) x before after s t h = h
nests_refuses (Acts cut es) x before after s t h = h
nests_refuses (Refuses cause) x before after s t h = h

-- its lookup refuses
pub lookup_refused : (act : ℕ → Action) (r : SequenceLookupRecord) (ps rs : List ℕ) (p end random after : ℕ) (x : ShapeCause) (s t u : Sides) → IsRecordBegun r ps p s t → Nests (act r.lookup_index (cut_with random t)) (Err x) random after t u
    → Walking (one_record act r (cut_with random s) ps end) (Err x) rs after s u
lookup_refused act r ps rs p end random after x s t u b h =
    walking_err (one_record act r (cut_with random s) ps end) x rs after s u (λ n. b.does random act end ∙ ap (nested_outcome r.sequence_index p (cut_with random t) ps end) (nests_refuses (act r.lookup_index (cut_with random t)) x random after t u h n))

by_outcome : (o : Outcome) (i p end random after : ℕ) (ps : List ℕ) (t u : Sides) → Nests o (Ok false) random after t u → Walking (nested_outcome i p (cut_with random t) ps end o) (Ok end) ps after t u
by_outcome (Passes es) i p end random after ps t u h =
    let P : ℕ → Type 0 = λ n. IsLeft (cut_with random t) es n t u in
    (refl, refl, subst P (sym h.1) (passed_left es random t u h.2))
by_outcome (Acts cut es) i p end random after ps t u h = cc
by_outcome (Refuses cause) i p end random after ps t u h = absurd h

-- its lookup passes
pub lookup_passed : (act : ℕ → Action) (r : SequenceLookupRecord) (ps : List ℕ) (p end random after : ℕ) (s t u : Sides) → IsRecordBegun r ps p s t → Nests (act r.lookup_index (cut_with random t)) (Ok false) random after t u
    → Walking (one_record act r (cut_with random s) ps end) (Ok end) ps after s u
lookup_passed act r ps p end random after s t u b h =
    let there = by_outcome (act r.lookup_index (cut_with random t)) r.sequence_index p end random after ps t u h in
    let P : RecordsOutcome → Type 0 = λ w. Walking w (Ok end) ps after s u in
    subst P (sym (b.does random act end)) (walk_there _ random after _ (Ok end) ps s t u (b.left random) there)

by_acting : (o : Outcome) (i p end random after n m to : ℕ) (ps rs : List ℕ) (t u : Sides) → Nests o (Ok true) random after t u → n ≡ length (whole (cut_of t)) → m ≡ length (whole (cut_of u)) → rs ≡ indices_after_resize i n m ps → to ≡ moved_end p n m end
    → Walking (nested_outcome i p (cut_with random t) ps end o) (Ok to) rs after t u
by_acting (Passes es) i p end random after n m to ps rs t u h en em er et = cc
by_acting (Acts cut es) i p end random after n m to ps rs t u h en em er et =
    let long : m ≡ length (whole cut) = em ∙ ap (λ (c : Cut). length (whole c)) h.1.cut_is in (
      et ∙ ap (λ b. moved_end p b m end) en ∙ ap (λ a. moved_end p (length (whole (cut_of t))) a end) long,
      er ∙ ap (λ b. indices_after_resize i b m ps) en ∙ ap (λ a. indices_after_resize i (length (whole (cut_of t))) a ps) long,
      h.1,
    )
by_acting (Refuses cause) i p end random after n m to ps rs t u h en em er et = absurd h

-- its lookup acts, and indices and end are settled
pub lookup_acted : (act : ℕ → Action) (r : SequenceLookupRecord) (ps rs : List ℕ) (p end to n m random after : ℕ) (s t u : Sides) → IsRecordBegun r ps p s t → Nests (act r.lookup_index (cut_with random t)) (Ok true) random after t u
    → n ≡ length (whole (cut_of t)) → m ≡ length (whole (cut_of u)) → rs ≡ indices_after_resize r.sequence_index n m ps → to ≡ moved_end p n m end → Walking (one_record act r (cut_with random s) ps end) (Ok to) rs after s u
lookup_acted act r ps rs p end to n m random after s t u b h en em er et =
    let there = by_acting (act r.lookup_index (cut_with random t)) r.sequence_index p end random after n m to ps rs t u h en em er et in
    let P : RecordsOutcome → Type 0 = λ w. Walking w (Ok to) rs after s u in
    subst P (sym (b.does random act end)) (walk_there _ random after _ (Ok to) rs s t u (b.left random) there)

-- ---- indices stay inside the list, where the lookup keeps what is before it

pub still_inside : (r : SequenceLookupRecord) (ps rs : List ℕ) (p low n m : ℕ) (s t : Sides) → IsRecordBegun r ps p s t → AreRising low (n + 1) ps → p ≤ m → rs ≡ indices_after_resize r.sequence_index n m ps → AreRising low (m + 1) rs
still_inside r ps rs p low n m s t b rising le er =
    let is : get_or ps r.sequence_index 0 ≡ p = get_or_from_slice_get ps r.sequence_index p 0 b.index in
    let P : List ℕ → Type 0 = λ qs. AreRising low (m + 1) qs in
    subst P (sym er) (resized_rise r.sequence_index low n m ps (slice_get_within ps r.sequence_index p b.index) rising (omega (arith, is, le)))

pub end_inside : (p n m end to : ℕ) → end ≤ n → p ≤ m → to ≡ moved_end p n m end → to ≤ m
end_inside p n m end to le below e = omega (arith, le, below, e)

-- ---- after the match

ended : (t : Bool) (cut : Cut) (es : List Event) (c : Cut) (y : Result Bool ShapeCause) (before random after : ℕ) (a b final : Sides) → IsLeft cut es random a b → Nests (if t then Acts c [] else Refuses TooLong) y random after b final → Nests (if t then Acts c es else Refuses TooLong) y before after a final
ended true cut es c (Ok acted) before random after a b final f h = (h.0, let P : List Event → Type 0 = λ fs. IsLeft c fs after a final in subst P (append-nil es) (then_left cut c es [] random after a b final f h.1))
ended false cut es c (Ok acted) before random after a b final f h = absurd h
ended true cut es c (Err x) before random after a b final f h = λ n. let e = h n in cc
ended false cut es c (Err x) before random after a b final f h = h

-- the way after the match comes after the records
pub act_ended : (w : RecordsOutcome) (at before random after : ℕ) (qs : List ℕ) (y : Result Bool ShapeCause) (a b final : Sides) → Walking w (Ok at) qs random a b → Nests (cut_after_match (Walks (cut_with random b) [] at [])) y random after b final → Nests (cut_after_match w) y before after a final
act_ended (Stops cause) at before random after qs y a b final h g = absurd h
act_ended (Walks cut ps end es) at before random after qs y a b final h g =
    let left = h.2 in
    let P : Cut → Type 0 = λ c. Nests (cut_after_match (Walks c [] at [])) y random after b final in
    let Q : ℕ → Type 0 = λ n. Nests (cut_after_match (Walks cut [] n [])) y random after b final in
    let there = subst Q h.0 (subst P left.cut_is g) in
    ended (holds (min end (length (whole cut))) cut) cut es (cut_at (min end (length (whole cut))) cut) y before random after a b final left there

-- records that refuse
pub act_failed : (w : RecordsOutcome) (x : ShapeCause) (before after : ℕ) (qs : List ℕ) (a final : Sides) → Walking w (Err x) qs after a final → Nests (cut_after_match w) (Err x) before after a final
act_failed (Stops cause) x before after qs a final h = λ n. ap cut_after_match (h n)
act_failed (Walks cut ps end es) x before after qs a final h = by (cut_after_match (Walks cut ps end es)) (λ n. ap cut_after_match (h n))
  where
    by : (o : Outcome) → (x ≢ OutOfMemory → o ≡ Refuses x) → Nests o (Err x) before after a final
    by (Passes fs) g = g
    by (Acts c fs) g = g
    by (Refuses c) g = g

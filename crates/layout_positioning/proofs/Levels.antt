-- Lookups nested in others, level by level.
use Rattle.std.proofs.Common.{ℕ, zero, suc, ◌≡◌, ◌≢◌, ◌-◌, Ok, Err, false, Bool, List, Option, Some, None, slice_get, refl, sym, ap, subst, arith}
use Rattle.std.specs.Prelude.{Result}
use Rattle.buffer_common.specs.declared.direction.Direction.{Direction}
use Rattle.buffer_glyphs.specs.declared.cause.ShapeCause.{ShapeCause}
use Rattle.buffer_glyphs.specs.declared.cause.ShapeCause.TheVariants.{OutOfMemory}
use Rattle.buffer_core.specs.Sides.{Sides}
use Rattle.layout_face.specs.declared.positioning.PositioningLookup.{PositioningLookup}
use Rattle.layout_match.specs.Applied.{ApplyContext}
use Rattle.layout_tables.specs.declared.context.SequenceLookupRecord.{SequenceLookupRecord}
use Rattle.layout_contexts.specs.Nested.{one_record}
use Rattle.layout_contexts.specs.Nesting.{Walking}
use Rattle.layout_contexts.specs.Records.{IsRecordBegun}
use Rattle.layout_contexts.proofs.Lemmas.Steps.{performs_nests}
use Rattle.layout_contexts.proofs.Lemmas.Walks.{lookup_refused}
use Rattle.buffer_stages.proofs.Lemmas.Frames.{still_direction}
use Rattle.buffer_stages.specs.Actions.{Action, Refuses}
use Rattle.buffer_stages.specs.Performing.{cut_with, Performs}
use Rattle.buffer_stages.proofs.Lemmas.Performed.{passes_nothing}
use Rattle.layout_positioning.specs.Lookups.{first_subtable, nested_actions, nested_act, nested_lookup, under_flag}

pub no_depth : (table : List PositioningLookup) (depth : ℕ) (d : Direction) (a : ApplyContext) → depth ≡ 0 → nested_actions table depth d a ≡ None
unfolding nested_actions
no_depth table zero d a e = refl
no_depth table (suc depth) d a e = absurd (omega (arith, e))

pub some_depth : (table : List PositioningLookup) (depth : ℕ) (d : Direction) (a : ApplyContext) → depth ≢ 0 → nested_actions table depth d a ≡ Some (nested_act table (depth - 1) d a)
unfolding nested_actions
some_depth table zero d a n = absurd (n refl)
some_depth table (suc depth) d a n = let e : suc depth - 1 ≡ depth = omega arith in rw e refl

pub no_lookup : (below : ApplyContext → Option (ℕ → Action)) (o : Option PositioningLookup) (d : Direction) (a : ApplyContext) (r : ℕ) (s : Sides) → None ≡ o → Performs (nested_lookup below o d a (cut_with r s)) (Ok false) r r s s
no_lookup below o d a r s e = passes_nothing r s (nested_lookup below o d a (cut_with r s)) (ap (λ q. nested_lookup below q d a (cut_with r s)) (sym e))

-- a lookup is applied with its own flag
pub lookup_there : (below : ApplyContext → Option (ℕ → Action)) (o : Option PositioningLookup) (lookup : PositioningLookup) (d : Direction) (a b : ApplyContext) (r q : ℕ) (y : Result Bool ShapeCause) (s new : Sides) → Some lookup ≡ o → b ≡ under_flag lookup a → q ≡ r
    → Performs (first_subtable (below b) d b lookup.subtables (cut_with q s)) y q q s new → Performs (nested_lookup below o d a (cut_with r s)) y r r s new
lookup_there below o lookup d a b r q y s new e flag same w =
    let P : ApplyContext → Type 0 = λ k. Performs (first_subtable (below k) d k lookup.subtables (cut_with q s)) y q q s new in
    let Q : ℕ → Type 0 = λ n. Performs (first_subtable (below (under_flag lookup a)) d (under_flag lookup a) lookup.subtables (cut_with n s)) y n n s new in
    let R : Option PositioningLookup → Type 0 = λ p. Performs (nested_lookup below p d a (cut_with r s)) y r r s new in
    subst R e (subst Q same (subst P flag w))

-- a record's lookup refuses
pub record_lookup_refused : (table : List PositioningLookup) (depth : ℕ) (a : ApplyContext) (k : SequenceLookupRecord) (ps rs : List ℕ) (p end r : ℕ) (x : ShapeCause) (s t u : Sides) → IsRecordBegun k ps p s t
    → (x ≢ OutOfMemory → nested_lookup (nested_actions table depth t.direction) (slice_get table k.lookup_index) t.direction a (cut_with r t) ≡ Refuses x) → Walking (one_record (nested_act table depth s.direction a) k (cut_with r s) ps end) (Err x) rs r s u
record_lookup_refused table depth a k ps rs p end r x s t u b h =
    let P : Direction → Type 0 = λ d. Performs (nested_act table depth d a k.lookup_index (cut_with r t)) (Err x) r r t u in
    let there = subst P (still_direction s t (b.left r).still) h in
    lookup_refused (nested_act table depth s.direction a) k ps rs p end r r x s t u b (performs_nests (nested_act table depth s.direction a k.lookup_index (cut_with r t)) (Err x) r r t u there)

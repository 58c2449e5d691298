-- All lookups of positioning are local or idle, and steady, and lose no flag.
use Rattle.std.proofs.Common.{ℕ, zero, suc, List, [], ◌∷◌, Option, Some, None, length, arith, refl, ◌∙◌}
use Rattle.std.specs.Prelude.{slice_get}
use Rattle.buffer_common.specs.declared.direction.Direction.{Direction}
use Rattle.buffer_glyphs.specs.declared.level.BufferClusterLevel.TheVariants.{MonotoneGraphemes}
use Rattle.layout_face.specs.declared.positioning.PositioningLookup.{PositioningLookup}
use Rattle.layout_face.specs.declared.positioning.PositioningSubtables.{PositioningSubtables}
use Rattle.layout_face.specs.declared.positioning.PositioningSubtables.TheVariants.{Single, Pair, Cursive, MarkToBase, MarkToLigature, MarkToMark, Context, ChainContext}
use Rattle.buffer_stages.specs.Actions.{Cut, whole, Outcome, Passes, Acts, Refuses, Action}
use Rattle.buffer_parts.specs.Rules.{OutcomeKeepsParts}
use Rattle.layout_match.specs.Applied.{ApplyContext}
use Rattle.layout_match.specs.Trying.{meets, at_met}
use Rattle.layout_contexts.specs.Chains.{context_subtable}
use Rattle.layout_gpos.specs.Marks.{mark_to_base, mark_to_ligature, mark_to_mark}
use Rattle.layout_gpos.specs.Singles.{single_subtable}
use Rattle.layout_positioning.specs.Joins.{cursive_subtable}
use Rattle.layout_positioning.specs.Lookups.{first_subtable, under_flag, nested_lookup, nested_actions, lookup_action}
use Rattle.layout_laws.proofs.Lemmas.Rules.{NestRelated}
use Rattle.layout_laws.proofs.Lemmas.KeptRules.{by_parts, positioned_by_parts}
use Rattle.layout_laws.proofs.Lemmas.Positionings.{IsPositioned, nest_related, action_related}
use Rattle.layout_laws.specs.Breaks.Local.{IsLocalOrIdle, Steps}
use Rattle.layout_laws.specs.Breaks.Positioned.{ArePlaced}
use Rattle.layout_laws.specs.Breaks.PositionLaws.{AdjustmentsAreLocal, PairsAreLocal, JoinsAreLocal, MarksAreLocal, PositioningsAreLocal, PositioningsAreSteady}
use Rattle.layout_laws.proofs.BreakLemmas.Outcomes.{first_local, passes_local, local_or_idle}
use Rattle.layout_laws.proofs.BreakLemmas.Passes.{count_without}
use Rattle.layout_laws.proofs.BreakLemmas.Records.{SpendsAt, NestLocal}
use Rattle.layout_laws.proofs.BreakLemmas.Contexts.{context_local}
use Rattle.layout_laws.proofs.BreakLemmas.Rules.{met_local_or_idle}
use Rattle.layout_laws.proofs.BreakLemmas.Lookups.{by_spending, spending_substituted}
use Rattle.layout_laws.proofs.BreakLemmas.Steady.{Consumes, IsConsuming, item_consumes, test_consumes, step_from}
use Rattle.layout_laws.proofs.BreakLemmas.Lossless.{LosesNone, by_losing, losing_substituted}
use Rattle.layout_laws.proofs.BreakLemmas.Placed.{placed_of_whole}
use Rattle.layout_laws.proofs.BreakLemmas.Pairs.{single_local, pairs_local}
use Rattle.layout_laws.proofs.BreakLemmas.Marks.{to_base_local, to_ligature_local, to_mark_local}
use Rattle.layout_laws.proofs.BreakLemmas.Cursives.{cursive_local}
use Rattle.layout_laws.proofs.BreakLemmas.Moving.{subtables_consume}

-- ---- rules

pub adjustments_are_local : AdjustmentsAreLocal
adjustments_are_local d rows = single_local d rows

pub pairs_are_local : PairsAreLocal
pairs_are_local d a subtables = pairs_local d a subtables

pub joins_are_local : JoinsAreLocal
joins_are_local d a rows = cursive_local d a rows

pub marks_are_local : MarksAreLocal
marks_are_local = record { bases = to_base_local; ligatures = to_ligature_local; marks = to_mark_local }

-- ---- what lookups of positioning spend, and which flags they lose

pub spending_positioned : IsPositioned by_spending
spending_positioned = record {
  closed = spending_substituted.closed;
  placed = λ i n ps c. (λ e. e, λ few. omega arith);
  broken = λ i n back ahead ps c. (λ e. e, λ few. omega arith);
  strictly_broken = λ i n ahead ps c. (λ e. e, λ few. omega arith);
  attached = λ i near n back ahead ps c. (λ e. e, λ few. omega arith);
}

pub losing_positioned : IsPositioned by_losing
losing_positioned = record {
  closed = losing_substituted.closed;
  placed = λ i n ps c m. tt;
  broken = λ i n back ahead ps c m. (tt, tt);
  strictly_broken = λ i n ahead ps c m. (tt, tt);
  attached = λ i near n back ahead ps c m. (tt, tt);
}

pub positionings_lose_none : (table : List PositioningLookup) (d : Direction) (a : ApplyContext) (lookup : PositioningLookup) (c : Cut) → LosesNone (lookup_action table d a lookup c)
positionings_lose_none table d a lookup c = action_related by_losing tt losing_positioned table d a lookup c

-- ---- lookups

subtables_local : (nest : Option (ℕ → Action)) → NestLocal ArePlaced nest → (d : Direction) (a : ApplyContext) (s : PositioningSubtables) → IsLocalOrIdle ArePlaced (first_subtable nest d a s)
subtables_local nest inner d a (Single subtables) = local_or_idle ArePlaced (first_subtable nest d a (Single subtables)) (first_local ArePlaced (λ s. single_subtable d s.rows) subtables (λ s. single_local d s.rows))
subtables_local nest inner d a (Pair subtables) = pairs_local d a subtables
subtables_local nest inner d a (Cursive subtables) = local_or_idle ArePlaced (first_subtable nest d a (Cursive subtables)) (first_local ArePlaced (λ s. cursive_subtable d a s.rows) subtables (λ s. cursive_local d a s.rows))
subtables_local nest inner d a (MarkToBase subtables) = local_or_idle ArePlaced (first_subtable nest d a (MarkToBase subtables)) (first_local ArePlaced (mark_to_base a) subtables (λ s. to_base_local a s))
subtables_local nest inner d a (MarkToLigature subtables) = local_or_idle ArePlaced (first_subtable nest d a (MarkToLigature subtables)) (first_local ArePlaced (mark_to_ligature a) subtables (λ s. to_ligature_local a s))
subtables_local nest inner d a (MarkToMark subtables) = local_or_idle ArePlaced (first_subtable nest d a (MarkToMark subtables)) (first_local ArePlaced (mark_to_mark a) subtables (λ s. to_mark_local a s))
subtables_local nest inner d a (Context subtables) = local_or_idle ArePlaced (first_subtable nest d a (Context subtables)) (first_local ArePlaced (context_subtable nest a) subtables (λ s. context_local ArePlaced placed_of_whole nest inner a s))
subtables_local nest inner d a (ChainContext subtables) = local_or_idle ArePlaced (first_subtable nest d a (ChainContext subtables)) (first_local ArePlaced (context_subtable nest a) subtables (λ s. context_local ArePlaced placed_of_whole nest inner a s))

nested_local : (below : ApplyContext → Option (ℕ → Action)) → ((b : ApplyContext) → NestLocal ArePlaced (below b)) → (o : Option PositioningLookup) (d : Direction) (a : ApplyContext) → IsLocalOrIdle ArePlaced (nested_lookup below o d a)
nested_local below inner None d a = local_or_idle ArePlaced (nested_lookup below None d a) (passes_local ArePlaced)
nested_local below inner (Some lookup) d a = subtables_local (below (under_flag lookup a)) (inner (under_flag lookup a)) d (under_flag lookup a) lookup.subtables

nests_local : (table : List PositioningLookup) (depth : ℕ) (d : Direction) (a : ApplyContext) → NestRelated by_parts (nested_actions table depth d a) → NestRelated by_spending (nested_actions table depth d a) → NestLocal ArePlaced (nested_actions table depth d a)
unfolding nested_actions
nests_local table zero d a keeps spends = tt
nests_local table (suc depth) d a keeps spends =
    (λ i. nested_local (nested_actions table depth d) (λ b. nests_local table depth d b (nest_related by_parts positioned_by_parts table depth d b) (nest_related by_spending spending_positioned table depth d b)) (slice_get table i) d a, λ i c. keeps i tt c, λ i c. spends i tt c)

pub positionings_are_local : PositioningsAreLocal
positionings_are_local table d a lookup =
    met_local_or_idle ArePlaced a (first_subtable (nested_actions table 64 d a) d a lookup.subtables)
    (subtables_local (nested_actions table 64 d a) (nests_local table 64 d a (nest_related by_parts positioned_by_parts table 64 d a) (nest_related by_spending spending_positioned table 64 d a)) d a lookup.subtables)

-- ---- steps

lookup_consumes : (table : List PositioningLookup) (d : Direction) (a : ApplyContext) (lookup : PositioningLookup) → IsConsuming (lookup_action table d a lookup)
lookup_consumes table d a lookup = item_consumes (at_met a (first_subtable (nested_actions table 64 d a) d a lookup.subtables)) (λ c x xs.
    let e : Cut = record c { rest = x ∷ xs } in
    test_consumes e (meets a x) (first_subtable (nested_actions table 64 d a) d a lookup.subtables e) (Passes []) (subtables_consume (nested_actions table 64 d a) d a lookup.subtables e (omega arith)) refl)

pub positionings_are_steady : PositioningsAreSteady
positionings_are_steady table d a lookup c some =
    step_from c (lookup_action table d a lookup c) (lookup_consumes table d a lookup c some) (action_related by_spending tt spending_positioned table d a lookup c) (action_related by_parts tt positioned_by_parts table d a lookup c)

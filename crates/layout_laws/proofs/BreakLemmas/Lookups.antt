-- All lookups of substitution that are tried from the left are local.
use Rattle.std.proofs.Common.{ℕ, zero, suc, ◌≡◌, ◌≤◌, ◌+◌, Bool, true, false, nat_le, min, if◌then◌else◌, List, [], ◌∷◌, ◌++◌, Option, Some, None, length, arith, refl, ap, sym, ◌∙◌}
use Rattle.std.specs.Prelude.{◌%◌, slice_get}
use Rattle.buffer_glyphs.specs.declared.cause.ShapeCause.TheVariants.{TooLong}
use Rattle.buffer_glyphs.specs.Items.{Item}
use Rattle.buffer_glyphs.specs.Events.{Event, Break, Replace}
use Rattle.layout_face.specs.declared.parts.GlyphDefinition.{GlyphDefinition}
use Rattle.layout_face.specs.declared.substitution.SubstLookup.{SubstLookup}
use Rattle.layout_face.specs.declared.substitution.SubstitutionSubtables.{SubstitutionSubtables}
use Rattle.layout_face.specs.declared.substitution.SubstitutionSubtables.TheVariants.{Single, Multiple, Alternate, Ligature, Context, ChainContext, ReverseChainSingle}
use Rattle.layout_tables.specs.declared.context.SequenceLookupRecord.{SequenceLookupRecord}
use Rattle.buffer_stages.specs.Actions.{Cut, whole, Outcome, Passes, Acts, Refuses, Action, within_limit, later, or_else}
use Rattle.layout_match.specs.Applied.{ApplyContext, own_search, next_random}
use Rattle.layout_match.specs.Matches.{input_indices}
use Rattle.layout_contexts.specs.Nested.{RecordsOutcome, Walks, Stops, cut_at, holds, each_nested, cut_after_match}
use Rattle.layout_contexts.specs.Chains.{context_subtable}
use Rattle.layout_gsub.specs.Alternates.{alternate_subtable}
use Rattle.layout_gsub.specs.Ligating.{items_at, has_own_number, last_given, ligature_subst}
use Rattle.layout_gsub.specs.Multiples.{multiple_subtable}
use Rattle.layout_gsub.specs.Replacements.{single_substitution, single_subtable, cut_with_substitute}
use Rattle.layout_substitution.specs.Lookups.{first_subtable, under_flag, nested_lookup, nested_actions}
use Rattle.buffer_core.specs.Settings.{next_lig_id}
use Rattle.buffer_parts.specs.Counting.{is_left}
use Rattle.layout_laws.proofs.Lemmas.Rules.{Limits, NestRelated, IsClosed}
use Rattle.layout_laws.proofs.Lemmas.Substitutions.{IsSubstituted, nest_related}
use Rattle.layout_laws.proofs.Lemmas.KeptRules.{by_parts, substituted_by_parts}
use Rattle.buffer_parts.specs.Breaks.Concat.{without_concats}
use Rattle.buffer_parts.specs.Breaks.Divisible.{merges}
use Rattle.layout_laws.specs.Breaks.Local.{AnyPositions, IsLocal}
use Rattle.layout_laws.specs.Breaks.LookupLaws.{LookupsAreLocal}
use Rattle.layout_laws.proofs.BreakLemmas.Outcomes.{first_local, passes_local, local_or_idle}
use Rattle.layout_laws.proofs.BreakLemmas.Singles.{single_local, multiple_local, alternate_local}
use Rattle.layout_laws.proofs.BreakLemmas.Ligatures.{ligature_local, next_small}
use Rattle.layout_laws.proofs.BreakLemmas.Records.{SpendsAt, RecordsSpend, each_spends, NestLocal}
use Rattle.layout_laws.proofs.BreakLemmas.Contexts.{context_local}
use Rattle.layout_laws.proofs.BreakLemmas.Rules.{met_local}
use Rattle.buffer_parts.proofs.BreakLemmas.Division.{without_both, merges_both}

-- ---- what all rules spend

abbrev pub by_spending : Limits
by_spending = record {
  Index = Unit {0};
  Holds = λ i c o p. SpendsAt c o;
  limit = λ i c. c.max_len;
  scratch_flags = λ i c. c.scratch_flags;
  budget = λ i c. c.max_ops;
}

later_spends : (c : Cut) (es : List Event) (o : Outcome) → SpendsAt c o → SpendsAt c (later es o)
later_spends c es (Passes fs) h = tt
later_spends c es (Acts d fs) h = (
  h.0,
  λ few.
      let both : merges (without_concats (es ++ fs)) ≡ merges (without_concats es) + merges (without_concats fs) = ap merges (without_both es fs) ∙ merges_both (without_concats es) (without_concats fs) in
      let first = h.1 (omega (arith, few, both)) in
      omega (arith, both, first),
)
later_spends c es (Refuses x) h = tt

either_spends : (c : Cut) (o second : Outcome) → SpendsAt c o → SpendsAt c second → SpendsAt c (or_else o second)
either_spends c (Passes es) second h k = later_spends c es second k
either_spends c (Acts d es) second h k = h
either_spends c (Refuses x) second h k = tt

limit_spends : (n : ℕ) (c a : Cut) (o : Outcome) → SpendsAt c o → SpendsAt c (within_limit n a o)
limit_spends n c a o h = by_test (nat_le (length a.front + n) a.max_len)
  where
    by_test : (t : Bool) → SpendsAt c (if t then o else Refuses TooLong)
    by_test true = h
    by_test false = tt

match_spends : (c : Cut) (a : RecordsOutcome) → RecordsSpend c a → SpendsAt c (cut_after_match a)
match_spends c (Stops x) h = tt
match_spends c (Walks w ps end es) h = by_test (holds (min end (length (whole w))) w)
  where
    by_test : (t : Bool) → SpendsAt c (if t then Acts (cut_at (min end (length (whole w))) w) es else Refuses TooLong)
    by_test true = h
    by_test false = tt

nested_spend : (nest : Option (ℕ → Action)) (records : List SequenceLookupRecord) (ps : List ℕ) (end : ℕ) (c : Cut) → NestRelated by_spending nest → SpendsAt c (cut_after_match (each_nested nest records c ps end))
nested_spend None records ps end c k = match_spends c (Walks c ps end []) (λ e. e, λ e. omega arith)
nested_spend (Some act) records ps end c k = match_spends c (each_nested (Some act) records c ps end) (each_spends act (λ n d. k n tt d) records c ps end)

spending_closed : IsClosed by_spending
spending_closed = record {
  passes = λ i c. tt;
  attempts = λ i back ahead c. tt;
  either = λ i c o p second third f g. either_spends c o second f g;
  breaks = λ i from to c o p f. later_spends c (Break from to ∷ []) o f;
  nested = λ i nest records ps end c k. nested_spend nest records ps end c k;
}

one_spends : (gdef : GlyphDefinition) (o : Option ℕ) (c a : Cut) → a.max_ops ≡ c.max_ops → a.lig_id ≡ c.lig_id → SpendsAt c (single_substitution gdef o a)
one_spends gdef None c a e f = tt
one_spends gdef (Some glyph) c a e f = limit_spends 1 c a (Acts (cut_with_substitute gdef glyph a) []) (λ g. ap is_left (sym e) ∙ g, λ g. omega (arith, f))

lig_spends : (parts : List Item) (last more : ℕ) → last + suc more ≤ 7 → last_given parts last ≤ last + suc more
lig_spends parts last more few = by_own (has_own_number parts)
  where
    by_own : (b : Bool) → (if b then next_lig_id last else last) ≤ last + suc more
    by_own true = let n = next_small last (omega (arith, few)) in omega (arith, n)
    by_own false = omega arith

pub spending_substituted : IsSubstituted by_spending
spending_substituted = record {
  closed = spending_closed;
  one = λ i gdef glyph c. one_spends gdef (Some glyph) c c refl refl;
  drawn = λ i gdef glyphs c. later_spends c (Break 0 (length (whole c)) ∷ []) (single_substitution gdef (slice_get glyphs (next_random c.random % length glyphs)) (record c { random = next_random c.random })) (one_spends gdef (slice_get glyphs (next_random c.random % length glyphs)) c (record c { random = next_random c.random }) refl refl);
  several = λ i gdef glyph next more x c there. limit_spends (length (glyph ∷ next ∷ more)) c c (Acts _ (Replace (length c.front) 1 (length (glyph ∷ next ∷ more)) ∷ [])) (λ e. e, λ e. omega arith);
  none = λ i x c there. (λ e. e, λ e. omega arith);
  ligature = λ i a glyph end tests x c there found. limit_spends _ c c (Acts _ _) (λ e. e, λ few. lig_spends (items_at (input_indices (own_search a c.rest) tests c.rest) c.rest) c.lig_id _ few);
  there = λ i gdef glyph ahead back c. (λ e. e, λ e. omega arith);
}

-- ---- lookups

subtables_local : (nest : Option (ℕ → Action)) → NestLocal AnyPositions nest → (a : ApplyContext) (s : SubstitutionSubtables) → IsLocal AnyPositions (first_subtable nest a s)
subtables_local nest inner a (Single subtables) = first_local AnyPositions (λ s. single_subtable a.font.gdef s.rows) subtables (λ s. single_local a.font.gdef s.rows)
subtables_local nest inner a (Multiple subtables) = first_local AnyPositions (λ s. multiple_subtable a.font.gdef s.rows) subtables (λ s. multiple_local a.font.gdef s.rows)
subtables_local nest inner a (Alternate subtables) = first_local AnyPositions (λ s. alternate_subtable a.font.gdef a.random a.mask s.rows) subtables (λ s. alternate_local a.font.gdef a.random a.mask s.rows)
subtables_local nest inner a (Ligature subtables) = first_local AnyPositions (ligature_subst a) subtables (λ s. ligature_local a s)
subtables_local nest inner a (Context subtables) = first_local AnyPositions (context_subtable nest a) subtables (λ s. context_local AnyPositions (λ o c d p q r. tt) nest inner a s)
subtables_local nest inner a (ChainContext subtables) = first_local AnyPositions (context_subtable nest a) subtables (λ s. context_local AnyPositions (λ o c d p q r. tt) nest inner a s)
subtables_local nest inner a (ReverseChainSingle subtables) = passes_local AnyPositions

nested_local : (below : ApplyContext → Option (ℕ → Action)) → ((a : ApplyContext) → NestLocal AnyPositions (below a)) → (o : Option SubstLookup) (a : ApplyContext) → IsLocal AnyPositions (nested_lookup below o a)
nested_local below inner None a = passes_local AnyPositions
nested_local below inner (Some lookup) a = subtables_local (below (under_flag lookup a)) (inner (under_flag lookup a)) (under_flag lookup a) lookup.subtables

nests_local : (table : List SubstLookup) (depth : ℕ) (a : ApplyContext) → NestRelated by_parts (nested_actions table depth a) → NestRelated by_spending (nested_actions table depth a) → NestLocal AnyPositions (nested_actions table depth a)
unfolding nested_actions
nests_local table zero a keeps spends = tt
nests_local table (suc depth) a keeps spends =
    (λ i. local_or_idle AnyPositions (nested_lookup (nested_actions table depth) (slice_get table i) a) (nested_local (nested_actions table depth) (λ b. nests_local table depth b (nest_related by_parts substituted_by_parts table depth b) (nest_related by_spending spending_substituted table depth b)) (slice_get table i) a), λ i c. keeps i tt c, λ i c. spends i tt c)

pub lookups_are_local : LookupsAreLocal
lookups_are_local table a lookup =
    met_local AnyPositions a (first_subtable (nested_actions table 64 a) a lookup.subtables)
    (subtables_local (nested_actions table 64 a) (nests_local table 64 a (nest_related by_parts substituted_by_parts table 64 a) (nest_related by_spending spending_substituted table 64 a)) a lookup.subtables)

-- Lookups of substitution take steps: where they act, fewer items are left.
use Rattle.std.proofs.Common.{ℕ, suc, ◌≡◌, ◌≤◌, ◌<◌, ◌+◌, ◌-◌, ◌==◌, ◌&&◌, ◌||◌, Bool, true, false, not, nat_lt, nat_le, min, if◌then◌else◌, List, [], ◌∷◌, Option, Some, None, Result, Ok, Err, length, map, drop, arith, refl, ap, subst, ◌∙◌}
use Rattle.std.specs.Prelude.{◌%◌, slice_get}
use Rattle.std.proofs.lemmas.List.{length-append, length-drop}
use Rattle.std.proofs.lemmas.Option.{slice_get-get_or}
use Rattle.buffer_glyphs.specs.declared.cause.ShapeCause.TheVariants.{TooLong}
use Rattle.buffer_glyphs.specs.declared.level.BufferClusterLevel.TheVariants.{MonotoneGraphemes}
use Rattle.buffer_glyphs.specs.Items.{Item}
use Rattle.buffer_glyphs.specs.Parts.{first_of}
use Rattle.buffer_glyphs.specs.LigatureWords.{lig_comp, lig_id, lig_num_comps}
use Rattle.buffer_glyphs.specs.Events.{Event, Break, Replace}
use Rattle.layout_face.specs.declared.parts.GlyphDefinition.{GlyphDefinition}
use Rattle.layout_face.specs.declared.substitution.SubstLookup.{SubstLookup}
use Rattle.layout_face.specs.declared.substitution.SubstitutionSubtables.{SubstitutionSubtables}
use Rattle.layout_face.specs.declared.substitution.SubstitutionSubtables.TheVariants.{Single, Multiple, Alternate, Ligature, Context, ChainContext, ReverseChainSingle}
use Rattle.layout_common.specs.Rows.{value_of}
use Rattle.layout_tables.specs.Substitutions.{glyphs_of}
use Rattle.layout_tables.specs.Layout.{LigatureTable, LigatureSetTable, ligature_set_of}
use Rattle.layout_tables.specs.declared.context.SequenceLookupRecord.{SequenceLookupRecord}
use Rattle.layout_tables.specs.declared.context.ContextSubtable.{ContextSubtable}
use Rattle.layout_tables.specs.declared.context.ContextSubtable.TheVariants.{Glyphs, Classes, Coverage}
use Rattle.buffer_stages.specs.Actions.{Cut, whole, Outcome, Passes, Acts, Refuses, Action, within_limit, later, or_else, first_rule, at_first}
use Rattle.layout_match.specs.Applied.{ApplyContext, own_search, context_search, next_random}
use Rattle.layout_match.specs.Matches.{answers_of, input_end, input_indices, lookahead_end, backtrack_end}
use Rattle.layout_match.specs.Sequences.{is_glyph, is_covered_by}
use Rattle.layout_match.specs.Trying.{meets, at_met}
use Rattle.layout_contexts.specs.Nested.{RecordsOutcome, Walks, Stops, cut_at, holds, has_budget, with_budget_spent, nested_outcome, outcome_at_index, one_record, walked_later, then_walk, each_record, each_nested, cut_after_match}
use Rattle.layout_contexts.specs.Chains.{Chain, glyph_chain, class_chain, coverage_chain, begins, by_backtrack, by_lookahead, by_input, chain_at, chain_rule, class_rules, context_subtable}
use Rattle.layout_gsub.specs.Alternates.{feature_value, alternate_of_value, is_drawn, drawn_alternate, alternate_set, alternate_subtable}
use Rattle.layout_gsub.specs.Ligating.{items_at, are_marks, own_number, component_count, with_component, following_items, after_components, last_index, ligature_found, ligature_over, ligatures_over, ligature_subst}
use Rattle.layout_gsub.specs.Multiples.{covered_sequence, cut_with_multiple, multiple_subtable}
use Rattle.layout_gsub.specs.Replacements.{single_substitution, single_subtable, cut_with_substitute}
use Rattle.layout_substitution.specs.Lookups.{first_subtable, nested_actions, lookup_action}
use Rattle.buffer_parts.specs.Breaks.Concat.{without_concats}
use Rattle.layout_laws.proofs.BreakLemmas.Outcomes.{none_more}
use Rattle.layout_laws.proofs.BreakLemmas.Matching.{match_lies}
use Rattle.layout_laws.proofs.BreakLemmas.Frames.{at_item}
use Rattle.layout_laws.proofs.BreakLemmas.Records.{SpendsAt}
use Rattle.layout_laws.proofs.BreakLemmas.Singles.{drawn_some}
use Rattle.layout_laws.proofs.BreakLemmas.Passes.{count_without}
use Rattle.layout_laws.proofs.BreakLemmas.Lookups.{by_spending, spending_substituted}
use Rattle.layout_laws.specs.Breaks.Local.{Steps}
use Rattle.layout_laws.specs.Breaks.LookupLaws.{LookupsAreSteady}
use Rattle.buffer_parts.specs.Rules.{OutcomeKeepsParts}
use Rattle.layout_laws.proofs.Lemmas.Substitutions.{forward_related}
use Rattle.layout_laws.proofs.Lemmas.KeptRules.{by_parts, substituted_by_parts}
use Rattle.layout_laws.proofs.Lemmas.LigatureLengths.{after_length}
use Rattle.layout_positioning.proofs.Left.{cut_whole}

-- ---- rules that leave fewer items

-- where a rule acts, fewer items are left; where it passes, it only sets UNSAFE_TO_CONCAT
abbrev pub Consumes : Cut → Outcome → Type 0
Consumes c (Passes es) = without_concats es ≡ []
Consumes c (Acts d es) = length d.rest < length c.rest
Consumes c (Refuses x) = Unit {0}

abbrev pub IsConsuming : Action → Type 0
IsConsuming act = (c : Cut) → 0 < length c.rest → Consumes c (act c)

-- at a cut before an item
abbrev IsConsumingAt : (Item → Action) → Type 0
IsConsumingAt act = (c : Cut) (x : Item) (xs : List Item) → Consumes (record c { rest = x ∷ xs }) (act x (record c { rest = x ∷ xs }))

later_consumes : (c : Cut) (es : List Event) (o : Outcome) → without_concats es ≡ [] → Consumes c o → Consumes c (later es o)
later_consumes c es (Passes fs) e h = none_more es fs e ∙ h
later_consumes c es (Acts d fs) e h = h
later_consumes c es (Refuses x) e h = tt

either_consumes : (c : Cut) (o second : Outcome) → Consumes c o → Consumes c second → Consumes c (or_else o second)
either_consumes c (Passes es) second h k = later_consumes c es second h k
either_consumes c (Acts d es) second h k = h
either_consumes c (Refuses x) second h k = tt

pub first_consumes : {R : Type 0} (act : R → Action) (rules : List R) → ((r : R) → IsConsuming (act r)) → IsConsuming (first_rule act rules)
first_consumes act [] k c some = refl
first_consumes act (r ∷ rules) k c some = either_consumes c (act r c) (first_rule act rules c) (k r c some) (first_consumes act rules k c some)

pub item_consumes : (act : Item → Action) → IsConsumingAt act → IsConsuming (λ c. at_first act (first_of c.rest) c)
item_consumes act k c some = at_item (λ (d : Cut). Consumes d (at_first act (first_of d.rest) d)) c some (λ x xs. k c x xs)

limit_consumes : (n : ℕ) (c a : Cut) (o : Outcome) → Consumes c o → Consumes c (within_limit n a o)
limit_consumes n c a o h = by_test (nat_le (length a.front + n) a.max_len)
  where
    by_test : (t : Bool) → Consumes c (if t then o else Refuses TooLong)
    by_test true = h
    by_test false = tt

pub test_consumes : (c : Cut) (t : Bool) (o p : Outcome) → Consumes c o → Consumes c p → Consumes c (if t then o else p)
test_consumes c true o p h k = h
test_consumes c false o p h k = k

-- ---- substitutions

one_consumes : (gdef : GlyphDefinition) (o : Option ℕ) (c : Cut) (x : Item) (xs : List Item) → Consumes (record c { rest = x ∷ xs }) (single_substitution gdef o (record c { rest = x ∷ xs }))
one_consumes gdef None c x xs = refl
one_consumes gdef (Some glyph) c x xs = limit_consumes 1 (record c { rest = x ∷ xs }) (record c { rest = x ∷ xs }) (Acts (cut_with_substitute gdef glyph (record c { rest = x ∷ xs })) []) (omega arith)

sequence_consumes : (gdef : GlyphDefinition) (o : Option (List ℕ)) (c : Cut) (x : Item) (xs : List Item) → Consumes (record c { rest = x ∷ xs }) (covered_sequence gdef o (record c { rest = x ∷ xs }))
sequence_consumes gdef None c x xs = refl
sequence_consumes gdef (Some []) c x xs = omega arith
sequence_consumes gdef (Some (glyph ∷ [])) c x xs = one_consumes gdef (Some glyph) c x xs
sequence_consumes gdef (Some (glyph ∷ next ∷ more)) c x xs =
    let d : Cut = record c { rest = x ∷ xs } in
    let fewer : length xs < length {A = Item} (x ∷ xs) = omega arith in
    limit_consumes (length (glyph ∷ next ∷ more)) d d (Acts (cut_with_multiple gdef (glyph ∷ next ∷ more) d) (Replace (length c.front) 1 (length (glyph ∷ next ∷ more)) ∷ [])) fewer

break_consumes : (c : Cut) (from to : ℕ) (gdef : GlyphDefinition) (glyph : ℕ) (x : Item) (xs : List Item) (a : Cut) → a.rest ≡ x ∷ xs → c.rest ≡ x ∷ xs → Consumes c (later (Break from to ∷ []) (single_substitution gdef (Some glyph) a))
break_consumes c from to gdef glyph x xs a e f = by_test (nat_le (length a.front + 1) a.max_len)
  where
    fewer : length (drop 1 a.rest) < length c.rest
    fewer = let m : length (drop 1 a.rest) ≡ length xs = ap (λ (ys : List Item). length (drop 1 ys)) e in let n : length c.rest ≡ suc (length xs) = ap (λ (ys : List Item). length ys) f in omega (arith, m, n)

    by_test : (t : Bool) → Consumes c (later (Break from to ∷ []) (if t then Acts (cut_with_substitute gdef glyph a) [] else Refuses TooLong))
    by_test true = fewer
    by_test false = tt

found_consumes : (a : ApplyContext) (l : LigatureTable) (c : Cut) (x : Item) (xs : List Item) (o : Result ℕ ℕ) → input_end (own_search a (x ∷ xs)) (map is_glyph l.components) (x ∷ xs) ≡ o → Consumes (record c { rest = x ∷ xs }) (ligature_found a l o (record c { rest = x ∷ xs }))
found_consumes a l c x xs (Err end) e = refl
found_consumes a l c x xs (Ok end) e =
    let lies = match_lies (answers_of (own_search a (x ∷ xs)) (map is_glyph l.components)) 1 end (x ∷ xs) (omega arith) e in
    let places = input_indices (own_search a (x ∷ xs)) (map is_glyph l.components) (x ∷ xs) in
    let parts = items_at places (x ∷ xs) in
    let rest = after_components parts (own_number parts c.lig_id) (slice_get (x ∷ xs) (last_index places)) (drop end (x ∷ xs)) in
    let fewer : length rest < length {A = Item} (x ∷ xs) = omega (arith, after_length parts (own_number parts c.lig_id) (slice_get (x ∷ xs) (last_index places)) (drop end (x ∷ xs)), length-drop end (x ∷ xs), lies.rises) in
    limit_consumes _ (record c { rest = x ∷ xs }) (record c { rest = x ∷ xs }) (Acts _ _) fewer

over_consumes : (a : ApplyContext) (l : LigatureTable) → IsConsumingAt (λ x. ligature_over a l)
over_consumes a l c x xs =
    let d : Cut = record c { rest = x ∷ xs } in
    let found = found_consumes a l c x xs (input_end (own_search a (x ∷ xs)) (map is_glyph l.components) (x ∷ xs)) refl in
    test_consumes d (length l.components == 0) (single_substitution a.font.gdef (Some l.glyph) d) (if nat_lt (length l.components) 64 then ligature_found a l (input_end (own_search a (x ∷ xs)) (map is_glyph l.components) (x ∷ xs)) d else Passes []) (one_consumes a.font.gdef (Some l.glyph) c x xs)
    (test_consumes d (nat_lt (length l.components) 64) (ligature_found a l (input_end (own_search a (x ∷ xs)) (map is_glyph l.components) (x ∷ xs)) d) (Passes []) found refl)

consumes_items : (act : Action) → IsConsumingAt (λ x. act) → IsConsuming act
consumes_items act k c some = at_item (λ (d : Cut). Consumes d (act d)) c some (λ x xs. k c x xs)

set_consumes : (a : ApplyContext) (set : Option LigatureSetTable) → IsConsuming (ligatures_over a set)
set_consumes a None c some = refl
set_consumes a (Some set) c some = first_consumes (ligature_over a) set.ligatures (λ l. consumes_items (ligature_over a l) (over_consumes a l)) c some

ligature_consumes : (a : ApplyContext) (sets : List LigatureSetTable) → IsConsuming (ligature_subst a sets)
ligature_consumes a sets = item_consumes (λ x. ligatures_over a (ligature_set_of x.number sets)) (λ c x xs. set_consumes a (ligature_set_of x.number sets) (record c { rest = x ∷ xs }) (omega arith))

drawn_consumes : (gdef : GlyphDefinition) (o : Option ℕ) (c : Cut) (x : Item) (xs : List Item) (from to random : ℕ) → (o ≡ None → ⊥) → Consumes (record c { rest = x ∷ xs }) (later (Break from to ∷ []) (single_substitution gdef o (record c { rest = x ∷ xs; random = random })))
drawn_consumes gdef None c x xs from to random some = absurd (some refl)
drawn_consumes gdef (Some glyph) c x xs from to random some = break_consumes (record c { rest = x ∷ xs }) from to gdef glyph x xs (record c { rest = x ∷ xs; random = random }) refl refl

alternates_consume : (gdef : GlyphDefinition) (random : Bool) (value : ℕ) (set : Option (List ℕ)) → IsConsumingAt (λ x. alternate_set gdef random value set)
alternates_consume gdef random value None c x xs = refl
alternates_consume gdef random value (Some glyphs) c x xs = by_drawn (is_drawn random value glyphs) refl
  where
    by_drawn : (t : Bool) → is_drawn random value glyphs ≡ t → Consumes (record c { rest = x ∷ xs }) (if t then drawn_alternate gdef glyphs (record c { rest = x ∷ xs }) else single_substitution gdef (alternate_of_value value glyphs) (record c { rest = x ∷ xs }))
    by_drawn true e =
        let some = drawn_some random value glyphs e in
        let i = next_random c.random % length glyphs in
        let below : i < length glyphs = omega (arith, some) in
        drawn_consumes gdef (slice_get glyphs i) c x xs 0 (length (whole (record c { rest = x ∷ xs }))) (next_random c.random) (λ none. let there = slice_get-get_or glyphs i 0 below in cc)
    by_drawn false e = one_consumes gdef (alternate_of_value value glyphs) c x xs

-- ---- contexts

-- the match's end is no further from the list's end than it was
abbrev Shrinks : ℕ → ℕ → RecordsOutcome → Type 0
Shrinks size end (Walks d ps to es) = length (whole d) - to ≤ size - end
Shrinks size end (Stops x) = Unit {0}

nested_shrinks : (i p : ℕ) (c : Cut) (ps : List ℕ) (end : ℕ) (q : Outcome) → Shrinks (length (whole c)) end (nested_outcome i p c ps end q)
nested_shrinks i p c ps end (Passes es) = omega arith
nested_shrinks i p c ps end (Acts d es) = omega arith
nested_shrinks i p c ps end (Refuses x) = tt

index_shrinks : (act : ℕ → Action) (r : SequenceLookupRecord) (o : Option ℕ) (c : Cut) (ps : List ℕ) (end : ℕ) → Shrinks (length (whole c)) end (outcome_at_index act r o c ps end)
index_shrinks act r None c ps end = omega arith
index_shrinks act r (Some p) c ps end = by_tests (nat_lt p (length (whole c)) && has_budget c) (holds p (with_budget_spent c))
  where
    by_tests : (t u : Bool) → Shrinks (length (whole c)) end (if t then (if u then nested_outcome r.sequence_index p (cut_at p (with_budget_spent c)) ps end (act r.lookup_index (cut_at p (with_budget_spent c))) else Stops TooLong) else Walks c ps end [])
    by_tests false u = omega arith
    by_tests true false = tt
    by_tests true true = subst (λ (n : ℕ). Shrinks n end (nested_outcome r.sequence_index p (cut_at p (with_budget_spent c)) ps end (act r.lookup_index (cut_at p (with_budget_spent c))))) (ap (λ (xs : List Item). length xs) (cut_whole p (with_budget_spent c)))
        (nested_shrinks r.sequence_index p (cut_at p (with_budget_spent c)) ps end (act r.lookup_index (cut_at p (with_budget_spent c))))

then_shrinks : (size end : ℕ) (a : RecordsOutcome) (next : Cut → List ℕ → ℕ → RecordsOutcome) → Shrinks size end a → ((d : Cut) (ps : List ℕ) (to : ℕ) → Shrinks (length (whole d)) to (next d ps to)) → Shrinks size end (then_walk a next)
then_shrinks size end (Stops x) next h k = tt
then_shrinks size end (Walks d ps to es) next h k = by_next (next d ps to) (k d ps to)
  where
    by_next : (b : RecordsOutcome) → Shrinks (length (whole d)) to b → Shrinks size end (walked_later es b)
    by_next (Walks e qs end2 fs) g = omega (arith, h, g)
    by_next (Stops x) g = tt

each_shrinks : (act : ℕ → Action) (records : List SequenceLookupRecord) (c : Cut) (ps : List ℕ) (end : ℕ) → Shrinks (length (whole c)) end (each_record act records c ps end)
each_shrinks act [] c ps end = omega arith
each_shrinks act (r ∷ records) c ps end = then_shrinks (length (whole c)) end (one_record act r c ps end) (each_record act records) (index_shrinks act r (slice_get ps r.sequence_index) c ps end) (λ d qs to. each_shrinks act records d qs to)

nest_shrinks : (nest : Option (ℕ → Action)) (records : List SequenceLookupRecord) (c : Cut) (ps : List ℕ) (end : ℕ) → Shrinks (length (whole c)) end (each_nested nest records c ps end)
nest_shrinks None records c ps end = omega arith
nest_shrinks (Some act) records c ps end = each_shrinks act records c ps end

match_consumes : (c : Cut) (es : List Event) (end : ℕ) (a : RecordsOutcome) → length c.front < end → 0 < length c.rest → Shrinks (length (whole c)) end a → Consumes c (later es (cut_after_match a))
match_consumes c es end (Stops x) past some h = tt
match_consumes c es end (Walks w ps to fs) past some h = by_test (holds (min to (length (whole w))) w)
  where
    fewer : length (drop (min to (length (whole w))) (whole w)) < length c.rest
    fewer = omega (arith, length-drop (min to (length (whole w))) (whole w), length-append c.front c.rest, past, some, h)

    by_test : (t : Bool) → Consumes c (later es (if t then Acts (cut_at (min to (length (whole w))) w) fs else Refuses TooLong))
    by_test true = fewer
    by_test false = tt

back_consumes : (nest : Option (ℕ → Action)) (a : ApplyContext) (r : Chain) (end ahead : ℕ) (back : Result ℕ ℕ) (c : Cut) → 1 ≤ end → 0 < length c.rest → Consumes c (by_backtrack nest a r end ahead back c)
back_consumes nest a r end ahead (Err back) c up some = refl
back_consumes nest a r end ahead (Ok back) c up some =
    let ps = map (λ k. k + length c.front) (input_indices (own_search a c.rest) (drop 1 r.input) c.rest) in
    match_consumes c (Break (length c.front - back) (length c.front + ahead) ∷ []) (length c.front + end) (each_nested nest r.records c ps (length c.front + end)) (omega (arith, up)) some (nest_shrinks nest r.records c ps (length c.front + end))

lookahead_consumes : (nest : Option (ℕ → Action)) (a : ApplyContext) (r : Chain) (end : ℕ) (ahead : Result ℕ ℕ) (c : Cut) → 1 ≤ end → 0 < length c.rest → Consumes c (by_lookahead nest a r end ahead c)
lookahead_consumes nest a r end (Err ahead) c up some = refl
lookahead_consumes nest a r end (Ok ahead) c up some = back_consumes nest a r end ahead (backtrack_end (context_search a c.rest) r.backtrack c.front) c up some

input_consumes : (nest : Option (ℕ → Action)) (a : ApplyContext) (r : Chain) (c : Cut) → 0 < length c.rest → (o : Result ℕ ℕ) → input_end (own_search a c.rest) (drop 1 r.input) c.rest ≡ o → Consumes c (by_input nest a r o c)
input_consumes nest a r c some (Err ahead) e = refl
input_consumes nest a r c some (Ok end) e =
    let lies = match_lies (answers_of (own_search a c.rest) (drop 1 r.input)) 1 end c.rest (omega (arith, some)) e in
    lookahead_consumes nest a r end (lookahead_end (context_search a c.rest) r.lookahead end c.rest) c lies.rises some

chain_consumes : (nest : Option (ℕ → Action)) (a : ApplyContext) (r : Chain) → IsConsuming (chain_rule nest a r)
chain_consumes nest a r = item_consumes (chain_at nest a r) (λ c x xs.
    let d : Cut = record c { rest = x ∷ xs } in
    test_consumes d (begins r.input x && nat_le (length r.input) 64) (by_input nest a r (input_end (own_search a (x ∷ xs)) (drop 1 r.input) (x ∷ xs)) d) (Passes []) (input_consumes nest a r d (omega arith) (input_end (own_search a (x ∷ xs)) (drop 1 r.input) (x ∷ xs)) refl) refl)

pub context_consumes : (nest : Option (ℕ → Action)) (a : ApplyContext) (t : ContextSubtable) → IsConsuming (context_subtable nest a t)
context_consumes nest a (Glyphs rules) = first_consumes (λ r. chain_rule nest a (glyph_chain r)) rules (λ r. chain_consumes nest a (glyph_chain r))
context_consumes nest a (Classes s) = item_consumes (class_rules nest a s) (λ c x xs.
    let d : Cut = record c { rest = x ∷ xs } in
    test_consumes d (is_covered_by s.first x) (first_rule (λ r. chain_rule nest a (class_chain s r)) s.rules d) (Passes []) (first_consumes (λ r. chain_rule nest a (class_chain s r)) s.rules (λ r. chain_consumes nest a (class_chain s r)) d (omega arith)) refl)
context_consumes nest a (Coverage rules) = first_consumes (λ r. chain_rule nest a (coverage_chain r)) rules (λ r. chain_consumes nest a (coverage_chain r))

-- ---- lookups

subtables_consume : (nest : Option (ℕ → Action)) (a : ApplyContext) (s : SubstitutionSubtables) → IsConsuming (first_subtable nest a s)
subtables_consume nest a (Single subtables) = first_consumes (λ s. single_subtable a.font.gdef s.rows) subtables (λ s. item_consumes (λ x. single_substitution a.font.gdef (value_of x.number s.rows)) (λ c x xs. one_consumes a.font.gdef (value_of x.number s.rows) c x xs))
subtables_consume nest a (Multiple subtables) = first_consumes (λ s. multiple_subtable a.font.gdef s.rows) subtables (λ s. item_consumes (λ x. covered_sequence a.font.gdef (glyphs_of x.number s.rows)) (λ c x xs. sequence_consumes a.font.gdef (glyphs_of x.number s.rows) c x xs))
subtables_consume nest a (Alternate subtables) = first_consumes (λ s. alternate_subtable a.font.gdef a.random a.mask s.rows) subtables (λ s. item_consumes (λ x. alternate_set a.font.gdef a.random (feature_value a.mask x.mask) (glyphs_of x.number s.rows)) (λ c x xs. alternates_consume a.font.gdef a.random (feature_value a.mask x.mask) (glyphs_of x.number s.rows) c x xs))
subtables_consume nest a (Ligature subtables) = first_consumes (ligature_subst a) subtables (λ s. ligature_consumes a s)
subtables_consume nest a (Context subtables) = first_consumes (context_subtable nest a) subtables (λ s. context_consumes nest a s)
subtables_consume nest a (ChainContext subtables) = first_consumes (context_subtable nest a) subtables (λ s. context_consumes nest a s)
subtables_consume nest a (ReverseChainSingle subtables) = λ c some. refl

pub lookup_consumes : (table : List SubstLookup) (a : ApplyContext) (lookup : SubstLookup) → IsConsuming (lookup_action table a lookup)
lookup_consumes table a lookup = item_consumes (at_met a (first_subtable (nested_actions table 64 a) a lookup.subtables)) (λ c x xs.
    let d : Cut = record c { rest = x ∷ xs } in
    test_consumes d (meets a x) (first_subtable (nested_actions table 64 a) a lookup.subtables d) (Passes []) (subtables_consume (nested_actions table 64 a) a lookup.subtables d (omega arith)) refl)

-- ---- steps

pub step_from : (c : Cut) (o : Outcome) → Consumes c o → SpendsAt c o → OutcomeKeepsParts o (length (whole c)) → Steps c o
step_from c (Passes es) h s k = h
step_from c (Acts d es) h s k = record { fewer = h; spends = s.0; gives = s.1; counted = count_without es (length (whole c)) ∙ (k MonotoneGraphemes).counted }
step_from c (Refuses x) h s k = tt

pub lookups_are_steady : LookupsAreSteady
lookups_are_steady table a lookup c some =
    step_from c (lookup_action table a lookup c) (lookup_consumes table a lookup c some) (forward_related by_spending tt spending_substituted table a lookup c) (forward_related by_parts tt substituted_by_parts table a lookup c)

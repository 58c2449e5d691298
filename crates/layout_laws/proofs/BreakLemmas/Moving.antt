-- Rules of positioning move over an item at least, and keep as many positions.
use Rattle.std.proofs.Common.{ℕ, zero, suc, ◌≡◌, ◌<◌, ◌+◌, ◌-◌, ◌&&◌, Bool, true, false, not, nat_lt, min, if◌then◌else◌, List, [], ◌∷◌, Option, Some, None, Result, Ok, Err, length, drop, reverse, arith, refl, ◌∙◌}
use Rattle.std.specs.Prelude.{slice_get, option_and_then}
use Rattle.std.proofs.lemmas.List.{length-drop, length-set}
use Rattle.buffer_common.specs.declared.direction.Direction.{Direction}
use Rattle.buffer_glyphs.specs.declared.cause.ShapeCause.TheVariants.{TooLong}
use Rattle.buffer_glyphs.specs.Items.{Item}
use Rattle.buffer_glyphs.specs.LigatureWords.{is_mark}
use Rattle.buffer_glyphs.specs.Events.{Event, Break}
use Rattle.buffer_glyphs.specs.Parts.{first_of}
use Rattle.buffer_rows.specs.Keys.{row_of}
use Rattle.layout_face.specs.declared.positioning.PositioningLookup.{PositioningLookup}
use Rattle.layout_face.specs.declared.positioning.PositioningSubtables.{PositioningSubtables}
use Rattle.layout_face.specs.declared.positioning.PositioningSubtables.TheVariants.{Single, Pair, Cursive, MarkToBase, MarkToLigature, MarkToMark, Context, ChainContext}
use Rattle.layout_common.specs.Rows.{value_of}
use Rattle.layout_common.specs.declared.glyph_row.GlyphRow.{GlyphRow}
use Rattle.layout_tables.specs.Covers.{covers_first_of_pair}
use Rattle.layout_tables.specs.Marks.{base_anchor, component_anchor, component_count}
use Rattle.layout_tables.specs.declared.context.SequenceLookupRecord.{SequenceLookupRecord}
use Rattle.layout_tables.specs.declared.cursive.EntryExit.{EntryExit}
use Rattle.layout_tables.specs.declared.value.Anchor.{Anchor}
use Rattle.layout_tables.specs.declared.value.ValueRecord.{ValueRecord}
use Rattle.layout_tables.specs.declared.mark.BaseRow.{BaseRow}
use Rattle.layout_tables.specs.declared.mark.LigatureRow.{LigatureRow}
use Rattle.layout_tables.specs.declared.mark.MarkBasePos.{MarkBasePos}
use Rattle.layout_tables.specs.declared.mark.MarkLigPos.{MarkLigPos}
use Rattle.layout_tables.specs.declared.mark.MarkRecord.{MarkRecord}
use Rattle.layout_tables.specs.declared.pair.PairPos.{PairPos}
use Rattle.layout_tables.specs.declared.pair.PairValues.{PairValues}
use Rattle.buffer_stages.specs.Actions.{Cut, whole, Outcome, Passes, Acts, Refuses, Action, attempt_around, later, or_else, first_rule, at_first}
use Rattle.layout_offsets.specs.Cursive.{attaches_earlier}
use Rattle.layout_offsets.proofs.Lemmas.Joined.{joined_length}
use Rattle.layout_match.specs.Applied.{ApplyContext, own_search}
use Rattle.layout_match.specs.Searches.{answer, is_skippable}
use Rattle.layout_contexts.specs.Nested.{RecordsOutcome, Walks, Stops, cut_at, holds, has_budget, with_budget_spent, nested_outcome, outcome_at_index, one_record, walked_later, then_walk, each_record, each_nested, cut_after_match}
use Rattle.layout_contexts.specs.Chains.{context_subtable}
use Rattle.layout_gpos.specs.Singles.{single_adjusted, single_subtable}
use Rattle.layout_gpos.specs.Pairs.{pair_length, pair_of, pair_second, next_item, pair_values, pair_from, pair_subtable}
use Rattle.layout_gpos.specs.Marks.{item_before, among_marks, base_before, ligature_before, attach_if, is_there, with_found, on_base, mark_on_base, mark_to_base, component_in, on_component, on_ligature, mark_on_ligature, mark_to_ligature, belong_together, on_mark, mark_on_mark, mark_to_mark}
use Rattle.layout_positioning.specs.Joins.{join_if, exit_of, on_exit, entry_of, from_entry, cursive_subtable}
use Rattle.layout_positioning.specs.Lookups.{first_subtable, under_flag, nested_lookup, nested_actions, lookup_action}
use Rattle.layout_laws.proofs.Lemmas.Rules.{Limits, NestRelated, IsClosed, IsRelated, first_related, met_related, context_related}
use Rattle.buffer_parts.specs.Breaks.Concat.{without_concats}
use Rattle.layout_laws.proofs.BreakLemmas.Outcomes.{none_more}
use Rattle.layout_laws.proofs.BreakLemmas.Matching.{search_rises}
use Rattle.layout_laws.proofs.BreakLemmas.Steady.{Consumes, IsConsuming, first_consumes, context_consumes}
use Rattle.layout_laws.proofs.BreakLemmas.Pairs.{pair_long}
use Rattle.layout_laws.proofs.BreakLemmas.Marks.{mark_long}

-- ---- what rules move

-- where a rule acts, it moves over an item, if there is one, and keeps as many positions; where it passes, it only sets UNSAFE_TO_CONCAT
abbrev Moves : Cut → Outcome → Type 0
Moves c (Passes es) = without_concats es ≡ []
Moves c (Acts d es) = (0 < length c.rest → length d.rest < length c.rest) × (length d.positions ≡ length c.positions)
Moves c (Refuses x) = Unit {0}

abbrev IsMoving : Action → Type 0
IsMoving act = (c : Cut) → Moves c (act c)

later_moves : (c : Cut) (es : List Event) (o : Outcome) → without_concats es ≡ [] → Moves c o → Moves c (later es o)
later_moves c es (Passes fs) e h = none_more es fs e ∙ h
later_moves c es (Acts d fs) e h = h
later_moves c es (Refuses x) e h = tt

either_moves : (c : Cut) (o second : Outcome) → Moves c o → Moves c second → Moves c (or_else o second)
either_moves c (Passes es) second h k = later_moves c es second h k
either_moves c (Acts d es) second h k = h
either_moves c (Refuses x) second h k = tt

first_moves : {R : Type 0} (act : R → Action) (rules : List R) → ((r : R) → IsMoving (act r)) → IsMoving (first_rule act rules)
first_moves act [] k c = refl
first_moves act (r ∷ rules) k c = either_moves c (act r c) (first_rule act rules c) (k r c) (first_moves act rules k c)

item_moves : (act : Item → Action) → ((x : Item) → IsMoving (act x)) → IsMoving (λ c. at_first act (first_of c.rest) c)
item_moves act k c = by_item (first_of c.rest)
  where
    by_item : (o : Option Item) → Moves c (at_first act o c)
    by_item None = refl
    by_item (Some x) = k x c

test_moves : (c : Cut) (t : Bool) (o p : Outcome) → Moves c o → Moves c p → Moves c (if t then o else p)
test_moves c true o p h k = h
test_moves c false o p h k = k

moved_on : (n : ℕ) (c : Cut) → 0 < n → 0 < length c.rest → length (drop n c.rest) < length c.rest
moved_on n c some there = omega (arith, some, there, length-drop n c.rest)

-- ---- single and pair adjustment

value_moves : (d : Direction) (v : Option ValueRecord) → IsMoving (single_adjusted d v)
value_moves d None c = refl
value_moves d (Some v) c = (λ there. moved_on 1 c (omega arith) there, length-set c.positions (length c.front) _)

single_moves : (d : Direction) (rows : List (GlyphRow ValueRecord)) → IsMoving (single_subtable d rows)
single_moves d rows c = item_moves (λ x. single_adjusted d (value_of x.number rows)) (λ x. value_moves d (value_of x.number rows)) c

pair_some : (apart : ℕ) (v : Option ValueRecord) → 0 < apart → 0 < pair_length apart v
pair_some apart None some = some
pair_some apart (Some v) some = omega arith

values_move : (d : Direction) (apart : ℕ) (found : Option PairValues) → 0 < apart → IsMoving (pair_of d apart found)
values_move d apart None some c = refl
values_move d apart (Some v) some c =
    (λ there. moved_on (pair_length apart v.second) c (pair_some apart v.second some) there, pair_long d (length c.front) (length c.front + apart) v c.positions)

second_moves : (d : Direction) (values : Item → Option PairValues) (o : Result ℕ ℕ) → ((apart : ℕ) → o ≡ Ok apart → 0 < apart) → IsMoving (pair_second d values o)
second_moves d values (Err end) k c = refl
second_moves d values (Ok apart) k c = values_move d apart (option_and_then values (slice_get c.rest apart)) (k apart refl) c

from_moves : (d : Direction) (a : ApplyContext) (s : PairPos) (x : Item) → IsMoving (pair_from d a s x)
from_moves d a s x c =
    test_moves c (covers_first_of_pair s x.number) (pair_second d (λ y. pair_values s x.number y.number) (next_item a c.rest) c) (Passes [])
    (second_moves d (λ y. pair_values s x.number y.number) (next_item a c.rest) (λ apart e. let up = search_rises (answer (own_search a c.rest) (λ y. not (is_skippable (own_search a c.rest) y))) 1 apart (drop 1 c.rest) e in omega (arith, up)) c) refl

pair_moves : (d : Direction) (a : ApplyContext) (s : PairPos) → IsMoving (pair_subtable d a s)
pair_moves d a s c = item_moves (pair_from d a s) (from_moves d a s) c

-- ---- attachments

found_moves : (act : ℕ → Option Item → Action) (o : Result ℕ ℕ) → ((back : ℕ) (x : Option Item) → IsMoving (act back x)) → IsMoving (with_found act o)
found_moves act (Err end) k c = refl
found_moves act (Ok back) k c = k back (slice_get (reverse c.front) back) c

attach_moves : (base mark : Option Anchor) (back : ℕ) → IsMoving (attach_if base mark back)
attach_moves None mark back c = refl
attach_moves (Some base) None back c = refl
attach_moves (Some base) (Some mark) back c = (λ there. moved_on 1 c (omega arith) there, mark_long (length c.front) (length c.front - (back + 1)) base mark c.positions)

base_moves : (bases : List BaseRow) (m : MarkRecord) (back : ℕ) (o : Option Item) → IsMoving (on_base bases m back o)
base_moves bases m back None c = refl
base_moves bases m back (Some x) c =
    test_moves c (is_there (row_of (λ r. r.glyph) x.number bases)) (attach_if (base_anchor x.number m.class bases) m.anchor back c) (attempt_around (back + 1) 1 c) (attach_moves (base_anchor x.number m.class bases) m.anchor back c) refl

mark_base_moves : (a : ApplyContext) (bases : List BaseRow) (o : Option MarkRecord) → IsMoving (mark_on_base a bases o)
mark_base_moves a bases None c = refl
mark_base_moves a bases (Some m) c = found_moves (on_base bases m) (base_before a c) (base_moves bases m) c

to_base_moves : (a : ApplyContext) (s : MarkBasePos) → IsMoving (mark_to_base a s)
to_base_moves a s c = item_moves (λ x. mark_on_base a s.bases (value_of x.number s.marks)) (λ x. mark_base_moves a s.bases (value_of x.number s.marks)) c

component_moves : (ligatures : List LigatureRow) (m : MarkRecord) (back glyph : ℕ) (o : Option ℕ) → IsMoving (on_component ligatures m back glyph o)
component_moves ligatures m back glyph None c = refl
component_moves ligatures m back glyph (Some k) c = attach_moves (component_anchor glyph k m.class ligatures) m.anchor back c

ligature_moves : (ligatures : List LigatureRow) (m : MarkRecord) (mark : Item) (back : ℕ) (o : Option Item) → IsMoving (on_ligature ligatures m mark back o)
ligature_moves ligatures m mark back None c = refl
ligature_moves ligatures m mark back (Some x) c = component_moves ligatures m back x.number (component_in (component_count x.number ligatures) x mark) c

mark_ligature_moves : (a : ApplyContext) (ligatures : List LigatureRow) (x : Item) (o : Option MarkRecord) → IsMoving (mark_on_ligature a ligatures x o)
mark_ligature_moves a ligatures x None c = refl
mark_ligature_moves a ligatures x (Some m) c = found_moves (on_ligature ligatures m x) (ligature_before a c) (ligature_moves ligatures m x) c

to_ligature_moves : (a : ApplyContext) (s : MarkLigPos) → IsMoving (mark_to_ligature a s)
to_ligature_moves a s c = item_moves (λ x. mark_on_ligature a s.ligatures x (value_of x.number s.marks)) (λ x. mark_ligature_moves a s.ligatures x (value_of x.number s.marks)) c

on_mark_moves : (bases : List BaseRow) (m : MarkRecord) (mark : Item) (back : ℕ) (o : Option Item) → IsMoving (on_mark bases m mark back o)
on_mark_moves bases m mark back None c = refl
on_mark_moves bases m mark back (Some x) c = test_moves c (is_mark x && belong_together mark x) (on_base bases m back (Some x) c) (attempt_around (back + 1) 1 c) (base_moves bases m back (Some x) c) refl

mark_mark_moves : (a : ApplyContext) (bases : List BaseRow) (x : Item) (o : Option MarkRecord) → IsMoving (mark_on_mark a bases x o)
mark_mark_moves a bases x None c = refl
mark_mark_moves a bases x (Some m) c = found_moves (on_mark bases m x) (item_before (among_marks a) c) (on_mark_moves bases m x) c

to_mark_moves : (a : ApplyContext) (s : MarkBasePos) → IsMoving (mark_to_mark a s)
to_mark_moves a s c = item_moves (λ x. mark_on_mark a s.bases x (value_of x.number s.marks)) (λ x. mark_mark_moves a s.bases x (value_of x.number s.marks)) c

join_moves : (d : Direction) (a : ApplyContext) (exit : Option Anchor) (entry : Anchor) (back : ℕ) → IsMoving (join_if d a exit entry back)
join_moves d a None entry back c = refl
join_moves d a (Some exit) entry back c = (λ there. moved_on 1 c (omega arith) there, joined_length d (attaches_earlier a.props) (length c.front - (back + 1)) (length c.front) exit entry c.positions)

exit_moves : (d : Direction) (a : ApplyContext) (rows : List (GlyphRow EntryExit)) (entry : Anchor) (back : ℕ) (o : Option Item) → IsMoving (on_exit d a rows entry back o)
exit_moves d a rows entry back None c = refl
exit_moves d a rows entry back (Some x) c = join_moves d a (exit_of rows x.number) entry back c

entry_moves : (d : Direction) (a : ApplyContext) (rows : List (GlyphRow EntryExit)) (o : Option Anchor) → IsMoving (from_entry d a rows o)
entry_moves d a rows None c = refl
entry_moves d a rows (Some entry) c = found_moves (on_exit d a rows entry) (item_before a c) (exit_moves d a rows entry) c

cursive_moves : (d : Direction) (a : ApplyContext) (rows : List (GlyphRow EntryExit)) → IsMoving (cursive_subtable d a rows)
cursive_moves d a rows c = item_moves (λ x. from_entry d a rows (entry_of rows x.number)) (λ x. entry_moves d a rows (entry_of rows x.number)) c

-- ---- as many positions

-- where a rule acts, there are as many positions as before
abbrev pub CountStays : Cut → Outcome → Type 0
CountStays c (Passes es) = Unit {0}
CountStays c (Acts d es) = length d.positions ≡ length c.positions
CountStays c (Refuses x) = Unit {0}

abbrev pub by_count : Limits
by_count = record {
  Index = Unit {0};
  Holds = λ i c o p. CountStays c o;
  limit = λ i c. c.max_len;
  scratch_flags = λ i c. c.scratch_flags;
  budget = λ i c. c.max_ops;
}

moving_counts : (c : Cut) (o : Outcome) → Moves c o → CountStays c o
moving_counts c (Passes es) h = tt
moving_counts c (Acts d es) h = h.1
moving_counts c (Refuses x) h = tt

later_counts : (c : Cut) (es : List Event) (o : Outcome) → CountStays c o → CountStays c (later es o)
later_counts c es (Passes fs) h = tt
later_counts c es (Acts d fs) h = h
later_counts c es (Refuses x) h = tt

either_counts : (c : Cut) (o second : Outcome) → CountStays c o → CountStays c second → CountStays c (or_else o second)
either_counts c (Passes es) second h k = later_counts c es second k
either_counts c (Acts d es) second h k = h
either_counts c (Refuses x) second h k = tt

abbrev RecordsCount : ℕ → RecordsOutcome → Type 0
RecordsCount n (Walks d ps end es) = length d.positions ≡ n
RecordsCount n (Stops x) = Unit {0}

nested_counts : (i p : ℕ) (c : Cut) (ps : List ℕ) (end : ℕ) (q : Outcome) → CountStays c q → RecordsCount (length c.positions) (nested_outcome i p c ps end q)
nested_counts i p c ps end (Passes es) h = refl
nested_counts i p c ps end (Acts d es) h = h
nested_counts i p c ps end (Refuses x) h = tt

index_counts : (act : ℕ → Action) → ((i : ℕ) (c : Cut) → CountStays c (act i c)) → (r : SequenceLookupRecord) (o : Option ℕ) (c : Cut) (ps : List ℕ) (end : ℕ) → RecordsCount (length c.positions) (outcome_at_index act r o c ps end)
index_counts act k r None c ps end = refl
index_counts act k r (Some p) c ps end = by_tests (nat_lt p (length (whole c)) && has_budget c) (holds p (with_budget_spent c))
  where
    by_tests : (t u : Bool) → RecordsCount (length c.positions) (if t then (if u then nested_outcome r.sequence_index p (cut_at p (with_budget_spent c)) ps end (act r.lookup_index (cut_at p (with_budget_spent c))) else Stops TooLong) else Walks c ps end [])
    by_tests false u = refl
    by_tests true false = tt
    by_tests true true = nested_counts r.sequence_index p (cut_at p (with_budget_spent c)) ps end (act r.lookup_index (cut_at p (with_budget_spent c))) (k r.lookup_index (cut_at p (with_budget_spent c)))

then_counts : (n : ℕ) (a : RecordsOutcome) (next : Cut → List ℕ → ℕ → RecordsOutcome) → RecordsCount n a → ((d : Cut) (ps : List ℕ) (to : ℕ) → RecordsCount (length d.positions) (next d ps to)) → RecordsCount n (then_walk a next)
then_counts n (Stops x) next h k = tt
then_counts n (Walks d ps to es) next h k = by_next (next d ps to) (k d ps to)
  where
    by_next : (b : RecordsOutcome) → RecordsCount (length d.positions) b → RecordsCount n (walked_later es b)
    by_next (Walks e qs end fs) g = g ∙ h
    by_next (Stops x) g = tt

each_counts : (act : ℕ → Action) → ((i : ℕ) (c : Cut) → CountStays c (act i c)) → (records : List SequenceLookupRecord) (c : Cut) (ps : List ℕ) (end : ℕ) → RecordsCount (length c.positions) (each_record act records c ps end)
each_counts act k [] c ps end = refl
each_counts act k (r ∷ records) c ps end = then_counts (length c.positions) (one_record act r c ps end) (each_record act records) (index_counts act k r (slice_get ps r.sequence_index) c ps end) (λ d qs to. each_counts act k records d qs to)

match_counts : (c : Cut) (a : RecordsOutcome) → RecordsCount (length c.positions) a → CountStays c (cut_after_match a)
match_counts c (Stops x) h = tt
match_counts c (Walks w ps end es) h = by_test (holds (min end (length (whole w))) w)
  where
    by_test : (t : Bool) → CountStays c (if t then Acts (cut_at (min end (length (whole w))) w) es else Refuses TooLong)
    by_test true = h
    by_test false = tt

nest_counts : (nest : Option (ℕ → Action)) (records : List SequenceLookupRecord) (ps : List ℕ) (end : ℕ) (c : Cut) → NestRelated by_count nest → CountStays c (cut_after_match (each_nested nest records c ps end))
nest_counts None records ps end c k = match_counts c (Walks c ps end []) refl
nest_counts (Some act) records ps end c k = match_counts c (each_nested (Some act) records c ps end) (each_counts act (λ i d. k i tt d) records c ps end)

count_closed : IsClosed by_count
count_closed = record {
  passes = λ i c. tt;
  attempts = λ i back ahead c. tt;
  either = λ i c o p second third f g. either_counts c o second f g;
  breaks = λ i from to c o p f. later_counts c (Break from to ∷ []) o f;
  nested = λ i nest records ps end c k. nest_counts nest records ps end c k;
}

moving_related : (act : Action) → IsMoving act → IsRelated by_count tt act
moving_related act k c = moving_counts c (act c) (k c)

-- ---- lookups

moving_consumes : (act : Action) → IsMoving act → IsConsuming act
moving_consumes act k c some = by_outcome (act c) (k c)
  where
    by_outcome : (o : Outcome) → Moves c o → Consumes c o
    by_outcome (Passes es) h = h
    by_outcome (Acts d es) h = h.0 some
    by_outcome (Refuses x) h = tt

pub subtables_consume : (nest : Option (ℕ → Action)) (d : Direction) (a : ApplyContext) (s : PositioningSubtables) → IsConsuming (first_subtable nest d a s)
subtables_consume nest d a (Single subtables) = moving_consumes (first_rule (λ s. single_subtable d s.rows) subtables) (first_moves (λ s. single_subtable d s.rows) subtables (λ s. single_moves d s.rows))
subtables_consume nest d a (Pair subtables) = moving_consumes (first_rule (pair_subtable d a) subtables) (first_moves (pair_subtable d a) subtables (λ s. pair_moves d a s))
subtables_consume nest d a (Cursive subtables) = moving_consumes (first_rule (λ s. cursive_subtable d a s.rows) subtables) (first_moves (λ s. cursive_subtable d a s.rows) subtables (λ s. cursive_moves d a s.rows))
subtables_consume nest d a (MarkToBase subtables) = moving_consumes (first_rule (mark_to_base a) subtables) (first_moves (mark_to_base a) subtables (λ s. to_base_moves a s))
subtables_consume nest d a (MarkToLigature subtables) = moving_consumes (first_rule (mark_to_ligature a) subtables) (first_moves (mark_to_ligature a) subtables (λ s. to_ligature_moves a s))
subtables_consume nest d a (MarkToMark subtables) = moving_consumes (first_rule (mark_to_mark a) subtables) (first_moves (mark_to_mark a) subtables (λ s. to_mark_moves a s))
subtables_consume nest d a (Context subtables) = first_consumes (context_subtable nest a) subtables (λ s. context_consumes nest a s)
subtables_consume nest d a (ChainContext subtables) = first_consumes (context_subtable nest a) subtables (λ s. context_consumes nest a s)

subtables_count : (nest : Option (ℕ → Action)) → NestRelated by_count nest → (d : Direction) (a : ApplyContext) (s : PositioningSubtables) → IsRelated by_count tt (first_subtable nest d a s)
subtables_count nest k d a (Single subtables) = first_related by_count tt count_closed (λ s. single_subtable d s.rows) subtables (λ s. moving_related (single_subtable d s.rows) (single_moves d s.rows))
subtables_count nest k d a (Pair subtables) = first_related by_count tt count_closed (pair_subtable d a) subtables (λ s. moving_related (pair_subtable d a s) (pair_moves d a s))
subtables_count nest k d a (Cursive subtables) = first_related by_count tt count_closed (λ s. cursive_subtable d a s.rows) subtables (λ s. moving_related (cursive_subtable d a s.rows) (cursive_moves d a s.rows))
subtables_count nest k d a (MarkToBase subtables) = first_related by_count tt count_closed (mark_to_base a) subtables (λ s. moving_related (mark_to_base a s) (to_base_moves a s))
subtables_count nest k d a (MarkToLigature subtables) = first_related by_count tt count_closed (mark_to_ligature a) subtables (λ s. moving_related (mark_to_ligature a s) (to_ligature_moves a s))
subtables_count nest k d a (MarkToMark subtables) = first_related by_count tt count_closed (mark_to_mark a) subtables (λ s. moving_related (mark_to_mark a s) (to_mark_moves a s))
subtables_count nest k d a (Context subtables) = first_related by_count tt count_closed (context_subtable nest a) subtables (λ s. context_related by_count tt count_closed nest k a s)
subtables_count nest k d a (ChainContext subtables) = first_related by_count tt count_closed (context_subtable nest a) subtables (λ s. context_related by_count tt count_closed nest k a s)

lookup_counts : (below : ApplyContext → Option (ℕ → Action)) → ((b : ApplyContext) → NestRelated by_count (below b)) → (o : Option PositioningLookup) (d : Direction) (a : ApplyContext) → IsRelated by_count tt (nested_lookup below o d a)
lookup_counts below k None d a c = tt
lookup_counts below k (Some lookup) d a c = subtables_count (below (under_flag lookup a)) (k (under_flag lookup a)) d (under_flag lookup a) lookup.subtables c

nests_count : (table : List PositioningLookup) (depth : ℕ) (d : Direction) (a : ApplyContext) → NestRelated by_count (nested_actions table depth d a)
unfolding nested_actions
nests_count table zero d a = tt
nests_count table (suc depth) d a = λ n i. lookup_counts (nested_actions table depth d) (nests_count table depth d) (slice_get table n) d a

-- a lookup keeps as many positions
pub action_counts : (table : List PositioningLookup) (d : Direction) (a : ApplyContext) (lookup : PositioningLookup) (c : Cut) → CountStays c (lookup_action table d a lookup c)
action_counts table d a lookup c = met_related by_count tt count_closed a (first_subtable (nested_actions table 64 d a) d a lookup.subtables) (subtables_count (nested_actions table 64 d a) (nests_count table 64 d a) d a lookup.subtables) c

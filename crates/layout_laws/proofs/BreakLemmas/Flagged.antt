-- Rules of positioning flag that they attach glyphs.
use Rattle.std.proofs.Common.{ℕ, zero, suc, ℤ, pos, ◌-ℤ◌, ◌≡◌, ◌+◌, ◌-◌, ◌==◌, ◌&&◌, inl, inr, Bool, true, false, not, nat_lt, nat_le, min, if◌then◌else◌, List, [], ◌∷◌, Option, Some, None, Result, Ok, Err, length, reverse, set, refl, ap, sym, subst, ◌∙◌}
use Rattle.std.specs.Prelude.{slice_get, option_and_then}
use Rattle.std.specs.Int.RustNames.{bit_or}
use Rattle.std.proofs.lemmas.Bool.{cases_eq, cases_lt}
use Rattle.std.proofs.lemmas.List.{get_or-set_same, get_or-set_other, set_past}
use Rattle.std.proofs.lemmas.Nat.{and_or_self}
use Rattle.buffer_common.specs.declared.direction.Direction.{Direction}
use Rattle.buffer_common.specs.Direction.{is_forward, is_horizontal}
use Rattle.buffer_glyphs.specs.declared.cause.ShapeCause.TheVariants.{TooLong}
use Rattle.buffer_glyphs.specs.Items.{Item, Position, zero_position}
use Rattle.buffer_glyphs.specs.LigatureWords.{is_mark}
use Rattle.buffer_glyphs.specs.Events.{Event, Break}
use Rattle.buffer_glyphs.specs.Parts.{first_of}
use Rattle.buffer_rows.specs.Keys.{row_of}
use Rattle.layout_face.specs.declared.positioning.PositioningLookup.{PositioningLookup}
use Rattle.layout_face.specs.declared.positioning.PositioningSubtables.{PositioningSubtables}
use Rattle.layout_face.specs.declared.positioning.PositioningSubtables.TheVariants.{Single, Pair, Cursive, MarkToBase, MarkToLigature, MarkToMark, Context, ChainContext}
use Rattle.layout_common.specs.Rows.{value_of}
use Rattle.layout_common.specs.declared.glyph_row.GlyphRow.{GlyphRow}
use Rattle.layout_tables.specs.Covers.{covers_first_of_pair}
use Rattle.layout_tables.specs.Marks.{base_anchor, component_anchor, component_count}
use Rattle.layout_tables.specs.declared.context.SequenceLookupRecord.{SequenceLookupRecord}
use Rattle.layout_tables.specs.declared.cursive.EntryExit.{EntryExit}
use Rattle.layout_tables.specs.declared.value.Anchor.{Anchor}
use Rattle.layout_tables.specs.declared.value.ValueRecord.{ValueRecord}
use Rattle.layout_tables.specs.declared.mark.BaseRow.{BaseRow}
use Rattle.layout_tables.specs.declared.mark.LigatureRow.{LigatureRow}
use Rattle.layout_tables.specs.declared.mark.MarkBasePos.{MarkBasePos}
use Rattle.layout_tables.specs.declared.mark.MarkLigPos.{MarkLigPos}
use Rattle.layout_tables.specs.declared.mark.MarkRecord.{MarkRecord}
use Rattle.layout_tables.specs.declared.pair.PairPos.{PairPos}
use Rattle.layout_tables.specs.declared.pair.PairValues.{PairValues}
use Rattle.buffer_core.specs.Readings.{View, Read, Reading, with_events, then_reading}
use Rattle.buffer_stages.specs.Actions.{Cut, whole, view_at, uncut_with_positions, past_item, Outcome, Passes, Acts, Refuses, Action, attempt_around, later, or_else, at_first}
use Rattle.layout_offsets.specs.Links.{position_at, is_near, link_to}
use Rattle.layout_offsets.specs.Finishing.{has_attachments}
use Rattle.layout_offsets.specs.Cursive.{with_cursive_attached, first_ends, position_from_anchor, change_at, joined_advances, attaches_earlier, with_cursive_offset, chain_turned, with_child_attached, with_parent_freed}
use Rattle.layout_match.specs.Applied.{ApplyContext}
use Rattle.layout_match.specs.Trying.{after_outcome, outcome_past_item, trial_at, trials}
use Rattle.layout_contexts.specs.Nested.{RecordsOutcome, Walks, Stops, cut_at, holds, has_budget, with_budget_spent, nested_outcome, outcome_at_index, one_record, walked_later, then_walk, each_record, each_nested, cut_after_match}
use Rattle.layout_contexts.specs.Chains.{context_subtable}
use Rattle.layout_gpos.specs.Anchors.{anchored_position, with_attachment_flag}
use Rattle.layout_gpos.specs.Values.{position_with_placement, adjusted_position, with_adjusted_position}
use Rattle.layout_gpos.specs.Singles.{single_adjusted, single_subtable}
use Rattle.layout_gpos.specs.Pairs.{second_adjusted, pair_has_no_effect, pair_adjusted, pair_of, pair_second, next_item, pair_values, pair_from, pair_subtable}
use Rattle.layout_gpos.specs.Marks.{item_before, among_marks, base_before, ligature_before, attach_if, is_there, with_found, on_base, mark_on_base, mark_to_base, component_in, on_component, on_ligature, mark_on_ligature, mark_to_ligature, belong_together, on_mark, mark_on_mark, mark_to_mark}
use Rattle.layout_positioning.specs.Joins.{join_if, exit_of, on_exit, entry_of, from_entry, cursive_subtable}
use Rattle.layout_positioning.specs.Lookups.{positioning_pass, first_subtable, under_flag, nested_lookup, nested_actions, lookup_action}
use Rattle.layout_laws.proofs.Lemmas.Rules.{Limits, NestRelated, IsClosed, IsRelated, first_related, item_related, met_related, context_related}
use Rattle.layout_laws.specs.Breaks.Positioned.{AreLinkless, AreFlagged}
use Rattle.layout_laws.proofs.BreakLemmas.Pairs.{advance_link}
use Rattle.layout_laws.proofs.BreakLemmas.Cursives.{ends_link, anchor_link}

-- ---- positions without links

linkless_set : (ps : List Position) (i : ℕ) (p : Position) → AreLinkless ps → p.attach_chain ≡ pos 0 → AreLinkless (set ps i p)
linkless_set ps i p h e k = elim (cases_lt i (length ps)) [
  | inl lt ↦ elim (cases_eq k i) [
    | inl same ↦ ap (λ (m : ℕ). (position_at m (set ps i p)).attach_chain) same ∙ ap (λ (q : Position). q.attach_chain) (get_or-set_same ps i p zero_position lt) ∙ e
    | inr other ↦ ap (λ (q : Position). q.attach_chain) (get_or-set_other ps i k p zero_position other) ∙ h k
  ]
  | inr past ↦ ap (λ (qs : List Position). (position_at k qs).attach_chain) (set_past ps i p past) ∙ h k
]

-- a change of a position that keeps its link
linkless_change : (ps : List Position) (i : ℕ) (f : Position → Position) → AreLinkless ps → ((p : Position) → (f p).attach_chain ≡ p.attach_chain) → AreLinkless (set ps i (f (position_at i ps)))
linkless_change ps i f h kept = linkless_set ps i (f (position_at i ps)) h (kept (position_at i ps) ∙ h i)

adjusted_linkless : (d : Direction) (i : ℕ) (v : ValueRecord) (ps : List Position) → AreLinkless ps → AreLinkless (with_adjusted_position d i v ps)
adjusted_linkless d i v ps h = linkless_change ps i (adjusted_position d v) h (λ p. advance_link (is_horizontal d) v (position_with_placement v p))

second_linkless : (d : Direction) (i : ℕ) (v : Option ValueRecord) (ps : List Position) → AreLinkless ps → AreLinkless (second_adjusted d i v ps)
second_linkless d i None ps h = h
second_linkless d i (Some v) ps h = adjusted_linkless d i v ps h

pair_linkless : (d : Direction) (i j : ℕ) (v : PairValues) (ps : List Position) → AreLinkless ps → AreLinkless (pair_adjusted d i j v ps)
pair_linkless d i j v ps h = by_null (pair_has_no_effect v)
  where
    by_null : (null : Bool) → AreLinkless (if null then ps else second_adjusted d j v.second (with_adjusted_position d i v.first ps))
    by_null true = h
    by_null false = second_linkless d j v.second (with_adjusted_position d i v.first ps) (adjusted_linkless d i v.first ps h)

advances_linkless : (forward across : Bool) (first second : ℕ) (exit entry : Anchor) (ps : List Position) → AreLinkless ps → AreLinkless (joined_advances forward across first exit second entry ps)
advances_linkless true across first second exit entry ps h = linkless_change (change_at (first_ends across exit) first ps) second (position_from_anchor across entry) (linkless_change ps first (first_ends across exit) h (ends_link across exit)) (anchor_link across entry)
advances_linkless false across first second exit entry ps h = linkless_change (change_at (position_from_anchor across exit) first ps) second (first_ends across entry) (linkless_change ps first (position_from_anchor across exit) h (anchor_link across exit)) (ends_link across entry)

-- ---- the flag of attachments

flag_there : (s : ℕ) → has_attachments (bit_or s 8) ≡ true
flag_there s = ap (λ (n : ℕ). not (n == 0)) (and_or_self 8 s)

flagged_near : (s : ℕ) (ps : List Position) → AreFlagged (bit_or s 8) ps
flagged_near s ps e = let both : true ≡ false = sym (flag_there s) ∙ e in cc

near_same : (i j : ℕ) → is_near i j ≡ is_near j i
near_same i j = both_ways (nat_le (i - j) 32767) (nat_le (j - i) 32767)
  where
    both_ways : (a b : Bool) → (a && b) ≡ (b && a)
    both_ways true true = refl
    both_ways true false = refl
    both_ways false true = refl
    both_ways false false = refl

-- where a rule acts, its attachments are flagged where those before were
abbrev FlagStays : Cut → Outcome → Type 0
FlagStays c (Passes es) = Unit {0}
FlagStays c (Acts d es) = AreFlagged c.scratch_flags c.positions → AreFlagged d.scratch_flags d.positions
FlagStays c (Refuses x) = Unit {0}

abbrev by_flag : Limits
by_flag = record {
  Index = Unit {0};
  Holds = λ i c o p. FlagStays c o;
  limit = λ i c. c.max_len;
  scratch_flags = λ i c. c.scratch_flags;
  budget = λ i c. c.max_ops;
}

later_flags : (c : Cut) (es : List Event) (o : Outcome) → FlagStays c o → FlagStays c (later es o)
later_flags c es (Passes fs) h = tt
later_flags c es (Acts d fs) h = h
later_flags c es (Refuses x) h = tt

either_flags : (c : Cut) (o second : Outcome) → FlagStays c o → FlagStays c second → FlagStays c (or_else o second)
either_flags c (Passes es) second h k = later_flags c es second k
either_flags c (Acts d es) second h k = h
either_flags c (Refuses x) second h k = tt

abbrev RecordsFlag : Cut → RecordsOutcome → Type 0
RecordsFlag c (Walks d ps end es) = AreFlagged c.scratch_flags c.positions → AreFlagged d.scratch_flags d.positions
RecordsFlag c (Stops x) = Unit {0}

nested_flags : (i p : ℕ) (c : Cut) (ps : List ℕ) (end : ℕ) (q : Outcome) → FlagStays c q → RecordsFlag c (nested_outcome i p c ps end q)
nested_flags i p c ps end (Passes es) h = λ k. k
nested_flags i p c ps end (Acts d es) h = h
nested_flags i p c ps end (Refuses x) h = tt

index_flags : (act : ℕ → Action) → ((i : ℕ) (c : Cut) → FlagStays c (act i c)) → (r : SequenceLookupRecord) (o : Option ℕ) (c : Cut) (ps : List ℕ) (end : ℕ) → RecordsFlag c (outcome_at_index act r o c ps end)
index_flags act k r None c ps end = λ h. h
index_flags act k r (Some p) c ps end = by_tests (nat_lt p (length (whole c)) && has_budget c) (holds p (with_budget_spent c))
  where
    by_tests : (t u : Bool) → RecordsFlag c (if t then (if u then nested_outcome r.sequence_index p (cut_at p (with_budget_spent c)) ps end (act r.lookup_index (cut_at p (with_budget_spent c))) else Stops TooLong) else Walks c ps end [])
    by_tests false u = λ h. h
    by_tests true false = tt
    by_tests true true = as_cut (nested_outcome r.sequence_index p (cut_at p (with_budget_spent c)) ps end (act r.lookup_index (cut_at p (with_budget_spent c)))) (nested_flags r.sequence_index p (cut_at p (with_budget_spent c)) ps end (act r.lookup_index (cut_at p (with_budget_spent c))) (k r.lookup_index (cut_at p (with_budget_spent c))))
      where
        as_cut : (a : RecordsOutcome) → RecordsFlag (cut_at p (with_budget_spent c)) a → RecordsFlag c a
        as_cut (Walks d qs to es) h = h
        as_cut (Stops x) h = tt

then_flags : (c : Cut) (a : RecordsOutcome) (next : Cut → List ℕ → ℕ → RecordsOutcome) → RecordsFlag c a → ((d : Cut) (ps : List ℕ) (to : ℕ) → RecordsFlag d (next d ps to)) → RecordsFlag c (then_walk a next)
then_flags c (Stops x) next h k = tt
then_flags c (Walks d ps to es) next h k = by_next (next d ps to) (k d ps to)
  where
    by_next : (b : RecordsOutcome) → RecordsFlag d b → RecordsFlag c (walked_later es b)
    by_next (Walks e qs end fs) g = λ f. g (h f)
    by_next (Stops x) g = tt

each_flags : (act : ℕ → Action) → ((i : ℕ) (c : Cut) → FlagStays c (act i c)) → (records : List SequenceLookupRecord) (c : Cut) (ps : List ℕ) (end : ℕ) → RecordsFlag c (each_record act records c ps end)
each_flags act k [] c ps end = λ h. h
each_flags act k (r ∷ records) c ps end = then_flags c (one_record act r c ps end) (each_record act records) (index_flags act k r (slice_get ps r.sequence_index) c ps end) (λ d qs to. each_flags act k records d qs to)

match_flags : (c : Cut) (a : RecordsOutcome) → RecordsFlag c a → FlagStays c (cut_after_match a)
match_flags c (Stops x) h = tt
match_flags c (Walks w ps end es) h = by_test (holds (min end (length (whole w))) w)
  where
    by_test : (t : Bool) → FlagStays c (if t then Acts (cut_at (min end (length (whole w))) w) es else Refuses TooLong)
    by_test true = h
    by_test false = tt

nest_flags : (nest : Option (ℕ → Action)) (records : List SequenceLookupRecord) (ps : List ℕ) (end : ℕ) (c : Cut) → NestRelated by_flag nest → FlagStays c (cut_after_match (each_nested nest records c ps end))
nest_flags None records ps end c k = match_flags c (Walks c ps end []) (λ h. h)
nest_flags (Some act) records ps end c k = match_flags c (each_nested (Some act) records c ps end) (each_flags act (λ i d. k i tt d) records c ps end)

flag_closed : IsClosed by_flag
flag_closed = record {
  passes = λ i c. tt;
  attempts = λ i back ahead c. tt;
  either = λ i c o p second third f g. either_flags c o second f g;
  breaks = λ i from to c o p f. later_flags c (Break from to ∷ []) o f;
  nested = λ i nest records ps end c k. nest_flags nest records ps end c k;
}

abbrev IsFlagging : Action → Type 0
IsFlagging act = (c : Cut) → FlagStays c (act c)

test_flags : (c : Cut) (t : Bool) (o p : Outcome) → FlagStays c o → FlagStays c p → FlagStays c (if t then o else p)
test_flags c true o p h k = h
test_flags c false o p h k = k

item_flags : (act : Item → Action) → ((x : Item) → IsFlagging (act x)) → IsFlagging (λ c. at_first act (first_of c.rest) c)
item_flags act k c = item_related by_flag tt flag_closed act c (λ x e. k x c)

-- ---- single and pair adjustment

value_flags : (d : Direction) (v : Option ValueRecord) → IsFlagging (single_adjusted d v)
value_flags d None c = tt
value_flags d (Some v) c = λ h e. adjusted_linkless d (length c.front) v c.positions (h e)

single_flags : (d : Direction) (rows : List (GlyphRow ValueRecord)) → IsFlagging (single_subtable d rows)
single_flags d rows = item_flags (λ x. single_adjusted d (value_of x.number rows)) (λ x. value_flags d (value_of x.number rows))

values_flag : (d : Direction) (apart : ℕ) (found : Option PairValues) → IsFlagging (pair_of d apart found)
values_flag d apart None c = tt
values_flag d apart (Some v) c = λ h e. pair_linkless d (length c.front) (length c.front + apart) v c.positions (h e)

second_flags : (d : Direction) (values : Item → Option PairValues) (o : Result ℕ ℕ) → IsFlagging (pair_second d values o)
second_flags d values (Err end) c = tt
second_flags d values (Ok apart) c = values_flag d apart (option_and_then values (slice_get c.rest apart)) c

from_flags : (d : Direction) (a : ApplyContext) (s : PairPos) (x : Item) → IsFlagging (pair_from d a s x)
from_flags d a s x c = test_flags c (covers_first_of_pair s x.number) (pair_second d (λ y. pair_values s x.number y.number) (next_item a c.rest) c) (Passes []) (second_flags d (λ y. pair_values s x.number y.number) (next_item a c.rest) c) tt

pair_flags : (d : Direction) (a : ApplyContext) (s : PairPos) → IsFlagging (pair_subtable d a s)
pair_flags d a s = item_flags (pair_from d a s) (from_flags d a s)

-- ---- attachments

found_flags : (act : ℕ → Option Item → Action) (o : Result ℕ ℕ) → ((back : ℕ) (x : Option Item) → IsFlagging (act back x)) → IsFlagging (with_found act o)
found_flags act (Err end) k c = tt
found_flags act (Ok back) k c = k back (slice_get (reverse c.front) back) c

attach_flags : (base mark : Option Anchor) (back : ℕ) → IsFlagging (attach_if base mark back)
attach_flags None mark back c = tt
attach_flags (Some base) None back c = tt
attach_flags (Some base) (Some mark) back c = by_near (is_near (length c.front) (length c.front - (back + 1)))
  where
    by_near : (near : Bool) → AreFlagged c.scratch_flags c.positions
        → AreFlagged (if near then bit_or c.scratch_flags 8 else c.scratch_flags) (if near then set c.positions (length c.front) (anchored_position base mark (link_to (length c.front) (length c.front - (back + 1))) (position_at (length c.front) c.positions)) else c.positions)
    by_near true h = flagged_near c.scratch_flags (set c.positions (length c.front) (anchored_position base mark (link_to (length c.front) (length c.front - (back + 1))) (position_at (length c.front) c.positions)))
    by_near false h = h

base_flags : (bases : List BaseRow) (m : MarkRecord) (back : ℕ) (o : Option Item) → IsFlagging (on_base bases m back o)
base_flags bases m back None c = tt
base_flags bases m back (Some x) c =
    test_flags c (is_there (row_of (λ r. r.glyph) x.number bases)) (attach_if (base_anchor x.number m.class bases) m.anchor back c) (attempt_around (back + 1) 1 c) (attach_flags (base_anchor x.number m.class bases) m.anchor back c) tt

mark_base_flags : (a : ApplyContext) (bases : List BaseRow) (o : Option MarkRecord) → IsFlagging (mark_on_base a bases o)
mark_base_flags a bases None c = tt
mark_base_flags a bases (Some m) c = found_flags (on_base bases m) (base_before a c) (base_flags bases m) c

to_base_flags : (a : ApplyContext) (s : MarkBasePos) → IsFlagging (mark_to_base a s)
to_base_flags a s = item_flags (λ x. mark_on_base a s.bases (value_of x.number s.marks)) (λ x. mark_base_flags a s.bases (value_of x.number s.marks))

component_flags : (ligatures : List LigatureRow) (m : MarkRecord) (back glyph : ℕ) (o : Option ℕ) → IsFlagging (on_component ligatures m back glyph o)
component_flags ligatures m back glyph None c = tt
component_flags ligatures m back glyph (Some k) c = attach_flags (component_anchor glyph k m.class ligatures) m.anchor back c

ligature_flags : (ligatures : List LigatureRow) (m : MarkRecord) (mark : Item) (back : ℕ) (o : Option Item) → IsFlagging (on_ligature ligatures m mark back o)
ligature_flags ligatures m mark back None c = tt
ligature_flags ligatures m mark back (Some x) c = component_flags ligatures m back x.number (component_in (component_count x.number ligatures) x mark) c

mark_ligature_flags : (a : ApplyContext) (ligatures : List LigatureRow) (x : Item) (o : Option MarkRecord) → IsFlagging (mark_on_ligature a ligatures x o)
mark_ligature_flags a ligatures x None c = tt
mark_ligature_flags a ligatures x (Some m) c = found_flags (on_ligature ligatures m x) (ligature_before a c) (ligature_flags ligatures m x) c

to_ligature_flags : (a : ApplyContext) (s : MarkLigPos) → IsFlagging (mark_to_ligature a s)
to_ligature_flags a s = item_flags (λ x. mark_on_ligature a s.ligatures x (value_of x.number s.marks)) (λ x. mark_ligature_flags a s.ligatures x (value_of x.number s.marks))

on_mark_flags : (bases : List BaseRow) (m : MarkRecord) (mark : Item) (back : ℕ) (o : Option Item) → IsFlagging (on_mark bases m mark back o)
on_mark_flags bases m mark back None c = tt
on_mark_flags bases m mark back (Some x) c = test_flags c (is_mark x && belong_together mark x) (on_base bases m back (Some x) c) (attempt_around (back + 1) 1 c) (base_flags bases m back (Some x) c) tt

mark_mark_flags : (a : ApplyContext) (bases : List BaseRow) (x : Item) (o : Option MarkRecord) → IsFlagging (mark_on_mark a bases x o)
mark_mark_flags a bases x None c = tt
mark_mark_flags a bases x (Some m) c = found_flags (on_mark bases m x) (item_before (among_marks a) c) (on_mark_flags bases m x) c

to_mark_flags : (a : ApplyContext) (s : MarkBasePos) → IsFlagging (mark_to_mark a s)
to_mark_flags a s = item_flags (λ x. mark_on_mark a s.bases x (value_of x.number s.marks)) (λ x. mark_mark_flags a s.bases x (value_of x.number s.marks))

-- a cursive child is attached only where its parent is near
attached_flags : (d : Direction) (s child to : ℕ) (x y : ℤ) (old ps : List Position) (near : Bool) → is_near child to ≡ near → (AreFlagged s old → AreFlagged s ps) → AreFlagged s old → AreFlagged (with_attachment_flag near s) (with_cursive_attached d child to x y ps)
attached_flags d s child to x y old ps true e h k = flagged_near s (with_cursive_attached d child to x y ps)
attached_flags d s child to x y old ps false e h k =
    subst (λ (b : Bool). AreFlagged s (if b then with_parent_freed d child to (with_child_attached d child to x y (chain_turned d to child ps)) else ps)) (sym e) (h k)

offset_flags : (d : Direction) (earlier : Bool) (s first second : ℕ) (exit entry : Anchor) (old ps : List Position) → (AreFlagged s old → AreFlagged s ps) → AreFlagged s old → AreFlagged (with_attachment_flag (is_near second first) s) (with_cursive_offset d earlier first exit second entry ps)
offset_flags d true s first second exit entry old ps h k = attached_flags d s first second (entry.x -ℤ exit.x) (entry.y -ℤ exit.y) old ps (is_near second first) (near_same first second) h k
offset_flags d false s first second exit entry old ps h k = attached_flags d s second first (exit.x -ℤ entry.x) (exit.y -ℤ entry.y) old ps (is_near second first) refl h k

join_flags : (d : Direction) (a : ApplyContext) (exit : Option Anchor) (entry : Anchor) (back : ℕ) → IsFlagging (join_if d a exit entry back)
join_flags d a None entry back c = tt
join_flags d a (Some exit) entry back c =
    let first = length c.front - (back + 1) in
    let second = length c.front in
    offset_flags d (attaches_earlier a.props) c.scratch_flags first second exit entry c.positions (joined_advances (is_forward d) (is_horizontal d) first exit second entry c.positions) (λ h e. advances_linkless (is_forward d) (is_horizontal d) first second exit entry c.positions (h e))

exit_flags : (d : Direction) (a : ApplyContext) (rows : List (GlyphRow EntryExit)) (entry : Anchor) (back : ℕ) (o : Option Item) → IsFlagging (on_exit d a rows entry back o)
exit_flags d a rows entry back None c = tt
exit_flags d a rows entry back (Some x) c = join_flags d a (exit_of rows x.number) entry back c

entry_flags : (d : Direction) (a : ApplyContext) (rows : List (GlyphRow EntryExit)) (o : Option Anchor) → IsFlagging (from_entry d a rows o)
entry_flags d a rows None c = tt
entry_flags d a rows (Some entry) c = found_flags (on_exit d a rows entry) (item_before a c) (exit_flags d a rows entry) c

cursive_flags : (d : Direction) (a : ApplyContext) (rows : List (GlyphRow EntryExit)) → IsFlagging (cursive_subtable d a rows)
cursive_flags d a rows = item_flags (λ x. from_entry d a rows (entry_of rows x.number)) (λ x. entry_flags d a rows (entry_of rows x.number))

-- ---- lookups

subtables_flag : (nest : Option (ℕ → Action)) → NestRelated by_flag nest → (d : Direction) (a : ApplyContext) (s : PositioningSubtables) → IsRelated by_flag tt (first_subtable nest d a s)
subtables_flag nest k d a (Single subtables) = first_related by_flag tt flag_closed (λ s. single_subtable d s.rows) subtables (λ s. single_flags d s.rows)
subtables_flag nest k d a (Pair subtables) = first_related by_flag tt flag_closed (pair_subtable d a) subtables (λ s. pair_flags d a s)
subtables_flag nest k d a (Cursive subtables) = first_related by_flag tt flag_closed (λ s. cursive_subtable d a s.rows) subtables (λ s. cursive_flags d a s.rows)
subtables_flag nest k d a (MarkToBase subtables) = first_related by_flag tt flag_closed (mark_to_base a) subtables (λ s. to_base_flags a s)
subtables_flag nest k d a (MarkToLigature subtables) = first_related by_flag tt flag_closed (mark_to_ligature a) subtables (λ s. to_ligature_flags a s)
subtables_flag nest k d a (MarkToMark subtables) = first_related by_flag tt flag_closed (mark_to_mark a) subtables (λ s. to_mark_flags a s)
subtables_flag nest k d a (Context subtables) = first_related by_flag tt flag_closed (context_subtable nest a) subtables (λ s. context_related by_flag tt flag_closed nest k a s)
subtables_flag nest k d a (ChainContext subtables) = first_related by_flag tt flag_closed (context_subtable nest a) subtables (λ s. context_related by_flag tt flag_closed nest k a s)

lookup_flags : (below : ApplyContext → Option (ℕ → Action)) → ((b : ApplyContext) → NestRelated by_flag (below b)) → (o : Option PositioningLookup) (d : Direction) (a : ApplyContext) → IsRelated by_flag tt (nested_lookup below o d a)
lookup_flags below k None d a c = tt
lookup_flags below k (Some lookup) d a c = subtables_flag (below (under_flag lookup a)) (k (under_flag lookup a)) d (under_flag lookup a) lookup.subtables c

nests_flag : (table : List PositioningLookup) (depth : ℕ) (d : Direction) (a : ApplyContext) → NestRelated by_flag (nested_actions table depth d a)
unfolding nested_actions
nests_flag table zero d a = tt
nests_flag table (suc depth) d a = λ n i. lookup_flags (nested_actions table depth d) (nests_flag table depth d) (slice_get table n) d a

action_flags : (table : List PositioningLookup) (d : Direction) (a : ApplyContext) (lookup : PositioningLookup) → IsFlagging (lookup_action table d a lookup)
action_flags table d a lookup c = met_related by_flag tt flag_closed a (first_subtable (nested_actions table 64 d a) d a lookup.subtables) (subtables_flag (nested_actions table 64 d a) (nests_flag table 64 d a) d a lookup.subtables) c

-- ---- all indices

-- a reading gives positions whose attachments are flagged
abbrev FlaggedReading : Reading → Type 0
FlaggedReading (Ok r) = AreFlagged r.view.scratch_flags r.view.positions
FlaggedReading (Err x) = Unit {0}

then_flagged : (a : Read) (q : Reading) → FlaggedReading q → FlaggedReading (then_reading a q)
then_flagged a (Ok r) h = h
then_flagged a (Err x) h = tt

outcome_flagged : (o : Outcome) (next : Cut → Reading) (v : View) (c : Cut) → FlagStays c o → AreFlagged c.scratch_flags c.positions → ((d : Cut) → AreFlagged d.scratch_flags d.positions → FlaggedReading (next d)) → FlaggedReading (after_outcome o next v c)
outcome_flagged (Passes es) next v c h k step = then_flagged (with_events es (view_at v c)) (next c) (step c k)
outcome_flagged (Acts d es) next v c h k step = then_flagged (with_events es (view_at v d)) (next d) (step d (h k))
outcome_flagged (Refuses x) next v c h k step = tt

past_flagged : (o : Outcome) (next : Cut → Reading) (v : View) (c : Cut) → FlagStays c o → AreFlagged c.scratch_flags c.positions → ((d : Cut) → AreFlagged d.scratch_flags d.positions → FlaggedReading (next d)) → FlaggedReading (after_outcome (outcome_past_item o c) next v c)
past_flagged (Passes es) next v c h k step = by_test (nat_le (length c.front + 1) c.max_len)
  where
    by_test : (t : Bool) → FlaggedReading (after_outcome (if t then Acts (past_item c) es else Refuses TooLong) next v c)
    by_test true = outcome_flagged (Acts (past_item c) es) next v c (λ f. f) k step
    by_test false = tt
past_flagged (Acts d es) next v c h k step = outcome_flagged (Acts d es) next v c h k step
past_flagged (Refuses x) next v c h k step = tt

trial_flagged : (act : Action) → IsFlagging act → (next : Cut → Reading) (v : View) (ys : List Item) (c : Cut) → AreFlagged c.scratch_flags c.positions → ((d : Cut) → AreFlagged d.scratch_flags d.positions → FlaggedReading (next d)) → FlaggedReading (trial_at act next v ys c)
trial_flagged act flags next v [] c k step = k
trial_flagged act flags next v (y ∷ ys) c k step = past_flagged (act c) next v c (flags c) k step

trials_flagged : (act : Action) → IsFlagging act → (v : View) (m : ℕ) (c : Cut) → AreFlagged c.scratch_flags c.positions → FlaggedReading (trials act v m c)
trials_flagged act flags v zero c k = k
trials_flagged act flags v (suc m) c k = trial_flagged act flags (trials act v m) v c.rest c k (λ d h. trials_flagged act flags v m d h)

-- a lookup over a text flags that it attaches glyphs
pub pass_flags : (table : List PositioningLookup) (d : Direction) (a : ApplyContext) (lookup : PositioningLookup) (v : View) (r : Read) → positioning_pass (lookup_action table d a lookup) v ≡ Ok r → AreFlagged v.scratch_flags v.positions → AreFlagged r.view.scratch_flags r.view.positions
pass_flags table d a lookup v r e h = subst FlaggedReading e (trials_flagged (lookup_action table d a lookup) (action_flags table d a lookup) v (length v.items) (uncut_with_positions v) h)

-- What holds of all lookups of positioning, by what holds of the ways in which they position glyphs.
use Rattle.std.proofs.Common.{ℕ, zero, suc, ◌+◌, ◌-◌, ◌&&◌, Bool, true, false, if◌then◌else◌, List, [], Option, Some, None, Result, Ok, Err, length, reverse}
use Rattle.std.specs.Prelude.{slice_get, option_and_then}
use Rattle.buffer_common.specs.declared.direction.Direction.{Direction}
use Rattle.buffer_glyphs.specs.Events.{Event}
use Rattle.buffer_glyphs.specs.Items.{Item, Position}
use Rattle.buffer_glyphs.specs.LigatureWords.{is_mark}
use Rattle.buffer_rows.specs.Keys.{row_of}
use Rattle.layout_face.specs.declared.positioning.PositioningLookup.{PositioningLookup}
use Rattle.layout_face.specs.declared.positioning.PositioningSubtables.{PositioningSubtables}
use Rattle.layout_face.specs.declared.positioning.PositioningSubtables.TheVariants.{Single, Pair, Cursive, MarkToBase, MarkToLigature, MarkToMark, Context, ChainContext}
use Rattle.layout_common.specs.Rows.{value_of}
use Rattle.layout_common.specs.declared.glyph_row.GlyphRow.{GlyphRow}
use Rattle.layout_tables.specs.Marks.{base_anchor, component_anchor, component_count}
use Rattle.layout_tables.specs.declared.cursive.EntryExit.{EntryExit}
use Rattle.layout_tables.specs.declared.value.Anchor.{Anchor}
use Rattle.layout_tables.specs.declared.value.ValueRecord.{ValueRecord}
use Rattle.layout_tables.specs.declared.mark.BaseRow.{BaseRow}
use Rattle.layout_tables.specs.declared.mark.LigatureRow.{LigatureRow}
use Rattle.layout_tables.specs.declared.mark.MarkBasePos.{MarkBasePos}
use Rattle.layout_tables.specs.declared.mark.MarkLigPos.{MarkLigPos}
use Rattle.layout_tables.specs.declared.mark.MarkRecord.{MarkRecord}
use Rattle.layout_tables.specs.declared.pair.PairPos.{PairPos}
use Rattle.layout_tables.specs.declared.pair.PairValues.{PairValues}
use Rattle.layout_offsets.specs.Links.{is_near}
use Rattle.layout_offsets.specs.Cursive.{attaches_earlier, cursive_attachment}
use Rattle.buffer_stages.specs.Actions.{Cut, Passes, Acts, Action, attempt_around}
use Rattle.layout_match.specs.Applied.{ApplyContext}
use Rattle.layout_contexts.specs.Chains.{context_subtable}
use Rattle.layout_gpos.specs.Anchors.{with_mark_attached, with_attachment_flag}
use Rattle.layout_gpos.specs.Moving.{break_around, cut_with_positions, strict_break_around}
use Rattle.layout_gpos.specs.Values.{with_adjusted_position}
use Rattle.layout_gpos.specs.Singles.{single_adjusted, single_subtable}
use Rattle.layout_tables.specs.Covers.{covers_first_of_pair}
use Rattle.layout_gpos.specs.Pairs.{pair_adjusted, pair_has_no_effect, pair_length, takes_glyphs, pair_of, pair_second, next_item, pair_values, pair_from, pair_subtable}
use Rattle.layout_gpos.specs.Marks.{attach_if, is_there, with_found, on_base, mark_on_base, mark_to_base, on_component, component_in, on_ligature, item_before, among_marks, mark_on_ligature, mark_to_ligature, belong_together, on_mark, mark_on_mark, mark_to_mark}
use Rattle.layout_positioning.specs.Joins.{join_if, exit_of, on_exit, entry_of, from_entry, cursive_subtable}
use Rattle.layout_positioning.specs.Lookups.{first_subtable, under_flag, nested_lookup, nested_actions, lookup_action}
use Rattle.layout_laws.proofs.Lemmas.Rules.{Limits, recut, IsRelated, NestRelated, IsClosed, first_related, item_related, test_related, met_related, context_related}

-- a relation is kept by all ways in which lookups of positioning act: positions of some glyphs that are then done, with a break between them, a break that is requested or none, and glyphs attached to others
pub record IsPositioned (w : Limits) : Type 0 where
  pub closed : IsClosed w
  pub placed : (i : w.Index) (n : ℕ) (ps : List Position) (c : Cut) → w.Holds i c (Acts (cut_with_positions n ps c) []) (Acts (cut_with_positions n ps (recut w i c)) [])
  pub broken : (i : w.Index) (n back ahead : ℕ) (ps : List Position) (c : Cut) → w.Holds i c (Acts (cut_with_positions n ps c) (break_around back ahead c)) (Acts (cut_with_positions n ps (recut w i c)) (break_around back ahead c))
  pub strictly_broken : (i : w.Index) (n ahead : ℕ) (ps : List Position) (c : Cut) → w.Holds i c (Acts (cut_with_positions n ps c) (strict_break_around ahead c)) (Acts (cut_with_positions n ps (recut w i c)) (strict_break_around ahead c))
  pub attached : (i : w.Index) (near : Bool) (n back ahead : ℕ) (ps : List Position) (c : Cut)
      → w.Holds i c (Acts (record (cut_with_positions n ps c) { scratch_flags = with_attachment_flag near c.scratch_flags }) (break_around back ahead c)) (Acts (record (cut_with_positions n ps (recut w i c)) { scratch_flags = with_attachment_flag near (w.scratch_flags i c) }) (break_around back ahead c))

-- ---- single and pair adjustment

value_related : (w : Limits) (i : w.Index) → IsPositioned w → (d : Direction) (o : Option ValueRecord) → IsRelated w i (single_adjusted d o)
value_related w i ways d None c = ways.closed.passes i c
value_related w i ways d (Some v) c = ways.placed i 1 (with_adjusted_position d (length c.front) v c.positions) c

single_related : (w : Limits) (i : w.Index) → IsPositioned w → (d : Direction) (rows : List (GlyphRow ValueRecord)) → IsRelated w i (single_subtable d rows)
single_related w i ways d rows c = item_related w i ways.closed (λ x. single_adjusted d (value_of x.number rows)) c (λ x e. value_related w i ways d (value_of x.number rows) c)

-- the events of a pair, by whether it is null, and whether it takes its glyphs from other pairs
abbrev pub events_by : Bool → Bool → ℕ → Cut → List Event
events_by null takes apart c = if null then (if takes then strict_break_around (apart + 1) c else []) else break_around 0 (apart + 1) c

values_related : (w : Limits) (i : w.Index) → IsPositioned w → (d : Direction) (apart : ℕ) (o : Option PairValues) → IsRelated w i (pair_of d apart o)
values_related w i ways d apart None c = ways.closed.attempts i 0 (apart + 1) c
values_related w i ways d apart (Some v) c = by_events (pair_has_no_effect v) (takes_glyphs apart v.second)
  where
    by_events : (null takes : Bool) → w.Holds i c (Acts (cut_with_positions (pair_length apart v.second) (pair_adjusted d (length c.front) (length c.front + apart) v c.positions) c) (events_by null takes apart c))
        (Acts (cut_with_positions (pair_length apart v.second) (pair_adjusted d (length c.front) (length c.front + apart) v c.positions) (recut w i c)) (events_by null takes apart c))
    by_events true true = ways.strictly_broken i (pair_length apart v.second) (apart + 1) (pair_adjusted d (length c.front) (length c.front + apart) v c.positions) c
    by_events true false = ways.placed i (pair_length apart v.second) (pair_adjusted d (length c.front) (length c.front + apart) v c.positions) c
    by_events false takes = ways.broken i (pair_length apart v.second) 0 (apart + 1) (pair_adjusted d (length c.front) (length c.front + apart) v c.positions) c

second_related : (w : Limits) (i : w.Index) → IsPositioned w → (d : Direction) (values : Item → Option PairValues) (o : Result ℕ ℕ) → IsRelated w i (pair_second d values o)
second_related w i ways d values (Err end) c = ways.closed.attempts i 0 end c
second_related w i ways d values (Ok apart) c = values_related w i ways d apart (option_and_then values (slice_get c.rest apart)) c

pair_related : (w : Limits) (i : w.Index) → IsPositioned w → (d : Direction) (a : ApplyContext) (s : PairPos) → IsRelated w i (pair_subtable d a s)
pair_related w i ways d a s c = item_related w i ways.closed (pair_from d a s) c (λ x e.
    test_related w i c (covers_first_of_pair s x.number) (pair_second d (λ y. pair_values s x.number y.number) (next_item a c.rest) c) (Passes []) (pair_second d (λ y. pair_values s x.number y.number) (next_item a c.rest) (recut w i c)) (Passes [])
    (second_related w i ways d (λ y. pair_values s x.number y.number) (next_item a c.rest) c) (ways.closed.passes i c))

-- ---- attachments

found_related : (w : Limits) (i : w.Index) → IsPositioned w → (act : ℕ → Option Item → Action) (o : Result ℕ ℕ) → ((back : ℕ) (x : Option Item) → IsRelated w i (act back x)) → IsRelated w i (with_found act o)
found_related w i ways act (Err end) k c = ways.closed.attempts i end 1 c
found_related w i ways act (Ok back) k c = k back (slice_get (reverse c.front) back) c

attach_related : (w : Limits) (i : w.Index) → IsPositioned w → (base mark : Option Anchor) (back : ℕ) → IsRelated w i (attach_if base mark back)
attach_related w i ways None mark back c = ways.closed.passes i c
attach_related w i ways (Some base) None back c = ways.closed.passes i c
attach_related w i ways (Some base) (Some mark) back c = ways.attached i (is_near (length c.front) (length c.front - (back + 1))) 1 (back + 1) 1 (with_mark_attached (length c.front) (length c.front - (back + 1)) base mark c.positions) c

base_related : (w : Limits) (i : w.Index) → IsPositioned w → (bases : List BaseRow) (m : MarkRecord) (back : ℕ) (o : Option Item) → IsRelated w i (on_base bases m back o)
base_related w i ways bases m back None c = ways.closed.passes i c
base_related w i ways bases m back (Some x) c =
    test_related w i c (is_there (row_of (λ r. r.glyph) x.number bases)) (attach_if (base_anchor x.number m.class bases) m.anchor back c) (attempt_around (back + 1) 1 c) (attach_if (base_anchor x.number m.class bases) m.anchor back (recut w i c)) (attempt_around (back + 1) 1 c)
    (attach_related w i ways (base_anchor x.number m.class bases) m.anchor back c) (ways.closed.attempts i (back + 1) 1 c)

mark_base_related : (w : Limits) (i : w.Index) → IsPositioned w → (a : ApplyContext) (bases : List BaseRow) (o : Option MarkRecord) → IsRelated w i (mark_on_base a bases o)
mark_base_related w i ways a bases None c = ways.closed.passes i c
mark_base_related w i ways a bases (Some m) c = found_related w i ways (on_base bases m) _ (base_related w i ways bases m) c

to_base_related : (w : Limits) (i : w.Index) → IsPositioned w → (a : ApplyContext) (s : MarkBasePos) → IsRelated w i (mark_to_base a s)
to_base_related w i ways a s c = item_related w i ways.closed (λ x. mark_on_base a s.bases (value_of x.number s.marks)) c (λ x e. mark_base_related w i ways a s.bases (value_of x.number s.marks) c)

component_related : (w : Limits) (i : w.Index) → IsPositioned w → (ligatures : List LigatureRow) (m : MarkRecord) (back glyph : ℕ) (o : Option ℕ) → IsRelated w i (on_component ligatures m back glyph o)
component_related w i ways ligatures m back glyph None c = ways.closed.attempts i (back + 1) 1 c
component_related w i ways ligatures m back glyph (Some k) c = attach_related w i ways (component_anchor glyph k m.class ligatures) m.anchor back c

on_ligature_related : (w : Limits) (i : w.Index) → IsPositioned w → (ligatures : List LigatureRow) (m : MarkRecord) (mark : Item) (back : ℕ) (o : Option Item) → IsRelated w i (on_ligature ligatures m mark back o)
on_ligature_related w i ways ligatures m mark back None c = ways.closed.passes i c
on_ligature_related w i ways ligatures m mark back (Some x) c = component_related w i ways ligatures m back x.number (component_in (component_count x.number ligatures) x mark) c

mark_ligature_related : (w : Limits) (i : w.Index) → IsPositioned w → (a : ApplyContext) (ligatures : List LigatureRow) (x : Item) (o : Option MarkRecord) → IsRelated w i (mark_on_ligature a ligatures x o)
mark_ligature_related w i ways a ligatures x None c = ways.closed.passes i c
mark_ligature_related w i ways a ligatures x (Some m) c = found_related w i ways (on_ligature ligatures m x) _ (on_ligature_related w i ways ligatures m x) c

to_ligature_related : (w : Limits) (i : w.Index) → IsPositioned w → (a : ApplyContext) (s : MarkLigPos) → IsRelated w i (mark_to_ligature a s)
to_ligature_related w i ways a s c = item_related w i ways.closed (λ x. mark_on_ligature a s.ligatures x (value_of x.number s.marks)) c (λ x e. mark_ligature_related w i ways a s.ligatures x (value_of x.number s.marks) c)

on_mark_related : (w : Limits) (i : w.Index) → IsPositioned w → (bases : List BaseRow) (m : MarkRecord) (mark : Item) (back : ℕ) (o : Option Item) → IsRelated w i (on_mark bases m mark back o)
on_mark_related w i ways bases m mark back None c = ways.closed.passes i c
on_mark_related w i ways bases m mark back (Some x) c =
    test_related w i c (is_mark x && belong_together mark x) (on_base bases m back (Some x) c) (attempt_around (back + 1) 1 c) (on_base bases m back (Some x) (recut w i c)) (attempt_around (back + 1) 1 c)
    (base_related w i ways bases m back (Some x) c) (ways.closed.attempts i (back + 1) 1 c)

mark_mark_related : (w : Limits) (i : w.Index) → IsPositioned w → (a : ApplyContext) (bases : List BaseRow) (x : Item) (o : Option MarkRecord) → IsRelated w i (mark_on_mark a bases x o)
mark_mark_related w i ways a bases x None c = ways.closed.passes i c
mark_mark_related w i ways a bases x (Some m) c = found_related w i ways (on_mark bases m x) (item_before (among_marks a) c) (on_mark_related w i ways bases m x) c

to_mark_related : (w : Limits) (i : w.Index) → IsPositioned w → (a : ApplyContext) (s : MarkBasePos) → IsRelated w i (mark_to_mark a s)
to_mark_related w i ways a s c = item_related w i ways.closed (λ x. mark_on_mark a s.bases x (value_of x.number s.marks)) c (λ x e. mark_mark_related w i ways a s.bases x (value_of x.number s.marks) c)

join_related : (w : Limits) (i : w.Index) → IsPositioned w → (d : Direction) (a : ApplyContext) (exit : Option Anchor) (entry : Anchor) (back : ℕ) → IsRelated w i (join_if d a exit entry back)
join_related w i ways d a None entry back c = ways.closed.attempts i (back + 1) 1 c
join_related w i ways d a (Some exit) entry back c =
    ways.attached i (is_near (length c.front) (length c.front - (back + 1))) 1 (back + 1) 1 (cursive_attachment d (attaches_earlier a.props) (length c.front - (back + 1)) exit (length c.front) entry c.positions) c

exit_related : (w : Limits) (i : w.Index) → IsPositioned w → (d : Direction) (a : ApplyContext) (rows : List (GlyphRow EntryExit)) (entry : Anchor) (back : ℕ) (o : Option Item) → IsRelated w i (on_exit d a rows entry back o)
exit_related w i ways d a rows entry back None c = ways.closed.passes i c
exit_related w i ways d a rows entry back (Some x) c = join_related w i ways d a (exit_of rows x.number) entry back c

entry_related : (w : Limits) (i : w.Index) → IsPositioned w → (d : Direction) (a : ApplyContext) (rows : List (GlyphRow EntryExit)) (o : Option Anchor) → IsRelated w i (from_entry d a rows o)
entry_related w i ways d a rows None c = ways.closed.passes i c
entry_related w i ways d a rows (Some entry) c = found_related w i ways (on_exit d a rows entry) (item_before a c) (exit_related w i ways d a rows entry) c

cursive_related : (w : Limits) (i : w.Index) → IsPositioned w → (d : Direction) (a : ApplyContext) (rows : List (GlyphRow EntryExit)) → IsRelated w i (cursive_subtable d a rows)
cursive_related w i ways d a rows c = item_related w i ways.closed (λ x. from_entry d a rows (entry_of rows x.number)) c (λ x e. entry_related w i ways d a rows (entry_of rows x.number) c)

-- ---- lookups

subtable_related : (w : Limits) (i : w.Index) → IsPositioned w → (nest : Option (ℕ → Action)) → NestRelated w nest → (d : Direction) (a : ApplyContext) (s : PositioningSubtables) → IsRelated w i (first_subtable nest d a s)
subtable_related w i ways nest k d a (Single subtables) c = first_related w i ways.closed (λ s. single_subtable d s.rows) subtables (λ s. single_related w i ways d s.rows) c
subtable_related w i ways nest k d a (Pair subtables) c = first_related w i ways.closed (pair_subtable d a) subtables (pair_related w i ways d a) c
subtable_related w i ways nest k d a (Cursive subtables) c = first_related w i ways.closed (λ s. cursive_subtable d a s.rows) subtables (λ s. cursive_related w i ways d a s.rows) c
subtable_related w i ways nest k d a (MarkToBase subtables) c = first_related w i ways.closed (mark_to_base a) subtables (to_base_related w i ways a) c
subtable_related w i ways nest k d a (MarkToLigature subtables) c = first_related w i ways.closed (mark_to_ligature a) subtables (to_ligature_related w i ways a) c
subtable_related w i ways nest k d a (MarkToMark subtables) c = first_related w i ways.closed (mark_to_mark a) subtables (to_mark_related w i ways a) c
subtable_related w i ways nest k d a (Context subtables) c = first_related w i ways.closed (context_subtable nest a) subtables (context_related w i ways.closed nest k a) c
subtable_related w i ways nest k d a (ChainContext subtables) c = first_related w i ways.closed (context_subtable nest a) subtables (context_related w i ways.closed nest k a) c

lookup_related : (w : Limits) (i : w.Index) → IsPositioned w → (below : ApplyContext → Option (ℕ → Action)) → ((a : ApplyContext) → NestRelated w (below a)) → (o : Option PositioningLookup) (d : Direction) (a : ApplyContext) → IsRelated w i (nested_lookup below o d a)
lookup_related w i ways below k None d a c = ways.closed.passes i c
lookup_related w i ways below k (Some lookup) d a c = subtable_related w i ways (below (under_flag lookup a)) (k (under_flag lookup a)) d (under_flag lookup a) lookup.subtables c

-- lookups nested at n levels
pub nest_related : (w : Limits) → IsPositioned w → (table : List PositioningLookup) (depth : ℕ) (d : Direction) (a : ApplyContext) → NestRelated w (nested_actions table depth d a)
unfolding nested_actions
nest_related w ways table zero d a = tt
nest_related w ways table (suc depth) d a = λ n i. lookup_related w i ways (nested_actions table depth d) (nest_related w ways table depth d) (slice_get table n) d a

pub action_related : (w : Limits) (i : w.Index) → IsPositioned w → (table : List PositioningLookup) (d : Direction) (a : ApplyContext) (lookup : PositioningLookup) → IsRelated w i (lookup_action table d a lookup)
action_related w i ways table d a lookup = met_related w i ways.closed a (first_subtable (nested_actions table 64 d a) d a lookup.subtables) (subtable_related w i ways (nested_actions table 64 d a) (nest_related w ways table 64 d a) d a lookup.subtables)

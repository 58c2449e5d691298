-- No rule, no lookup and no stage of positioning changes an item.
use Rattle.std.proofs.Common.{ℕ, zero, suc, ◌≡◌, ◌+◌, ◌-◌, Bool, true, false, if◌then◌else◌, slice_get, Option, Some, None, List, [], ◌∷◌, drop, length, min, Ok, Err, refl, ap, subst, ◌∙◌}
use Rattle.std.specs.Prelude.{◌&&◌, nat_lt, nat_le, Result, IfOk}
use Rattle.std.proofs.lemmas.List.{take-append-drop}
use Rattle.buffer_common.specs.declared.direction.Direction.{Direction}
use Rattle.buffer_glyphs.specs.Events.{Event, Break}
use Rattle.buffer_glyphs.specs.Items.{Item}
use Rattle.buffer_glyphs.specs.Parts.{first_of}
use Rattle.buffer_core.specs.Readings.{View, Read, Reading, Stage, BufferState, Follows, and_then, always, reading_of, then_reading, with_events}
use Rattle.buffer_core.specs.Sides.{Sides, items_of, state_of}
use Rattle.layout_face.specs.declared.parts.FaceParts.{FaceParts}
use Rattle.layout_common.specs.declared.glyph_row.GlyphRow.{GlyphRow}
use Rattle.layout_tables.specs.declared.context.ClassRules.{ClassRules}
use Rattle.layout_tables.specs.declared.context.ContextSubtable.{ContextSubtable}
use Rattle.layout_tables.specs.declared.context.ContextSubtable.TheVariants.{Glyphs, Classes, Coverage}
use Rattle.layout_tables.specs.declared.context.SequenceLookupRecord.{SequenceLookupRecord}
use Rattle.layout_face.specs.declared.positioning.PositioningLookup.{PositioningLookup}
use Rattle.layout_face.specs.declared.positioning.PositioningSubtables.{PositioningSubtables}
use Rattle.layout_face.specs.declared.positioning.PositioningSubtables.TheVariants.{Single, Pair, Cursive, MarkToBase, MarkToLigature, MarkToMark, Context, ChainContext}
use Rattle.layout_tables.specs.declared.cursive.EntryExit.{EntryExit}
use Rattle.layout_tables.specs.declared.value.Anchor.{Anchor}
use Rattle.layout_map.specs.Compiled.{OtMapValue, TableStages, lookups_of_stage}
use Rattle.layout_map_features.specs.declared.lookup.lookup_map_t.{lookup_map_t}
use Rattle.layout_map.specs.declared.stages.StageMap.{StageMap}
use Rattle.layout_match.specs.Applied.{ApplyContext, context_search, own_search}
use Rattle.layout_match.specs.Matches.{backtrack_end, input_end, lookahead_end}
use Rattle.layout_match.specs.Sequences.{is_covered_by}
use Rattle.buffer_stages.specs.Actions.{Cut, whole, view_at, past_item, uncut_with_positions, Outcome, Passes, Acts, Refuses, Action}
use Rattle.buffer_stages.specs.Ready.{IsDone, IsDoneFrom, state_with}
use Rattle.layout_contexts.specs.Chains.{Chain, begins, by_backtrack, by_input, by_lookahead, chain_at, chain_rule, class_chain, class_rules, context_subtable, coverage_chain, glyph_chain, nested_lookups}
use Rattle.layout_contexts.specs.Nested.{RecordsOutcome, Walks, Stops, outcome_at_index, cut_at, cut_after_match, each_nested, each_record, has_budget, holds, nested_outcome_at, nested_outcome, one_record, with_budget_spent, then_walk, walked_later}
use Rattle.layout_positioning.specs.Joins.{cursive_subtable, entry_of, exit_of, from_entry, join_if, on_exit}
use Rattle.layout_gpos.specs.Marks.{item_before, mark_to_base, mark_to_ligature, mark_to_mark}
use Rattle.layout_gpos.specs.Moving.{KeepsItems, ItemsStay}
use Rattle.layout_gpos.specs.Pairs.{pair_subtable}
use Rattle.layout_gpos.specs.Singles.{single_subtable}
use Rattle.layout_gpos.proofs.Lemmas.Left.{at_first_left, base_keeps, either_way, first_left, found_left, later_left, ligature_keeps, mark_keeps, pair_keeps, past_left, single_keeps}
use Rattle.buffer_stages.specs.Pauses.{Pauses, pause_stage}
use Rattle.layout_match.specs.Trying.{after_outcome, at_met, outcome_past_item, meets, trials, trial_at}
use Rattle.layout_positioning.specs.Lookups.{lookup_context, first_subtable, lookup_action, lookup_stage, nested_actions, nested_lookup, under_flag}
use Rattle.layout_positioning.specs.Positioning.{LeavesItems, lookups_stage, positioning_stages, positioning_lookups, table_stage, table_stages}

-- ---- nested lookups

abbrev WalkLeaves : RecordsOutcome → List Item → Type 0
WalkLeaves (Walks cut ps end es) xs = whole cut ≡ xs
WalkLeaves (Stops cause) xs = Unit

abbrev pub NestKeeps : Option (ℕ → Action) → Type 0
NestKeeps None = Unit
NestKeeps (Some act) = (i : ℕ) → KeepsItems (act i)

pub cut_whole : (p : ℕ) (c : Cut) → whole (cut_at p c) ≡ whole c
cut_whole p c = take-append-drop p (whole c)

there_left : (i p : ℕ) (c : Cut) (ps : List ℕ) (end : ℕ) (o : Outcome) (xs : List Item) → whole c ≡ xs → ItemsStay o c → WalkLeaves (nested_outcome i p c ps end o) xs
there_left i p c ps end (Passes es) xs e h = e
there_left i p c ps end (Acts cut es) xs e h = h ∙ e
there_left i p c ps end (Refuses cause) xs e h = tt

either_walk : (b : Bool) (v w : RecordsOutcome) (xs : List Item) → WalkLeaves v xs → WalkLeaves w xs → WalkLeaves (if b then v else w) xs
either_walk true v w xs h k = h
either_walk false v w xs h k = k

at_left : (act : ℕ → Action) → ((i : ℕ) → KeepsItems (act i)) → (r : SequenceLookupRecord) (p : ℕ) (c : Cut) (ps : List ℕ) (end : ℕ) → WalkLeaves (nested_outcome_at act r p c ps end) (whole c)
at_left act keeps r p c ps end =
    either_walk (holds p c) (nested_outcome r.sequence_index p (cut_at p c) ps end (act r.lookup_index (cut_at p c))) _ (whole c)
    (there_left r.sequence_index p (cut_at p c) ps end (act r.lookup_index (cut_at p c)) (whole c) (cut_whole p c) (keeps r.lookup_index (cut_at p c))) tt

place_left : (act : ℕ → Action) → ((i : ℕ) → KeepsItems (act i)) → (r : SequenceLookupRecord) (o : Option ℕ) (c : Cut) (ps : List ℕ) (end : ℕ) → WalkLeaves (outcome_at_index act r o c ps end) (whole c)
place_left act keeps r None c ps end = refl
place_left act keeps r (Some p) c ps end = either_walk (nat_lt p (length (whole c)) && has_budget c) (nested_outcome_at act r p (with_budget_spent c) ps end) (Walks c ps end []) (whole c) (at_left act keeps r p (with_budget_spent c) ps end) refl

later_walk : (es : List Event) (w : RecordsOutcome) (xs ys : List Item) → xs ≡ ys → WalkLeaves w xs → WalkLeaves (walked_later es w) ys
later_walk es (Walks cut ps end fs) xs ys e h = h ∙ e
later_walk es (Stops cause) xs ys e h = tt

then_left : (w : RecordsOutcome) (next : Cut → List ℕ → ℕ → RecordsOutcome) (xs : List Item) → WalkLeaves w xs → ((cut : Cut) (ps : List ℕ) (end : ℕ) → WalkLeaves (next cut ps end) (whole cut)) → WalkLeaves (then_walk w next) xs
then_left (Walks cut ps end es) next xs h k = later_walk es (next cut ps end) (whole cut) xs h (k cut ps end)
then_left (Stops cause) next xs h k = tt

records_left : (act : ℕ → Action) → ((i : ℕ) → KeepsItems (act i)) → (records : List SequenceLookupRecord) (c : Cut) (ps : List ℕ) (end : ℕ) → WalkLeaves (each_record act records c ps end) (whole c)
records_left act keeps [] c ps end = refl
records_left act keeps (r ∷ records) c ps end = then_left (one_record act r c ps end) (each_record act records) (whole c) (place_left act keeps r (slice_get ps r.sequence_index) c ps end) (records_left act keeps records)

nested_left : (nest : Option (ℕ → Action)) → NestKeeps nest → (records : List SequenceLookupRecord) (c : Cut) (ps : List ℕ) (end : ℕ) → WalkLeaves (each_nested nest records c ps end) (whole c)
nested_left None keeps records c ps end = refl
nested_left (Some act) keeps records c ps end = records_left act keeps records c ps end

behind_left : (w : RecordsOutcome) (c : Cut) → WalkLeaves w (whole c) → ItemsStay (cut_after_match w) c
behind_left (Walks cut ps end es) c h = either_way (holds (min end (length (whole cut))) cut) (Acts (cut_at (min end (length (whole cut))) cut) es) _ c (cut_whole (min end (length (whole cut))) cut ∙ h) tt
behind_left (Stops cause) c h = tt

-- ---- contexts

lookups_left : (nest : Option (ℕ → Action)) → NestKeeps nest → (a : ApplyContext) (r : Chain) (end : ℕ) → KeepsItems (nested_lookups nest a r end)
lookups_left nest keeps a r end c = behind_left (each_nested nest r.records c _ _) c (nested_left nest keeps r.records c _ _)

backtrack_left : (nest : Option (ℕ → Action)) → NestKeeps nest → (a : ApplyContext) (r : Chain) (end ahead : ℕ) (found : Result ℕ ℕ) → KeepsItems (by_backtrack nest a r end ahead found)
backtrack_left nest keeps a r end ahead (Ok back) c = later_left (Break (length c.front - back) (length c.front + ahead) ∷ []) (nested_lookups nest a r end c) c (lookups_left nest keeps a r end c)
backtrack_left nest keeps a r end ahead (Err back) c = tt

lookahead_left : (nest : Option (ℕ → Action)) → NestKeeps nest → (a : ApplyContext) (r : Chain) (end : ℕ) (found : Result ℕ ℕ) → KeepsItems (by_lookahead nest a r end found)
lookahead_left nest keeps a r end (Ok ahead) c = backtrack_left nest keeps a r end ahead (backtrack_end (context_search a c.rest) r.backtrack c.front) c
lookahead_left nest keeps a r end (Err ahead) c = tt

input_left : (nest : Option (ℕ → Action)) → NestKeeps nest → (a : ApplyContext) (r : Chain) (found : Result ℕ ℕ) → KeepsItems (by_input nest a r found)
input_left nest keeps a r (Ok end) c = lookahead_left nest keeps a r end (lookahead_end (context_search a c.rest) r.lookahead end c.rest) c
input_left nest keeps a r (Err ahead) c = tt

chain_at_left : (nest : Option (ℕ → Action)) → NestKeeps nest → (a : ApplyContext) (r : Chain) (x : Item) → KeepsItems (chain_at nest a r x)
chain_at_left nest keeps a r x c = either_way (begins r.input x && nat_le (length r.input) 64) _ (Passes []) c (input_left nest keeps a r (input_end (own_search a c.rest) (drop 1 r.input) c.rest) c) tt

pub chain_keeps : (nest : Option (ℕ → Action)) → NestKeeps nest → (a : ApplyContext) (r : Chain) → KeepsItems (chain_rule nest a r)
chain_keeps nest keeps a r c = at_first_left (chain_at nest a r) (first_of c.rest) (chain_at_left nest keeps a r) c

class_left : (nest : Option (ℕ → Action)) → NestKeeps nest → (a : ApplyContext) (s : ClassRules) (x : Item) → KeepsItems (class_rules nest a s x)
class_left nest keeps a s x c = either_way (is_covered_by s.first x) _ (Passes []) c (first_left (λ r. chain_rule nest a (class_chain s r)) s.rules (λ r. chain_keeps nest keeps a (class_chain s r)) c) tt

pub context_keeps : (nest : Option (ℕ → Action)) → NestKeeps nest → (a : ApplyContext) (t : ContextSubtable) → KeepsItems (context_subtable nest a t)
context_keeps nest keeps a (Glyphs rules) c = first_left (λ r. chain_rule nest a (glyph_chain r)) rules (λ r. chain_keeps nest keeps a (glyph_chain r)) c
context_keeps nest keeps a (Classes s) c = at_first_left (class_rules nest a s) (first_of c.rest) (class_left nest keeps a s) c
context_keeps nest keeps a (Coverage rules) c = first_left (λ r. chain_rule nest a (coverage_chain r)) rules (λ r. chain_keeps nest keeps a (coverage_chain r)) c

-- ---- cursive attachment

join_left : (d : Direction) (a : ApplyContext) (exit : Option Anchor) (entry : Anchor) (back : ℕ) → KeepsItems (join_if d a exit entry back)
join_left d a None entry back c = tt
join_left d a (Some exit) entry back c = past_left 1 c

exit_left : (d : Direction) (a : ApplyContext) (rows : List (GlyphRow EntryExit)) (entry : Anchor) (back : ℕ) (o : Option Item) → KeepsItems (on_exit d a rows entry back o)
exit_left d a rows entry back None c = tt
exit_left d a rows entry back (Some x) c = join_left d a (exit_of rows x.number) entry back c

entry_left : (d : Direction) (a : ApplyContext) (rows : List (GlyphRow EntryExit)) (o : Option Anchor) → KeepsItems (from_entry d a rows o)
entry_left d a rows None c = tt
entry_left d a rows (Some entry) c = found_left (on_exit d a rows entry) (item_before a c) (exit_left d a rows entry) c

pub cursive_keeps : (d : Direction) (a : ApplyContext) (rows : List (GlyphRow EntryExit)) → KeepsItems (cursive_subtable d a rows)
cursive_keeps d a rows c = at_first_left (λ x. from_entry d a rows (entry_of rows x.number)) (first_of c.rest) (λ x. entry_left d a rows (entry_of rows x.number)) c

-- ---- lookups

pub subtable_keeps : (nest : Option (ℕ → Action)) → NestKeeps nest → (d : Direction) (a : ApplyContext) (t : PositioningSubtables) → KeepsItems (first_subtable nest d a t)
subtable_keeps nest keeps d a (Single subtables) c = first_left (λ s. single_subtable d s.rows) subtables (λ s. single_keeps d s.rows) c
subtable_keeps nest keeps d a (Pair subtables) c = first_left (pair_subtable d a) subtables (pair_keeps d a) c
subtable_keeps nest keeps d a (Cursive subtables) c = first_left (λ s. cursive_subtable d a s.rows) subtables (λ s. cursive_keeps d a s.rows) c
subtable_keeps nest keeps d a (MarkToBase subtables) c = first_left (mark_to_base a) subtables (base_keeps a) c
subtable_keeps nest keeps d a (MarkToLigature subtables) c = first_left (mark_to_ligature a) subtables (ligature_keeps a) c
subtable_keeps nest keeps d a (MarkToMark subtables) c = first_left (mark_to_mark a) subtables (mark_keeps a) c
subtable_keeps nest keeps d a (Context subtables) c = first_left (context_subtable nest a) subtables (context_keeps nest keeps a) c
subtable_keeps nest keeps d a (ChainContext subtables) c = first_left (context_subtable nest a) subtables (context_keeps nest keeps a) c

lookup_left : (below : ApplyContext → Option (ℕ → Action)) → ((b : ApplyContext) → NestKeeps (below b)) → (o : Option PositioningLookup) (d : Direction) (a : ApplyContext) → KeepsItems (nested_lookup below o d a)
lookup_left below keeps None d a c = tt
lookup_left below keeps (Some lookup) d a c = subtable_keeps (below (under_flag lookup a)) (keeps (under_flag lookup a)) d (under_flag lookup a) lookup.subtables c

pub nest_keeps : (table : List PositioningLookup) (depth : ℕ) (d : Direction) (a : ApplyContext) → NestKeeps (nested_actions table depth d a)
unfolding nested_actions
nest_keeps table zero d a = tt
nest_keeps table (suc depth) d a = λ i. lookup_left (nested_actions table depth d) (nest_keeps table depth d) (slice_get table i) d a

met_left : (a : ApplyContext) (act : Action) (x : Item) → KeepsItems act → KeepsItems (at_met a act x)
met_left a act x keeps c = either_way (meets a x) (act c) (Passes []) c (keeps c) tt

pub action_keeps : (table : List PositioningLookup) (d : Direction) (a : ApplyContext) (lookup : PositioningLookup) → KeepsItems (lookup_action table d a lookup)
action_keeps table d a lookup c =
    let act = first_subtable (nested_actions table 64 d a) d a lookup.subtables in
    at_first_left (at_met a act) (first_of c.rest) (λ x. met_left a act x (subtable_keeps (nested_actions table 64 d a) (nest_keeps table 64 d a) d a lookup.subtables)) c

-- ---- stages

over_left : (o : Outcome) (c : Cut) → ItemsStay o c → ItemsStay (outcome_past_item o c) c
over_left (Passes events) c h = either_way (nat_le (length c.front + 1) c.max_len) (Acts (past_item c) events) _ c (past_left 1 c) tt
over_left (Acts cut events) c h = h
over_left (Refuses cause) c h = tt

abbrev ReadLeaves : Reading → List Item → Type 0
ReadLeaves q xs = IfOk q (λ r. r.view.items ≡ xs)

then_read_left : (r : Read) (q : Reading) (xs : List Item) → ReadLeaves q xs → ReadLeaves (then_reading r q) xs
then_read_left r (Ok s) xs h = h
then_read_left r (Err e) xs h = tt

outcome_left : (o : Outcome) (next : Cut → Reading) (v : View) (c : Cut) (xs : List Item) → whole c ≡ xs → ItemsStay o c → ((k : Cut) → whole k ≡ xs → ReadLeaves (next k) xs) → ReadLeaves (after_outcome o next v c) xs
outcome_left (Passes events) next v c xs e h k = then_read_left (with_events events (view_at v c)) (next c) xs (k c e)
outcome_left (Acts cut events) next v c xs e h k = then_read_left (with_events events (view_at v cut)) (next cut) xs (k cut (h ∙ e))
outcome_left (Refuses cause) next v c xs e h k = tt

before_left : (act : Action) (next : Cut → Reading) (v : View) (rest : List Item) (c : Cut) (xs : List Item) → KeepsItems act → whole c ≡ xs → ((k : Cut) → whole k ≡ xs → ReadLeaves (next k) xs) → ReadLeaves (trial_at act next v rest c) xs
before_left act next v [] c xs keeps e k = e
before_left act next v (x ∷ rest) c xs keeps e k = outcome_left (outcome_past_item (act c) c) next v c xs e (over_left (act c) c (keeps c)) k

tried_left : (act : Action) (v : View) (n : ℕ) (c : Cut) (xs : List Item) → KeepsItems act → whole c ≡ xs → ReadLeaves (trials act v n c) xs
tried_left act v zero c xs keeps e = e
tried_left act v (suc n) c xs keeps e = before_left act (trials act v n) v c.rest c xs keeps e (λ k f. tried_left act v n k xs keeps f)

stage_left : (font : FaceParts) (table : List PositioningLookup) (o : Option PositioningLookup) (m : lookup_map_t) → LeavesItems (lookup_stage font table o m)
stage_left font table None m v = refl
stage_left font table (Some lookup) m v = let a = lookup_context font lookup m in tried_left (lookup_action table v.direction a lookup) v (length v.items) (uncut_with_positions v) v.items (action_keeps table v.direction a lookup) refl

then_stage_left : (q : Reading) (next : Stage) (xs : List Item) → ReadLeaves q xs → LeavesItems next → ReadLeaves (and_then q next) xs
then_stage_left (Ok r) next xs h k = subst (λ (ys : List Item). ReadLeaves (then_reading r (next r.view)) ys) h (then_read_left r (next r.view) r.view.items (k r.view))
then_stage_left (Err e) next xs h k = tt

lookups_stage_left : (font : FaceParts) (table : List PositioningLookup) (maps : List lookup_map_t) → LeavesItems (lookups_stage font table maps)
lookups_stage_left font table [] v = refl
lookups_stage_left font table (m ∷ maps) v = then_stage_left (lookup_stage font table (slice_get table m.index) m v) (lookups_stage font table maps) v.items (stage_left font table (slice_get table m.index) m v) (lookups_stage_left font table maps)

pause_left : (pauses : Pauses) (o : Option ℕ) → ((i : ℕ) → LeavesItems (pauses i)) → LeavesItems (pause_stage pauses o)
pause_left pauses None keeps v = refl
pause_left pauses (Some n) keeps v = then_stage_left (pauses n (record v { random = 1 })) (always (λ w. with_events [] (record w { random = v.random }))) v.items (keeps n (record v { random = 1 })) (λ w. refl)

table_stages_left : (font : FaceParts) (lookups : List PositioningLookup) (t : TableStages) (pauses : Pauses) (i : ℕ) (stages : List StageMap) → ((i : ℕ) → LeavesItems (pauses i)) → LeavesItems (table_stages font lookups t pauses i stages)
table_stages_left font lookups t pauses i [] keeps v = refl
table_stages_left font lookups t pauses i (s ∷ stages) keeps v =
    then_stage_left (table_stage font lookups t pauses i s.pause v) (table_stages font lookups t pauses (i + 1) stages) v.items
    (then_stage_left (lookups_stage font lookups (lookups_of_stage t i) v) (pause_stage pauses s.pause) v.items (lookups_stage_left font lookups (lookups_of_stage t i) v) (pause_left pauses s.pause keeps))
    (table_stages_left font lookups t pauses (i + 1) stages keeps)

followed_left : (q : Reading) (old new : BufferState) → ReadLeaves q old.view.items → Follows q old new → new.view.items ≡ old.view.items
followed_left (Ok r) old new h f = ap (λ (run : BufferState). run.view.items) f ∙ h
followed_left (Err e) old new h f = absurd f

-- positioning leaves the items, where the pauses do
pub positioned_left : (font : FaceParts) (m : OtMapValue) (pauses : Pauses) (s new : Sides) → IsDone (positioning_stages font m pauses) s new → ((i : ℕ) → LeavesItems (pauses i)) → items_of new ≡ items_of s
positioned_left font m pauses s new done keeps =
    followed_left (reading_of (positioning_stages font m pauses) (state_of s)) (state_of s) (state_of new) (table_stages_left font (positioning_lookups font) m.tables.gpos pauses 0 m.tables.gpos.stages keeps (state_of s).view) done.follows

-- a lookup leaves the items
pub mapped_left : (font : FaceParts) (table : List PositioningLookup) (o : Option PositioningLookup) (m : lookup_map_t) (s new : Sides) → IsDoneFrom 1 1 (lookup_stage font table o m) s new → items_of new ≡ items_of s
mapped_left font table o m s new done = followed_left (reading_of (lookup_stage font table o m) (state_with 1 s)) (state_with 1 s) (state_with 1 new) (stage_left font table o m (state_with 1 s).view) done.follows

-- The item that stands first after a break stays its own.
use Rattle.std.proofs.Common.{ℕ, zero, suc, ◌≡◌, ◌<◌, ◌+◌, ◌-◌, ◌==◌, ◌&&◌, ◌⊎◌, inl, inr, Bool, true, false, not, nat_lt, if◌then◌else◌, List, [], ◌∷◌, ◌++◌, Option, Some, None, Result, Ok, Err, length, map, take, drop, reverse, arith, refl, ap, sym, subst}
use Rattle.std.specs.Prelude.{slice_get, ◌/◌, ◌%◌}
use Rattle.std.proofs.lemmas.List.{take-append-drop}
use Rattle.buffer_glyphs.specs.declared.level.BufferClusterLevel.{BufferClusterLevel}
use Rattle.buffer_glyphs.specs.Items.{Item}
use Rattle.buffer_glyphs.specs.LigatureWords.{is_mark, is_multiplied, lig_comp, lig_id}
use Rattle.buffer_glyphs.specs.Parts.{first_of}
use Rattle.buffer_glyphs.specs.Events.{Event}
use Rattle.buffer_glyphs.specs.Rewriting.{shifted_event}
use Rattle.buffer_parts.specs.Counts.{count_after}
use Rattle.buffer_core.specs.Readings.{View, Read, Reading, Stage, BufferState, state_after, as_it_is, always, with_events, then_reading}
use Rattle.buffer_stages.specs.Actions.{Cut, whole, view_at, uncut_with_positions, Outcome, Passes, Acts, Refuses, Action, later, or_else, first_rule, at_first}
use Rattle.buffer_stages.specs.Stages.{with_items_mapped}
use Rattle.buffer_stages.specs.Pauses.{Pauses, pause_stage}
use Rattle.buffer_parts.specs.Breaks.Unsafe.{IsUnsafeAt}
use Rattle.buffer_parts.specs.Breaks.Concat.{without_concats}
use Rattle.buffer_parts.specs.Breaks.Fragments.{standing_first, standing_last}
use Rattle.buffer_parts.specs.Breaks.Beside.{IsReadAlone}
use Rattle.buffer_parts.proofs.BreakLemmas.Division.{divisible_in_turn}
use Rattle.layout_face.specs.Lookups.{is_reverse}
use Rattle.layout_face.specs.declared.parts.FaceParts.{FaceParts}
use Rattle.layout_face.specs.declared.parts.GlyphDefinition.{GlyphDefinition}
use Rattle.layout_face.specs.declared.substitution.SubstLookup.{SubstLookup}
use Rattle.layout_face.specs.declared.substitution.SubstitutionSubtables.{SubstitutionSubtables}
use Rattle.layout_face.specs.declared.substitution.SubstitutionSubtables.TheVariants.{Single, Multiple, Alternate, Ligature, Context, ChainContext, ReverseChainSingle}
use Rattle.layout_common.specs.Rows.{value_of}
use Rattle.layout_map.specs.declared.stages.StageMap.{StageMap}
use Rattle.layout_map.specs.Compiled.{TableStages, lookups_of_stage}
use Rattle.layout_map_features.specs.declared.lookup.lookup_map_t.{lookup_map_t}
use Rattle.layout_tables.specs.declared.reverse.ReverseChainSubst.{ReverseChainSubst}
use Rattle.layout_match.specs.Applied.{ApplyContext, context_search}
use Rattle.layout_match.specs.Matches.{backtrack_end, lookahead_end}
use Rattle.layout_match.specs.Sequences.{is_covered_by}
use Rattle.layout_match.specs.Trying.{meets, at_met, after_outcome, forward_pass}
use Rattle.layout_gsub.specs.Replacements.{substituted_item}
use Rattle.layout_gsub.specs.Reverses.{reverse_after_backtrack, reverse_after_lookahead, reverse_substitution, reverse_subtable}
use Rattle.layout_substitution.specs.Lookups.{lookup_context, cut_at_index, first_reverse, lookup_action, reverse_action, backward_trials, backward_pass, lookup_stage, lookups_stage}
use Rattle.layout_substitution.specs.Substituting.{table_stage, table_stages, substitution_lookups}
use Rattle.layout_laws.specs.Breaks.Positioned.{AreApart}
use Rattle.layout_laws.specs.Breaks.Seams.{IsOwnFirst, IsOwnSeam, SeamStays, IsDivisibleAtSeam, KeepsOwn, IsPauseAtSeam, ArePausesAtSeam, OwnSeamIsApart, UnnumberedIsOwn, KeepingIsDivisibleAtSeam, ItemMapsKeepSeams, NothingKeepsSeams, SeamStaysInTurn, LookupsKeepSeams, OwnRandomKeepsSeams, SubstitutionKeepsSeams}
use Rattle.layout_laws.proofs.BreakLemmas.Passes.{count_without}
use Rattle.layout_laws.proofs.BreakLemmas.Lossless.{lookups_read_beside}
use Rattle.layout_laws.proofs.BreakLemmas.Spent.{lookups_are_divisible}
use Rattle.layout_laws.proofs.BreakLemmas.Backward.{reverses_are_divisible}
use Rattle.layout_laws.proofs.BreakLemmas.InOrder.{nothing_divisible}
use Rattle.layout_laws.proofs.BreakLemmas.ItemMaps.{item_maps_are_divisible}
use Rattle.layout_laws.proofs.BreakLemmas.Stages.{own_random_is_divisible}
use Rattle.layout_laws.proofs.BreakLemmas.Deletions.{AreFlaggedDeletions, flagged_rest, first_stays, first_kept, one_own, same_word, IsOwnRead, forward_owns, none_both}
use Rattle.layout_laws.proofs.BreakLemmas.PositionsInOrder.{read_in_turn, both_spared, state_of_both}
use Rattle.layout_laws.proofs.BreakLemmas.PositionStages.{with_random, own_read, own_state, own_spared, random_divides, random_breaks}
use Rattle.buffer_parts.specs.Lemmas.Stages.{same_read as read_same}

-- ---- an item that is its own is no later component

continues_never : (a b c d e f g : Bool) → (a && f) ≡ false → (a && (b && c && d && e && f && g)) ≡ false
continues_never false b c d e f g h = refl
continues_never true false c d e f g h = refl
continues_never true true false d e f g h = refl
continues_never true true true false e f g h = refl
continues_never true true true true false f g h = refl
continues_never true true true true true false g h = refl
continues_never true true true true true true g h = cc

own_is_apart : (before next : Option Item) → IsOwnFirst next → AreApart before next
own_is_apart None next own = tt
own_is_apart (Some y) None own = tt
own_is_apart (Some y) (Some x) own = continues_never (lig_id x == 0) (is_multiplied x) (is_multiplied y) (not (is_mark y)) (lig_id x == lig_id y) (nat_lt 0 (lig_comp x)) (lig_comp y == lig_comp x - 1) own

pub own_seam_is_apart : OwnSeamIsApart
own_seam_is_apart falls earlier later own = own_is_apart (first_of (reverse (standing_first falls earlier.view.items later.view.items))) (first_of (standing_last falls earlier.view.items later.view.items)) own

pub unnumbered_is_own : UnnumberedIsOwn
unnumbered_is_own x e = ap (λ (n : ℕ). (n / 0x2000_0000 == 0) && nat_lt 0 (if (n / 0x1000_0000 % 2 == 1) then 0 else n % 0x1000_0000)) e

-- ---- stages that delete no first item

pub keeping_is_divisible_at_seam : KeepingIsDivisibleAtSeam
keeping_is_divisible_at_seam false stage early late d k m = record { divisible = d; seam = λ c whole earlier later r e l ready f own is_r is_e is_l spared_r spared_e spared_l. inr (m later.view l is_l own) }
keeping_is_divisible_at_seam true stage early late d k m = record { divisible = d; seam = λ c whole earlier later r e l ready f own is_r is_e is_l spared_r spared_e spared_l. inr (k earlier.view e is_e own) }

pub nothing_at_seam : NothingKeepsSeams
nothing_at_seam falls =
    let keeps : KeepsOwn as_it_is = λ v r e own. subst (λ (x : Read). IsOwnFirst (first_of x.view.items)) (read_same (with_events [] v) r e) own in
    keeping_is_divisible_at_seam falls as_it_is as_it_is as_it_is (nothing_divisible falls) keeps keeps

mapped_own : (f : Item → Item) (xs : List Item) → ((x : Item) → (f x).lig_props ≡ x.lig_props) → IsOwnFirst (first_of xs) → IsOwnFirst (first_of (map f xs))
mapped_own f [] k own = tt
mapped_own f (x ∷ xs) k own = same_word x (f x) (k x) own

pub item_maps_keep_seams : ItemMapsKeepSeams
item_maps_keep_seams falls f spares k =
    let stage : Stage = always (with_items_mapped f) in
    let keeps : KeepsOwn stage = λ v r e own. subst (λ (x : Read). IsOwnFirst (first_of x.view.items)) (read_same (with_items_mapped f v) r e) (mapped_own f v.items k own) in
    keeping_is_divisible_at_seam falls stage stage stage (item_maps_are_divisible falls f spares) keeps keeps

-- ---- in turn

seam_alike : (falls : Bool) (c : ℕ) (w w1 e e1 l l1 : BufferState) → w ≡ w1 → e ≡ e1 → l ≡ l1 → IsUnsafeAt c w.origins ⊎ IsOwnSeam falls e l → IsUnsafeAt c w1.origins ⊎ IsOwnSeam falls e1 l1
seam_alike falls c w w1 e e1 l l1 p q r h =
    subst (λ (x : BufferState). IsUnsafeAt c w1.origins ⊎ IsOwnSeam falls e1 x) r (subst (λ (x : BufferState). IsUnsafeAt c w1.origins ⊎ IsOwnSeam falls x l) q (subst (λ (x : BufferState). IsUnsafeAt c x.origins ⊎ IsOwnSeam falls e l) p h))

pub seam_stays_in_turn : SeamStaysInTurn
seam_stays_in_turn falls s s1 s2 t t1 t2 p u = record {
  divisible = divisible_in_turn falls falls falls s s1 s2 t t1 t2 p.divisible u.divisible;
  seam = λ c whole earlier later r e l ready f own is_r is_e is_l spared_r spared_e spared_l.
      let d = p.divisible in
      let g = u.divisible in
      let qr = read_in_turn (s whole.view) t r is_r in
      let qe = read_in_turn (s1 earlier.view) t1 e is_e in
      let ql = read_in_turn (s2 later.view) t2 l is_l in
      let sr = both_spared whole.level whole.view s t r qr d.spends g.spends spared_r in
      let se = both_spared earlier.level earlier.view s1 t1 e qe d.early_spends g.early_spends spared_e in
      let sl = both_spared later.level later.view s2 t2 l ql d.late_spends g.late_spends spared_l in
      let w = state_after qr.first whole in
      let x = state_after qe.first earlier in
      let y = state_after ql.first later in
      let now = d.breakable whole qr.first qr.first_is ready in
      seam_alike falls c (state_after qr.second w) (state_after r whole) (state_after qe.second x) (state_after e earlier) (state_after ql.second y) (state_after l later) (state_of_both s t whole r qr) (state_of_both s1 t1 earlier e qe) (state_of_both s2 t2 later l ql)
      (elim (d.divides c whole earlier later qr.first qe.first ql.first ready f qr.first_is qe.first_is ql.first_is sr.first se.first sl.first) [
        | inl unsafe ↦ inl (g.unsafe w qr.second c qr.second_is now unsafe)
        | inr again ↦ elim (p.seam c whole earlier later qr.first qe.first ql.first ready f own qr.first_is qe.first_is ql.first_is sr.first se.first sl.first) [
          | inl unsafe ↦ inl (g.unsafe w qr.second c qr.second_is now unsafe)
          | inr still ↦ u.seam c w x y qr.second qe.second ql.second now again still qr.second_is qe.second_is ql.second_is sr.second se.second sl.second
        ]
      ]);
}

pub own_random_keeps_seams : OwnRandomKeepsSeams
own_random_keeps_seams falls stage early late p = record {
  divisible = own_random_is_divisible falls falls stage early late p.divisible;
  seam = λ c whole earlier later r e l ready f own is_r is_e is_l spared_r spared_e spared_l.
      let qr = own_read stage whole.view r is_r in
      let qe = own_read early earlier.view e is_e in
      let ql = own_read late later.view l is_l in
      seam_alike falls c (with_random whole.view.random (state_after qr.first (with_random 1 whole))) (state_after r whole) (with_random earlier.view.random (state_after qe.first (with_random 1 earlier))) (state_after e earlier) (with_random later.view.random (state_after ql.first (with_random 1 later))) (state_after l later)
      (own_state stage whole r qr) (own_state early earlier e qe) (own_state late later l ql)
      (p.seam c (with_random 1 whole) (with_random 1 earlier) (with_random 1 later) qr.first qe.first ql.first (random_breaks 1 whole ready) (random_divides falls c 1 1 1 whole earlier later f) own qr.first_is qe.first_is ql.first_is
      (own_spared stage whole.view r qr whole.level spared_r) (own_spared early earlier.view e qe earlier.level spared_e) (own_spared late later.view l ql later.level spared_l));
}

-- ---- lookups from the left

-- what was read of the fragment that stands second leaves its first item its own, since the text flags another range where it deletes that
second_own : (level : BufferClusterLevel) (n : ℕ) (before : List Event) (v u : View) (r second : Read) → 0 < n → without_concats (r.events level) ≡ before ++ map (shifted_event n) (without_concats (second.events level)) → IsOwnRead level v r → IsOwnRead level u second
    → IsOwnFirst (first_of u.items) → IsOwnFirst (first_of second.view.items)
second_own level n before v u r second some same text h own = elim (h.own own) [
  | inl stays ↦ stays
  | inr gone ↦
      let after = flagged_rest None before (map (shifted_event n) (without_concats (second.events level))) (subst (AreFlaggedDeletions None) same text.flagged) in
      absurd (first_stays n None after.0 (without_concats (second.events level)) some (none_both n after.0) h.flagged after.1 gone)
]

some_left : (level : BufferClusterLevel) (n : ℕ) (r : Read) → IsReadAlone level n r → 0 < count_after (without_concats (r.events level)) n
some_left level n r h = let same = count_without (r.events level) n in let many = h.counted in let some = h.some in omega (arith, same, many, some)

forward_seam : (falls : Bool) (table : List SubstLookup) (a : ApplyContext) (lookup : SubstLookup) → SeamStays falls (forward_pass (lookup_action table a lookup)) (forward_pass (lookup_action table a lookup)) (forward_pass (lookup_action table a lookup))
forward_seam false table a lookup c whole earlier later r e l ready f own is_r is_e is_l spared_r spared_e spared_l =
    let level = whole.level in
    elim (lookups_read_beside false table a lookup c whole earlier later r e l ready f is_r is_e is_l spared_r spared_e spared_l) [
      | inl unsafe ↦ inl unsafe
      | inr read ↦ inr (second_own level (count_after (without_concats (e.events level)) (length earlier.origins)) (without_concats (e.events level)) whole.view later.view r l (some_left level (length earlier.origins) e read.early) read.events
          (forward_owns table a lookup level whole.view r is_r) (forward_owns table a lookup level later.view l is_l) own)
    ]
forward_seam true table a lookup c whole earlier later r e l ready f own is_r is_e is_l spared_r spared_e spared_l =
    let level = whole.level in
    elim (lookups_read_beside true table a lookup c whole earlier later r e l ready f is_r is_e is_l spared_r spared_e spared_l) [
      | inl unsafe ↦ inl unsafe
      | inr read ↦ inr (second_own level (count_after (without_concats (l.events level)) (length later.origins)) (without_concats (l.events level)) whole.view earlier.view r e (some_left level (length later.origins) l read.late) read.events
          (forward_owns table a lookup level whole.view r is_r) (forward_owns table a lookup level earlier.view e is_e) own)
    ]

-- ---- reverse chaining

-- where a rule acts, the first item stays its own
abbrev OwnKept : Cut → Outcome → Type 0
OwnKept c (Passes es) = Unit {0}
OwnKept c (Acts d es) = IsOwnFirst (first_of (whole c)) → IsOwnFirst (first_of (whole d))
OwnKept c (Refuses x) = Unit {0}

later_kept : (c : Cut) (es : List Event) (o : Outcome) → OwnKept c o → OwnKept c (later es o)
later_kept c es (Passes fs) h = tt
later_kept c es (Acts d fs) h = h
later_kept c es (Refuses x) h = tt

either_kept : (c : Cut) (o second : Outcome) → OwnKept c o → OwnKept c second → OwnKept c (or_else o second)
either_kept c (Passes es) second h k = later_kept c es second k
either_kept c (Acts d es) second h k = h
either_kept c (Refuses x) second h k = tt

first_rule_kept : {R : Type 0} (act : R → Action) (rules : List R) → ((r : R) (c : Cut) → OwnKept c (act r c)) → (c : Cut) → OwnKept c (first_rule act rules c)
first_rule_kept act [] k c = tt
first_rule_kept act (r ∷ rules) k c = either_kept c (act r c) (first_rule act rules c) (k r c) (first_rule_kept act rules k c)

item_kept : (act : Item → Action) (o : Option Item) (c : Cut) → ((x : Item) → OwnKept c (act x c)) → OwnKept c (at_first act o c)
item_kept act None c k = tt
item_kept act (Some x) c k = k x

test_kept : (c : Cut) (t : Bool) (o p : Outcome) → OwnKept c o → OwnKept c p → OwnKept c (if t then o else p)
test_kept c true o p h k = h
test_kept c false o p h k = k

backtrack_kept : (gdef : GlyphDefinition) (glyph ahead : ℕ) (o : Result ℕ ℕ) (c : Cut) → OwnKept c (reverse_after_backtrack gdef glyph ahead o c)
backtrack_kept gdef glyph ahead (Err back) c = tt
backtrack_kept gdef glyph ahead (Ok back) c = λ own. first_kept c.front c.rest (map (substituted_item gdef glyph) (take 1 c.rest) ++ drop 1 c.rest) (one_own gdef glyph c.rest) own

lookahead_kept : (a : ApplyContext) (glyph : ℕ) (backtrack : List (Item → Bool)) (o : Result ℕ ℕ) (c : Cut) → OwnKept c (reverse_after_lookahead a glyph backtrack o c)
lookahead_kept a glyph backtrack (Err ahead) c = tt
lookahead_kept a glyph backtrack (Ok ahead) c = backtrack_kept a.font.gdef glyph ahead (backtrack_end (context_search a c.rest) backtrack c.front) c

around_kept : (a : ApplyContext) (backtrack lookahead : List (Item → Bool)) (o : Option ℕ) (c : Cut) → OwnKept c (reverse_substitution a backtrack lookahead o c)
around_kept a backtrack lookahead None c = tt
around_kept a backtrack lookahead (Some glyph) c = lookahead_kept a glyph backtrack (lookahead_end (context_search a c.rest) lookahead 1 c.rest) c

reverse_kept : (a : ApplyContext) (s : ReverseChainSubst) (c : Cut) → OwnKept c (reverse_subtable a s c)
reverse_kept a s c = item_kept (λ x. reverse_substitution a (map is_covered_by s.backtrack) (map is_covered_by s.lookahead) (value_of x.number s.rows)) (first_of c.rest) c (λ x. around_kept a (map is_covered_by s.backtrack) (map is_covered_by s.lookahead) (value_of x.number s.rows) c)

subtables_kept : (a : ApplyContext) (s : SubstitutionSubtables) (c : Cut) → OwnKept c (first_reverse a s c)
subtables_kept a (ReverseChainSingle subtables) c = first_rule_kept (reverse_subtable a) subtables (reverse_kept a) c
subtables_kept a (Single subtables) c = tt
subtables_kept a (Multiple subtables) c = tt
subtables_kept a (Alternate subtables) c = tt
subtables_kept a (Ligature subtables) c = tt
subtables_kept a (Context subtables) c = tt
subtables_kept a (ChainContext subtables) c = tt

action_kept : (a : ApplyContext) (lookup : SubstLookup) (c : Cut) → OwnKept c (reverse_action a lookup c)
action_kept a lookup c = item_kept (at_met a (first_reverse a lookup.subtables)) (first_of c.rest) c (λ x. test_kept c (meets a x) (first_reverse a lookup.subtables c) (Passes []) (subtables_kept a lookup.subtables c) tt)

-- a reading from a cut on leaves the first item its own
abbrev KeptReading : Cut → Reading → Type 0
KeptReading c (Ok r) = IsOwnFirst (first_of (whole c)) → IsOwnFirst (first_of r.view.items)
KeptReading c (Err x) = Unit {0}

then_kept : (c d : Cut) (a : Read) (q : Reading) → (IsOwnFirst (first_of (whole c)) → IsOwnFirst (first_of (whole d))) → KeptReading d q → KeptReading c (then_reading a q)
then_kept c d a (Ok r) h k = λ own. k (h own)
then_kept c d a (Err x) h k = tt

outcome_kept : (o : Outcome) (next : Cut → Reading) (v : View) (c : Cut) → OwnKept c o → ((d : Cut) → KeptReading d (next d)) → KeptReading c (after_outcome o next v c)
outcome_kept (Passes es) next v c h k = then_kept c c (with_events es (view_at v c)) (next c) (λ own. own) (k c)
outcome_kept (Acts d es) next v c h k = then_kept c d (with_events es (view_at v d)) (next d) h (k d)
outcome_kept (Refuses x) next v c h k = tt

cut_kept : (i : ℕ) (c : Cut) (q : Reading) → KeptReading (cut_at_index i c) q → KeptReading c q
cut_kept i c (Ok r) h = λ own. h (subst (λ (xs : List Item). IsOwnFirst (first_of xs)) (sym (take-append-drop i (whole c))) own)
cut_kept i c (Err x) h = tt

trials_kept : (act : Action) → ((c : Cut) → OwnKept c (act c)) → (v : View) (n : ℕ) (c : Cut) → KeptReading c (backward_trials act v n c)
trials_kept act h v zero c = λ own. own
trials_kept act h v (suc n) c = cut_kept n c (backward_trials act v (suc n) c) (outcome_kept (act (cut_at_index n c)) (backward_trials act v n) v (cut_at_index n c) (h (cut_at_index n c)) (λ d. trials_kept act h v n d))

backward_keeps_own : (a : ApplyContext) (lookup : SubstLookup) → KeepsOwn (backward_pass (reverse_action a lookup))
backward_keeps_own a lookup v r e = subst (KeptReading (uncut_with_positions v)) e (trials_kept (reverse_action a lookup) (action_kept a lookup) v (length v.items) (uncut_with_positions v))

-- ---- stages

abbrev AtSeam : Bool → Stage → Type 0
AtSeam falls stage = IsDivisibleAtSeam falls stage stage stage

one_at_seam : (falls : Bool) (font : FaceParts) (table : List SubstLookup) (o : Option SubstLookup) (m : lookup_map_t) → AtSeam falls (lookup_stage font table o m)
one_at_seam falls font table None m = nothing_at_seam falls
one_at_seam falls font table (Some lookup) m = by_test (is_reverse lookup.subtables)
  where
    by_test : (t : Bool) → AtSeam falls (λ (v : View). if t then backward_pass (reverse_action (lookup_context font lookup m) lookup) v else forward_pass (lookup_action table (lookup_context font lookup m) lookup) v)
    by_test true =
        let back = backward_pass (reverse_action (lookup_context font lookup m) lookup) in
        let keeps = backward_keeps_own (lookup_context font lookup m) lookup in
        keeping_is_divisible_at_seam falls back back back (reverses_are_divisible falls (lookup_context font lookup m) lookup) keeps keeps
    by_test false = record { divisible = lookups_are_divisible falls table (lookup_context font lookup m) lookup; seam = forward_seam falls table (lookup_context font lookup m) lookup }

pub lookups_keep_seams : LookupsKeepSeams
lookups_keep_seams falls font table [] = nothing_at_seam falls
lookups_keep_seams falls font table (m ∷ maps) =
    let first : Stage = lookup_stage font table (slice_get table m.index) m in
    let rest : Stage = lookups_stage font table maps in
    seam_stays_in_turn falls first first first rest rest rest (one_at_seam falls font table (slice_get table m.index) m) (lookups_keep_seams falls font table maps)

pause_at_seam : (falls : Bool) (pauses early late : Pauses) (o : Option ℕ) → IsPauseAtSeam falls pauses early late o → IsDivisibleAtSeam falls (pause_stage pauses o) (pause_stage early o) (pause_stage late o)
pause_at_seam falls pauses early late None k = nothing_at_seam falls
pause_at_seam falls pauses early late (Some n) k = own_random_keeps_seams falls (pauses n) (early n) (late n) k

stages_at_seam : (falls : Bool) (font : FaceParts) (table : List SubstLookup) (t : TableStages) (pauses early late : Pauses) (i : ℕ) (stages : List StageMap) → ArePausesAtSeam falls pauses early late stages
    → IsDivisibleAtSeam falls (table_stages font table t pauses i stages) (table_stages font table t early i stages) (table_stages font table t late i stages)
stages_at_seam falls font table t pauses early late i [] k = nothing_at_seam falls
stages_at_seam falls font table t pauses early late i (s ∷ stages) k =
    let lookups : Stage = lookups_stage font table (lookups_of_stage t i) in
    seam_stays_in_turn falls (table_stage font table t pauses i s.pause) (table_stage font table t early i s.pause) (table_stage font table t late i s.pause)
    (table_stages font table t pauses (i + 1) stages) (table_stages font table t early (i + 1) stages) (table_stages font table t late (i + 1) stages)
    (seam_stays_in_turn falls lookups lookups lookups (pause_stage pauses s.pause) (pause_stage early s.pause) (pause_stage late s.pause) (lookups_keep_seams falls font table (lookups_of_stage t i)) (pause_at_seam falls pauses early late s.pause k.0))
    (stages_at_seam falls font table t pauses early late (i + 1) stages k.1)

pub substitution_keeps_seams : SubstitutionKeepsSeams
substitution_keeps_seams falls font m pauses early late k =
    own_random_keeps_seams falls (table_stages font (substitution_lookups font) m.tables.gsub pauses 0 m.tables.gsub.stages) (table_stages font (substitution_lookups font) m.tables.gsub early 0 m.tables.gsub.stages) (table_stages font (substitution_lookups font) m.tables.gsub late 0 m.tables.gsub.stages)
    (stages_at_seam falls font (substitution_lookups font) m.tables.gsub pauses early late 0 m.tables.gsub.stages k)

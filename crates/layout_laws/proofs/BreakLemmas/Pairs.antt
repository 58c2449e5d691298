-- Single adjustment is local; pair adjustment is local, or idle at a null pair.
use Rattle.std.proofs.Common.{ℕ, ◌≡◌, ◌≤◌, ◌<◌, ◌+◌, ◌-◌, ◌⊎◌, inl, inr, Bool, true, false, not, nat_lt, if◌then◌else◌, List, [], ◌∷◌, Option, Some, None, Result, Ok, Err, length, map, get_or, arith, refl, ap, sym, subst, ◌∙◌}
use Rattle.std.specs.Prelude.{slice_get, option_and_then, is_some}
use Rattle.std.proofs.lemmas.Bool.{cases_lt}
use Rattle.std.proofs.lemmas.List.{length-append, length-set}
use Rattle.std.proofs.lemmas.Option.{slice_get_within, slice_get-get_or}
use Rattle.buffer_common.specs.declared.direction.Direction.{Direction}
use Rattle.buffer_common.specs.Direction.{is_horizontal}
use Rattle.buffer_glyphs.specs.Items.{Item, Position}
use Rattle.buffer_glyphs.specs.Events.{Event, Break, Concat, StrictBreak}
use Rattle.buffer_glyphs.specs.Rewriting.{shifted_event}
use Rattle.layout_common.specs.Rows.{value_of}
use Rattle.layout_common.specs.declared.glyph_row.GlyphRow.{GlyphRow}
use Rattle.layout_tables.specs.Covers.{covers_first_of_pair}
use Rattle.layout_tables.specs.declared.pair.PairPos.{PairPos}
use Rattle.layout_tables.specs.declared.pair.PairValues.{PairValues}
use Rattle.layout_tables.specs.declared.value.ValueRecord.{ValueRecord}
use Rattle.buffer_stages.specs.Actions.{Cut, whole, past_item, Outcome, Passes, Acts, Refuses, Action, later, or_else, first_rule}
use Rattle.layout_offsets.specs.Links.{position_at}
use Rattle.layout_match.specs.Applied.{ApplyContext, own_search}
use Rattle.layout_match.specs.Searches.{answer, is_skippable}
use Rattle.layout_gpos.specs.Moving.{cut_with_positions, break_around, strict_break_around}
use Rattle.layout_gpos.specs.Values.{position_with_advance, position_with_placement, adjusted_position, with_adjusted_position}
use Rattle.layout_gpos.specs.Singles.{single_adjusted, single_subtable}
use Rattle.layout_gpos.specs.Pairs.{second_adjusted, pair_has_no_effect, pair_adjusted, pair_length, takes_glyphs, pair_of, pair_second, next_item, pair_values, pair_subtable}
use Rattle.buffer_parts.specs.Breaks.Concat.{without_concats}
use Rattle.buffer_parts.specs.Breaks.Fragments.{with_ligature_renamed}
use Rattle.buffer_parts.specs.Breaks.Sides.{AreBounded}
use Rattle.layout_laws.specs.Breaks.Binding.{BindOutside}
use Rattle.layout_laws.specs.Breaks.Matching.{FindsSame}
use Rattle.layout_laws.specs.Breaks.Frames.{Outside, Inside, framed_cut, IsFramed}
use Rattle.layout_laws.specs.Breaks.Local.{Binds, IsBeside, IsLocal, IsBesideOrIdle, IsLocalOrIdle}
use Rattle.layout_laws.specs.Breaks.Positioned.{LeadsInside, LeadInside, ArePlaced, around}
use Rattle.layout_laws.proofs.Lemmas.Positionings.{events_by}
use Rattle.layout_laws.proofs.BreakLemmas.Blind.{answer_blind}
use Rattle.layout_laws.proofs.BreakLemmas.Frames.{at_item, front_long, rest_long}
use Rattle.layout_laws.proofs.BreakLemmas.Matching.{searches_from_agree}
use Rattle.layout_laws.proofs.BreakLemmas.Outcomes.{IsLocalAt, none_more, first_beside, at_first_local}
use Rattle.buffer_facts.proofs.Numbers.{test_of_less as less_test}
use Rattle.buffer_facts.proofs.Truth.{neither_true}
use Rattle.layout_laws.proofs.BreakLemmas.Placed.{change_around, leads_set, acted_beside, range_same, item_named}

-- ---- adjusted positions

pub advance_link : (along : Bool) (v : ValueRecord) (p : Position) → (position_with_advance along v p).attach_chain ≡ p.attach_chain
advance_link true v p = refl
advance_link false v p = refl

adjusted_links : (d : Direction) (i : ℕ) (v : ValueRecord) (ps : List Position) → i < length ps → LeadInside ps → LeadInside (with_adjusted_position d i v ps)
adjusted_links d i v ps lt h =
    leads_set ps i (adjusted_position d v (position_at i ps)) h (subst (LeadsInside (length ps) i) (sym (advance_link (is_horizontal d) v (position_with_placement v (position_at i ps)))) (h i lt))

adjusted_around : (o : Outside) (d : Direction) (n i : ℕ) (v : ValueRecord) (ps : List Position) → length o.left ≡ n → i < length ps → with_adjusted_position d (n + i) v (around o ps) ≡ around o (with_adjusted_position d i v ps)
adjusted_around o d n i v ps e lt = change_around o (adjusted_position d v) ps n i e lt

adjusted_long : (d : Direction) (i : ℕ) (v : ValueRecord) (ps : List Position) → length (with_adjusted_position d i v ps) ≡ length ps
adjusted_long d i v ps = length-set ps i (adjusted_position d v (position_at i ps))

-- ---- single adjustment

single_at : (d : Direction) (v : Option ValueRecord) → IsLocalAt ArePlaced (λ x. single_adjusted d v)
single_at d None o s c x xs h k = (refl, refl)
single_at d (Some v) o s c x xs h k =
    let here : Cut = record c { rest = x ∷ xs } in
    let front = length c.front in
    let at : length (framed_cut o s here).front ≡ length o.before + front = front_long o s c.front in
    let lt : front < length c.positions = omega (arith, k.positions, length-append c.front (x ∷ xs)) in
    acted_beside o s here 1 (with_adjusted_position d (length (framed_cut o s here).front) v (around o c.positions)) (with_adjusted_position d front v c.positions) s.scratch_flags c.scratch_flags [] [] h k (omega arith) (omega arith)
    (adjusted_long d front v c.positions) (adjusted_links d front v c.positions lt k.links)
    (ap (λ (i : ℕ). with_adjusted_position d i v (around o c.positions)) at ∙ adjusted_around o d (length o.before) front v c.positions k.left lt) refl tt

pub single_local : (d : Direction) (rows : List (GlyphRow ValueRecord)) → IsLocal ArePlaced (single_subtable d rows)
single_local d rows = at_first_local ArePlaced (λ x. single_adjusted d (value_of x.number rows)) (λ o s c x xs h k. single_at d (value_of x.number rows) o s c x xs h k)

-- ---- two glyphs adjusted

second_links : (d : Direction) (i : ℕ) (v : Option ValueRecord) (ps : List Position) → i < length ps → LeadInside ps → LeadInside (second_adjusted d i v ps)
second_links d i None ps lt h = h
second_links d i (Some v) ps lt h = adjusted_links d i v ps lt h

second_around : (o : Outside) (d : Direction) (n i : ℕ) (v : Option ValueRecord) (ps : List Position) → length o.left ≡ n → i < length ps → second_adjusted d (n + i) v (around o ps) ≡ around o (second_adjusted d i v ps)
second_around o d n i None ps e lt = refl
second_around o d n i (Some v) ps e lt = adjusted_around o d n i v ps e lt

second_long : (d : Direction) (i : ℕ) (v : Option ValueRecord) (ps : List Position) → length (second_adjusted d i v ps) ≡ length ps
second_long d i None ps = refl
second_long d i (Some v) ps = adjusted_long d i v ps

-- two glyphs adjusted, by whether the pair is null
abbrev adjusted_by : Bool → Direction → ℕ → ℕ → PairValues → List Position → List Position
adjusted_by null d first second v ps = if null then ps else second_adjusted d second v.second (with_adjusted_position d first v.first ps)

pair_around : (o : Outside) (d : Direction) (n i j at next : ℕ) (v : PairValues) (ps : List Position) → length o.left ≡ n → i < length ps → j < length ps → at ≡ n + i → next ≡ n + j → pair_adjusted d at next v (around o ps) ≡ around o (pair_adjusted d i j v ps)
pair_around o d n i j at next v ps e lt less same other = by_null (pair_has_no_effect v)
  where
    by_null : (null : Bool) → adjusted_by null d at next v (around o ps) ≡ around o (adjusted_by null d i j v ps)
    by_null true = refl
    by_null false =
        ap (λ (k : ℕ). adjusted_by false d k next v (around o ps)) same ∙ ap (λ (k : ℕ). adjusted_by false d (n + i) k v (around o ps)) other ∙ ap (second_adjusted d (n + j) v.second) (adjusted_around o d n i v.first ps e lt)
        ∙ second_around o d n j v.second (with_adjusted_position d i v.first ps) e (omega (arith, less, adjusted_long d i v.first ps))

pub pair_long : (d : Direction) (i j : ℕ) (v : PairValues) (ps : List Position) → length (pair_adjusted d i j v ps) ≡ length ps
pair_long d i j v ps = by_null (pair_has_no_effect v)
  where
    by_null : (null : Bool) → length (adjusted_by null d i j v ps) ≡ length ps
    by_null true = refl
    by_null false = second_long d j v.second (with_adjusted_position d i v.first ps) ∙ adjusted_long d i v.first ps

pair_links : (d : Direction) (i j : ℕ) (v : PairValues) (ps : List Position) → i < length ps → j < length ps → LeadInside ps → LeadInside (pair_adjusted d i j v ps)
pair_links d i j v ps lt less h = by_null (pair_has_no_effect v)
  where
    by_null : (null : Bool) → LeadInside (adjusted_by null d i j v ps)
    by_null true = h
    by_null false = second_links d j v.second (with_adjusted_position d i v.first ps) (omega (arith, less, adjusted_long d i v.first ps)) (adjusted_links d i v.first ps lt h)

pair_short : (apart : ℕ) (v : Option ValueRecord) → pair_length apart v ≤ apart + 1
pair_short apart None = omega arith
pair_short apart (Some v) = omega arith

-- ---- null pairs

none_second : (second : Option ValueRecord) → is_some second ≡ false → second ≡ None
none_second None e = refl
none_second (Some v) e = cc

-- a null pair that takes no glyph from other pairs has its second glyph directly after the first, without a record
free_pair : (apart : ℕ) (second : Option ValueRecord) → takes_glyphs apart second ≡ false → (apart ≤ 1) × (second ≡ None)
free_pair apart second e =
    let both = neither_true (nat_lt 1 apart) (is_some second) e in
    let near : apart ≤ 1 = elim (cases_lt 1 apart) [ inl far ↦ (let test : true ≡ false = sym (less_test 1 apart far) ∙ both.0 in cc) | inr near ↦ near ] in
    (near, none_second second both.1)

-- ---- rules that pass at an item of a fragment alone

-- the outcome in the text of such a rule: it passes, binds the fragment to what is outside, or does no more than to pass the item, the
-- fragment's last
abbrev PassesOutside : Outside → Inside → Cut → Outcome → Type 0
PassesOutside o s c (Passes es) = without_concats es ≡ []
PassesOutside o s c (Acts w es) = Binds o c es ⊎ ((length c.rest ≤ 1) × (w ≡ past_item (framed_cut o s c)) × (without_concats es ≡ []))
PassesOutside o s c (Refuses x) = Unit {0}

abbrev PassesAlone : Outcome → Type 0
PassesAlone (Passes fs) = without_concats fs ≡ []
PassesAlone (Acts d fs) = ⊥
PassesAlone (Refuses x) = Unit {0}

later_outside : (o : Outside) (s : Inside) (c : Cut) (es : List Event) (p : Outcome) → without_concats es ≡ [] → PassesOutside o s c p → PassesOutside o s c (later es p)
later_outside o s c es (Passes fs) e h = none_more es fs e ∙ h
later_outside o s c es (Acts w fs) e h = elim h [
  | inl binds ↦ inl (subst (λ (gs : List Event). BindOutside (length o.before) (length (whole c)) (length o.after) gs) (sym (none_more es fs e)) binds)
  | inr idle ↦ inr (idle.0, idle.1, none_more es fs e ∙ idle.2)
]
later_outside o s c es (Refuses x) e h = tt

either_outside : (o : Outside) (s : Inside) (c : Cut) (p q : Outcome) → PassesOutside o s c p → PassesOutside o s c q → PassesOutside o s c (or_else p q)
either_outside o s c (Passes es) q h k = later_outside o s c es q h k
either_outside o s c (Acts w es) q h k = h
either_outside o s c (Refuses x) q h k = tt

first_outside : (act : PairPos → Action) (subtables : List PairPos) (o : Outside) (s : Inside) (c : Cut) → ((t : PairPos) → PassesOutside o s c (act t (framed_cut o s c))) → PassesOutside o s c (first_rule act subtables (framed_cut o s c))
first_outside act [] o s c k = refl
first_outside act (t ∷ subtables) o s c k = either_outside o s c (act t (framed_cut o s c)) (first_rule act subtables (framed_cut o s c)) (k t) (first_outside act subtables o s c k)

later_alone : (es : List Event) (p : Outcome) → without_concats es ≡ [] → PassesAlone p → PassesAlone (later es p)
later_alone es (Passes fs) e h = none_more es fs e ∙ h
later_alone es (Acts d fs) e h = absurd h
later_alone es (Refuses x) e h = tt

either_alone : (p q : Outcome) → PassesAlone p → PassesAlone q → PassesAlone (or_else p q)
either_alone (Passes es) q h k = later_alone es q h k
either_alone (Acts d es) q h k = absurd h
either_alone (Refuses x) q h k = tt

first_alone : (act : PairPos → Action) (subtables : List PairPos) (c : Cut) → ((t : PairPos) → PassesAlone (act t c)) → PassesAlone (first_rule act subtables c)
first_alone act [] c k = refl
first_alone act (t ∷ subtables) c k = either_alone (act t c) (first_rule act subtables c) (k t) (first_alone act subtables c k)

-- before the last item of a fragment such a rule is local
inner_beside : (o : Outside) (s : Inside) (c : Cut) (q : Outcome) (fs : List Event) → 1 < length c.rest → without_concats fs ≡ [] → PassesOutside o s c q → IsBeside ArePlaced o s c q (Passes fs)
inner_beside o s c (Passes es) fs more e h = (h, e)
inner_beside o s c (Acts w es) fs more e h = elim h [ inl binds ↦ binds | inr idle ↦ absurd (omega (arith, more, idle.0)) ]
inner_beside o s c (Refuses x) fs more e h = tt

-- at the last item it may be idle
last_beside : (o : Outside) (s : Inside) (c : Cut) (q p : Outcome) → PassesOutside o s c q → PassesAlone p → IsBesideOrIdle ArePlaced o s c q p
last_beside o s c (Passes es) (Passes fs) h k = inl (h, k)
last_beside o s c (Passes es) (Refuses y) h k = inl tt
last_beside o s c (Acts w es) (Passes fs) h k = elim h [
  | inl binds ↦ inl binds
  | inr idle ↦ inr (record { theirs = es; ours = fs; acts = ap (λ (v : Cut). Acts v es) idle.1; passes = refl; none_there = idle.2; none_here = k })
]
last_beside o s c (Acts w es) (Refuses y) h k = inl tt
last_beside o s c (Refuses x) p h k = inl tt
last_beside o s c (Passes es) (Acts d fs) h k = absurd k
last_beside o s c (Acts w es) (Acts d fs) h k = absurd k

-- ---- pair adjustment

module _ (d : Direction) (o : Outside) (s : Inside) (c : Cut) (x : Item) (xs : List Item) (h : IsFramed o s (record c { rest = x ∷ xs })) (k : ArePlaced o (record c { rest = x ∷ xs })) where
  abbrev here : Cut
  here = record c { rest = x ∷ xs }

  abbrev there : Cut
  there = framed_cut o s (record c { rest = x ∷ xs })

  at : length there.front ≡ length o.before + length c.front
  at = front_long o s c.front

  size : length (whole here) ≡ length c.front + length {A = Item} (x ∷ xs)
  size = length-append c.front (x ∷ xs)

  -- a pair inside the fragment
  pair_inside : (apart : ℕ) (found : Option PairValues) → apart < length {A = Item} (x ∷ xs) → IsBeside ArePlaced o s here (pair_of d apart found there) (pair_of d apart found here)
  pair_inside apart None lt = (refl, refl)
  pair_inside apart (Some v) lt = by_events (pair_has_no_effect v) (takes_glyphs apart v.second)
    where
      first : length c.front < length c.positions
      first = omega (arith, lt, k.positions, size)

      second : length c.front + apart < length c.positions
      second = omega (arith, lt, k.positions, size)

      short : pair_length apart v.second ≤ length {A = Item} (x ∷ xs)
      short = let up = pair_short apart v.second in omega (arith, up, lt)

      acted : (es fs : List Event) → without_concats es ≡ map (shifted_event (length o.before)) (without_concats fs) → AreBounded (without_concats fs) (length (whole here))
          → IsBeside ArePlaced o s here (Acts (cut_with_positions (pair_length apart v.second) (pair_adjusted d (length there.front) (length there.front + apart) v (around o c.positions)) there) es)
          (Acts (cut_with_positions (pair_length apart v.second) (pair_adjusted d (length c.front) (length c.front + apart) v c.positions) here) fs)
      acted es fs same bounded =
          acted_beside o s here (pair_length apart v.second) (pair_adjusted d (length there.front) (length there.front + apart) v (around o c.positions)) (pair_adjusted d (length c.front) (length c.front + apart) v c.positions) s.scratch_flags c.scratch_flags
          es fs h k (omega arith) short (pair_long d (length c.front) (length c.front + apart) v c.positions) (pair_links d (length c.front) (length c.front + apart) v c.positions first second k.links)
          (pair_around o d (length o.before) (length c.front) (length c.front + apart) (length there.front) (length there.front + apart) v c.positions k.left first second at (omega (arith, at))) same bounded

      by_events : (null takes : Bool) → IsBeside ArePlaced o s here (Acts (cut_with_positions (pair_length apart v.second) (pair_adjusted d (length there.front) (length there.front + apart) v (around o c.positions)) there) (events_by null takes apart there))
          (Acts (cut_with_positions (pair_length apart v.second) (pair_adjusted d (length c.front) (length c.front + apart) v c.positions) here) (events_by null takes apart here))
      by_events true true =
          acted (strict_break_around (apart + 1) there) (strict_break_around (apart + 1) here)
          (range_same StrictBreak (length there.front) (length there.front + (apart + 1)) (length o.before + length c.front) (length o.before + (length c.front + (apart + 1))) at (omega (arith, at))) ((omega (arith, size), omega (arith, size, lt)), tt)
      by_events true false = acted [] [] refl tt
      by_events false takes =
          acted (break_around 0 (apart + 1) there) (break_around 0 (apart + 1) here)
          (range_same Break (length there.front - 0) (length there.front + (apart + 1)) (length o.before + (length c.front - 0)) (length o.before + (length c.front + (apart + 1))) (omega (arith, at)) (omega (arith, at))) ((omega (arith, size), omega (arith, size, lt)), tt)

  -- a second glyph after the fragment
  pair_outside : (values : Item → Option PairValues) (apart : ℕ) → length {A = Item} (x ∷ xs) ≤ apart → PassesOutside o s here (pair_of d apart (option_and_then values (slice_get there.rest apart)) there)
  pair_outside values apart past = by_item (slice_get there.rest apart) refl
    where
      binds : (v : PairValues) → apart < length there.rest → PassesOutside o s here (pair_of d apart (Some v) there)
      binds v lt = by_events (pair_has_no_effect v) (takes_glyphs apart v.second) refl
        where
          long : length there.rest ≡ length {A = Item} (x ∷ xs) + length o.after
          long = rest_long o s (x ∷ xs)

          one : takes_glyphs apart v.second ≡ false → pair_length apart v.second ≡ 1
          one e = let free = free_pair apart v.second e in ap (pair_length apart) free.1 ∙ omega (arith, past, free.0)

          by_events : (null takes : Bool) → takes_glyphs apart v.second ≡ takes
              → PassesOutside o s here (Acts (cut_with_positions (pair_length apart v.second) (adjusted_by null d (length there.front) (length there.front + apart) v (around o c.positions)) there) (events_by null takes apart there))
          by_events true true e = inl (inl (inr (omega (arith, at, size), omega (arith, at, size, past), omega (arith, at, size, lt, long))))
          by_events true false e = inr (omega (arith, past, (free_pair apart v.second e).0), ap (λ (n : ℕ). cut_with_positions n (around o c.positions) there) (one e), refl)
          by_events false takes e = inl (inl (inr (omega (arith, at, size), omega (arith, at, size, past), omega (arith, at, size, lt, long))))

      by_value : (found : Option PairValues) → apart < length there.rest → PassesOutside o s here (pair_of d apart found there)
      by_value None lt = refl
      by_value (Some v) lt = binds v lt

      by_item : (y : Option Item) → slice_get there.rest apart ≡ y → PassesOutside o s here (pair_of d apart (option_and_then values y) there)
      by_item None e = refl
      by_item (Some y) e = by_value (values y) (slice_get_within there.rest apart y e)

  -- the second glyph that is found
  pair_found : (values : Item → Option PairValues) → ((f : ℕ → ℕ) (y : Item) → values (with_ligature_renamed f y) ≡ values y) → 1 < length {A = Item} (x ∷ xs) → (far near : Result ℕ ℕ) → FindsSame (length {A = Item} (x ∷ xs)) far near
      → IsBeside ArePlaced o s here (pair_second d values far there) (pair_second d values near here)
  pair_found values blind more (Ok i) (Ok j) e =
      let y : Item = get_or {A = Item} (x ∷ xs) j x in
      let ours : slice_get {X = Item} (x ∷ xs) j ≡ Some y = slice_get-get_or (x ∷ xs) j x e.1 in
      let theirs : slice_get there.rest j ≡ Some (with_ligature_renamed s.name y) = item_named s.name (x ∷ xs) o.after j y ours in
      subst (λ (m : ℕ). IsBeside ArePlaced o s here (pair_second d values (Ok m) there) (pair_second d values (Ok j) here)) (sym e.0)
      (subst (λ (z : Option Item). IsBeside ArePlaced o s here (pair_of d j (option_and_then values z) there) (pair_second d values (Ok j) here)) (sym theirs)
      (subst (λ (v : Option PairValues). IsBeside ArePlaced o s here (pair_of d j v there) (pair_second d values (Ok j) here)) (sym (blind s.name y))
      (subst (λ (z : Option Item). IsBeside ArePlaced o s here (pair_of d j (values y) there) (pair_of d j (option_and_then values z) here)) (sym ours) (pair_inside j (values y) e.1))))
  pair_found values blind more (Ok i) (Err end) e =
      inner_beside o s here (pair_second d values (Ok i) there) (Concat (length c.front - 0) (length c.front + end) ∷ []) more refl (pair_outside values i e)
  pair_found values blind more (Err far) (Ok j) e = absurd e
  pair_found values blind more (Err far) (Err end) e = (refl, refl)

  -- what the lookup finds in the text and alone
  found_same : (a : ApplyContext) → FindsSame (length {A = Item} (x ∷ xs)) (next_item a there.rest) (next_item a (x ∷ xs))
  found_same a =
      searches_from_agree (answer (own_search a (x ∷ xs)) (λ y. not (is_skippable (own_search a (x ∷ xs)) y))) s.name 1 (x ∷ xs) o.after (answer_blind (own_search a (x ∷ xs)) (λ y. not (is_skippable (own_search a (x ∷ xs)) y)) (λ f y. refl)) (omega arith)

  -- before the last item of the fragment
  pair_beside : 1 < length {A = Item} (x ∷ xs) → (a : ApplyContext) (t : PairPos) → IsBeside ArePlaced o s here (pair_subtable d a t there) (pair_subtable d a t here)
  pair_beside more a t = by_cover (covers_first_of_pair t x.number)
    where
      by_cover : (b : Bool) → IsBeside ArePlaced o s here (if b then pair_second d (λ y. pair_values t x.number y.number) (next_item a there.rest) there else Passes []) (if b then pair_second d (λ y. pair_values t x.number y.number) (next_item a (x ∷ xs)) here else Passes [])
      by_cover true = pair_found (λ y. pair_values t x.number y.number) (λ f y. refl) more (next_item a there.rest) (next_item a (x ∷ xs)) (found_same a)
      by_cover false = (refl, refl)

  -- where alone no second glyph is found
  pair_missed : (values : Item → Option PairValues) (far : Result ℕ ℕ) (end : ℕ) → FindsSame (length {A = Item} (x ∷ xs)) far (Err end) → PassesOutside o s here (pair_second d values far there)
  pair_missed values (Ok i) end e = pair_outside values i e
  pair_missed values (Err far) end e = refl

  cover_missed : (a : ApplyContext) (t : PairPos) (end : ℕ) → FindsSame (length {A = Item} (x ∷ xs)) (next_item a there.rest) (Err end) → PassesOutside o s here (pair_subtable d a t there)
  cover_missed a t end e = by_cover (covers_first_of_pair t x.number)
    where
      by_cover : (b : Bool) → PassesOutside o s here (if b then pair_second d (λ y. pair_values t x.number y.number) (next_item a there.rest) there else Passes [])
      by_cover true = pair_missed (λ y. pair_values t x.number y.number) (next_item a there.rest) end e
      by_cover false = refl

-- at the last item of a text no pair has a second glyph
last_alone : (d : Direction) (a : ApplyContext) (c : Cut) (x : Item) (t : PairPos) → PassesAlone (pair_subtable d a t (record c { rest = x ∷ [] }))
last_alone d a c x t = by_cover (covers_first_of_pair t x.number)
  where
    by_cover : (b : Bool) → PassesAlone (if b then pair_second d (λ y. pair_values t x.number y.number) (Err 1) (record c { rest = x ∷ [] }) else Passes [])
    by_cover true = refl
    by_cover false = refl

pub pairs_local : (d : Direction) (a : ApplyContext) (subtables : List PairPos) → IsLocalOrIdle ArePlaced (first_rule (pair_subtable d a) subtables)
pairs_local d a subtables o s c h k some =
    at_item (λ (z : Cut). IsFramed o s z → ArePlaced o z → IsBesideOrIdle ArePlaced o s z (first_rule (pair_subtable d a) subtables (framed_cut o s z)) (first_rule (pair_subtable d a) subtables z)) c some by_rest h k
  where
    by_rest : (x : Item) (xs : List Item) → IsFramed o s (record c { rest = x ∷ xs }) → ArePlaced o (record c { rest = x ∷ xs })
        → IsBesideOrIdle ArePlaced o s (record c { rest = x ∷ xs }) (first_rule (pair_subtable d a) subtables (framed_cut o s (record c { rest = x ∷ xs }))) (first_rule (pair_subtable d a) subtables (record c { rest = x ∷ xs }))
    by_rest x [] f p =
        let z : Cut = record c { rest = x ∷ [] } in
        last_beside o s z (first_rule (pair_subtable d a) subtables (framed_cut o s z)) (first_rule (pair_subtable d a) subtables z)
        (first_outside (pair_subtable d a) subtables o s z (λ t. cover_missed d o s c x [] f p a t 1 (found_same d o s c x [] f p a))) (first_alone (pair_subtable d a) subtables z (last_alone d a c x))
    by_rest x (y ∷ ys) f p = inl (first_beside ArePlaced (pair_subtable d a) subtables o s (record c { rest = x ∷ y ∷ ys }) (pair_beside d o s c x (y ∷ ys) f p (omega arith) a))

-- A rule tried at each index of a text that stands as two fragments on its line, the first that is read and the second: it reads of the text what it
-- reads of them, or binds one to the other.
use Rattle.std.proofs.Common.{ℕ, ◌≡◌, ◌≤◌, ◌<◌, ◌+◌, ◌⊎◌, inl, inr, Bool, true, false, not, List, [], ◌++◌, length, map, arith, refl, ap, sym, subst, ◌∙◌}
use Rattle.std.proofs.lemmas.List.{append-nil, length-map}
use Rattle.buffer_glyphs.specs.declared.level.BufferClusterLevel.{BufferClusterLevel}
use Rattle.buffer_glyphs.specs.Items.{Item, Position}
use Rattle.buffer_glyphs.specs.Origins.{Origin, Asks}
use Rattle.buffer_glyphs.specs.Events.{Event, origins_after}
use Rattle.buffer_glyphs.specs.Rewriting.{shifted_event}
use Rattle.buffer_parts.specs.Orderly.{IsOrderly}
use Rattle.buffer_parts.specs.Counts.{count_after}
use Rattle.buffer_core.specs.Readings.{View, Read, BufferState, state_after}
use Rattle.buffer_stages.specs.Actions.{Cut, whole, view_at}
use Rattle.buffer_parts.specs.Breaks.Unsafe.{IsUnsafeAt, HaveSafeBreaks}
use Rattle.buffer_parts.specs.Breaks.Lossless.{AreLossless}
use Rattle.buffer_parts.specs.Breaks.Concat.{SameButConcat, without_concats}
use Rattle.buffer_parts.specs.Breaks.Sides.{AreBounded, AreCutAt}
use Rattle.buffer_parts.specs.Breaks.Fragments.{with_ligature_renamed, IsNaming, AreGiven, AreNamed, IsWhole, as_they_stand}
use Rattle.buffer_parts.specs.Breaks.Beside.{events_as_they_stand}
use Rattle.layout_laws.specs.Breaks.Frames.{Outside, Inside, named_items, framed_cut, IsFramed}
use Rattle.layout_laws.specs.Breaks.Binding.{BindOutside}
use Rattle.layout_laws.specs.Breaks.Local.{Placing, Binds}
use Rattle.layout_laws.proofs.BreakLemmas.PassWalks.{IsWalked}
use Rattle.layout_laws.proofs.BreakLemmas.Frames.{given_both}
use Rattle.layout_laws.proofs.BreakLemmas.Binding.{first_binds, second_binds, unsafe_with_concats}
use Rattle.layout_laws.proofs.BreakLemmas.Passes.{named_given, named_foreign, naming_wider}
use Rattle.layout_laws.proofs.BreakLemmas.Ways.{beside, whole_beside, positions_beside, start, inside_of, IsWay}
use Rattle.buffer_stages.specs.Lemmas.Shifts.{shift_none as all_shifted_none}

-- ---- two fragments, in either order

pub turned : {X : Type 0} → (t : Bool) (xs ys : List X) → as_they_stand (not t) ys xs ≡ as_they_stand t xs ys
turned false xs ys = refl
turned true xs ys = refl

pub turned_cut : (c : ℕ) (os qs : List Origin) → AreCutAt c os qs → AreCutAt c qs os
turned_cut c os qs (inl cut) = inr (cut.1, cut.0)
turned_cut c os qs (inr cut) = inl (cut.1, cut.0)

-- a fragment is framed by the items of another one
beside_framed : (before : Bool) (t : Inside) (name : ℕ → ℕ) (last : ℕ) (ys : List Item) (ps : List Position) (c : Cut) → IsNaming name c.lig_id t.lig_id → AreGiven c.lig_id c.front → AreGiven c.lig_id c.rest → IsNaming t.name last t.lig_id → AreGiven last ys
    → ((m n : ℕ) → m ≤ last → n ≤ c.lig_id → t.name m ≡ name n → n ≡ 0) → 0 < length ys → IsFramed (beside before (named_items t ys) ps) (record t { name = name }) c
beside_framed false t name last ys ps c names front rest others given apart some = record {
  names = names;
  front = front;
  rest = rest;
  before = tt;
  after = named_given t last ys others given;
  foreign_before = tt;
  foreign_after = named_foreign t last name c.lig_id ys given apart;
  some = omega (arith, some, length-map ys (with_ligature_renamed t.name));
}
beside_framed true t name last ys ps c names front rest others given apart some = record {
  names = names;
  front = front;
  rest = rest;
  before = named_given t last ys others given;
  after = tt;
  foreign_before = named_foreign t last name c.lig_id ys given apart;
  foreign_after = tt;
  some = omega (arith, some, length-map ys (with_ligature_renamed t.name));
}

-- ---- their events

-- events of a fragment, at the indices of the text: n items stand before it, or after it
abbrev in_text : Bool → ℕ → List Event → List Event
in_text false n es = es
in_text true n es = map (shifted_event n) es

events_beside : (before : Bool) (xs : List Item) (ps : List Position) (n : ℕ) (es : List Event) → length xs ≡ n → map (shifted_event (length (beside before xs ps).before)) es ≡ in_text before n es
events_beside false xs ps n es long = all_shifted_none es
events_beside true xs ps n es long = ap (λ (k : ℕ). map (shifted_event k) es) long

events_in_turn : (backward : Bool) (m n : ℕ) (es fs : List Event) → in_text backward n es ++ in_text (not backward) (count_after es m) fs ≡ events_as_they_stand backward backward es fs m n
events_in_turn false m n es fs = refl
events_in_turn true m n es fs = refl

first_is_bound : (backward : Bool) (asks : Asks) (level : BufferClusterLevel) (es : List Event) (os qs : List Origin) (c n : ℕ) (xs : List Item) (ps : List Position) → length xs ≡ length qs → n ≡ length os → HaveSafeBreaks asks level (as_they_stand backward os qs) → IsOrderly asks level es (as_they_stand backward os qs)
    → AreLossless es (length (as_they_stand backward os qs)) → AreCutAt c os qs → BindOutside (length (beside backward xs ps).before) n (length (beside backward xs ps).after) es → IsUnsafeAt c (origins_after asks level es (as_they_stand backward os qs))
first_is_bound false asks level es os qs c n xs ps others ours s h l cut binds =
    first_binds asks level es [] os qs c s h l cut tt (subst (λ (i : ℕ). BindOutside 0 (length os) i es) others (subst (λ (i : ℕ). BindOutside 0 i (length xs) es) ours binds))
first_is_bound true asks level es os qs c n xs ps others ours s h l cut binds =
    second_binds asks level [] es qs os c s h l (turned_cut c os qs cut) tt (subst (λ (i : ℕ). BindOutside i (length os) 0 es) others (subst (λ (i : ℕ). BindOutside (length xs) i 0 es) ours binds))

second_is_bound : (backward : Bool) (asks : Asks) (level : BufferClusterLevel) (es fs : List Event) (os qs : List Origin) (c n : ℕ) (xs : List Item) (ps : List Position) → length xs ≡ count_after es (length os) → n ≡ length qs → HaveSafeBreaks asks level (as_they_stand backward os qs)
    → IsOrderly asks level (in_text backward (length qs) es ++ fs) (as_they_stand backward os qs) → AreLossless (in_text backward (length qs) es ++ fs) (length (as_they_stand backward os qs)) → AreCutAt c os qs → AreBounded es (length os)
    → BindOutside (length (beside (not backward) xs ps).before) n (length (beside (not backward) xs ps).after) fs → IsUnsafeAt c (origins_after asks level (in_text backward (length qs) es ++ fs) (as_they_stand backward os qs))
second_is_bound false asks level es fs os qs c n xs ps others ours s h l cut bounded binds =
    second_binds asks level es fs os qs c s h l cut bounded (subst (λ (i : ℕ). BindOutside i (length qs) 0 fs) others (subst (λ (i : ℕ). BindOutside (length xs) i 0 fs) ours binds))
second_is_bound true asks level es fs os qs c n xs ps others ours s h l cut bounded binds =
    first_binds asks level fs es qs os c s h l (turned_cut c os qs cut) bounded (subst (λ (i : ℕ). BindOutside 0 (length qs) i fs) others (subst (λ (i : ℕ). BindOutside 0 i (length xs) fs) ours binds))

-- ---- a line

-- a text as two fragments stand on its line, the first that is read before the second, or after it where the text is read backward; and the events
-- that were read
pub record IsLine (backward : Bool) (put : View → List Position) (c : ℕ) (text first second : BufferState) (es : List Event) : Type 0 where
  pub first_name : ℕ → ℕ
  pub second_name : ℕ → ℕ
  pub names : AreNamed first_name second_name text.view first.view second.view
  pub items : text.view.items ≡ as_they_stand backward (map (with_ligature_renamed first_name) first.view.items) (map (with_ligature_renamed second_name) second.view.items)
  pub positions : put text.view ≡ as_they_stand backward (put first.view) (put second.view)
  pub origins : SameButConcat text.origins (as_they_stand backward first.origins second.origins)
  pub breaks : HaveSafeBreaks text.asks text.level (as_they_stand backward first.origins second.origins)
  pub orderly : IsOrderly text.asks text.level (without_concats es) (as_they_stand backward first.origins second.origins)
  pub lossless : AreLossless (without_concats es) (length (as_they_stand backward first.origins second.origins))
  pub cut : AreCutAt c first.origins second.origins
  pub first_some : 0 < length first.view.items
  pub second_some : 0 < length second.view.items
  pub first_whole : IsWhole first
  pub second_whole : IsWhole second
  pub first_direction : first.view.direction ≡ text.view.direction
  pub second_direction : second.view.direction ≡ text.view.direction

-- what was read of a fragment of n glyphs has its events, leaves some item, and is placed as the fragment's end is
pub record IsReadOf (P : Placing) (level : BufferClusterLevel) (n : ℕ) (r : Read) : Type 0 where
  pub outside : Outside
  pub end : Cut
  pub placed : P outside end
  pub items : r.view.items ≡ whole end
  pub positions : r.view.positions ≡ end.positions
  pub bounded : AreBounded (without_concats (r.events level)) n
  pub counted : count_after (without_concats (r.events level)) n ≡ length r.view.items
  pub some : 0 < length r.view.items

-- what was read of a text is what was read of its fragments, of m glyphs and of n
pub record IsLineRead (backward : Bool) (P : Placing) (level : BufferClusterLevel) (m n : ℕ) (r e l : Read) : Type 0 where
  pub first_name : ℕ → ℕ
  pub second_name : ℕ → ℕ
  pub names : AreNamed first_name second_name r.view e.view l.view
  pub items : r.view.items ≡ as_they_stand backward (map (with_ligature_renamed first_name) e.view.items) (map (with_ligature_renamed second_name) l.view.items)
  pub positions : r.view.positions ≡ as_they_stand backward e.view.positions l.view.positions
  pub events : without_concats (r.events level) ≡ events_as_they_stand backward backward (without_concats (e.events level)) (without_concats (l.events level)) m n
  pub first_direction : e.view.direction ≡ r.view.direction
  pub second_direction : l.view.direction ≡ r.view.direction
  pub first : IsReadOf P level m e
  pub second : IsReadOf P level n l

module _ (backward : Bool) (P : Placing) (put : View → List Position) (c : ℕ) (text first second : BufferState) (way : IsWay backward P put text.level text.view) (r e l : Read) (is : IsLine backward put c text first second (r.events text.level)) where
  abbrev line : List Origin
  line = as_they_stand backward first.origins second.origins

  -- the events of each, but for those that set UNSAFE_TO_CONCAT
  abbrev ours : List Event
  ours = without_concats (e.events text.level)

  abbrev theirs : List Event
  theirs = without_concats (l.events text.level)

  -- ---- the first fragment

  abbrev outside_first : Outside
  outside_first = beside backward (map (with_ligature_renamed is.second_name) second.view.items) (put second.view)

  abbrev inside_first : Inside
  inside_first = inside_of text.view is.first_name

  first_frames : IsFramed outside_first inside_first (start put first.view)
  first_frames = beside_framed backward (inside_of text.view is.second_name) is.first_name second.view.lig_id second.view.items (put second.view) (start put first.view) is.names.early tt is.names.early_given is.names.late is.names.late_given
      (λ m n mle nle same. (is.names.apart n m nle mle (sym same)).0) is.second_some

  others_long : length (map (with_ligature_renamed is.second_name) second.view.items) ≡ length second.origins
  others_long = length-map second.view.items (with_ligature_renamed is.second_name) ∙ sym is.second_whole.origins

  first_unsafe : Binds outside_first (start put first.view) (r.events text.level) → IsUnsafeAt c (state_after r text).origins
  first_unsafe binds =
      unsafe_with_concats text r line c is.origins
      (first_is_bound backward text.asks text.level (without_concats (r.events text.level)) first.origins second.origins c (length first.view.items) (map (with_ligature_renamed is.second_name) second.view.items) (put second.view) others_long (sym is.first_whole.origins) is.breaks is.orderly is.lossless is.cut binds)

  -- ---- the second fragment

  abbrev FirstWalk : Type 0
  FirstWalk = IsWalked P way.Leads text.level first.view outside_first inside_first (start put first.view) r e

  abbrev outside_second : FirstWalk → Outside
  outside_second w = beside (not backward) (named_items w.inside (whole w.end)) w.end.positions

  abbrev inside_second : FirstWalk → Inside
  inside_second w = record w.inside { name = is.second_name }

  apart_after : (w : FirstWalk) (m n : ℕ) → m ≤ w.end.lig_id → n ≤ second.view.lig_id → w.inside.name m ≡ is.second_name n → (m ≡ 0) × (n ≡ 0)
  apart_after w m n mle nle same = elim (w.extended.names m mle) [
    | inl old ↦ is.names.apart m n old.0 nle (sym old.1 ∙ same)
    | inr new ↦ let low = is.names.late.within n nle in absurd (omega (arith, new, low, same))
  ]

  end_given : (w : FirstWalk) → AreGiven w.end.lig_id (whole w.end)
  end_given w = given_both w.end.lig_id w.end.front w.end.rest w.frames.front w.frames.rest

  second_frames : (w : FirstWalk) → IsFramed (outside_second w) (inside_second w) (start put second.view)
  second_frames w =
      beside_framed (not backward) w.inside is.second_name w.end.lig_id (whole w.end) w.end.positions (start put second.view) (naming_wider is.second_name second.view.lig_id text.view.lig_id w.inside.lig_id w.extended.up is.names.late) tt is.names.late_given w.frames.names (end_given w)
      (λ m n mle nle same. (apart_after w m n mle nle same).1) w.some

  -- the events of the first fragment, and then the rest
  text_events : (w : FirstWalk) → without_concats (r.events text.level) ≡ in_text backward (length second.origins) ours ++ without_concats (w.last.events text.level)
  text_events w = w.events ∙ ap (λ (xs : List Event). xs ++ without_concats (w.last.events text.level)) (events_beside backward (map (with_ligature_renamed is.second_name) second.view.items) (put second.view) (length second.origins) ours others_long)

  first_bounds : (w : FirstWalk) → AreBounded ours (length first.origins)
  first_bounds w = subst (AreBounded ours) (sym is.first_whole.origins) w.bounded

  first_counts : (w : FirstWalk) → count_after ours (length first.origins) ≡ length (whole w.end)
  first_counts w = ap (λ (m : ℕ). count_after ours m) is.first_whole.origins ∙ w.counted

  ours_long : (w : FirstWalk) → length (named_items w.inside (whole w.end)) ≡ count_after ours (length first.origins)
  ours_long w = length-map (whole w.end) (with_ligature_renamed w.inside.name) ∙ sym (first_counts w)

  second_unsafe : (w : FirstWalk) → Binds (outside_second w) (start put second.view) (w.last.events text.level) → IsUnsafeAt c (state_after r text).origins
  second_unsafe w binds =
      unsafe_with_concats text r line c is.origins (subst (λ (xs : List Event). IsUnsafeAt c (origins_after text.asks text.level xs line)) (sym (text_events w))
      (second_is_bound backward text.asks text.level ours (without_concats (w.last.events text.level)) first.origins second.origins c (length second.view.items) (named_items w.inside (whole w.end)) w.end.positions (ours_long w) (sym is.second_whole.origins) is.breaks
      (subst (λ (xs : List Event). IsOrderly text.asks text.level xs line) (text_events w) is.orderly) (subst (λ (xs : List Event). AreLossless xs (length line)) (text_events w) is.lossless) is.cut (first_bounds w) binds))

  -- ---- both

  abbrev SecondWalk : FirstWalk → Type 0
  SecondWalk w = IsWalked P way.Leads text.level second.view (outside_second w) (inside_second w) (start put second.view) w.last l

  -- at the end of the second fragment nothing is left
  last_end : (w : FirstWalk) (x : SecondWalk w) → x.last.view ≡ view_at text.view (framed_cut (outside_second w) x.inside x.end)
  last_end w x = ap (λ (z : Read). z.view) (sym (way.ends (named_items w.inside (whole w.end)) w.end.positions x.inside x.end x.last x.leads))

  text_view : (w : FirstWalk) (x : SecondWalk w) → r.view ≡ view_at text.view (framed_cut (outside_second w) x.inside x.end)
  text_view w x = w.view_is ∙ x.view_is ∙ last_end w x

  text_items : (w : FirstWalk) (x : SecondWalk w) → r.view.items ≡ as_they_stand backward (map (with_ligature_renamed w.inside.name) e.view.items) (map (with_ligature_renamed x.inside.name) l.view.items)
  text_items w x =
      let before = named_items w.inside (whole w.end) in
      ap (λ (v : View). v.items) (text_view w x) ∙ whole_beside (not backward) before w.end.positions x.inside x.end ∙ turned backward before (named_items x.inside (whole x.end))
      ∙ ap (λ (v : View). as_they_stand backward (named_items w.inside v.items) (named_items x.inside (whole x.end))) (sym w.view) ∙ ap (λ (v : View). as_they_stand backward (named_items w.inside e.view.items) (named_items x.inside v.items)) (sym x.view)

  text_positions : (w : FirstWalk) (x : SecondWalk w) → r.view.positions ≡ as_they_stand backward e.view.positions l.view.positions
  text_positions w x =
      ap (λ (v : View). v.positions) (text_view w x) ∙ positions_beside (not backward) (named_items w.inside (whole w.end)) w.end.positions x.inside x.end ∙ turned backward w.end.positions x.end.positions
      ∙ ap (λ (v : View). as_they_stand backward v.positions x.end.positions) (sym w.view) ∙ ap (λ (v : View). as_they_stand backward e.view.positions v.positions) (sym x.view)

  second_events : (w : FirstWalk) (x : SecondWalk w) → without_concats (w.last.events text.level) ≡ in_text (not backward) (count_after ours (length first.origins)) theirs
  second_events w x =
      let before = named_items w.inside (whole w.end) in
      let moved = map (shifted_event (length (outside_second w).before)) theirs in
      x.events ∙ ap (λ (z : Read). moved ++ without_concats (z.events text.level)) (sym (way.ends before w.end.positions x.inside x.end x.last x.leads)) ∙ append-nil moved
      ∙ events_beside (not backward) before w.end.positions (count_after ours (length first.origins)) theirs (ours_long w)

  names_apart : (w : FirstWalk) (x : SecondWalk w) (i j : ℕ) → i ≤ w.end.lig_id → j ≤ x.end.lig_id → w.inside.name i ≡ x.inside.name j → (i ≡ 0) × (j ≡ 0)
  names_apart w x i j ile jle same = elim (x.extended.names j jle) [
    | inl old ↦ apart_after w i j ile old.0 (same ∙ old.1)
    | inr new ↦ let low = w.frames.names.within i ile in absurd (omega (arith, new, low, same))
  ]

  -- names of the numbers that each was given, in the text
  both_named : (w : FirstWalk) (x : SecondWalk w) → AreNamed w.inside.name x.inside.name r.view e.view l.view
  both_named w x =
      let first_number : e.view.lig_id ≡ w.end.lig_id = ap (λ (v : View). v.lig_id) w.view in
      let second_number : l.view.lig_id ≡ x.end.lig_id = ap (λ (v : View). v.lig_id) x.view in
      let text_number : r.view.lig_id ≡ x.inside.lig_id = ap (λ (v : View). v.lig_id) (text_view w x) in
      record {
        early = subst (λ (m : ℕ). IsNaming w.inside.name m r.view.lig_id) (sym first_number) (subst (λ (m : ℕ). IsNaming w.inside.name w.end.lig_id m) (sym text_number) (naming_wider w.inside.name w.end.lig_id w.inside.lig_id x.inside.lig_id x.extended.up w.frames.names));
        late = subst (λ (m : ℕ). IsNaming x.inside.name m r.view.lig_id) (sym second_number) (subst (λ (m : ℕ). IsNaming x.inside.name x.end.lig_id m) (sym text_number) x.frames.names);
        apart = λ i j ile jle same. names_apart w x i j (omega (arith, ile, first_number)) (omega (arith, jle, second_number)) same;
        early_given = subst (λ (v : View). AreGiven v.lig_id v.items) (sym w.view) (end_given w);
        late_given = subst (λ (v : View). AreGiven v.lig_id v.items) (sym x.view) (given_both x.end.lig_id x.end.front x.end.rest x.frames.front x.frames.rest);
      }

  -- what was read of a fragment, walked over in the text
  read_of : (u : BufferState) (o : Outside) (s : Inside) (a b : Read) → IsWhole u → IsWalked P way.Leads text.level u.view o s (start put u.view) a b → IsReadOf P text.level (length u.origins) b
  read_of u o s a b is_whole w =
      let es = without_concats (b.events text.level) in
      let items : b.view.items ≡ whole w.end = ap (λ (v : View). v.items) w.view in
      record {
        outside = o;
        end = w.end;
        placed = w.placed;
        items = items;
        positions = ap (λ (v : View). v.positions) w.view;
        bounded = subst (AreBounded es) (sym is_whole.origins) w.bounded;
        counted = ap (λ (m : ℕ). count_after es m) is_whole.origins ∙ w.counted ∙ ap (λ (xs : List Item). length xs) (sym items);
        some = omega (arith, w.some, ap (λ (xs : List Item). length xs) items);
      }

  line_read : (w : FirstWalk) (x : SecondWalk w) → IsLineRead backward P text.level (length first.origins) (length second.origins) r e l
  line_read w x =
      let direction : text.view.direction ≡ r.view.direction = ap (λ (v : View). v.direction) (sym (text_view w x)) in
      record {
        first_name = w.inside.name;
        second_name = x.inside.name;
        names = both_named w x;
        items = text_items w x;
        positions = text_positions w x;
        events = text_events w ∙ ap (λ (xs : List Event). in_text backward (length second.origins) ours ++ xs) (second_events w x) ∙ events_in_turn backward (length first.origins) (length second.origins) ours theirs;
        first_direction = ap (λ (v : View). v.direction) w.view ∙ is.first_direction ∙ direction;
        second_direction = ap (λ (v : View). v.direction) x.view ∙ is.second_direction ∙ direction;
        first = read_of first outside_first inside_first r e is.first_whole w;
        second = read_of second (outside_second w) (inside_second w) w.last l is.second_whole x;
      }

  pub line_reads : P outside_first (start put first.view) → ((s : Inside) (end : Cut) → IsFramed outside_first s end → P outside_first end → e.view ≡ view_at first.view end → P (beside (not backward) (named_items s (whole end)) end.positions) (start put second.view))
      → way.Alone text.view r → way.Alone first.view e → way.Alone second.view l → IsUnsafeAt c (state_after r text).origins ⊎ IsLineRead backward P text.level (length first.origins) (length second.origins) r e l
  line_reads placed then_placed whole_alone first_alone second_alone =
      elim (way.walks first.view outside_first inside_first r e first_frames placed is.first_some (way.begins first.view is.first_name (map (with_ligature_renamed is.second_name) second.view.items) (put second.view) r is.items is.positions whole_alone) first_alone) [
        | inl binds ↦ inl (first_unsafe binds)
        | inr w ↦ elim (way.walks second.view (outside_second w) (inside_second w) w.last l (second_frames w) (then_placed w.inside w.end w.frames w.placed w.view) is.second_some (way.goes_on second.view is.second_name w.inside w.end w.last w.leads) second_alone) [
          | inl binds ↦ inl (second_unsafe w binds)
          | inr x ↦ inr (line_read w x)
        ]
      ]

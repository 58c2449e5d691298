-- The visual order of a text's glyphs and of its fragments'.
use Rattle.std.proofs.Common.{ℕ, ◌≡◌, ◌≤◌, inl, inr, Bool, true, false, if◌then◌else◌, List, [], ◌∷◌, ◌++◌, length, map, arith, refl, sym, ap, subst, ◌∙◌}
use Rattle.std.specs.Prelude.{reverse}
use Rattle.std.proofs.lemmas.List.{length-reverse, reverse-append}
use Rattle.buffer_common.specs.Direction.{is_backward}
use Rattle.buffer_glyphs.specs.declared.level.BufferClusterLevel.{BufferClusterLevel}
use Rattle.buffer_glyphs.specs.Items.{Item}
use Rattle.buffer_glyphs.specs.LigatureWords.{lig_id}
use Rattle.buffer_glyphs.specs.Events.{IsPlain, Reverse}
use Rattle.buffer_glyphs.specs.Lemmas.EventParts.{origins_keep_numbers}
use Rattle.buffer_parts.specs.Counts.{count_after}
use Rattle.buffer_core.specs.Readings.{View, Read, BufferState, state_after, with_events}
use Rattle.buffer_parts.specs.Breaks.Concat.{SameButConcat}
use Rattle.buffer_parts.specs.Breaks.Divisible.{IsBreakable, StaysDivided}
use Rattle.buffer_parts.specs.Breaks.Fragments.{AreFragments, AreGiven, IsWhole, with_ligature_renamed}
use Rattle.buffer_parts.specs.Breaks.Lossless.{AreLossless}
use Rattle.buffer_parts.proofs.BreakLemmas.Concat.{concat_is_apart}
use Rattle.shape_pipeline.specs.Positioning.{visual_order}
use Rattle.shape_laws.proofs.BreakLemmas.PlainDivision.{IsPlainStage, state_by, state_by_unsafe}
use Rattle.layout_laws.proofs.BreakLemmas.Marks.{given_reverse as given_reversed}
use Rattle.buffer_lists.specs.Lemmas.Picked.{reversed_onto as reversed_end}
use Rattle.shape_laws.proofs.BreakLemmas.Contexts.{map_reverse as map_reversed}

-- the list reversed, where the line is backward
abbrev pub turned_view : Bool → View → Read
turned_view true v = with_events (Reverse ∷ []) (record v { items = reverse v.items; positions = reverse v.positions })
turned_view false v = with_events [] v

order_is : (v : View) → visual_order v ≡ turned_view (is_backward v.direction) v
order_is v = elim (is_backward v.direction) as (λ b. (if b then with_events (Reverse ∷ []) (record v { items = reverse v.items; positions = reverse v.positions }) else with_events [] v) ≡ turned_view b v) [ true ↦ refl | false ↦ refl ]

turned_plain : (b : Bool) (v : View) (level : BufferClusterLevel) → IsPlain ((turned_view b v).events level)
turned_plain true v level = tt
turned_plain false v level = tt

turned_lossless : (b : Bool) (v : View) (level : BufferClusterLevel) (n : ℕ) → AreLossless ((turned_view b v).events level) n
turned_lossless true v level n = (tt, tt)
turned_lossless false v level n = tt

turned_counted : (b : Bool) (v : View) (level : BufferClusterLevel) → count_after ((turned_view b v).events level) (length v.items) ≡ length (turned_view b v).view.items
turned_counted true v level = sym (length-reverse v.items)
turned_counted false v level = refl

turned_positions : (b : Bool) (v : View) → length v.positions ≡ length v.items → length (turned_view b v).view.positions ≡ length (turned_view b v).view.items
turned_positions true v e = length-reverse v.positions ∙ e ∙ sym (length-reverse v.items)
turned_positions false v e = e

pub order_is_plain : IsPlainStage visual_order
order_is_plain = record {
  plain = λ v level. subst (λ (r : Read). IsPlain (r.events level)) (sym (order_is v)) (turned_plain (is_backward v.direction) v level);
  lossless = λ v level. subst (λ (r : Read). AreLossless (r.events level) (length v.items)) (sym (order_is v)) (turned_lossless (is_backward v.direction) v level (length v.items));
  counted = λ v level. subst (λ (r : Read). count_after (r.events level) (length v.items) ≡ length r.view.items) (sym (order_is v)) (turned_counted (is_backward v.direction) v level);
  positions = λ v e. subst (λ (r : Read). length r.view.positions ≡ length r.view.items) (sym (order_is v)) (turned_positions (is_backward v.direction) v e);
}

-- ---- a list and its fragments reversed

abbrev reversed_state : BufferState → BufferState
reversed_state s = record s { view = record s.view { items = reverse s.view.items; positions = reverse s.view.positions }; origins = reverse s.origins }

reversed_whole : (s : BufferState) → IsWhole s → IsWhole (reversed_state s)
reversed_whole s w = record {
  positions = length-reverse s.view.positions ∙ w.positions ∙ sym (length-reverse s.view.items);
  origins = length-reverse s.origins ∙ w.origins ∙ sym (length-reverse s.view.items);
}

reversed_fragments : (c : ℕ) (whole earlier later : BufferState) → AreFragments false c whole earlier later → AreFragments true c (reversed_state whole) (reversed_state earlier) (reversed_state later)
reversed_fragments c whole earlier later j =
    let f = j.early_name in
    let g = j.late_name in
    let xs = earlier.view.items in
    let ys = later.view.items in
    record {
      early_name = f;
      late_name = g;
      names = record {
        early = j.names.early;
        late = j.names.late;
        apart = j.names.apart;
        early_given = given_reversed earlier.view.lig_id xs j.names.early_given;
        late_given = given_reversed later.view.lig_id ys j.names.late_given;
      };
      items = ap reverse j.items ∙ reverse-append (map (with_ligature_renamed f) xs) (map (with_ligature_renamed g) ys)
          ∙ ap (λ zs. zs ++ reverse (map (with_ligature_renamed f) xs)) (sym (map_reversed (with_ligature_renamed g) ys))
          ∙ ap (λ zs. map (with_ligature_renamed g) (reverse ys) ++ zs) (sym (map_reversed (with_ligature_renamed f) xs));
      positions = ap reverse j.positions ∙ reverse-append earlier.view.positions later.view.positions;
      origins = subst (SameButConcat (reverse whole.origins)) (reverse-append earlier.origins later.origins)
          (concat_is_apart whole.asks whole.asks.concat whole.level (Reverse ∷ []) whole.origins (earlier.origins ++ later.origins) j.origins);
      below = λ n h. j.below n (origins_keep_numbers earlier.asks earlier.level (Reverse ∷ []) earlier.origins n h);
      above = λ n h. j.above n (origins_keep_numbers later.asks later.level (Reverse ∷ []) later.origins n h);
      early_some = let some = j.early_some in let many = length-reverse earlier.origins in omega (arith, some, many);
      late_some = let some = j.late_some in let many = length-reverse later.origins in omega (arith, some, many);
      early_whole = reversed_whole earlier j.early_whole;
      late_whole = reversed_whole later j.late_whole;
      early_of = record { direction = j.early_of.direction; level = j.early_of.level; requests = j.early_of.requests };
      late_of = record { direction = j.late_of.direction; level = j.late_of.level; requests = j.late_of.requests };
    }

turned_fragments : (b : Bool) (c : ℕ) (whole earlier later : BufferState) → AreFragments false c whole earlier later → AreFragments b c (state_by (turned_view b) whole) (state_by (turned_view b) earlier) (state_by (turned_view b) later)
turned_fragments true c whole earlier later j = reversed_fragments c whole earlier later j
turned_fragments false c whole earlier later j = j

state_by_as : (b : Bool) (s : BufferState) → is_backward s.view.direction ≡ b → state_by (turned_view b) s ≡ state_by visual_order s
state_by_as b s e =
    ap (λ (t : Bool). state_by (turned_view t) s) (sym e) ∙ ap (λ (r : Read). state_after r s) (sym (order_is s.view))

-- the fragments of a text whose clusters rise: they fall after it where the line is backward
pub order_divides : (c : ℕ) (whole earlier later : BufferState) → IsBreakable whole → StaysDivided false c whole earlier later → StaysDivided (is_backward whole.view.direction) c (state_by visual_order whole) (state_by visual_order earlier) (state_by visual_order later)
order_divides c whole earlier later ready (inl unsafe) = inl (state_by_unsafe visual_order order_is_plain whole c ready unsafe)
order_divides c whole earlier later ready (inr j) =
    let b = is_backward whole.view.direction in
    inr (
    subst (λ (x : BufferState). AreFragments b c x (state_by visual_order earlier) (state_by visual_order later)) (state_by_as b whole refl)
    (subst (λ (x : BufferState). AreFragments b c (state_by (turned_view b) whole) x (state_by visual_order later)) (state_by_as b earlier (ap is_backward j.early_of.direction))
    (subst (λ (x : BufferState). AreFragments b c (state_by (turned_view b) whole) (state_by (turned_view b) earlier) x) (state_by_as b later (ap is_backward j.late_of.direction)) (turned_fragments b c whole earlier later j)))
    )

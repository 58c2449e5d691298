-- The first stages of a text that is broken into two: masks, properties, the first circle, clusters of graphemes.
use Rattle.std.proofs.Common.{ℕ, suc, ◌≡◌, ◌<◌, ◌+◌, ◌⊎◌, inl, inr, Bool, true, false, if◌then◌else◌, nat_le, List, [], ◌∷◌, ◌++◌, length, map, Option, None, Ok, Err, arith, refl, sym, ap, subst, ◌∙◌}
use Rattle.std.proofs.lemmas.List.{length-map, length-append, map-append}
use Rattle.std.proofs.lemmas.Nat.{div-add-mod'}
use Rattle.buffer_common.specs.declared.constants.BufferFlags.{BufferFlags}
use Rattle.buffer_unicode_tables.specs.Tables.{Tables}
use Rattle.buffer_glyphs.specs.declared.cause.ShapeCause.TheVariants.{TooLong}
use Rattle.buffer_glyphs.specs.Items.{Item, item_masked}
use Rattle.buffer_glyphs.specs.Origins.{Origin, numbers, without_marks}
use Rattle.buffer_glyphs.specs.Events.{Circle, IsPlain}
use Rattle.buffer_glyphs.specs.Lemmas.Numbers.{Has}
use Rattle.buffer_parts.specs.Counts.{count_after}
use Rattle.buffer_parts.specs.Lemmas.Counts.{counts_follow}
use Rattle.buffer_parts.specs.Lemmas.Orderly.{plain_is_orderly}
use Rattle.buffer_core.specs.Readings.{View, Read, Reading, BufferState, state_after, with_events}
use Rattle.buffer_core.specs.Sides.{zero_positions}
use Rattle.buffer_parts.specs.Lemmas.Stages.{same_read}
use Rattle.buffer_parts.specs.Breaks.Concat.{SameButConcat}
use Rattle.buffer_parts.specs.Breaks.Fragments.{AreFragments, AreGiven, IsWhole, with_ligature_renamed}
use Rattle.buffer_parts.specs.Breaks.Divisible.{IsBreakable}
use Rattle.buffer_parts.proofs.BreakLemmas.Concat.{same_refl}
use Rattle.buffer_parts.proofs.BreakLemmas.Division.{unnumbered, none_renamed}
use Rattle.buffer_parts.proofs.BreakLemmas.Events.{safe_breaks_stay}
use Rattle.layout_face.specs.declared.parts.FaceParts.{FaceParts}
use Rattle.shape_laws.proofs.BreakLemmas.Circled.{circle_view, circle_if}
use Rattle.shape_laws.proofs.BreakLemmas.Formed.{BeginsGrapheme, ContinuesGrapheme}
use Rattle.shape_text.specs.declared.graphemes.Before.{Before}
use Rattle.shape_text.specs.Graphemes.{continues}
use Rattle.shape_text.specs.Circle.{first_circle, flags_want_circle, needs_circle, with_circle}
use Rattle.shape_text.specs.Masks.{with_one_mask}
use Rattle.shape_text.specs.Properties.{items_prepared, with_properties}
use Rattle.shape_laws.specs.Breaks.Texts.{AreBroken, IsUnplaced}
use Rattle.shape_laws.proofs.BreakLemmas.Prepared.{before_after, before_renamed, first_continues, prepared_alone, prepared_both, prepared_continues, prepared_given, prepared_renamed}
use Rattle.buffer_glyphs.specs.Lemmas.EventParts.{numbers_reset as numbers_unmarked}
use Rattle.shape_parts.proofs.Characters.{circled_many, prepared_many}
use Rattle.script_hangul.proofs.Fits.{some_there as nat_positive}
use Rattle.layout_laws.proofs.BreakLemmas.Passes.{zero_both as zeros_both, zero_long as zeros_many}

-- ---- breakable states

-- plain events that leave a position and an origin for each item leave a breakable state breakable
pub plainly_breakable : (s : BufferState) (r : Read) → IsPlain (r.events s.level) → count_after (r.events s.level) (length s.origins) ≡ length r.view.items → length r.view.positions ≡ length r.view.items → IsBreakable s → IsBreakable (state_after r s)
plainly_breakable s r plain counted positions b = record {
  breaks = safe_breaks_stay s.asks s.level (r.events s.level) s.origins b.breaks (plain_is_orderly s.asks s.level (r.events s.level) s.origins plain);
  whole = record { positions = positions; origins = counts_follow s.asks s.level (r.events s.level) s.origins ∙ counted };
}

-- ---- the first mask

unmarked_alike : (os qs : List Origin) → numbers os ≡ numbers qs → without_marks os ≡ without_marks qs
unmarked_alike [] [] e = refl
unmarked_alike [] (q ∷ qs) e = cc
unmarked_alike (o ∷ os) [] e = cc
unmarked_alike (o ∷ os) (q ∷ qs) e =
    let first : o.cluster ≡ q.cluster = cc in
    let rest : numbers os ≡ numbers qs = cc in
    rw (first, unmarked_alike os qs rest) refl

unmarked_both : (ws os qs : List Origin) → numbers ws ≡ numbers os ++ numbers qs → without_marks ws ≡ without_marks os ++ without_marks qs
unmarked_both ws os qs e =
    unmarked_alike ws (os ++ qs) (e ∙ sym (map-append (λ (o : Origin). o.cluster) os qs)) ∙ map-append (λ (o : Origin). record { cluster = o.cluster; flags = 0 }) os qs

unmarked_many : (os : List Origin) → length (without_marks os) ≡ length os
unmarked_many [] = refl
unmarked_many (o ∷ os) = ap suc (unmarked_many os)

pub masked_given : (last mask : ℕ) (xs : List Item) → AreGiven last xs → AreGiven last (map (item_masked mask) xs)
masked_given last mask [] h = tt
masked_given last mask (x ∷ xs) h = (h.0, masked_given last mask xs h.1)

-- the state of a text whose limits are set and whose glyphs have one mask
abbrev pub masked_state : ℕ → BufferState → BufferState
masked_state mask s = state_after (with_one_mask mask s.view) s

masked_whole : (mask : ℕ) (s : BufferState) → IsWhole s → IsWhole (masked_state mask s)
masked_whole mask s w = record {
  positions = w.positions ∙ sym (length-map s.view.items (item_masked mask));
  origins = unmarked_many s.origins ∙ w.origins ∙ sym (length-map s.view.items (item_masked mask));
}

-- where no ligature number was given, the first mask makes fragments of the texts that a text is broken into
pub masked_fragments : (mask c : ℕ) (whole earlier later : BufferState) → AreBroken c whole earlier later → whole.view.lig_id ≡ 0 → earlier.view.lig_id ≡ 0 → later.view.lig_id ≡ 0
    → AreFragments false c (masked_state mask whole) (masked_state mask earlier) (masked_state mask later)
masked_fragments mask c whole earlier later b w e l =
    let xs = map (item_masked mask) earlier.view.items in
    let ys = map (item_masked mask) later.view.items in
    let early_some = b.early_some in
    let late_some = b.late_some in
    let early_many : length (without_marks earlier.origins) ≡ length earlier.origins = unmarked_many earlier.origins in
    let late_many : length (without_marks later.origins) ≡ length later.origins = unmarked_many later.origins in
    record {
      early_name = λ n. n;
      late_name = λ n. n;
      names = unnumbered (masked_state mask whole).view (masked_state mask earlier).view (masked_state mask later).view w e l (masked_given 0 mask earlier.view.items b.early_unnumbered) (masked_given 0 mask later.view.items b.late_unnumbered);
      items = ap (map (item_masked mask)) b.items ∙ map-append (item_masked mask) earlier.view.items later.view.items ∙ ap (λ zs. zs ++ ys) (sym (none_renamed xs)) ∙ ap (λ zs. map (with_ligature_renamed (λ n. n)) xs ++ zs) (sym (none_renamed ys));
      positions = broken_positions;
      origins = subst (λ (os : List Origin). SameButConcat os (without_marks earlier.origins ++ without_marks later.origins)) (sym (unmarked_both whole.origins earlier.origins later.origins b.clusters)) (same_refl (without_marks earlier.origins ++ without_marks later.origins));
      below = λ n h. b.below n (subst (λ (ns : List ℕ). Has ns n) (numbers_unmarked earlier.origins) h);
      above = λ n h. b.above n (subst (λ (ns : List ℕ). Has ns n) (numbers_unmarked later.origins) h);
      early_some = omega (arith, early_some, early_many);
      late_some = omega (arith, late_some, late_many);
      early_whole = masked_whole mask earlier b.early_whole;
      late_whole = masked_whole mask later b.late_whole;
      early_of = record { direction = b.early_of.direction; level = b.early_of.level; requests = b.early_of.requests };
      late_of = record { direction = b.late_of.direction; level = b.late_of.level; requests = b.late_of.requests };
    }
  where
    broken_positions : whole.view.positions ≡ earlier.view.positions ++ later.view.positions
    broken_positions =
        let count : length whole.view.items ≡ length earlier.view.items + length later.view.items = ap length b.items ∙ length-append earlier.view.items later.view.items in
        b.unplaced ∙ ap zero_positions count ∙ zeros_both (length earlier.view.items) (length later.view.items) ∙ ap (λ ps. ps ++ zero_positions (length later.view.items)) (sym b.early_unplaced) ∙ ap (λ ps. earlier.view.positions ++ ps) (sym b.late_unplaced)

pub masked_breakable : (mask : ℕ) (s : BufferState) → IsBreakable s → IsBreakable (masked_state mask s)
masked_breakable mask s b = plainly_breakable s (with_one_mask mask s.view) tt (b.whole.origins ∙ sym (length-map s.view.items (item_masked mask))) (b.whole.positions ∙ sym (length-map s.view.items (item_masked mask))) b

-- ---- properties

-- the state of a text whose characters have their properties
abbrev pub prepared_state : Tables → BufferState → BufferState
prepared_state t s = state_after (with_properties t s.view) s

pub prepared_breakable : (t : Tables) (s : BufferState) → IsBreakable s → IsBreakable (prepared_state t s)
prepared_breakable t s b = plainly_breakable s (with_properties t s.view) tt (b.whole.origins ∙ sym (prepared_many t None s.view.items)) (b.whole.positions ∙ sym (prepared_many t None s.view.items)) b

prepared_whole : (t : Tables) (s : BufferState) → IsWhole s → IsWhole (prepared_state t s)
prepared_whole t s w = record { positions = w.positions ∙ sym (prepared_many t None s.view.items); origins = w.origins ∙ sym (prepared_many t None s.view.items) }

-- the items of a text of two fragments with their properties
prepared_line : (t : Tables) (f g : ℕ → ℕ) (xs ys : List Item) → items_prepared t None (map (with_ligature_renamed f) xs ++ map (with_ligature_renamed g) ys)
    ≡ map (with_ligature_renamed f) (items_prepared t None xs) ++ map (with_ligature_renamed g) (items_prepared t (before_after t None xs) ys)
prepared_line t f g xs ys =
    prepared_both t None (map (with_ligature_renamed f) xs) (map (with_ligature_renamed g) ys)
    ∙ ap (λ b. items_prepared t None (map (with_ligature_renamed f) xs) ++ items_prepared t b (map (with_ligature_renamed g) ys)) (before_renamed t None f xs)
    ∙ ap (λ zs. zs ++ items_prepared t (before_after t None xs) (map (with_ligature_renamed g) ys)) (prepared_renamed t None f xs)
    ∙ ap (λ zs. map (with_ligature_renamed f) (items_prepared t None xs) ++ zs) (prepared_renamed t (before_after t None xs) g ys)

-- where the later fragment continues no grapheme, its properties are those that it has in the whole
pub prepared_fragments : (t : Tables) (c : ℕ) (whole earlier later : BufferState) → AreFragments false c whole earlier later → first_continues t (before_after t None earlier.view.items) later.view.items ≡ false
    → AreFragments false c (prepared_state t whole) (prepared_state t earlier) (prepared_state t later)
prepared_fragments t c whole earlier later j begins = record {
  early_name = j.early_name;
  late_name = j.late_name;
  names = record {
    early = j.names.early;
    late = j.names.late;
    apart = j.names.apart;
    early_given = prepared_given t None earlier.view.lig_id earlier.view.items j.names.early_given;
    late_given = prepared_given t None later.view.lig_id later.view.items j.names.late_given;
  };
  items = ap (items_prepared t None) j.items ∙ prepared_line t j.early_name j.late_name earlier.view.items later.view.items
      ∙ ap (λ zs. map (with_ligature_renamed j.early_name) (items_prepared t None earlier.view.items) ++ map (with_ligature_renamed j.late_name) zs) (prepared_alone t (before_after t None earlier.view.items) later.view.items begins);
  positions = j.positions;
  origins = j.origins;
  below = j.below;
  above = j.above;
  early_some = j.early_some;
  late_some = j.late_some;
  early_whole = prepared_whole t earlier j.early_whole;
  late_whole = prepared_whole t later j.late_whole;
  early_of = record { direction = j.early_of.direction; level = j.early_of.level; requests = j.early_of.requests };
  late_of = record { direction = j.late_of.direction; level = j.late_of.level; requests = j.late_of.requests };
}

-- the later fragment as it is in the whole, after the earlier one
abbrev pub properties_after : Tables → BufferState → BufferState → BufferState
properties_after t earlier later = record later { view = record later.view { items = items_prepared t (before_after t None earlier.view.items) later.view.items } }

-- the properties of the later fragment in the whole are of a fragment, though not of that one
pub prepared_beside : (t : Tables) (c : ℕ) (whole earlier later : BufferState) → AreFragments false c whole earlier later → AreFragments false c (prepared_state t whole) (prepared_state t earlier) (properties_after t earlier later)
prepared_beside t c whole earlier later j =
    let b = before_after t None earlier.view.items in
    record {
      early_name = j.early_name;
      late_name = j.late_name;
      names = record {
        early = j.names.early;
        late = j.names.late;
        apart = j.names.apart;
        early_given = prepared_given t None earlier.view.lig_id earlier.view.items j.names.early_given;
        late_given = prepared_given t b later.view.lig_id later.view.items j.names.late_given;
      };
      items = ap (items_prepared t None) j.items ∙ prepared_line t j.early_name j.late_name earlier.view.items later.view.items;
      positions = j.positions;
      origins = j.origins;
      below = j.below;
      above = j.above;
      early_some = j.early_some;
      late_some = j.late_some;
      early_whole = prepared_whole t earlier j.early_whole;
      late_whole = record { positions = j.late_whole.positions ∙ sym (prepared_many t b later.view.items); origins = j.late_whole.origins ∙ sym (prepared_many t b later.view.items) };
      early_of = record { direction = j.early_of.direction; level = j.early_of.level; requests = j.early_of.requests };
      late_of = record { direction = j.late_of.direction; level = j.late_of.level; requests = j.late_of.requests };
    }

-- ---- the first circle

-- a text gets a circle as another does
pub same_need : (t : Tables) (font : FaceParts) (flags flags1 : BufferFlags) (context : List ℕ) (name late_name : ℕ → ℕ) (xs ys : List Item) → flags_want_circle flags1 ≡ flags_want_circle flags → 0 < length xs
    → needs_circle flags context font (map (with_ligature_renamed name) xs ++ map (with_ligature_renamed late_name) ys) ≡ needs_circle flags1 context font xs
same_need t font flags flags1 context f g [] ys e some = absurd (omega (arith, some))
same_need t font flags flags1 context f g (x ∷ xs) ys e some = rw e refl

-- what the stage of the first circle reads, where it is known whether the text gets one
pub circle_read : (t : Tables) (font : FaceParts) (flags : BufferFlags) (context : List ℕ) (v : View) (r : Read) (b : Bool) → needs_circle flags context font v.items ≡ b → first_circle t font flags context v ≡ Ok r → circle_if b t v ≡ r
circle_read t font flags context v r b needs e = by_test b needs (subst (λ (c : Bool). ◌≡◌ {A = Reading} (if c then with_circle t v else Ok (with_events [] v)) (Ok r)) needs e)
  where
    by_test : (c : Bool) → needs_circle flags context font v.items ≡ c → ◌≡◌ {A = Reading} (if c then with_circle t v else Ok (with_events [] v)) (Ok r) → circle_if c t v ≡ r
    by_test true n f = by_room (nat_le (length v.items + 1) v.max_len) f
      where
        by_room : (c : Bool) → ◌≡◌ {A = Reading} (if c then Ok (with_events (Circle false 0 0 ∷ []) (circle_view t v)) else Err TooLong) (Ok r) → circle_if true t v ≡ r
        by_room true g = same_read (with_events (Circle false 0 0 ∷ []) (circle_view t v)) r g
        by_room false g = cc
    by_test false n f = same_read (with_events [] v) r f

-- the state of a text that got a circle, or got none
abbrev pub circled_state : Bool → Tables → BufferState → BufferState
circled_state b t s = state_after (circle_if b t s.view) s

pub circled_breakable : (b : Bool) (t : Tables) (s : BufferState) → 0 < length s.view.items → IsBreakable s → IsBreakable (circled_state b t s)
circled_breakable false t s some b = plainly_breakable s (with_events [] s.view) tt b.whole.origins b.whole.positions b
circled_breakable true t s some b =
    let more = circled_many t s.view.items some in
    let many = b.whole.origins in
    plainly_breakable s (circle_if true t s.view) tt
    (ap (λ (c : Bool). if c then length s.origins + 1 else length s.origins) (nat_positive (length s.origins) (omega (arith, some, many))) ∙ omega (arith, many, more))
    (zeros_many (length s.view.items + 1) ∙ sym more) b

-- ---- clusters

-- a text whose graphemes are known is divided where its later fragment begins a grapheme; else a fragment beside the
-- earlier one continues a grapheme
abbrev pub IsSeamed : ℕ → BufferState → BufferState → BufferState → Type 0
IsSeamed c whole earlier later =
    (AreFragments false c whole earlier later × BeginsGrapheme later.view.items)
    ⊎ ((beside : BufferState) × AreFragments false c whole earlier beside × ContinuesGrapheme beside.view.items × IsUnplaced beside)

begins_after : (t : Tables) (before : Option Before) (ys : List Item) → first_continues t before ys ≡ false → BeginsGrapheme (items_prepared t None ys)
begins_after t before [] e = tt
begins_after t before (y ∷ ys) e =
    subst (λ zs. BeginsGrapheme zs) (prepared_alone t before (y ∷ ys) e) (prepared_continues t (continues t before y.number) y ∙ e)

continues_after : (t : Tables) (before : Option Before) (ys : List Item) → first_continues t before ys ≡ true → ContinuesGrapheme (items_prepared t before ys)
continues_after t before [] e = cc
continues_after t before (y ∷ ys) e = prepared_continues t (continues t before y.number) y ∙ e

pub prepared_seamed : (t : Tables) (c : ℕ) (whole earlier later : BufferState) → AreFragments false c whole earlier later → IsUnplaced later → IsSeamed c (prepared_state t whole) (prepared_state t earlier) (prepared_state t later)
prepared_seamed t c whole earlier later j unplaced = by_test (first_continues t b ys) refl
  where
    b : Option Before
    b = before_after t None earlier.view.items

    ys : List Item
    ys = later.view.items

    by_test : (d : Bool) → first_continues t b ys ≡ d → IsSeamed c (prepared_state t whole) (prepared_state t earlier) (prepared_state t later)
    by_test false e = inl (prepared_fragments t c whole earlier later j e, begins_after t b ys e)
    by_test true e = inr (properties_after t earlier later, prepared_beside t c whole earlier later j, continues_after t b ys e, unplaced ∙ ap zero_positions (sym (prepared_many t b ys)))

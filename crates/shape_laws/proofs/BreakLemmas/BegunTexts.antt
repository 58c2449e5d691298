-- A text that is broken into two, after the first pipeline stage.
use Rattle.std.proofs.Common.{ℕ, ◌≡◌, ◌<◌, ◌+◌, ◌⊎◌, inl, inr, Bool, true, false, if◌then◌else◌, List, [], ◌∷◌, length, map, Option, None, Ok, arith, refl, sym, ap, subst, ◌∙◌}
use Rattle.std.proofs.lemmas.List.{length-map, length-append}
use Rattle.buffer_common.specs.declared.constants.BufferFlags.{BufferFlags}
use Rattle.buffer_common.specs.declared.script.Script.{Script}
use Rattle.buffer_unicode_tables.specs.Tables.{Tables}
use Rattle.buffer_glyphs.specs.declared.level.BufferClusterLevel.{BufferClusterLevel}
use Rattle.buffer_glyphs.specs.Items.{Item, item_masked}
use Rattle.buffer_core.specs.Sides.{zero_positions}
use Rattle.buffer_glyphs.specs.Origins.{Origin}
use Rattle.buffer_glyphs.specs.Events.{IsPlain}
use Rattle.buffer_glyphs.specs.Lemmas.Origins.{origins_after_both}
use Rattle.buffer_parts.specs.Counts.{count_after}
use Rattle.buffer_parts.specs.Lemmas.Orderly.{plain_is_orderly}
use Rattle.buffer_parts.specs.Lemmas.Plainly.{steady_count, steady_plain}
use Rattle.buffer_core.specs.Readings.{View, Read, Stage, BufferState, always, and_then, as_it_is, state_after, then_read, with_events}
use Rattle.buffer_stages.specs.Stages.{with_items_mapped}
use Rattle.buffer_parts.specs.Lemmas.Stages.{both_read, same_read}
use Rattle.buffer_parts.specs.Breaks.Unsafe.{IsUnsafeAt}
use Rattle.buffer_parts.specs.Breaks.Lossless.{AreLossless}
use Rattle.buffer_parts.specs.Breaks.Fragments.{AreFragments, AreGiven}
use Rattle.buffer_parts.specs.Breaks.Divisible.{IsBreakable, IsFreelyDivisible, StaysDivided}
use Rattle.buffer_parts.proofs.BreakLemmas.Division.{items_are_divisible}
use Rattle.buffer_parts.proofs.BreakLemmas.Events.{unsafe_stays}
use Rattle.layout_face.specs.declared.parts.FaceParts.{FaceParts}
use Rattle.shape_text.specs.Circle.{first_circle, flags_want_circle, needs_circle}
use Rattle.shape_text.specs.Clusters.{grapheme_events, grapheme_lengths, has_non_ascii, with_clusters}
use Rattle.shape_text.specs.Graphemes.{is_extender}
use Rattle.shape_text.specs.Masks.{with_one_mask}
use Rattle.shape_text.specs.NativeOrder.{is_number_text, native_order, reversed_text, without_continuation}
use Rattle.shape_text.specs.Properties.{items_prepared, with_properties}
use Rattle.shape_pipeline.specs.Chains.{in_order}
use Rattle.shape_pipeline.specs.Limits.{initial_view}
use Rattle.shape_laws.specs.Breaks.Texts.{AreBroken, IsKnown, IsNativeLine, IsUnplaced, KnowsGraphemes}
use Rattle.shape_laws.proofs.BreakLemmas.Prepared.{prepared_continues, prepared_given}
use Rattle.shape_laws.proofs.BreakLemmas.GraphemeEvents.{events_lossless}
use Rattle.shape_laws.proofs.BreakLemmas.Circled.{circled_given, circle_if, circles_divide}
use Rattle.shape_laws.proofs.BreakLemmas.Formed.{BeginsGrapheme, clusters_divide, clusters_unsafe}
use Rattle.shape_laws.proofs.BreakLemmas.Begun.{IsSeamed, circle_read, circled_breakable, circled_state, masked_breakable, masked_fragments, masked_given, masked_state, plainly_breakable, prepared_breakable, prepared_seamed, prepared_state, same_need}
use Rattle.shape_parts.proofs.Characters.{prepared_many, graphemes_steady as events_steady}

-- ---- stages one after another, on a state

-- what a stage and those after it leave of a state
pub record AreDone (first rest : Stage) (s : BufferState) (r : Read) : Type 0 where
  pub once : Read
  pub again : Read
  pub once_is : first s.view ≡ Ok once
  pub again_is : rest once.view ≡ Ok again
  pub both : state_after r s ≡ state_after again (state_after once s)

pub stages_done : (first rest : Stage) (s : BufferState) (r : Read) → and_then (first s.view) rest ≡ Ok r → AreDone first rest s r
stages_done first rest s r e =
    let two = both_read (first s.view) rest r e in
    record {
      once = two.first;
      again = two.second;
      once_is = two.first_is;
      again_is = two.second_is;
      both = sym (ap (λ (x : Read). state_after x s) two.both)
          ∙ ap (λ (os : List Origin). record { view = two.second.view; origins = os; level = s.level; asks = s.asks }) (origins_after_both s.asks s.level (two.first.events s.level) (two.second.events s.level) s.origins);
    }

-- what a stage that never refuses, and those after it, leave of a state
pub record IsDoneThen (f : View → Read) (rest : Stage) (s : BufferState) (r : Read) : Type 0 where
  pub again : Read
  pub again_is : rest (f s.view).view ≡ Ok again
  pub both : state_after r s ≡ state_after again (state_after (f s.view) s)

pub always_done : (f : View → Read) (rest : Stage) (s : BufferState) (r : Read) → and_then (always f s.view) rest ≡ Ok r → IsDoneThen f rest s r
always_done f rest s r e =
    let two = stages_done (always f) rest s r e in
    let is = same_read (f s.view) two.once two.once_is in
    record {
      again = two.again;
      again_is = subst (λ (x : Read). rest x.view ≡ Ok two.again) (sym is) two.again_is;
      both = two.both ∙ ap (λ (x : Read). state_after two.again (state_after x s)) (sym is);
    }

pub last_done : (f : View → Read) (s : BufferState) (r : Read) → in_order (always f ∷ []) s.view ≡ Ok r → state_after r s ≡ state_after (f s.view) s
last_done f s r e =
    let two = always_done f as_it_is s r e in
    two.both ∙ ap (λ (x : Read). state_after x (state_after (f s.view) s)) (sym (same_read (with_events [] (f s.view).view) two.again two.again_is))

-- ---- clusters

clusters_plain : (level : BufferClusterLevel) (v : View) → IsPlain ((with_clusters v).events level)
clusters_plain level v = by_test (has_non_ascii v.scratch_flags)
  where
    by_test : (b : Bool) → IsPlain (if b then grapheme_events level 0 (grapheme_lengths v.items) else [])
    by_test true = steady_plain (grapheme_events level 0 (grapheme_lengths v.items)) (events_steady level 0 (grapheme_lengths v.items))
    by_test false = tt

clusters_lossless : (level : BufferClusterLevel) (v : View) (n : ℕ) → AreLossless ((with_clusters v).events level) n
clusters_lossless level v n = by_test (has_non_ascii v.scratch_flags)
  where
    by_test : (b : Bool) → AreLossless (if b then grapheme_events level 0 (grapheme_lengths v.items) else []) n
    by_test true = events_lossless level 0 (grapheme_lengths v.items) n
    by_test false = tt

clusters_count : (level : BufferClusterLevel) (v : View) (n : ℕ) → count_after ((with_clusters v).events level) n ≡ n
clusters_count level v n = by_test (has_non_ascii v.scratch_flags)
  where
    by_test : (b : Bool) → count_after (if b then grapheme_events level 0 (grapheme_lengths v.items) else []) n ≡ n
    by_test true = steady_count n (grapheme_events level 0 (grapheme_lengths v.items)) (events_steady level 0 (grapheme_lengths v.items))
    by_test false = refl

-- the state of a text with clusters of graphemes
abbrev pub formed_state : BufferState → BufferState
formed_state s = state_after (with_clusters s.view) s

formed_breakable : (s : BufferState) → IsBreakable s → IsBreakable (formed_state s)
formed_breakable s b = plainly_breakable s (with_clusters s.view) (clusters_plain s.level s.view) (clusters_count s.level s.view (length s.origins) ∙ b.whole.origins) b.whole.positions b

formed_keeps : (c : ℕ) (s : BufferState) → IsBreakable s → IsUnsafeAt c s.origins → IsUnsafeAt c (formed_state s).origins
formed_keeps c s b u =
    let es = (with_clusters s.view).events s.level in
    unsafe_stays s.asks s.level es s.origins c b.breaks (plain_is_orderly s.asks s.level es s.origins (clusters_plain s.level s.view)) (clusters_lossless s.level s.view (length s.origins)) u

seam_formed : (c : ℕ) (whole earlier later : BufferState) → IsBreakable whole → IsKnown whole.view → IsKnown earlier.view → IsKnown later.view → IsUnsafeAt c whole.origins ⊎ IsSeamed c whole earlier later
    → StaysDivided false c (formed_state whole) (formed_state earlier) (formed_state later)
seam_formed c whole earlier later b w e l (inl unsafe) = inl (formed_keeps c whole b unsafe)
seam_formed c whole earlier later b w e l (inr (inl apart)) = clusters_divide c whole earlier later b apart.0 w e l apart.1
seam_formed c whole earlier later b w e l (inr (inr across)) = inl (clusters_unsafe c whole earlier across.0 b across.1 w across.2)

-- ---- the first circle

seam_circled : (b : Bool) (t : Tables) (c : ℕ) (whole earlier later : BufferState) → IsBreakable whole → IsUnplaced whole → IsUnplaced earlier → IsUnplaced later → IsSeamed c whole earlier later → IsUnsafeAt c (circled_state b t whole).origins ⊎ IsSeamed c (circled_state b t whole) (circled_state b t earlier) later
seam_circled b t c whole earlier later ready w e l (inl apart) = elim (circles_divide b t c whole earlier later ready apart.0 w e l) [
  | inl unsafe ↦ inl unsafe
  | inr again ↦ inr (inl (again, apart.1))
]
seam_circled b t c whole earlier later ready w e l (inr across) = elim (circles_divide b t c whole earlier across.0 ready across.1 w e across.3) [
  | inl unsafe ↦ inl unsafe
  | inr again ↦ inr (inr (across.0, again, across.2, across.3))
]

-- ---- the order of the script

-- the state of a text in its script's direction
abbrev pub native_state : Option Script → BufferState → BufferState
native_state script s = state_after (native_order script s.view) s

native_is : (script : Option Script) (s : BufferState) → IsNativeLine script s.view.direction → native_state script s ≡ state_after (with_items_mapped without_continuation s.view) s
native_is script s native =
    ap (λ (b : Bool). state_after (then_read (if b then reversed_text s.view else with_events [] s.view) (with_items_mapped without_continuation (if b then reversed_text s.view else with_events [] s.view).view)) s) (native (is_number_text s.view.items))

unmarked_divides : IsFreelyDivisible false false (always (with_items_mapped without_continuation)) (always (with_items_mapped without_continuation)) (always (with_items_mapped without_continuation))
unmarked_divides = items_are_divisible false without_continuation (λ n x. refl)

native_breakable : (script : Option Script) (s : BufferState) → IsNativeLine script s.view.direction → IsBreakable s → IsBreakable (native_state script s)
native_breakable script s native b = subst IsBreakable (sym (native_is script s native)) (unmarked_divides.breakable s (with_items_mapped without_continuation s.view) refl b)

native_divide : (script : Option Script) (c : ℕ) (whole earlier later : BufferState) → IsBreakable whole → IsNativeLine script whole.view.direction → StaysDivided false c whole earlier later
    → StaysDivided false c (native_state script whole) (native_state script earlier) (native_state script later)
native_divide script c whole earlier later b native (inl unsafe) =
    inl (subst (λ (s : BufferState). IsUnsafeAt c s.origins) (sym (native_is script whole native)) (unmarked_divides.unsafe whole (with_items_mapped without_continuation whole.view) c refl b unsafe))
native_divide script c whole earlier later b native (inr j) =
    let early = native_is script earlier (subst (IsNativeLine script) (sym j.early_of.direction) native) in
    let late = native_is script later (subst (IsNativeLine script) (sym j.late_of.direction) native) in
    subst (λ (s : BufferState). StaysDivided false c s (native_state script earlier) (native_state script later)) (sym (native_is script whole native))
    (subst (λ (s : BufferState). StaysDivided false c (state_after (with_items_mapped without_continuation whole.view) whole) s (native_state script later)) (sym early)
    (subst (λ (s : BufferState). StaysDivided false c (state_after (with_items_mapped without_continuation whole.view) whole) (state_after (with_items_mapped without_continuation earlier.view) earlier) s) (sym late)
    (unmarked_divides.divides c whole earlier later (with_items_mapped without_continuation whole.view) (with_items_mapped without_continuation earlier.view) (with_items_mapped without_continuation later.view) b j refl refl refl)))

-- ---- the first pipeline stage

-- the first pipeline stage, by what it is done with
abbrev pub begun_stage : ℕ → Tables → FaceParts → BufferFlags → List ℕ → Option Script → Stage
begun_stage mask t font flags context script = in_order (
    always initial_view ∷
    always (with_one_mask mask) ∷
    always (with_properties t) ∷
    first_circle t font flags context ∷
    always with_clusters ∷
    always (native_order script) ∷
    [])

-- the state of a text whose limits are set
abbrev pub limited_state : BufferState → BufferState
limited_state s = state_after (initial_view s.view) s

-- what the first pipeline stage leaves of a state, by what the first circle reads
record IsBegun (mask : ℕ) (t : Tables) (font : FaceParts) (flags : BufferFlags) (context : List ℕ) (script : Option Script) (s : BufferState) (r : Read) : Type 0 where
  circle : Read
  circle_is : first_circle t font flags context (prepared_state t (masked_state mask (limited_state s))).view ≡ Ok circle
  both : state_after r s ≡ native_state script (formed_state (state_after circle (prepared_state t (masked_state mask (limited_state s)))))

begun_done : (mask : ℕ) (t : Tables) (font : FaceParts) (flags : BufferFlags) (context : List ℕ) (script : Option Script) (s : BufferState) (r : Read) → begun_stage mask t font flags context script s.view ≡ Ok r → IsBegun mask t font flags context script s r
begun_done mask t font flags context script s r e =
    let last = in_order (always (native_order script) ∷ []) in
    let from_clusters = in_order (always with_clusters ∷ always (native_order script) ∷ []) in
    let from_circle = in_order (first_circle t font flags context ∷ always with_clusters ∷ always (native_order script) ∷ []) in
    let from_properties = in_order (always (with_properties t) ∷ first_circle t font flags context ∷ always with_clusters ∷ always (native_order script) ∷ []) in
    let from_masks = in_order (always (with_one_mask mask) ∷ always (with_properties t) ∷ first_circle t font flags context ∷ always with_clusters ∷ always (native_order script) ∷ []) in
    let one = always_done initial_view from_masks s r e in
    let two = always_done (with_one_mask mask) from_properties (limited_state s) one.again one.again_is in
    let three = always_done (with_properties t) from_circle (masked_state mask (limited_state s)) two.again two.again_is in
    let prepared = prepared_state t (masked_state mask (limited_state s)) in
    let four = stages_done (first_circle t font flags context) from_clusters prepared three.again three.again_is in
    let circled = state_after four.once prepared in
    let five = always_done with_clusters last circled four.again four.again_is in
    record {
      circle = four.once;
      circle_is = four.once_is;
      both = one.both ∙ two.both ∙ three.both ∙ four.both ∙ five.both ∙ last_done (native_order script) (formed_state circled) five.again five.again_is;
    }

limited_breakable : (s : BufferState) → IsBreakable s → IsBreakable (limited_state s)
limited_breakable s b = record { breaks = b.breaks; whole = record { positions = b.whole.positions; origins = b.whole.origins } }

limited_broken : (c : ℕ) (whole earlier later : BufferState) → AreBroken c whole earlier later → AreBroken c (limited_state whole) (limited_state earlier) (limited_state later)
limited_broken c whole earlier later b = record {
  items = b.items;
  clusters = b.clusters;
  below = b.below;
  above = b.above;
  early_some = b.early_some;
  late_some = b.late_some;
  early_unnumbered = b.early_unnumbered;
  late_unnumbered = b.late_unnumbered;
  unplaced = b.unplaced;
  early_unplaced = b.early_unplaced;
  late_unplaced = b.late_unplaced;
  early_whole = record { positions = b.early_whole.positions; origins = b.early_whole.origins };
  late_whole = record { positions = b.late_whole.positions; origins = b.late_whole.origins };
  early_of = record { direction = b.early_of.direction; level = b.early_of.level; requests = b.early_of.requests };
  late_of = record { direction = b.late_of.direction; level = b.late_of.level; requests = b.late_of.requests };
}

prepared_unplaced : (mask : ℕ) (t : Tables) (s : BufferState) → IsUnplaced s → IsUnplaced (prepared_state t (masked_state mask (limited_state s)))
prepared_unplaced mask t s u = u ∙ ap zero_positions (sym (length-map s.view.items (item_masked mask)) ∙ sym (prepared_many t None (map (item_masked mask) s.view.items)))

-- a text begins with a character that continues no grapheme
abbrev pub BeginsCluster : List Item → Type 0
BeginsCluster [] = Unit {0}
BeginsCluster (y ∷ ys) = is_extender y.number ≡ false

-- a text that is broken into two, after the first pipeline stage
pub record AreBegun (c : ℕ) (whole earlier later : BufferState) (r e l : Read) : Type 0 where
  pub breakable : IsBreakable (state_after r whole)
  pub divided : StaysDivided false c (state_after r whole) (state_after e earlier) (state_after l later)
  pub begins : IsUnsafeAt c (state_after r whole).origins ⊎ BeginsCluster later.view.items

begins_cluster : (t : Tables) (mask : ℕ) (ys : List Item) → BeginsGrapheme (items_prepared t None (map (item_masked mask) ys)) → BeginsCluster ys
begins_cluster t mask [] h = tt
begins_cluster t mask (y ∷ ys) h = sym (prepared_continues t (is_extender y.number) (item_masked mask y)) ∙ h

seam_begins : (c : ℕ) (whole earlier later : BufferState) → IsBreakable whole → IsKnown whole.view → IsUnsafeAt c whole.origins ⊎ IsSeamed c whole earlier later → IsUnsafeAt c (formed_state whole).origins ⊎ BeginsGrapheme later.view.items
seam_begins c whole earlier later b w (inl unsafe) = inl (formed_keeps c whole b unsafe)
seam_begins c whole earlier later b w (inr (inl apart)) = inr apart.1
seam_begins c whole earlier later b w (inr (inr across)) = inl (clusters_unsafe c whole earlier across.0 b across.1 w across.2)

native_unsafe : (script : Option Script) (c : ℕ) (whole : BufferState) → IsBreakable whole → IsNativeLine script whole.view.direction → IsUnsafeAt c whole.origins → IsUnsafeAt c (native_state script whole).origins
native_unsafe script c whole b native unsafe =
    subst (λ (s : BufferState). IsUnsafeAt c s.origins) (sym (native_is script whole native)) (unmarked_divides.unsafe whole (with_items_mapped without_continuation whole.view) c refl b unsafe)

pub begun_divide : (mask : ℕ) (t : Tables) (font : FaceParts) (script : Option Script) (flags flags1 flags2 : BufferFlags) (context context2 : List ℕ) (c : ℕ) (whole earlier later : BufferState) (r e l : Read) → KnowsGraphemes t
    → IsBreakable whole → AreBroken c whole earlier later → IsNativeLine script whole.view.direction → flags_want_circle flags1 ≡ flags_want_circle flags → flags_want_circle flags2 ≡ false
    → begun_stage mask t font flags context script whole.view ≡ Ok r → begun_stage mask t font flags1 context script earlier.view ≡ Ok e → begun_stage mask t font flags2 context2 script later.view ≡ Ok l → AreBegun c whole earlier later r e l
begun_divide mask t font script flags flags1 flags2 context context2 c whole earlier later r e l knows ready broken native same none is_r is_e is_l =
    let w3 = prepared_state t (masked_state mask (limited_state whole)) in
    let e3 = prepared_state t (masked_state mask (limited_state earlier)) in
    let l3 = prepared_state t (masked_state mask (limited_state later)) in
    let rr = begun_done mask t font flags context script whole r is_r in
    let ee = begun_done mask t font flags1 context script earlier e is_e in
    let ll = begun_done mask t font flags2 context2 script later l is_l in
    let m = masked_fragments mask c (limited_state whole) (limited_state earlier) (limited_state later) (limited_broken c whole earlier later broken) refl refl refl in
    let b3 = prepared_breakable t (masked_state mask (limited_state whole)) (masked_breakable mask (limited_state whole) (limited_breakable whole ready)) in
    let some : 0 < length e3.view.items = some_prepared in
    let un = prepared_unplaced mask t later broken.late_unplaced in
    let seamed = prepared_seamed t c (masked_state mask (limited_state whole)) (masked_state mask (limited_state earlier)) (masked_state mask (limited_state later)) m (broken.late_unplaced ∙ ap zero_positions (sym (length-map later.view.items (item_masked mask)))) in
    let need = needs_circle flags context font w3.view.items in
    let early_needs : needs_circle flags1 context font e3.view.items ≡ need = sym (by_seam seamed) in
    let w_circled = circle_read t font flags context w3.view rr.circle need refl rr.circle_is in
    let e_circled = circle_read t font flags1 context e3.view ee.circle need early_needs ee.circle_is in
    let l_circled = circle_read t font flags2 context2 l3.view ll.circle false (none_needed l3.view.items) ll.circle_is in
    let w4 = circled_state need t w3 in
    let e4 = circled_state need t e3 in
    let known_w = subst (λ (x : Read). IsKnown x.view) (sym w_circled) (knows font flags context (masked_state mask (limited_state whole)).view rr.circle rr.circle_is) in
    let known_e = subst (λ (x : Read). IsKnown x.view) (sym e_circled) (knows font flags1 context (masked_state mask (limited_state earlier)).view ee.circle ee.circle_is) in
    let known_l = subst (λ (x : Read). IsKnown x.view) (sym l_circled) (knows font flags2 context2 (masked_state mask (limited_state later)).view ll.circle ll.circle_is) in
    let b4 = circled_breakable need t w3 whole_some b3 in
    let circles = seam_circled need t c w3 e3 l3 b3 (prepared_unplaced mask t whole broken.unplaced) (prepared_unplaced mask t earlier broken.early_unplaced) un seamed in
    let formed = seam_formed c w4 e4 l3 b4 known_w known_e known_l circles in
    let line : IsNativeLine script (formed_state w4).view.direction = subst (IsNativeLine script) (sym (circled_direction need w3)) native in
    let done = native_divide script c (formed_state w4) (formed_state e4) (formed_state l3) (formed_breakable w4 b4) line formed in
    let w_is : native_state script (formed_state w4) ≡ state_after r whole = ap (λ (x : Read). native_state script (formed_state (state_after x w3))) w_circled ∙ sym rr.both in
    let e_is : native_state script (formed_state e4) ≡ state_after e earlier = ap (λ (x : Read). native_state script (formed_state (state_after x e3))) e_circled ∙ sym ee.both in
    let l_is : native_state script (formed_state l3) ≡ state_after l later = ap (λ (x : Read). native_state script (formed_state (state_after x l3))) l_circled ∙ sym ll.both in
    record {
      breakable = subst IsBreakable w_is (native_breakable script (formed_state w4) line (formed_breakable w4 b4));
      divided = subst (λ (s : BufferState). StaysDivided false c s (state_after e earlier) (state_after l later)) w_is
          (subst (λ (s : BufferState). StaysDivided false c (native_state script (formed_state w4)) s (state_after l later)) e_is
          (subst (λ (s : BufferState). StaysDivided false c (native_state script (formed_state w4)) (native_state script (formed_state e4)) s) l_is done));
      begins = elim (seam_begins c w4 e4 l3 b4 known_w circles) [
        | inl unsafe ↦ inl (subst (λ (s : BufferState). IsUnsafeAt c s.origins) w_is (native_unsafe script c (formed_state w4) (formed_breakable w4 b4) line unsafe))
        | inr begins ↦ inr (begins_cluster t mask later.view.items begins)
      ];
    }
  where
    early : BufferState
    early = prepared_state t (masked_state mask (limited_state earlier))

    whole3 : BufferState
    whole3 = prepared_state t (masked_state mask (limited_state whole))

    many_prepared : (s : BufferState) → length (prepared_state t (masked_state mask (limited_state s))).view.items ≡ length s.view.items
    many_prepared s = prepared_many t None (map (item_masked mask) s.view.items) ∙ length-map s.view.items (item_masked mask)

    some_prepared : 0 < length early.view.items
    some_prepared = let many = many_prepared earlier in let count = broken.early_whole.origins in let some = broken.early_some in omega (arith, many, count, some)

    whole_some : 0 < length whole3.view.items
    whole_some =
        let many = many_prepared whole in
        let sum : length whole.view.items ≡ length earlier.view.items + length later.view.items = ap length broken.items ∙ length-append earlier.view.items later.view.items in
        let count = broken.early_whole.origins in
        let some = broken.early_some in
        omega (arith, many, sum, count, some)

    by_line : (beside : BufferState) → AreFragments false c whole3 early beside → needs_circle flags context font whole3.view.items ≡ needs_circle flags1 context font early.view.items
    by_line beside j = ap (needs_circle flags context font) j.items ∙ same_need t font flags flags1 context j.early_name j.late_name early.view.items beside.view.items same some_prepared

    by_seam : IsSeamed c whole3 early (prepared_state t (masked_state mask (limited_state later))) → needs_circle flags context font whole3.view.items ≡ needs_circle flags1 context font early.view.items
    by_seam (inl apart) = by_line (prepared_state t (masked_state mask (limited_state later))) apart.0
    by_seam (inr across) = by_line across.0 across.1

    none_needed : (xs : List Item) → needs_circle flags2 context2 font xs ≡ false
    none_needed xs = rw none refl

    circled_direction : (b : Bool) (s : BufferState) → (circled_state b t s).view.direction ≡ s.view.direction
    circled_direction true s = refl
    circled_direction false s = refl

-- ---- one text

mapped_given : (xs : List Item) → AreGiven 0 xs → AreGiven 0 (map without_continuation xs)
mapped_given [] h = tt
mapped_given (x ∷ xs) h = (h.0, mapped_given xs h.1)

-- after the first pipeline stage a text without ligature numbers has none
pub begun_unnumbered : (mask : ℕ) (t : Tables) (font : FaceParts) (script : Option Script) (flags : BufferFlags) (context : List ℕ) (s : BufferState) (r : Read) → IsNativeLine script s.view.direction → AreGiven 0 s.view.items → begun_stage mask t font flags context script s.view ≡ Ok r
    → (r.view.lig_id ≡ 0) × AreGiven 0 r.view.items
begun_unnumbered mask t font script flags context s r native given is =
    let s3 = prepared_state t (masked_state mask (limited_state s)) in
    let q = begun_done mask t font flags context script s r is in
    let need = needs_circle flags context font s3.view.items in
    let circled = circle_read t font flags context s3.view q.circle need refl q.circle_is in
    let s4 = circled_state need t s3 in
    let line : IsNativeLine script (formed_state s4).view.direction = subst (IsNativeLine script) (sym (same_direction need)) native in
    let all : state_after r s ≡ state_after (with_items_mapped without_continuation (formed_state s4).view) (formed_state s4) = q.both ∙ ap (λ (x : Read). native_state script (formed_state (state_after x s3))) (sym circled) ∙ native_is script (formed_state s4) line in (
      ap (λ (x : BufferState). x.view.lig_id) all ∙ no_number need,
      subst (λ (x : BufferState). AreGiven 0 x.view.items) (sym all) (mapped_given s4.view.items (circle_given need (prepared_given t None 0 (map (item_masked mask) s.view.items) (masked_given 0 mask s.view.items given)))),
    )
  where
    s2 : BufferState
    s2 = prepared_state t (masked_state mask (limited_state s))

    same_direction : (b : Bool) → (circled_state b t s2).view.direction ≡ s.view.direction
    same_direction true = refl
    same_direction false = refl

    no_number : (b : Bool) → (circled_state b t s2).view.lig_id ≡ 0
    no_number true = refl
    no_number false = refl

    circle_given : (b : Bool) → AreGiven 0 s2.view.items → AreGiven 0 (circled_state b t s2).view.items
    circle_given true h = circled_given t 0 s2.view.items h
    circle_given false h = h

-- the items that the first pipeline stage leaves of a text
pub begun_items : (mask : ℕ) (t : Tables) (font : FaceParts) (script : Option Script) (flags : BufferFlags) (context : List ℕ) (s : BufferState) (r : Read) → IsNativeLine script s.view.direction → begun_stage mask t font flags context script s.view ≡ Ok r
    → (state_after r s).view.items ≡ map without_continuation (circle_if (needs_circle flags context font (items_prepared t None (map (item_masked mask) s.view.items))) t (prepared_state t (masked_state mask (limited_state s))).view).view.items
begun_items mask t font script flags context s r native is =
    let s3 = prepared_state t (masked_state mask (limited_state s)) in
    let q = begun_done mask t font flags context script s r is in
    let need = needs_circle flags context font s3.view.items in
    let circled = circle_read t font flags context s3.view q.circle need refl q.circle_is in
    let s4 = circled_state need t s3 in
    let line : IsNativeLine script (formed_state s4).view.direction = subst (IsNativeLine script) (sym (same_direction need)) native in
    ap (λ (x : BufferState). x.view.items) (q.both ∙ ap (λ (x : Read). native_state script (formed_state (state_after x s3))) (sym circled) ∙ native_is script (formed_state s4) line)
  where
    same_direction : (b : Bool) → (circled_state b t (prepared_state t (masked_state mask (limited_state s)))).view.direction ≡ s.view.direction
    same_direction true = refl
    same_direction false = refl

-- What a reversal of groups, a sort and deletions in place do to items and positions, and the origins of the glyphs.
use Rattle.std.specs.Prelude.{slice_range}
use Rattle.std.specs.Global.{Vec}
use Rattle.std.proofs.Common.{ℕ, ◌≡◌, ◌≤◌, Bool, false, [], ◌∷◌, ◌++◌, length, map, min, take, drop, refl, ap, ◌∙◌}
use Rattle.std.proofs.lemmas.List.{take-append-drop, length-take-le}
use Rattle.buffer_glyphs.specs.declared.info.hb_glyph_info_t.{hb_glyph_info_t as Glyph}
use Rattle.buffer_glyphs.specs.declared.position.GlyphPosition.{GlyphPosition}
use Rattle.buffer_lists.specs.declared.order.ClusterOrder.{ClusterOrder}
use Rattle.buffer_core.specs.declared.buffer.hb_buffer_t.TheInside.{Inside}
use Rattle.buffer_core.specs.Inside.{sides_of}
use Rattle.buffer_core.specs.Merging.{with_has_glyph_flags}
use Rattle.buffer_lists.specs.Lemmas.GroupsTurned.{turned_plain}
use Rattle.buffer_glyphs.specs.Items.{Item, item_of, strip}
use Rattle.buffer_glyphs.specs.Origins.{origins}
use Rattle.buffer_glyphs.specs.Events.{Sort}
use Rattle.buffer_lists.specs.Events.{deletions, groups_reversed, order_of}
use Rattle.buffer_lists.proofs.Lemmas.DeletedEvents.{deletions_are_events}
use Rattle.buffer_lists.proofs.Lemmas.ReversedEvents.{groups_are_events}
use Rattle.buffer_lists.proofs.Lemmas.SortedEvents.{sort_is_event}
use Rattle.buffer_rows.specs.KeyOrder.{key_order}
use Rattle.buffer_lists.specs.DeletionWalk.{whole_walk}
use Rattle.buffer_lists.specs.Facts.{items_kept, positions_kept, positions_turned}
use Rattle.buffer_lists.specs.Sorting.{range_sorted}
use Rattle.buffer_lists.specs.Turning.{groups_reversed_list, turning_of}
use Rattle.buffer_lists.proofs.Lemmas.KeptItems.{items_all, positions_all}
use Rattle.buffer_lists.proofs.Lemmas.Regrouped.{items_turned, positions_beside}
use Rattle.buffer_lists.proofs.Lemmas.SortedItems.{items_sorted}
use Rattle.buffer_core.specs.Grouping.{with_groups_reversed, with_picked_deleted}
use Rattle.buffer_core.specs.Sides.{Sides, all_glyphs, flag_requests_of, items_of, origins_by, origins_of, requests_breaks}
use Rattle.buffer_core.specs.Sorting.{with_range_sorted}

all_turned : (merge : Bool) (joins : Glyph → Glyph → Bool) (s : Sides) → all_glyphs (with_groups_reversed merge joins s) ≡ (turning_of merge s.level joins (all_glyphs s) s.positions).glyphs
all_turned merge joins s = take-append-drop s.read (turning_of merge s.level joins (all_glyphs s) s.positions).glyphs

pub groups_items : (merge : Bool) (q : Item → Item → Bool) (s : Sides) → items_of (with_groups_reversed merge (λ g h. q (item_of g) (item_of h)) s) ≡ groups_reversed_list q (items_of s)
groups_items merge q s = ap strip (all_turned merge (λ g h. q (item_of g) (item_of h)) s) ∙ items_turned merge s.level q (all_glyphs s) s.positions

pub groups_positions : (merge : Bool) (q : Item → Item → Bool) (s : Sides) → (with_groups_reversed merge (λ g h. q (item_of g) (item_of h)) s).positions ≡ positions_turned q (items_of s) s.positions
groups_positions merge q s = positions_beside merge s.level q (all_glyphs s) s.positions

pub groups_origins : (merge : Bool) (q : Item → Item → Bool) (s : Sides) → origins_of (with_groups_reversed merge (λ g h. q (item_of g) (item_of h)) s) ≡ origins_by (groups_reversed merge q (items_of s)) s
groups_origins merge q s = ap origins (all_turned merge (λ g h. q (item_of g) (item_of h)) s) ∙ groups_are_events (flag_requests_of s) merge s.level q (all_glyphs s) s.positions

pub all_picked : (goes : Glyph → Bool) (s : Sides) → all_glyphs (with_picked_deleted goes s) ≡ (whole_walk (requests_breaks s) s.level goes (all_glyphs s) s.positions).kept
all_picked goes s = let gs = (whole_walk (requests_breaks s) s.level goes (all_glyphs s) s.positions).kept in take-append-drop (min s.read (length gs)) gs

pub picked_items : (q : Item → Bool) (s : Sides) → items_of (with_picked_deleted (λ g. q (item_of g)) s) ≡ items_kept q (items_of s)
picked_items q s = ap strip (all_picked (λ g. q (item_of g)) s) ∙ items_all (requests_breaks s) s.level q (all_glyphs s) s.positions

pub picked_positions : (q : Item → Bool) (s : Sides) → (with_picked_deleted (λ g. q (item_of g)) s).positions ≡ positions_kept q (items_of s) s.positions
picked_positions q s = positions_all (requests_breaks s) s.level q (all_glyphs s) s.positions

pub picked_origins : (q : Item → Bool) (s : Sides) → origins_of (with_picked_deleted (λ g. q (item_of g)) s) ≡ origins_by (deletions q (items_of s)) s
picked_origins q s = ap origins (all_picked (λ g. q (item_of g)) s) ∙ deletions_are_events (flag_requests_of s) s.level q (all_glyphs s) s.positions

all_sorted : (start end : ℕ) (k : Glyph → ℕ) (s : Sides) → all_glyphs (with_range_sorted start end k s) ≡ (range_sorted s.level start end k (all_glyphs s)).glyphs
all_sorted start end k s = take-append-drop (length s.behind) (range_sorted s.level start end k (all_glyphs s)).glyphs

pub sorted_items : (start end : ℕ) (k : Item → ℕ) (s : Sides) → items_of (with_range_sorted start end (λ g. k (item_of g)) s) ≡ take start (items_of s) ++ key_order k (slice_range (items_of s) start end) ++ drop end (items_of s)
sorted_items start end k s = ap strip (all_sorted start end (λ g. k (item_of g)) s) ∙ items_sorted s.level start end k (all_glyphs s)

pub sorted_origins : (start end : ℕ) (k : Item → ℕ) (s : Sides) → start ≤ end → end ≤ length (all_glyphs s) → origins_of (with_range_sorted start end (λ g. k (item_of g)) s) ≡ origins_by (Sort start (order_of (map k (slice_range (items_of s) start end))) ∷ []) s
sorted_origins start end k s le within = ap origins (all_sorted start end (λ g. k (item_of g)) s) ∙ sort_is_event (flag_requests_of s) s.level start end k (all_glyphs s) le within

-- both vectors, with the groups reversed
pub grouped_view : (merge : Bool) (joins : Glyph → Glyph → Bool) (b : Inside) (info : Vec Glyph) (positions : Vec GlyphPosition) (order : ClusterOrder) (flags : ℕ) → b.have_output ≡ false
    → info.items ≡ (turning_of merge b.cluster_level joins b.info.items b.pos.items).glyphs → positions.items ≡ (turning_of merge b.cluster_level joins b.info.items b.pos.items).positions
    → flags ≡ with_has_glyph_flags (turning_of merge b.cluster_level joins b.info.items b.pos.items).is_marked b.scratch_flags
    → sides_of (record b { info = info; pos = positions; scratch_flags = flags; order = order }) ≡ with_groups_reversed merge joins (sides_of b)
grouped_view merge joins b info positions order flags h i p f = rw (h, take-append-drop b.idx b.info.items, i, p, f) refl

pub groups_plain : (merge : Bool) (joins : Glyph → Glyph → Bool) (s : Sides) → merge ≡ false → all_glyphs (with_groups_reversed merge joins s) ≡ groups_reversed_list joins (all_glyphs s)
groups_plain merge joins s off = all_turned merge joins s ∙ ap (λ t. (turning_of t s.level joins (all_glyphs s) s.positions).glyphs) off ∙ turned_plain s.level joins (all_glyphs s) s.positions

-- the vector of glyphs, with a range in order
pub sorted_view : (b : Inside) (info : Vec Glyph) (order : ClusterOrder) (start end : ℕ) (k : Glyph → ℕ) (flags : ℕ) → b.have_output ≡ false → b.idx ≤ length b.info.items
    → info.items ≡ (range_sorted b.cluster_level start end k b.info.items).glyphs → flags ≡ with_has_glyph_flags (range_sorted b.cluster_level start end k b.info.items).is_marked b.scratch_flags
    → sides_of (record b { info = info; scratch_flags = flags; order = order }) ≡ with_range_sorted start end k (sides_of b)
sorted_view b info order start end k flags h le i f = rw (h, take-append-drop b.idx b.info.items, length-take-le b.idx b.info.items le, i, f) refl

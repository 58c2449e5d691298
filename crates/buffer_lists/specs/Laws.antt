-- Laws of deletions, groups and walks.
use Rattle.std.specs.Prelude.{ℕ, ◌≡◌, ◌≤◌, ◌↔◌, Bool, true, IsTrue, List, [], ◌∷◌, ◌++◌, length, map, take, drop, reverse, slice_range}
use Rattle.std.specs.List.{All, flat_map}
use Rattle.buffer_glyphs.specs.declared.info.hb_glyph_info_t.{hb_glyph_info_t}
use Rattle.buffer_glyphs.specs.declared.level.BufferClusterLevel.{BufferClusterLevel}
use Rattle.buffer_glyphs.specs.Items.{Item, Position, item_of, strip}
use Rattle.buffer_glyphs.specs.Origins.{Asks, origins, origins_deleted}
use Rattle.buffer_glyphs.specs.Events.{Sort, origins_after, IsPlain}
use Rattle.buffer_glyphs.specs.Deleting.{glyphs_deleted}
use Rattle.buffer_lists.specs.Turning.{groups, groups_reversed_list, turning_of}
use Rattle.buffer_lists.specs.DeletionWalk.{whole_walk}
use Rattle.buffer_lists.specs.Events.{deletions, groups_reversed, order_of}
use Rattle.buffer_lists.specs.Sorting.{is_seam, indices_by_key, range_sorted}

-- the deletion of the first glyph after others leaves the origins that the event `Delete` leaves
abbrev pub DeletionIsEvent : Type 0
DeletionIsEvent = (level : BufferClusterLevel) (front : List hb_glyph_info_t) (g : hb_glyph_info_t) (back : List hb_glyph_info_t) → let left = glyphs_deleted level front g back in
    origins (left.front ++ left.back) ≡ origins_deleted level (length front) (origins (front ++ g ∷ back))

-- a deletion changes no other item
abbrev pub DeletesOneItem : Type 0
DeletesOneItem = (level : BufferClusterLevel) (front : List hb_glyph_info_t) (g : hb_glyph_info_t) (back : List hb_glyph_info_t)
    → (strip (glyphs_deleted level front g back).front ≡ strip front) × (strip (glyphs_deleted level front g back).back ≡ strip back)

-- a list cut into pieces of given lengths
abbrev pub pieces_of_lengths : {X : Type 0} → List ℕ → List X → List (List X)
pieces_of_lengths [] xs = []
pieces_of_lengths (n ∷ ns) xs = take n xs ∷ pieces_of_lengths ns (drop n xs)

-- the groups of a list, one after another, are the list
abbrev pub GroupsAreAll : Type 0
GroupsAreAll = (joins : hb_glyph_info_t → hb_glyph_info_t → Bool) (gs : List hb_glyph_info_t) → flat_map (λ hs. hs) (groups joins gs) ≡ gs

-- a reversal of groups gives the groups, the last first, each in its own order
abbrev pub TurnsGroups : Type 0
TurnsGroups = (joins : hb_glyph_info_t → hb_glyph_info_t → Bool) (gs : List hb_glyph_info_t) → let turned = reverse (groups joins gs) in pieces_of_lengths (map (λ hs. length hs) turned) (groups_reversed_list joins gs) ≡ turned

-- an index is a seam of the order by a key exactly where no glyph before it has a greater key than one from it on
abbrev pub SeamParts : Type 0
SeamParts = (k : hb_glyph_info_t → ℕ) (gs : List hb_glyph_info_t) (i : ℕ) → i ≤ length gs → let order = indices_by_key k gs in IsTrue (is_seam order i) ↔ All (λ g. All (λ h. k g ≤ k h) (drop i gs)) (take i gs)

-- deletions in place are events, one for each deleted glyph
abbrev pub DeletionsAreEvents : Type 0
DeletionsAreEvents = (asks : Asks) (level : BufferClusterLevel) (q : Item → Bool) (gs : List hb_glyph_info_t) (ps : List Position) → origins (whole_walk asks.breaks level (λ g. q (item_of g)) gs ps).kept ≡ origins_after asks level (deletions q (strip gs)) (origins gs)

-- a reversal of groups is a list of events, one for each group and one for the list
abbrev pub GroupsAreEvents : Type 0
GroupsAreEvents = (asks : Asks) (merge : Bool) (level : BufferClusterLevel) (q : Item → Item → Bool) (gs : List hb_glyph_info_t) (ps : List Position)
    → origins (turning_of merge level (λ g h. q (item_of g) (item_of h)) gs ps).glyphs ≡ origins_after asks level (groups_reversed merge q (strip gs)) (origins gs)

-- a sort of a range is one event
abbrev pub SortIsEvent : Type 0
SortIsEvent = (asks : Asks) (level : BufferClusterLevel) (start end : ℕ) (k : Item → ℕ) (gs : List hb_glyph_info_t) → start ≤ end → end ≤ length gs
    → origins (range_sorted level start end (λ g. k (item_of g)) gs).glyphs ≡ origins_after asks level (Sort start (order_of (map k (slice_range (strip gs) start end))) ∷ []) (origins gs)

-- none of these events permutes glyphs without a merge, except a reversal of groups that does not merge them
abbrev pub EventsArePlain : Type 0
EventsArePlain = (q : Item → Bool) (joins : Item → Item → Bool) (xs : List Item) (at : ℕ) (keys : List ℕ) → IsPlain (deletions q xs) × IsPlain (groups_reversed true joins xs) × IsPlain (Sort at (order_of keys) ∷ [])

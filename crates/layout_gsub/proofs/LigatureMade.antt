-- A ligature that was made of its components.
use Rattle.std.proofs.Common.{ℕ, zero, suc, ◌≡◌, ◌≤◌, ◌<◌, ◌+◌, ◌-◌, ◌==◌, ◌||◌, ◌&&◌, not, true, false, nat_le, Bool, if◌then◌else◌, List, [], ◌∷◌, ◌++◌, length, map, take, drop, refl, sym, ap, ◌∙◌, arith, append_assoc, Some, slice_get}
use Rattle.std.specs.Prelude.{slice_range}
use Rattle.std.proofs.lemmas.List.{map-append, length-append, length-map, take-append-drop}
use Rattle.std.proofs.lemmas.Bool.Decides.{nat_tests}
use Rattle.buffer_glyphs.specs.declared.cause.ShapeCause.{ShapeCause}
use Rattle.buffer_glyphs.specs.declared.cause.ShapeCause.TheVariants.{TooLong}
use Rattle.buffer_glyphs.specs.declared.info.hb_glyph_info_t.{hb_glyph_info_t}
use Rattle.buffer_glyphs.specs.Items.{Item, item_of, strip, clusters}
use Rattle.buffer_glyphs.specs.Levels.{InList}
use Rattle.buffer_glyphs.specs.Origins.{origin_of, origins}
use Rattle.buffer_glyphs.specs.Glyphs.{glyphs_merged_at, is_marked_at}
use Rattle.buffer_glyphs.specs.Events.{Event, Merge}
use Rattle.buffer_core.specs.Sides.{Sides, all_glyphs, items_of, origins_of, origins_by}
use Rattle.buffer_core.specs.Merging.{index_in_all, with_merged}
use Rattle.buffer_core.specs.Settings.{next_lig_id, with_lig_id}
use Rattle.layout_face.specs.declared.parts.GlyphDefinition.{GlyphDefinition}
use Rattle.buffer_glyphs.specs.LigatureWords.{lig_comp, lig_id, lig_num_comps, ligature_word}
use Rattle.buffer_stages.specs.Actions.{Cut, Acts, Refuses}
use Rattle.buffer_stages.specs.Buffers.{cut_of, are_glyphs, frame_of, HasHappened}
use Rattle.buffer_stages.specs.Performing.{cut_with, IsPerformed}
use Rattle.buffer_stages.proofs.Lemmas.Attempts.{cut_with_glyphs}
use Rattle.buffer_stages.proofs.Lemmas.Frames.{then_happened, still_settings, still_limit}
use Rattle.buffer_stages.proofs.Lemmas.Glyphs.{all_of_both, all_of_front, all_of_back, all_taken, all_dropped}
use Rattle.layout_gsub.specs.Ligating.{after_components, are_marks, component_count, following_items, items_at, last_given, last_index, ligature_substitution, ligature_category, ligature_item, ligature_props, own_number, component_deletions, passed_item, passed_items, has_own_number, components_at, with_component}
use Rattle.layout_gsub.specs.Uniting.{AreUnited, IsMerged, IsRenumbered, end_of}
use Rattle.layout_gsub.proofs.Replaced.{acts_within, refuses_past}
use Rattle.buffer_stages.proofs.Reversed.{got_strip as item_at}
use Rattle.buffer_facts.proofs.Truth.{and_true as and_both}

-- ---- a merge

merged_same : (from to : ℕ) (s : Sides) → items_of (with_merged from to s) ≡ items_of s → cut_of (with_merged from to s) ≡ cut_of s
merged_same from to s items =
    let gs = glyphs_merged_at s.level from to (all_glyphs s) in
    cut_with_glyphs (is_marked_at s.level from to (clusters (all_glyphs s))) gs s (ap strip (sym (take-append-drop (length s.behind) gs)) ∙ items)

pub components_merged : (end start : ℕ) (s new : Sides) → start ≡ s.read → new ≡ with_merged (index_in_all start s) (index_in_all (start + end) s) s → items_of new ≡ items_of s → origins_of new ≡ origins_by (Merge InList (index_in_all start s) (index_in_all (start + end) s) ∷ []) s → IsMerged end s.lig_id s new
components_merged end start s new here is items happened =
    let from : index_in_all start s ≡ length s.behind = omega (arith, here) in
    let to : index_in_all (start + end) s ≡ length s.behind + end = omega (arith, here) in
    let i = index_in_all start s in
    let j = index_in_all (start + end) s in
    record {
      cut_is = ap cut_of is ∙ merged_same i j s (ap items_of (sym is) ∙ items);
      happened = happened ∙ ap (λ n. origins_by (Merge InList n j ∷ []) s) from ∙ ap (λ n. origins_by (Merge InList (length s.behind) n ∷ []) s) to;
      still = ap frame_of is;
      read = ap (λ (t : Sides). t.read) is;
    }

pub number_given : (end id : ℕ) (s mid new : Sides) → IsMerged end s.lig_id s mid → new ≡ with_lig_id id mid → IsMerged end id s new
number_given end id s mid new m is = record {
  cut_is = ap cut_of is ∙ ap (λ (c : Cut). record c { lig_id = id }) m.cut_is;
  happened = ap origins_of is ∙ m.happened;
  still = ap frame_of is ∙ m.still;
  read = ap (λ (t : Sides). t.read) is ∙ m.read;
}

-- ---- numbers

passed_small : (b : Bool) (id e o : ℕ) (xs : List Item) → are_glyphs (map (passed_item b id e o) xs) ≡ are_glyphs xs
passed_small true id e o [] = refl
passed_small false id e o [] = refl
passed_small true id e o (x ∷ xs) = ap (λ q. nat_le x.number 65535 && q) (passed_small true id e o xs)
passed_small false id e o (x ∷ xs) = ap (λ q. nat_le x.number 65535 && q) (passed_small false id e o xs)

between_small : (b : Bool) (id e o from : ℕ) (places : List ℕ) (xs : List Item) → are_glyphs xs ≡ true → are_glyphs (passed_items b id e o from places xs) ≡ true
between_small b id e o from [] xs h = refl
between_small b id e o from (i ∷ places) xs h =
    let p : Item → Bool = λ x. nat_le x.number 65535 in
    let c = components_at i xs in
    all_of_both p (map (passed_item b id e o) (slice_range xs from i)) (passed_items b id (e + c) c (i + 1) places xs) (passed_small b id e o (slice_range xs from i) ∙ all_taken p (i - from) (drop from xs) (all_dropped p from xs h)) (between_small b id (e + c) c (i + 1) places xs h)

one_small : (b : Bool) (id last e o : ℕ) (x : Item) (xs : List Item) → are_glyphs (following_items id last e o xs) ≡ are_glyphs xs → are_glyphs (if b then with_component id e o x ∷ following_items id last e o xs else x ∷ xs) ≡ are_glyphs (x ∷ xs)
one_small true id last e o x xs h = ap (λ q. nat_le x.number 65535 && q) h
one_small false id last e o x xs h = refl

following_small : (id last e o : ℕ) (xs : List Item) → are_glyphs (following_items id last e o xs) ≡ are_glyphs xs
following_small id last e o [] = refl
following_small id last e o (x ∷ xs) = one_small ((lig_id x == last) && not (lig_comp x == 0)) id last e o x xs (following_small id last e o xs)

pub after_small : (b : Bool) (id last e o : ℕ) (xs : List Item) → are_glyphs (if b then xs else following_items id last e o xs) ≡ are_glyphs xs
after_small true id last e o xs = refl
after_small false id last e o xs = following_small id last e o xs

-- ---- what is left of the buffer

pub last_ends : (i : ℕ) (places : List ℕ) → last_index (i ∷ places) + 1 ≡ end_of (i + 1) places
last_ends i [] = refl
last_ends i (j ∷ places) = last_ends j places

-- what a search for components and the walk over them leave is what the rule says
pub ligature_made : (gdef : GlyphDefinition) (glyph end r : ℕ) (others : List ℕ) (x : Item) (passed ahead : List Item) (s a b new : Sides) (g : hb_glyph_info_t) → glyph ≤ 65535 → end ≡ end_of 1 others → end ≤ length s.ahead → slice_get a.ahead 0 ≡ Some g
    → IsMerged end (last_given (items_at (0 ∷ others) (strip s.ahead)) s.lig_id) s a
    → x ≡ ligature_item gdef glyph (items_at (0 ∷ others) (strip s.ahead)) (own_number (items_at (0 ∷ others) (strip s.ahead)) s.lig_id) (item_of g)
    → passed ≡ passed_items (has_own_number (items_at (0 ∷ others) (strip s.ahead))) (own_number (items_at (0 ∷ others) (strip s.ahead)) s.lig_id) (components_at 0 (strip s.ahead)) (components_at 0 (strip s.ahead)) 1 others (strip s.ahead)
    → AreUnited x passed others a b
    → ahead ≡ after_components (items_at (0 ∷ others) (strip s.ahead)) (own_number (items_at (0 ∷ others) (strip s.ahead)) s.lig_id) (slice_get (strip s.ahead) (last_index (0 ∷ others))) (strip b.ahead)
    → (are_glyphs (strip b.ahead) ≡ true → are_glyphs ahead ≡ true)
    → IsRenumbered ahead b new
    → IsPerformed (ligature_substitution gdef glyph (0 ∷ others) end (cut_with r s)) true r r s new
ligature_made gdef glyph end r others x passed ahead s a b new g small ends le at m first is-passed u is-ahead kept f =
    let c = cut_with r s in
    let xs = strip s.ahead in
    let ps = items_at (0 ∷ others) xs in
    let id = own_number ps s.lig_id in
    let last = last_ends 0 others in
    let forth : 0 < end = omega (arith, last, ends) in
    let front-a : strip a.behind ≡ strip s.behind = ap (λ (t : Cut). t.front) m.cut_is in
    let rest-a : strip a.ahead ≡ xs = ap (λ (t : Cut). t.rest) m.cut_is in
    let long-a : length a.behind ≡ length s.behind = sym (length-map a.behind item_of) ∙ ap length front-a ∙ length-map s.behind item_of in
    let ahead-a : length a.ahead ≡ length s.ahead = sym (length-map a.ahead item_of) ∙ ap length rest-a ∙ length-map s.ahead item_of in
    let first-list : x ∷ [] ≡ map (ligature_item gdef glyph ps id) (take 1 xs) = ap (λ y. y ∷ []) first ∙ taken_first (ligature_item gdef glyph ps id) a.ahead g at ∙ ap (λ ys. map (ligature_item gdef glyph ps id) (take 1 ys)) rest-a in
    let real = passed_items (has_own_number ps) id (components_at 0 xs) (components_at 0 xs) 1 others xs in
    let front : strip new.behind ≡ (strip s.behind ++ map (ligature_item gdef glyph ps id) (take 1 xs)) ++ real =
    ap (λ (t : Sides). strip t.behind) f.others ∙ u.items ∙ ap (λ ys. ys ++ x ∷ passed) front-a ∙ sym (append_assoc (strip s.behind) (x ∷ []) passed) ∙ ap (λ ys. (strip s.behind ++ ys) ++ passed) first-list ∙ ap (λ ys. (strip s.behind ++ map (ligature_item gdef glyph ps id) (take 1 xs)) ++ ys) is-passed in
    let left : strip b.ahead ≡ drop end xs = u.ahead ∙ ap (λ ys. drop (end_of 1 others) ys) rest-a ∙ ap (λ n. drop n xs) (sym ends) in
    let rest : strip new.ahead ≡ after_components ps id (slice_get xs (last_index (0 ∷ others))) (drop end xs) = f.items ∙ is-ahead ∙ ap (after_components ps id (slice_get xs (last_index (0 ∷ others)))) left in
    let given = last_given ps s.lig_id in
    let cut-new : cut_with r new ≡ record (cut_with r a) { front = strip new.behind; rest = strip new.ahead } = ap (λ (t : Sides). record (cut_with r t) { front = strip new.behind; rest = strip new.ahead }) (f.others ∙ ap (λ (t : Sides). record t { ahead = new.ahead }) u.others) in
    let cut : cut_with r new ≡ record c { front = (strip s.behind ++ map (ligature_item gdef glyph ps id) (take 1 xs)) ++ real; rest = after_components ps id (slice_get xs (last_index (0 ∷ others))) (drop end xs); lig_id = given } =
    cut-new ∙ ap (λ (t : Cut). record t { front = strip new.behind; rest = strip new.ahead; random = r }) m.cut_is ∙ ap (λ (ys : List Item). record c { front = ys; rest = strip new.ahead; lig_id = given }) front
    ∙ ap (λ (ys : List Item). record c { front = (strip s.behind ++ map (ligature_item gdef glyph ps id) (take 1 xs)) ++ real; rest = ys; lig_id = given }) rest in
    let n = 1 + length real in
    let same-passed = ap length is-passed in
    let limit-a = still_limit s a m.still in
    let limit-b : b.max_len ≡ a.max_len = ap (λ (t : Sides). t.max_len) u.others in
    let long-b : length b.behind ≡ length a.behind + (1 + length passed) = sym (length-map b.behind item_of) ∙ ap length u.items ∙ length-append (strip a.behind) (x ∷ passed) ∙ count_first a.behind passed in
    let w = u.within in
    let room : nat_le (length s.behind + n) s.max_len ≡ true = grind (arith, nat_tests, w, long-a, long-b, limit-a, limit-b, same-passed) in
    let still-b : frame_of b ≡ frame_of a = ap frame_of u.others in
    let still-new : frame_of new ≡ frame_of b = ap frame_of f.others in
    let behind-new : new.behind ≡ b.behind = ap (λ (t : Sides). t.behind) f.others in
    let from-new : origins_of new ≡ origins_of b = map-append origin_of new.behind new.ahead ∙ ap (λ gs. origins gs ++ origins new.ahead) behind-new ∙ ap (λ os. origins b.behind ++ os) f.origin ∙ sym (map-append origin_of b.behind b.ahead) in
    let at-front : length a.behind ≡ length (strip s.behind) = long-a ∙ sym (length-map s.behind item_of) in
    let gone : HasHappened (component_deletions (length (strip s.behind)) 0 others) a new = from-new ∙ u.origin ∙ ap (λ k. origins_by (component_deletions k 0 others) a) at-front in
    let merge : HasHappened (Merge InList (length (strip s.behind)) (length (strip s.behind) + end) ∷ []) s a = m.happened ∙ ap (λ k. origins_by (Merge InList k (k + end) ∷ []) s) (sym (length-map s.behind item_of)) in
    let events : List Event = Merge InList (length c.front) (length c.front + end) ∷ component_deletions (length c.front) 0 others in
    let made : Cut = record c { front = c.front ++ map (ligature_item gdef glyph ps id) (take 1 xs) ++ real; rest = after_components ps id (slice_get xs (last_index (0 ∷ others))) (drop end xs); lig_id = given } in
    let ahead-b : length b.ahead ≡ length a.ahead - end =
    sym (length-map b.ahead item_of) ∙ ap length u.ahead ∙ ap (λ k. length (drop k (strip a.ahead))) (sym ends) ∙ count_dropped end (strip a.ahead) ∙ ap (λ k. k - end) (length-map a.ahead item_of) in
    let ahead-new : length new.ahead ≡ length b.ahead = sym (length-map new.ahead origin_of) ∙ ap length f.origin ∙ length-map b.ahead origin_of in
    let long-new : length new.behind ≡ length b.behind = ap length behind-new in
    let p : Item → Bool = λ y. nat_le y.number 65535 in
    acts_within n r r (Acts made events) true s new room (
      refl,
      record {
        cut_is = cut;
        happened = then_happened (Merge InList (length (strip s.behind)) (length (strip s.behind) + end) ∷ []) (component_deletions (length (strip s.behind)) 0 others) s a new (still_settings s a m.still) merge gone;
        still = still-new ∙ still-b ∙ m.still;
        fewer = omega (arith, forth, ahead-b, ahead-new, ahead-a, le);
        kept = omega (arith, long-a, long-b, long-new);
        numbers = λ h.
            let before : are_glyphs (strip s.behind ++ xs) ≡ true = ap are_glyphs (sym (map-append item_of s.behind s.ahead)) ∙ h in
            let back : are_glyphs xs ≡ true = all_of_back p (strip s.behind) xs before in
            let head : are_glyphs (x ∷ passed) ≡ true = all_of_both p (x ∷ []) passed (ap are_glyphs first-list ∙ numbered_first xs) (ap are_glyphs is-passed ∙ between_small (has_own_number ps) id (components_at 0 xs) (components_at 0 xs) 1 others xs back) in
            let after : are_glyphs (strip new.ahead) ≡ true = ap are_glyphs f.items ∙ kept (ap are_glyphs left ∙ all_dropped p end xs back) in
            let ahead-of : strip new.behind ≡ strip s.behind ++ x ∷ passed = ap (λ (t : Sides). strip t.behind) f.others ∙ u.items ∙ ap (λ ys. ys ++ x ∷ passed) front-a in
            ap are_glyphs (map-append item_of new.behind new.ahead) ∙ all_of_both p (strip new.behind) (strip new.ahead) (ap are_glyphs ahead-of ∙ all_of_both p (strip s.behind) (x ∷ passed) (all_of_front p (strip s.behind) xs before) head) after;
      },
    )
  where
    taken_first : (h : Item → Item) (gs : List hb_glyph_info_t) (g : hb_glyph_info_t) → slice_get gs 0 ≡ Some g → h (item_of g) ∷ [] ≡ map h (take 1 (strip gs))
    taken_first h [] g at = cc
    taken_first h (k ∷ gs) g at = let same : k ≡ g = cc in ap (λ y. h (item_of y) ∷ []) (sym same)

    count_first : (gs : List hb_glyph_info_t) (ys : List Item) → length (strip gs) + length (x ∷ ys) ≡ length gs + (1 + length ys)
    count_first gs ys = let all = length-map gs item_of in omega (arith, all)

    count_dropped : {X : Type 0} (k : ℕ) (ys : List X) → length (drop k ys) ≡ length ys - k
    count_dropped zero ys = omega arith
    count_dropped (suc k) [] = omega arith
    count_dropped (suc k) (y ∷ ys) = let here = count_dropped k ys in omega (arith, here)

    numbered_first : (ys : List Item) → are_glyphs (map (ligature_item gdef glyph (items_at (0 ∷ others) (strip s.ahead)) (own_number (items_at (0 ∷ others) (strip s.ahead)) s.lig_id)) (take 1 ys)) ≡ true
    numbered_first [] = refl
    numbered_first (y ∷ ys) = and_both (nat_le glyph 65535) true (grind (arith, nat_tests, small)) refl

-- what follows the components, by what they tell
pub after_is : (p-marks : Bool) (p-id p-own p-count id end : ℕ) (others : List ℕ) (s : Sides) (g : hb_glyph_info_t) (rest : List Item) → end ≡ end_of 1 others → slice_get s.ahead (end - 1) ≡ Some g → p-marks ≡ are_marks (items_at (0 ∷ others) (strip s.ahead)) → p-count ≡ component_count (items_at (0 ∷ others) (strip s.ahead)) → p-id ≡ lig_id (item_of g) → p-own ≡ lig_num_comps (item_of g)
    → (if p-marks || (p-id == 0) then rest else following_items id p-id p-count p-own rest) ≡ after_components (items_at (0 ∷ others) (strip s.ahead)) id (slice_get (strip s.ahead) (last_index (0 ∷ others))) rest
after_is p-marks p-id p-own p-count id end others s g rest ends at marks count last own =
    let place : end - 1 ≡ last_index (0 ∷ others) = let e = last_ends 0 others in omega (arith, e, ends) in
    let there : slice_get (strip s.ahead) (last_index (0 ∷ others)) ≡ Some (item_of g) = item_at s.ahead (last_index (0 ∷ others)) g (ap (slice_get s.ahead) (sym place) ∙ at) in
    rw (marks, count, last, own, there) refl

pub given_of : (end : ℕ) (s new : Sides) → IsMerged end s.lig_id s new → new.lig_id ≡ s.lig_id
given_of end s new m = ap (λ (t : Cut). t.lig_id) m.cut_is

-- the first component's item, by what the components tell
pub first_is : (gdef : GlyphDefinition) (glyph id count last : ℕ) (own : Bool) (ps : List Item) (x y : Item) → own ≡ has_own_number ps → count ≡ component_count ps → id ≡ own_number ps last
    → x ≡ record y { number = glyph; unicode_props = ligature_category own y.unicode_props; glyph_props = ligature_props gdef glyph own y.glyph_props; lig_props = if own then ligature_word id count else y.lig_props }
    → x ≡ ligature_item gdef glyph ps (own_number ps last) y
first_is gdef glyph id count last own ps x y own-is count-is id-is is = is ∙ rw (own-is, count-is, id-is) refl

pub number_is : (id last : ℕ) (own : Bool) (ps : List Item) → own ≡ has_own_number ps → id ≡ (if own then next_lig_id last else 0) → id ≡ own_number ps last
number_is id last own ps own-is given = given ∙ ap (λ b. if b then next_lig_id last else 0) own-is

pub passed_is : (id e o last : ℕ) (own : Bool) (others : List ℕ) (s a : Sides) → own ≡ has_own_number (items_at (0 ∷ others) (strip s.ahead)) → id ≡ own_number (items_at (0 ∷ others) (strip s.ahead)) last → e ≡ o → o ≡ components_at 0 (strip s.ahead) → strip a.ahead ≡ strip s.ahead
    → passed_items own id e o 1 others (strip a.ahead) ≡ passed_items (has_own_number (items_at (0 ∷ others) (strip s.ahead))) (own_number (items_at (0 ∷ others) (strip s.ahead)) last) (components_at 0 (strip s.ahead)) (components_at 0 (strip s.ahead)) 1 others (strip s.ahead)
passed_is id e o last own others s a own-is id-is same o-is ahead = rw (own-is, id-is, same, o-is, ahead) refl

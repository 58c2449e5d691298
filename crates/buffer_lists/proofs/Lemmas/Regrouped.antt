-- What the walk that reverses groups leaves of items and of positions.
use Rattle.std.proofs.Common.{ℕ, suc, zero, ◌≡◌, ◌≤◌, Bool, true, false, if◌then◌else◌, List, [], ◌∷◌, ◌++◌, length, take, drop, arith, refl, ap, sym, ◌∙◌, append_assoc}
use Rattle.std.proofs.lemmas.List.{append-nil, drop-map, take-map, length-map, length-drop, map-append}
use Rattle.buffer_glyphs.specs.declared.info.hb_glyph_info_t.{hb_glyph_info_t as Glyph}
use Rattle.buffer_glyphs.specs.declared.level.BufferClusterLevel.{BufferClusterLevel as Level}
use Rattle.buffer_glyphs.specs.declared.level.BufferClusterLevel.TheVariants.{MonotoneGraphemes, MonotoneCharacters, Characters, Graphemes}
use Rattle.buffer_glyphs.specs.Items.{Item, Position, item_of, strip, clusters}
use Rattle.buffer_glyphs.specs.Parts.{range_of}
use Rattle.buffer_glyphs.specs.Lemmas.Glyphs.{strip_merged, strip_merged_at}
use Rattle.buffer_lists.specs.Groups.{joined_count, group_length}
use Rattle.buffer_lists.specs.Turning.{groups_reversed_list, glyphs_merged_if, beside_if, all_turned, turning_of}
use Rattle.buffer_lists.specs.Facts.{group_lengths, pieces_reversed, positions_turned}
use Rattle.buffer_lists.specs.Lemmas.GroupsTurned.{turned_onto}
use Rattle.buffer_lists.proofs.Lemmas.Ranges.{lengths_cut}
use Rattle.buffer_lists.proofs.Lemmas.Turned.{all_idle}

-- a test of items, asked of glyphs
abbrev pub of_items : (Item → Item → Bool) → Glyph → Glyph → Bool
of_items q g h = q (item_of g) (item_of h)

joined_items : (q : Item → Item → Bool) (g : Glyph) (gs : List Glyph) → joined_count (of_items q) g gs ≡ joined_count q (item_of g) (strip gs)
joined_items q g [] = refl
joined_items q g (h ∷ hs) = ap (λ n. if q (item_of g) (item_of h) then suc n else 0) (joined_items q h hs)

length_items : (q : Item → Item → Bool) (g : Glyph) (gs : List Glyph) → group_length (of_items q) (g ∷ gs) ≡ group_length q (strip (g ∷ gs))
length_items q g gs = ap suc (joined_items q g gs)

merged_items : (merge : Bool) (level : Level) (n : ℕ) (gs : List Glyph) → strip (glyphs_merged_if merge level 0 n gs) ≡ strip gs
merged_items false level n gs = refl
merged_items true level n gs = strip_merged_at level 0 n gs (omega arith)

beside_items : (merge : Bool) (level : Level) (range : List ℕ) (gs : List Glyph) → strip (beside_if merge level range gs) ≡ strip gs
beside_items false level range gs = refl
beside_items true MonotoneGraphemes range gs = strip_merged range gs
beside_items true MonotoneCharacters range gs = strip_merged range gs
beside_items true Characters range gs = refl
beside_items true Graphemes range gs = refl

-- the items after the first group, whose items merge
rest_items : (merge : Bool) (level : Level) (n : ℕ) (gs : List Glyph) → strip (drop n (glyphs_merged_if merge level 0 n gs)) ≡ drop n (strip gs)
rest_items merge level n gs = sym (drop-map item_of n (glyphs_merged_if merge level 0 n gs)) ∙ ap (drop n) (merged_items merge level n gs)

pub fewer_left : (merge : Bool) (level : Level) (n m : ℕ) (g : Glyph) (gs : List Glyph) → length (g ∷ gs) ≤ suc m → length (drop (suc n) (glyphs_merged_if merge level 0 (suc n) (g ∷ gs))) ≤ m
fewer_left merge level n m g gs le =
    let seen = ap length (rest_items merge level (suc n) (g ∷ gs)) in
    omega (arith, seen, le, length-map (drop (suc n) (glyphs_merged_if merge level 0 (suc n) (g ∷ gs))) item_of, length-drop (suc n) (strip (g ∷ gs)), length-map gs item_of)

-- the items of the first group stand before those that were reversed
first_items : (merge : Bool) (level : Level) (n : ℕ) (range : List ℕ) (rest_glyphs gs : List Glyph) → strip (take n (glyphs_merged_if merge level 0 n rest_glyphs) ++ beside_if merge level range gs) ≡ take n (strip rest_glyphs) ++ strip gs
first_items merge level n range rest_glyphs gs =
    map-append item_of (take n (glyphs_merged_if merge level 0 n rest_glyphs)) (beside_if merge level range gs) ∙ ap (λ xs. strip (take n (glyphs_merged_if merge level 0 n rest_glyphs)) ++ xs) (beside_items merge level range gs)
    ∙ ap (λ xs. xs ++ strip gs) (sym (take-map item_of n (glyphs_merged_if merge level 0 n rest_glyphs)) ∙ ap (take n) (merged_items merge level n rest_glyphs))

items_many : (n : ℕ) (merge : Bool) (level : Level) (q : Item → Item → Bool) (gs : List Glyph) (ps pa : List Position) (m : Bool) (rest_glyphs : List Glyph) → length rest_glyphs ≤ n
    → strip (all_turned merge level (of_items q) n (record { glyphs = gs; positions = ps; rest_glyphs = rest_glyphs; rest_positions = pa; is_marked = m })).glyphs ≡ groups_reversed_list q (strip rest_glyphs) ++ strip gs
items_many n merge level q gs ps pa m [] le = ap (λ t. strip t.glyphs) (all_idle n merge level (of_items q) gs ps pa m)
items_many zero merge level q gs ps pa m (x ∷ xs) le = absurd (omega arith)
items_many (suc n) merge level q gs ps pa m (x ∷ xs) le =
    let k = group_length (of_items q) (x ∷ xs) in
    let i = group_length q (strip (x ∷ xs)) in
    let range = range_of 0 k (clusters (x ∷ xs)) in
    let back = drop k (glyphs_merged_if merge level 0 k (x ∷ xs)) in
    let same : k ≡ i = length_items q x xs in
    items_many n merge level q (take k (glyphs_merged_if merge level 0 k (x ∷ xs)) ++ beside_if merge level range gs) (take k pa ++ ps) (drop k pa) _ back (fewer_left merge level (joined_count (of_items q) x xs) n x xs le)
    ∙ ap (λ ys. groups_reversed_list q (strip back) ++ ys) (first_items merge level k range (x ∷ xs) gs)
    ∙ ap (λ ys. groups_reversed_list q ys ++ (take k (strip (x ∷ xs)) ++ strip gs)) (rest_items merge level k (x ∷ xs))
    ∙ sym (append_assoc (groups_reversed_list q (drop k (strip (x ∷ xs)))) (take k (strip (x ∷ xs))) (strip gs))
    ∙ ap (λ ys. ys ++ strip gs) (ap (λ j. groups_reversed_list q (drop j (strip (x ∷ xs))) ++ take j (strip (x ∷ xs))) same ∙ sym (turned_onto q (item_of x) (strip xs)))

-- the groups of the items are reversed
pub items_turned : (merge : Bool) (level : Level) (q : Item → Item → Bool) (gs : List Glyph) (ps : List Position) → strip (turning_of merge level (λ g h. q (item_of g) (item_of h)) gs ps).glyphs ≡ groups_reversed_list q (strip gs)
items_turned merge level q gs ps = items_many (length gs) merge level q [] [] ps false gs (omega arith) ∙ append-nil (groups_reversed_list q (strip gs))

-- the lengths of the groups of items, by that of the first group of glyphs
pub lengths_from : (merge : Bool) (level : Level) (q : Item → Item → Bool) (x : Glyph) (xs : List Glyph) → let k = group_length (of_items q) (x ∷ xs) in
    group_lengths q (strip (x ∷ xs)) ≡ k ∷ group_lengths q (strip (drop k (glyphs_merged_if merge level 0 k (x ∷ xs))))
lengths_from merge level q x xs =
    let k = group_length (of_items q) (x ∷ xs) in
    lengths_cut q (item_of x) (strip xs) ∙ ap (λ j. j ∷ group_lengths q (drop j (strip (x ∷ xs)))) (sym (length_items q x xs)) ∙ ap (λ ys. k ∷ group_lengths q ys) (sym (rest_items merge level k (x ∷ xs)))

positions_many : (n : ℕ) (merge : Bool) (level : Level) (q : Item → Item → Bool) (gs : List Glyph) (ps pa : List Position) (m : Bool) (rest_glyphs : List Glyph) → length rest_glyphs ≤ n
    → (all_turned merge level (of_items q) n (record { glyphs = gs; positions = ps; rest_glyphs = rest_glyphs; rest_positions = pa; is_marked = m })).positions ≡ positions_turned q (strip rest_glyphs) pa ++ ps
positions_many n merge level q gs ps pa m [] le = ap (λ t. t.positions) (all_idle n merge level (of_items q) gs ps pa m)
positions_many zero merge level q gs ps pa m (x ∷ xs) le = absurd (omega arith)
positions_many (suc n) merge level q gs ps pa m (x ∷ xs) le =
    let k = group_length (of_items q) (x ∷ xs) in
    let range = range_of 0 k (clusters (x ∷ xs)) in
    let back = drop k (glyphs_merged_if merge level 0 k (x ∷ xs)) in
    positions_many n merge level q (take k (glyphs_merged_if merge level 0 k (x ∷ xs)) ++ beside_if merge level range gs) (take k pa ++ ps) (drop k pa) _ back (fewer_left merge level (joined_count (of_items q) x xs) n x xs le)
    ∙ sym (append_assoc (positions_turned q (strip back) (drop k pa)) (take k pa) ps)
    ∙ ap (λ lens. pieces_reversed lens pa ++ ps) (sym (lengths_from merge level q x xs))

-- and so are the positions beside them
pub positions_beside : (merge : Bool) (level : Level) (q : Item → Item → Bool) (gs : List Glyph) (ps : List Position) → (turning_of merge level (λ g h. q (item_of g) (item_of h)) gs ps).positions ≡ positions_turned q (strip gs) ps
positions_beside merge level q gs ps = positions_many (length gs) merge level q [] [] ps false gs (omega arith) ∙ append-nil (positions_turned q (strip gs) ps)

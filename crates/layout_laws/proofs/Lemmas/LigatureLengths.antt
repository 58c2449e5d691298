-- How many items a ligature leaves.
use Rattle.std.proofs.Common.{ℕ, suc, ◌≡◌, ◌≤◌, ◌<◌, ◌+◌, ◌-◌, ◌==◌, ◌&&◌, ◌||◌, Bool, true, false, not, if◌then◌else◌, List, [], ◌∷◌, ◌++◌, Option, Some, None, Result, Ok, Err, length, map, take, drop, arith, refl, ap, sym, ◌∙◌}
use Rattle.std.specs.Prelude.{slice_get, slice_range}
use Rattle.std.proofs.lemmas.List.{length-append, length-drop, length-take-le, length-map}
use Rattle.buffer_glyphs.specs.Items.{Item}
use Rattle.buffer_glyphs.specs.Parts.{first_of}
use Rattle.buffer_glyphs.specs.LigatureWords.{lig_comp, lig_id, lig_num_comps}
use Rattle.buffer_parts.specs.Counts.{AreBetween}
use Rattle.layout_face.specs.declared.parts.GlyphDefinition.{GlyphDefinition}
use Rattle.buffer_stages.specs.Actions.{Cut, whole}
use Rattle.layout_match.specs.Matches.{by_answer, nearest, nearest_from, then_sequence_end, sequence_end, with_index, indices}
use Rattle.layout_match.specs.declared.search.match_t.{match_t}
use Rattle.layout_match.specs.declared.search.match_t.TheVariants.{MATCH, SKIP, NOT_MATCH}
use Rattle.layout_gsub.specs.Ligating.{items_at, are_marks, component_count, components_at, passed_item, passed_items, with_component, following_items, after_components, own_number, has_own_number, ligature_item, last_index}
use Rattle.layout_laws.proofs.Lemmas.Ligatures.{items_between_components, items_after, first_item, ligated_cut}

-- ---- the indices of a match

-- what was found stands at an index of the list, from the first that was asked on
record IsThere (at index long : ℕ) : Type 0 where
  pub low : at ≤ index
  pub high : index < at + long

by_found : (m : match_t) (at index long : ℕ) (r : Result ℕ ℕ) → (r ≡ Ok index → IsThere (at + 1) index long) → by_answer m at r ≡ Ok index → IsThere at index (suc long)
by_found MATCH at index long r h e = let same : at ≡ index = cc in record { low = omega (arith, same); high = omega (arith, same) }
by_found NOT_MATCH at index long r h e = cc
by_found SKIP at index long r h e = let there = h e in record { low = omega (arith, there.low); high = omega (arith, there.high) }

nearest_there : (ask : Item → match_t) (at index : ℕ) (xs : List Item) → nearest ask at xs ≡ Ok index → IsThere at index (length xs)
nearest_there ask at index [] e = cc
nearest_there ask at index (x ∷ xs) e = by_found (ask x) at index (length xs) (nearest ask (at + 1) xs) (λ h. nearest_there ask (at + 1) index xs h) e

-- indices rise from one on, each less than an end
abbrev RiseWithin : ℕ → ℕ → List ℕ → Type 0
RiseWithin from end [] = from ≤ end
RiseWithin from end (i ∷ places) = (from ≤ i) × RiseWithin (i + 1) end places

-- they end where the last of them ends
abbrev end_of : ℕ → List ℕ → ℕ
end_of from [] = from
end_of from (i ∷ places) = end_of (i + 1) places

pub record AreFound (from end : ℕ) (places : List ℕ) (long : ℕ) : Type 0 where
  pub indices_rise : RiseWithin from end places
  pub end_is : end ≡ end_of from places
  pub within : from ≤ long → end ≤ long

found_one : (r : Result ℕ ℕ) (asks : List (Item → match_t)) (at end : ℕ) (xs : List Item) → ((i : ℕ) → r ≡ Ok i → IsThere at i (length xs - at)) → ((next : ℕ) → sequence_end asks next xs ≡ Ok end → AreFound next end (indices asks next xs) (length xs))
    → then_sequence_end r (λ next. sequence_end asks next xs) ≡ Ok end → AreFound at end (with_index r (λ next. indices asks next xs)) (length xs)
found_one (Ok i) asks at end xs there rest e =
    let f = rest (i + 1) e in
    let here = there i refl in
    record { indices_rise = (here.low, f.indices_rise); end_is = f.end_is; within = λ le. f.within (omega (arith, le, here.low, here.high)) }
found_one (Err n) asks at end xs there rest e = cc

pub match_found : (asks : List (Item → match_t)) (at end : ℕ) (xs : List Item) → sequence_end asks at xs ≡ Ok end → AreFound at end (indices asks at xs) (length xs)
match_found [] at end xs e = let same : at ≡ end = cc in record { indices_rise = omega (arith, same); end_is = sym same; within = λ le. omega (arith, same, le) }
match_found (ask ∷ asks) at end xs e =
    found_one (nearest_from ask at xs) asks at end xs (λ i h. let f = nearest_there ask at i (drop at xs) h in record { low = f.low; high = omega (arith, f.high, length-drop at xs) }) (λ next h. match_found asks next end xs h) e

-- so they lie between the first component and the end of the match
pub found_between : (low from end : ℕ) (places : List ℕ) → low < from → RiseWithin from end places → AreBetween low end places
found_between low from end [] lt h = tt
found_between low from end (i ∷ places) lt h = (omega (arith, lt, h.0), omega (arith, rise_ordered (i + 1) end places h.1), found_between i (i + 1) end places (omega arith) h.1)
  where
    rise_ordered : (from end : ℕ) (places : List ℕ) → RiseWithin from end places → from ≤ end
    rise_ordered from end [] h = h
    rise_ordered from end (i ∷ places) h = let le = rise_ordered (i + 1) end places h.1 in omega (arith, le, h.0)

-- ---- items between components, and after them

passed_length : (renumbers : Bool) (id ended own from : ℕ) (places : List ℕ) (xs : List Item) → RiseWithin from (length xs) places → length (passed_items renumbers id ended own from places xs) + length places + from ≡ end_of from places
passed_length renumbers id ended own from [] xs h = omega arith
passed_length renumbers id ended own from (i ∷ places) xs h =
    let more = passed_length renumbers id (ended + components_at i xs) (components_at i xs) (i + 1) places xs h.1 in
    let le = ends_after (i + 1) places h.1 in
    let range : length (map (passed_item renumbers id ended own) (slice_range xs from i)) ≡ i - from = length-map (slice_range xs from i) (passed_item renumbers id ended own) ∙ length-take-le (i - from) (drop from xs) (omega (arith, le, length-drop from xs)) in
    let both = length-append (map (passed_item renumbers id ended own) (slice_range xs from i)) (passed_items renumbers id (ended + components_at i xs) (components_at i xs) (i + 1) places xs) in
    omega (arith, more, range, both, h.0)
  where
    ends_after : (from : ℕ) (places : List ℕ) → RiseWithin from (length xs) places → from ≤ length xs
    ends_after from [] h = h
    ends_after from (i ∷ places) h = let le = ends_after (i + 1) places h.1 in omega (arith, le, h.0)

-- indices before an end lie before a later one
rise_further : (from end long : ℕ) (places : List ℕ) → end ≤ long → RiseWithin from end places → RiseWithin from long places
rise_further from end long [] le h = omega (arith, le, h)
rise_further from end long (i ∷ places) le h = (h.0, rise_further (i + 1) end long places le h.1)

following_length : (id last ended own : ℕ) (ys : List Item) → length (following_items id last ended own ys) ≡ length ys
following_length id last ended own [] = refl
following_length id last ended own (y ∷ ys) = by_test ((lig_id y == last) && not (lig_comp y == 0)) (following_length id last ended own ys)
  where
    by_test : (t : Bool) → length (following_items id last ended own ys) ≡ length ys → length (if t then with_component id ended own y ∷ following_items id last ended own ys else y ∷ ys) ≡ suc (length ys)
    by_test true e = ap (λ (n : ℕ). suc n) e
    by_test false e = refl

pub after_length : (parts : List Item) (id : ℕ) (o : Option Item) (rest : List Item) → length (after_components parts id o rest) ≡ length rest
after_length parts id None rest = refl
after_length parts id (Some last) rest = by_test (are_marks parts || (lig_id last == 0))
  where
    by_test : (t : Bool) → length (if t then rest else following_items id (lig_id last) (component_count parts) (lig_num_comps last) rest) ≡ length rest
    by_test true = refl
    by_test false = following_length id (lig_id last) (component_count parts) (lig_num_comps last) rest

-- ---- the ligature

counted : (front first passed after others rest end : ℕ) → first ≡ 1 → passed + others + 1 ≡ end → after ≡ rest - end → end ≤ rest → front + first + passed + after ≡ front + rest - others
counted front first passed after others rest end a b c d = omega (arith, a, b, c, d)

-- a match of some components after the first leaves as many items fewer
pub ligated_length : (gdef : GlyphDefinition) (glyph end : ℕ) (others : List ℕ) (x : Item) (c : Cut) → first_of c.rest ≡ Some x → AreFound 1 end others (length c.rest) → length (whole (ligated_cut gdef glyph (0 ∷ others) end c)) ≡ length (whole c) - length others
ligated_length gdef glyph end others x c there found = by_rest c.rest refl
  where
    by_rest : (ys : List Item) → c.rest ≡ ys → length (whole (ligated_cut gdef glyph (0 ∷ others) end c)) ≡ length (whole c) - length others
    by_rest [] e = let none : first_of c.rest ≡ None = ap (λ (zs : List Item). first_of zs) e in cc
    by_rest (y ∷ ys) e =
        let some : 1 ≤ length c.rest = omega (arith, ap (λ (zs : List Item). length zs) e) in
        let within : end ≤ length c.rest = found.within some in
        let ends : end ≡ end_of 1 others = found.end_is in
        let first : length (first_item gdef glyph (0 ∷ others) c) ≡ 1 = length-map (take 1 c.rest) (ligature_item gdef glyph (items_at (0 ∷ others) c.rest) (own_number (items_at (0 ∷ others) c.rest) c.lig_id)) ∙ length-take-le 1 c.rest some in
        let passed : length (items_between_components (0 ∷ others) c) + length others + 1 ≡ end_of 1 others =
        passed_length (has_own_number (items_at (0 ∷ others) c.rest)) (own_number (items_at (0 ∷ others) c.rest) c.lig_id) (components_at 0 c.rest) (components_at 0 c.rest) 1 others c.rest (rise_further 1 end (length c.rest) others within found.indices_rise) in
        let after : length (items_after (0 ∷ others) end c) ≡ length c.rest - end =
        after_length (items_at (0 ∷ others) c.rest) (own_number (items_at (0 ∷ others) c.rest) c.lig_id) (slice_get c.rest (last_index (0 ∷ others))) (drop end c.rest) ∙ length-drop end c.rest in
        let old : length (whole c) ≡ length c.front + length c.rest = length-append c.front c.rest in
        let front : length (c.front ++ first_item gdef glyph (0 ∷ others) c) ≡ length c.front + length (first_item gdef glyph (0 ∷ others) c) = length-append c.front (first_item gdef glyph (0 ∷ others) c) in
        let middle : length (c.front ++ first_item gdef glyph (0 ∷ others) c ++ items_between_components (0 ∷ others) c) ≡ length (c.front ++ first_item gdef glyph (0 ∷ others) c) + length (items_between_components (0 ∷ others) c) = length-append (c.front ++ first_item gdef glyph (0 ∷ others) c) (items_between_components (0 ∷ others) c) in
        let new : length (whole (ligated_cut gdef glyph (0 ∷ others) end c)) ≡ length (c.front ++ first_item gdef glyph (0 ∷ others) c ++ items_between_components (0 ∷ others) c) + length (items_after (0 ∷ others) end c) =
        length-append (c.front ++ first_item gdef glyph (0 ∷ others) c ++ items_between_components (0 ∷ others) c) (items_after (0 ∷ others) end c) in
        new ∙ ap (λ (n : ℕ). n + length (items_after (0 ∷ others) end c)) (middle ∙ ap (λ (n : ℕ). n + length (items_between_components (0 ∷ others) c)) front)
        ∙ counted (length c.front) (length (first_item gdef glyph (0 ∷ others) c)) (length (items_between_components (0 ∷ others) c)) (length (items_after (0 ∷ others) end c)) (length others) (length c.rest) end first (passed ∙ sym ends) after within ∙ ap (λ (n : ℕ). n - length others) (sym old)

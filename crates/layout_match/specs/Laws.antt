-- Laws of searches, matches and ligature words.
use Rattle.std.specs.Prelude.{ℕ, ◌≡◌, ◌≤◌, ◌<◌, ◌+◌, ◌-◌, ◌⊎◌, List, [], ◌∷◌, length, Ok, Err, Some, true, option_map, slice_get}
use Rattle.buffer_glyphs.specs.Items.{Item}
use Rattle.layout_match.specs.declared.search.match_t.{match_t}
use Rattle.layout_match.specs.declared.search.match_t.TheVariants.{MATCH, SKIP, NOT_MATCH}
use Rattle.buffer_glyphs.specs.LigatureWords.{component_bound, component_word, is_ligature, lig_comp, lig_id, lig_num_comps, ligature_word}
use Rattle.layout_match.specs.Matches.{nearest_from, sequence_end, indices}

-- there is an item at an index, with this answer
abbrev pub Says : (Item → match_t) → List Item → ℕ → match_t → Type 0
Says ask xs k m = option_map ask (slice_get xs k) ≡ Some m

-- all items from an index up to before another are skipped
abbrev pub ArePassed : (Item → match_t) → List Item → ℕ → ℕ → Type 0
ArePassed ask xs from to = (k : ℕ) → from ≤ k → k < to → Says ask xs k SKIP

-- an item matches, and all items before it are skipped
pub record IsNearest (ask : Item → match_t) (from : ℕ) (xs : List Item) (at : ℕ) : Type 0 where
  pub there : from ≤ at
  pub taken : Says ask xs at MATCH
  pub passed : ArePassed ask xs from at

-- a search finds the nearest match
abbrev pub NearestIsTaken : Type 0
NearestIsTaken = (ask : Item → match_t) (from at : ℕ) (xs : List Item) → nearest_from ask from xs ≡ Ok at → IsNearest ask from xs at

-- a search that failed skipped all items to the end, or all before the last item that it read, which doesn't match
abbrev pub HasRead : (Item → match_t) → ℕ → List Item → ℕ → Type 0
HasRead ask from xs end = (ArePassed ask xs from (length xs) × (end ≡ length xs)) ⊎ (ArePassed ask xs from (end - 1) × Says ask xs (end - 1) NOT_MATCH)

-- each search that fails has read such items
abbrev pub FailedSearchesRead : Type 0
FailedSearchesRead = (ask : Item → match_t) (from end : ℕ) (xs : List Item) → from ≤ length xs → nearest_from ask from xs ≡ Err end → HasRead ask from xs end

-- indices of items that match tests in turn, each the nearest after the one before it, the first from an index on; the
-- match ends after the last
abbrev pub AreNearest : List (Item → match_t) → ℕ → List Item → List ℕ → ℕ → Type 0
AreNearest [] from xs [] end = end ≡ from
AreNearest [] from xs (at ∷ more) end = ⊥
AreNearest (ask ∷ asks) from xs [] end = ⊥
AreNearest (ask ∷ asks) from xs (at ∷ more) end = IsNearest ask from xs at × AreNearest asks (at + 1) xs more end

-- the indices of a match are nearest indices
abbrev pub MatchesAreNearest : Type 0
MatchesAreNearest = (asks : List (Item → match_t)) (from end : ℕ) (xs : List Item) → sequence_end asks from xs ≡ Ok end → AreNearest asks from xs (indices asks from xs) end

-- nearest indices are the indices of a match
abbrev pub NearestAreMatched : Type 0
NearestAreMatched = (asks : List (Item → match_t)) (from end : ℕ) (xs : List Item) (found : List ℕ) → AreNearest asks from xs found end → (sequence_end asks from xs ≡ Ok end) × (indices asks from xs ≡ found)

-- a match has one index for each item that a rule requires
abbrev pub MatchesAreWhole : Type 0
MatchesAreWhole = (asks : List (Item → match_t)) (from end : ℕ) (xs : List Item) → sequence_end asks from xs ≡ Ok end → length (indices asks from xs) ≡ length asks

-- the ligature word of a component gives back the ligature's number, and the component up to the greatest
abbrev pub WordsAreRead : Type 0
WordsAreRead = (id n : ℕ) (x : Item) → id < 8 → n ≤ component_bound → (lig_id (record x { lig_props = component_word id n }) ≡ id) × (lig_comp (record x { lig_props = component_word id n }) ≡ n)

-- the ligature word of a ligature gives back its number, and the count of components up to the greatest
abbrev pub LigatureWordsAreRead : Type 0
LigatureWordsAreRead = (id n : ℕ) (x : Item) → id < 8 → n ≤ component_bound → is_ligature x ≡ true → (lig_id (record x { lig_props = ligature_word id n }) ≡ id) × (lig_num_comps (record x { lig_props = ligature_word id n }) ≡ n) × (lig_comp (record x { lig_props = ligature_word id n }) ≡ 0)

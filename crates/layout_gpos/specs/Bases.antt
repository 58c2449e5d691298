-- What is kept of a search for a base or a ligature, for the next one of the same lookup.
use Rattle.std.specs.Prelude.{ℕ, ◌≡◌, ◌≤◌, ◌<◌, ◌+◌, List, [], ◌∷◌, Bool, false, Option, length, reverse, take, Result, Ok, Err, IfOk, IfErr}
use Rattle.buffer_glyphs.specs.Items.{Item}
use Rattle.buffer_glyphs.specs.Parts.{first_of}
use Rattle.layout_match.specs.Applied.{ApplyContext, own_search}
use Rattle.layout_match.specs.Searches.{Search}
use Rattle.layout_gpos.specs.Marks.{is_base_item, is_ligature_item, nearest_taken, without_marks}
use Rattle.layout_gpos.specs.declared.bases.LastSearch.{LastSearch}
use Rattle.layout_gpos.specs.declared.bases.LastSearches.{LastSearches}
use Rattle.layout_gpos.specs.declared.bases.Sought.{Sought}
use Rattle.layout_gpos.specs.declared.bases.Sought.TheVariants.{Base, Ligature}

-- whether a search that seeks a base, or a ligature, takes an item, with the one directly before it
abbrev pub takes : Sought → Search → Item → Option Item → Bool
takes Base s x before = is_base_item s x before
takes Ligature s x before = is_ligature_item s x before

-- whether it takes the first of items in reverse order
abbrev pub takes_first : (Item → Option Item → Bool) → List Item → Bool
takes_first test [] = false
takes_first test (x ∷ xs) = test x (first_of xs)

-- what a lookup that isn't kept to syllables takes where it seeks such
abbrev pub any_sought : Sought → ApplyContext → Item → Option Item → Bool
any_sought k a = takes k (own_search (without_marks a) [])

-- a result counted from an item so much farther on
abbrev pub search_result_from : ℕ → Result ℕ ℕ → Result ℕ ℕ
search_result_from k (Ok at) = Ok (at + k)
search_result_from k (Err end) = Err (end + k)

-- what is kept is what such a search finds before the item of index `before` of a list
pub record IsKept (test : Item → Option Item → Bool) (xs : List Item) (l : LastSearch) : Type 0 where
  pub within : l.before ≤ length xs
  pub inside : IfOk l.found (λ at. at < l.before)
  pub read : IfErr l.found (λ end. end ≤ l.before)
  pub is : l.found ≡ nearest_taken test 0 (reverse (take l.before xs))

-- both kept results of a lookup are so
pub record AreKept (a : ApplyContext) (xs : List Item) (l : LastSearches) : Type 0 where
  pub base : IsKept (any_sought Base a) xs l.base
  pub ligature : IsKept (any_sought Ligature a) xs l.ligature

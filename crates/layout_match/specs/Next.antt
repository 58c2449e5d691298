-- What a search finds next, whatever its item's test is.
use Rattle.std.specs.Prelude.{ℕ, ◌≡◌, ◌+◌, Bool, true, false, List, Option, Some, None, Err}
use Rattle.buffer_glyphs.specs.declared.info.hb_glyph_info_t.{hb_glyph_info_t}
use Rattle.buffer_glyphs.specs.Items.{Item, item_of}
use Rattle.layout_common.specs.declared.neighbours.Neighbour.{Neighbour}
use Rattle.layout_common.specs.declared.neighbours.Neighbour.TheVariants as Known
use Rattle.buffer_glyphs.specs.PropertyWords.{is_default_ignorable}
use Rattle.layout_match.specs.declared.search.match_t.{match_t}
use Rattle.layout_match.specs.declared.search.match_t.TheVariants.{NOT_MATCH}
use Rattle.layout_match.specs.declared.next_glyph.NextGlyph.{NextGlyph}
use Rattle.layout_match.specs.declared.next_glyph.NextGlyph.TheVariants.{Missing, Found, Unknown}
use Rattle.layout_match.specs.Matches.{by_answer, nearest_from}
use Rattle.layout_match.specs.Searches.{Search, answer, is_left_out}

-- whether a search may find an item that passes a test, as far as the next glyph says
abbrev pub may_find : NextGlyph → (Item → Bool) → Bool
may_find Missing test = false
may_find (Found info) test = test (item_of info)
may_find Unknown test = true

-- a search from an index on finds no item
abbrev pub Fails : (Item → match_t) → ℕ → List Item → Type 0
Fails ask from xs = (end : ℕ) × (nearest_from ask from xs ≡ Err end)

-- what the next glyph says of a search from an index on holds: no item is found whose test is excluded
abbrev pub IsNext : NextGlyph → Search → ℕ → List Item → Type 0
IsNext next s from xs = (test : Item → Bool) → may_find next test ≡ false → Fails (answer s test) from xs

-- what the next glyph says of a search holds where the next item is one that the lookup flag admits: it ends the search
-- of each test that is excluded
abbrev pub Decides : NextGlyph → Search → Item → Type 0
Decides next s x = (test : Item → Bool) → may_find next test ≡ false → is_left_out s.props s.sets x ≡ false → answer s test x ≡ NOT_MATCH

-- the first item from an index on that a lookup flag admits: its answer is that of each search by this flag; where there
-- is none, each search fails
abbrev pub IsAdmitted : Option hb_glyph_info_t → ℕ → List (List ℕ) → ℕ → List Item → Type 0
IsAdmitted None props sets from xs = (s : Search) (test : Item → Bool) → s.props ≡ props → s.sets ≡ sets → Fails (answer s test) from xs
IsAdmitted (Some info) props sets from xs =
    (is_left_out props sets (item_of info) ≡ false)
    × ((s : Search) (test : Item → Bool) → s.props ≡ props → s.sets ≡ sets
    → (at : ℕ) × (nearest_from (answer s test) from xs ≡ by_answer (answer s test (item_of info)) at (nearest_from (answer s test) (at + 1) xs)))

-- a visible glyph is known by its number, and nothing of another
abbrev pub IsKnown : Neighbour → Item → Type 0
IsKnown Known.Unknown x = Unit
IsKnown Known.Missing x = ⊥
IsKnown (Known.Glyph g) x = (is_default_ignorable x ≡ false) × (x.number ≡ g)

-- what is known of the nearest glyph that the lookup flag admits holds for a search from an index on: it finds no item by
-- a test that none of the items of this number passes
abbrev pub IsBeside : Neighbour → Search → ℕ → List Item → Type 0
IsBeside Known.Unknown s from xs = Unit
IsBeside Known.Missing s from xs = (test : Item → Bool) → Fails (answer s test) from xs
IsBeside (Known.Glyph g) s from xs = (test : Item → Bool) → ((x : Item) → x.number ≡ g → test x ≡ false) → Fails (answer s test) from xs

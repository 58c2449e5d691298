-- Ligature substitution (OpenType, GSUB lookup type 4) over glyphs that its lookup skips: ligature numbers, and the
-- components that marks belong to.
use Rattle.std.specs.Prelude.{ℕ, ◌+◌, ◌-◌, ◌%◌, ◌==◌, ◌&&◌, ◌||◌, Bool, true, false, not, min, nat_lt, is_some, if◌then◌else◌, List, [], ◌∷◌, ◌++◌, length, map, take, drop, Option, Some, None, Result, Ok, Err, slice_get, slice_range}
use Rattle.std.specs.Int.RustNames.{bit_and, bit_or}
use Rattle.std.specs.List.{list_all, sum}
use Rattle.buffer_glyphs.specs.Items.{Item}
use Rattle.buffer_glyphs.specs.Parts.{first_of, copies}
use Rattle.buffer_glyphs.specs.Levels.{InList}
use Rattle.buffer_glyphs.specs.Events.{Event, Merge, Replace}
use Rattle.buffer_core.specs.Settings.{next_lig_id}
use Rattle.layout_face.specs.declared.parts.GlyphDefinition.{GlyphDefinition}
use Rattle.layout_tables.specs.Layout.{LigatureTable, LigatureSetTable, ligature_set_of}
use Rattle.layout_match.specs.Applied.{ApplyContext, own_search}
use Rattle.buffer_glyphs.specs.LigatureWords.{component_word, is_base_glyph, is_mark, lig_comp, lig_id, lig_num_comps, ligature_word}
use Rattle.layout_match.specs.declared.next_glyph.NextGlyph.{NextGlyph}
use Rattle.layout_match.specs.Matches.{input_end, input_indices}
use Rattle.layout_match.specs.Next.{may_find}
use Rattle.layout_match.specs.Sequences.{is_glyph}
use Rattle.buffer_stages.specs.Actions.{Passes, Acts, Action, at_first, first_rule, within_limit, attempt_around}
use Rattle.layout_gsub.specs.Replacements.{glyph_props_of, single_substitution}

-- ---- components

-- the items at some indices
abbrev pub items_at : List ℕ → List Item → List Item
items_at [] xs = []
items_at (i ∷ places) xs = copies 1 (slice_get xs i) ++ items_at places xs

-- whether all items are of GDEF class MARK
abbrev pub are_marks : List Item → Bool
are_marks components = list_all is_mark components

-- whether the first item is a base, and the others are of GDEF class MARK
abbrev pub is_base_with_marks : List Item → Bool
is_base_with_marks [] = false
is_base_with_marks (x ∷ marks) = is_base_glyph x && are_marks marks

-- whether components become a ligature with a number of its own: not where all are marks, which stay a mark, or a base
-- with marks, which stays a base
abbrev pub has_own_number : List Item → Bool
has_own_number components = not (are_marks components || is_base_with_marks components)

-- the last ligature number given out, once components became a ligature
abbrev pub last_given : List Item → ℕ → ℕ
last_given components last = if has_own_number components then next_lig_id last else last

-- the ligature number that such components get, 0 where they get none
abbrev pub own_number : List Item → ℕ → ℕ
own_number components last = if has_own_number components then next_lig_id last else 0

-- how many components the items of a ligature have
abbrev pub component_count : List Item → ℕ
component_count components = sum (map lig_num_comps components)

-- ---- the ligature

-- the properties of a ligature: substituted and ligated, and not multiplied; its class is GDEF's where GDEF has
-- classes, else that of a ligature where it has a number of its own
abbrev pub ligature_props : GlyphDefinition → ℕ → Bool → ℕ → ℕ
ligature_props gdef glyph own old =
    if is_some gdef.classes then bit_or (bit_and (bit_or old 48) 48) (glyph_props_of gdef glyph)
    else if own then bit_or (bit_and (bit_or old 48) 48) 4
    else bit_and (bit_or old 48) 0xFFBF

-- how many numbers there are for a general category, which the low bits of a property word hold
abbrev pub categories : ℕ
categories = 32

-- the general category Mn, by HarfBuzz's number
abbrev pub non_spacing_mark : ℕ
non_spacing_mark = 12

-- the general category Lo, by HarfBuzz's number
abbrev pub other_letter : ℕ
other_letter = 7

-- the property word of a ligature: where its first component is a non-spacing mark (Mn), its category is Letter (Lo)
abbrev pub ligature_category : Bool → ℕ → ℕ
ligature_category own props = if own && (props % categories == non_spacing_mark) then props - props % categories + other_letter else props

-- the item that replaces components
abbrev pub ligature_item : GlyphDefinition → ℕ → List Item → ℕ → Item → Item
ligature_item gdef glyph components id x = record x {
  number = glyph;
  unicode_props = ligature_category (has_own_number components) x.unicode_props;
  glyph_props = ligature_props gdef glyph (has_own_number components) x.glyph_props;
  lig_props = if has_own_number components then ligature_word id (component_count components) else x.lig_props;
}

-- ---- marks

-- the component of the new ligature that a mark after a component belongs to, where `ended` components end with that
-- one, and `own` of them are its own; a mark of no component belongs to the last of these
abbrev pub component_now : ℕ → ℕ → Item → ℕ
component_now ended own y = ended - own + min (if lig_comp y == 0 then own else lig_comp y) own

-- a mark with such a component
abbrev pub with_component : ℕ → ℕ → ℕ → Item → Item
with_component id ended own y = record y { lig_props = component_word id (component_now ended own y) }

-- an item between components, which belongs to the component before it where there is a new number
abbrev pub passed_item : Bool → ℕ → ℕ → ℕ → Item → Item
passed_item renumbers id ended own y = if renumbers then with_component id ended own y else y

-- how many components the item at an index has
abbrev pub components_at : ℕ → List Item → ℕ
components_at i xs = component_count (copies 1 (slice_get xs i))

-- the items between components, from an index on
abbrev pub passed_items : Bool → ℕ → ℕ → ℕ → ℕ → List ℕ → List Item → List Item
passed_items renumbers id ended own from [] xs = []
passed_items renumbers id ended own from (i ∷ places) xs = map (passed_item renumbers id ended own) (slice_range xs from i) ++ passed_items renumbers id (ended + components_at i xs) (components_at i xs) (i + 1) places xs

-- the marks after the last component that belong to it, renumbered up to the first item that doesn't
abbrev pub following_items : ℕ → ℕ → ℕ → ℕ → List Item → List Item
following_items id last ended own [] = []
following_items id last ended own (y ∷ ys) = if (lig_id y == last) && not (lig_comp y == 0) then with_component id ended own y ∷ following_items id last ended own ys else y ∷ ys

-- the items after the components: marks that become a mark renumber none, nor does a last component that is of no
-- ligature
abbrev pub after_components : List Item → ℕ → Option Item → List Item → List Item
after_components components id None rest = rest
after_components components id (Some last) rest = if are_marks components || (lig_id last == 0) then rest else following_items id (lig_id last) (component_count components) (lig_num_comps last) rest

-- ---- the rule

-- the events of deletion of the components after the first, one after another, with n deleted before
abbrev pub component_deletions : ℕ → ℕ → List ℕ → List Event
component_deletions at gone [] = []
component_deletions at gone (i ∷ places) = Replace (at + i - gone) 1 0 ∷ component_deletions at (gone + 1) places

-- the last of some indices
abbrev pub last_index : List ℕ → ℕ
last_index [] = 0
last_index (i ∷ []) = i
last_index (i ∷ j ∷ places) = last_index (j ∷ places)

-- the items at these indices become a ligature; the last of them ends before `end`
abbrev pub ligature_substitution : GlyphDefinition → ℕ → List ℕ → ℕ → Action
ligature_substitution gdef glyph places end c =
    let components : List Item = items_at places c.rest in
    let id : ℕ = own_number components c.lig_id in
    let first : List Item = map (ligature_item gdef glyph components id) (take 1 c.rest) in
    let own : ℕ = components_at 0 c.rest in
    let passed : List Item = passed_items (has_own_number components) id own own 1 (drop 1 places) c.rest in
    within_limit (1 + length passed) c (Acts (record c {
      front = c.front ++ first ++ passed;
      rest = after_components components id (slice_get c.rest (last_index places)) (drop end c.rest);
      lig_id = last_given components c.lig_id;
    }) (Merge InList (length c.front) (length c.front + end) ∷ component_deletions (length c.front) 0 (drop 1 places)))

-- the ligature where the search finds its components; else all items from the cut to the one that ends the search are
-- unsafe to concat
abbrev pub ligature_found : ApplyContext → LigatureTable → Result ℕ ℕ → Action
ligature_found a l (Err end) c = attempt_around 0 end c
ligature_found a l (Ok end) c = ligature_substitution a.font.gdef l.glyph (input_indices (own_search a c.rest) (map is_glyph l.components) c.rest) end c

-- a ligature of one component replaces it as a single substitution does; one of more components than
-- `MAX_CONTEXT_LENGTH` never matches, and is no attempt
abbrev pub ligature_over : ApplyContext → LigatureTable → Action
ligature_over a l c =
    if length l.components == 0 then single_substitution a.font.gdef (Some l.glyph) c
    else if nat_lt (length l.components) 64 then ligature_found a l (input_end (own_search a c.rest) (map is_glyph l.components) c.rest) c
    else Passes []

-- whether a ligature's components after the first may be found, as far as the next glyph says
abbrev pub may_follow : NextGlyph → List ℕ → Bool
may_follow next [] = true
may_follow next (glyph ∷ components) = may_find next (is_glyph glyph)

-- the first of a set's ligatures that matches
abbrev pub ligatures_over : ApplyContext → Option LigatureSetTable → Action
ligatures_over a None c = Passes []
ligatures_over a (Some set) c = first_rule (ligature_over a) set.ligatures c

-- ligature substitution: the ligatures of the set of the item's glyph are tried in order
abbrev pub ligature_subst : ApplyContext → List LigatureSetTable → Action
ligature_subst a sets c = at_first (λ x. ligatures_over a (ligature_set_of x.number sets)) (first_of c.rest) c

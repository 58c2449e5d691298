-- Attachment of marks (OpenType, GPOS lookup types 4, 5 and 6).
use Rattle.std.specs.Prelude.{ℕ, ◌+◌, ◌-◌, ◌==◌, ◌&&◌, ◌||◌, Bool, true, false, not, nat_lt, min, if◌then◌else◌, List, [], ◌∷◌, length, reverse, Option, Some, None, Result, Ok, Err, slice_get, bit_and}
use Rattle.buffer_glyphs.specs.Items.{Item}
use Rattle.buffer_glyphs.specs.Parts.{first_of}
use Rattle.layout_common.specs.Rows.{value_of}
use Rattle.buffer_rows.specs.Keys.{row_of}
use Rattle.layout_tables.specs.Marks.{base_anchor, component_anchor, component_count}
use Rattle.layout_tables.specs.declared.value.Anchor.{Anchor}
use Rattle.layout_tables.specs.declared.mark.BaseRow.{BaseRow}
use Rattle.layout_tables.specs.declared.mark.LigatureRow.{LigatureRow}
use Rattle.layout_tables.specs.declared.mark.MarkBasePos.{MarkBasePos}
use Rattle.layout_tables.specs.declared.mark.MarkLigPos.{MarkLigPos}
use Rattle.layout_tables.specs.declared.mark.MarkRecord.{MarkRecord}
use Rattle.layout_match.specs.Applied.{ApplyContext, own_search}
use Rattle.buffer_glyphs.specs.LigatureWords.{is_mark, is_multiplied, lig_comp, lig_id}
use Rattle.layout_match.specs.Matches.{nearest_from}
use Rattle.layout_match.specs.Searches.{Search, answer, is_skippable}
use Rattle.layout_match.specs.declared.search.match_t.{match_t}
use Rattle.layout_match.specs.declared.search.match_t.TheVariants.{MATCH, SKIP, NOT_MATCH}
use Rattle.buffer_stages.specs.Actions.{Cut, Action, Passes, Acts, at_first, attempt_around}
use Rattle.layout_gpos.specs.Anchors.{with_mark_attached, with_attachment_flag}
use Rattle.layout_offsets.specs.Links.{is_near}
use Rattle.layout_gpos.specs.Moving.{break_around, cut_with_positions}

-- ---- the item that a mark is attached to; the first before the cut has the index 0

-- a search matches each item that it can't skip
abbrev pub any_item : Search → Item → match_t
any_item s = answer s (λ x. not (is_skippable s x))

-- the nearest item before the cut that a search takes; one that it neither takes nor passes over ends it
abbrev pub item_before : ApplyContext → Cut → Result ℕ ℕ
item_before a c = nearest_from (any_item (own_search a c.rest)) 0 (reverse c.front)

-- a lookup with items of class MARK skipped instead of its flag
abbrev pub without_marks : ApplyContext → ApplyContext
without_marks a = record a { props = 8 }

-- a lookup that skips no class, but still marks outside its set or of another attachment class
abbrev pub among_marks : ApplyContext → ApplyContext
among_marks a = record a { props = a.props - bit_and a.props 14 }

-- a later component of a multiple substitution (GSUB lookup type 2): the item directly before it is the component before it, and no mark
abbrev pub is_later_component : Option Item → Item → Bool
is_later_component None x = false
is_later_component (Some y) x = is_multiplied x && is_multiplied y && not (is_mark y) && lig_id x == lig_id y && nat_lt 0 (lig_comp x) && lig_comp y == lig_comp x - 1

-- a search takes a glyph: its answer is MATCH, and neither SKIP nor NOT_MATCH
abbrev pub is_match : match_t → Bool
is_match MATCH = true
is_match SKIP = false
is_match NOT_MATCH = false

-- an item, with the one directly before it, is one that a mark may be attached to as to a ligature
abbrev pub is_ligature_item : Search → Item → Option Item → Bool
is_ligature_item s x before = is_match (any_item s x)

-- an item, with the one directly before it, is one that a mark may be attached to as to a base
abbrev pub is_base_item : Search → Item → Option Item → Bool
is_base_item s x before = is_match (any_item s x) && not (is_later_component before x)

-- of items in reverse order the index of the first that passes a test of it and of the item directly before it, counted from `at`; else where the items end
abbrev pub nearest_taken : (Item → Option Item → Bool) → ℕ → List Item → Result ℕ ℕ
nearest_taken takes at [] = Err at
nearest_taken takes at (x ∷ xs) = if takes x (first_of xs) then Ok at else nearest_taken takes (at + 1) xs

-- the nearest item before the cut that a lookup takes with marks passed over, whatever stands between; else how many items there are
abbrev pub nearest_before : (Search → Item → Option Item → Bool) → ApplyContext → Cut → Result ℕ ℕ
nearest_before takes a c = nearest_taken (takes (own_search (without_marks a) c.rest)) 0 (reverse c.front)

-- the nearest base before the cut
abbrev pub base_before : ApplyContext → Cut → Result ℕ ℕ
base_before a c = nearest_before is_base_item a c

-- the nearest ligature before the cut; else how many items there are
abbrev pub ligature_before : ApplyContext → Cut → Result ℕ ℕ
ligature_before a c = nearest_before is_ligature_item a c

-- ---- attachment

-- the item at the cut attached to the one at an index before it, where that is near enough; a break between them is
-- unsafe
abbrev pub cut_with_mark_attached : Anchor → Anchor → ℕ → Cut → Cut
cut_with_mark_attached base mark back c = record (cut_with_positions 1 (with_mark_attached (length c.front) (length c.front - (back + 1)) base mark c.positions) c) {
  scratch_flags = with_attachment_flag (is_near (length c.front) (length c.front - (back + 1))) c.scratch_flags;
}

-- the rule that attaches the item at the cut
abbrev pub attach : Anchor → Anchor → ℕ → Action
attach base mark back c = Acts (cut_with_mark_attached base mark back c) (break_around (back + 1) 1 c)

-- the rule that attaches where both have anchors; a mark without an anchor, or an item that has none for its class, is
-- left to later subtables
abbrev pub attach_if : Option Anchor → Option Anchor → ℕ → Action
attach_if None mark back c = Passes []
attach_if (Some base) None back c = Passes []
attach_if (Some base) (Some mark) back c = attach base mark back c

-- whether an option has a value
abbrev pub is_there : {X : Type 0} → Option X → Bool
is_there None = false
is_there (Some x) = true

-- a rule for the item before the cut at an index, where one was found; else all that was read is unsafe to concat
abbrev pub with_found : (ℕ → Option Item → Action) → Result ℕ ℕ → Action
with_found act (Err end) c = attempt_around end 1 c
with_found act (Ok back) c = act back (slice_get (reverse c.front) back) c

-- ---- mark to base

-- mark to base attachment to an item; it fails on an item that the subtable does not cover as a base
abbrev pub on_base : List BaseRow → MarkRecord → ℕ → Option Item → Action
on_base bases m back None c = Passes []
on_base bases m back (Some b) c = if is_there (row_of (λ r. r.glyph) b.number bases) then attach_if (base_anchor b.number m.class bases) m.anchor back c else attempt_around (back + 1) 1 c

-- mark to base attachment of a mark's record, if there is one
abbrev pub mark_on_base : ApplyContext → List BaseRow → Option MarkRecord → Action
mark_on_base a bases None c = Passes []
mark_on_base a bases (Some m) c = with_found (on_base bases m) (base_before a c) c

-- mark to base attachment (OpenType, GPOS lookup type 4)
abbrev pub mark_to_base : ApplyContext → MarkBasePos → Action
mark_to_base a s c = at_first (λ x. mark_on_base a s.bases (value_of x.number s.marks)) (first_of c.rest) c

-- ---- mark to ligature

-- the mark's own component of n, where it belongs to the ligature; else the last
abbrev pub component_of : ℕ → Item → Item → ℕ
component_of count ligature mark = if lig_id ligature == lig_id mark && not (lig_id ligature == 0) && nat_lt 0 (lig_comp mark) then min (lig_comp mark) count - 1 else count - 1

-- that component, and none for an item that is no ligature, or a ligature without components
abbrev pub component_in : Option ℕ → Item → Item → Option ℕ
component_in None ligature mark = None
component_in (Some count) ligature mark = if count == 0 then None else Some (component_of count ligature mark)

-- mark to ligature attachment to a component; it fails where there is none
abbrev pub on_component : List LigatureRow → MarkRecord → ℕ → ℕ → Option ℕ → Action
on_component ligatures m back glyph None c = attempt_around (back + 1) 1 c
on_component ligatures m back glyph (Some k) c = attach_if (component_anchor glyph k m.class ligatures) m.anchor back c

-- mark to ligature attachment to an item
abbrev pub on_ligature : List LigatureRow → MarkRecord → Item → ℕ → Option Item → Action
on_ligature ligatures m mark back None c = Passes []
on_ligature ligatures m mark back (Some l) c = on_component ligatures m back l.number (component_in (component_count l.number ligatures) l mark) c

-- mark to ligature attachment of a mark's record, if there is one
abbrev pub mark_on_ligature : ApplyContext → List LigatureRow → Item → Option MarkRecord → Action
mark_on_ligature a ligatures x None c = Passes []
mark_on_ligature a ligatures x (Some m) c = with_found (on_ligature ligatures m x) (ligature_before a c) c

-- mark to ligature attachment (OpenType, GPOS lookup type 5)
abbrev pub mark_to_ligature : ApplyContext → MarkLigPos → Action
mark_to_ligature a s c = at_first (λ x. mark_on_ligature a s.ligatures x (value_of x.number s.marks)) (first_of c.rest) c

-- ---- mark to mark

-- whether a mark is itself a ligature
abbrev pub is_own_ligature : Item → Bool
is_own_ligature x = not (lig_id x == 0) && lig_comp x == 0

-- whether both marks belong to one base, or to one component of one ligature, or one is itself a ligature
abbrev pub belong_together : Item → Item → Bool
belong_together x y = if lig_id x == lig_id y then lig_id x == 0 || lig_comp x == lig_comp y else is_own_ligature x || is_own_ligature y

-- mark to mark attachment to an item
abbrev pub on_mark : List BaseRow → MarkRecord → Item → ℕ → Option Item → Action
on_mark bases m mark back None c = Passes []
on_mark bases m mark back (Some b) c = if is_mark b && belong_together mark b then on_base bases m back (Some b) c else attempt_around (back + 1) 1 c

-- mark to mark attachment of a mark's record, if there is one
abbrev pub mark_on_mark : ApplyContext → List BaseRow → Item → Option MarkRecord → Action
mark_on_mark a bases x None c = Passes []
mark_on_mark a bases x (Some m) c = with_found (on_mark bases m x) (item_before (among_marks a) c) c

-- mark to mark attachment (OpenType, GPOS lookup type 6)
abbrev pub mark_to_mark : ApplyContext → MarkBasePos → Action
mark_to_mark a s c = at_first (λ x. mark_on_mark a s.bases x (value_of x.number s.marks)) (first_of c.rest) c

-- Rules of positioning leave the items as they are.
use Rattle.std.proofs.Common.{ℕ, ◌≡◌, ◌+◌, ◌++◌, Bool, true, false, if◌then◌else◌, slice_get, Option, Some, None, append_assoc, List, [], ◌∷◌, take, drop, reverse, Ok, Err, sym, ap, ◌∙◌}
use Rattle.std.specs.Prelude.{◌&&◌, Result, option_and_then}
use Rattle.std.proofs.lemmas.List.{take-append-drop, map-append}
use Rattle.buffer_common.specs.declared.direction.Direction.{Direction}
use Rattle.buffer_glyphs.specs.Events.{Event}
use Rattle.buffer_glyphs.specs.Items.{Item, item_of}
use Rattle.buffer_glyphs.specs.Parts.{first_of}
use Rattle.buffer_core.specs.Sides.{Sides, items_of}
use Rattle.buffer_rows.specs.Keys.{row_of}
use Rattle.layout_common.specs.Rows.{value_of}
use Rattle.layout_common.specs.declared.glyph_row.GlyphRow.{GlyphRow}
use Rattle.layout_tables.specs.Marks.{base_anchor, component_anchor, component_count}
use Rattle.layout_tables.specs.declared.value.Anchor.{Anchor}
use Rattle.layout_tables.specs.declared.value.ValueRecord.{ValueRecord}
use Rattle.layout_tables.specs.declared.mark.BaseRow.{BaseRow}
use Rattle.layout_tables.specs.declared.mark.LigatureRow.{LigatureRow}
use Rattle.layout_tables.specs.declared.mark.MarkBasePos.{MarkBasePos}
use Rattle.layout_tables.specs.declared.mark.MarkLigPos.{MarkLigPos}
use Rattle.layout_tables.specs.declared.mark.MarkRecord.{MarkRecord}
use Rattle.layout_tables.specs.declared.pair.PairPos.{PairPos}
use Rattle.layout_tables.specs.declared.pair.PairValues.{PairValues}
use Rattle.layout_match.specs.Applied.{ApplyContext}
use Rattle.buffer_glyphs.specs.LigatureWords.{is_mark}
use Rattle.buffer_stages.specs.Actions.{Cut, whole, Outcome, Passes, Acts, Refuses, Action, later, or_else, first_rule, at_first, attempt_around}
use Rattle.buffer_stages.specs.Performing.{IsPerformed, cut_with}
use Rattle.buffer_stages.proofs.Lemmas.Frames.{same_numbers}
use Rattle.layout_gpos.specs.Moving.{KeepsItems, ItemsStay}
use Rattle.layout_gpos.specs.Singles.{single_adjusted, single_subtable}
use Rattle.layout_tables.specs.Covers.{covers_first_of_pair}
use Rattle.layout_gpos.specs.Pairs.{next_item, pair_from, pair_length, pair_of, pair_second, pair_subtable, pair_values}
use Rattle.layout_gpos.specs.Marks.{attach_if, base_before, among_marks, belong_together, component_in, is_there, item_before, ligature_before, mark_on_base, mark_on_ligature, mark_on_mark, mark_to_base, mark_to_ligature, mark_to_mark, on_base, on_component, on_ligature, on_mark, with_found}

-- ---- rules of any kind

-- some items more are done
pub past_left : (n : ℕ) (c : Cut) → (c.front ++ take n c.rest) ++ drop n c.rest ≡ whole c
past_left n c = append_assoc c.front (take n c.rest) (drop n c.rest) ∙ ap (λ (xs : List Item). c.front ++ xs) (take-append-drop n c.rest)

pub later_left : (es : List Event) (o : Outcome) (c : Cut) → ItemsStay o c → ItemsStay (later es o) c
later_left es (Passes events) c h = tt
later_left es (Acts cut events) c h = h
later_left es (Refuses cause) c h = tt

either_left : (o p : Outcome) (c : Cut) → ItemsStay o c → ItemsStay p c → ItemsStay (or_else o p) c
either_left (Passes events) p c h k = later_left events p c k
either_left (Acts cut events) p c h k = h
either_left (Refuses cause) p c h k = tt

pub first_left : {R : Type 0} (act : R → Action) (rules : List R) → ((r : R) → KeepsItems (act r)) → KeepsItems (first_rule act rules)
first_left act [] h c = tt
first_left act (r ∷ rules) h c = either_left (act r c) (first_rule act rules c) c (h r c) (first_left act rules h c)

pub at_first_left : (act : Item → Action) (o : Option Item) → ((x : Item) → KeepsItems (act x)) → KeepsItems (at_first act o)
at_first_left act None h c = tt
at_first_left act (Some x) h c = h x c

pub found_left : (act : ℕ → Option Item → Action) (found : Result ℕ ℕ) → ((back : ℕ) (o : Option Item) → KeepsItems (act back o)) → KeepsItems (with_found act found)
found_left act (Err end) h c = tt
found_left act (Ok back) h c = h back (slice_get (reverse c.front) back) c

pub either_way : (b : Bool) (o p : Outcome) (c : Cut) → ItemsStay o c → ItemsStay p c → ItemsStay (if b then o else p) c
either_way true o p c h k = h
either_way false o p c h k = k

-- what a call that performs such a rule leaves
pub performed_left : (o : Outcome) (acted : Bool) (r after : ℕ) (s new : Sides) → ItemsStay o (cut_with r s) → IsPerformed o acted r after s new → items_of new ≡ items_of s
performed_left (Passes es) acted r after s new k d = same_numbers s new d.2.cut_is
performed_left (Acts cut es) acted r after s new k d = map-append item_of new.behind new.ahead ∙ ap (λ (c : Cut). whole c) d.1.cut_is ∙ k ∙ sym (map-append item_of s.behind s.ahead)
performed_left (Refuses cause) acted r after s new k d = absurd d

-- ---- adjustments

single_left : (d : Direction) (o : Option ValueRecord) → KeepsItems (single_adjusted d o)
single_left d None c = tt
single_left d (Some v) c = past_left 1 c

pub single_keeps : (d : Direction) (rows : List (GlyphRow ValueRecord)) → KeepsItems (single_subtable d rows)
single_keeps d rows c = at_first_left (λ x. single_adjusted d (value_of x.number rows)) (first_of c.rest) (λ x. single_left d (value_of x.number rows)) c

of_left : (d : Direction) (apart : ℕ) (o : Option PairValues) → KeepsItems (pair_of d apart o)
of_left d apart None c = tt
of_left d apart (Some v) c = past_left (pair_length apart v.second) c

second_left : (d : Direction) (values : Item → Option PairValues) (found : Result ℕ ℕ) → KeepsItems (pair_second d values found)
second_left d values (Err end) c = tt
second_left d values (Ok apart) c = of_left d apart (option_and_then values (slice_get c.rest apart)) c

from_left : (d : Direction) (a : ApplyContext) (s : PairPos) (x : Item) → KeepsItems (pair_from d a s x)
from_left d a s x c = either_way (covers_first_of_pair s x.number) _ (Passes []) c (second_left d (λ y. pair_values s x.number y.number) (next_item a c.rest) c) tt

pub pair_keeps : (d : Direction) (a : ApplyContext) (s : PairPos) → KeepsItems (pair_subtable d a s)
pair_keeps d a s c = at_first_left (pair_from d a s) (first_of c.rest) (from_left d a s) c

-- ---- marks

attach_left : (base mark : Option Anchor) (back : ℕ) → KeepsItems (attach_if base mark back)
attach_left None mark back c = tt
attach_left (Some b) None back c = tt
attach_left (Some b) (Some m) back c = past_left 1 c

on_base_left : (bases : List BaseRow) (m : MarkRecord) (back : ℕ) (o : Option Item) → KeepsItems (on_base bases m back o)
on_base_left bases m back None c = tt
on_base_left bases m back (Some x) c = either_way (is_there (row_of (λ (b : BaseRow). b.glyph) x.number bases)) _ (attempt_around (back + 1) 1 c) c (attach_left (base_anchor x.number m.class bases) m.anchor back c) tt

mark_on_base_left : (a : ApplyContext) (bases : List BaseRow) (o : Option MarkRecord) → KeepsItems (mark_on_base a bases o)
mark_on_base_left a bases None c = tt
mark_on_base_left a bases (Some m) c = found_left (on_base bases m) (base_before a c) (on_base_left bases m) c

pub base_keeps : (a : ApplyContext) (t : MarkBasePos) → KeepsItems (mark_to_base a t)
base_keeps a t c = at_first_left (λ x. mark_on_base a t.bases (value_of x.number t.marks)) (first_of c.rest) (λ x. mark_on_base_left a t.bases (value_of x.number t.marks)) c

on_component_left : (ligatures : List LigatureRow) (m : MarkRecord) (back glyph : ℕ) (k : Option ℕ) → KeepsItems (on_component ligatures m back glyph k)
on_component_left ligatures m back glyph None c = tt
on_component_left ligatures m back glyph (Some k) c = attach_left (component_anchor glyph k m.class ligatures) m.anchor back c

on_ligature_left : (ligatures : List LigatureRow) (m : MarkRecord) (x : Item) (back : ℕ) (o : Option Item) → KeepsItems (on_ligature ligatures m x back o)
on_ligature_left ligatures m x back None c = tt
on_ligature_left ligatures m x back (Some l) c = on_component_left ligatures m back l.number (component_in (component_count l.number ligatures) l x) c

mark_on_ligature_left : (a : ApplyContext) (ligatures : List LigatureRow) (x : Item) (o : Option MarkRecord) → KeepsItems (mark_on_ligature a ligatures x o)
mark_on_ligature_left a ligatures x None c = tt
mark_on_ligature_left a ligatures x (Some m) c = found_left (on_ligature ligatures m x) (ligature_before a c) (on_ligature_left ligatures m x) c

pub ligature_keeps : (a : ApplyContext) (t : MarkLigPos) → KeepsItems (mark_to_ligature a t)
ligature_keeps a t c = at_first_left (λ x. mark_on_ligature a t.ligatures x (value_of x.number t.marks)) (first_of c.rest) (λ x. mark_on_ligature_left a t.ligatures x (value_of x.number t.marks)) c

on_mark_left : (bases : List BaseRow) (m : MarkRecord) (x : Item) (back : ℕ) (o : Option Item) → KeepsItems (on_mark bases m x back o)
on_mark_left bases m x back None c = tt
on_mark_left bases m x back (Some b) c = either_way (is_mark b && belong_together x b) _ (attempt_around (back + 1) 1 c) c (on_base_left bases m back (Some b) c) tt

mark_on_mark_left : (a : ApplyContext) (bases : List BaseRow) (x : Item) (o : Option MarkRecord) → KeepsItems (mark_on_mark a bases x o)
mark_on_mark_left a bases x None c = tt
mark_on_mark_left a bases x (Some m) c = found_left (on_mark bases m x) (item_before (among_marks a) c) (on_mark_left bases m x) c

pub mark_keeps : (a : ApplyContext) (t : MarkBasePos) → KeepsItems (mark_to_mark a t)
mark_keeps a t c = at_first_left (λ x. mark_on_mark a t.bases x (value_of x.number t.marks)) (first_of c.rest) (λ x. mark_on_mark_left a t.bases x (value_of x.number t.marks)) c

-- Lookups of positioning are local.
use Rattle.std.specs.Prelude.{List}
use Rattle.buffer_common.specs.declared.direction.Direction.{Direction}
use Rattle.layout_common.specs.declared.glyph_row.GlyphRow.{GlyphRow}
use Rattle.layout_face.specs.declared.positioning.PositioningLookup.{PositioningLookup}
use Rattle.layout_tables.specs.declared.cursive.EntryExit.{EntryExit}
use Rattle.layout_tables.specs.declared.mark.MarkBasePos.{MarkBasePos}
use Rattle.layout_tables.specs.declared.mark.MarkLigPos.{MarkLigPos}
use Rattle.layout_tables.specs.declared.pair.PairPos.{PairPos}
use Rattle.layout_tables.specs.declared.value.ValueRecord.{ValueRecord}
use Rattle.buffer_stages.specs.Actions.{first_rule}
use Rattle.layout_match.specs.Applied.{ApplyContext}
use Rattle.layout_gpos.specs.Marks.{mark_to_base, mark_to_ligature, mark_to_mark}
use Rattle.layout_gpos.specs.Pairs.{pair_subtable}
use Rattle.layout_gpos.specs.Singles.{single_subtable}
use Rattle.layout_positioning.specs.Joins.{cursive_subtable}
use Rattle.layout_positioning.specs.Lookups.{lookup_action}
use Rattle.layout_laws.specs.Breaks.Local.{IsLocal, IsLocalOrIdle, IsSteady}
use Rattle.layout_laws.specs.Breaks.Positioned.{ArePlaced}

-- single adjustment is local
abbrev pub AdjustmentsAreLocal : Type 0
AdjustmentsAreLocal = (d : Direction) (rows : List (GlyphRow ValueRecord)) → IsLocal ArePlaced (single_subtable d rows)

-- pair adjustment is local or idle, by glyphs and by classes: the subtables of a lookup, of which the first that matches is applied
abbrev pub PairsAreLocal : Type 0
PairsAreLocal = (d : Direction) (a : ApplyContext) (subtables : List PairPos) → IsLocalOrIdle ArePlaced (first_rule (pair_subtable d a) subtables)

-- cursive attachment is local, also where an old chain is reversed
abbrev pub JoinsAreLocal : Type 0
JoinsAreLocal = (d : Direction) (a : ApplyContext) (rows : List (GlyphRow EntryExit)) → IsLocal ArePlaced (cursive_subtable d a rows)

-- attachment of marks to bases, to ligatures and to marks is local
pub record MarksAreLocal : Type 0 where
  pub bases : (a : ApplyContext) (s : MarkBasePos) → IsLocal ArePlaced (mark_to_base a s)
  pub ligatures : (a : ApplyContext) (s : MarkLigPos) → IsLocal ArePlaced (mark_to_ligature a s)
  pub marks : (a : ApplyContext) (s : MarkBasePos) → IsLocal ArePlaced (mark_to_mark a s)

-- each lookup of positioning is local or idle, of each type, contexts with nested lookups too
abbrev pub PositioningsAreLocal : Type 0
PositioningsAreLocal = (table : List PositioningLookup) (d : Direction) (a : ApplyContext) (lookup : PositioningLookup) → IsLocalOrIdle ArePlaced (lookup_action table d a lookup)

-- each is steady: where it acts, fewer items are left, no budget is given back, no ligature number is given, and the events leave as
-- many glyphs as items
abbrev pub PositioningsAreSteady : Type 0
PositioningsAreSteady = (table : List PositioningLookup) (d : Direction) (a : ApplyContext) (lookup : PositioningLookup) → IsSteady (lookup_action table d a lookup)

-- Cursive attachment passes at a glyph without an entry.
use Rattle.std.specs.Prelude.{is_some}
use Rattle.std.proofs.Common.{◌≡◌, false, List, [], Option, Some, None, refl}
use Rattle.buffer_common.specs.declared.direction.Direction.{Direction}
use Rattle.buffer_glyphs.specs.Items.{Item}
use Rattle.layout_common.specs.declared.glyph_row.GlyphRow.{GlyphRow}
use Rattle.layout_tables.specs.Covers.{covers_entry}
use Rattle.layout_tables.specs.declared.cursive.EntryExit.{EntryExit}
use Rattle.layout_tables.specs.declared.value.Anchor.{Anchor}
use Rattle.layout_match.specs.Applied.{ApplyContext}
use Rattle.layout_match.specs.Skipping.{PassesAt}
use Rattle.layout_match.specs.Lemmas.Passing.{passes_at_item}
use Rattle.buffer_stages.specs.Actions.{Cut, Passes}
use Rattle.layout_positioning.specs.Joins.{cursive_subtable, entry_of, from_entry}

entry_at : (d : Direction) (a : ApplyContext) (rows : List (GlyphRow EntryExit)) (o : Option Anchor) (c : Cut) → is_some o ≡ false → from_entry d a rows o c ≡ Passes []
entry_at d a rows None c none = refl
entry_at d a rows (Some entry) c none = cc

pub cursive_uncovered : (d : Direction) (a : ApplyContext) (rows : List (GlyphRow EntryExit)) (x : Item) → covers_entry rows x.number ≡ false → PassesAt (cursive_subtable d a rows) x
cursive_uncovered d a rows x none = passes_at_item (λ y. from_entry d a rows (entry_of rows y.number)) x (λ c. entry_at d a rows (entry_of rows x.number) c none)

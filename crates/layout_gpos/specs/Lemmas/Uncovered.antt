-- A GPOS subtable passes at a glyph that it doesn't cover.
use Rattle.std.specs.Prelude.{is_some}
use Rattle.std.proofs.Common.{ℕ, ◌≡◌, ◌==◌, false, List, [], Option, Some, None, refl}
use Rattle.buffer_common.specs.declared.direction.Direction.{Direction}
use Rattle.buffer_glyphs.specs.Items.{Item}
use Rattle.layout_common.specs.Rows.{value_of}
use Rattle.layout_common.specs.declared.glyph_row.GlyphRow.{GlyphRow}
use Rattle.layout_tables.specs.Covers.{covers_first_of_pair, covers_value}
use Rattle.layout_tables.specs.declared.mark.MarkBasePos.{MarkBasePos}
use Rattle.layout_tables.specs.declared.mark.MarkRecord.{MarkRecord}
use Rattle.layout_tables.specs.declared.mark.MarkLigPos.{MarkLigPos}
use Rattle.layout_tables.specs.declared.pair.PairPos.{PairPos}
use Rattle.layout_tables.specs.declared.value.ValueRecord.{ValueRecord}
use Rattle.layout_match.specs.Applied.{ApplyContext}
use Rattle.layout_match.specs.Skipping.{PassesAt}
use Rattle.layout_match.specs.Lemmas.Passing.{passes_at_item}
use Rattle.buffer_stages.specs.Actions.{Cut, Passes}
use Rattle.layout_gpos.specs.Marks.{mark_on_base, mark_on_ligature, mark_on_mark, mark_to_base, mark_to_ligature, mark_to_mark}
use Rattle.layout_gpos.specs.Pairs.{pair_from, pair_subtable}
use Rattle.layout_gpos.specs.Singles.{single_adjusted, single_subtable}

single_at : (d : Direction) (o : Option ValueRecord) (c : Cut) → is_some o ≡ false → single_adjusted d o c ≡ Passes []
single_at d None c none = refl
single_at d (Some v) c none = cc

pub single_uncovered : (d : Direction) (rows : List (GlyphRow ValueRecord)) (x : Item) → covers_value rows x.number ≡ false → PassesAt (single_subtable d rows) x
single_uncovered d rows x none = passes_at_item (λ y. single_adjusted d (value_of y.number rows)) x (λ c. single_at d (value_of x.number rows) c none)

pub pair_uncovered : (d : Direction) (a : ApplyContext) (s : PairPos) (x : Item) → covers_first_of_pair s x.number ≡ false → PassesAt (pair_subtable d a s) x
pair_uncovered d a s x none = passes_at_item (pair_from d a s) x (λ c. rw none refl)

base_at : (a : ApplyContext) (s : MarkBasePos) (o : Option MarkRecord) (c : Cut) → is_some o ≡ false → mark_on_base a s.bases o c ≡ Passes []
base_at a s None c none = refl
base_at a s (Some m) c none = cc

pub base_uncovered : (a : ApplyContext) (s : MarkBasePos) (x : Item) → covers_value s.marks x.number ≡ false → PassesAt (mark_to_base a s) x
base_uncovered a s x none = passes_at_item (λ y. mark_on_base a s.bases (value_of y.number s.marks)) x (λ c. base_at a s (value_of x.number s.marks) c none)

ligature_at : (a : ApplyContext) (s : MarkLigPos) (x : Item) (o : Option MarkRecord) (c : Cut) → is_some o ≡ false → mark_on_ligature a s.ligatures x o c ≡ Passes []
ligature_at a s x None c none = refl
ligature_at a s x (Some m) c none = cc

pub ligature_uncovered : (a : ApplyContext) (s : MarkLigPos) (x : Item) → covers_value s.marks x.number ≡ false → PassesAt (mark_to_ligature a s) x
ligature_uncovered a s x none = passes_at_item (λ y. mark_on_ligature a s.ligatures y (value_of y.number s.marks)) x (λ c. ligature_at a s x (value_of x.number s.marks) c none)

mark_at : (a : ApplyContext) (s : MarkBasePos) (x : Item) (o : Option MarkRecord) (c : Cut) → is_some o ≡ false → mark_on_mark a s.bases x o c ≡ Passes []
mark_at a s x None c none = refl
mark_at a s x (Some m) c none = cc

pub mark_uncovered : (a : ApplyContext) (s : MarkBasePos) (x : Item) → covers_value s.marks x.number ≡ false → PassesAt (mark_to_mark a s) x
mark_uncovered a s x none = passes_at_item (λ y. mark_on_mark a s.bases y (value_of y.number s.marks)) x (λ c. mark_at a s x (value_of x.number s.marks) c none)

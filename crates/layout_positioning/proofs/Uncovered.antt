-- A GPOS lookup passes at a glyph that none of its subtables covers.
use Rattle.std.proofs.Common.{ℕ, ◌≡◌, false, Option}
use Rattle.buffer_common.specs.declared.direction.Direction.{Direction}
use Rattle.buffer_glyphs.specs.Items.{Item}
use Rattle.layout_tables.specs.Covers.{covers_context, covers_entry, covers_first_of_pair, covers_value}
use Rattle.layout_face.specs.Lookups.{positioning_covers}
use Rattle.layout_face.specs.declared.positioning.PositioningSubtables.{PositioningSubtables}
use Rattle.layout_face.specs.declared.positioning.PositioningSubtables.TheVariants.{Single, Pair, Cursive, MarkToBase, MarkToLigature, MarkToMark, Context, ChainContext}
use Rattle.buffer_stages.specs.Actions.{Action}
use Rattle.layout_match.specs.Applied.{ApplyContext}
use Rattle.layout_match.specs.Skipping.{PassesAt}
use Rattle.layout_match.specs.Lemmas.Passing.{first_passes}
use Rattle.layout_contexts.specs.Chains.{context_subtable}
use Rattle.layout_contexts.proofs.Lemmas.Uncovered.{context_uncovered}
use Rattle.layout_gpos.specs.Marks.{mark_to_base, mark_to_ligature, mark_to_mark}
use Rattle.layout_gpos.specs.Pairs.{pair_subtable}
use Rattle.layout_gpos.specs.Singles.{single_subtable}
use Rattle.layout_gpos.specs.Lemmas.Uncovered.{base_uncovered, ligature_uncovered, mark_uncovered, pair_uncovered, single_uncovered}
use Rattle.layout_positioning.specs.Joins.{cursive_subtable}
use Rattle.layout_positioning.specs.Lemmas.Uncovered.{cursive_uncovered}
use Rattle.layout_positioning.specs.Lookups.{first_subtable}

pub first_uncovered : (nest : Option (ℕ → Action)) (d : Direction) (a : ApplyContext) (subtables : PositioningSubtables) (x : Item) → positioning_covers subtables x.number ≡ false → PassesAt (first_subtable nest d a subtables) x
first_uncovered nest d a (Single subtables) x none = first_passes (λ s. single_subtable d s.rows) (λ s. covers_value s.rows x.number) subtables x (λ s out. single_uncovered d s.rows x out) none
first_uncovered nest d a (Pair subtables) x none = first_passes (pair_subtable d a) (λ s. covers_first_of_pair s x.number) subtables x (λ s out. pair_uncovered d a s x out) none
first_uncovered nest d a (Cursive subtables) x none = first_passes (λ s. cursive_subtable d a s.rows) (λ s. covers_entry s.rows x.number) subtables x (λ s out. cursive_uncovered d a s.rows x out) none
first_uncovered nest d a (MarkToBase subtables) x none = first_passes (mark_to_base a) (λ s. covers_value s.marks x.number) subtables x (λ s out. base_uncovered a s x out) none
first_uncovered nest d a (MarkToLigature subtables) x none = first_passes (mark_to_ligature a) (λ s. covers_value s.marks x.number) subtables x (λ s out. ligature_uncovered a s x out) none
first_uncovered nest d a (MarkToMark subtables) x none = first_passes (mark_to_mark a) (λ s. covers_value s.marks x.number) subtables x (λ s out. mark_uncovered a s x out) none
first_uncovered nest d a (Context subtables) x none = first_passes (context_subtable nest a) (λ s. covers_context s x.number) subtables x (λ s out. context_uncovered nest a s x out) none
first_uncovered nest d a (ChainContext subtables) x none = first_passes (context_subtable nest a) (λ s. covers_context s x.number) subtables x (λ s out. context_uncovered nest a s x out) none

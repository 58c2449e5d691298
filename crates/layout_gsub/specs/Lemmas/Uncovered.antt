-- A subtable of substitution passes at a glyph that it doesn't cover.
use Rattle.std.specs.Prelude.{is_some}
use Rattle.std.proofs.Common.{ℕ, ◌≡◌, Bool, false, List, [], Option, Some, None, refl, map}
use Rattle.buffer_glyphs.specs.Items.{Item}
use Rattle.layout_common.specs.Rows.{value_of}
use Rattle.layout_common.specs.declared.glyph_row.GlyphRow.{GlyphRow}
use Rattle.layout_tables.specs.Covers.{covers_first_component, covers_sequence, covers_value}
use Rattle.layout_tables.specs.Layout.{LigatureSetTable, ligature_set_of}
use Rattle.layout_tables.specs.Substitutions.{glyphs_of}
use Rattle.layout_tables.specs.declared.reverse.ReverseChainSubst.{ReverseChainSubst}
use Rattle.layout_tables.specs.declared.sequence.SequenceRow.{SequenceRow}
use Rattle.layout_face.specs.declared.parts.GlyphDefinition.{GlyphDefinition}
use Rattle.layout_match.specs.Applied.{ApplyContext}
use Rattle.layout_match.specs.Sequences.{is_covered_by}
use Rattle.layout_match.specs.Skipping.{PassesAt}
use Rattle.layout_match.specs.Lemmas.Passing.{passes_at_item}
use Rattle.buffer_stages.specs.Actions.{Cut, Passes}
use Rattle.layout_gsub.specs.Alternates.{alternate_set, alternate_subtable, feature_value}
use Rattle.layout_gsub.specs.Ligating.{ligature_subst, ligatures_over}
use Rattle.layout_gsub.specs.Multiples.{covered_sequence, multiple_subtable}
use Rattle.layout_gsub.specs.Replacements.{single_substitution, single_subtable}
use Rattle.layout_gsub.specs.Reverses.{reverse_substitution, reverse_subtable}

single_at : (gdef : GlyphDefinition) (o : Option ℕ) (c : Cut) → is_some o ≡ false → single_substitution gdef o c ≡ Passes []
single_at gdef None c none = refl
single_at gdef (Some glyph) c none = cc

pub single_uncovered : (gdef : GlyphDefinition) (rows : List (GlyphRow ℕ)) (x : Item) → covers_value rows x.number ≡ false → PassesAt (single_subtable gdef rows) x
single_uncovered gdef rows x none = passes_at_item (λ y. single_substitution gdef (value_of y.number rows)) x (λ c. single_at gdef (value_of x.number rows) c none)

multiple_at : (gdef : GlyphDefinition) (o : Option (List ℕ)) (c : Cut) → is_some o ≡ false → covered_sequence gdef o c ≡ Passes []
multiple_at gdef None c none = refl
multiple_at gdef (Some glyphs) c none = cc

pub multiple_uncovered : (gdef : GlyphDefinition) (rows : List SequenceRow) (x : Item) → covers_sequence rows x.number ≡ false → PassesAt (multiple_subtable gdef rows) x
multiple_uncovered gdef rows x none = passes_at_item (λ y. covered_sequence gdef (glyphs_of y.number rows)) x (λ c. multiple_at gdef (glyphs_of x.number rows) c none)

alternate_at : (gdef : GlyphDefinition) (random : Bool) (value : ℕ) (o : Option (List ℕ)) (c : Cut) → is_some o ≡ false → alternate_set gdef random value o c ≡ Passes []
alternate_at gdef random value None c none = refl
alternate_at gdef random value (Some glyphs) c none = cc

pub alternate_uncovered : (gdef : GlyphDefinition) (random : Bool) (bits : ℕ) (rows : List SequenceRow) (x : Item) → covers_sequence rows x.number ≡ false → PassesAt (alternate_subtable gdef random bits rows) x
alternate_uncovered gdef random bits rows x none =
    passes_at_item (λ y. alternate_set gdef random (feature_value bits y.mask) (glyphs_of y.number rows)) x (λ c. alternate_at gdef random (feature_value bits x.mask) (glyphs_of x.number rows) c none)

ligatures_at : (a : ApplyContext) (o : Option LigatureSetTable) (c : Cut) → is_some o ≡ false → ligatures_over a o c ≡ Passes []
ligatures_at a None c none = refl
ligatures_at a (Some set) c none = cc

pub ligature_uncovered : (a : ApplyContext) (sets : List LigatureSetTable) (x : Item) → covers_first_component sets x.number ≡ false → PassesAt (ligature_subst a sets) x
ligature_uncovered a sets x none = passes_at_item (λ y. ligatures_over a (ligature_set_of y.number sets)) x (λ c. ligatures_at a (ligature_set_of x.number sets) c none)

reverse_at : (a : ApplyContext) (backtrack lookahead : List (Item → Bool)) (o : Option ℕ) (c : Cut) → is_some o ≡ false → reverse_substitution a backtrack lookahead o c ≡ Passes []
reverse_at a backtrack lookahead None c none = refl
reverse_at a backtrack lookahead (Some glyph) c none = cc

pub reverse_uncovered : (a : ApplyContext) (s : ReverseChainSubst) (x : Item) → covers_value s.rows x.number ≡ false → PassesAt (reverse_subtable a s) x
reverse_uncovered a s x none =
    passes_at_item (λ y. reverse_substitution a (map is_covered_by s.backtrack) (map is_covered_by s.lookahead) (value_of y.number s.rows)) x
    (λ c. reverse_at a (map is_covered_by s.backtrack) (map is_covered_by s.lookahead) (value_of x.number s.rows) c none)

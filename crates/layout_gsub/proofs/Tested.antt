-- What subtables make of the glyph at the cursor.
use Rattle.std.proofs.Common.{ℕ, ◌≡◌, ◌<◌, true, [], ◌∷◌, length, arith, Bool, List, Option, Result, Some, sym, ap, subst, ◌∙◌, slice_get}
use Rattle.buffer_glyphs.specs.declared.info.hb_glyph_info_t.{hb_glyph_info_t}
use Rattle.buffer_glyphs.specs.declared.cause.ShapeCause.{ShapeCause}
use Rattle.buffer_glyphs.specs.Items.{Item, item_of, strip}
use Rattle.buffer_glyphs.specs.Parts.{first_of}
use Rattle.buffer_core.specs.Sides.{Sides}
use Rattle.layout_common.specs.Rows.{value_of}
use Rattle.layout_common.specs.declared.glyph_row.GlyphRow.{GlyphRow}
use Rattle.layout_tables.specs.declared.sequence.SequenceRow.{SequenceRow}
use Rattle.layout_tables.specs.Substitutions.{glyphs_of}
use Rattle.layout_face.specs.declared.parts.GlyphDefinition.{GlyphDefinition}
use Rattle.buffer_stages.specs.Actions.{Outcome, Action, at_first}
use Rattle.buffer_stages.specs.Performing.{cut_with, IsPerformed, Performs}
use Rattle.buffer_stages.proofs.Lemmas.Glyphs.{first_item}
use Rattle.layout_gsub.specs.Multiples.{covered_sequence, multiple_subtable, deletion, sequence}
use Rattle.layout_gsub.specs.Replacements.{single_substitution, single_subtable}
use Rattle.layout_gsub.specs.Alternates.{alternate_set, alternate_subtable, feature_value}

-- what a rule that depends on the first item makes of the glyph at the cursor
pub first_tried : (act : Item → Action) (r : ℕ) (s : Sides) (g : hb_glyph_info_t) → slice_get s.ahead 0 ≡ Some g → at_first act (first_of (strip s.ahead)) (cut_with r s) ≡ act (item_of g) (cut_with r s)
first_tried act r s g at = ap (λ o. at_first act o (cut_with r s)) (first_item s.ahead g at)

-- a single substitution does what the row of that glyph says
pub single_performs : (gdef : GlyphDefinition) (rows : List (GlyphRow ℕ)) (r after : ℕ) (s new : Sides) (g : hb_glyph_info_t) (n : ℕ) (o : Option ℕ) (result : Result Bool ShapeCause) → slice_get s.ahead 0 ≡ Some g → n ≡ g.glyph_id → value_of n rows ≡ o
    → Performs (single_substitution gdef o (cut_with r s)) result r after s new → Performs (single_subtable gdef rows (cut_with r s)) result r after s new
single_performs gdef rows r after s new g n o result at is row d =
    let here = first_tried (λ y. single_substitution gdef (value_of y.number rows)) r s g at in
    let same : single_subtable gdef rows (cut_with r s) ≡ single_substitution gdef o (cut_with r s) = here ∙ ap (λ m. single_substitution gdef (value_of m rows) (cut_with r s)) (sym is) ∙ ap (λ p. single_substitution gdef p (cut_with r s)) row in
    let P : Outcome → Type 0 = λ q. Performs q result r after s new in
    subst P (sym same) d

-- an alternate substitution does what the set of that glyph gives at its value
pub alternate_performs : (gdef : GlyphDefinition) (random : Bool) (bits value : ℕ) (rows : List SequenceRow) (r after : ℕ) (s new : Sides) (g : hb_glyph_info_t) (n : ℕ) (o : Option (List ℕ)) (result : Result Bool ShapeCause) → slice_get s.ahead 0 ≡ Some g → n ≡ g.glyph_id
    → value ≡ feature_value bits (item_of g).mask → glyphs_of n rows ≡ o → Performs (alternate_set gdef random value o (cut_with r s)) result r after s new → Performs (alternate_subtable gdef random bits rows (cut_with r s)) result r after s new
alternate_performs gdef random bits value rows r after s new g n o result at is valued row d =
    let here = first_tried (λ (y : Item). alternate_set gdef random (feature_value bits y.mask) (glyphs_of y.number rows)) r s g at in
    let same : alternate_subtable gdef random bits rows (cut_with r s) ≡ alternate_set gdef random value o (cut_with r s) =
    here ∙ ap (λ v. alternate_set gdef random v (glyphs_of g.glyph_id rows) (cut_with r s)) (sym valued) ∙ ap (λ m. alternate_set gdef random value (glyphs_of m rows) (cut_with r s)) (sym is) ∙ ap (λ p. alternate_set gdef random value p (cut_with r s)) row in
    let P : Outcome → Type 0 = λ q. Performs q result r after s new in
    subst P (sym same) d

-- a multiple substitution does what the sequence of that glyph says
pub multiple_performs : (gdef : GlyphDefinition) (rows : List SequenceRow) (r after : ℕ) (s new : Sides) (g : hb_glyph_info_t) (n : ℕ) (o : Option (List ℕ)) (result : Result Bool ShapeCause) → slice_get s.ahead 0 ≡ Some g → n ≡ g.glyph_id
    → glyphs_of n rows ≡ o → Performs (covered_sequence gdef o (cut_with r s)) result r after s new → Performs (multiple_subtable gdef rows (cut_with r s)) result r after s new
multiple_performs gdef rows r after s new g n o result at is row d =
    let here = first_tried (λ (y : Item). covered_sequence gdef (glyphs_of y.number rows)) r s g at in
    let same : multiple_subtable gdef rows (cut_with r s) ≡ covered_sequence gdef o (cut_with r s) = here ∙ ap (λ m. covered_sequence gdef (glyphs_of m rows) (cut_with r s)) (sym is) ∙ ap (λ p. covered_sequence gdef p (cut_with r s)) row in
    let P : Outcome → Type 0 = λ q. Performs q result r after s new in
    subst P (sym same) d

-- a list of no glyphs deletes
pub nothing_in : (gdef : GlyphDefinition) (glyphs : List ℕ) (r : ℕ) (s new : Sides) → length glyphs < 1 → IsPerformed (deletion (cut_with r s)) true r r s new → IsPerformed (sequence gdef glyphs (cut_with r s)) true r r s new
nothing_in gdef [] r s new lt d = d
nothing_in gdef (n ∷ glyphs) r s new lt d = absurd (omega (arith, lt))

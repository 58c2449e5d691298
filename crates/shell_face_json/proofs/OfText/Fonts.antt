-- A font by what was read of its keys.
use Rattle.std.proofs.Common.{◌≡◌, ℕ, ℤ, pos, List, length, codes, Option, None, Result, Ok, ap, ◌∙◌}
use Rattle.std.specs.Ordering.{nat_cmp}
use Rattle.serde_json.specs.Data.{Data}
use Rattle.serde_json.specs.Find.{get}
use Rattle.shell_json.specs.declared.fault.JsonFault.{JsonFault}
use Rattle.shell_json.specs.Cell.{and_then, u16_value, i16_value}
use Rattle.shell_json.specs.Objects.{read_or, optional_value}
use Rattle.shell_face_json.specs.Lists.{number_below, rows_at}
use Rattle.shell_face_json.specs.Row.{only}
use Rattle.shell_face_json.specs.Sorted.{rows_by_key}
use Rattle.shell_face_json.specs.Glyphs.{glyph_limit, glyph_rows}
use Rattle.shell_face_json.specs.Positions.{pair_order}
use Rattle.shell_face_json.specs.Face.{glyph_definition_in, character_keys, advance_keys, drawing_keys, layout_keys, face_keys}
use Rattle.shell_face_json.specs.SubstitutionTable.{substitution_table}
use Rattle.shell_face_json.specs.PositionTable.{positioning_table}
use Rattle.shell_face_json.specs.FontRows.{character_row, variation_row, extents, name_row}
use Rattle.layout_common.specs.declared.glyph_row.GlyphRow.{GlyphRow}
use Rattle.buffer_glyphs.specs.declared.names.hb_glyph_extents_t.{hb_glyph_extents_t}
use Rattle.layout_face.specs.Names.{GlyphName}
use Rattle.layout_face.specs.declared.parts.CharacterRow.{CharacterRow}
use Rattle.layout_face.specs.declared.parts.VariationRow.{VariationRow}
use Rattle.layout_face.specs.declared.parts.GlyphDefinition.{GlyphDefinition}
use Rattle.layout_face.specs.declared.positioning.PositioningTable.{PositioningTable}
use Rattle.layout_face.specs.declared.substitution.SubstitutionTable.{SubstitutionTable}
use Rattle.layout_face.specs.declared.parts.FaceParts.{FaceParts}

two : {A B : Type 0} (a : Result A JsonFault) (b : Result B JsonFault) (x : A) (y : B) → a ≡ Ok x → b ≡ Ok y → and_then {B = A × B} a (λ v. and_then {B = A × B} b (λ w. Ok (v, w))) ≡ Ok (x, y)
two {A} {B} a b x y e h = ap (λ o. and_then {B = A × B} o (λ v. and_then {B = A × B} b (λ w. Ok (v, w)))) e ∙ ap (λ o. and_then {B = A × B} o (λ w. Ok (x, w))) h

module _ (d : Data) where
  pub characters_read : (cmap : List CharacterRow) (variants : List VariationRow)
      → rows_at (codes "cmap") (rows_by_key nat_cmp (λ r. r.character) (character_row glyph_limit) None) d ≡ Ok cmap
      → rows_at (codes "variants") (rows_by_key pair_order (λ r. (r.character, r.selector)) (variation_row glyph_limit) None) d ≡ Ok variants → character_keys d ≡ Ok (cmap, variants)
  characters_read cmap variants e h = two _ _ cmap variants e h

  pub advances_read : (widths heights : List (GlyphRow ℕ)) → rows_at (codes "h") (glyph_rows (only (number_below glyph_limit))) d ≡ Ok widths
      → rows_at (codes "v") (glyph_rows (only (number_below glyph_limit))) d ≡ Ok heights → advance_keys d ≡ Ok (widths, heights)
  advances_read widths heights e h = two _ _ widths heights e h

  pub drawing_read : (origins : List (GlyphRow ℤ)) (boxes : List (GlyphRow hb_glyph_extents_t)) (names : List GlyphName) → rows_at (codes "origins") (glyph_rows (only i16_value)) d ≡ Ok origins
      → rows_at (codes "extents") (glyph_rows extents) d ≡ Ok boxes → rows_at (codes "names") (rows_by_key nat_cmp (λ r. r.glyph) (name_row glyph_limit) None) d ≡ Ok names
      → drawing_keys d ≡ Ok (origins, (boxes, names))
  drawing_read origins boxes names e h n =
      let last = rows_at (codes "names") (rows_by_key nat_cmp (λ r. r.glyph) (name_row glyph_limit) None) d in
      ap (λ o. and_then o (λ x. and_then (rows_at (codes "extents") (glyph_rows extents) d) (λ y. and_then last (λ z. Ok (x, (y, z)))))) e
      ∙ ap (λ o. and_then o (λ y. and_then last (λ z. Ok (origins, (y, z))))) h ∙ ap (λ o. and_then o (λ z. Ok (origins, (boxes, z)))) n

  pub layouts_read : (g : GlyphDefinition) (s : Option SubstitutionTable) (p : Option PositioningTable) → glyph_definition_in (get (codes "gdef") d) ≡ Ok g
      → optional_value (substitution_table (length g.sets)) (get (codes "gsub") d) ≡ Ok s → optional_value (positioning_table (length g.sets)) (get (codes "gpos") d) ≡ Ok p → layout_keys d ≡ Ok (g, (s, p))
  layouts_read g s p e h n =
      ap (λ o. and_then o (λ x. and_then (optional_value (substitution_table (length x.sets)) (get (codes "gsub") d)) (λ y. and_then (optional_value (positioning_table (length x.sets)) (get (codes "gpos") d)) (λ z. Ok (x, (y, z)))))) e
      ∙ ap (λ o. and_then o (λ y. and_then (optional_value (positioning_table (length g.sets)) (get (codes "gpos") d)) (λ z. Ok (g, (y, z))))) h ∙ ap (λ o. and_then o (λ z. Ok (g, (s, z)))) n

abbrev Layouts : Type 0
Layouts = GlyphDefinition × (Option SubstitutionTable × Option PositioningTable)

abbrev Characters : Type 0
Characters = List CharacterRow × List VariationRow

abbrev Advances : Type 0
Advances = List (GlyphRow ℕ) × List (GlyphRow ℕ)

abbrev Drawing : Type 0
Drawing = List (GlyphRow ℤ) × (List (GlyphRow hb_glyph_extents_t) × List GlyphName)

abbrev parts : ℕ → ℤ → Characters → Advances → Drawing → Layouts → FaceParts
parts upem ascender characters advances drawing layout = record {
  upem = upem;
  ascender = ascender;
  cmap = characters.0;
  variants = characters.1;
  h = advances.0;
  v = advances.1;
  origins = drawing.0;
  extents = drawing.1.0;
  names = drawing.1.1;
  gdef = layout.0;
  gsub = layout.1.0;
  gpos = layout.1.1;
}

abbrev joined : Result ℕ JsonFault → Result ℤ JsonFault → Result Characters JsonFault → Result Advances JsonFault → Result Drawing JsonFault → Result Layouts JsonFault → Result FaceParts JsonFault
joined u a c w o l =
    and_then u (λ upem.
    and_then a (λ ascender.
    and_then c (λ characters.
    and_then w (λ advances.
    and_then o (λ drawing.
    and_then l (λ layout.
    Ok (parts upem ascender characters advances drawing layout)))))))

pub font_read : (d : Data) (upem : ℕ) (ascender : ℤ) (characters : Characters) (advances : Advances) (drawing : Drawing) (layout : Layouts)
    → (read_or 0 u16_value (get (codes "upem") d) ≡ Ok upem) × (read_or (pos 0) i16_value (get (codes "ascender") d) ≡ Ok ascender)
    → character_keys d ≡ Ok characters → advance_keys d ≡ Ok advances → drawing_keys d ≡ Ok drawing → layout_keys d ≡ Ok layout
    → face_keys d ≡ Ok (parts upem ascender characters advances drawing layout)
font_read d upem ascender characters advances drawing layout m c w o l =
    ap (λ x. joined x (read_or (pos 0) i16_value (get (codes "ascender") d)) (character_keys d) (advance_keys d) (drawing_keys d) (layout_keys d)) m.0
    ∙ ap (λ x. joined (Ok upem) x (character_keys d) (advance_keys d) (drawing_keys d) (layout_keys d)) m.1
    ∙ ap (λ x. joined (Ok upem) (Ok ascender) x (advance_keys d) (drawing_keys d) (layout_keys d)) c
    ∙ ap (λ x. joined (Ok upem) (Ok ascender) (Ok characters) x (drawing_keys d) (layout_keys d)) w
    ∙ ap (λ x. joined (Ok upem) (Ok ascender) (Ok characters) (Ok advances) x (layout_keys d)) o
    ∙ ap (λ x. joined (Ok upem) (Ok ascender) (Ok characters) (Ok advances) (Ok drawing) x) l

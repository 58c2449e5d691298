-- All glyphs of a table `CFF ` (TN 5176) or CFF2 (OpenType, at the default instance).
use Rattle.std.specs.Prelude.{ℕ, ◌==◌, ◌||◌, Bool, if◌then◌else◌, List, [], Result, Ok, Err}
use Rattle.font_bytes.specs.declared.fault.TableFault.{TableFault}
use Rattle.font_bytes.specs.Results.{and_then}
use Rattle.font_common.specs.Offsets.{tables_in}
use Rattle.layout_face.specs.Names.{GlyphName}
use Rattle.font_cff.specs.declared.header.Cff.{Cff}
use Rattle.font_cff.specs.declared.fonts.Private.{Private}
use Rattle.font_metrics.specs.declared.boxes.GlyphBox.{GlyphBox}
use Rattle.font_cff.specs.declared.glyphs.CffParts.{CffParts}
use Rattle.font_cff.specs.Header.{cff_of}
use Rattle.font_cff.specs.Fonts.{numbers, privates_of}
use Rattle.font_cff.specs.Selects.{selects_of}
use Rattle.font_cff.specs.Charset.{charset_of}
use Rattle.font_cff.specs.Outlines.{glyph_box}
use Rattle.font_cff.specs.Names.{names_of}

-- the number of glyphs, the box of each, and the names of glyphs
pub record CffValue : Type 0 where
  pub count : ℕ
  pub boxes : List GlyphBox
  pub names : List GlyphName

-- what a table has, by its parts
abbrev pub value : ℕ → List GlyphBox → List GlyphName → CffValue
value count boxes names = record { count = count; boxes = boxes; names = names }

-- the index of the private DICT of each glyph, none where the table has no FDSelect
abbrev pub font_selects : List ℕ → Cff → Result (List ℕ) TableFault
font_selects table cff = if cff.top.selects == 0 || cff.top.fonts == 0 then Ok [] else selects_of table cff.top.selects cff.glyphs.count

-- the string number of each glyph, none in CFF2 and in a CID-keyed font
abbrev pub font_sids : List ℕ → Cff → Result (List ℕ) TableFault
font_sids table cff = if cff.is_cff2 || cff.top.is_cid then Ok [] else charset_of table cff.top.charset cff.glyphs.count

-- what the outlines of a table share
unfoldable pub outlines_of : List ℕ → Bool → ℕ → Result ((Cff × List Private × List ℕ × List ℕ) × ℕ) TableFault
outlines_of table is_cff2 room = and_then (cff_of table is_cff2) (λ cff.
    and_then (privates_of table cff room) (λ ps.
    and_then (font_selects table cff) (λ selects.
    and_then (font_sids table cff) (λ sids.
    Ok ((cff, ps.0, selects, sids), ps.1)))))

-- the boxes of n glyphs
unfoldable pub boxes_of : List ℕ → Cff → List Private → List ℕ → List ℕ → ℕ → ℕ → Result (List GlyphBox × ℕ) TableFault
boxes_of table cff privates selects sids room count = tables_in (glyph_box table cff privates selects sids) room (numbers 0 count)

-- the boxes, where they are wanted
abbrev pub wanted_boxes : List ℕ → Cff → List Private → List ℕ → List ℕ → CffParts → ℕ → Result (List GlyphBox × ℕ) TableFault
wanted_boxes table cff privates selects sids parts room = if parts.boxes then boxes_of table cff privates selects sids room cff.glyphs.count else Ok ([], room)

-- the names, where they are wanted
abbrev pub wanted_names : List ℕ → Cff → List ℕ → CffParts → ℕ → Result (List GlyphName × ℕ) TableFault
wanted_names table cff sids parts room = if parts.names then names_of table cff.strings room sids else Ok ([], room)

-- the glyphs by what their outlines share
unfoldable pub glyphs_of : List ℕ → Cff → List Private → List ℕ → List ℕ → CffParts → ℕ → Result (CffValue × ℕ) TableFault
glyphs_of table cff privates selects sids parts room = and_then (wanted_boxes table cff privates selects sids parts room) (λ boxes.
    and_then (wanted_names table cff sids parts boxes.1) (λ names. Ok (value cff.glyphs.count boxes.0 names.0, names.1)))

-- the glyphs of a table in a room
unfoldable pub cff_at : List ℕ → Bool → CffParts → ℕ → Result (CffValue × ℕ) TableFault
cff_at table is_cff2 parts room = and_then (outlines_of table is_cff2 room) (λ o. glyphs_of table o.0.0 o.0.1 o.0.2 o.0.3 parts o.1)

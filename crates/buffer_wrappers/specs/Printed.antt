-- The text that is printed of a run of glyphs.
use Rattle.std.specs.Prelude.{ℕ, Bool, false, not, ◌&&◌, ◌==◌, nat_le, if◌then◌else◌, List, [], ◌∷◌, ◌++◌, pos, Option, None, Some, unwrap_or, codes, bit_and}
use Rattle.std.specs.Ordering.{int_eq}
use Rattle.std.specs.Fmt.{decimal, signed_decimal, digits}
use Rattle.std.specs.List.{join_with_byte}
use Rattle.buffer_glyphs.specs.declared.flags.SerializeFlags.{SerializeFlags}
use Rattle.buffer_glyphs.specs.declared.info.hb_glyph_info_t.{hb_glyph_info_t}
use Rattle.buffer_glyphs.specs.declared.names.hb_glyph_extents_t.{hb_glyph_extents_t}
use Rattle.buffer_glyphs.specs.declared.position.GlyphPosition.{GlyphPosition}
use Rattle.buffer_wrappers.specs.declared.pen.Pen.{Pen}
use Rattle.buffer_wrappers.specs.Pen.{drops_advances, pen_after, shifted_pen}

-- whether NO_CLUSTERS is set
abbrev pub drops_clusters : SerializeFlags → Bool
drops_clusters flags = bit_and flags.0 1 == 1

-- whether NO_POSITIONS is set
abbrev pub drops_positions : SerializeFlags → Bool
drops_positions flags = bit_and flags.0 2 == 2

-- whether NO_GLYPH_NAMES is set
abbrev pub drops_names : SerializeFlags → Bool
drops_names flags = bit_and flags.0 4 == 4

-- whether GLYPH_EXTENTS is set
abbrev pub shows_extents : SerializeFlags → Bool
shows_extents flags = bit_and flags.0 8 == 8

-- whether GLYPH_FLAGS is set
abbrev pub shows_glyph_flags : SerializeFlags → Bool
shows_glyph_flags flags = bit_and flags.0 16 == 16

-- the names of a font's glyphs, for those that have one
abbrev pub Names : Type 0
Names = ℕ → Option (List ℕ)

-- the boxes of a font's glyphs, for those that have one
abbrev pub Boxes : Type 0
Boxes = ℕ → Option hb_glyph_extents_t

-- the font's answer for a glyph; none for a number that no glyph can have
abbrev pub of_glyph : {A : Type 0} → (ℕ → Option A) → ℕ → Option A
of_glyph says number = if nat_le number 65535 then says number else None

-- the glyph's name; `gid` and its number where it has none
abbrev pub name_or_number : Option (List ℕ) → ℕ → List ℕ
name_or_number None number = codes "gid" ++ decimal number
name_or_number (Some name) number = name

-- the glyph's name or `gid` and its number; the bare number where names are dropped
unfoldable pub name_text : Names → SerializeFlags → ℕ → List ℕ
name_text name_of flags number = if drops_names flags then decimal number else name_or_number (of_glyph name_of number) number

-- `=` and the cluster, unless clusters are dropped
unfoldable pub cluster_text : SerializeFlags → ℕ → List ℕ
cluster_text flags cluster = if drops_clusters flags then [] else codes "=" ++ decimal cluster

-- `@x,y`, or nothing where both are 0
unfoldable pub offset_text : Pen → List ℕ
offset_text at = if int_eq at.x (pos 0) && int_eq at.y (pos 0) then []
    else codes "@" ++ (signed_decimal at.x ++ (codes "," ++ signed_decimal at.y))

-- `+x_advance`, and `,y_advance` if that is not 0
unfoldable pub advance_text : SerializeFlags → GlyphPosition → List ℕ
advance_text flags position = if drops_advances flags then []
    else codes "+" ++ (signed_decimal position.x_advance
    ++ (if int_eq position.y_advance (pos 0) then [] else codes "," ++ signed_decimal position.y_advance))

-- the text of a glyph's position: the pen moved by its offset, and its advances
unfoldable pub position_text : SerializeFlags → Pen → GlyphPosition → List ℕ
position_text flags pen position = if drops_positions flags then []
    else offset_text (shifted_pen pen position.x_offset position.y_offset) ++ advance_text flags position

-- `#` and the three glyph flags in hexadecimal, if one is set
unfoldable pub flag_text : SerializeFlags → ℕ → List ℕ
flag_text flags mask = if shows_glyph_flags flags && not (bit_and mask 7 == 0) then codes "#" ++ digits 16 false (bit_and mask 7) else []

-- `<x_bearing,y_bearing,width,height>`
unfoldable pub box_text : hb_glyph_extents_t → List ℕ
box_text b = codes "<" ++ (signed_decimal b.x_bearing ++ (codes "," ++ (signed_decimal b.y_bearing
    ++ (codes "," ++ (signed_decimal b.width ++ (codes "," ++ (signed_decimal b.height ++ codes ">")))))))

-- a box of zeros, for a glyph that has none
abbrev pub no_box : hb_glyph_extents_t
no_box = record { x_bearing = pos 0; y_bearing = pos 0; width = pos 0; height = pos 0 }

-- the glyph's box in font units
unfoldable pub extents_text : Boxes → SerializeFlags → ℕ → List ℕ
extents_text extents_of flags number = if shows_extents flags then box_text (unwrap_or (of_glyph extents_of number) no_box) else []

-- a glyph: its name or number, cluster, position, flags and box
unfoldable pub glyph_text : Names → Boxes → SerializeFlags → Pen → hb_glyph_info_t → GlyphPosition → List ℕ
glyph_text name_of extents_of flags pen glyph position = name_text name_of flags glyph.glyph_id
    ++ (cluster_text flags glyph.cluster
    ++ (position_text flags pen position
    ++ (flag_text flags glyph.mask
    ++ extents_text extents_of flags glyph.glyph_id)))

-- the text of each glyph, the first with these positions before it
abbrev pub glyph_texts : Names → Boxes → SerializeFlags → List GlyphPosition → List hb_glyph_info_t → List GlyphPosition → List (List ℕ)
glyph_texts name_of extents_of flags before [] positions = []
glyph_texts name_of extents_of flags before (glyph ∷ glyphs) [] = []
glyph_texts name_of extents_of flags before (glyph ∷ glyphs) (position ∷ positions) =
    glyph_text name_of extents_of flags (pen_after flags before) glyph position
    ∷ glyph_texts name_of extents_of flags (before ++ position ∷ []) glyphs positions

-- the separator before the glyph at an index
abbrev pub separator : ℕ → List ℕ
separator index = if index == 0 then [] else codes "|"

-- the run's text: its glyphs' texts with `|` between them
unfoldable pub printed_text : Names → Boxes → SerializeFlags → List hb_glyph_info_t → List GlyphPosition → List ℕ
printed_text name_of extents_of flags glyphs positions = join_with_byte 124 (glyph_texts name_of extents_of flags [] glyphs positions)

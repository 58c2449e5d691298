-- A face that is read of a file's bytes is bounded.
use Rattle.std.proofs.Common.{ℕ, ◌+◌, ◌*◌, ◌≤◌, List, length, Option, Some, None, Result, Ok, arith}
use Rattle.std.specs.Result.{IfOk}
use Rattle.layout_face.specs.Indices.{indices_fit}
use Rattle.layout_face.specs.declared.parts.CharacterRow.{CharacterRow}
use Rattle.layout_face.specs.declared.positioning.PositioningTable.{PositioningTable}
use Rattle.layout_face.specs.declared.substitution.SubstitutionTable.{SubstitutionTable}
use Rattle.font_bytes.specs.declared.fault.TableFault.{TableFault}
use Rattle.font_bytes.specs.declared.table_names.FontTable.TheVariants.{Hhea, Hmtx, Vhea, Vmtx, Vorg, Cmap, Gdef, Gsub, Gpos, Kern}
use Rattle.font_bytes.specs.Fault.{in_table}
use Rattle.font_bytes.specs.Results.{and_then}
use Rattle.font_cmap.specs.Characters.{characters_at}
use Rattle.font_cmap.specs.Variations.{variations_at}
use Rattle.font_lists.specs.Definition.{definition_at}
use Rattle.font_layout.specs.Layout.{gpos_at, gsub_at}
use Rattle.font_kern.specs.Kern.{gpos_with_kern}
use Rattle.font_file.specs.declared.headers.Headers.{Headers}
use Rattle.font_file.specs.declared.parts.FontParts.{FontParts}
use Rattle.font_file.specs.Advances.{bytes_or_none, metrics_in}
use Rattle.font_file.specs.Characters.{Characters, rows_of_table, rows_of, characters_in}
use Rattle.font_file.specs.Face.{Drawing, GlyphValues, LayoutValues, origins_by, origins_and_extents, drawing_in, metrics_of, characters_and_layouts, parts_in, face_in}
use Rattle.font_file.specs.Found.{table_in}
use Rattle.font_file.specs.Headers.{headers_in}
use Rattle.font_file.specs.Layouts.{without_room, definition_of, substitution_of, positioning_of, with_kern, gpos_in, tables_in, layouts_in}
use Rattle.font_file.specs.Outlines as drawn
use Rattle.font_file.specs.Rooms.{character_room, layout_room}
use Rattle.font_laws.specs.RowCounts.{optional_row_count}
use Rattle.font_laws.specs.Lists.{definition_row_count}
use Rattle.font_laws.specs.Substitutions.{substitution_row_count}
use Rattle.font_laws.specs.Positions.{positioning_row_count}
use Rattle.font_laws.specs.Bounds.{AreBytes, IsBounded}
use Rattle.font_laws.proofs.Within.{Fitting, then_if, then_any, if_either}
use Rattle.font_laws.proofs.Characters.{characters_fit, variations_fit}
use Rattle.font_laws.proofs.Lists.{definition_fits}
use Rattle.font_laws.proofs.Lookups.{gsub_fits, gpos_fits}
use Rattle.font_laws.proofs.KernTables.{kern_fits}
use Rattle.font_laws.proofs.Glyphs.{in_table_if, headers_small, advances_length, vertical_length, origins_length, extents_length, outlines_length, all_names_length}

-- ---- characters

pub table_fits : (table : List ℕ) → IfOk (rows_of_table table) (λ c. length c.0 + length c.1 ≤ character_room + 256)
table_fits table =
    then_if (λ r. length r.0 + r.1 ≤ character_room + 256) _ (characters_at character_room table) _ (characters_fit character_room table) (λ cmap h.
    then_if (λ r. length r.0 + r.1 ≤ cmap.1) _ (variations_at cmap.1 table cmap.0) _ (variations_fit cmap.1 table cmap.0) (λ variants k. omega arith))

abbrev HasFewCharacters : Characters → Type 0
HasFewCharacters c = length c.0 + length c.1 ≤ character_room + 256

rows_fit : (table : Option (List ℕ)) → IfOk (rows_of table) HasFewCharacters
rows_fit None = omega arith
rows_fit (Some table) = in_table_if HasFewCharacters (Some Cmap) (rows_of_table table) (table_fits table)

characters_few : (bytes : List ℕ) (index : ℕ) → IfOk (characters_in bytes index) HasFewCharacters
characters_few bytes index = then_any _ (table_in bytes index Cmap) _ (λ t. rows_fit t)

-- ---- GDEF, GSUB, GPOS and kern

without_room_fits : {A : Type 0} (count : A → ℕ) (room : ℕ) (read : Result (A × ℕ) TableFault) → Fitting count room read → IfOk (without_room read) (λ a. count a ≤ room)
without_room_fits count room read h = then_if (λ r. count r.0 + r.1 ≤ room) _ read _ h (λ r k. omega arith)

definition_of_fits : (table : Option (List ℕ)) → IfOk (definition_of table) (λ d. definition_row_count d ≤ layout_room)
definition_of_fits None = omega arith
definition_of_fits (Some table) =
    in_table_if (λ d. definition_row_count d ≤ layout_room) (Some Gdef) (without_room (definition_at layout_room table))
    (without_room_fits definition_row_count layout_room (definition_at layout_room table) (definition_fits layout_room table))

substitution_of_fits : (sets : ℕ) (table : Option (List ℕ)) → IfOk (substitution_of sets table) (λ t. optional_row_count substitution_row_count t ≤ layout_room)
substitution_of_fits sets None = omega arith
substitution_of_fits sets (Some table) =
    then_if (λ t. substitution_row_count t ≤ layout_room) _ (in_table (Some Gsub) (without_room (gsub_at sets layout_room table))) _
    (in_table_if (λ t. substitution_row_count t ≤ layout_room) (Some Gsub) (without_room (gsub_at sets layout_room table))
    (without_room_fits substitution_row_count layout_room (gsub_at sets layout_room table) (gsub_fits sets layout_room table))) (λ t h. h)

positioning_of_fits : (sets : ℕ) (table : Option (List ℕ)) → IfOk (positioning_of sets table) (λ t. optional_row_count positioning_row_count t ≤ layout_room)
positioning_of_fits sets None = omega arith
positioning_of_fits sets (Some table) =
    then_if (λ t. positioning_row_count t ≤ layout_room) _ (in_table (Some Gpos) (without_room (gpos_at sets layout_room table))) _
    (in_table_if (λ t. positioning_row_count t ≤ layout_room) (Some Gpos) (without_room (gpos_at sets layout_room table))
    (without_room_fits positioning_row_count layout_room (gpos_at sets layout_room table) (gpos_fits sets layout_room table))) (λ t h. h)

abbrev HasFewPositions : Option PositioningTable → Type 0
HasFewPositions t = optional_row_count positioning_row_count t ≤ 75 * layout_room

with_kern_fits : (characters : List CharacterRow) (gpos : Option PositioningTable) (table : Option (List ℕ)) → optional_row_count positioning_row_count gpos ≤ layout_room
    → IfOk (with_kern characters gpos table) HasFewPositions
with_kern_fits characters gpos None h = omega arith
with_kern_fits characters gpos (Some table) h =
    in_table_if HasFewPositions (Some Kern) (without_room (gpos_with_kern layout_room table characters gpos))
    (then_if (λ r. optional_row_count positioning_row_count r.0 + 3 * r.1 ≤ 72 * optional_row_count positioning_row_count gpos + 3 * layout_room) _
    (gpos_with_kern layout_room table characters gpos) _ (kern_fits layout_room table characters gpos) (λ r k. omega arith))

gpos_few : (bytes : List ℕ) (index : ℕ) (characters : List CharacterRow) (sets : ℕ) → IfOk (gpos_in bytes index characters sets) HasFewPositions
gpos_few bytes index characters sets =
    then_if (λ t. optional_row_count positioning_row_count t ≤ layout_room) _ (and_then (table_in bytes index Gpos) (positioning_of sets)) _
    (then_any _ (table_in bytes index Gpos) _ (λ t. positioning_of_fits sets t)) (λ gpos h.
    then_any _ (table_in bytes index Kern) _ (λ t. with_kern_fits characters gpos t h))

abbrev AreFewTables : Option SubstitutionTable × Option PositioningTable → Type 0
AreFewTables t = (optional_row_count substitution_row_count t.0 ≤ layout_room) × HasFewPositions t.1

tables_few : (bytes : List ℕ) (index : ℕ) (characters : List CharacterRow) (sets : ℕ) → IfOk (tables_in bytes index characters sets) AreFewTables
tables_few bytes index characters sets =
    then_if (λ t. optional_row_count substitution_row_count t ≤ layout_room) _ (and_then (table_in bytes index Gsub) (substitution_of sets)) _
    (then_any _ (table_in bytes index Gsub) _ (λ t. substitution_of_fits sets t)) (λ gsub h.
    then_if HasFewPositions _ (gpos_in bytes index characters sets) _ (gpos_few bytes index characters sets) (λ gpos k. (h, k)))

abbrev AreFewRows : LayoutValues → Type 0
AreFewRows l = (definition_row_count l.0 ≤ layout_room) × AreFewTables l.1

layouts_few : (bytes : List ℕ) (index : ℕ) (characters : List CharacterRow) → IfOk (layouts_in bytes index characters) AreFewRows
layouts_few bytes index characters =
    then_if (λ d. definition_row_count d ≤ layout_room) _ (and_then (table_in bytes index Gdef) definition_of) _
    (then_any _ (table_in bytes index Gdef) _ (λ t. definition_of_fits t)) (λ gdef h.
    then_if AreFewTables _ (tables_in bytes index characters (length gdef.sets)) _ (tables_few bytes index characters (length gdef.sets)) (λ tables k. (h, k)))

abbrev AreFewValues : Characters × LayoutValues → Type 0
AreFewValues v = HasFewCharacters v.0 × AreFewRows v.1

values_few : (bytes : List ℕ) (index : ℕ) → IfOk (characters_and_layouts bytes index) AreFewValues
values_few bytes index =
    then_if HasFewCharacters _ (characters_in bytes index) _ (characters_few bytes index) (λ c h.
    then_if AreFewRows _ (layouts_in bytes index c.0) _ (layouts_few bytes index c.0) (λ l k. (h, k)))

-- ---- metrics

record AreFewGlyphs (values : GlyphValues) : Type 0 where
  h : length values.h ≤ 65536
  v : length values.v ≤ 65536
  origins : length values.drawing.0.0 ≤ 65536
  extents : length values.drawing.0.1 ≤ 65536
  names : length values.drawing.1 ≤ 65536

abbrev IsFewDrawn : Drawing → Type 0
IsFewDrawn d = (length d.0.0 ≤ 65536) × (length d.0.1 ≤ 65536) × (length d.1 ≤ 65536)

drawing_few : (parts : FontParts) (bytes : List ℕ) (index : ℕ) (h : Headers) (horizontal vertical : Option (List ℕ) × ℕ) → h.count ≤ 65535
    → IfOk (drawing_in parts bytes index h horizontal vertical) IsFewDrawn
drawing_few parts bytes index h horizontal vertical small =
    then_if (λ o. length o.1 ≤ 65536) _ (drawn.outlines_in parts bytes index h horizontal) _ (outlines_length parts bytes index h horizontal) (λ outlines few.
    then_if (λ r. (length r.0 ≤ h.count) × (length r.1 ≤ h.count)) _ (origins_and_extents bytes index h outlines.0 vertical) _
    (then_if (λ r. length r ≤ h.count) _ (and_then (table_in bytes index Vorg) (origins_by h outlines.0 vertical)) _
    (then_any _ (table_in bytes index Vorg) _ (λ t. origins_length h outlines.0 vertical t)) (λ r k. (k, extents_length outlines.0 h.count))) (λ rows k.
    then_if (λ n. length n ≤ 65536) _ (drawn.names_in parts bytes index h.count outlines.1) _ (all_names_length parts bytes index h.count outlines.1 small few) (λ names m.
    (omega arith, omega arith, m))))

metrics_few : (parts : FontParts) (bytes : List ℕ) (index : ℕ) (h : Headers) → h.count ≤ 65535 → IfOk (metrics_of parts bytes index h) AreFewGlyphs
metrics_few parts bytes index h small =
    then_any _ (metrics_in bytes index Hhea Hmtx) _ (λ horizontal.
    then_any _ (metrics_in bytes index Vhea Vmtx) _ (λ vertical.
    then_if IsFewDrawn _ (drawing_in parts bytes index h horizontal vertical) _ (drawing_few parts bytes index h horizontal vertical small) (λ drawing k.
    let across = advances_length (bytes_or_none horizontal.0) horizontal.1 h.count in
    let down = vertical_length h vertical.0 vertical.1 in
    record { h = omega arith; v = omega arith; origins = k.0; extents = k.1; names = k.2 })))

-- ---- the face

parts_bounded : (parts : FontParts) (bytes : List ℕ) (index : ℕ) → AreBytes bytes → IfOk (parts_in parts bytes index) IsBounded
parts_bounded parts bytes index are =
    then_if (λ h. h.count ≤ 65535) _ (headers_in bytes index) _ (headers_small bytes index are) (λ h small.
    then_if AreFewGlyphs _ (metrics_of parts bytes index h) _ (metrics_few parts bytes index h small) (λ m g.
    then_if AreFewValues _ (characters_and_layouts bytes index) _ (values_few bytes index) (λ t k.
    record {
      characters = k.0;
      h = g.h;
      v = g.v;
      origins = g.origins;
      extents = g.extents;
      names = g.names;
      definitions = k.1.0;
      substitutions = k.1.1.0;
      positions = k.1.1.1;
    })))

pub face_bounded : (parts : FontParts) (bytes : List ℕ) (index : ℕ) → AreBytes bytes → IfOk (face_in parts bytes index) IsBounded
unfolding face_in
face_bounded parts bytes index are =
    then_if IsBounded _ (parts_in parts bytes index) _ (parts_bounded parts bytes index are) (λ face bounded. if_either _ (indices_fit face) (Ok face) _ bounded tt)

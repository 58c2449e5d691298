-- Lists by glyphs have at most as many rows as there are glyph numbers.
use Rattle.std.proofs.Common.{◌≡◌, ℕ, zero, suc, ℤ, ◌+◌, ◌*◌, ◌-◌, ◌<◌, ◌≤◌, ◌==◌, ◌||◌, nat_lt, min, Bool, true, false, if◌then◌else◌, List, [], ◌∷◌, length, slice_index, slice_range, find, drop, Option, Some, None, Result, Ok, Err, refl, inl, inr, arith}
use Rattle.std.specs.Result.{IfOk}
use Rattle.std.proofs.lemmas.Bool.{cases_lt}
use Rattle.std.proofs.lemmas.Bool.Decides.{nat_tests}
use Rattle.std.proofs.lemmas.List.{get_or_past}
use Rattle.std.proofs.lemmas.List.Elements.{All-take, All-drop}
use Rattle.std.proofs.Math.ListN.{length-append}
use Rattle.layout_face.specs.Names.{GlyphName}
use Rattle.layout_tables.specs.Keyed.{is_rising}
use Rattle.font_bytes.specs.declared.fault.TableFault.{TableFault}
use Rattle.font_bytes.specs.declared.fault.TableFault.TheVariants.{TooLarge}
use Rattle.font_bytes.specs.declared.directory.TableRecord.{TableRecord}
use Rattle.font_bytes.specs.declared.table_names.FontTable.{FontTable}
use Rattle.font_bytes.specs.declared.table_names.FontTable.TheVariants.{Head, Maxp, Vorg, Loca, Glyf, Cff, Cff2, Post}
use Rattle.font_bytes.specs.Directory.{directory, table_bytes, bytes_of_record, table_of, table_record}
use Rattle.font_bytes.specs.Records.{records}
use Rattle.font_bytes.specs.Room.{room_after}
use Rattle.font_bytes.specs.Tables.{tag_of_table}
use Rattle.font_bytes.specs.Words.{need, word, signed_word, long}
use Rattle.font_bytes.specs.Fault.{in_table}
use Rattle.font_charstrings.specs.declared.index.Index.{Index}
use Rattle.font_metrics.specs.declared.boxes.GlyphBox.{GlyphBox}
use Rattle.font_metrics.specs.declared.line.LineMetrics.{LineMetrics}
use Rattle.font_metrics.specs.Values.{value_row, value_rows}
use Rattle.font_metrics.specs.Header.{glyph_count, has_long_offsets, units_per_em}
use Rattle.font_metrics.specs.Advances.{advance_at, advance_rows, line_height, rows_of_height, height_rows}
use Rattle.font_metrics.specs.Origins.{box_origin_at, origin_records, vorg_origin, vorg_origins}
use Rattle.font_metrics.specs.Extents.{extents_at, extent_rows}
use Rattle.font_names.specs.Names as post
use Rattle.font_names.specs.Strings.{macintosh_strings, string_in, string_starts, latin_text}
use Rattle.font_cff.specs.declared.glyphs.CffParts.{CffParts}
use Rattle.font_cff.specs.Names as cff
use Rattle.font_cff.specs.Glyphs.{outlines_of, wanted_boxes, wanted_names, glyphs_of, cff_at}
use Rattle.font_file.specs.declared.headers.Headers.{Headers}
use Rattle.font_file.specs.declared.parts.FontParts.{FontParts}
use Rattle.font_file.specs.Found.{table_in, present, required_table}
use Rattle.font_file.specs.Headers.{line_in, headers_in}
use Rattle.font_file.specs.Advances.{bytes_or_none, vertical_rows}
use Rattle.font_file.specs.Outlines as drawn
use Rattle.font_file.specs.Rooms.{outline_room}
use Rattle.font_file.specs.Face.{origins_by}
use Rattle.font_laws.specs.Bounds.{AreBytes}
use Rattle.font_laws.proofs.Within.{then_if, then_any, if_either, weaker}
use Rattle.font_laws.proofs.Totals.{unless_short}

-- ---- numGlyphs

-- a value of a table
pub in_table_if : {A : Type 0} (P : A → Type 0) (table : Option FontTable) (x : Result A TableFault) → IfOk x P → IfOk (in_table table x) P
in_table_if P table (Ok a) h = h
in_table_if P table (Err e) h = tt

abbrev AreBytesIfAny : Option (List ℕ) → Type 0
AreBytesIfAny None = Unit {0}
AreBytesIfAny (Some bytes) = AreBytes bytes

range_bytes : (bytes : List ℕ) (from to : ℕ) → AreBytes bytes → AreBytes (slice_range bytes from to)
range_bytes bytes from to h = All-take (λ b. b < 256) (to - from) (drop from bytes) (All-drop (λ b. b < 256) from bytes h)

record_bytes : (bytes : List ℕ) → AreBytes bytes → (r : Option TableRecord) → IfOk (bytes_of_record bytes r) AreBytesIfAny
record_bytes bytes h None = tt
record_bytes bytes h (Some r) =
    then_if AreBytes _ (table_bytes bytes r) _ (then_any _ (need bytes r.offset r.length) _ (λ _. range_bytes bytes r.offset (r.offset + r.length) h)) (λ t k. k)

table_bytes_in : (bytes : List ℕ) (index : ℕ) (table : FontTable) → AreBytes bytes → IfOk (table_in bytes index table) AreBytesIfAny
table_bytes_in bytes index table h =
    in_table_if AreBytesIfAny None (table_of bytes index (tag_of_table table))
    (then_any _ (directory bytes index) _ (λ d. record_bytes bytes h (find (λ r. r.tag == tag_of_table table) (records (table_record bytes) 16 (d.0 + 12) d.1))))

present_bytes : (table : FontTable) (t : Option (List ℕ)) → AreBytesIfAny t → IfOk (present table t) AreBytes
present_bytes table None h = tt
present_bytes table (Some bytes) h = h

required_bytes : (bytes : List ℕ) (index : ℕ) (table : FontTable) → AreBytes bytes → IfOk (required_table bytes index table) AreBytes
required_bytes bytes index table h = then_if AreBytesIfAny _ (table_in bytes index table) _ (table_bytes_in bytes index table h) (λ t k. present_bytes table t k)

byte_small : (bytes : List ℕ) (i : ℕ) → AreBytes bytes → slice_index bytes i < 256
byte_small bytes i h = elim (cases_lt i (length bytes)) [ inl inside ↦ h i 0 inside | inr past ↦ let none = get_or_past bytes i 0 past in omega arith ]

word_small : (bytes : List ℕ) (at : ℕ) → AreBytes bytes → word bytes at ≤ 65535
unfolding word
word_small bytes at h = let high = byte_small bytes at h in let low = byte_small bytes (at + 1) h in omega arith

count_small : (maxp : List ℕ) → AreBytes maxp → IfOk (glyph_count maxp) (λ n. n ≤ 65535)
count_small maxp h = then_any _ (need maxp 0 6) _ (λ _. word_small maxp 4 h)

-- a font has at most as many glyphs as maxp can say
pub headers_small : (bytes : List ℕ) (index : ℕ) → AreBytes bytes → IfOk (headers_in bytes index) (λ h. h.count ≤ 65535)
headers_small bytes index h =
    then_any _ (required_table bytes index Head) _ (λ head.
    then_any _ (in_table (Some Head) (units_per_em head)) _ (λ upem.
    then_any _ (in_table (Some Head) (has_long_offsets head)) _ (λ is_long.
    then_if AreBytes _ (required_table bytes index Maxp) _ (required_bytes bytes index Maxp h) (λ maxp k.
    then_if (λ n. n ≤ 65535) _ (in_table (Some Maxp) (glyph_count maxp)) _ (in_table_if (λ n. n ≤ 65535) (Some Maxp) (glyph_count maxp) (count_small maxp k)) (λ n small.
    then_any _ (line_in bytes index) _ (λ line. small))))))

-- ---- metrics

value_row_length : {V : Type 0} (g : ℕ) (v : Option V) → length (value_row g v) ≤ 1
value_row_length g None = omega arith
value_row_length g (Some v) = omega arith

values_length : {V : Type 0} (value : ℕ → Option V) (g count : ℕ) → length (value_rows value g count) ≤ count
values_length value g zero = omega arith
values_length value g (suc count) =
    let one = value_row_length g (value g) in
    let rest = values_length value (g + 1) count in
    let split = length-append (value_row g (value g)) (value_rows value (g + 1) count) in
    omega arith

pub advances_length : (table : List ℕ) (long count : ℕ) → length (advance_rows table long count) ≤ count
unfolding advance_rows
advances_length table long count =
    unless_short (long == 0) (value_rows (λ g. Some (advance_at table long g)) 0 count) count (values_length (λ g. Some (advance_at table long g)) 0 count)

height_length : (height : Option ℕ) (upem count : ℕ) → length (rows_of_height height upem count) ≤ count
height_length None upem count = omega arith
height_length (Some height) upem count =
    unless_short (height == upem) (value_rows (λ (g : ℕ). Some height) 0 count) count (values_length (λ (g : ℕ). Some height) 0 count)

heights_length : (line : LineMetrics) (upem count : ℕ) → length (height_rows line upem count) ≤ count
unfolding height_rows
heights_length line upem count = height_length (line_height line) upem count

pub vertical_length : (h : Headers) (table : Option (List ℕ)) (long : ℕ) → length (vertical_rows h table long) ≤ h.count
vertical_length h None long = heights_length h.line h.upem h.count
vertical_length h (Some table) long = advances_length table long h.count

vorg_length : (table : List ℕ) (ascender : ℤ) (count : ℕ) → IfOk (vorg_origins table ascender count) (λ rows. length rows ≤ count)
unfolding vorg_origins
vorg_length table ascender count =
    then_any _ (origin_records table) _ (λ rows. values_length (vorg_origin rows (record { usual = signed_word table 4; ascender = ascender })) 0 count)

pub origins_length : (h : Headers) (boxes : List GlyphBox) (metrics : Option (List ℕ) × ℕ) (vorg : Option (List ℕ))
    → IfOk (origins_by h boxes metrics vorg) (λ rows. length rows ≤ h.count)
origins_length h boxes metrics None = values_length (box_origin_at boxes (bytes_or_none metrics.0) metrics.1 h.line) 0 h.count
origins_length h boxes metrics (Some table) = in_table_if (λ rows. length rows ≤ h.count) (Some Vorg) (vorg_origins table h.line.ascender h.count) (vorg_length table h.line.ascender h.count)

pub extents_length : (boxes : List GlyphBox) (count : ℕ) → length (extent_rows boxes count) ≤ count
extents_length boxes count = values_length (extents_at boxes) 0 count

-- ---- the names of post

abbrev named : ℕ → List ℕ → List GlyphName
named g name = record { glyph = g; name = latin_text name } ∷ []

name_list_length : (g : ℕ) (name : List ℕ) → length (post.name_row g name) ≤ 1
name_list_length g name = unless_short (length name == 0) (named g name) 1 (omega arith)

name_rows_length : (name : ℕ → List ℕ) (g count : ℕ) → length (post.name_rows name g count) ≤ count
name_rows_length name g zero = omega arith
name_rows_length name g (suc count) =
    let one = name_list_length g (name g) in
    let rest = name_rows_length name (g + 1) count in
    let split = length-append (post.name_row g (name g)) (post.name_rows name (g + 1) count) in
    omega arith

standard_length : (count : ℕ) → length (post.standard_rows count) ≤ count
unfolding post.standard_rows
standard_length count =
    let few = name_rows_length (string_in macintosh_strings (string_starts macintosh_strings 0 258)) 0 (min count 258) in omega arith

indexed_length : (table : List ℕ) (glyphs count : ℕ) → length (post.indexed_rows table glyphs count) ≤ count
unfolding post.indexed_rows
indexed_length table glyphs count =
    name_rows_length (λ g. post.indexed_name table (string_starts table (34 + 2 * glyphs) 65278) (string_starts macintosh_strings 0 258) (word table (34 + 2 * g))) 0 count

indexed_names_length : (table : List ℕ) (count : ℕ) → IfOk (post.indexed_names table count) (λ rows. length rows ≤ count)
unfolding post.indexed_names
indexed_names_length table count =
    then_any _ (need table 32 2) _ (λ _. then_any _ (need table 34 (2 * word table 32)) _ (λ _.
    let few = indexed_length table (word table 32) (min count (word table 32)) in omega arith))

names_length : (table : List ℕ) (count : ℕ) → IfOk (post.names_at table count) (λ rows. length rows ≤ count)
unfolding post.names_at
names_length table count =
    then_any _ (need table 0 32) _ (λ _.
    if_either _ (long table 0 == 65536) (Ok (post.standard_rows count)) _ (standard_length count)
    (if_either _ (long table 0 == 131072) (post.indexed_names table count) (Ok []) (indexed_names_length table count) (omega arith)))

of_post_length : (count : ℕ) (table : List ℕ) → IfOk (drawn.names_of_post count table) (λ rows. length rows ≤ count)
unfolding drawn.names_of_post
of_post_length count table = in_table_if (λ rows. length rows ≤ count) (Some Post) (post.names_at table count) (names_length table count)

post_length : (count : ℕ) (table : Option (List ℕ)) → IfOk (drawn.post_names count table) (λ rows. length rows ≤ count)
post_length count None = omega arith
post_length count (Some table) = of_post_length count table

-- ---- the names of CFF

abbrev cff_named : ℕ → List ℕ → List GlyphName
cff_named g bytes = record { glyph = g; name = cff.text_of bytes } ∷ []

cff_row_length : (table : List ℕ) (strings : Index) (room glyph sid : ℕ) → IfOk (cff.name_rows table strings room glyph sid) (λ r. length r.0 ≤ 1)
unfolding cff.name_rows
cff_row_length table strings room glyph sid =
    then_any _ (cff.name_bytes table strings sid) _ (λ bytes. then_any _ (room_after room (length bytes)) _ (λ left.
    unless_short (length bytes == 0) (cff_named glyph bytes) 1 (omega arith)))

cff_from_length : (table : List ℕ) (strings : Index) (room glyph : ℕ) (sids : List ℕ) → IfOk (cff.names_from table strings room glyph sids) (λ r. length r.0 ≤ length sids)
cff_from_length table strings room glyph [] = omega arith
cff_from_length table strings room glyph (sid ∷ sids) =
    then_if (λ r. length r.0 ≤ 1) _ (cff.name_rows table strings room glyph sid) _ (cff_row_length table strings room glyph sid) (λ r h.
    then_if (λ s. length s.0 ≤ length sids) _ (cff.names_from table strings r.1 (glyph + 1) sids) _ (cff_from_length table strings r.1 (glyph + 1) sids) (λ s k.
    let split = length-append r.0 s.0 in omega arith))

abbrev names_or_refusal : Bool → Result (List GlyphName × ℕ) TableFault → Result (List GlyphName × ℕ) TableFault
names_or_refusal t names = if t then Err TooLarge else names

few_if_not_many : (sids : List ℕ) (t : Bool) (names : Result (List GlyphName × ℕ) TableFault) → nat_lt 65536 (length sids) ≡ t
    → IfOk names (λ r. length r.0 ≤ length sids) → IfOk (names_or_refusal t names) (λ r. length r.0 ≤ 65536)
few_if_not_many sids true names e h = tt
few_if_not_many sids false names e h =
    let few : length sids ≤ 65536 = grind (arith, nat_tests) in
    weaker (λ r. length r.0 ≤ length sids) _ names h (λ r k. omega arith)

cff_names_length : (table : List ℕ) (strings : Index) (room : ℕ) (sids : List ℕ) → IfOk (cff.names_of table strings room sids) (λ r. length r.0 ≤ 65536)
cff_names_length table strings room sids =
    few_if_not_many sids (nat_lt 65536 (length sids)) (cff.names_from table strings room 0 sids) refl (cff_from_length table strings room 0 sids)

cff_length : (table : List ℕ) (is_cff2 : Bool) (parts : CffParts) (room : ℕ) → IfOk (cff_at table is_cff2 parts room) (λ r. length r.0.names ≤ 65536)
unfolding cff_at glyphs_of
cff_length table is_cff2 parts room =
    then_any _ (outlines_of table is_cff2 room) _ (λ o.
    then_any _ (wanted_boxes table o.0.0 o.0.1 o.0.2 o.0.3 parts o.1) _ (λ boxes.
    then_if (λ r. length r.0 ≤ 65536) _ (wanted_names table o.0.0 o.0.3 parts boxes.1) _
    (if_either _ parts.names (cff.names_of table o.0.0.strings boxes.1 o.0.3) (Ok ([], boxes.1)) (cff_names_length table o.0.0.strings boxes.1 o.0.3) (omega arith)) (λ r h. h)))

-- ---- the names of outlines

abbrev HasFewNames : drawn.Outlines → Type 0
HasFewNames o = length o.1 ≤ 65536

of_cff_length : (parts : FontParts) (name : FontTable) (is_cff2 : Bool) (table : List ℕ) → IfOk (drawn.outlines_of_cff parts name is_cff2 table) HasFewNames
of_cff_length parts name is_cff2 table =
    if_either _ (parts.extents || parts.names) _ (Ok drawn.no_outlines)
    (then_if (λ r. length r.0.names ≤ 65536) _ (in_table (Some name) (cff_at table is_cff2 (drawn.cff_parts parts) (outline_room table))) _
    (in_table_if (λ r. length r.0.names ≤ 65536) (Some name) (cff_at table is_cff2 (drawn.cff_parts parts) (outline_room table)) (cff_length table is_cff2 (drawn.cff_parts parts) (outline_room table))) (λ r h. h))
    (omega arith)

cff2_length : (parts : FontParts) (t : Option (List ℕ)) → IfOk (drawn.outlines_of_cff2 parts t) HasFewNames
cff2_length parts None = omega arith
cff2_length parts (Some table) = of_cff_length parts Cff2 true table

without_glyf_length : (parts : FontParts) (bytes : List ℕ) (index : ℕ) (t : Option (List ℕ)) → IfOk (drawn.outlines_without_glyf parts bytes index t) HasFewNames
without_glyf_length parts bytes index (Some table) = of_cff_length parts Cff false table
without_glyf_length parts bytes index None = then_any _ (table_in bytes index Cff2) _ (λ t. cff2_length parts t)

outlines_by_length : (parts : FontParts) (bytes : List ℕ) (index : ℕ) (h : Headers) (metrics : Option (List ℕ) × ℕ) (t : Option (List ℕ))
    → IfOk (drawn.outlines_by parts bytes index h metrics t) HasFewNames
outlines_by_length parts bytes index h metrics (Some glyf) =
    if_either _ parts.extents _ (Ok drawn.no_outlines) (then_any _ (required_table bytes index Loca) _ (λ loca. omega arith)) (omega arith)
outlines_by_length parts bytes index h metrics None = then_any _ (table_in bytes index Cff) _ (λ t. without_glyf_length parts bytes index t)

pub outlines_length : (parts : FontParts) (bytes : List ℕ) (index : ℕ) (h : Headers) (metrics : Option (List ℕ) × ℕ)
    → IfOk (drawn.outlines_in parts bytes index h metrics) HasFewNames
outlines_length parts bytes index h metrics = then_any _ (table_in bytes index Glyf) _ (λ t. outlines_by_length parts bytes index h metrics t)

-- ---- all names

beside_length : (bytes : List ℕ) (index count : ℕ) (names : List GlyphName) → count ≤ 65535 → length names ≤ 65536
    → IfOk (drawn.names_beside bytes index count names) (λ rows. length rows ≤ 65536)
beside_length bytes index count [] small few =
    then_any _ (table_in bytes index Post) _ (λ t. weaker (λ rows. length rows ≤ count) _ (drawn.post_names count t) (post_length count t) (λ rows k. omega arith))
beside_length bytes index count (name ∷ names) small few = if_either _ (is_rising (λ r. r.glyph) None (name ∷ names)) (Ok (name ∷ names)) _ few tt

pub all_names_length : (parts : FontParts) (bytes : List ℕ) (index count : ℕ) (names : List GlyphName) → count ≤ 65535 → length names ≤ 65536
    → IfOk (drawn.names_in parts bytes index count names) (λ rows. length rows ≤ 65536)
all_names_length parts bytes index count names small few =
    if_either _ parts.names (drawn.names_beside bytes index count names) (Ok []) (beside_length bytes index count names small few) (omega arith)

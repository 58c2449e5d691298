-- The names of glyphs (TN 5176, 10 and 13).
use Rattle.std.specs.Prelude.{ℕ, ◌+◌, ◌-◌, ◌==◌, nat_lt, if◌then◌else◌, List, [], ◌∷◌, length, slice_range, Result, Ok, Err}
use Rattle.std.specs.Str.{encode_utf8_all}
use Rattle.font_bytes.specs.declared.fault.TableFault.{TableFault}
use Rattle.font_bytes.specs.declared.fault.TableFault.TheVariants.{TooLarge}
use Rattle.font_bytes.specs.Results.{and_then}
use Rattle.font_bytes.specs.Room.{room_after}
use Rattle.font_common.specs.Offsets.{after}
use Rattle.font_charstrings.specs.declared.index.Index.{Index}
use Rattle.font_charstrings.specs.Index.{object}
use Rattle.font_strings.specs.Standard.{standard_string}
use Rattle.layout_face.specs.Names.{GlyphName}

-- the bytes of the string with a number: of 391 standard strings, or of the String INDEX
unfoldable pub name_bytes : List ℕ → Index → ℕ → Result (List ℕ) TableFault
name_bytes table strings sid = if nat_lt sid 391 then Ok (standard_string sid)
    else and_then (object table strings (sid - 391)) (λ span. Ok (slice_range table span.at span.end))

-- the text of bytes, each of which is a character (ISO 8859-1)
abbrev pub text_of : List ℕ → List ℕ
text_of bytes = encode_utf8_all bytes

-- the name of a glyph, none where it is empty; its bytes take room
unfoldable pub name_rows : List ℕ → Index → ℕ → ℕ → ℕ → Result (List GlyphName × ℕ) TableFault
name_rows table strings room glyph sid = and_then (name_bytes table strings sid) (λ bytes. and_then (room_after room (length bytes)) (λ left.
    Ok (if length bytes == 0 then [] else record { glyph = glyph; name = text_of bytes } ∷ [], left)))

-- the names of glyphs from one on, by their string numbers
abbrev pub names_from : List ℕ → Index → ℕ → ℕ → List ℕ → Result (List GlyphName × ℕ) TableFault
names_from table strings room glyph [] = Ok ([], room)
names_from table strings room glyph (sid ∷ sids) = and_then (name_rows table strings room glyph sid) (λ r. after r.0 (names_from table strings r.1 (glyph + 1) sids))

-- the names of all glyphs
abbrev pub names_of : List ℕ → Index → ℕ → List ℕ → Result (List GlyphName × ℕ) TableFault
names_of table strings room sids = if nat_lt 65536 (length sids) then Err TooLarge else names_from table strings room 0 sids

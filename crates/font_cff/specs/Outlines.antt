-- The control box of a glyph's outline (TN 5177).
use Rattle.std.specs.Prelude.{ℕ, ◌+◌, ◌-◌, ◌/◌, ◌==◌, nat_lt, nat_le, min, ℤ, pos, neg_ℤ, true, false, if◌then◌else◌, List, [], ◌∷◌, length, slice_index, slice_get, position, Option, Some, None, Result, Ok, Err}
use Rattle.font_bytes.specs.declared.fault.TableFault.{TableFault}
use Rattle.font_bytes.specs.declared.fault.TableFault.TheVariants.{Kind}
use Rattle.font_bytes.specs.Results.{and_then}
use Rattle.font_bytes.specs.Room.{room_after}
use Rattle.font_charstrings.specs.declared.pen.Pen.{Pen}
use Rattle.font_charstrings.specs.declared.operators.Run.{Run}
use Rattle.font_charstrings.specs.declared.index.Span.{Span}
use Rattle.font_charstrings.specs.declared.machine.Context.{Context}
use Rattle.font_charstrings.specs.Pen.{new_pen, moved_pen}
use Rattle.font_charstrings.specs.Index.{object}
use Rattle.font_charstrings.specs.Machine.{state, runs}
use Rattle.font_strings.specs.Standard.{standard_code}
use Rattle.font_cff.specs.declared.header.Cff.{Cff}
use Rattle.font_cff.specs.declared.fonts.Private.{Private}
use Rattle.font_cff.specs.declared.outlines.Accent.{Accent}
use Rattle.font_metrics.specs.declared.boxes.GlyphBox.{GlyphBox}

-- the nearest whole number of font units, of two the one farther from 0, within 31 bits
unfoldable pub whole : ℕ → ℤ
whole c = if nat_le 9223372036854775808 c
    then pos (min ((c - 9223372036854775808 + 32768) / 65536) 2147483647)
    else neg_ℤ (pos (min ((9223372036854775808 - c + 32768) / 65536) 2147483647))

-- the box of what a pen has drawn, empty where it has drawn nothing
unfoldable pub box_of : Pen → GlyphBox
box_of pen = if nat_lt pen.right pen.left then record { left = pos 0; bottom = pos 0; right = pos 0; top = pos 0 }
    else record { left = whole pen.left; bottom = whole pen.bottom; right = whole pen.right; top = whole pen.top }

-- a charstring before its first byte
unfoldable pub start_run : Span → Pen → ℕ → Run
start_run span pen regions = record { pen = pen; at = span.at; end = span.end; stems = 0; regions = regions; is_done = false }

-- a pen with the box of another one, from the origin moved by two operands on
unfoldable pub start_pen : Pen → ℕ → ℕ → Pen
start_pen pen dx dy = moved_pen (record { x = 9223372036854775808; y = 9223372036854775808; left = pen.left; bottom = pen.bottom; right = pen.right; top = pen.top; is_open = false }) dx dy

-- adx ady bchar achar endchar (TN 5177, appendix C): the last four operands
unfoldable pub accent_of : List ℕ → Accent
accent_of stack = record {
  dx = slice_index stack (length stack - 4);
  dy = slice_index stack (length stack - 3);
  base = slice_index stack (length stack - 2);
  accent = slice_index stack (length stack - 1);
}

-- the first glyph with a string number
unfoldable pub first_glyph : List ℕ → ℕ → Option ℕ
first_glyph sids sid = position (λ s. s == sid) sids

-- a glyph that was found, if the room is enough for those before it
abbrev pub glyph_in_room : ℕ → ℕ → Option ℕ → Result (ℕ × ℕ) TableFault
glyph_in_room at room None = Err (Kind at)
glyph_in_room at room (Some glyph) = and_then (room_after room glyph) (λ left. Ok (glyph, left))

-- the first glyph that the charset gives the character with a code of the standard encoding
unfoldable pub component : List ℕ → ℕ → ℕ → ℕ → Result (ℕ × ℕ) TableFault
component sids operand at room = if nat_lt 255 (operand / 65536) then Err (Kind at)
    else glyph_in_room at room (first_glyph sids (standard_code (operand / 65536)))

-- the index of a glyph's private DICT
unfoldable pub dict_index : List ℕ → ℕ → ℕ → Result ℕ TableFault
dict_index selects glyph at = if length selects == 0 then Ok 0
    else (if nat_lt glyph (length selects) then Ok (slice_index selects glyph) else Err (Kind at))

-- a value that is there
abbrev pub some_private : ℕ → Option Private → Result Private TableFault
some_private at None = Err (Kind at)
some_private at (Some p) = Ok p

-- the private DICT with an index
abbrev pub private_at : List Private → ℕ → ℕ → Result Private TableFault
private_at privates index at = some_private at (slice_get privates index)

-- what the charstrings of a private DICT share
unfoldable pub context_of : Cff → Private → Context
context_of cff p = record { global = cff.global; local = p.local; store = cff.top.store }

-- the pen after the charstring of a glyph, and the operands that it leaves; the glyph takes a row of room
unfoldable pub charstring_run : List ℕ → Cff → List Private → List ℕ → ℕ → ℕ → Pen → Result ((Pen × List ℕ) × ℕ) TableFault
charstring_run table cff privates selects room glyph pen =
    and_then (dict_index selects glyph cff.top.selects) (λ index.
    and_then (private_at privates index cff.top.fonts) (λ p.
    and_then (object table cff.glyphs glyph) (λ span.
    and_then (room_after room 1) (λ left.
    and_then (runs table (context_of cff p) left (state (start_run span pen p.regions) [] [])) (λ r.
    Ok ((r.0.run.pen, r.0.stack), r.1))))))

-- the pen after a part of a composed glyph, which isn't composed itself
unfoldable pub part_pen : List ℕ → Cff → List Private → List ℕ → ℕ → ℕ → Pen → Result (Pen × ℕ) TableFault
part_pen table cff privates selects room glyph pen = and_then (charstring_run table cff privates selects room glyph pen) (λ r.
    if nat_le 4 (length r.0.1) then Err (Kind cff.glyphs.offsets) else Ok (r.0.0, r.1))

-- the pen after base and accent
unfoldable pub composed_pen : List ℕ → Cff → List Private → List ℕ → List ℕ → ℕ → Accent → Pen → Result (Pen × ℕ) TableFault
composed_pen table cff privates selects sids room accent pen =
    and_then (component sids accent.base cff.glyphs.offsets room) (λ base.
    and_then (part_pen table cff privates selects base.1 base.0 (start_pen pen 0 0)) (λ drawn.
    and_then (component sids accent.accent cff.glyphs.offsets drawn.1) (λ mark.
    part_pen table cff privates selects mark.1 mark.0 (start_pen drawn.0 accent.dx accent.dy))))

-- the pen after a glyph
unfoldable pub glyph_pen : List ℕ → Cff → List Private → List ℕ → List ℕ → ℕ → ℕ → Result (Pen × ℕ) TableFault
glyph_pen table cff privates selects sids room glyph = and_then (charstring_run table cff privates selects room glyph new_pen) (λ r.
    if nat_lt (length r.0.1) 4 then Ok (r.0.0, r.1) else composed_pen table cff privates selects sids r.1 (accent_of r.0.1) r.0.0)

-- the box of a glyph
unfoldable pub glyph_box : List ℕ → Cff → List Private → List ℕ → List ℕ → ℕ → ℕ → Result (GlyphBox × ℕ) TableFault
glyph_box table cff privates selects sids room glyph = and_then (glyph_pen table cff privates selects sids room glyph) (λ r. Ok (box_of r.0, r.1))

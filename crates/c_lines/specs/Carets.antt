-- Carets of a text that C reads.
use Rattle.std.specs.Prelude.{ℕ, ◌≡◌, ◌⊎◌, if◌then◌else◌, List, length, map, Option, Some, None}
use Rattle.buffer_common.specs.declared.direction.Direction.{Direction}
use Rattle.buffer_common.specs.Direction.{is_horizontal}
use Rattle.buffer_core.specs.Sides.{Sides, all_glyphs}
use Rattle.c_lines.specs.declared.types.kus_caret_t.{kus_caret_t}
use Rattle.c_lines.specs.Numbers.{caret_fault_number}
use Rattle.c_text.specs.Fonts.{KeptFont}
use Rattle.c_text.specs.Written.{with_front}
use Rattle.caret_model.specs.declared.carets.Caret.{Caret}
use Rattle.caret_model.specs.declared.carets.CaretFault.{CaretFault}
use Rattle.caret_model.specs.Lines.{IsFaultTo, IsLineTo, Line}
use Rattle.font_carets.specs.declared.rows.LigatureCarets.{LigatureCarets}
use Rattle.caret_model.specs.Stops.{AreStops, carets_at_stops, carets_by_font}

-- a caret as C reads it
abbrev pub caret_of : Caret → kus_caret_t
caret_of c = record { index = c.byte; position = c.position }

-- the carets of a line along a direction and its glyphs: at stops inside of clusters of a horizontal line those that a font
-- gives for ligatures, as many as there are such stops, else even parts
abbrev pub carets_along : Direction → List LigatureCarets → Sides → Line → List ℕ → List Caret
carets_along d ligatures glyphs line stops = if is_horizontal d then carets_by_font line ligatures (all_glyphs glyphs) stops else carets_at_stops line stops

-- the carets of a result along a direction, whose text has `end` units, in the order of the text: those of its line
-- (`CaretModel`) and those at stops inside of clusters, by ligatures of a font; as many as there is room for are written, and all are counted
pub record AreCaretsOf (d : Direction) (ligatures : List LigatureCarets) (glyphs : Sides) (end : ℕ) (stops : List ℕ) (room now : List kus_caret_t) (count : ℕ) : Type 0 where
  pub line : Line
  pub is : IsLineTo d glyphs end line
  pub may : AreStops end 0 stops
  pub all : count ≡ length (carets_along d ligatures glyphs line stops)
  pub written : now ≡ with_front (map caret_of (carets_along d ligatures glyphs line stops)) room

-- a fault of carets as `CaretModel::of_units` answers it
pub record IsLineRefusal (d : Direction) (glyphs : Sides) (end number : ℕ) : Type 0 where
  pub fault : CaretFault
  pub same : number ≡ caret_fault_number fault
  pub holds : IsFaultTo d glyphs end fault

-- the number of why a result has no carets: it has no line, or the stops don't rise up to the end of the text
abbrev pub IsCaretsRefusal : Direction → Sides → ℕ → List ℕ → ℕ → Type 0
IsCaretsRefusal d glyphs end stops number = IsLineRefusal d glyphs end number ⊎ ((number ≡ 33) × (¬ AreStops end 0 stops))

-- the number of why there are no carets: no font, or what the font's glyphs have
abbrev pub IsCaretsFault : Option KeptFont → ℕ → List ℕ → ℕ → Type 0
IsCaretsFault None end stops number = number ≡ 16
IsCaretsFault (Some f) end stops number = IsCaretsRefusal f.segment.direction f.glyphs end stops number

-- Carets inside of clusters too, at stops that a caller names.
use Rattle.std.specs.Prelude.{ℕ, ℤ, pos, ◌≡◌, ◌≤◌, ◌<◌, ◌+◌, ◌-◌, ◌*◌, ◌/◌, ◌%◌, ◌==◌, ◌&&◌, ◌+ℤ◌, ◌-ℤ◌, int_lt, min, Bool, true, false, nat_lt, if◌then◌else◌, List, [], ◌∷◌, ◌++◌, length, reverse, slice_get}
use Rattle.std.specs.Int.RustNames.{unsigned_abs}
use Rattle.std.specs.List.{filter}
use Rattle.font_carets.specs.declared.rows.LigatureCarets.{LigatureCarets}
use Rattle.kuspveli.specs.buffer_glyphs.declared.info.hb_glyph_info_t.{hb_glyph_info_t}
use Rattle.kuspveli.specs.shape_slices.declared.slices.SourceSlice.{SourceSlice}
use Rattle.caret_model.specs.declared.carets.Caret.{Caret}
use Rattle.caret_model.specs.Ligatures.{run_carets}
use Rattle.caret_model.specs.Lines.{Line}

-- stops of a text that ends at a byte, after a last one: they rise, and none is past the end
abbrev pub AreStops : ℕ → ℕ → List ℕ → Type 0
AreStops end last [] = Unit {0}
AreStops end last (s ∷ ss) = last < s × s ≤ end × AreStops end s ss

-- whether a stop is between two bytes
abbrev pub is_between : ℕ → ℕ → ℕ → Bool
is_between from to stop = nat_lt from stop && nat_lt stop to

-- the stops between two bytes
abbrev pub stops_between : List ℕ → ℕ → ℕ → List ℕ
stops_between stops from to = filter (is_between from to) stops

-- how far the first j of n steps lead that divide a distance evenly: where n doesn't divide it, the first ones are longer by a unit
abbrev pub steps_length : ℕ → ℕ → ℕ → ℕ
steps_length distance n j = distance / n * j + min j (distance % n)

-- a position that is moved towards another one
abbrev pub moved_towards : ℤ → ℤ → ℕ → ℤ
moved_towards from to by = if int_lt to from then from -ℤ pos by else from +ℤ pos by

-- the caret at a stop that is the j-th of n steps from a caret to the next one
abbrev pub divided_caret : Caret → Caret → ℕ → ℕ → ℕ → Caret
divided_caret c d n j stop = record { byte = stop; position = moved_towards c.position d.position (steps_length (unsigned_abs (d.position -ℤ c.position)) n j) }

-- the carets at stops from the j-th of n steps on
abbrev pub divided_carets : Caret → Caret → ℕ → ℕ → List ℕ → List Caret
divided_carets c d n j [] = []
divided_carets c d n j (s ∷ ss) = divided_caret c d n j s ∷ divided_carets c d n (j + 1) ss

-- the carets at all stops between a caret and the next one, which divide what is between them evenly
abbrev pub carets_between : Caret → Caret → List ℕ → List Caret
carets_between c d ss = divided_carets c d (length ss + 1) 1 ss

-- what stands from left to right in the order of the text: on a backward line from the right end
abbrev pub in_text_order : {X : Type 0} → Bool → List X → List X
in_text_order false xs = xs
in_text_order true xs = reverse xs

-- how far a font's caret is from the left edge of a cluster: a coordinate below 0 counts as 0
abbrev pub distance_of : ℤ → ℕ
distance_of x = if int_lt x (pos 0) then 0 else unsigned_abs x

-- a position that is so far from one edge of a cluster, up to the other edge
abbrev pub position_within : ℤ → ℤ → ℤ → ℤ
position_within left right x = moved_towards left right (min (distance_of x) (unsigned_abs (right -ℤ left)))

-- the caret at a stop between two carets of the text, by the font's coordinate from the left one of them
abbrev pub given_caret : Bool → Caret → Caret → ℤ → ℕ → Caret
given_caret false c d x stop = record { byte = stop; position = position_within c.position d.position x }
given_caret true c d x stop = record { byte = stop; position = position_within d.position c.position x }

-- the carets at stops between two carets of the text, by coordinates in the text's order
abbrev pub given_carets : Bool → Caret → Caret → List ℕ → List ℤ → List Caret
given_carets b c d [] xs = []
given_carets b c d (s ∷ ss) [] = []
given_carets b c d (s ∷ ss) (x ∷ xs) = given_caret b c d x s ∷ given_carets b c d ss xs

-- the carets at all stops inside of a cluster: at the coordinates that the font gives, from left to right, where they are as
-- many, else they divide the cluster evenly
abbrev pub inner_carets : Bool → List ℤ → Caret → Caret → List ℕ → List Caret
inner_carets b xs c d ss = if length xs == length ss then given_carets b c d ss (in_text_order b xs) else carets_between c d ss

-- after a caret, the carets of the next clusters and those at the stops inside of each, by the coordinates that the font gives
-- for the cluster before the caret with an index
abbrev pub carets_after : Bool → (ℕ → List ℤ) → List ℕ → ℕ → Caret → List Caret → List Caret
carets_after b own stops i c [] = []
carets_after b own stops i c (d ∷ ds) = inner_carets b (own i) c d (stops_between stops c.byte d.byte) ++ d ∷ carets_after b own stops (i + 1) d ds

-- carets in the order of the text with those at stops between them
abbrev pub with_stops : Bool → (ℕ → List ℤ) → List ℕ → List Caret → List Caret
with_stops b own stops [] = []
with_stops b own stops (c ∷ cs) = c ∷ carets_after b own stops 1 c cs

-- the coordinates that a font gives for the cluster before the caret with an index, in the order of the text
abbrev pub own_carets : List LigatureCarets → List hb_glyph_info_t → List SourceSlice → Bool → ℕ → List ℤ
own_carets ligatures glyphs slices b i = run_carets ligatures glyphs (slice_get (in_text_order b slices) (i - 1))

-- the carets of a line in the order of the text, also those at stops inside of clusters, by ligatures of a font and the line's
-- glyphs
abbrev pub carets_by_font : Line → List LigatureCarets → List hb_glyph_info_t → List ℕ → List Caret
carets_by_font l ligatures glyphs stops = with_stops l.backward (own_carets ligatures glyphs l.slices l.backward) stops (in_text_order l.backward l.carets)

-- the carets of a line in the order of the text, also those at stops inside of clusters, which divide these evenly
abbrev pub carets_at_stops : Line → List ℕ → List Caret
carets_at_stops l stops = carets_by_font l [] [] stops

-- Glyph records of the characters that replace others.
use Rattle.std.specs.Prelude.{ℕ, Bool, ◌≡◌, ◌++◌, ◌+◌, ◌∷◌, List, [], Option, Some, None, unwrap_or, map, slice_get, length, drop, true, false}
use Rattle.buffer_glyphs.specs.declared.info.hb_glyph_info_t.{hb_glyph_info_t}
use Rattle.buffer_properties.specs.Properties.{properties_of, character_class}
use Rattle.buffer_core.specs.Sides.{Sides}
use Rattle.buffer_core.specs.Merging.{with_glyph_skipped}
use Rattle.buffer_properties.specs.Normalizer.{Normalizer}

-- the glyph record of a half of a decomposed character
abbrev pub piece_glyph : Normalizer → hb_glyph_info_t → ℕ → hb_glyph_info_t
piece_glyph c g u = record g { glyph_id = u; glyph_index = unwrap_or (c.glyph_of u) 0; unicode_props = record { 0 = properties_of u }; modified_combining_class = character_class c.tables u }

-- the glyph records of the characters that replace one
abbrev pub piece_glyphs : Normalizer → List ℕ → Option hb_glyph_info_t → List hb_glyph_info_t
piece_glyphs c us None = []
piece_glyphs c us (Some g) = map (piece_glyph c g) us

-- the glyph at the cursor replaced by another one, over which the cursor moved
abbrev pub with_glyph_replaced : hb_glyph_info_t → Sides → Sides
with_glyph_replaced g s = record s { behind = s.behind ++ g ∷ []; ahead = drop 1 s.ahead; read = s.read + 1 }

-- the current glyph read, where the last character that replaces it was output
abbrev pub with_current_read : Bool → Sides → Sides
with_current_read true s = with_glyph_skipped s
with_current_read false s = s

-- characters of the current glyph were appended to the output, with which it was read where these are its last ones;
-- nothing else changes but whether the output is apart
abbrev pub HasHalvesOutput : Normalizer → List ℕ → Bool → Sides → Sides → Type 0
HasHalvesOutput c us last old new = new ≡ with_current_read last (record old { behind = old.behind ++ piece_glyphs c us (slice_get old.ahead 0); is_apart = new.is_apart })

-- characters were appended to the output, if there are any, and the call returns whether there were
abbrev pub Puts : Normalizer → Option (List ℕ) → Bool → Bool → Sides → Sides → Type 0
Puts c None last b old new = (b ≡ false) × (new ≡ old)
Puts c (Some us) last b old new = (b ≡ true) × HasHalvesOutput c us last old new

-- the number of characters, 0 for none
abbrev pub count_of : Option (List ℕ) → ℕ
count_of None = 0
count_of (Some us) = length us

-- The order of clusters along lines, and merges where vowels and syllables are written, by computation.
use Rattle.std.proofs.Common.{ℕ, ◌≡◌, true, false, [], ◌∷◌, refl}
use Rattle.buffer_common.specs.declared.direction.Direction.TheVariants.{BottomToTop, LeftToRight, RightToLeft, TopToBottom}
use Rattle.buffer_common.specs.Direction.{opposite}
use Rattle.buffer_common.specs.declared.constants.BufferFlags.{BufferFlags}
use Rattle.buffer_unicode_tables.specs.Hangul.{hangul_pair}
use Rattle.buffer_glyphs.specs.declared.level.BufferClusterLevel.{BufferClusterLevel}
use Rattle.buffer_glyphs.specs.declared.level.BufferClusterLevel.TheVariants.{MonotoneGraphemes, MonotoneCharacters, Characters, Graphemes}
use Rattle.buffer_glyphs.specs.Items.{Item}
use Rattle.buffer_glyphs.specs.Events.{MergeGrapheme, Replace, origins_after}
use Rattle.buffer_glyphs.specs.Origins.{Asks, Origin, numbers}
use Rattle.layout_face.specs.declared.parts.FaceParts.{FaceParts}
use Rattle.script_hangul.specs.Actions.{has_character}
use Rattle.shape_parts.specs.Lines.{falls_on_line}
use Rattle.shape_parts.specs.WrittenMerges.{written_characters, written_syllables}

-- "ab" from right to left in a script from left to right: the list is turned, and the direction with it
turned : falls_on_line true (opposite RightToLeft) ≡ falls_on_line false RightToLeft
turned = refl

turned_upward : falls_on_line true (opposite BottomToTop) ≡ falls_on_line false BottomToTop
turned_upward = refl

-- clusters that rise fall along a backward line, and rise along a forward one
backward : falls_on_line false RightToLeft ≡ true
backward = refl

forward : falls_on_line false LeftToRight ≡ false
forward = refl

downward : falls_on_line false TopToBottom ≡ false
downward = refl

-- ---- vowels and syllables that are written

abbrev o : ℕ → Origin
o c = record { cluster = c; flags = 0 }

abbrev flagged : ℕ → Origin
flagged c = record { cluster = c; flags = 3 }

abbrev none : Asks
none = record { concat = false; tatweel = false; breaks = false }

abbrev item : ℕ → Item
item u = record { number = u; glyph_index = 0; unicode_props = 0; class = 0; glyph_props = 0; lig_props = 0; syllable = 0; category = 0; auxiliary = 0; mask = 0 }

-- DO DEK and SARA AM: where graphemes merge, both halves are in the letter's cluster
after_letter : numbers (origins_after none MonotoneGraphemes (written_characters [] (item 0x0E14 ∷ item 0x0E33 ∷ [])) (o 0 ∷ o 3 ∷ [])) ≡ 0 ∷ 0 ∷ 0 ∷ []
after_letter = refl

-- else they stay in their own
apart_from_letter : numbers (origins_after none MonotoneCharacters (written_characters [] (item 0x0E14 ∷ item 0x0E33 ∷ [])) (o 0 ∷ o 3 ∷ [])) ≡ 0 ∷ 3 ∷ 3 ∷ []
apart_from_letter = refl

-- DO DEK, MAI CHATTAWA and SARA AM: the first half is moved before the mark, and merged with it at the monotone levels
before_mark : numbers (origins_after none MonotoneGraphemes (written_characters [] (item 0x0E14 ∷ item 0x0E4B ∷ item 0x0E33 ∷ [])) (o 0 ∷ o 0 ∷ o 6 ∷ [])) ≡ 0 ∷ 0 ∷ 0 ∷ 0 ∷ []
before_mark = refl

crossed_mark : numbers (origins_after none Graphemes (written_characters [] (item 0x0E14 ∷ item 0x0E4B ∷ item 0x0E33 ∷ [])) (o 0 ∷ o 0 ∷ o 6 ∷ [])) ≡ 0 ∷ 6 ∷ 0 ∷ 6 ∷ []
crossed_mark = refl

-- KIYEOK and A, of which the font has no syllable: they are merged once both are written
apart_written : (font : FaceParts) (flags : BufferFlags) (level : BufferClusterLevel) → has_character font 0xAC00 ≡ false → written_syllables font flags level (item 0x1100 ∷ item 0x1161 ∷ []) ≡ MergeGrapheme 0 2 ∷ []
unfolding hangul_pair
apart_written font flags level lacks = rw lacks refl

apart_merged : origins_after none MonotoneGraphemes (MergeGrapheme 0 2 ∷ []) (o 0 ∷ o 3 ∷ []) ≡ o 0 ∷ o 0 ∷ []
apart_merged = refl

apart_kept : origins_after none Characters (MergeGrapheme 0 2 ∷ []) (o 0 ∷ o 3 ∷ []) ≡ o 0 ∷ o 3 ∷ []
apart_kept = refl

-- at the level Graphemes, where clusters are in no order, the flags depend on when syllables are merged: one of the clusters 5
-- and 6 is composed, and one of 6 and 3 stays apart; merged before, the first is flagged
merged_before : origins_after none Graphemes (MergeGrapheme 2 4 ∷ Replace 0 2 1 ∷ []) (o 5 ∷ o 6 ∷ o 6 ∷ o 3 ∷ []) ≡ flagged 5 ∷ o 3 ∷ o 3 ∷ []
merged_before = refl

-- merged where it is written, it isn't
merged_where_written : origins_after none Graphemes (Replace 0 2 1 ∷ MergeGrapheme 1 3 ∷ []) (o 5 ∷ o 6 ∷ o 6 ∷ o 3 ∷ []) ≡ o 5 ∷ o 3 ∷ o 3 ∷ []
merged_where_written = refl

-- Small texts, by computation. Each character is a number, and the lists tell the part of each.
use Rattle.std.proofs.Common.{ℕ, ◌≡◌, inl, inr, false, [], ◌∷◌, map, arith, refl}
use Rattle.buffer_glyphs.specs.declared.level.BufferClusterLevel.TheVariants.{MonotoneGraphemes}
use Rattle.buffer_glyphs.specs.Parts.{JoinParts, ReplaceParts, DeletePart, CirclePart, ReverseParts, after_part_events}
use Rattle.buffer_glyphs.specs.Origins.{Origin, Asks, InList, numbers}
use Rattle.buffer_glyphs.specs.Order.{IsRising}
use Rattle.buffer_glyphs.specs.Events.{Merge, Replace, Arrange, Reverse, origins_after}
use Rattle.buffer_parts.specs.Keeping.{AreKept}
use Rattle.buffer_glyphs.specs.EventParts.{parts_of}
use Rattle.buffer_parts.specs.Orderly.{IsOrderly}
use Rattle.buffer_parts.specs.CharacterParts.{part_after}
use Rattle.buffer_parts.specs.Slices.{slices, text_of_slices}

abbrev o : ℕ → Origin
o c = record { cluster = c; flags = 0 }

abbrev none : Asks
none = record { concat = false; tatweel = false; breaks = false }

-- "ab", right to left: each grapheme is arranged, and the list reversed
turned : IsOrderly none MonotoneGraphemes (Arrange 0 (0 ∷ []) ∷ Arrange 1 (0 ∷ []) ∷ Reverse ∷ []) (o 0 ∷ o 1 ∷ [])
turned = (refl, (refl, (tt, tt)))

-- "e" with a mark, and "b", right to left: the grapheme was merged before it is turned
turned_grapheme : IsOrderly none MonotoneGraphemes (Merge InList 0 2 ∷ Reverse ∷ Arrange 1 (1 ∷ 0 ∷ []) ∷ []) (o 0 ∷ o 1 ∷ o 3 ∷ [])
turned_grapheme = (tt, (tt, (refl, tt)))

turned_parts : numbers (origins_after none MonotoneGraphemes (Merge InList 0 2 ∷ Reverse ∷ Arrange 1 (1 ∷ 0 ∷ []) ∷ []) (o 0 ∷ o 1 ∷ o 3 ∷ [])) ≡ after_part_events (parts_of MonotoneGraphemes (Merge InList 0 2 ∷ Reverse ∷ Arrange 1 (1 ∷ 0 ∷ []) ∷ [])) (0 ∷ 1 ∷ 3 ∷ [])
turned_parts = refl

-- a join unites all parts from the first to the last that occur in its stretch, and the part's number is the least
joined : map (part_after (JoinParts 1 3 ∷ []) (0 ∷ 1 ∷ 2 ∷ 3 ∷ [])) (0 ∷ 1 ∷ 2 ∷ 3 ∷ []) ≡ 0 ∷ 1 ∷ 1 ∷ 3 ∷ []
joined = refl

-- a ligature of "fi": one glyph, and the part of both characters
ligature : map (part_after (JoinParts 0 2 ∷ ReplaceParts 1 1 0 ∷ []) (0 ∷ 1 ∷ 2 ∷ [])) (0 ∷ 1 ∷ 2 ∷ []) ≡ 0 ∷ 0 ∷ 2 ∷ []
ligature = refl

-- deleting a part's last glyph unites it with the part before
deleted : map (part_after (DeletePart 1 ∷ []) (0 ∷ 1 ∷ 2 ∷ [])) (0 ∷ 1 ∷ 2 ∷ []) ≡ 0 ∷ 0 ∷ 2 ∷ []
deleted = refl

-- else with that of the glyph after
deleted_first : map (part_after (DeletePart 0 ∷ []) (0 ∷ 1 ∷ 2 ∷ [])) (0 ∷ 1 ∷ 2 ∷ []) ≡ 0 ∷ 0 ∷ 2 ∷ []
deleted_first = refl

-- in a text that runs backward the glyph before is that of the next character
deleted_backward : map (part_after (ReverseParts ∷ DeletePart 1 ∷ []) (0 ∷ 1 ∷ 2 ∷ [])) (0 ∷ 1 ∷ 2 ∷ []) ≡ 0 ∷ 1 ∷ 1 ∷ []
deleted_backward = refl

-- a glyph whose part has another goes without a trace; where no glyph remains, parts stay
deleted_one : map (part_after (JoinParts 0 2 ∷ DeletePart 1 ∷ []) (0 ∷ 1 ∷ 2 ∷ [])) (0 ∷ 1 ∷ 2 ∷ []) ≡ 0 ∷ 0 ∷ 2 ∷ []
deleted_one = refl

deleted_last : map (part_after (DeletePart 0 ∷ []) (0 ∷ [])) (0 ∷ []) ≡ 0 ∷ []
deleted_last = refl

-- a circle belongs to the part beside it
circled : after_part_events (CirclePart 1 ∷ []) (0 ∷ 1 ∷ 2 ∷ []) ≡ 0 ∷ 1 ∷ 1 ∷ 2 ∷ []
circled = refl

-- of a text of 7 bytes whose result is backward, each cluster has its slice, the last to the end
slices_backward : slices (4 ∷ 2 ∷ 2 ∷ 0 ∷ []) 7 ≡ (0, 2) ∷ (2, 4) ∷ (4, 7) ∷ []
slices_backward = refl

slices_forward : slices (0 ∷ 0 ∷ 2 ∷ 4 ∷ []) 7 ≡ (0, 2) ∷ (2, 4) ∷ (4, 7) ∷ []
slices_forward = refl

-- what stands in them is the text
slices_text : text_of_slices {X = ℕ} (97 ∷ 98 ∷ 99 ∷ []) (slices (2 ∷ 0 ∷ []) 3) ≡ 97 ∷ 98 ∷ 99 ∷ []
slices_text = refl

-- where a replacement drops the last item of a part, that part has no glyph, and the slices lose its characters
dropped : after_part_events (ReplaceParts 0 1 0 ∷ []) (0 ∷ 1 ∷ []) ≡ 1 ∷ []
dropped = refl

dropped_part : map (part_after (ReplaceParts 0 1 0 ∷ []) (0 ∷ 1 ∷ [])) (0 ∷ 1 ∷ []) ≡ 0 ∷ 1 ∷ []
dropped_part = refl

-- out of order too, since the first and the last of a stretch are not its least and its greatest there
unordered : after_part_events (ReplaceParts 0 3 1 ∷ []) (1 ∷ 0 ∷ 2 ∷ []) ≡ 1 ∷ []
unordered = refl

unordered_part : map (part_after (ReplaceParts 0 3 1 ∷ []) (1 ∷ 0 ∷ 2 ∷ [])) (1 ∷ 0 ∷ 2 ∷ []) ≡ 1 ∷ 0 ∷ 1 ∷ []
unordered_part = refl

-- ---- events that keep no parts

abbrev rising : IsRising (0 ∷ 1 ∷ [])
rising = ((omega arith, tt), (tt, tt))

-- the first of two glyphs goes without its part
dropping_keeps_none : AreKept MonotoneGraphemes (Replace 0 1 0 ∷ []) 2 1 → ⊥
dropping_keeps_none k = elim (k.giving false (0 ∷ 1 ∷ []) tt refl rising).0 [ inl some ↦ absurd (omega arith) | inr shares ↦ cc ]

-- two glyphs change places without a merge
turning_keeps_none : AreKept MonotoneGraphemes (Arrange 0 (1 ∷ 0 ∷ []) ∷ []) 2 2 → ⊥
turning_keeps_none k = let one = (k.orderly none (o 0 ∷ o 1 ∷ []) tt refl (inl rising)).0 in cc

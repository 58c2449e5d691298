-- The bytes of syllables, each of which is unsafe to break.
use Rattle.std.specs.Prelude.{ℕ, ◌+◌, Bool, nat_lt, if◌then◌else◌, List, [], ◌∷◌, length, map, Err}
use Rattle.std.specs.List.{list_all}
use Rattle.buffer_glyphs.specs.declared.cause.ShapeCause.TheVariants.{UnknownSyllableKind}
use Rattle.buffer_glyphs.specs.Items.{Item}
use Rattle.buffer_glyphs.specs.Events.{Break}
use Rattle.buffer_core.specs.Readings.{Stage, always}
use Rattle.script_categories.specs.declared.shaper.hb_ot_script_shaper_t.{hb_ot_script_shaper_t}
use Rattle.script_categories.specs.Shapers.{kinds_of}
use Rattle.buffer_stages.specs.Cuts.{Syllable, syllables}
use Rattle.buffer_stages.specs.Bytes.{syllable_byte}
use Rattle.buffer_glyphs.specs.Rewriting.{Arrangement, eventless_arrangement, and_arranged}
use Rattle.buffer_stages.specs.Rewriting.{within}
use Rattle.buffer_stages.specs.SyllableBuffers.{with_rule}

-- an item with a syllable byte
abbrev pub with_byte : ℕ → Item → Item
with_byte byte x = record x { syllable = byte }

-- the items of one syllable with its byte, flagged as unsafe to break
abbrev pub one_syllable : ℕ → List Item → Arrangement
one_syllable byte xs = record { items = map (with_byte byte) xs; events = Break 0 (length xs) ∷ [] }

-- the items with the bytes of their syllables, the first of which has the given index among all; `at` maps a counted
-- index to the list's
abbrev pub bytes_set : (ℕ → ℕ) → ℕ → List Syllable → List Item → Arrangement
bytes_set at index [] xs = eventless_arrangement xs
bytes_set at index (s ∷ ss) xs = and_arranged (within (at s.start) (at s.end) (one_syllable (syllable_byte index s.kind)) xs) (bytes_set at (index + 1) ss)

-- the kind of the syllable is one of the shaper's
abbrev pub is_known : hb_ot_script_shaper_t → Syllable → Bool
is_known shaper s = nat_lt s.kind (length (kinds_of shaper))

-- the items with their syllables' bytes, where the shaper has the kind of each
abbrev pub bytes_of : hb_ot_script_shaper_t → (ℕ → ℕ) → List Syllable → Stage
bytes_of shaper at ss v = if list_all (is_known shaper) ss then always (with_rule (bytes_set at 0 ss)) v else Err UnknownSyllableKind

-- the syllables that the machine finds by the categories of a text's items
abbrev pub text_syllables : (hb_ot_script_shaper_t → List ℕ → ℕ → ℕ × ℕ) → hb_ot_script_shaper_t → List Item → List Syllable
text_syllables span_of shaper xs = syllables (span_of shaper (map (λ (x : Item). x.category) xs)) (length xs)

-- the map of counted indices where every item counts
abbrev pub itself : ℕ → ℕ
itself i = i

-- the items of a text with the bytes of its syllables
abbrev pub syllables_set : (hb_ot_script_shaper_t → List ℕ → ℕ → ℕ × ℕ) → hb_ot_script_shaper_t → Stage
syllables_set span_of shaper v = bytes_of shaper itself (text_syllables span_of shaper v.items) v

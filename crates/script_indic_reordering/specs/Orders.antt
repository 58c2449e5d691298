-- The reorderings of all Indic syllables of a text, and the syllabic positions of consonants before them (HarfBuzz:
-- initial_reordering_indic, final_reordering_indic).
use Rattle.std.specs.Prelude.{ℕ, ◌==◌, ◌||◌, Bool, if◌then◌else◌, List, [], ◌∷◌, map, slice_get, Option, None, Some}
use Rattle.script_categories.specs.declared.ot_position_t.TheConstants as position
use Rattle.script_categories.specs.declared.shaper.hb_ot_script_shaper_t.TheVariants.{INDIC_SHAPER}
use Rattle.script_categories.specs.Shapers.{is_reordered}
use Rattle.buffer_glyphs.specs.Items.{Item}
use Rattle.buffer_glyphs.specs.Events.{Event}
use Rattle.buffer_stages.specs.Pieces.{ArePermuted}
use Rattle.buffer_glyphs.specs.Rewriting.{Arrangement, eventless_arrangement, and_arranged}
use Rattle.buffer_stages.specs.Rewriting.{in_syllables, by_syllable}
use Rattle.buffer_stages.specs.Bytes.{kind_of_byte}
use Rattle.script_indic_reordering.specs.declared.script.RephMode.{RephMode}
use Rattle.script_indic_reordering.specs.declared.script.IndicMasks.{IndicMasks}
use Rattle.script_indic_reordering.specs.Glyphs.{is_consonant, with_position}
use Rattle.script_indic_reordering.specs.Base.{Forms}
use Rattle.script_indic_reordering.specs.Initial.{initial_reordered}
use Rattle.script_indic_reordering.specs.Final.{final_reordered, word_events, words_begun}

-- ---- the positions of consonants

-- a font would make a form of a glyph with a virama before or after it
abbrev pub forms_with : (List ℕ → Bool) → ℕ → ℕ → Bool
forms_with forms virama n = forms (virama ∷ n ∷ []) || forms (n ∷ virama ∷ [])

-- the syllabic position of a consonant: below the base or after it where the font has such a form, else that of its
-- character (HarfBuzz: consonant_position_from_face)
abbrev pub consonant_position : Forms → ℕ → Item → ℕ
consonant_position forms virama x =
    if forms_with forms.below virama x.number then position.POS_BELOW_C else if forms_with forms.post virama x.number then position.POS_POST_C else x.auxiliary

-- an item that has the position of its forms where it is a consonant
abbrev pub consonant_with_position : Forms → ℕ → Item → Item
consonant_with_position forms virama x = if is_consonant x then with_position (consonant_position forms virama x) x else x

-- ---- syllables

-- a rule for a syllable that applies where the kind of the syllable, in its first item, is one that is reordered
abbrev pub if_reordered : (List Item → Arrangement) → List Item → Option Item → Arrangement
if_reordered rule xs None = eventless_arrangement xs
if_reordered rule xs (Some x) = if is_reordered INDIC_SHAPER (kind_of_byte x.syllable) then rule xs else eventless_arrangement xs

-- the initial reordering of a syllable, by its kind (HarfBuzz: initial_reordering_syllable_indic)
abbrev pub initial_syllable : RephMode → IndicMasks → Forms → List Item → Arrangement
initial_syllable mode m forms xs = if_reordered (initial_reordered mode m forms) xs (slice_get xs 0)

-- the initial reordering of a text, syllable by syllable
abbrev pub initial_order : RephMode → IndicMasks → Forms → List Item → Arrangement
initial_order mode m forms xs = by_syllable (initial_syllable mode m forms) xs

-- the final reordering of a syllable, by its kind (HarfBuzz: final_reordering_syllable_indic)
abbrev pub final_syllable : ℕ → IndicMasks → List Item → Arrangement
final_syllable reph_pos m xs = if_reordered (final_reordered reph_pos m.pref) xs (slice_get xs 0)

-- the events of the feature init: none where the font lacks it
abbrev pub init_events : IndicMasks → List Item → List Event
init_events m xs = if m.init == 0 then [] else word_events (is_reordered INDIC_SHAPER) None 0 xs

-- a text in which the left matras that begin words have the feature init
abbrev pub init_masked : IndicMasks → List Item → Arrangement
init_masked m xs = record { items = words_begun (is_reordered INDIC_SHAPER) m.init None xs; events = init_events m xs }

-- the final reordering of a text, syllable by syllable, and then the feature init
abbrev pub final_order : ℕ → IndicMasks → List Item → Arrangement
final_order reph_pos m xs = and_arranged (by_syllable (final_syllable reph_pos m) xs) (init_masked m)

-- ---- laws

-- law: the initial reordering permutes the glyph numbers of each syllable
abbrev pub InitialPermutes : Type 0
InitialPermutes = (mode : RephMode) (m : IndicMasks) (forms : Forms) (xs : List Item)
    → ArePermuted (map (map (λ (x : Item). x.number)) (in_syllables xs)) (map (λ (x : Item). x.number) (initial_order mode m forms xs).items)

-- law: the final reordering permutes the glyph numbers of each syllable
abbrev pub FinalPermutes : Type 0
FinalPermutes = (reph_pos : ℕ) (m : IndicMasks) (xs : List Item)
    → ArePermuted (map (map (λ (x : Item). x.number)) (in_syllables xs)) (map (λ (x : Item). x.number) (final_order reph_pos m xs).items)

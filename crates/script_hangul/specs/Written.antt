-- A text of Hangul with each merge of a grapheme where HarfBuzz has it: once its syllable is written.
use Rattle.std.specs.Prelude.{ℕ, zero, suc, ◌≡◌, ◌≢◌, ◌+◌, Bool, true, false, if◌then◌else◌, List, [], ◌∷◌, ◌++◌, length, drop, Option, Some, None}
use Rattle.buffer_common.specs.declared.constants.BufferFlags.{BufferFlags}
use Rattle.buffer_glyphs.specs.declared.level.BufferClusterLevel.{BufferClusterLevel}
use Rattle.buffer_glyphs.specs.declared.level.BufferClusterLevel.TheVariants.{Graphemes}
use Rattle.buffer_glyphs.specs.Items.{Item}
use Rattle.buffer_glyphs.specs.Events.{Event, MergeGrapheme}
use Rattle.buffer_core.specs.Readings.{Stage}
use Rattle.buffer_core.specs.Sides.{Sides, requests_breaks}
use Rattle.layout_face.specs.declared.parts.FaceParts.{FaceParts}
use Rattle.script_hangul.specs.declared.actions.Action.{Action}
use Rattle.script_hangul.specs.declared.actions.Action.TheVariants.{Keep, Apart, Compose, Split}
use Rattle.script_hangul.specs.Actions.{action_on}
use Rattle.script_hangul.specs.Hangul.{character_at, hangul_text, step, syllables_formed, wants_circles}
use Rattle.script_hangul.specs.Jamo.{is_tone}
use Rattle.script_hangul.specs.Steps.{Step, numbers_of}

-- the merge of a syllable that was written from an index on, where it is several jamo (HarfBuzz:
-- merge_out_grapheme_clusters)
abbrev pub syllable_merge : Action → ℕ → List Event
syllable_merge (Keep whole) at = []
syllable_merge (Apart n) at = MergeGrapheme at (at + n) ∷ []
syllable_merge (Compose n u) at = []
syllable_merge (Split letters joins) at = MergeGrapheme at (at + (length (numbers_of letters) + (if joins then 1 else 0))) ∷ []

-- that merge by the first of the next characters; none at a tone mark
abbrev pub written_merge_by : FaceParts → Option ℕ → ℕ → List Item → List Event
written_merge_by font None at xs = []
written_merge_by font (Some u) at xs = if is_tone u then [] else syllable_merge (action_on font u (character_at 1 xs) (character_at 2 xs)) at

-- that merge by the next characters
abbrev pub written_merge : FaceParts → ℕ → List Item → List Event
written_merge font at xs = written_merge_by font (character_at 0 xs) at xs

-- the events of that many steps at most, by the text before and the rest, each with its merge after it (HarfBuzz:
-- preprocess_text_hangul)
abbrev pub written_steps : FaceParts → Bool → BufferClusterLevel → ℕ → ℕ → List Item → List Item → List Event
written_steps font circles level steps n out [] = []
written_steps font circles level zero n out (x ∷ xs) = []
written_steps font circles level (suc steps) n out (x ∷ xs) =
    let s : Step = step font circles n out (x ∷ xs) in
    s.events level ++ written_merge font (length out) (x ∷ xs) ++ written_steps font circles level steps s.start s.out (drop (s.more + 1) (x ∷ xs))

-- the events of a text whose syllables are written, each with its merge; each step consumes an item
abbrev pub written_syllables : FaceParts → BufferFlags → BufferClusterLevel → List Item → List Event
written_syllables font flags level xs = written_steps font (wants_circles flags) level (length xs) 0 [] xs

-- the number of jamo of the syllable that an action writes, none where it is one character
abbrev pub written_count : Action → Option ℕ
written_count (Keep whole) = None
written_count (Apart n) = Some n
written_count (Compose n u) = None
written_count (Split letters joins) = Some (length (numbers_of letters) + (if joins then 1 else 0))

-- ---- merges before, or with each syllable

-- the merge of a syllable that an action wrote from an index on, if merges are with their syllables
abbrev pub action_merge : Bool → Action → ℕ → List Event
action_merge true action at = syllable_merge action at
action_merge false action at = []

-- the merge with a step, if merges are with their syllables
abbrev pub merge_if : Bool → FaceParts → ℕ → List Item → List Event
merge_if true font at xs = written_merge font at xs
merge_if false font at xs = []

-- the events of that many steps at most, with their merges if these are with their syllables
abbrev pub steps_events : Bool → FaceParts → Bool → BufferClusterLevel → ℕ → ℕ → List Item → List Item → List Event
steps_events merges font circles level steps n out [] = []
steps_events merges font circles level zero n out (x ∷ xs) = []
steps_events merges font circles level (suc steps) n out (x ∷ xs) =
    let s : Step = step font circles n out (x ∷ xs) in
    s.events level ++ merge_if merges font (length out) (x ∷ xs) ++ steps_events merges font circles level steps s.start s.out (drop (s.more + 1) (x ∷ xs))

-- a buffer in which a merge with its syllable leaves what one before all syllables leaves
pub record MergesAnywhere (s : Sides) : Type 0 where
  pub unasked : requests_breaks s ≡ false
  pub level : s.level ≢ Graphemes

-- merges are before all syllables, or may be with them
abbrev pub MayMerge : Bool → Sides → Type 0
MayMerge true s = MergesAnywhere s
MayMerge false s = Unit {0}

-- the stage that forms a text's syllables, and merges their graphemes if these were not merged before
abbrev pub syllables_walked : Bool → FaceParts → BufferFlags → Stage
syllables_walked true font flags = hangul_text font flags
syllables_walked false font flags = syllables_formed font flags

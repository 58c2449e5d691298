-- The stages of a text that is broken into two, up to the masks of ranges, for shapers with stages of their own.
use Rattle.std.specs.Prelude.{ℕ, ◌≡◌, ◌⊎◌, if◌then◌else◌, Ok}
use Rattle.buffer_core.specs.Readings.{BufferState, Read, Stage, state_after}
use Rattle.buffer_parts.specs.Breaks.Unsafe.{IsUnsafeAt}
use Rattle.shape_text.specs.Fractions.{with_fractions}
use Rattle.shape_normalize.specs.Rounds.{normalization}
use Rattle.shape_pipeline.specs.Characters.{normalizer, text_begun, turned_to_line}
use Rattle.shape_pipeline.specs.Masks.{fraction_masks}
use Rattle.shape_pipeline.specs.Shaping.{Shaping, preprocessing_stage, shaper_masks_set}
use Rattle.shape_laws.specs.Breaks.Normalizing.{AreNormalizedApart}
use Rattle.shape_laws.specs.Breaks.Texts.{StaysBroken}

-- a text that stays broken into two still does after a stage, of which the two have their own
abbrev pub KeepsBrokenAt : (c : ℕ) (whole earlier later : BufferState) (stage early late : Stage) → Type 0
KeepsBrokenAt c whole earlier later stage early late = (r e l : Read) → StaysBroken c whole earlier later → stage whole.view ≡ Ok r → early earlier.view ≡ Ok e → late later.view ≡ Ok l
    → StaysBroken c (state_after r whole) (state_after e earlier) (state_after l later)

-- each text that stays broken into two still does after a stage
abbrev pub KeepsBroken : (stage early late : Stage) → Type 0
KeepsBroken stage early late = (c : ℕ) (whole earlier later : BufferState) → KeepsBrokenAt c whole earlier later stage early late

-- the state of a text that is mirrored, or has vertical forms
abbrev pub turned_state : Shaping → BufferState → BufferState
turned_state p s = state_after (turned_to_line p s.view) s

-- the state of a text with the masks of fractions, where they are wanted
abbrev pub fractions_state : Shaping → BufferState → BufferState
fractions_state p s = if p.choices.has_frac then state_after (with_fractions (fraction_masks p.map) s.view) s else s

-- what the stages of a text read before its shaper sets masks: the first pipeline stage, the shaper's preprocessing, and
-- normalizing
pub record CharacterReads (p : Shaping) (s : BufferState) : Type 0 where
  pub begun : Read
  pub own : Read
  pub normal : Read
  pub begun_is : text_begun p s.view ≡ Ok begun
  pub own_is : preprocessing_stage p begun.view ≡ Ok own
  pub normal_is : normalization (normalizer p) (turned_to_line p own.view).view ≡ Ok normal

-- the state of a text after its shaper's preprocessing
abbrev pub own_state : (p : Shaping) (s : BufferState) → CharacterReads p s → BufferState
own_state p s q = state_after q.own (state_after q.begun s)

-- the state of a text before its shaper sets masks
abbrev pub unmasked_state : (p : Shaping) (s : BufferState) → CharacterReads p s → BufferState
unmasked_state p s q = fractions_state p (state_after q.normal (turned_state p (own_state p s q)))

-- before it is normalized a text is unsafe to break at c, or each of the two is normalized by itself
abbrev pub NormalizesApart : (c : ℕ) (p p1 p2 : Shaping) (whole earlier later : BufferState) → Type 0
NormalizesApart c p p1 p2 whole earlier later = (w : CharacterReads p whole) (e : CharacterReads p1 earlier) (l : CharacterReads p2 later)
    → IsUnsafeAt c (own_state p whole w).origins ⊎ AreNormalizedApart (normalizer p) (turned_state p1 (own_state p1 earlier e)).view.items (turned_state p2 (own_state p2 later l)).view.items

-- the stage of the shaper's masks keeps a text broken, wherever it comes to
abbrev pub MasksKeepBroken : (c : ℕ) (p p1 p2 : Shaping) (whole earlier later : BufferState) → Type 0
MasksKeepBroken c p p1 p2 whole earlier later = (w : CharacterReads p whole) (e : CharacterReads p1 earlier) (l : CharacterReads p2 later)
    → KeepsBrokenAt c (unmasked_state p whole w) (unmasked_state p1 earlier e) (unmasked_state p2 later l) (shaper_masks_set p) (shaper_masks_set p1) (shaper_masks_set p2)

-- the stage of the shaper's preprocessing keeps a text broken, wherever it comes to
abbrev pub PreprocessingKeepsBroken : (c : ℕ) (p p1 p2 : Shaping) (whole earlier later : BufferState) → Type 0
PreprocessingKeepsBroken c p p1 p2 whole earlier later = (w : CharacterReads p whole) (e : CharacterReads p1 earlier) (l : CharacterReads p2 later)
    → KeepsBrokenAt c (state_after w.begun whole) (state_after e.begun earlier) (state_after l.begun later) (preprocessing_stage p) (preprocessing_stage p1) (preprocessing_stage p2)

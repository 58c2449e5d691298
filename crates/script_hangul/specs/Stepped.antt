-- A step through a text of Hangul in an open output.
use Rattle.std.specs.Prelude.{ℕ, ◌≡◌, ◌<◌, ◌⊎◌, ◌+◌, ◌&&◌, Bool, true, false, nat_le, nat_lt, if◌then◌else◌, List, ◌++◌, drop, length}
use Rattle.buffer_glyphs.specs.declared.cause.ShapeCause.{ShapeCause}
use Rattle.buffer_glyphs.specs.Items.{strip}
use Rattle.buffer_glyphs.specs.Events.{Event}
use Rattle.buffer_core.specs.Sides.{Sides}
use Rattle.buffer_stages.specs.Walks.{RefusesLength, HasWalked}
use Rattle.script_hangul.specs.declared.jamo.Letters.{Letters}
use Rattle.script_hangul.specs.declared.jamo.Letters.TheVariants.{Two, Three}
use Rattle.script_hangul.specs.declared.actions.Action.{Action}
use Rattle.script_hangul.specs.declared.actions.Action.TheVariants.{Keep, Apart, Compose, Split}
use Rattle.layout_face.specs.declared.parts.FaceParts.{FaceParts}
use Rattle.script_hangul.specs.Steps.{Step}
use Rattle.script_hangul.specs.Hangul.{step}
use Rattle.script_hangul.specs.Written.{merge_if}

-- a step was made, and the call returns the start of the syllable that ends the text
pub record IsStepped (s : Step) (n : ℕ) (old new : Sides) : Type 0 where
  pub walked : HasWalked s.out (drop (s.more + 1) (strip old.ahead)) (s.events old.level) old new
  pub start : n ≡ s.start

-- a step was made, and then the merges
pub record IsWritten (s : Step) (merge : List Event) (n : ℕ) (old new : Sides) : Type 0 where
  pub walked : HasWalked s.out (drop (s.more + 1) (strip old.ahead)) (s.events old.level ++ merge) old new
  pub start : n ≡ s.start

-- the step fails for lack of memory, or because its result is too long
abbrev pub Refuses : Step → ShapeCause → Sides → Type 0
Refuses s e old = RefusesLength (length s.out) e old

-- a syllable has two jamo
abbrev pub is_two : Letters → Bool
is_two (Two l v) = true
is_two (Three l v t) = false

-- the input has the items that an action takes: two or three jamo that stay apart, and the consonant that joins two
abbrev pub fits_rest : Action → ℕ → Bool
fits_rest (Keep whole) n = nat_lt 0 n
fits_rest (Apart k) n = nat_le 2 k && nat_le k 3 && nat_le k n
fits_rest (Compose k u) n = nat_lt 0 k && nat_le k n
fits_rest (Split letters joins) n = if joins then nat_lt 1 n && is_two letters else nat_lt 0 n

-- a step was made with its merge where there is an input item, and nothing changed where there is none
abbrev pub Passes : Bool → FaceParts → Bool → ℕ → ℕ → Sides → Sides → Type 0
Passes merges font circles start n old new =
    ((length old.ahead ≡ 0) × ((n ≡ start) × (new ≡ old)))
    ⊎ ((0 < length old.ahead) × IsWritten (step font circles start (strip old.behind) (strip old.ahead)) (merge_if merges font (length (strip old.behind)) (strip old.ahead)) n old new)

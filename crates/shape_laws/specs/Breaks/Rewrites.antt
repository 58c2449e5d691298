-- Arrangements that may stand beside others.
use Rattle.std.specs.Prelude.{ℕ, ◌≡◌, ◌≤◌, ◌+◌, ◌-◌, List, length, map}
use Rattle.buffer_glyphs.specs.Items.{Item}
use Rattle.buffer_glyphs.specs.Events.{IsPlain}
use Rattle.buffer_glyphs.specs.Rewriting.{Arrangement, shifted_event}
use Rattle.buffer_parts.specs.Counts.{count_after}
use Rattle.buffer_unicode_tables.specs.Tables.{Tables}
use Rattle.buffer_core.specs.Readings.{as_it_is}
use Rattle.buffer_stages.specs.Settings.{TextSettings}
use Rattle.layout_face.specs.declared.parts.FaceParts.{FaceParts}
use Rattle.script_plan.specs.Rules.{ShaperRules}
use Rattle.buffer_parts.specs.Breaks.Concat.{without_concats}
use Rattle.buffer_parts.specs.Breaks.Fragments.{AreGiven}
use Rattle.buffer_parts.specs.Breaks.Lossless.{AreLossless}
use Rattle.buffer_parts.specs.Breaks.Sides.{AreBounded}

-- an arrangement of `taken` items, wherever they are in a list of n: its events have indices of these, lose no flag,
-- permute none without a merge, set no UNSAFE_TO_CONCAT, and leave as many more as it has more; none has a ligature number
pub record IsRewrite (taken : ℕ) (a : Arrangement) : Type 0 where
  pub bounded : (from n : ℕ) → from + taken ≤ n → AreBounded (map (shifted_event from) a.events) n
  pub lossless : (from n : ℕ) → from + taken ≤ n → AreLossless (map (shifted_event from) a.events) n
  pub counted : (from n : ℕ) → from + taken ≤ n → count_after (map (shifted_event from) a.events) n ≡ n - taken + length a.items
  pub plain : IsPlain a.events
  pub no_concat : without_concats a.events ≡ a.events
  pub given : AreGiven 0 a.items

-- a shaper's order of runs of marks may stand beside others, and keeps their count
abbrev pub RewritesRuns : (List Item → Arrangement) → Type 0
RewritesRuns reorders = (run : List Item) → AreGiven 0 run → IsRewrite (length run) (reorders run) × (length (reorders run).items ≡ length run)

-- an arrangement of a list of n
pub record IsWholeRewrite (n : ℕ) (a : Arrangement) : Type 0 where
  pub bounded : AreBounded a.events n
  pub lossless : AreLossless a.events n
  pub counted : count_after a.events n ≡ length a.items
  pub plain : IsPlain a.events
  pub no_concat : without_concats a.events ≡ a.events
  pub given : AreGiven 0 a.items

-- a shaper neither preprocesses a text nor sets masks of its own, and its order of runs of marks may stand beside others
pub record HasNoStages (rules : ShaperRules) : Type 0 where
  pub preprocesses : (font : FaceParts) (t : Tables) (settings : TextSettings) → rules.preprocesses font t settings ≡ as_it_is
  pub sets_masks : (font : FaceParts) (t : Tables) (settings : TextSettings) → rules.sets_masks font t settings ≡ as_it_is
  pub reorders : RewritesRuns rules.reorders

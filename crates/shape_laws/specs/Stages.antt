-- The pipeline in two: the stages on characters, which two equivalent texts differ in, and the stages on glyphs.
use Rattle.std.specs.Prelude.{ℕ, ℤ, pos, negsuc, ◌≡◌, nat_le, Bool, false, [], ◌∷◌, length, suc, ◌+◌, Ok}
use Rattle.buffer_core.specs.Readings.{Read, Stage, View, always}
use Rattle.buffer_core.specs.Settings.{steps_limit}
use Rattle.buffer_core.specs.Sides.{Sides, all_glyphs, view_of}
use Rattle.buffer_parts.specs.Counting.{Uses, at_budget}
use Rattle.script_plan.specs.Rules.{DependsOnNoLimit, RulesDependOnNoLimit}
use Rattle.shape_glyphs.specs.Flags.{with_flags_spread}
use Rattle.shape_glyphs.specs.Ignorables.{ignorables_hidden}
use Rattle.shape_glyphs.specs.Selectors.{with_selectors}
use Rattle.shape_pipeline.specs.Chains.{in_order}
use Rattle.shape_pipeline.specs.Characters.{characters_chosen, text_begun}
use Rattle.shape_pipeline.specs.Glyphs.{glyphs_substituted, glyphs_taken}
use Rattle.shape_pipeline.specs.Masks.{masks_set}
use Rattle.shape_pipeline.specs.Reading.{positioning_stage}
use Rattle.shape_pipeline.specs.Shaping.{Shaping, postprocessing_stage}

-- the pipeline stages on characters: the beginning, which sets the limits by the text's length, and normalizing
unfoldable pub characters_stage : Shaping → Stage
characters_stage p = in_order (
    text_begun p ∷
    characters_chosen p ∷
    [])

-- the pipeline stages after them, up to the spread of flags: masks, glyphs, substitution, positions, and what is hidden.
-- The masks of ranges are left out, which depend on clusters, and the end, which sets the limits again
unfoldable pub glyphs_stage : Shaping → Stage
glyphs_stage p = in_order (
    masks_set p ∷
    glyphs_taken p ∷
    glyphs_substituted p ∷
    positioning_stage p ∷
    always (with_selectors p.settings.not_found_variation_selector) ∷
    always (ignorables_hidden p.settings.flags p.settings.invisible p.font) ∷
    postprocessing_stage p ∷
    always with_flags_spread ∷
    [])

-- law: nothing after the characters depends on a text's length, where no rule of the shaper does: the limit of length
-- decides no more than whether the text is refused, and the budget of nested lookups is only counted down
abbrev pub GlyphsDependOnNoLimit : Type 0
GlyphsDependOnNoLimit = (p : Shaping) → RulesDependOnNoLimit p.rules → DependsOnNoLimit (glyphs_stage p)

-- ---- nested lookups

-- the budget of nested lookups of a text (`max_ops`), by its length
abbrev pub budget_of : Sides → ℤ
budget_of text = steps_limit (length (all_glyphs text)) text.max_ops

-- a budget allows n nested lookups
abbrev pub allows : ℤ → ℕ → Bool
allows (pos k) n = nat_le n k
allows (negsuc k) n = false

-- a text's reading applies n nested lookups, whatever its budget above that
pub record AppliesNested (p : Shaping) (text : Sides) (n : ℕ) : Type 0 where
  pub chosen : Read
  pub is : characters_stage p (view_of text) ≡ Ok chosen
  pub uses : Uses (glyphs_stage p) chosen.view n 0

-- law: one run that leaves some of its budget applied what it took: that number of nested lookups, and the same with each
-- greater budget
abbrev pub RunsCountNested : Type 0
RunsCountNested = (p : Shaping) (text : Sides) (chosen r : Read) (n k : ℕ) → RulesDependOnNoLimit p.rules → characters_stage p (view_of text) ≡ Ok chosen
    → glyphs_stage p (at_budget (pos (n + suc k)) chosen.view) ≡ Ok r → r.view.max_ops ≡ pos (suc k) → AppliesNested p text n

-- law: a run with a budget of m that leaves some reads the same with m + d, and leaves d more
abbrev pub GreaterBudgetsReadTheSame : Type 0
GreaterBudgetsReadTheSame = (p : Shaping) (v : View) (m k d : ℕ) (r : Read) → RulesDependOnNoLimit p.rules → glyphs_stage p (at_budget (pos m) v) ≡ Ok r → r.view.max_ops ≡ pos (suc k)
    → glyphs_stage p (at_budget (pos (m + d)) v) ≡ Ok (record r { view = at_budget (pos (suc k + d)) r.view })

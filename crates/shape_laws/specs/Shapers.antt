-- Shapers that decompose and compose characters as Unicode says.
use Rattle.std.specs.Prelude.{ℕ, ⊤, ◌≡◌, Bool, true, false, List, Some}
use Rattle.layout_face.specs.declared.parts.FaceParts.{FaceParts}
use Rattle.buffer_unicode_tables.specs.Tables.{SplitsCharacters, Tables, pair_of, split_of}
use Rattle.buffer_glyphs.specs.Items.{Item}
use Rattle.buffer_glyphs.specs.Rewriting.{eventless_arrangement}
use Rattle.buffer_core.specs.Readings.{View, as_it_is}
use Rattle.buffer_stages.specs.Settings.{TextSettings}
use Rattle.buffer_properties.specs.Normalizer.{reach_alone, reach_with_marks}
use Rattle.buffer_properties.specs.Premises.{ComposesWithinUnicode, ExpandsGreatest, ReordersNothing, SplitsAsUnicode}
use Rattle.buffer_properties.specs.declared.normal_mode.Reach.TheVariants.{Greatest}
use Rattle.script_plan.specs.declared.plan.hb_script_plan_t.{hb_script_plan_t}
use Rattle.script_plan.specs.Rules.{ShaperRules}
use Rattle.script_plan.specs.Traits.{ShaperTraits}
use Rattle.script_categories.specs.declared.shaper.hb_ot_script_shaper_t.TheVariants.{MYANMAR_SHAPER, UNIVERSAL_SHAPER}
use Rattle.script_dispatch.specs.declared.any_shaper.hb_ot_any_shaper_t.{hb_ot_any_shaper_t}
use Rattle.script_dispatch.specs.declared.any_shaper.hb_ot_any_shaper_t.TheVariants as any
use Rattle.script_dispatch.specs.Rules.{rules_of}
use Rattle.script_dispatch.specs.Shapers.{traits_of}
use Rattle.shape_pipeline.specs.Characters.{normalizer}
use Rattle.shape_pipeline.specs.Shaping.{Shaping}

-- a shaper decomposes every character as far as the font has the halves, and as Unicode does; it composes nothing that
-- Unicode doesn't, leaves a run of marks in the order of classes, and changes no text before it is normalized
pub record NormalizesAsUnicode (traits : ShaperTraits) (rules : ShaperRules) : Type 0 where
  -- a character without marks, and one with marks, is decomposed even where the font has it
  pub alone : reach_alone traits.normalization ≡ Greatest
  pub with_marks : reach_with_marks traits.normalization ≡ Greatest
  pub splits : (t : Tables) (u : ℕ) → rules.splits t u ≡ split_of t u
  pub composes : (t : Tables) (a b u : ℕ) → rules.composes t a b ≡ Some u → pair_of t a b ≡ Some u
  pub reorders : (run : List Item) → rules.reorders run ≡ eventless_arrangement run
  pub preprocesses : (font : FaceParts) (t : Tables) (settings : TextSettings) (v : View) → rules.preprocesses font t settings v ≡ as_it_is v

-- the shapers of this stack under which canonically equivalent texts shape alike
abbrev pub keeps_equivalence : hb_ot_any_shaper_t → Bool
keeps_equivalence (any.Script UNIVERSAL_SHAPER) = true
keeps_equivalence (any.Script MYANMAR_SHAPER) = true
keeps_equivalence _ = false

-- law: the universal and the Myanmar shaper normalize as Unicode does
abbrev pub ShapersNormalizeAsUnicode : Type 0
ShapersNormalizeAsUnicode = (shaper : hb_ot_any_shaper_t) (plan : hb_script_plan_t ⊤) → keeps_equivalence shaper ≡ true → NormalizesAsUnicode (traits_of shaper) (rules_of shaper plan)

-- what a normalizer keeps of Unicode's decompositions and compositions
pub record IsOfUnicode (p : Shaping) : Type 0 where
  pub expands : ExpandsGreatest (normalizer p)
  pub splits : SplitsAsUnicode (normalizer p)
  pub composes : ComposesWithinUnicode (normalizer p)
  pub reorders : ReordersNothing (normalizer p)

-- law: so is the normalizer of such a shaper, for tables that decompose characters alone
abbrev pub NormalizersAreOfUnicode : Type 0
NormalizersAreOfUnicode = (p : Shaping) → NormalizesAsUnicode p.traits p.rules → SplitsCharacters p.tables → IsOfUnicode p

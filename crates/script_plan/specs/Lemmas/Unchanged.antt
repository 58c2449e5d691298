-- Rules that leave a text as it is.
use Rattle.std.proofs.Common.{ℕ, zero, suc, ◌≡◌, Bool, true, List, Option, Some, None, refl}
use Rattle.std.specs.Prelude.{is_none}
use Rattle.buffer_glyphs.specs.Items.{Item}
use Rattle.buffer_core.specs.Readings.{as_it_is}
use Rattle.buffer_core.specs.Steps.{follows_same}
use Rattle.buffer_core.specs.Sides.{Sides, state_of}
use Rattle.buffer_stages.specs.Ready.{IsDone, IsReady}
use Rattle.buffer_stages.specs.Pauses.{BringsNoGlyph}
use Rattle.buffer_core.specs.Sides.{items_of}
use Rattle.buffer_glyphs.specs.Rewriting.{eventless_arrangement}
use Rattle.buffer_stages.specs.Rearranged.{Rearranges}
use Rattle.buffer_stages.specs.Stages.{IsFollowed}
use Rattle.buffer_unicode_tables.specs.Expansion.{EndWithin, Splits, ends_by, ends_within}
use Rattle.buffer_parts.specs.Stages.{KeepsPartsInLine}
use Rattle.buffer_parts.specs.Lemmas.PlainStages.{plain_stages_keep_parts, same_plainly}
use Rattle.script_plan.specs.Rules.{RulesDependOnNoLimit, RulesKeepParts, plain_rules}
use Rattle.script_plan.specs.Lemmas.Arranged.{steady_arranged}
use Rattle.script_plan.specs.Lemmas.Limits.{same_by}
use Rattle.buffer_unicode_tables.proofs.Chains.{ends_more as one_more, no_split_ends as none_more, ends_by_more as by_more}

pub unchanged_followed : (s : Sides) → IsReady s → IsFollowed as_it_is s s
unchanged_followed s ready = record { follows = follows_same (state_of s); settings = refl; ready = ready }

pub unchanged_done : (s : Sides) → IsReady s → IsDone as_it_is s s
unchanged_done s ready = record { follows = follows_same (state_of s); settings = refl; ready = ready; numbers = λ h. h }

pub unchanged_run : (start end : ℕ) (s : Sides) → IsReady s → Rearranges (λ (run : List Item). eventless_arrangement run) start end s s
unchanged_run start end s ready front run rest e len upto = record { items = e; happened = refl; frame = refl; ready = ready }

pub brings_none : (s : Sides) → BringsNoGlyph (items_of s) (items_of s)
brings_none s n h = h

pub unchanged_in_line : KeepsPartsInLine as_it_is
unchanged_in_line = plain_stages_keep_parts as_it_is same_plainly

pub plain_rules_keep_parts : RulesKeepParts plain_rules
plain_rules_keep_parts = record {
  preprocesses = λ font t settings. unchanged_in_line;
  reorders = λ run. steady_arranged run (eventless_arrangement run) tt;
  sets_masks = λ font t settings. unchanged_in_line;
  pauses = λ font t spans settings n after. unchanged_in_line;
  postprocesses = λ font settings. unchanged_in_line;
}

pub plain_rules_depend_on_no_limit : RulesDependOnNoLimit plain_rules
plain_rules_depend_on_no_limit = record {
  preprocesses = λ font t settings. same_by;
  sets_masks = λ font t settings. same_by;
  pauses = λ font t spans settings n. same_by;
  postprocesses = λ font settings. same_by;
}

-- ---- chains of first halves

-- chains that end within eight splits end within nine
pub nine_splits : (splits : Splits) → EndWithin splits 8 → EndWithin splits 9
nine_splits splits e u = one_more splits 8 u (e u)

-- Shapers that lose clusters or put them out of order.
use Rattle.std.specs.Prelude.{nat_le, if◌then◌else◌, [], ◌∷◌, drop, reverse}
use Rattle.buffer_unicode_tables.specs.Tables.{Tables}
use Rattle.layout_face.specs.declared.parts.FaceParts.{FaceParts}
use Rattle.buffer_glyphs.specs.Items.{Item}
use Rattle.buffer_glyphs.specs.Events.{Replace, Reverse}
use Rattle.buffer_core.specs.Readings.{Stage, View, always, with_events}
use Rattle.buffer_stages.specs.Settings.{TextSettings}
use Rattle.script_plan.specs.Rules.{RulesDependOnNoLimit, RulesKeepParts, ShaperRules, plain_rules}

-- the rules of a shaper that does nothing but change a text before it is normalised
abbrev pub preprocessing_rules : Stage → ShaperRules
preprocessing_rules stage = record plain_rules { preprocesses = λ font t settings. stage }

-- the text in reversed order
abbrev pub reversed_text : Stage
reversed_text = always (λ v. with_events (Reverse ∷ []) (record v { items = reverse v.items }))

-- the text without its first character: the cluster of that is lost
abbrev pub dropped_first : Stage
dropped_first = always (λ v. with_events (Replace 0 1 0 ∷ []) (record v { items = drop 1 v.items }))

-- a text as it is, unless no more than one item is allowed: then it becomes empty, and is not refused
abbrev pub emptied_text : Stage
emptied_text = always (λ v. with_events [] (record v { items = if nat_le v.max_len 1 then [] else v.items }))

-- no font, tables or settings let a shaper that reverses its texts meet the law of rules
abbrev pub ReversingIsRefused : Type 0
ReversingIsRefused = (font : FaceParts) (t : Tables) (settings : TextSettings) (v : View) → RulesKeepParts (preprocessing_rules reversed_text) → ⊥

-- no font, tables or settings let a shaper that drops the first character meet the law of rules
abbrev pub DroppingIsRefused : Type 0
DroppingIsRefused = (font : FaceParts) (t : Tables) (settings : TextSettings) (v : View) (x : Item) → RulesKeepParts (preprocessing_rules dropped_first) → ⊥

-- no font, tables or settings let a shaper whose text depends on the limit of length meet the law of limits
abbrev pub LimitsAreRefused : Type 0
LimitsAreRefused = (font : FaceParts) (t : Tables) (settings : TextSettings) (v : View) (x : Item) → RulesDependOnNoLimit (preprocessing_rules emptied_text) → ⊥

-- What holds of the stages of a text that is broken into two, before its glyphs are substituted.
use Rattle.std.specs.Prelude.{ℕ, ◌≡◌, ◌⊎◌, Bool, false, List, Ok}
use Rattle.buffer_tags.specs.declared.feature.Feature.{Feature}
use Rattle.buffer_unicode_tables.specs.Tables.{Tables}
use Rattle.buffer_glyphs.specs.Origins.{numbers}
use Rattle.buffer_core.specs.Readings.{BufferState, Read, state_after}
use Rattle.buffer_properties.specs.Normalizer.{Normalizer}
use Rattle.buffer_parts.specs.Breaks.Divisible.{IsBreakable}
use Rattle.buffer_parts.specs.Breaks.Fragments.{AreFragments}
use Rattle.layout_map.specs.Compiled.{OtMapValue}
use Rattle.script_joining.specs.Joining.{letters_with_forms}
use Rattle.shape_text.specs.declared.fractions.FractionMasks.{FractionMasks}
use Rattle.shape_text.specs.Fractions.{with_fractions}
use Rattle.shape_text.specs.Ranges.{with_ranges}
use Rattle.shape_normalize.specs.Rounds.{normalization}
use Rattle.script_plan.specs.Rules.{plain_rules}
use Rattle.shape_pipeline.specs.Characters.{normalizer, text_begun, turned_to_line}
use Rattle.shape_pipeline.specs.Reading.{before_ranges}
use Rattle.shape_pipeline.specs.Shaping.{Shaping}
use Rattle.shape_laws.specs.Breaks.Joining.{BeginsUnselected, ContextsShow}
use Rattle.shape_laws.specs.Breaks.Normalizing.{AreNormalizedApart}
use Rattle.shape_laws.specs.Breaks.Rewrites.{HasNoStages, RewritesRuns}
use Rattle.shape_laws.specs.Breaks.Texts.{AreBroken, AreBrokenShapings, IsNativeLine, KnowsGraphemes, StaysBroken}

-- the first pipeline stage: a text in its script's direction that is broken into two stays broken
abbrev pub BegunTextsDivide : Type 0
BegunTextsDivide = (p p1 p2 : Shaping) (c : ℕ) (whole earlier later : BufferState) (r e l : Read) → AreBrokenShapings p p1 p2 → KnowsGraphemes p.tables → IsBreakable whole → AreBroken c whole earlier later
    → IsNativeLine p.settings.script whole.view.direction → text_begun p whole.view ≡ Ok r → text_begun p1 earlier.view ≡ Ok e → text_begun p2 later.view ≡ Ok l
    → StaysBroken c (state_after r whole) (state_after e earlier) (state_after l later)

-- mirrored characters and vertical forms
abbrev pub RotationDivides : Type 0
RotationDivides = (p p1 p2 : Shaping) (c : ℕ) (whole earlier later : BufferState) → AreBrokenShapings p p1 p2 → StaysBroken c whole earlier later
    → StaysBroken c (state_after (turned_to_line p whole.view) whole) (state_after (turned_to_line p1 earlier.view) earlier) (state_after (turned_to_line p2 later.view) later)

-- normalizing, where the fragments are normalized each by itself, and the shaper's order of marks may stand beside others
abbrev pub NormalizingDivides : Type 0
NormalizingDivides = (k : Normalizer) (c : ℕ) (whole earlier later : BufferState) (r e l : Read) → RewritesRuns k.reorders → StaysBroken c whole earlier later
    → (AreFragments false c whole earlier later → AreNormalizedApart k earlier.view.items later.view.items)
    → normalization k whole.view ≡ Ok r → normalization k earlier.view ≡ Ok e → normalization k later.view ≡ Ok l → StaysBroken c (state_after r whole) (state_after e earlier) (state_after l later)

-- the forms of letters, where the contexts show the letters near
abbrev pub LettersDivide : Type 0
LettersDivide = (t : Tables) (mongolian : Bool) (masks pre post early_post late_pre : List ℕ) (c : ℕ) (whole earlier later : BufferState) → StaysBroken c whole earlier later
    → (AreFragments false c whole earlier later → ContextsShow t pre post early_post late_pre earlier.view.items later.view.items) → (AreFragments false c whole earlier later → (mongolian ≡ false) ⊎ BeginsUnselected later.view.items)
    → StaysBroken c (state_after (letters_with_forms t mongolian masks pre post whole.view) whole) (state_after (letters_with_forms t mongolian masks pre early_post earlier.view) earlier)
    (state_after (letters_with_forms t mongolian masks late_pre post later.view) later)

-- the masks of features that are requested for ranges, by the clusters that each text has
abbrev pub RangesDivide : Type 0
RangesDivide = (m : OtMapValue) (features : List Feature) (c : ℕ) (whole earlier later : BufferState) → StaysBroken c whole earlier later
    → StaysBroken c (state_after (with_ranges m features (numbers whole.origins) whole.view) whole) (state_after (with_ranges m features (numbers earlier.origins) earlier.view) earlier)
    (state_after (with_ranges m features (numbers later.origins) later.view) later)

-- the masks of fractions: a fraction across both texts makes it unsafe to break between them
abbrev pub FractionsDivide : Type 0
FractionsDivide = (m : FractionMasks) (c : ℕ) (whole earlier later : BufferState) → StaysBroken c whole earlier later
    → StaysBroken c (state_after (with_fractions m whole.view) whole) (state_after (with_fractions m earlier.view) earlier) (state_after (with_fractions m later.view) later)

-- a text of a shaper without stages of its own there, up to the masks of ranges: text_begun, characters_chosen and
-- masks_set. Each of the two texts is normalized by itself
abbrev pub PlainTextsDivide : Type 0
PlainTextsDivide = (p p1 p2 : Shaping) (c : ℕ) (whole earlier later : BufferState) (r e l : Read) → AreBrokenShapings p p1 p2 → HasNoStages p.rules → KnowsGraphemes p.tables → IsBreakable whole → AreBroken c whole earlier later
    → IsNativeLine p.settings.script whole.view.direction
    → ((a b : Read) → text_begun p1 earlier.view ≡ Ok a → text_begun p2 later.view ≡ Ok b → AreNormalizedApart (normalizer p) (turned_to_line p1 a.view).view.items (turned_to_line p2 b.view).view.items)
    → before_ranges p whole.view ≡ Ok r → before_ranges p1 earlier.view ≡ Ok e → before_ranges p2 later.view ≡ Ok l → StaysBroken c (state_after r whole) (state_after e earlier) (state_after l later)

-- a shaper without hooks has no stages of its own
abbrev pub PlainRulesHaveNoStages : Type 0
PlainRulesHaveNoStages = HasNoStages plain_rules

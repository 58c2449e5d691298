-- What holds of the stages of a text that is broken into two, up to the masks of ranges, for shapers with stages of their
-- own.
use Rattle.std.specs.Prelude.{ℕ, ◌≡◌, ◌&&◌, ◌⊎◌, ⊤, true, false, List, [], ◌∷◌, Ok}
use Rattle.buffer_common.specs.Direction.{is_backward, is_vertical}
use Rattle.buffer_unicode_tables.specs.Lawful.{AsciiHasNoMarks}
use Rattle.buffer_unicode_tables.specs.Tables.{Tables}
use Rattle.buffer_glyphs.specs.Items.{Item}
use Rattle.buffer_properties.specs.Properties.{is_mark_character}
use Rattle.buffer_stages.specs.Stages.{with_items_mapped}
use Rattle.script_hangul.specs.declared.masks.JamoMasks.{JamoMasks}
use Rattle.script_hangul.specs.Jamo.{is_tone}
use Rattle.script_hangul.specs.Masks.{with_letter_mask}
use Rattle.script_thai.specs.declared.thai_private.Mark.TheVariants.{NotMark}
use Rattle.script_thai.specs.ThaiPrivate.{mark_of}
use Rattle.script_thai.specs.ThaiVowel.{is_mark_above}
use Rattle.buffer_core.specs.Readings.{BufferState, Read, always, state_after}
use Rattle.buffer_parts.specs.Breaks.Divisible.{IsBreakable}
use Rattle.buffer_parts.specs.Breaks.Fragments.{AreFragments}
use Rattle.script_categories.specs.declared.shaper.hb_ot_script_shaper_t.TheVariants.{ARABIC_SHAPER, HANGUL_SHAPER, HEBREW_SHAPER, THAI_SHAPER}
use Rattle.script_dispatch.specs.declared.any_shaper.hb_ot_any_shaper_t.{hb_ot_any_shaper_t}
use Rattle.script_dispatch.specs.Rules.{rules_of, script_rules}
use Rattle.script_joining.specs.Joining.{is_mongolian}
use Rattle.script_plan.specs.declared.plan.hb_script_plan_t.{hb_script_plan_t}
use Rattle.shape_pipeline.specs.Characters.{normalizer}
use Rattle.shape_pipeline.specs.Reading.{before_ranges}
use Rattle.shape_pipeline.specs.Shaping.{Shaping, preprocessing_stage}
use Rattle.shape_laws.specs.Breaks.Chains.{CharacterReads, KeepsBroken, MasksKeepBroken, NormalizesApart, PreprocessingKeepsBroken, unmasked_state}
use Rattle.shape_laws.specs.Breaks.HangulCharacters.{MayBreakHangul, begins_toned}
use Rattle.shape_laws.specs.Breaks.Characters.{KeepsMarks, MayBreak, OrderEndsUnjoined, PreprocessesNothing, characters}
use Rattle.shape_laws.specs.Breaks.Joining.{BeginsUnselected, ContextsShow}
use Rattle.shape_laws.specs.Breaks.Rewrites.{HasNoStages, RewritesRuns}
use Rattle.shape_laws.specs.Breaks.ThaiCharacters.{KeepsPrivateMarks, MayBreakThai}
use Rattle.shape_laws.specs.Breaks.Types.{AreNearest, CharactersShow, KeepsTypes, OrderKeepsTypes}
use Rattle.shape_laws.specs.Breaks.Texts.{AreBroken, AreBrokenShapings, IsNativeLine, KnowsGraphemes, StaysBroken}

-- ---- orders of marks

-- the order of a run of marks by each shaper may stand beside others
abbrev pub MarkOrdersRewrite : Type 0
MarkOrdersRewrite = (shaper : hb_ot_any_shaper_t) (plan : hb_script_plan_t ⊤) → RewritesRuns (rules_of shaper plan).reorders

-- the order of a run of marks without U+034F by each shaper ends with none
abbrev pub MarkOrdersEndUnjoined : Type 0
MarkOrdersEndUnjoined = (shaper : hb_ot_any_shaper_t) (plan : hb_script_plan_t ⊤) → OrderEndsUnjoined (rules_of shaper plan).reorders

-- the order of a run of marks that are transparent or non-joining by each shaper keeps the letters at its ends
abbrev pub MarkOrdersKeepTypes : Type 0
MarkOrdersKeepTypes = (shaper : hb_ot_any_shaper_t) (plan : hb_script_plan_t ⊤) (t : Tables) → OrderKeepsTypes t (rules_of shaper plan).reorders

-- the Hebrew shaper has no stages of its own but its order of marks
abbrev pub HebrewRulesHaveNoStages : Type 0
HebrewRulesHaveNoStages = (plan : hb_script_plan_t ⊤) → HasNoStages (script_rules HEBREW_SHAPER plan)

-- ---- chains

-- a text up to the masks of ranges, where its shaper's own stages keep it broken where they come to it
abbrev pub StagesDivide : Type 0
StagesDivide = (p p1 p2 : Shaping) (c : ℕ) (whole earlier later : BufferState) (r e l : Read) → AreBrokenShapings p p1 p2 → RewritesRuns p.rules.reorders → PreprocessingKeepsBroken c p p1 p2 whole earlier later
    → KnowsGraphemes p.tables → IsBreakable whole → AreBroken c whole earlier later → IsNativeLine p.settings.script whole.view.direction → NormalizesApart c p p1 p2 whole earlier later → MasksKeepBroken c p p1 p2 whole earlier later
    → before_ranges p whole.view ≡ Ok r → before_ranges p1 earlier.view ≡ Ok e → before_ranges p2 later.view ≡ Ok l → StaysBroken c (state_after r whole) (state_after e earlier) (state_after l later)

-- a text up to the masks of ranges, where its shaper's own stages keep it broken: preprocessing wherever it is, and the
-- masks where they are set
abbrev pub TextsDivide : Type 0
TextsDivide = (p p1 p2 : Shaping) (c : ℕ) (whole earlier later : BufferState) (r e l : Read) → AreBrokenShapings p p1 p2 → RewritesRuns p.rules.reorders → KeepsBroken (preprocessing_stage p) (preprocessing_stage p1) (preprocessing_stage p2)
    → KnowsGraphemes p.tables → IsBreakable whole → AreBroken c whole earlier later → IsNativeLine p.settings.script whole.view.direction → NormalizesApart c p p1 p2 whole earlier later → MasksKeepBroken c p p1 p2 whole earlier later
    → before_ranges p whole.view ≡ Ok r → before_ranges p1 earlier.view ≡ Ok e → before_ranges p2 later.view ≡ Ok l → StaysBroken c (state_after r whole) (state_after e earlier) (state_after l later)

-- where the Arabic shaper sets the masks of letters, the contexts show the letters near, and in Mongolian the later text
-- begins with no variation selector
abbrev pub LettersAreShown : (c : ℕ) (plan : hb_script_plan_t ⊤) (p p1 p2 : Shaping) (whole earlier later : BufferState) → Type 0
LettersAreShown c plan p p1 p2 whole earlier later = (w : CharacterReads p whole) (e : CharacterReads p1 earlier) (l : CharacterReads p2 later) → AreFragments false c (unmasked_state p whole w) (unmasked_state p1 earlier e) (unmasked_state p2 later l)
    → ContextsShow p.tables p.settings.pre_context p.settings.post_context p1.settings.post_context p2.settings.pre_context (unmasked_state p1 earlier e).view.items (unmasked_state p2 later l).view.items
    × ((is_mongolian plan.script ≡ false) ⊎ BeginsUnselected (unmasked_state p2 later l).view.items)

-- a text of the Arabic shaper, which shapes Syriac too, up to the masks of ranges
abbrev pub ArabicTextsDivide : Type 0
ArabicTextsDivide = (plan : hb_script_plan_t ⊤) (p p1 p2 : Shaping) (c : ℕ) (whole earlier later : BufferState) (r e l : Read) → p.rules ≡ script_rules ARABIC_SHAPER plan → AreBrokenShapings p p1 p2
    → KnowsGraphemes p.tables → IsBreakable whole → AreBroken c whole earlier later → IsNativeLine p.settings.script whole.view.direction → NormalizesApart c p p1 p2 whole earlier later → LettersAreShown c plan p p1 p2 whole earlier later
    → before_ranges p whole.view ≡ Ok r → before_ranges p1 earlier.view ≡ Ok e → before_ranges p2 later.view ≡ Ok l → StaysBroken c (state_after r whole) (state_after e earlier) (state_after l later)

-- ---- by the characters of both texts

-- a text of a shaper that preprocesses nothing is unsafe to break, or both of the two are normalized by themselves, where
-- what stands for characters keeps marks, and the two may be broken
abbrev pub CharactersNormalizeApart : Type 0
CharactersNormalizeApart = (p p1 p2 : Shaping) (c : ℕ) (whole earlier later : BufferState) → AreBrokenShapings p p1 p2 → PreprocessesNothing p.rules → KeepsMarks (normalizer p) → OrderEndsUnjoined p.rules.reorders
    → KnowsGraphemes p.tables → IsBreakable whole → AreBroken c whole earlier later → IsNativeLine p.settings.script whole.view.direction → MayBreak (characters earlier.view.items) (characters later.view.items)
    → NormalizesApart c p p1 p2 whole earlier later

-- a text of a shaper without stages of its own, up to the masks of ranges, by the characters of the two
abbrev pub CharactersDivide : Type 0
CharactersDivide = (p p1 p2 : Shaping) (c : ℕ) (whole earlier later : BufferState) (r e l : Read) → AreBrokenShapings p p1 p2 → HasNoStages p.rules → KeepsMarks (normalizer p) → OrderEndsUnjoined p.rules.reorders
    → KnowsGraphemes p.tables → IsBreakable whole → AreBroken c whole earlier later → IsNativeLine p.settings.script whole.view.direction → MayBreak (characters earlier.view.items) (characters later.view.items)
    → before_ranges p whole.view ≡ Ok r → before_ranges p1 earlier.view ≡ Ok e → before_ranges p2 later.view ≡ Ok l → StaysBroken c (state_after r whole) (state_after e earlier) (state_after l later)

-- contexts of the nearest characters show the letters of two texts
abbrev pub NearestContextsShow : Type 0
NearestContextsShow = (t : Tables) (n : ℕ) (pre post early_post late_pre earlier later : List ℕ) → AreNearest t n pre post early_post late_pre earlier later → CharactersShow t pre post early_post late_pre earlier later

-- where contexts show the letters of the characters of two texts, they show those of the texts where the shaper sets the
-- masks of letters: in a line that isn't backward and vertical at once, of a shaper that preprocesses nothing and keeps
-- types
abbrev pub CharactersAreShown : Type 0
CharactersAreShown = (p p1 p2 : Shaping) (c : ℕ) (whole earlier later : BufferState) (e : CharacterReads p1 earlier) (l : CharacterReads p2 later) → AreBrokenShapings p p1 p2 → PreprocessesNothing p.rules
    → KeepsTypes (normalizer p) → OrderKeepsTypes p.tables p.rules.reorders → (is_backward p.direction && is_vertical p.direction) ≡ false → AreBroken c whole earlier later → IsNativeLine p.settings.script whole.view.direction
    → CharactersShow p.tables p.settings.pre_context p.settings.post_context p1.settings.post_context p2.settings.pre_context (characters earlier.view.items) (characters later.view.items)
    → ContextsShow p.tables p.settings.pre_context p.settings.post_context p1.settings.post_context p2.settings.pre_context (unmasked_state p1 earlier e).view.items (unmasked_state p2 later l).view.items

-- a text of the Arabic shaper, which shapes Syriac too, up to the masks of ranges, by the characters of the two
abbrev pub ArabicCharactersDivide : Type 0
ArabicCharactersDivide = (plan : hb_script_plan_t ⊤) (p p1 p2 : Shaping) (c : ℕ) (whole earlier later : BufferState) (r e l : Read) → p.rules ≡ script_rules ARABIC_SHAPER plan → is_mongolian plan.script ≡ false → AreBrokenShapings p p1 p2
    → KeepsMarks (normalizer p) → KeepsTypes (normalizer p) → (is_backward p.direction && is_vertical p.direction) ≡ false → KnowsGraphemes p.tables → IsBreakable whole → AreBroken c whole earlier later → IsNativeLine p.settings.script whole.view.direction
    → MayBreak (characters earlier.view.items) (characters later.view.items)
    → CharactersShow p.tables p.settings.pre_context p.settings.post_context p1.settings.post_context p2.settings.pre_context (characters earlier.view.items) (characters later.view.items)
    → before_ranges p whole.view ≡ Ok r → before_ranges p1 earlier.view ≡ Ok e → before_ranges p2 later.view ≡ Ok l → StaysBroken c (state_after r whole) (state_after e earlier) (state_after l later)

-- ---- graphemes

-- of each text it is known which graphemes have more than one character, where no ASCII character is a mark
abbrev pub AsciiKnowsGraphemes : Type 0
AsciiKnowsGraphemes = (t : Tables) → AsciiHasNoMarks → KnowsGraphemes t

-- ---- Thai and Lao

-- the first character of a text is no mark above of Thai or Lao, and no mark of Thai private forms, unless it is a mark
abbrev pub BeginsPlainly : List Item → Type 0
BeginsPlainly [] = Unit {0}
BeginsPlainly (y ∷ ys) = is_mark_character y.number ≡ false → (mark_of y.number ≡ NotMark) × (is_mark_above y ≡ false)

-- a text of the Thai shaper, which shapes Lao too, up to the masks of ranges
abbrev pub ThaiTextsDivide : Type 0
ThaiTextsDivide = (plan : hb_script_plan_t ⊤) (p p1 p2 : Shaping) (c : ℕ) (whole earlier later : BufferState) (r e l : Read) → p.rules ≡ script_rules THAI_SHAPER plan → AreBrokenShapings p p1 p2
    → KnowsGraphemes p.tables → IsBreakable whole → AreBroken c whole earlier later → IsNativeLine p.settings.script whole.view.direction → BeginsPlainly later.view.items → NormalizesApart c p p1 p2 whole earlier later
    → before_ranges p whole.view ≡ Ok r → before_ranges p1 earlier.view ≡ Ok e → before_ranges p2 later.view ≡ Ok l → StaysBroken c (state_after r whole) (state_after e earlier) (state_after l later)

-- a text of the Thai shaper, up to the masks of ranges, by the characters of the two
abbrev pub ThaiCharactersDivide : Type 0
ThaiCharactersDivide = (plan : hb_script_plan_t ⊤) (p p1 p2 : Shaping) (c : ℕ) (whole earlier later : BufferState) (r e l : Read) → p.rules ≡ script_rules THAI_SHAPER plan → AreBrokenShapings p p1 p2
    → KeepsMarks (normalizer p) → KeepsPrivateMarks p.tables → KnowsGraphemes p.tables → IsBreakable whole → AreBroken c whole earlier later → IsNativeLine p.settings.script whole.view.direction
    → BeginsPlainly later.view.items → MayBreakThai earlier.view.items later.view.items
    → before_ranges p whole.view ≡ Ok r → before_ranges p1 earlier.view ≡ Ok e → before_ranges p2 later.view ≡ Ok l → StaysBroken c (state_after r whole) (state_after e earlier) (state_after l later)

-- ---- Hangul

-- the tone marks of Hangul are marks
abbrev pub TonesAreMarks : Type 0
TonesAreMarks = (u : ℕ) → is_tone u ≡ true → is_mark_character u ≡ true

-- a text of the Hangul shaper, up to the masks of ranges
abbrev pub HangulTextsDivide : Type 0
HangulTextsDivide = (plan : hb_script_plan_t ⊤) (p p1 p2 : Shaping) (c : ℕ) (whole earlier later : BufferState) (r e l : Read) → p.rules ≡ script_rules HANGUL_SHAPER plan → AreBrokenShapings p p1 p2
    → KnowsGraphemes p.tables → IsBreakable whole → AreBroken c whole earlier later → IsNativeLine p.settings.script whole.view.direction → NormalizesApart c p p1 p2 whole earlier later
    → before_ranges p whole.view ≡ Ok r → before_ranges p1 earlier.view ≡ Ok e → before_ranges p2 later.view ≡ Ok l → StaysBroken c (state_after r whole) (state_after e earlier) (state_after l later)

-- a text of the Hangul shaper, up to the masks of ranges, by the characters of the two
abbrev pub HangulCharactersDivide : Type 0
HangulCharactersDivide = (plan : hb_script_plan_t ⊤) (p p1 p2 : Shaping) (c : ℕ) (whole earlier later : BufferState) (r e l : Read) → p.rules ≡ script_rules HANGUL_SHAPER plan → AreBrokenShapings p p1 p2
    → KeepsMarks (normalizer p) → KnowsGraphemes p.tables → IsBreakable whole → AreBroken c whole earlier later → IsNativeLine p.settings.script whole.view.direction
    → begins_toned p.font (characters later.view.items) ≡ false → MayBreakHangul p.font (characters earlier.view.items) (characters later.view.items)
    → before_ranges p whole.view ≡ Ok r → before_ranges p1 earlier.view ≡ Ok e → before_ranges p2 later.view ≡ Ok l → StaysBroken c (state_after r whole) (state_after e earlier) (state_after l later)

-- the masks of jamo keep a text broken
abbrev pub JamoMasksKeepBroken : Type 0
JamoMasksKeepBroken = (masks : JamoMasks) → KeepsBroken (always (with_items_mapped (with_letter_mask masks))) (always (with_items_mapped (with_letter_mask masks))) (always (with_items_mapped (with_letter_mask masks)))

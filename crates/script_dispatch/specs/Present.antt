-- The hooks of each shaper, and that a missing hook changes nothing.
use Rattle.std.specs.Prelude.{◌≡◌, Bool, true, false, List, [], Option}
use Rattle.buffer_common.specs.declared.script.Script.{Script}
use Rattle.buffer_unicode_tables.specs.Tables.{Tables, pair_of, split_of}
use Rattle.layout_face.specs.declared.parts.FaceParts.{FaceParts}
use Rattle.buffer_glyphs.specs.Items.{Item}
use Rattle.buffer_core.specs.Readings.{as_it_is}
use Rattle.layout_map.specs.Compiled.{OtMapValue}
use Rattle.buffer_stages.specs.Settings.{TextSettings}
use Rattle.buffer_glyphs.specs.Rewriting.{eventless_arrangement}
use Rattle.script_dispatch.specs.Shapers.{features_of, overrides_of}
use Rattle.script_categories.specs.declared.shaper.hb_ot_script_shaper_t.{hb_ot_script_shaper_t}
use Rattle.script_categories.specs.declared.shaper.hb_ot_script_shaper_t.TheVariants.{ARABIC_SHAPER, HANGUL_SHAPER, HEBREW_SHAPER, INDIC_SHAPER, KHMER_SHAPER, MYANMAR_SHAPER, THAI_SHAPER, UNIVERSAL_SHAPER}
use Rattle.script_dispatch.specs.Hooks.{composes_by, masks_set_by, postprocessing_by, preprocessing_by, reorders_by, splits_by}

-- ---- the hooks of each shaper

-- a shaper requests features of its own
abbrev pub collects_features : hb_ot_script_shaper_t → Bool
collects_features ARABIC_SHAPER = true
collects_features HANGUL_SHAPER = true
collects_features INDIC_SHAPER = true
collects_features KHMER_SHAPER = true
collects_features MYANMAR_SHAPER = true
collects_features UNIVERSAL_SHAPER = true
collects_features _ = false

-- a shaper requests features after the user's
abbrev pub overrides_features : hb_ot_script_shaper_t → Bool
overrides_features HANGUL_SHAPER = true
overrides_features INDIC_SHAPER = true
overrides_features KHMER_SHAPER = true
overrides_features _ = false

-- a shaper makes its own data of a plan, by the map's masks
abbrev pub creates_data : hb_ot_script_shaper_t → Bool
creates_data ARABIC_SHAPER = true
creates_data HANGUL_SHAPER = true
creates_data INDIC_SHAPER = true
creates_data KHMER_SHAPER = true
creates_data UNIVERSAL_SHAPER = true
creates_data _ = false

-- a shaper changes texts before they are normalized; the Indic and universal shapers' vowel constraints are not
-- implemented
abbrev pub preprocesses_text : hb_ot_script_shaper_t → Bool
preprocesses_text HANGUL_SHAPER = true
preprocesses_text INDIC_SHAPER = true
preprocesses_text THAI_SHAPER = true
preprocesses_text UNIVERSAL_SHAPER = true
preprocesses_text _ = false

-- a shaper changes glyphs in visual order
abbrev pub postprocesses_glyphs : hb_ot_script_shaper_t → Bool
postprocesses_glyphs ARABIC_SHAPER = true
postprocesses_glyphs _ = false

-- a shaper has its own rule for decomposing characters
abbrev pub decomposes : hb_ot_script_shaper_t → Bool
decomposes INDIC_SHAPER = true
decomposes KHMER_SHAPER = true
decomposes _ = false

-- a shaper has its own rule for composing characters
abbrev pub composes : hb_ot_script_shaper_t → Bool
composes HEBREW_SHAPER = true
composes INDIC_SHAPER = true
composes KHMER_SHAPER = true
composes UNIVERSAL_SHAPER = true
composes _ = false

-- a shaper sets masks or categories
abbrev pub sets_masks : hb_ot_script_shaper_t → Bool
sets_masks ARABIC_SHAPER = true
sets_masks HANGUL_SHAPER = true
sets_masks INDIC_SHAPER = true
sets_masks KHMER_SHAPER = true
sets_masks MYANMAR_SHAPER = true
sets_masks UNIVERSAL_SHAPER = true
sets_masks _ = false

-- a shaper has its own order of marks
abbrev pub reorders_marks : hb_ot_script_shaper_t → Bool
reorders_marks ARABIC_SHAPER = true
reorders_marks HEBREW_SHAPER = true
reorders_marks _ = false

-- ---- missing hooks

-- law: without `collect_features` a shaper requests nothing
abbrev pub RequestsNothing : Type 0
RequestsNothing = (shaper : hb_ot_script_shaper_t) (s : Option Script) (has_rclt : Bool) → collects_features shaper ≡ false → features_of shaper s has_rclt ≡ []

-- law: without `override_features` a shaper requests nothing after the user's features
abbrev pub OverridesNothing : Type 0
OverridesNothing = (shaper : hb_ot_script_shaper_t) → overrides_features shaper ≡ false → overrides_of shaper ≡ []

-- law: without `preprocess_text` a text stays unchanged
abbrev pub LeavesText : Type 0
LeavesText = (shaper : hb_ot_script_shaper_t) (m : OtMapValue) (s : Option Script) (font : FaceParts) (t : Tables) (settings : TextSettings) → preprocesses_text shaper ≡ false → preprocessing_by shaper m s font t settings ≡ as_it_is

-- law: without `setup_masks` the masks stay unchanged
abbrev pub LeavesMasks : Type 0
LeavesMasks = (shaper : hb_ot_script_shaper_t) (m : OtMapValue) (s : Option Script) (t : Tables) (settings : TextSettings) → sets_masks shaper ≡ false → masks_set_by shaper m s t settings ≡ as_it_is

-- law: without `postprocess_glyphs` the glyphs stay unchanged
abbrev pub LeavesGlyphs : Type 0
LeavesGlyphs = (shaper : hb_ot_script_shaper_t) (font : FaceParts) → postprocesses_glyphs shaper ≡ false → postprocessing_by shaper font ≡ as_it_is

-- law: without `decompose` characters decompose as Unicode says
abbrev pub SplitsAsUnicode : Type 0
SplitsAsUnicode = (shaper : hb_ot_script_shaper_t) (t : Tables) → decomposes shaper ≡ false → splits_by shaper t ≡ split_of t

-- law: without `compose` characters compose as Unicode says
abbrev pub ComposesAsUnicode : Type 0
ComposesAsUnicode = (shaper : hb_ot_script_shaper_t) (has_gpos_mark : Bool) (t : Tables) → composes shaper ≡ false → composes_by shaper has_gpos_mark t ≡ pair_of t

-- law: without `reorder_marks` a run of marks stays in the order of its classes
abbrev pub LeavesMarks : Type 0
LeavesMarks = (shaper : hb_ot_script_shaper_t) (run : List Item) → reorders_marks shaper ≡ false → reorders_by shaper run ≡ eventless_arrangement run

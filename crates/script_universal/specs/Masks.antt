-- The masks that the universal shaper reads of a compiled map, and the stages that set them.
use Rattle.std.specs.Prelude.{ℕ, ◌==◌, Bool, false, if◌then◌else◌, List, [], ◌∷◌, Option, None, Some, codes}
use Rattle.std.specs.Option.{option_map_or}
use Rattle.buffer_common.specs.declared.script.Script.{Script}
use Rattle.buffer_common.specs.declared.script.TheConstants as script
use Rattle.buffer_common.specs.declared.tag.Tag.{Tag}
use Rattle.buffer_common.specs.Direction.{is_among}
use Rattle.buffer_common.specs.Tag.{tag_of}
use Rattle.buffer_unicode_tables.specs.Tables.{Tables}
use Rattle.layout_map.specs.Compiled.{OtMapValue, feature_at}
use Rattle.layout_map.specs.Masks.{joining_masks}
use Rattle.layout_map.specs.declared.chosen_feature.feature_map_t.{feature_map_t}
use Rattle.buffer_core.specs.Readings.{Stage, and_then, as_it_is}
use Rattle.script_joining.specs.Joining.{letters_joined}
use Rattle.script_syllabic.specs.declared.forms.FormMasks.{FormMasks}
use Rattle.script_syllabic.specs.Categories.{categories_set}
use Rattle.script_universal.specs.Categories.{universal_category_of}

-- the scripts whose letters join as Arabic ones do
abbrev pub joining_scripts : List Script
joining_scripts =
    script.ADLAM ∷ script.ARABIC ∷ script.CHORASMIAN ∷ script.HANIFI_ROHINGYA ∷ script.MANDAIC ∷ script.MANICHAEAN ∷ script.MONGOLIAN ∷ script.NKO
    ∷ script.OLD_UYGHUR ∷ script.PHAGS_PA ∷ script.PSALTER_PAHLAVI ∷ script.SOGDIAN ∷ script.SYRIAC ∷ []

-- the letters of the script join as Arabic ones do (HarfBuzz: has_arabic_joining)
abbrev pub letters_join : Option Script → Bool
letters_join None = false
letters_join (Some s) = is_among joining_scripts s

-- the stage of letters' forms, in scripts whose letters join
abbrev pub letters_joined_if : OtMapValue → Option Script → Tables → List ℕ → List ℕ → Stage
letters_joined_if m s t pre post v = if letters_join s then letters_joined (joining_masks m) s t pre post v else as_it_is v

-- the stage of the universal shaper's masks: letters' forms in scripts that join, then each character's category
abbrev pub universal_masks_set : OtMapValue → Option Script → Tables → List ℕ → List ℕ → Stage
universal_masks_set m s t pre post v = and_then (letters_joined_if m s t pre post v) (categories_set (universal_category_of t))

-- the mask of a form's feature, 0 where it is the mask of every glyph
abbrev pub form_mask : Tag → OtMapValue → ℕ
form_mask tag m =
    if option_map_or (λ (f : feature_map_t). f.one_mask) (feature_at tag m) 0 == m.global_mask then 0
    else option_map_or (λ (f : feature_map_t). f.one_mask) (feature_at tag m) 0

-- the masks of topographical forms, none where the script's letters join
abbrev pub form_masks : OtMapValue → Option Script → Option FormMasks
form_masks m s =
    if letters_join s then None
    else Some (record { isol = form_mask (tag_of (codes "isol")) m; init = form_mask (tag_of (codes "init")) m; medi = form_mask (tag_of (codes "medi")) m; fina = form_mask (tag_of (codes "fina")) m })

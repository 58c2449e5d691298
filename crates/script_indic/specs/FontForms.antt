-- The forms that a font has by the features of a map (HarfBuzz: indic_shape_plan_t).
use Rattle.std.specs.Prelude.{ℕ, ◌&&◌, ◌||◌, Bool, nat_le, List, codes}
use Rattle.std.specs.List.{list_all}
use Rattle.buffer_common.specs.Tag.{tag_of}
use Rattle.layout_face.specs.declared.parts.FaceParts.{FaceParts}
use Rattle.layout_map.specs.Compiled.{OtMapValue}
use Rattle.script_indic_reordering.specs.Base.{Forms}
use Rattle.script_indic.specs.declared.would_substitute.IndicWouldSubstituteFeature.{IndicWouldSubstituteFeature}
use Rattle.script_indic.specs.WouldSubstitute.{substitute_feature, would_substitute}

-- a feature would form a list of numbers, each of which is a glyph's: a number above 65,535 forms nothing
abbrev pub is_formed : IndicWouldSubstituteFeature → OtMapValue → FaceParts → List ℕ → Bool
is_formed feature m font ns = list_all (λ n. nat_le n 65535) ns && would_substitute feature m font ns

-- the forms of a font by five features: rphf makes a reph and pref a form before the base; blwf and vatu make forms below
-- the base, pstf and pref forms after the base
abbrev pub forms_by : (rphf pref blwf pstf vatu : IndicWouldSubstituteFeature) → OtMapValue → FaceParts → Forms
forms_by rphf pref blwf pstf vatu m font = record {
  reph = is_formed rphf m font;
  pref = is_formed pref m font;
  below = λ ns. is_formed blwf m font ns || is_formed vatu m font ns;
  post = λ ns. is_formed pstf m font ns || is_formed pref m font ns;
}

-- the forms of a font by the features of a map; `zero` says that rules don't count that require glyphs before or after
-- their input
abbrev pub font_forms : Bool → OtMapValue → FaceParts → Forms
font_forms zero m font =
    let feature : List ℕ → IndicWouldSubstituteFeature = λ name. substitute_feature (tag_of name) zero m in
    forms_by (feature (codes "rphf")) (feature (codes "pref")) (feature (codes "blwf")) (feature (codes "pstf")) (feature (codes "vatu")) m font

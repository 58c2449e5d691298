-- A feature that a map lacks forms nothing.
use Rattle.std.proofs.Common.{ℕ, ◌≡◌, ◌&&◌, Bool, true, false, List, Option, None, Some, refl}
use Rattle.std.specs.List.{list_all}
use Rattle.std.specs.Option.{is_none}
use Rattle.std.specs.Prelude.{nat_le}
use Rattle.layout_face.specs.declared.parts.FaceParts.{FaceParts}
use Rattle.layout_map.specs.Compiled.{OtMapValue}
use Rattle.script_indic.specs.FontForms.{is_formed}
use Rattle.script_indic.specs.WouldSubstitute.{any_would, lookups_at_stage}
use Rattle.script_indic.specs.declared.would_substitute.IndicWouldSubstituteFeature.{IndicWouldSubstituteFeature}
use Rattle.layout_face.proofs.Fitting.{none as none_after}

without_stage : (stage : Option ℕ) (t zero : Bool) (m : OtMapValue) (font : FaceParts) (ns : List ℕ) → is_none stage ≡ true
    → (t && any_would font ns zero (lookups_at_stage stage m)) ≡ false
without_stage None t zero m font ns e = none_after t
without_stage (Some stage) t zero m font ns e = cc

pub forms_nothing : (feature : IndicWouldSubstituteFeature) (m : OtMapValue) (font : FaceParts) (ns : List ℕ) → is_none feature.stage ≡ true
    → is_formed feature m font ns ≡ false
forms_nothing feature m font ns e =
    without_stage feature.stage (list_all (λ n. nat_le n 65535) ns) feature.zero_context m font ns e

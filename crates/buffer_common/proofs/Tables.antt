-- What holds of each row of a table, by computing both sides of it.
use Rattle.std.proofs.Common.{◌≡◌, List, [], ◌∷◌, zero, suc, Some, map, refl, arith}
use Rattle.std.specs.Prelude.{All}
use Rattle.buffer_common.specs.Constants.{combining_classes, scratch_flags, CombiningClassesAreListed, ScratchFlagsAreListed}
use Rattle.buffer_common.specs.Tag.{tag_of}
use Rattle.buffer_common.specs.Script.{named_scripts, script_of_tag, ScriptsAreNamed, TagsLeadBack}
use Rattle.buffer_facts.proofs.Lists.{all_equal}

pub scripts_are_named : ScriptsAreNamed
scripts_are_named = all_equal (λ named. named.0.0) (λ named. tag_of named.1) named_scripts refl

pub tags_lead_back : TagsLeadBack
tags_lead_back = all_equal (λ named. script_of_tag named.0.0) (λ named. Some named.0) named_scripts refl

pub combining_classes_are_listed : CombiningClassesAreListed
combining_classes_are_listed = all_equal (λ row. row.0) (λ row. row.1) combining_classes refl

pub scratch_flags_are_listed : ScratchFlagsAreListed
scratch_flags_are_listed = all_equal (λ row. row.0) (λ row. row.1) scratch_flags refl

-- Features of a font without a table.
use Rattle.std.proofs.Common.{ℕ, ◌≡◌, List, [], ◌∷◌, find, Option, Some, None, refl}
use Rattle.std.specs.Option.{option_and_then}
use Rattle.layout_tables.specs.Layout.{LangSysTable}
use Rattle.layout_tables.specs.Choice.{has_tag_at, language_feature}
use Rattle.buffer_common.specs.declared.tag.Tag.{Tag}
use Rattle.layout_map.specs.Chosen.{ChosenTable, system_feature}

-- a list of no features has no feature of a tag
no_feature : (tag : Tag) (is : List ℕ) → find (has_tag_at [] tag) is ≡ None
no_feature tag [] = refl
no_feature tag (i ∷ is) = no_feature tag is

in_system : (tag : Tag) (s : Option LangSysTable) → option_and_then (λ (s : LangSysTable). language_feature tag s []) s ≡ None
in_system tag None = refl
in_system tag (Some s) = no_feature tag s.features

pub no_system_feature : (tag : Tag) (t : ChosenTable) → t.features ≡ [] → system_feature tag t ≡ None
no_system_feature tag t h = rw h (in_system tag t.system)

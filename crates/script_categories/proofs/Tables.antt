-- What holds of each row of a table, by computing both sides of it.
use Rattle.std.proofs.Common.{◌≡◌, ℕ, List, [], ◌∷◌, zero, suc, Some, map, refl, arith}
use Rattle.std.specs.Prelude.{All}
use Rattle.script_categories.specs.declared.shaper.hb_ot_script_shaper_t.TheVariants.{INDIC_SHAPER, KHMER_SHAPER, MYANMAR_SHAPER, UNIVERSAL_SHAPER}
use Rattle.script_categories.specs.Indic.{ot_categories, ot_positions, CategoriesAreNumbered, PositionsAreNumbered}
use Rattle.script_categories.specs.Joining.{joining_type_names, JoiningTypesAreNumbered}
use Rattle.script_categories.specs.Names.{number_of, AreInOrder, AreNumbered}
use Rattle.script_categories.specs.Shapers.{kinds_of, indic_kinds, khmer_kinds, myanmar_kinds, universal_kinds, KindsAreNumbered}
use Rattle.script_categories.specs.Thai.{thai_actions, ThaiActionsAreNumbered}
use Rattle.script_categories.specs.Universal.{universal_categories, UniversalCategoriesAreNumbered}
use Rattle.buffer_facts.proofs.Lists.{all_equal}

numbered_list : (rows : List (List ℕ × ℕ)) → AreInOrder (map (λ row. row.1) rows)
    → map (λ (row : List ℕ × ℕ). number_of rows row.0) rows ≡ map (λ (row : List ℕ × ℕ). Some row.1) rows → AreNumbered rows
numbered_list rows numbers names = record { numbers = numbers; names = all_equal (λ row. number_of rows row.0) (λ row. Some row.1) rows names }

pub categories_are_numbered : CategoriesAreNumbered
categories_are_numbered = numbered_list ot_categories refl refl

pub positions_are_numbered : PositionsAreNumbered
positions_are_numbered = numbered_list ot_positions refl refl

pub universal_categories_are_numbered : UniversalCategoriesAreNumbered
universal_categories_are_numbered = numbered_list universal_categories refl refl

pub joining_types_are_numbered : JoiningTypesAreNumbered
joining_types_are_numbered = record { numbered = numbered_list joining_type_names refl refl; all_but_last = refl }

pub thai_actions_are_numbered : ThaiActionsAreNumbered
thai_actions_are_numbered = numbered_list thai_actions refl refl

pub kinds_are_numbered : KindsAreNumbered
kinds_are_numbered shaper =
    elim shaper as (λ s. AreNumbered (kinds_of s)) [
      | INDIC_SHAPER ↦ numbered_list indic_kinds refl refl
      | KHMER_SHAPER ↦ numbered_list khmer_kinds refl refl
      | MYANMAR_SHAPER ↦ numbered_list myanmar_kinds refl refl
      | UNIVERSAL_SHAPER ↦ numbered_list universal_kinds refl refl
      | _ ↦ numbered_list [] refl refl
    ]

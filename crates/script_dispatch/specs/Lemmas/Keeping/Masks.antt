-- The events of masks, and of what records tiles.
use Rattle.std.proofs.Common.{ℕ, suc, ◌≡◌, List, [], ◌∷◌, Option, None, length, refl, ap}
use Rattle.buffer_common.specs.declared.script.Script.{Script}
use Rattle.buffer_unicode_tables.specs.Tables.{Tables}
use Rattle.layout_map.specs.Compiled.{OtMapValue}
use Rattle.buffer_glyphs.specs.Items.{Item}
use Rattle.buffer_core.specs.Readings.{always, as_it_is}
use Rattle.buffer_stages.specs.Stages.{with_items_mapped}
use Rattle.buffer_parts.specs.PlainStages.{KeepsPlainly}
use Rattle.buffer_parts.specs.Lemmas.PlainStages.{always_plainly, either_plainly, even_plainly, mapped_plainly, same_plainly, then_plainly}
use Rattle.script_indic.proofs.Keeping.{properties_keep_plainly}
use Rattle.script_joining.specs.Joining.{forms, letters_with_forms, items_with_forms, nearest, neighbour_events, settled_forms, types_of_characters, types_of_items, with_forms}
use Rattle.script_joining.specs.Lemmas.Steady.{joining_is_steady}
use Rattle.script_hangul.specs.Masks.{with_letter_mask}
use Rattle.script_syllabic.specs.Categories.{categories_set, with_category}
use Rattle.script_universal.specs.Categories.{universal_category_of}
use Rattle.layout_map.specs.Masks.{joining_masks}
use Rattle.script_joining.specs.Joining.{is_mongolian, letters_joined}
use Rattle.script_universal.specs.Masks.{letters_joined_if, letters_join, universal_masks_set}
use Rattle.script_arabic.specs.Tiles.{tile_recorded}
use Rattle.script_dispatch.specs.Keeping.{MasksKeepPlainly}

pub forms_long : (masks : List ℕ) (xs : List Item) (fs : List ℕ) → length (with_forms masks xs fs) ≡ length xs
forms_long masks [] fs = refl
forms_long masks (x ∷ xs) [] = refl
forms_long masks (x ∷ xs) (f ∷ fs) = ap suc (forms_long masks xs fs)

joined_kept : (masks : List ℕ) (s : Option Script) (t : Tables) (pre post : List ℕ) → KeepsPlainly (letters_joined masks s t pre post)
joined_kept masks s t pre post = always_plainly (letters_with_forms t (is_mongolian s) masks pre post) (λ v level.
    even_plainly (neighbour_events (nearest (types_of_characters t pre)) None 0 (types_of_items t v.items)) v (record v { items = items_with_forms t (is_mongolian s) masks pre post v.items }) level
    (joining_is_steady t (is_mongolian s) masks pre post v level)
    (forms_long masks v.items (settled_forms (is_mongolian s) v.items (forms (types_of_characters t pre) (types_of_items t v.items) (types_of_characters t post)))))

universal_masks_kept : (m : OtMapValue) (s : Option Script) (t : Tables) (pre post : List ℕ) → KeepsPlainly (universal_masks_set m s t pre post)
universal_masks_kept m s t pre post =
    then_plainly (letters_joined_if m s t pre post) (categories_set (universal_category_of t))
    (either_plainly (letters_joined (joining_masks m) s t pre post) as_it_is (joined_kept (joining_masks m) s t pre post) same_plainly (letters_join s)) (mapped_plainly (with_category (universal_category_of t)))

pub masks_keep_plainly : MasksKeepPlainly
masks_keep_plainly = record {
  joined = joined_kept;
  letters = λ masks. mapped_plainly (with_letter_mask masks);
  categories = λ category_of. mapped_plainly (with_category category_of);
  indic = properties_keep_plainly;
  universal = universal_masks_kept;
  tiles = either_plainly (always (with_items_mapped tile_recorded)) as_it_is (mapped_plainly tile_recorded) same_plainly;
}

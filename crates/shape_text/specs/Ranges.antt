-- The masks of features that are requested for a range of the text: the one reading that depends on cluster numbers.
use Rattle.std.specs.Prelude.{ℕ, ◌*◌, ◌^◌, ◌%◌, if◌then◌else◌, List, [], ◌∷◌}
use Rattle.std.specs.Option.{option_map_or}
use Rattle.buffer_tags.specs.declared.feature.Feature.{Feature}
use Rattle.buffer_tags.specs.Feature.{is_global}
use Rattle.layout_map.specs.declared.chosen_feature.feature_map_t.{feature_map_t}
use Rattle.layout_map.specs.Compiled.{OtMapValue, feature_at}
use Rattle.buffer_glyphs.specs.Items.{Item}
use Rattle.buffer_core.specs.Readings.{View, Read, with_events}
use Rattle.buffer_core.specs.Masks.{items_set}

-- the mask bits of a feature, 0 where the map lacks it
abbrev pub bits_of : Feature → OtMapValue → ℕ
bits_of f map = option_map_or (λ (m : feature_map_t). m.mask) (feature_at f.tag map) 0

-- the lowest bit's index of a feature in the mask
abbrev pub shift_of : Feature → OtMapValue → ℕ
shift_of f map = option_map_or (λ (m : feature_map_t). m.shift) (feature_at f.tag map) 0

-- the value of a feature, shifted to its bits of a 32-bit mask
abbrev pub shifted_value : Feature → OtMapValue → ℕ
shifted_value f map = f.value * 2 ^ shift_of f map % 2 ^ 32

-- items with a feature's value where their clusters are in its range; a feature for all glyphs is in their masks
-- already
abbrev pub with_range : OtMapValue → Feature → List ℕ → List Item → List Item
with_range map f clusters xs = if is_global f then xs else items_set (shifted_value f map) (bits_of f map) f.start f.end clusters xs

-- items with the values of all features, in the order of the requests
abbrev pub with_all_ranges : OtMapValue → List Feature → List ℕ → List Item → List Item
with_all_ranges map [] clusters xs = xs
with_all_ranges map (f ∷ fs) clusters xs = with_all_ranges map fs clusters (with_range map f clusters xs)

-- the view with the masks of ranged features, by its cluster numbers
abbrev pub with_ranges : OtMapValue → List Feature → List ℕ → View → Read
with_ranges map features clusters v = with_events [] (record v { items = with_all_ranges map features clusters v.items })

-- The slots of features' tags.
use Rattle.std.specs.Prelude.{ℕ, ◌≡◌, ◌==◌, ◌%◌, Bool, true, not, List, get_or}
use Rattle.std.specs.List.{list_all}
use Rattle.layout_map.specs.declared.chosen_feature.feature_map_t.{feature_map_t}

-- whether the slot of a tag's number is taken
abbrev pub has_slot : List ℕ → ℕ → Bool
has_slot slots n = not (get_or slots (n % 61) 0 == 0)

-- the slot of each feature's tag is taken
abbrev pub HaveSlots : List ℕ → List feature_map_t → Type 0
HaveSlots slots features = list_all (λ (f : feature_map_t). has_slot slots f.tag.0) features ≡ true

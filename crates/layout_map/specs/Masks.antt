-- The masks of features in a compiled map.
use Rattle.std.specs.Prelude.{ℕ, ◌≡◌, ◌==◌, Bool, not, List, [], ◌∷◌, codes}
use Rattle.std.specs.Int.RustNames.{bit_and}
use Rattle.std.specs.Option.{option_map_or}
use Rattle.buffer_common.specs.Tag.{tag_of}
use Rattle.buffer_glyphs.specs.declared.info.TheConstants.{DEFINED}
use Rattle.layout_map.specs.Compiled.{OtMapValue, feature_at}

-- the mask of a feature with value 1, 0 where the map lacks it
abbrev pub mask_at_one : List ℕ → OtMapValue → ℕ
mask_at_one name m = option_map_or (λ f. f.one_mask) (feature_at (tag_of name) m) 0

-- the map has a mask for the feature
abbrev pub has_mask : List ℕ → OtMapValue → Bool
has_mask name m = not (mask_at_one name m == 0)

-- the masks of the features of joining letters' forms, in the order of the forms' numbers: ISOL, FINA, FIN2, FIN3, MEDI,
-- MED2 and INIT (HarfBuzz: arabic_shape_plan_t's mask_array)
abbrev pub joining_masks : OtMapValue → List ℕ
joining_masks m =
    mask_at_one (codes "isol") m ∷ mask_at_one (codes "fina") m ∷ mask_at_one (codes "fin2") m ∷ mask_at_one (codes "fin3") m
    ∷ mask_at_one (codes "medi") m ∷ mask_at_one (codes "med2") m ∷ mask_at_one (codes "init") m ∷ []

-- no mask of the list has a glyph flag's bit
abbrev pub HaveNoFlag : List ℕ → Type 0
HaveNoFlag [] = Unit {0}
HaveNoFlag (m ∷ ms) = (bit_and m DEFINED ≡ 0) × HaveNoFlag ms

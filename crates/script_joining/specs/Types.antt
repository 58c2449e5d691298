-- The joining type of a character (Unicode core specification, 'Arabic', cursive joining; ArabicShaping.txt).
use Rattle.std.specs.Prelude.{ℕ, ◌==◌, if◌then◌else◌, List, [], ◌∷◌, Option, None, Some, slice_get, unwrap_or}
use Rattle.std.specs.List.{list_any}
use lib.Utf8.{scalar}
use Rattle.ucd_category.specs.declared.GeneralCategory.{GeneralCategory}
use Rattle.ucd_category.specs.declared.GeneralCategory.TheVariants.{NonspacingMark, EnclosingMark, Format}
use Rattle.unicode.specs.GeneralCategory.{general_category}
use Rattle.buffer_unicode.specs.Category.{category_number}
use Rattle.buffer_unicode_tables.specs.Tables.{Tables, joining_of}
use Rattle.script_categories.specs.declared.joining_types.hb_arabic_joining_type_t.{hb_arabic_joining_type_t}
use Rattle.script_categories.specs.declared.joining_types.hb_arabic_joining_type_t.TheVariants.{U, T}
use Rattle.script_categories.specs.Joining.{joining_types}
use Rattle.buffer_properties.specs.Characters.{category_of}
use Rattle.buffer_glyphs.specs.Items.{Item}

-- the joining types, with those of Syriac Alaph and Dalath Rish
abbrev pub JoiningType : Type 0
JoiningType = hb_arabic_joining_type_t

-- the categories Mn, Me and Cf
abbrev pub transparent_categories : List GeneralCategory
transparent_categories = NonspacingMark ∷ EnclosingMark ∷ Format ∷ []

-- the joining type of a character without a row: transparent for Mn, Me and Cf, else non-joining
abbrev pub type_of_category : ℕ → JoiningType
type_of_category n = if list_any (λ c. n == category_number c) transparent_categories then T else U

-- the joining type of a row's number
abbrev pub type_of_number : Option ℕ → Option JoiningType
type_of_number None = None
type_of_number (Some n) = slice_get joining_types n

-- the joining type of a character's row, if it has one
abbrev pub listed_type : Tables → ℕ → Option JoiningType
listed_type t u = if scalar u then type_of_number (joining_of t u) else None

-- the joining type of a character of a general category (HarfBuzz: get_joining_type)
abbrev pub joining_type : Tables → ℕ → ℕ → JoiningType
joining_type t u category = unwrap_or (listed_type t u) (type_of_category category)

-- the joining type of an item
abbrev pub type_of_item : Tables → Item → JoiningType
type_of_item t x = joining_type t x.number (category_of x)

-- the joining type of a character, by its own general category
abbrev pub type_of_character : Tables → ℕ → JoiningType
type_of_character t u = joining_type t u (category_number (general_category u))

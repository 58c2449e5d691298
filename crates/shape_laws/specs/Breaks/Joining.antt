-- What contexts have to show of a text that is broken into two, for its letters to join as in the whole.
use Rattle.std.specs.Prelude.{ℕ, ◌≡◌, ◌⊎◌, ◌||◌, Bool, true, false, List, [], ◌∷◌, ◌++◌}
use Rattle.buffer_unicode_tables.specs.Tables.{Tables}
use Rattle.buffer_glyphs.specs.Items.{Item}
use Rattle.script_categories.specs.declared.joining_types.hb_arabic_joining_type_t.TheVariants.{U}
use Rattle.script_joining.specs.Types.{JoiningType}
use Rattle.script_joining.specs.Joining.{is_letter, is_mongolian_selector, nearest, nearest_past, types_of_characters, types_of_items}

-- the type of the nearest letter after some characters, by the one before them
abbrev pub nearest_after : JoiningType → List JoiningType → JoiningType
nearest_after before [] = before
nearest_after before (t ∷ ts) = nearest_after (nearest_past before t) ts

-- whether there is a letter among some characters
abbrev pub has_letter : List JoiningType → Bool
has_letter [] = false
has_letter (t ∷ ts) = is_letter t || has_letter ts

-- a context shows the type of the nearest letter before a text, or no letter: none is near
abbrev pub ShowsBefore : JoiningType → JoiningType → Type 0
ShowsBefore nearest shown = (shown ≡ nearest) ⊎ (shown ≡ U)

-- a context shows the type of the nearest letter after a text; or no letter, where one of the characters after it is one
abbrev pub ShowsAfter : List JoiningType → List JoiningType → JoiningType → Type 0
ShowsAfter next after shown = (shown ≡ nearest (next ++ after)) ⊎ ((shown ≡ U) × (has_letter next ≡ true))

-- the contexts of two texts, one after the other, show each the letters of the other: `pre` and `post` are the contexts
-- of both, nearest first, `late_pre` that before the later one, and `early_post` that after the earlier one
pub record ContextsShow (t : Tables) (pre post early_post late_pre : List ℕ) (earlier later : List Item) : Type 0 where
  pub before : ShowsBefore (nearest_after (nearest (types_of_characters t pre)) (types_of_items t earlier)) (nearest (types_of_characters t late_pre))
  pub after : ShowsAfter (types_of_items t later) (types_of_characters t post) (nearest (types_of_characters t early_post))

-- a text doesn't begin with a Mongolian variation selector
abbrev pub BeginsUnselected : List Item → Type 0
BeginsUnselected [] = Unit {0}
BeginsUnselected (y ∷ ys) = is_mongolian_selector y ≡ false

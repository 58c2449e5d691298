-- Dotted circles, the bases of broken syllables.
use Rattle.std.specs.Prelude.{ℕ, zero, suc, ◌+◌, ◌-◌, ◌==◌, ◌&&◌, not, Bool, true, false, nat_le, if◌then◌else◌, List, [], ◌∷◌, length, Option, None, Some, Ok, Err, ◌≡◌}
use Rattle.std.specs.Int.RustNames.{bit_and}
use Rattle.std.specs.List.{list_any}
use Rattle.buffer_glyphs.specs.declared.cause.ShapeCause.TheVariants.{TooLong}
use Rattle.buffer_common.specs.declared.constants.BufferFlags.{BufferFlags}
use Rattle.layout_face.specs.declared.parts.FaceParts.{FaceParts}
use Rattle.layout_face.specs.Glyphs.{nominal_glyph}
use Rattle.buffer_glyphs.specs.Items.{Item}
use Rattle.buffer_glyphs.specs.Events.{Event, Circle}
use Rattle.buffer_core.specs.Readings.{View, Stage, with_events, as_it_is}
use Rattle.buffer_core.specs.Sides.{zero_positions}
use Rattle.buffer_stages.specs.Bytes.{kind_of_byte}
use Rattle.script_syllabic.specs.declared.circles.CircleRule.{CircleRule}

-- U+25CC DOTTED CIRCLE
abbrev pub DOTTED_CIRCLE : ℕ
DOTTED_CIRCLE = 0x25CC

-- the font's glyph of the circle, unless DO_NOT_INSERT_DOTTED_CIRCLE is set
abbrev pub circle_glyph : BufferFlags → FaceParts → Option ℕ
circle_glyph flags font = if bit_and flags.0 16 == 16 then None else nominal_glyph DOTTED_CIRCLE font

-- the byte of the item's syllable has the kind of broken syllables
abbrev pub is_broken : CircleRule → Item → Bool
is_broken r x = kind_of_byte x.syllable == r.kind

-- an item begins a broken syllable, unless its byte is that of the previous broken one
abbrev pub begins : CircleRule → ℕ → Item → Bool
begins r last x = not (x.syllable == last) && is_broken r x

-- an item has the category, if there is one
abbrev pub is_of_category : Option ℕ → Item → Bool
is_of_category None x = false
is_of_category (Some category) x = x.category == category

-- a repha of the syllable with the byte
abbrev pub is_repha : CircleRule → ℕ → Item → Bool
is_repha r byte x = x.syllable == byte && is_of_category r.repha x

-- the circle of the syllable that begins with the item: it has its mask and its syllable byte
abbrev pub circle_item : CircleRule → Item → Item
circle_item r x = record {
  number = r.glyph;
  glyph_index = 0;
  unicode_props = 0;
  class = 0;
  glyph_props = 0;
  lig_props = 0;
  syllable = x.syllable;
  category = r.category;
  auxiliary = r.position;
  mask = x.mask;
}

-- an item of the list before, or a circle that is inserted after that many rephas of its syllable
pub data CircledItem : Type 0 where
  There : Item → CircledItem
  Inserted : (rephas : ℕ) → Item → CircledItem

-- a circle that is not inserted yet, and the number of rephas before it
pub record Due : Type 0 where
  pub rephas : ℕ
  pub circle : Item

-- the next item where no circle is due: it may begin a broken syllable, and then be a repha
abbrev pub circled_at_start : CircleRule → ℕ → Item → (ℕ → Option Due → List CircledItem) → List CircledItem
circled_at_start r last x rest =
    if begins r last x then
    (if is_repha r x.syllable x then There x ∷ rest x.syllable (Some (record { rephas = 1; circle = circle_item r x }))
    else Inserted 0 (circle_item r x) ∷ There x ∷ rest x.syllable None)
    else There x ∷ rest last None

-- the rest of a list with its circles, by the byte of the last broken syllable and the circle that is due, which is inserted
-- after the rephas
abbrev pub circled_rest : CircleRule → List Item → ℕ → Option Due → List CircledItem
circled_rest r [] last None = []
circled_rest r [] last (Some d) = Inserted d.rephas d.circle ∷ []
circled_rest r (x ∷ xs) last None = circled_at_start r last x (circled_rest r xs)
circled_rest r (x ∷ xs) last (Some d) =
    if is_repha r last x then There x ∷ circled_rest r xs last (Some (record { rephas = suc d.rephas; circle = d.circle }))
    else Inserted d.rephas d.circle ∷ circled_at_start r last x (circled_rest r xs)

-- a list with the circles of its broken syllables (HarfBuzz: hb_syllabic_insert_dotted_circles)
abbrev pub with_circles : CircleRule → List Item → List CircledItem
with_circles r xs = circled_rest r xs 0 None

-- the items of a list with circles
abbrev pub circled_items : List CircledItem → List Item
circled_items [] = []
circled_items (There x ∷ ys) = x ∷ circled_items ys
circled_items (Inserted n c ∷ ys) = c ∷ circled_items ys

-- the list without its circles
abbrev pub items_without_circles : List CircledItem → List Item
items_without_circles [] = []
items_without_circles (There x ∷ ys) = x ∷ items_without_circles ys
items_without_circles (Inserted n c ∷ ys) = items_without_circles ys

-- the insertion of a circle: after the last repha and in its cluster, else before the syllable's first item, with that
-- item's flags
abbrev pub circle_event : ℕ → ℕ → Event
circle_event at zero = Circle false at at
circle_event at (suc n) = Circle true (at - 1) (at - suc n)

-- the events of a list with circles, by indices of the list that grows from the left
abbrev pub circle_events : ℕ → List CircledItem → List Event
circle_events at [] = []
circle_events at (There x ∷ ys) = circle_events (at + 1) ys
circle_events at (Inserted n c ∷ ys) = circle_event at n ∷ circle_events (at + 1) ys

-- the stage that inserts the circles, where the list may have that many items
abbrev pub circles_put : List CircledItem → Stage
circles_put ys v = if nat_le (length (circled_items ys)) v.max_len
    then Ok (with_events (circle_events 0 ys) (record v { items = circled_items ys; positions = zero_positions (length (circled_items ys)) }))
    else Err TooLong

-- there is a rule, and a syllable is broken
abbrev pub puts_circles : Option CircleRule → List Item → Bool
puts_circles None xs = false
puts_circles (Some r) xs = list_any (is_broken r) xs

-- the stage of dotted circles by a rule; without a rule nothing changes
abbrev pub circles_by : Option CircleRule → Stage
circles_by None v = as_it_is v
circles_by (Some r) v = if list_any (is_broken r) v.items then circles_put (with_circles r v.items) v else as_it_is v

-- law: without its circles, the list is the one before the insertion, in the same order
abbrev pub ErasingCircles : Type 0
ErasingCircles = (r : CircleRule) (xs : List Item) → items_without_circles (with_circles r xs) ≡ xs

-- law: where the stage returns false, no circle is inserted
abbrev pub NoCircleChangesNothing : Type 0
NoCircleChangesNothing = (r : Option CircleRule) (v : View) → puts_circles r v.items ≡ false → circles_by r v ≡ as_it_is v

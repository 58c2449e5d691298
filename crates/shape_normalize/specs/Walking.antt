-- Groups of a character and its marks.
use Rattle.std.specs.Prelude.{ℕ, ◌≡◌, ◌++◌, Bool, List, [], ◌∷◌, length, Option, Some, None, is_some, if◌then◌else◌, take, drop}
use Rattle.buffer_glyphs.specs.declared.cause.ShapeCause.{ShapeCause}
use Rattle.buffer_glyphs.specs.Items.{Item, strip}
use Rattle.buffer_core.specs.Sides.{Sides}
use Rattle.buffer_glyphs.specs.Rewriting.{Arrangement, in_turn}
use Rattle.buffer_properties.specs.Characters.{is_selector}
use Rattle.buffer_properties.specs.Expanding.{expanded_group, meets_selector, pending_item, selections_after}
use Rattle.buffer_properties.specs.Normalizer.{Normalizer}
use Rattle.buffer_stages.specs.Appending.{AppendsArrangement, RefusesRoomFor}

-- ---- items with selectors among them

-- the list of an optional item
abbrev pub one_or_none : Option Item → List Item
one_or_none None = []
one_or_none (Some x) = x ∷ []

-- the pending item after another one: a selector is never pending
abbrev pub waits_after : Item → Option Item
waits_after y = if is_selector y then None else Some y

-- the items that are output as an item is handled, by the pending one
abbrev pub arrangements_at : Normalizer → Option Item → Item → List Arrangement
arrangements_at c before y = if is_selector y then meets_selector c before y else pending_item c before

-- the next item was handled, and the call returns whether it is pending
abbrev pub Selects : Normalizer → Bool → Bool → Sides → Sides → Type 0
Selects c waits b old new = (before : Option Item) (y : Item) (ys : List Item) → is_some before ≡ waits → strip old.ahead ≡ one_or_none before ++ y ∷ ys
    → (is_some (waits_after y) ≡ b) × AppendsArrangement (in_turn (arrangements_at c before y)) (one_or_none (waits_after y) ++ ys) old new

-- the next item was not handled: its output would be too long
abbrev pub SelectsTooMany : Normalizer → Bool → ShapeCause → Sides → Type 0
SelectsTooMany c waits e old = (before : Option Item) (y : Item) (ys : List Item) → is_some before ≡ waits → strip old.ahead ≡ one_or_none before ++ y ∷ ys
    → RefusesRoomFor (length (in_turn (arrangements_at c before y)).items) e old

-- the pending item was output
abbrev pub PutsWaiting : Normalizer → Bool → Sides → Sides → Type 0
PutsWaiting c waits old new = (before : Option Item) (ys : List Item) → is_some before ≡ waits → strip old.ahead ≡ one_or_none before ++ ys → AppendsArrangement (in_turn (pending_item c before)) ys old new

-- that many items after the first were handled
abbrev pub SelectsAll : Normalizer → ℕ → Sides → Sides → Type 0
SelectsAll c k old new = (x : Item) (xs : List Item) → strip old.ahead ≡ x ∷ xs → AppendsArrangement (in_turn (selections_after c (Some x) (take k xs))) (drop k xs) old new

-- that many items were not handled: their output would be too long
abbrev pub SelectsAllTooMany : Normalizer → ℕ → ShapeCause → Sides → Type 0
SelectsAllTooMany c k e old = (x : Item) (xs : List Item) → strip old.ahead ≡ x ∷ xs → RefusesRoomFor (length (in_turn (selections_after c (Some x) (take k xs))).items) e old

-- ---- groups

-- a character and that many marks were output
abbrev pub Groups : Normalizer → ℕ → Sides → Sides → Type 0
Groups c k old new = (x : Item) (marks ys : List Item) → strip old.ahead ≡ x ∷ (marks ++ ys) → length marks ≡ k → AppendsArrangement (in_turn (expanded_group c x marks)) ys old new

-- a character and that many marks were not output: the output would be too long
abbrev pub GroupsTooMany : Normalizer → ℕ → ShapeCause → Sides → Type 0
GroupsTooMany c k e old = (x : Item) (marks ys : List Item) → strip old.ahead ≡ x ∷ (marks ++ ys) → length marks ≡ k → RefusesRoomFor (length (in_turn (expanded_group c x marks)).items) e old

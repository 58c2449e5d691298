-- Runs of marks on a buffer, in the order of the walk.
use Rattle.std.specs.Prelude.{ℕ, Bool, ◌≡◌, ◌+◌, ◌==◌, ◌++◌, true, false, List, [], ◌∷◌, length, map}
use Rattle.buffer_glyphs.specs.Items.{Item}
use Rattle.buffer_glyphs.specs.Events.{Sort}
use Rattle.buffer_core.specs.Sides.{Sides, items_of, origins_of}
use Rattle.buffer_stages.specs.Ready.{IsReady}
use Rattle.buffer_unicode_tables.specs.ClassOrder.{run_order}
use Rattle.buffer_glyphs.specs.Rewriting.{Arrangement}
use Rattle.buffer_properties.specs.Characters.{mark_class}
use Rattle.buffer_properties.specs.Ordering.{arranged_run, joiner_between, sorted_order}
use Rattle.buffer_stages.specs.Appending.{frame_of}
use Rattle.buffer_stages.specs.Rearranged.{IsRearranged}

-- the items sorted stably by combining class
abbrev pub in_class_order : List Item → Arrangement
in_class_order run = record { items = run_order mark_class run; events = Sort 0 (sorted_order (map mark_class run)) ∷ [] }

-- an item of class 0 ends the run before it, which is then arranged; any other item extends the run
abbrev pub RunsOn : Bool → (List Item → Arrangement) → List Item → List Item → List Item → ℕ → ℕ → ℕ → Sides → Sides → Type 0
RunsOn true reorders front run rest start i n old new = (n ≡ i + 1) × (length (arranged_run reorders run).items ≡ length run) × IsRearranged front (arranged_run reorders run) rest old new
RunsOn false reorders front run rest start i n old new = (n ≡ start) × (new ≡ old)

-- the item at an index was handled, after a run that began at `start`; the call returns where the next run begins
abbrev pub Meets : (List Item → Arrangement) → ℕ → ℕ → ℕ → Sides → Sides → Type 0
Meets reorders start i n old new = (front run : List Item) (y : Item) (ys : List Item) → items_of old ≡ front ++ (run ++ y ∷ ys) → length front ≡ start → start + length run ≡ i
    → RunsOn (mark_class y == 0) reorders front run (y ∷ ys) start i n old new

-- the items were changed, and nothing else was
pub record HasItems (xs : List Item) (old new : Sides) : Type 0 where
  pub items : items_of new ≡ xs
  pub origins : origins_of new ≡ origins_of old
  pub frame : frame_of new ≡ frame_of old
  pub ready : IsReady new

-- the item at an index, between two classes, is unhidden where it is a joiner that keeps nothing apart
abbrev pub ShowsAt : ℕ → ℕ → ℕ → Sides → Sides → Type 0
ShowsAt k i n old new = (front : List Item) (before x y : Item) (ys : List Item) → items_of old ≡ front ++ (x ∷ y ∷ ys) → length front ≡ i → mark_class before ≡ k
    → (n ≡ mark_class x) × HasItems (front ++ (joiner_between before x y ∷ y ∷ ys)) old new

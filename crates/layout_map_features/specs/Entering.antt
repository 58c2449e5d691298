-- Entries of a finite map as elements are added.
use Rattle.std.specs.Prelude.{ℕ, ◌+◌, ◌≤◌, ◌<◌, List, [], ◌∷◌, Option, Some, None, map}
use Rattle.std.specs.Ordering.{nat_cmp}
use Rattle.std.specs.BTreeMap.{insert_entry, is_at}
use Rattle.std.specs.Map.{lookup}

-- values as entries of a finite map, each at its key
abbrev pub entries_of : {Y : Type 0} → (Y → ℕ) → List Y → List (ℕ × Y)
entries_of key ys = map (λ y. (key y, y)) ys

-- the value of an element added to those before it
abbrev pub entry_after : {X Y : Type 0} → (X → List X → Y) → (Y → X → Y) → Option Y → X → Y
entry_after together join None x = together x []
entry_after together join (Some before) x = join before x

-- the entries with one more element
abbrev pub entries_with : {X Y : Type 0} → (X → ℕ) → (X → List X → Y) → (Y → X → Y) → List (ℕ × Y) → X → List (ℕ × Y)
entries_with key together join entries x =
    insert_entry nat_cmp entries (key x) (entry_after together join (lookup (is_at (nat_cmp (key x))) entries) x)

-- each key is greater than the one before it, and none is below a number
abbrev pub RisesFrom : {X : Type 0} → (X → ℕ) → ℕ → List X → Type 0
RisesFrom key low [] = Unit {0}
RisesFrom key low (x ∷ xs) = (low ≤ key x) × RisesFrom key (key x + 1) xs

-- each key is greater than the one before it, none is below one number, and all are below another
abbrev pub RisesWithin : {X : Type 0} → (X → ℕ) → ℕ → ℕ → List X → Type 0
RisesWithin key low high [] = Unit {0}
RisesWithin key low high (x ∷ xs) = (low ≤ key x) × (key x < high) × RisesWithin key (key x + 1) high xs

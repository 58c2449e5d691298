-- The slots of second halves of pairs.
use Rattle.std.specs.Prelude.{ℕ, ◌≡◌, ◌%◌, Bool, true, false, List, get_or}
use Rattle.std.specs.List.{list_all}
use Rattle.buffer_unicode.specs.declared.rows.Pair.{Pair}

-- whether the slot of a character's ten low bits is marked
abbrev pub has_slot : List Bool → ℕ → Bool
has_slot slots b = get_or slots (b % 1024) false

-- the slot of each pair's second half is marked
abbrev pub HaveSeconds : List Bool → List Pair → Type 0
HaveSeconds slots pairs = list_all (λ (p : Pair). has_slot slots p.second) pairs ≡ true

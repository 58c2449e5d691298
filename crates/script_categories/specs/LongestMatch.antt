-- The prefixes of a list of categories that a machine accepts, and the longest of them.
use Rattle.std.specs.Prelude.{ℕ, zero, suc, ◌≡◌, ◌<◌, ◌≤◌, ◌+◌, List, length, take, drop, fold, Option, None, Some}
use Rattle.std.specs.Option.{option_and_then}
use Rattle.script_categories.specs.Shapers.{non_kind_of}
use Rattle.script_categories.specs.declared.shaper.hb_ot_script_shaper_t.{hb_ot_script_shaper_t}
use Rattle.script_categories.specs.Machines.{Machine, Machines, accepted_kind, machine_of, next_state}
use Rattle.script_categories.specs.declared.scan.FoundSyllable.{FoundSyllable}

-- the state after a category, if there is a state before
abbrev pub state_by : Machine → Option ℕ → ℕ → Option ℕ
state_by m None category = None
state_by m (Some state) category = next_state m state category

-- the state after categories, from state 0 on
abbrev pub state_after : Machine → List ℕ → Option ℕ
state_after m categories = fold (state_by m) (Some 0) categories

-- the kind of syllable that ends in a state, if there is a state
abbrev pub kind_in : Machine → Option ℕ → Option ℕ
kind_in m None = None
kind_in m (Some state) = accepted_kind m state

-- the kind of syllable that a whole list of categories is, if they lead from state 0 to an accepting state: the
-- machine's language
abbrev pub kind_of_prefix : Machine → List ℕ → Option ℕ
kind_of_prefix m categories = kind_in m (state_after m categories)

-- a prefix of a kind, if there is a kind, else another prefix
abbrev pub found_or : Option ℕ → ℕ → Option FoundSyllable → Option FoundSyllable
found_or (Some kind) n other = Some (record { length = n; kind = kind })
found_or None n other = other

-- the longest accepted prefix among the nonempty ones up to a length
abbrev pub longest_up_to : Machine → List ℕ → ℕ → Option FoundSyllable
longest_up_to m categories zero = None
longest_up_to m categories (suc n) = found_or (kind_of_prefix m (take (suc n) categories)) (suc n) (longest_up_to m categories n)

-- the longest nonempty prefix that is accepted
abbrev pub longest_syllable : Machine → List ℕ → Option FoundSyllable
longest_syllable m categories = longest_up_to m categories (length categories)

-- the end and the kind of a prefix; without one, of a single element of another kind
abbrev pub span_at : ℕ → ℕ → Option FoundSyllable → ℕ × ℕ
span_at start other (Some found) = (start + found.length, found.kind)
span_at start other None = (start + 1, other)

-- the syllable that begins at an index: the longest match, else one element of the kind of non-clusters
abbrev pub syllable_at : Machines → hb_ot_script_shaper_t → List ℕ → ℕ → ℕ × ℕ
syllable_at ms shaper categories start =
    span_at start (non_kind_of shaper) (option_and_then (λ m. longest_syllable m (drop start categories)) (machine_of ms shaper))

-- a prefix is accepted, and no longer one is
pub record IsLongest (m : Machine) (categories : List ℕ) (found : FoundSyllable) : Type 0 where
  pub nonempty : 0 < found.length
  pub inside : found.length ≤ length categories
  pub accepted : kind_of_prefix m (take found.length categories) ≡ Some found.kind
  pub longest : (n : ℕ) → found.length < n → n ≤ length categories → kind_of_prefix m (take n categories) ≡ None

-- the result is the longest accepted prefix, or none where no prefix is accepted
abbrev pub IsLongestMatch : Machine → List ℕ → Option FoundSyllable → Type 0
IsLongestMatch m categories (Some found) = IsLongest m categories found
IsLongestMatch m categories None = (n : ℕ) → 0 < n → n ≤ length categories → kind_of_prefix m (take n categories) ≡ None

-- law: a prefix that is found is accepted and no longer one is; where none is found, no prefix is accepted
abbrev pub LongestIsLongest : Type 0
LongestIsLongest = (m : Machine) (categories : List ℕ) → IsLongestMatch m categories (longest_syllable m categories)

-- law: there is only one longest accepted prefix
abbrev pub LongestIsUnique : Type 0
LongestIsUnique = (m : Machine) (categories : List ℕ) (found : FoundSyllable) → IsLongest m categories found → longest_syllable m categories ≡ Some found

-- Items one after another that a rule requires, with only skipped items between them (OpenType, chapter 2).
use Rattle.std.specs.Prelude.{ℕ, ◌+◌, List, [], ◌∷◌, drop, map, reverse, Result, Ok, Err, Bool}
use Rattle.buffer_glyphs.specs.Items.{Item}
use Rattle.layout_match.specs.declared.search.match_t.{match_t}
use Rattle.layout_match.specs.declared.search.match_t.TheVariants.{MATCH, SKIP, NOT_MATCH}
use Rattle.layout_match.specs.Searches.{Search, answer}

-- an item that matches is found, one that doesn't match ends the search there, and after a skipped one the search
-- continues
abbrev pub by_answer : match_t → ℕ → Result ℕ ℕ → Result ℕ ℕ
by_answer MATCH at behind = Ok at
by_answer NOT_MATCH at behind = Err (at + 1)
by_answer SKIP at behind = behind

-- the index of the nearest item that matches, where the first has the index `at`; else how far the search read, the
-- item that ended it included
abbrev pub nearest : (Item → match_t) → ℕ → List Item → Result ℕ ℕ
nearest ask at [] = Err at
nearest ask at (x ∷ xs) = by_answer (ask x) at (nearest ask (at + 1) xs)

-- the index of the nearest item from an index on that matches; else how far the search read
abbrev pub nearest_from : (Item → match_t) → ℕ → List Item → Result ℕ ℕ
nearest_from ask at xs = nearest ask at (drop at xs)

-- a search from where another ended, unless that failed
abbrev pub then_sequence_end : Result ℕ ℕ → (ℕ → Result ℕ ℕ) → Result ℕ ℕ
then_sequence_end (Ok at) next = next (at + 1)
then_sequence_end (Err end) next = Err end

-- each required item is the nearest after the one before it: the index after the last, or how far the failed search
-- read
abbrev pub sequence_end : List (Item → match_t) → ℕ → List Item → Result ℕ ℕ
sequence_end [] at xs = Ok at
sequence_end (ask ∷ asks) at xs = then_sequence_end (nearest_from ask at xs) (λ next. sequence_end asks next xs)

-- the index found, and indices after it
abbrev pub with_index : Result ℕ ℕ → (ℕ → List ℕ) → List ℕ
with_index (Ok at) next = at ∷ next (at + 1)
with_index (Err end) next = []

-- the indices of the required items, up to the first that isn't there
abbrev pub indices : List (Item → match_t) → ℕ → List Item → List ℕ
indices [] at xs = []
indices (ask ∷ asks) at xs = with_index (nearest_from ask at xs) (λ next. indices asks next xs)

-- the answers of a search for the tests of a sequence
abbrev pub answers_of : Search → List (Item → Bool) → List (Item → match_t)
answers_of s tests = map (answer s) tests

-- ---- the sequences of a rule at the item where it is tried; `rest` are the items from there on, `front` those before,
-- and indices count from there

-- the input: its first item is the one where the rule is tried
abbrev pub input_end : Search → List (Item → Bool) → List Item → Result ℕ ℕ
input_end s tests rest = sequence_end (answers_of s tests) 1 rest

-- the indices of the input
abbrev pub input_indices : Search → List (Item → Bool) → List Item → List ℕ
input_indices s tests rest = 0 ∷ indices (answers_of s tests) 1 rest

-- the end of the lookahead sequence after an input that ends at `start`
abbrev pub lookahead_end : Search → List (Item → Bool) → ℕ → List Item → Result ℕ ℕ
lookahead_end s tests start rest = sequence_end (answers_of s tests) start rest

-- the end of the backtrack sequence before the input, the nearest first
abbrev pub backtrack_end : Search → List (Item → Bool) → List Item → Result ℕ ℕ
backtrack_end s tests front = sequence_end (answers_of s tests) 0 (reverse front)

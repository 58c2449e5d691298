-- The rules of a context by glyphs or by classes, as their inputs begin (OpenType, chapter 2: the sets of rules of
-- formats 1 and 2 stand in the order of the first glyph, or of its class).
use Rattle.std.specs.Prelude.{ℕ, ◌≡◌, ◌≤◌, ◌<◌, ◌+◌, ◌==◌, Bool, false, List, [], ◌∷◌, length, Some, slice_get}
use Rattle.layout_tables.specs.declared.context.SequenceRule.{SequenceRule}

-- whether an input begins with an item
abbrev pub begins_by : ℕ → List ℕ → Bool
begins_by item [] = false
begins_by item (i ∷ input) = i == item

-- one more than the first item of an input, 0 where it has none
abbrev pub first_number : List ℕ → ℕ
first_number [] = 0
first_number (i ∷ input) = i + 1

-- all rules that begin with an item stand from an index on and before another
pub record StandWithin (item : ℕ) (rules : List (SequenceRule ℕ)) (start end : ℕ) : Type 0 where
  pub ordered : start ≤ end
  pub within : end ≤ length rules
  pub before : (k : ℕ) (r : SequenceRule ℕ) → slice_get rules k ≡ Some r → k < start → begins_by item r.input ≡ false
  pub after : (k : ℕ) (r : SequenceRule ℕ) → slice_get rules k ≡ Some r → end ≤ k → begins_by item r.input ≡ false

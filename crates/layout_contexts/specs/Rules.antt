-- The rules of a subtable, in any of its formats.
use Rattle.std.specs.Prelude.{ℕ, ◌≡◌, ◌≤◌, ◌<◌, Bool, true, false, List, length, map, Some, slice_get}
use Rattle.buffer_glyphs.specs.Items.{Item}
use Rattle.layout_tables.specs.declared.context.ContextSubtable.{ContextSubtable}
use Rattle.layout_tables.specs.declared.context.ContextSubtable.TheVariants.{Glyphs, Classes, Coverage}
use Rattle.layout_match.specs.Sequences.{is_covered_by}
use Rattle.layout_contexts.specs.Chains.{Chain, begins, class_chain, coverage_chain, glyph_chain}

-- the rules, in the order in which they are tried
abbrev pub chains_of : ContextSubtable → List Chain
chains_of (Glyphs rules) = map glyph_chain rules
chains_of (Classes s) = map (class_chain s) s.rules
chains_of (Coverage rules) = map coverage_chain rules

-- whether the rules are tried at an item: rules by classes only where the subtable covers it
abbrev pub is_tried_at : ContextSubtable → Item → Bool
is_tried_at (Glyphs rules) x = true
is_tried_at (Classes s) x = is_covered_by s.first x
is_tried_at (Coverage rules) x = true

-- whether the rules are tested by the glyph after the cursor: that by coverages (format 3), the only one of its subtable, isn't
abbrev pub is_tested_by_next : ContextSubtable → Bool
is_tested_by_next (Glyphs rules) = true
is_tested_by_next (Classes s) = true
is_tested_by_next (Coverage rules) = false

-- all rules that begin with an item stand from an index on and before another
pub record BeginWithin (x : Item) (rules : List Chain) (start end : ℕ) : Type 0 where
  pub ordered : start ≤ end
  pub within : end ≤ length rules
  pub before : (k : ℕ) (r : Chain) → slice_get rules k ≡ Some r → k < start → begins r.input x ≡ false
  pub after : (k : ℕ) (r : Chain) → slice_get rules k ≡ Some r → end ≤ k → begins r.input x ≡ false

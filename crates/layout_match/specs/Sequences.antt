-- The sequences of glyphs that a rule requires (OpenType, chapter 2, sequence context formats 1 to 3): by number, by
-- class, or by a set.
use Rattle.std.specs.Prelude.{ℕ, ◌==◌, ◌&&◌, Bool, false, nat_le, List, map, get_or}
use Rattle.buffer_glyphs.specs.Items.{Item}
use Rattle.layout_common.specs.Classes.{class_of}
use Rattle.layout_common.specs.Coverage.{is_covered}
use Rattle.layout_common.specs.declared.class_definition.ClassDefinition.{ClassDefinition}
use Rattle.layout_match.specs.declared.sequence.MatchSequence.{MatchSequence}
use Rattle.layout_match.specs.declared.sequence.MatchSequence.TheVariants.{Glyphs, Classes, Coverages}

-- whether a number is below 2^16, as a font's glyph numbers are
abbrev pub is_number : ℕ → Bool
is_number n = nat_le n 65535

-- whether an item is a glyph of a number (format 1)
abbrev pub is_glyph : ℕ → Item → Bool
is_glyph glyph x = x.number == glyph

-- whether an item is of a class (format 2)
abbrev pub is_of_class : ClassDefinition → ℕ → Item → Bool
is_of_class classes class x = is_number x.number && class_of x.number classes == class

-- whether an item is in a set of glyphs (format 3)
abbrev pub is_covered_by : List ℕ → Item → Bool
is_covered_by set x = is_number x.number && is_covered x.number set

-- the tests of a sequence's items, in order
abbrev pub tests_of : MatchSequence → List (Item → Bool)
tests_of (Glyphs glyphs) = map is_glyph glyphs.now
tests_of (Classes classes values) = map (is_of_class classes.now) values.now
tests_of (Coverages sets) = map is_covered_by sets.now

-- the k-th test; past the last no item passes
abbrev pub test_at : List (Item → Bool) → ℕ → Item → Bool
test_at tests k = get_or tests k (λ x. false)

-- Contexts and chained contexts (OpenType, chapter 2, sequence contexts and chained sequence contexts, formats 1 to 3; GSUB lookup types 5 and 6).
use Rattle.std.specs.Prelude.{ℕ, ◌+◌, ◌-◌, nat_le, Bool, false, ◌&&◌, if◌then◌else◌, List, [], ◌∷◌, length, map, drop, Option, Result, Ok, Err}
use Rattle.buffer_glyphs.specs.Items.{Item}
use Rattle.buffer_glyphs.specs.Parts.{first_of}
use Rattle.buffer_glyphs.specs.Events.{Break}
use Rattle.layout_tables.specs.declared.context.SequenceLookupRecord.{SequenceLookupRecord}
use Rattle.layout_tables.specs.declared.context.SequenceRule.{SequenceRule}
use Rattle.layout_tables.specs.declared.context.ClassRules.{ClassRules}
use Rattle.layout_tables.specs.declared.context.ContextSubtable.{ContextSubtable}
use Rattle.layout_tables.specs.declared.context.ContextSubtable.TheVariants.{Glyphs, Classes, Coverage}
use Rattle.layout_match.specs.Applied.{ApplyContext, own_search, context_search}
use Rattle.layout_match.specs.Matches.{input_end, input_indices, lookahead_end, backtrack_end}
use Rattle.layout_match.specs.Sequences.{is_glyph, is_of_class, is_covered_by}
use Rattle.buffer_stages.specs.Actions.{Cut, Outcome, Passes, Action, later, first_rule, at_first, attempt_around}
use Rattle.layout_contexts.specs.Nested.{each_nested, cut_after_match}

-- a rule: the tests of its backtrack sequence, the nearest first, of its input with the first item, and of its
-- lookahead sequence; and the lookups that it then applies
pub record Chain : Type 0 where
  pub backtrack : List (Item → Bool)
  pub input : List (Item → Bool)
  pub lookahead : List (Item → Bool)
  pub records : List SequenceLookupRecord

-- a rule by glyphs (format 1)
abbrev pub glyph_chain : SequenceRule ℕ → Chain
glyph_chain r = record { backtrack = map is_glyph r.backtrack; input = map is_glyph r.input; lookahead = map is_glyph r.lookahead; records = r.records }

-- a rule by classes (format 2)
abbrev pub class_chain : ClassRules → SequenceRule ℕ → Chain
class_chain s r = record { backtrack = map (is_of_class s.backtrack) r.backtrack; input = map (is_of_class s.input) r.input; lookahead = map (is_of_class s.lookahead) r.lookahead; records = r.records }

-- a rule by sets of glyphs (format 3)
abbrev pub coverage_chain : SequenceRule (List ℕ) → Chain
coverage_chain r = record { backtrack = map is_covered_by r.backtrack; input = map is_covered_by r.input; lookahead = map is_covered_by r.lookahead; records = r.records }

-- whether an item passes the first of some tests
abbrev pub begins : List (Item → Bool) → Item → Bool
begins [] x = false
begins (test ∷ tests) x = test x

-- the records of a rule applied at the indices of its input, which ends at an index; the list is then cut after the
-- input
abbrev pub nested_lookups : Option (ℕ → Action) → ApplyContext → Chain → ℕ → Cut → Outcome
nested_lookups nest a r end c =
    cut_after_match (each_nested nest r.records c (map (λ k. k + length c.front) (input_indices (own_search a c.rest) (drop 1 r.input) c.rest)) (length c.front + end))

-- the backtrack sequence is matched last: where it fails, all items from the one that ends the search to the one at the
-- cut are unsafe to concat; else all that was matched is unsafe to break
abbrev pub by_backtrack : Option (ℕ → Action) → ApplyContext → Chain → ℕ → ℕ → Result ℕ ℕ → Cut → Outcome
by_backtrack nest a r end ahead (Ok back) c = later (Break (length c.front - back) (length c.front + ahead) ∷ []) (nested_lookups nest a r end c)
by_backtrack nest a r end ahead (Err back) c = attempt_around back 1 c

-- the lookahead sequence is matched second: where it fails, all items from the cut to the one that ends the search are
-- unsafe to concat
abbrev pub by_lookahead : Option (ℕ → Action) → ApplyContext → Chain → ℕ → Result ℕ ℕ → Cut → Outcome
by_lookahead nest a r end (Ok ahead) c = by_backtrack nest a r end ahead (backtrack_end (context_search a c.rest) r.backtrack c.front) c
by_lookahead nest a r end (Err ahead) c = attempt_around 0 ahead c

-- the input is matched first
abbrev pub by_input : Option (ℕ → Action) → ApplyContext → Chain → Result ℕ ℕ → Cut → Outcome
by_input nest a r (Ok end) c = by_lookahead nest a r end (lookahead_end (context_search a c.rest) r.lookahead end c.rest) c
by_input nest a r (Err ahead) c = attempt_around 0 ahead c

-- a rule is tried where its first item matches; one with more than 64 items of input never matches
abbrev pub chain_at : Option (ℕ → Action) → ApplyContext → Chain → Item → Action
chain_at nest a r x c =
    if begins r.input x && nat_le (length r.input) 64 then by_input nest a r (input_end (own_search a c.rest) (drop 1 r.input) c.rest) c else Passes []

-- a rule tried at the first item of the cut
abbrev pub chain_rule : Option (ℕ → Action) → ApplyContext → Chain → Action
chain_rule nest a r c = at_first (chain_at nest a r) (first_of c.rest) c

-- the rules by classes, where the subtable covers the first item
abbrev pub class_rules : Option (ℕ → Action) → ApplyContext → ClassRules → Item → Action
class_rules nest a s x c = if is_covered_by s.first x then first_rule (λ r. chain_rule nest a (class_chain s r)) s.rules c else Passes []

-- a subtable in one of its formats: the first of its rules that matches
abbrev pub context_subtable : Option (ℕ → Action) → ApplyContext → ContextSubtable → Action
context_subtable nest a (Glyphs rules) c = first_rule (λ r. chain_rule nest a (glyph_chain r)) rules c
context_subtable nest a (Classes s) c = at_first (class_rules nest a s) (first_of c.rest) c
context_subtable nest a (Coverage rules) c = first_rule (λ r. chain_rule nest a (coverage_chain r)) rules c

-- Reverse chaining single substitution (OpenType, GSUB lookup type 8): a glyph replaces another, in a context.
use Rattle.std.specs.Prelude.{ℕ, ◌+◌, ◌-◌, Bool, List, [], ◌∷◌, ◌++◌, length, map, take, drop, Option, Some, None, Result, Ok, Err}
use Rattle.buffer_glyphs.specs.Items.{Item}
use Rattle.buffer_glyphs.specs.Parts.{first_of}
use Rattle.buffer_glyphs.specs.Events.{Break}
use Rattle.layout_common.specs.Rows.{value_of}
use Rattle.layout_face.specs.declared.parts.GlyphDefinition.{GlyphDefinition}
use Rattle.layout_tables.specs.declared.reverse.ReverseChainSubst.{ReverseChainSubst}
use Rattle.layout_match.specs.Applied.{ApplyContext, context_search}
use Rattle.layout_match.specs.Matches.{backtrack_end, lookahead_end}
use Rattle.layout_match.specs.Sequences.{is_covered_by}
use Rattle.buffer_stages.specs.Actions.{Cut, Outcome, Passes, Acts, Action, at_first, attempt_around}
use Rattle.layout_gsub.specs.Replacements.{substituted_item}

-- the cut where another glyph replaced the item, which is not passed
abbrev pub cut_with_substitute_kept : GlyphDefinition → ℕ → Cut → Cut
cut_with_substitute_kept gdef glyph c = record c { rest = map (substituted_item gdef glyph) (take 1 c.rest) ++ drop 1 c.rest }

-- the backtrack sequence is matched last: where it fails, all items from the one that ends the search to the one at the
-- cut are unsafe to concat; else all that was matched is unsafe to break
abbrev pub reverse_after_backtrack : GlyphDefinition → ℕ → ℕ → Result ℕ ℕ → Cut → Outcome
reverse_after_backtrack gdef glyph ahead (Err back) c = attempt_around back 1 c
reverse_after_backtrack gdef glyph ahead (Ok back) c = Acts (cut_with_substitute_kept gdef glyph c) (Break (length c.front - back) (length c.front + ahead) ∷ [])

-- the lookahead sequence is matched first: where it fails, all items from the cut to the one that ends the search are
-- unsafe to concat
abbrev pub reverse_after_lookahead : ApplyContext → ℕ → List (Item → Bool) → Result ℕ ℕ → Cut → Outcome
reverse_after_lookahead a glyph backtrack (Err ahead) c = attempt_around 0 ahead c
reverse_after_lookahead a glyph backtrack (Ok ahead) c = reverse_after_backtrack a.font.gdef glyph ahead (backtrack_end (context_search a c.rest) backtrack c.front) c

-- a glyph replaces the item between the sequences that match around it
abbrev pub reverse_substitution : ApplyContext → List (Item → Bool) → List (Item → Bool) → Option ℕ → Action
reverse_substitution a backtrack lookahead None c = Passes []
reverse_substitution a backtrack lookahead (Some glyph) c = reverse_after_lookahead a glyph backtrack (lookahead_end (context_search a c.rest) lookahead 1 c.rest) c

-- each covered glyph has one substitute
abbrev pub reverse_subtable : ApplyContext → ReverseChainSubst → Action
reverse_subtable a s c = at_first (λ x. reverse_substitution a (map is_covered_by s.backtrack) (map is_covered_by s.lookahead) (value_of x.number s.rows)) (first_of c.rest) c

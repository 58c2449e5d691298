-- The glyphs at which subtables can act, computed on rows.
use Rattle.std.proofs.Common.{ℕ, ◌≡◌, Bool, true, false, List, [], ◌∷◌, Some, None, map, pos, refl}
use Rattle.layout_common.specs.declared.glyph_row.GlyphRow.{GlyphRow}
use Rattle.layout_tables.specs.declared.context.ContextSubtable.{ContextSubtable}
use Rattle.layout_tables.specs.declared.context.ContextSubtable.TheVariants.{Glyphs, Classes, Coverage}
use Rattle.layout_tables.specs.declared.context.SequenceRule.{SequenceRule}
use Rattle.layout_tables.specs.declared.cursive.EntryExit.{EntryExit}
use Rattle.layout_tables.specs.declared.value.Anchor.{Anchor}
use Rattle.layout_tables.specs.Covers.{covers_context, covers_entry, covers_first_component, covers_sequence, covers_value}

-- which of the glyphs 1 to 4 a subtable covers
abbrev of_four : (ℕ → Bool) → List Bool
of_four covers = map covers (1 ∷ 2 ∷ 3 ∷ 4 ∷ [])

abbrev rule : {I : Type 0} → List I → SequenceRule I
rule input = record { backtrack = []; input = input; lookahead = []; records = [] }

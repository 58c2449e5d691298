use Rattle.std.proofs.Common.{◌≡◌, ◌++◌, map, take, drop}
use Rattle.buffer_glyphs.specs.Replacements.{glyph_numbered}
use Rattle.buffer_lists.proofs.replacement.write_numbered.Given as goal

-- so many copies were written
abbrev pub invariant-loop-index : goal.invariant-loop-index
invariant-loop-index l = l.glyphs ≡ map (glyph_numbered l.model) (take l.index l.numbers) ++ drop l.index l.initial.glyphs

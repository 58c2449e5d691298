use Rattle.std.proofs.Common.{◌≡◌, ◌-◌, ◌++◌, ◌+◌, ◌*◌}
use Rattle.font_bytes.specs.Words.{word}
use Rattle.font_names.specs.Names.{name_rows, indexed_name}
use Rattle.font_names.proofs.names.indexed_rows.Given as goal

-- the rows so far and those of the glyphs that are left are all
abbrev pub invariant-loop-glyph : goal.invariant-loop-glyph
invariant-loop-glyph l = l.rows.items ++ name_rows (λ g. indexed_name l.post l.starts.items l.standard.items (word l.post (34 + 2 * g))) l.glyph (l.count - l.glyph)
    ≡ name_rows (λ g. indexed_name l.post l.starts.items l.standard.items (word l.post (34 + 2 * g))) 0 l.count

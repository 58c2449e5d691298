use Rattle.std.proofs.Common.{◌≡◌, ◌++◌, take}
use Rattle.buffer_stages.proofs.walks.replace_current.Given as goal

-- so many of the glyphs stand behind
abbrev pub invariant-loop-glyph : goal.invariant-loop-glyph
invariant-loop-glyph l = l.buffer ≡ record l.initial.buffer { behind = l.initial.buffer.behind ++ take l.glyph-index l.glyphs; is_apart = l.buffer.is_apart }

use Rattle.std.proofs.Common.{◌≡◌, ◌++◌, min, take, drop}
use Rattle.buffer_core.specs.Settings.{glyphs_counted, most_cluster}
use Rattle.buffer_core.proofs.buffer.numbering.number_each.Given as goal

-- so many glyphs were numbered
abbrev pub invariant-loop-glyph : goal.invariant-loop-glyph
invariant-loop-glyph l = record {
  glyphs : l.glyphs ≡ glyphs_counted 0 (take l.glyph-index l.initial.glyphs) ++ drop l.glyph-index l.initial.glyphs;
  next : l.cluster ≡ min l.glyph-index most_cluster;
}

use Rattle.std.specs.Prelude.{◌≡◌, true}
use Rattle.buffer_glyphs.specs.Items.{Item, clusters}
use Rattle.buffer_stages.specs.Stages.{Makes}
use Rattle.buffer_stages.proofs.Loops.{AreWritten}
use Rattle.buffer_stages.proofs.glyphs.map_each.Given as goal

abbrev pub invariant-loop-glyph : goal.invariant-loop-glyph
invariant-loop-glyph g l = ((k : Item → Item) → Makes g.F.Fn l.make k → AreWritten k l.glyph-index l.initial.glyphs l.glyphs)
    × (l.kept ≡ true → clusters l.glyphs ≡ clusters l.initial.glyphs)

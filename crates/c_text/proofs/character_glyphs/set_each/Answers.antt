use Rattle.c_text.proofs.SettingGlyphs.{one_more_set}
use Rattle.c_text.proofs.character_glyphs.set_each.Goals as goal

pub loop-one-preserved : goal.loop-one-preserved
loop-one-preserved c =
    one_more_set c.args.given.now c.loop-one.one-index (record { character = 0; selector = 0; glyph = 0 }) c.args.face.now c.loop-one.face c.set_glyph.new.face c.loop-one.invariant c.loop-one-test.true c.in_ok-set_glyph.ensures.set

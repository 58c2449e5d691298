use Rattle.std.proofs.Common.{refl, sym, ◌∙◌}
use Rattle.std.proofs.lemmas.Fn.{says_at}
use Rattle.buffer_lists.proofs.Passing.{passed_gone, passed_kept, walk_kept}
use Rattle.buffer_lists.proofs.deletion_within.walk.pass_glyph.Goals as goal

pub returns-then-filter : goal.returns-then-filter
returns-then-filter g c = record {
  passed = λ goes same. passed_gone c.args.breaks c.args.level goes c.args.at c.args.walk c.args.glyphs.now c.args.positions.now _ c.requires.within (sym (same _ c.filter.result (says_at g.F.Fn c.filter.ensures refl)) ∙ c.if-filter.true) (c.delete_handing.ensures.passed c.args.positions.now);
  sound = c.delete_handing.ensures.sound;
}

pub returns : goal.returns
returns g c =
    let kept = c.keep_glyph.ensures in
    record {
      passed = λ goes same. passed_kept c.args.breaks c.args.level goes c.args.at c.args.walk c.keep_glyph.result c.args.glyphs.now c.keep_glyph.new.glyphs c.args.positions.now c.keep_glyph.new.positions c.requires.within (sym (same _ c.filter.result (says_at g.F.Fn c.filter.ensures refl)) ∙ c.if-filter.false)
          kept.walk kept.glyphs kept.rest_glyphs kept.positions kept.rest_positions;
      sound = walk_kept c.args.in_order c.args.at c.args.walk c.keep_glyph.result c.args.glyphs.now c.keep_glyph.new.glyphs c.requires.within kept.walk kept.glyphs kept.rest_glyphs c.requires.sound;
    }

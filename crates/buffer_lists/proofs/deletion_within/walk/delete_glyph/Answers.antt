use Rattle.std.proofs.Common.{None, ◌||◌, refl, sym, ◌∙◌}
use Rattle.buffer_lists.proofs.Passing.{passed_without, walk_without, front_deletes}
use Rattle.buffer_lists.proofs.deletion_within.walk.delete_glyph.Goals as goal
use Rattle.buffer_facts.proofs.Truth.{or_false}

pub returns-then-walk-eq0 : goal.returns-then-walk-eq0
returns-then-walk-eq0 c =
    let gone = front_deletes c.args.level c.args.at c.args.walk c.args.glyphs.now c.delete_at_front-marked.new.glyphs _ c.if-walk-eq0.true c.delete_at_front-marked.ensures.deletes in
    record {
      passed = λ ps g back e. passed_without c.args.level c.args.at c.args.walk (record { kept = 0; due = None; marked = c.args.walk.marked || c.delete_at_front-marked.result }) c.args.glyphs.now c.delete_at_front-marked.new.glyphs ps g back c.delete_at_front-marked.result gone (sym c.if-walk-eq0.true) refl e;
      sound = walk_without c.args.level c.args.in_order c.args.at c.args.walk (record { kept = 0; due = None; marked = c.args.walk.marked || c.delete_at_front-marked.result }) c.args.glyphs.now c.delete_at_front-marked.new.glyphs c.delete_at_front-marked.result c.requires.within gone (sym c.if-walk-eq0.true) tt c.requires.sound;
    }

pub returns : goal.returns
returns c =
    let gone = c.delete_after_kept.ensures.deletes c.args.level in
    record {
      passed = λ ps g back e. passed_without c.args.level c.args.at c.args.walk c.delete_after_kept.result c.args.glyphs.now c.delete_after_kept.new.glyphs ps g back _ gone c.delete_after_kept.ensures.kept (c.delete_after_kept.ensures.marked ∙ sym (or_false c.args.walk.marked)) e;
      sound = walk_without c.args.level c.args.in_order c.args.at c.args.walk c.delete_after_kept.result c.args.glyphs.now c.delete_after_kept.new.glyphs _ c.requires.within gone c.delete_after_kept.ensures.kept c.delete_after_kept.ensures.due c.requires.sound;
    }

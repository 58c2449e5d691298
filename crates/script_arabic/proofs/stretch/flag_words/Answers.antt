use Rattle.std.proofs.Common.{◌+◌, subst, sym}
use Rattle.buffer_glyphs.specs.Items.{item_of}
use Rattle.script_arabic.proofs.WordsFlagged.{AreWordsFlagged, next_word}
use Rattle.script_arabic.specs.declared.stretch.WordWalk.{WordWalk}
use Rattle.script_arabic.proofs.stretch.flag_words.Goals as goal

pub loop-at-preserved : goal.loop-at-preserved
loop-at-preserved c =
    let from = c.args.buffer.now in
    let at = c.loop-at.at in
    let new = c.flag_before.new.buffer in
    let next = next_word from c.loop-at.buffer new at c.loop-at.word (item_of c.glyph_at-glyph.result) c.glyph_at-glyph.ensures c.flag_before.ensures c.loop-at.invariant.flagged in
    record {
      count = c.loop-at.invariant.count;
      flagged = subst (λ (w : WordWalk). AreWordsFlagged from (at + 1) w new) (sym c.word_past-word.ensures) next;
    }

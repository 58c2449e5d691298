use Rattle.script_syllabic.proofs.Strict.{strict_break_happens}
use Rattle.script_arabic.proofs.WordsFlagged.{has_some, word_flagged}
use Rattle.script_arabic.proofs.stretch.flag_word.Goals as goal

pub returns : goal.returns
returns c =
    let w = c.args.word in
    let s = c.args.buffer.now in
    let new = c.unsafe_to_break_strictly.new.self in
    let call = c.unsafe_to_break_strictly.ensures in
    word_flagged w c.args.at s new (has_some w.has_tiles c.if-not-word.false) (strict_break_happens w.start c.args.at s new call.marked call.items call.origins c.requires.ready)

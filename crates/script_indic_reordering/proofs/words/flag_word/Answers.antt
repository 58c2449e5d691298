use Rattle.script_indic_reordering.proofs.Lemmas.Flagged.{word_flagged, word_kept}
use Rattle.script_indic_reordering.proofs.words.flag_word.Goals as goal

pub returns-then-is_left_in_word : goal.returns-then-is_left_in_word
returns-then-is_left_in_word c =
    let m = c.unsafe_to_break_strictly in
    word_flagged c.args.at _ _ c.info_slice.result.now c.info_slice-2.result.now c.is_left_in_word.result c.args.buffer.now m.new.self c.info_slice.ensures c.info_slice-2.ensures c.requires.within c.is_left_in_word.ensures c.if-is_left_in_word.true
    m.ensures.marked m.ensures.items m.ensures.origins c.requires.ready

pub returns-else-is_left_in_word : goal.returns-else-is_left_in_word
returns-else-is_left_in_word c =
    word_kept c.args.at _ _ c.info_slice.result.now c.info_slice-2.result.now c.is_left_in_word.result c.args.buffer.now c.info_slice.ensures c.info_slice-2.ensures c.requires.within c.is_left_in_word.ensures c.if-is_left_in_word.false c.requires.ready

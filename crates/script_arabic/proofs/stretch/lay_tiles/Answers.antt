use Rattle.std.proofs.Common.{ap, rules, ◌∙◌}
use Rattle.script_arabic.specs.TilePositions.{all_positions}
use Rattle.script_arabic.proofs.Laid.{laid_done}
use Rattle.script_arabic.proofs.stretch.lay_tiles.Goals as goal

pub returns : goal.returns
returns c =
    let ts = c.args.tiles.now in
    laid_done ts _ c.args.buffer.now c.flag_words.new.buffer c.copy_tiles.new.buffer c.set_positions.new.buffer c.requires.ready c.flag_words.ensures c.in_ok-copy_tiles.ensures
    (c.deref-2.ensures.value ∙ c.in_ok-laid_positions.ensures ∙ ap (λ ps. all_positions ps ts) (c.deref.ensures.value ∙ (search rules) ∙ c.pos_slice.ensures.same)) c.set_positions.ensures

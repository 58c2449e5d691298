use Rattle.script_arabic.proofs.Reach.{tiles_reach_the_word}
use Rattle.script_arabic.proofs.tile_laws.law_tiles_reach.Goals as goal

pub returns-clause-reach : goal.returns-clause-reach
returns-clause-reach c = tiles_reach_the_word

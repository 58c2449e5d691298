use Rattle.script_arabic.proofs.Plainly.{tiles_keep_plainly}
use Rattle.script_arabic.proofs.tile_laws.law_tiles_keep_plainly.Goals as goal

pub returns : goal.returns
returns c = tiles_keep_plainly

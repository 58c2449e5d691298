use Rattle.script_arabic.specs.Tiles.{tiles_recorded}
use Rattle.script_syllabic.proofs.Quiet.{quiet_brings_none, quiet_done}
use Rattle.script_arabic.proofs.tiles.record_stch.Goals as goal

pub returns-clause-ok : goal.returns-clause-ok
returns-clause-ok c = quiet_done (tiles_recorded c.args.has_stch) c.args.buffer.now c.record_if.new.buffer c.record_if.ensures

pub returns-clause-brings_none : goal.returns-clause-brings_none
returns-clause-brings_none c = quiet_brings_none (tiles_recorded c.args.has_stch) c.args.buffer.now c.record_if.new.buffer c.record_if.ensures

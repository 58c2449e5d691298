use Rattle.std.proofs.Common.{refl}
use Rattle.script_syllabic.specs.Syllables.{without_syllable, syllables_cleared}
use Rattle.script_syllabic.proofs.Quiet.{mapped_quiet, quiet_brings_none, quiet_done}
use Rattle.script_syllabic.proofs.clearing.clear_syllables.Goals as goal

pub returns-clause-ok : goal.returns-clause-ok
returns-clause-ok c = quiet_done syllables_cleared c.args.buffer.now c.without_syllables.new.buffer (mapped_quiet without_syllable c.args.buffer.now c.without_syllables.new.buffer (λ x. refl) c.without_syllables.ensures)

pub returns-clause-brings_none : goal.returns-clause-brings_none
returns-clause-brings_none c = quiet_brings_none syllables_cleared c.args.buffer.now c.without_syllables.new.buffer (mapped_quiet without_syllable c.args.buffer.now c.without_syllables.new.buffer (λ x. refl) c.without_syllables.ensures)

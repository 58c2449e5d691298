use Rattle.script_syllabic.specs.Features.{rphf_recorded}
use Rattle.script_syllabic.specs.Syllables.{syllables_by}
use Rattle.script_syllabic.proofs.Quiet.{quiet_brings_none, quiet_done, syllables_quiet}
use Rattle.script_syllabic.proofs.QuietRules.{rphf_recorded_permutes}
use Rattle.script_universal.proofs.pauses.record_with.Goals as goal

pub returns-clause-ok : goal.returns-clause-ok
returns-clause-ok c = quiet_done (syllables_by (rphf_recorded c.args.mask)) c.args.buffer.now c.record_rphf.new.buffer (syllables_quiet (rphf_recorded c.args.mask) c.args.buffer.now c.record_rphf.new.buffer (rphf_recorded_permutes c.args.mask) c.in_ok-record_rphf.ensures)

pub returns-clause-brings_none : goal.returns-clause-brings_none
returns-clause-brings_none c = λ e. quiet_brings_none (syllables_by (rphf_recorded c.args.mask)) c.args.buffer.now c.record_rphf.new.buffer (syllables_quiet (rphf_recorded c.args.mask) c.args.buffer.now c.record_rphf.new.buffer (rphf_recorded_permutes c.args.mask) c.in_ok-record_rphf.ensures)

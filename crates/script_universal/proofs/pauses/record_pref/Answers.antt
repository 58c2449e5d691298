use Rattle.script_syllabic.specs.Features.{pref_recorded}
use Rattle.script_syllabic.specs.Syllables.{syllables_by}
use Rattle.script_syllabic.proofs.Quiet.{quiet_brings_none, quiet_done, syllables_quiet}
use Rattle.script_syllabic.proofs.QuietRules.{pref_recorded_permutes}
use Rattle.script_universal.proofs.pauses.record_pref.Goals as goal

pub returns-clause-ok : goal.returns-clause-ok
returns-clause-ok c = quiet_done (syllables_by pref_recorded) c.args.buffer.now c.record_pref.new.buffer (syllables_quiet pref_recorded c.args.buffer.now c.record_pref.new.buffer pref_recorded_permutes c.in_ok-record_pref.ensures)

pub returns-clause-brings_none : goal.returns-clause-brings_none
returns-clause-brings_none c = λ e. quiet_brings_none (syllables_by pref_recorded) c.args.buffer.now c.record_pref.new.buffer (syllables_quiet pref_recorded c.args.buffer.now c.record_pref.new.buffer pref_recorded_permutes c.in_ok-record_pref.ensures)

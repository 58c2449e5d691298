use Rattle.script_universal.specs.Pauses.{universal_syllables_set}
use Rattle.script_syllabic.proofs.Quiet.{quiet_brings_none, quiet_done}
use Rattle.script_universal.proofs.pauses.setup_with.Goals as goal

pub returns-clause-stage : goal.returns-clause-stage
returns-clause-stage g c = quiet_done (universal_syllables_set (g.S.SyllableSpans.span_of c.args.spans.now) c.args.rphf_mask c.args.forms) c.args.buffer.now c.set_up.new.buffer c.in_ok-set_up.ensures.ok

pub returns-clause-brings_none : goal.returns-clause-brings_none
returns-clause-brings_none g c = λ e. quiet_brings_none (universal_syllables_set (g.S.SyllableSpans.span_of c.args.spans.now) c.args.rphf_mask c.args.forms) c.args.buffer.now c.set_up.new.buffer c.in_ok-set_up.ensures.ok

use Rattle.script_syllabic.specs.Bytes.{syllables_set}
use Rattle.script_syllabic.proofs.Quiet.{quiet_brings_none, quiet_done}
use Rattle.script_syllabic.proofs.QuietRules.{syllables_set_quiet}
use Rattle.script_syllabic.proofs.pauses.setup_syllables.Goals as goal

pub returns-clause-stage : goal.returns-clause-stage
returns-clause-stage g c =
    let spans = g.S.SyllableSpans.span_of c.args.spans.now in
    quiet_done (syllables_set spans c.args.shaper) c.args.buffer.now c.setup_syllables.new.buffer
    (syllables_set_quiet spans c.args.shaper c.args.buffer.now c.setup_syllables.new.buffer (λ cs start lt. g.met.S.SyllableSpans.ends_after_start c.args.spans.now c.args.shaper cs start lt) c.in_ok-setup_syllables.ensures)

pub returns-clause-brings_none : goal.returns-clause-brings_none
returns-clause-brings_none g c = λ e.
    let spans = g.S.SyllableSpans.span_of c.args.spans.now in
    quiet_brings_none (syllables_set spans c.args.shaper) c.args.buffer.now c.setup_syllables.new.buffer
    (syllables_set_quiet spans c.args.shaper c.args.buffer.now c.setup_syllables.new.buffer (λ cs start lt. g.met.S.SyllableSpans.ends_after_start c.args.spans.now c.args.shaper cs start lt) c.in_ok-setup_syllables.ensures)

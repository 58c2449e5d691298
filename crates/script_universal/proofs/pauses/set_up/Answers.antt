use Rattle.script_categories.specs.declared.shaper.hb_ot_script_shaper_t.TheVariants.{UNIVERSAL_SHAPER}
use Rattle.script_syllabic.specs.Features.{rphf_masked}
use Rattle.script_syllabic.specs.Spans.{universal_set}
use Rattle.script_syllabic.specs.Syllables.{syllables_by, then_syllables}
use Rattle.script_universal.specs.Pauses.{forms_set}
use Rattle.script_syllabic.proofs.Quiet.{quiet_then, syllables_quiet}
use Rattle.script_syllabic.proofs.QuietRules.{rphf_permutes, universal_set_quiet}
use Rattle.script_universal.proofs.pauses.set_up.Goals as goal

pub returns-clause-ok : goal.returns-clause-ok
returns-clause-ok g c =
    let a = c.args.buffer.now in
    let b = c.find_syllables.new.buffer in
    let d = c.setup_rphf_mask.new.buffer in
    let rule = rphf_masked c.args.rphf_mask in
    let bytes = universal_set (g.S.SyllableSpans.span_of c.args.spans.now) in
    quiet_then (then_syllables bytes rule) (forms_set c.args.forms) a d c.setup_forms.new.buffer
    (quiet_then bytes (syllables_by rule) a b d
    (universal_set_quiet (g.S.SyllableSpans.span_of c.args.spans.now) a b (λ cs start lt. g.met.S.SyllableSpans.ends_after_start c.args.spans.now UNIVERSAL_SHAPER cs start lt) c.in_ok-find_syllables.ensures)
    (syllables_quiet rule b d (rphf_permutes c.args.rphf_mask) c.in_ok-setup_rphf_mask.ensures))
    c.setup_forms.ensures

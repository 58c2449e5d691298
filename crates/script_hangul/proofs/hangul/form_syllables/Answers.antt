use Rattle.std.proofs.Common.{Bool, ◌≡◌, ◌+◌, ◌-◌, arith, ap, subst, ◌∙◌}
use Rattle.buffer_core.specs.Sides.{Sides, with_output}
use Rattle.script_syllabic.proofs.Does.{passed_stage}
use Rattle.script_hangul.specs.Hangul.{step, wants_circles}
use Rattle.script_hangul.specs.Written.{syllables_walked}
use Rattle.buffer_stages.specs.Walks.{RefusesLength}
use Rattle.std.proofs.Common.{length}
use Rattle.buffer_glyphs.specs.Items.{strip}
use Rattle.script_hangul.proofs.Walk.{IsUnderway, more, text_followed, too_long}
use Rattle.script_hangul.proofs.hangul.form_syllables.Goals as goal

pub returns-in_err-start : goal.returns-in_err-start
returns-in_err-start c =
    let e = c.in_err-start.field-0.0 in
    let lt = c.loop-test.true in
    let n = c.len-count.result - c.loop.counter in
    let s = c.args.buffer.now in
    let t = c.loop.buffer in
    let font = c.args.face.now in
    let flags = s.flags in
    let circles : c.wants_circles-circles.result ≡ wants_circles flags = c.wants_circles-circles.ensures ∙ ap wants_circles c.flags.ensures in
    let h : IsUnderway c.args.merges font c.wants_circles-circles.result n c.loop.start (with_output s) t = subst (λ (b : Sides). IsUnderway c.args.merges font c.wants_circles-circles.result n c.loop.start (with_output b) t) c.clear_output.ensures.after c.loop.invariant in
    let h' : IsUnderway c.args.merges font (wants_circles flags) n c.loop.start (with_output s) t = subst (λ (b : Bool). IsUnderway c.args.merges font b n c.loop.start (with_output s) t) circles h in
    let over : RefusesLength (length (step font (wants_circles flags) c.loop.start (strip t.behind) (strip t.ahead)).out) e t = subst (λ (b : Bool). RefusesLength (length (step font b c.loop.start (strip t.behind) (strip t.ahead)).out) e t) circles c.in_err-start.ensures.err in
    passed_stage (syllables_walked c.args.merges font flags) c.from_residual-in_err-start.result e s c.pass.new.buffer c.from_residual-in_err-start.ensures.1
    (too_long c.args.merges font n c.loop.start e s t (omega (arith, lt)) h' over)

pub loop-preserved : goal.loop-preserved
loop-preserved c =
    let lt = c.loop-test.true in
    let n = c.len-count.result - c.loop.counter in
    let one : n - 1 ≡ c.len-count.result - (c.loop.counter + 1) = omega arith in
    subst (λ m. IsUnderway c.args.merges c.args.face.now c.wants_circles-circles.result m c.in_ok-start.start (with_output c.clear_output.new.self) c.pass.new.buffer) one
    (more c.args.merges c.args.face.now c.wants_circles-circles.result n c.loop.start c.in_ok-start.start (with_output c.clear_output.new.self) c.loop.buffer c.pass.new.buffer (omega (arith, lt)) c.loop.invariant c.in_ok-start.ensures.ok)

pub returns : goal.returns
returns c =
    let s = c.args.buffer.now in
    let t = c.loop.buffer in
    let font = c.args.face.now in
    let n = c.len-count.result - c.loop.counter in
    let test = c.loop-test.false in
    let none : n ≡ 0 = omega (arith, test) in
    let circles : c.wants_circles-circles.result ≡ wants_circles s.flags = c.wants_circles-circles.ensures ∙ ap wants_circles c.flags.ensures in
    let h : IsUnderway c.args.merges font c.wants_circles-circles.result n c.loop.start (with_output s) t = subst (λ (b : Sides). IsUnderway c.args.merges font c.wants_circles-circles.result n c.loop.start (with_output b) t) c.clear_output.ensures.after c.loop.invariant in
    let h' : IsUnderway c.args.merges font (wants_circles s.flags) n c.loop.start (with_output s) t = subst (λ (b : Bool). IsUnderway c.args.merges font b n c.loop.start (with_output s) t) circles h in
    let all : IsUnderway c.args.merges font (wants_circles s.flags) 0 c.loop.start (with_output s) t = subst (λ m. IsUnderway c.args.merges font (wants_circles s.flags) m c.loop.start (with_output s) t) none h' in
    text_followed c.args.merges font c.loop.start s t c.finish.new.buffer c.requires.merges c.requires.ready all c.in_ok-finish.ensures.ok.0 c.in_ok-finish.ensures.ok.1

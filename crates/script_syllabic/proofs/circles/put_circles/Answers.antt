use Rattle.std.proofs.Common.{sym, ap, ◌∙◌}
use Rattle.buffer_core.specs.Sides.{after_next_glyphs}
use Rattle.script_syllabic.specs.Circles.{circles_put, with_circles}
use Rattle.script_syllabic.proofs.Does.{passed_stage}
use Rattle.script_syllabic.proofs.Underway.{circle_put, circle_refused, rephas_refused, first_stands, less_circled, rephas_within}
use Rattle.script_syllabic.proofs.circles.put_circles.Goals as goal

pub put_circle-requires-clause-passed : goal.put_circle-requires-clause-passed
put_circle-requires-clause-passed c =
    let count = c.in_ok-rephas.ensures.count in
    let moved = c.in_ok-rephas.ensures.moved ∙ ap (λ n. after_next_glyphs n c.loop-buffer.buffer) (sym count) in
    (rephas_within c.args.rule.now c.cur.result.now.syllable c.in_ok-rephas.rephas c.loop-buffer.buffer c.pass_rephas.new.buffer count moved).1

pub put_circle-requires-clause-first : goal.put_circle-requires-clause-first
put_circle-requires-clause-first c =
    let count = c.in_ok-rephas.ensures.count in
    let moved = c.in_ok-rephas.ensures.moved ∙ ap (λ n. after_next_glyphs n c.loop-buffer.buffer) (sym count) in
    let inside = rephas_within c.args.rule.now c.cur.result.now.syllable c.in_ok-rephas.rephas c.loop-buffer.buffer c.pass_rephas.new.buffer count moved in
    first_stands c.in_ok-rephas.rephas c.cur.result.now c.loop-buffer.buffer c.pass_rephas.new.buffer c.cur.ensures moved inside.0

pub loop-buffer-smaller-in_ok-put_circle : goal.loop-buffer-smaller-in_ok-put_circle
loop-buffer-smaller-in_ok-put_circle c =
    let count = c.in_ok-rephas.ensures.count in
    let moved = c.in_ok-rephas.ensures.moved ∙ ap (λ n. after_next_glyphs n c.loop-buffer.buffer) (sym count) in
    let inside = rephas_within c.args.rule.now c.cur.result.now.syllable c.in_ok-rephas.rephas c.loop-buffer.buffer c.pass_rephas.new.buffer count moved in
    less_circled c.args.rule.now c.loop-buffer.last c.in_ok-rephas.rephas c.cur.result.now c.loop-buffer.buffer c.pass_rephas.new.buffer c.put_circle.new.buffer c.cur.ensures (sym c.begins.ensures ∙ c.if-begins.true) moved inside.0 c.in_ok-put_circle.ensures.ok.ahead

pub loop-buffer-preserved-in_ok-put_circle : goal.loop-buffer-preserved-in_ok-put_circle
loop-buffer-preserved-in_ok-put_circle c =
    let count = c.in_ok-rephas.ensures.count in
    let moved = c.in_ok-rephas.ensures.moved ∙ ap (λ n. after_next_glyphs n c.loop-buffer.buffer) (sym count) in
    let inside = rephas_within c.args.rule.now c.cur.result.now.syllable c.in_ok-rephas.rephas c.loop-buffer.buffer c.pass_rephas.new.buffer count moved in
    circle_put c.args.rule.now c.loop-buffer.last c.in_ok-rephas.rephas c.cur.result.now c.args.buffer.now c.loop-buffer.buffer c.pass_rephas.new.buffer c.put_circle.new.buffer c.loop-buffer.invariant c.cur.ensures (sym c.begins.ensures ∙ c.if-begins.true) count moved inside.0 c.in_ok-put_circle.ensures.ok

pub returns-in_err-put_circle : goal.returns-in_err-put_circle
returns-in_err-put_circle c =
    let count = c.in_ok-rephas.ensures.count in
    let moved = c.in_ok-rephas.ensures.moved ∙ ap (λ n. after_next_glyphs n c.loop-buffer.buffer) (sym count) in
    let inside = rephas_within c.args.rule.now c.cur.result.now.syllable c.in_ok-rephas.rephas c.loop-buffer.buffer c.pass_rephas.new.buffer count moved in
    let cause = c.in_err-put_circle.field-0.0 in
    passed_stage (λ v. circles_put (with_circles c.args.rule.now v.items) v) c.from_residual-in_err-put_circle.result cause c.args.buffer.now c.put_circle.new.buffer c.from_residual-in_err-put_circle.ensures.1
    (circle_refused c.args.rule.now c.loop-buffer.last c.in_ok-rephas.rephas c.cur.result.now c.args.buffer.now c.loop-buffer.buffer c.pass_rephas.new.buffer cause c.loop-buffer.invariant c.cur.ensures (sym c.begins.ensures ∙ c.if-begins.true) count moved inside.0 c.in_err-put_circle.ensures.err)

pub returns-in_err-rephas : goal.returns-in_err-rephas
returns-in_err-rephas c =
    let cause = c.in_err-rephas.field-0.0 in
    passed_stage (λ v. circles_put (with_circles c.args.rule.now v.items) v) c.from_residual-in_err-rephas.result cause c.args.buffer.now c.pass_rephas.new.buffer c.from_residual-in_err-rephas.ensures.1
    (rephas_refused c.args.rule.now c.loop-buffer.last c.args.buffer.now c.loop-buffer.buffer cause c.loop-buffer.invariant c.in_err-rephas.ensures.err)

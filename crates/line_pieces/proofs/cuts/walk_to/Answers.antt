use Rattle.std.proofs.Common.{◌≡◌, ℕ, length, to_z, w64, arith, refl, subst}
use Rattle.kuspveli.specs.shaping_buffer.buffer_core.Sides.{all_glyphs}
use Rattle.line_pieces.specs.Steps.{text_steps}
use Rattle.line_pieces.proofs.TextOrder.{rises, text_count}
use Rattle.line_pieces.proofs.Walks.{IsPassed, passed_more, walked_here, walked_whole}
use Rattle.line_pieces.proofs.cuts.walk_to.Goals as goal

pub returns-then-byte-step : goal.returns-then-byte-step
returns-then-byte-step c =
    walked_here (text_steps c.args.direction c.args.glyphs.now) c.args.byte c.loop-i.i (to_z w64 c.loop-i.pen-bits) c.step_at-step.result (rises c.args.direction c.args.glyphs.now c.requires.order) c.loop-i.invariant c.step_at-step.ensures.step c.if-byte-step.true

pub loop-i-preserved : goal.loop-i-preserved
loop-i-preserved c =
    passed_more (text_steps c.args.direction c.args.glyphs.now) c.args.byte c.loop-i.i (to_z w64 c.loop-i.pen-bits) _ c.step_at-step.result c.loop-i.invariant c.step_at-step.ensures.step (omega arith) (omega arith)
    c.step_at-step.ensures.low c.step_at-step.ensures.high refl

pub returns : goal.returns
returns c =
    let ss = text_steps c.args.direction c.args.glyphs.now in
    let count : length ss ≡ length (all_glyphs c.args.glyphs.now) = text_count c.args.direction c.args.glyphs.now c.requires.positions in
    let last : c.loop-i.i ≡ c.len.result = omega arith in
    let P : ℕ → Type 0 = λ i. IsPassed ss c.args.byte i (to_z w64 c.loop-i.pen-bits) in
    walked_whole ss c.args.byte c.len.result (to_z w64 c.loop-i.pen-bits) (subst P last c.loop-i.invariant) (omega arith)

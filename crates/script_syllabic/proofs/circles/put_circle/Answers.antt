use Rattle.std.proofs.Common.{◌≡◌, ◌-◌, length, arith, subst, slice_get, Some}
use Rattle.buffer_core.specs.Sides.{all_glyphs}
use Rattle.script_syllabic.proofs.Put.{first_origin}
use Rattle.script_syllabic.proofs.circles.put_circle.Goals as goal

pub put_before-requires-clause-first : goal.put_before-requires-clause-first
put_before-requires-clause-first c =
    let none = c.if-rephas-eq0.true in
    let at : length c.args.buffer.now.behind - c.args.rephas ≡ length c.args.buffer.now.behind = omega (arith, none) in
    first_origin (length c.args.buffer.now.behind) c.args.first.now c.circle_info-circle.result c.args.buffer.now (subst (λ i. slice_get (all_glyphs c.args.buffer.now) i ≡ Some c.args.first.now) at c.requires.first) c.circle_info-circle.ensures.origin

pub put_behind-requires-clause-first : goal.put_behind-requires-clause-first
put_behind-requires-clause-first c =
    first_origin (length c.args.buffer.now.behind - c.args.rephas) c.args.first.now c.circle_info-circle.result c.args.buffer.now c.requires.first c.circle_info-circle.ensures.origin

use Rattle.std.proofs.Common.{subst}
use Rattle.buffer_core.specs.Sides.{Sides, with_output}
use Rattle.script_syllabic.proofs.Does.{passed_stage}
use Rattle.script_arabic.specs.Copying.{tiles_copied}
use Rattle.script_arabic.proofs.Underway.{IsUnderway, more, too_long}
use Rattle.script_arabic.proofs.copying.copy_tiles.Goals as goal

pub returns-in_err-pass : goal.returns-in_err-pass
returns-in_err-pass c =
    let e = c.in_err-pass.field-0.0 in
    let i = c.loop-tile.tile-index in
    let h : IsUnderway c.args.tiles.now i (with_output c.args.buffer.now) c.loop-tile.buffer = subst (λ (s : Sides). IsUnderway c.args.tiles.now i s c.loop-tile.buffer) c.clear_output.ensures.after c.loop-tile.invariant in
    passed_stage (tiles_copied c.args.tiles.now) c.from_residual-in_err-pass.result e c.args.buffer.now c.pass.new.buffer c.from_residual-in_err-pass.ensures.1
    (too_long c.args.tiles.now i _ e c.args.buffer.now c.loop-tile.buffer c.loop-tile-test.true h c.in_err-pass.ensures.err)

pub loop-tile-preserved : goal.loop-tile-preserved
loop-tile-preserved c = more c.args.tiles.now c.loop-tile.tile-index _ c.clear_output.new.self c.loop-tile.buffer c.pass.new.buffer c.loop-tile-test.true c.loop-tile.invariant c.in_ok-pass.ensures.ok

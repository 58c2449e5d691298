use Rattle.std.proofs.Common.{◌≡◌, ◌+◌, ◌++◌, ap, ◌∙◌, arith}
use Rattle.std.specs.Prelude.{reverse}
use Rattle.std.specs.Int.{int_wrap, w32}
use Rattle.script_arabic.specs.TilePositions.{copy_positions, copy_begin}
use Rattle.script_arabic.proofs.LaidPositions.{next_laid}
use Rattle.script_arabic.proofs.Wrapped.{back}
use Rattle.script_arabic.proofs.tile_positions.add_tile_positions.Goals as goal

pub loop-preserved : goal.loop-preserved
loop-preserved c = λ at e.
    let t = c.args.tile in
    let n = c.loop.counter in
    let h = c.loop.invariant at e in
    let l = back c.next_begin-begin.result (copy_begin t at (n + 1)) (c.next_begin-begin.ensures at n h.0) in
    (l, next_laid c.args.position _ t at n c.args.laid_positions.now.items c.loop.laid_positions.items c.push-in-loop.new.self.items h.1 (c.tile_at-in-loop.ensures (copy_begin t at (n + 1)) l) c.in_ok-push-2.ensures.items)

pub returns : goal.returns
returns c = λ at e.
    let t = c.args.tile in
    let past = c.loop-test.false in
    let within = c.loop.auto.counter-end in
    let all : c.loop.counter ≡ t.copies = omega (arith, past, within) in
    let h = c.loop.invariant at (back c.args.x at e) in
    (h.0 ∙ ap (λ n. int_wrap w32 (copy_begin t at n)) all, h.1 ∙ ap (λ n. c.args.laid_positions.now.items ++ reverse (copy_positions c.args.position t at n)) all)

use Rattle.std.proofs.Common.{◌≡◌, subst, arith}
use Rattle.script_arabic.specs.Copying.{copies_in}
use Rattle.script_arabic.proofs.Copied.{AreCopied, more_copied, on_ok, passed_on_all}
use Rattle.script_arabic.proofs.copying.pass.Goals as goal

pub loop-preserved : goal.loop-preserved
loop-preserved c = more_copied c.loop.counter c.args.buffer.now c.loop.buffer c.copy_current.new.buffer c.requires.current.current c.loop.invariant c.in_ok-copy_current.ensures.ok

pub returns-clause-ok : goal.returns-clause-ok
returns-clause-ok c =
    let past = c.loop-test.false in
    let within = c.loop.auto.counter-end in
    let count = c.copies_in-end.ensures in
    let all : c.loop.counter ≡ copies_in c.args.tile = omega (arith, past, within, count) in
    let h : AreCopied (copies_in c.args.tile) c.args.buffer.now c.loop.buffer = subst (λ n. AreCopied n c.args.buffer.now c.loop.buffer) all c.loop.invariant in
    on_ok c.advance.result (λ w x xs seen. passed_on_all (copies_in c.args.tile) x xs c.args.buffer.now c.loop.buffer c.advance.new.buffer h w seen) c.advance.ensures.ok

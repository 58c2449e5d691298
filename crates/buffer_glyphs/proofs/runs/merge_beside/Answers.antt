use Rattle.std.proofs.Common.{◌≡◌, length, arith}
use Rattle.std.proofs.lemmas.Grind.{common_steps}
use Rattle.std.proofs.lemmas.Bool.Decides.{nat_tests}
use Rattle.buffer_glyphs.proofs.Joined.{nothing_beside}
use Rattle.buffer_glyphs.proofs.runs.merge_beside.Goals as goal

pub returns-then-is_empty : goal.returns-then-is_empty
returns-then-is_empty c =
    let none : length c.args.range.now ≡ 0 = grind (arith, nat_tests, common_steps, c.is_empty.ensures, c.if-is_empty.true) in
    nothing_beside c.args.range.now c.args.glyphs.now none

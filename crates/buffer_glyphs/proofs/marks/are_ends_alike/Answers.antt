use Rattle.std.proofs.Common.{rules, ◌≡◌, ◌<◌, length, arith}
use Rattle.std.proofs.lemmas.Grind.{common_steps}
use Rattle.buffer_glyphs.proofs.Even.{ends_even, none_even}
use Rattle.buffer_glyphs.proofs.marks.are_ends_alike.Goals as goal

pub returns-then-is_empty : goal.returns-then-is_empty
returns-then-is_empty c o same_ends =
    let none : length c.args.glyphs.now ≡ 0 = first_of (search rules, grind (arith, common_steps)) in
    none_even c.args.glyphs.now none

pub returns : goal.returns
returns c o same_ends =
    let some : 0 < length c.args.glyphs.now = first_of (search rules, grind (arith, common_steps)) in
    ends_even c.args.glyphs.now _ some o same_ends

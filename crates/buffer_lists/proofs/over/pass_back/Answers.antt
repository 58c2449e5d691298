use Rattle.std.proofs.Common.{◌≡◌, ◌+◌, ◌-◌, arith, refl}
use Rattle.buffer_lists.proofs.Fronts.{backed_rest, met_rest}
use Rattle.buffer_lists.proofs.over.pass_back.Goals as goal

pub returns-then-front-from-clause-input : goal.returns-then-front-from-clause-input
returns-then-front-from-clause-input c =
    let at = c.args.from - (c.args.front - c.args.i) in
    let there : at + (c.args.front - c.args.i) ≡ c.args.from = omega (arith, c.requires.there, c.requires.ordered) in
    backed_rest c.args.glyphs.now c.copy_within.new.self c.args.i c.args.front c.args.from at (c.args.front - c.args.i) c.requires.there c.requires.ordered c.requires.within there refl c.copy_within.ensures.after

pub returns-else-front-from-clause-input : goal.returns-else-front-from-clause-input
returns-else-front-from-clause-input c =
    let same : c.args.from ≡ c.args.front = omega (arith, c.requires.ordered, c.if-front-from.false) in
    let at : c.args.front - (c.args.front - c.args.i) ≡ c.args.i = omega (arith, c.requires.there) in
    rw (same, at) (met_rest c.args.glyphs.now c.args.i c.args.front c.requires.there)

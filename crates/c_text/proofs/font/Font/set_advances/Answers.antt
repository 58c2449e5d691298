use Rattle.c_text.proofs.Advancing.{plans_stay}
use Rattle.c_text.proofs.font.Font.set_advances.Goals as goal

-- the plans that are kept are of the font with its new advances too
pub invariant_of-self : goal.invariant_of-self
invariant_of-self c =
    let of_font = plans_stay c.set_advances.result c.self.inside.input c.set_advances.new.self c.args.given.now c.self.inside.plans c.set_advances.ensures.set c.set_advances.ensures.kept c.self.invariant.0 in
    (of_font, c.self.invariant.1)

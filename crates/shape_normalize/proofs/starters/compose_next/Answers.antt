use Rattle.std.proofs.Common.{ℕ, refl, ap, sym, subst, ◌∙◌}
use Rattle.std.specs.Prelude.{Option}
use Rattle.buffer_glyphs.specs.Items.{Item}
use Rattle.shape_normalize.specs.Starters.{become, Joins, Composes, Passes}
use Rattle.shape_normalize.proofs.Walk.{if_ok, starter_there}
use Rattle.shape_normalize.proofs.starters.compose_next.Goals as goal

pub returns-in_ok-compose_mark-in-Some-clause-ok : goal.returns-in_ok-compose_mark-in-Some-clause-ok
returns-in_ok-compose_mark-in-Some-clause-ok g c = λ done x between y ys at.
    let found = sym (ap (become (g.N.Normalizing.normalizer c.args.by.now) x) c.in-Some.is) ∙ c.find_composite.ensures done x between y ys at in
    subst (λ (o : Option Item). Joins o c.args.starter c.args.starter y c.args.buffer.now c.compose_mark.new.buffer) found
    (refl, c.in_ok-compose_mark-in-Some.ensures.ok x (starter_there c.args.starter done x between y ys c.args.buffer.now at))

pub returns-in-None-clause-ok : goal.returns-in-None-clause-ok
returns-in-None-clause-ok g c =
    if_ok (λ (m : ℕ). Passes c.args.starter m c.args.buffer.now c.pass_by.new.buffer) (λ (m : ℕ). Composes (g.N.Normalizing.normalizer c.args.by.now) c.args.starter m c.args.buffer.now c.pass_by.new.buffer) c.pass_by.result
    (λ m p done x between y ys at.
    let none = sym (ap (become (g.N.Normalizing.normalizer c.args.by.now) x) c.in-None.is) ∙ c.find_composite.ensures done x between y ys at in
    subst (λ (o : Option Item). Joins o c.args.starter m y c.args.buffer.now c.pass_by.new.buffer) none (p y ys at.ahead))
    c.pass_by.ensures.ok

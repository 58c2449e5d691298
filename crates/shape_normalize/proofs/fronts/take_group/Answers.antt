use Rattle.std.proofs.Common.{◌+◌, sym, ◌∙◌}
use Rattle.shape_normalize.proofs.Taken.{given_group, lone_taken, nothing_given, nothing_taken}
use Rattle.shape_normalize.proofs.fronts.take_group.Goals as goal

pub returns-then-not-take_marked-clause-taken : goal.returns-then-not-take_marked-clause-taken
returns-then-not-take_marked-clause-taken g c =
    nothing_given (g.N.Normalizing.normalizer c.args.by.now) (c.count_marks-count.result + 1) c.args.glyphs.now c.take_marked.new.group (c.take_marked.ensures.kept c.if-not-take_marked.true)

pub returns-clause-taken : goal.returns-clause-taken
returns-clause-taken g c =
    given_group (g.N.Normalizing.normalizer c.args.by.now) c.count_marks-count.result c.args.glyphs.now c.in-Some.first.now c.in-Some.rest.now c.take_marked.new.group c.in-Some.ensures.cases.0 c.count_marks-count.ensures.front
    (c.take_marked.ensures.whole c.if-not-take_marked.false) (c.take_marked.ensures.given c.if-not-take_marked.false)

pub returns-then-count-eq1-clause-taken : goal.returns-then-count-eq1-clause-taken
returns-then-count-eq1-clause-taken g c =
    lone_taken (g.N.Normalizing.normalizer c.args.by.now) c.count_marks-count.result c.in-Some-whole_alone.glyph_index c.args.glyphs.now c.in-Some.first.now c.set_glyph.new.glyph _ c.in-Some.rest.now c.in-Some.ensures.cases.0
    c.count_marks-count.ensures.front c.if-count-eq1.true (sym c.in-Some-whole_alone.is ∙ c.whole_alone.ensures.glyph) c.set_glyph.ensures

pub returns-in_default-whole_alone-clause-taken : goal.returns-in_default-whole_alone-clause-taken
returns-in_default-whole_alone-clause-taken g c = nothing_taken (g.N.Normalizing.normalizer c.args.by.now) c.args.glyphs.now

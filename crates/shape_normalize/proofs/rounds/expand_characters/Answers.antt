use Rattle.std.proofs.Common.{[], Ok, ap, sym, subst, ◌∙◌}
use Rattle.buffer_glyphs.specs.Items.{strip}
use Rattle.buffer_core.specs.Sides.{Sides, items_of}
use Rattle.buffer_stages.specs.Appending.{AppendsArrangement}
use Rattle.shape_normalize.specs.Fronts.{expansion_after}
use Rattle.shape_normalize.proofs.Joined.{list_arranged, list_fits}
use Rattle.shape_normalize.proofs.Taken.{front_arranged, front_fits}
use Rattle.shape_normalize.proofs.rounds.expand_characters.Goals as goal

pub returns-clause-ok : goal.returns-clause-ok
returns-clause-ok g c =
    let by = g.N.Normalizing.normalizer c.args.by.now in
    let n = c.take_front-front.result in
    let t = c.take_front-front.new.buffer in
    let takes = c.take_front-front.ensures in
    let there = c.in_ok-sync.was ∙ ap Ok c.if-not-branch.false in
    front_arranged by n c.args.buffer.now t c.sync.new.self takes
    (list_arranged (expansion_after by n (items_of t)) t c.expand_after.new.buffer c.sync.new.self takes.becomes.ready
    (subst (λ (s : Sides). AppendsArrangement (expansion_after by n (strip s.ahead)) [] s c.expand_after.new.buffer) c.clear_output.ensures.after c.in_ok-expand_after.ensures.ok)
    (c.sync.ensures.joined there))

pub returns-clause-fits : goal.returns-clause-fits
returns-clause-fits g c =
    let by = g.N.Normalizing.normalizer c.args.by.now in
    let n = c.take_front-front.result in
    let t = c.take_front-front.new.buffer in
    front_fits by n c.args.buffer.now t c.take_front-front.ensures
    (list_fits (expansion_after by n (items_of t)) t c.expand_after.new.buffer
    (subst (λ (s : Sides). AppendsArrangement (expansion_after by n (strip s.ahead)) [] s c.expand_after.new.buffer) c.clear_output.ensures.after c.in_ok-expand_after.ensures.ok)
    (sym c.in_ok-sync.ensures.held ∙ c.if-not-branch.false))

use Rattle.std.proofs.Common.{subst}
use Rattle.layout_match.specs.Applied.{apply_context_of}
use Rattle.layout_match.proofs.Lemmas.Met.{met_glyph, performs_met}
use Rattle.buffer_stages.specs.Performing.{Performs, cut_with}
use Rattle.layout_face.specs.declared.positioning.PositioningSubtables.{PositioningSubtables}
use Rattle.layout_positioning.specs.Lookups.{first_subtable, lookup_action, nested_actions}
use Rattle.layout_positioning.proofs.lookup.apply_met.Goals as goal

pub returns-clause-performs : goal.returns-clause-performs
returns-clause-performs c =
    let a = apply_context_of c.args.ctx.now in
    let d = c.args.buffer.now.direction in
    let nest = nested_actions c.args.table.now.lookups 64 d a in
    let r = c.args.ctx.now.random_state in
    let act = first_subtable nest d a c.args.lookup.now.subtables in
    let s = c.args.buffer.now in
    let new = c.apply_subtables.new.buffer in
    let P : PositioningSubtables → Type 0 = λ t. Performs (first_subtable nest d a t (cut_with r s)) c.apply_subtables.result r r s new in
    performs_met a act r r c.apply_subtables.result s new (met_glyph a act r s c.requires.at_glyph_in_place.current c.requires.met) (subst P c.inner.ensures c.apply_subtables.ensures.performs)

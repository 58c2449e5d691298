use Rattle.std.proofs.Common.{◌≡◌, Bool, true, false, not, refl, sym, ◌∙◌}
use Rattle.buffer_core.specs.Sides.{items_of}
use Rattle.buffer_stages.specs.Masks.{shares_mask}
use Rattle.layout_match.proofs.Lemmas.Held.{glyphs_missed, masks_missed}
use Rattle.layout_match.proofs.Lemmas.Met.{missed}
use Rattle.layout_match.proofs.text_digest.TextGlyphsTextDigest.misses.Goals as goal
use Rattle.buffer_facts.proofs.Truth.{false_by_not as not_true}

pub returns-then-not-may_share-clause-misses : goal.returns-then-not-may_share-clause-misses
returns-then-not-may_share-clause-misses g c _ = masks_missed _ c.args.mask (g.S.Covers.covers c.args.subtables.now) (items_of c.args.buffer.now) c.collect.ensures.1 (sym c.may_share.ensures ∙ c.if-not-may_share.true)

pub returns-clause-misses : goal.returns-clause-misses
returns-clause-misses g c e =
    let covers = g.S.Covers.covers c.args.subtables.now in
    glyphs_missed _ covers (λ x. shares_mask c.args.mask x.mask) (items_of c.args.buffer.now) c.collect.ensures.0 (λ n there. missed (covers n) _ (c.low_bits.ensures n) (c.may_share_glyph.ensures (not_true c.may_share_glyph.result e) n there))

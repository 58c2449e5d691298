use Rattle.std.proofs.Common.{◌∙◌, ap, arith, get_or}
use Rattle.std.proofs.lemmas.List.{length-set}
use Rattle.std.proofs.lemmas.Option.{slice_get-get_or}
use Rattle.buffer_glyphs.specs.Items.{item_masked, item_of, strip}
use Rattle.buffer_glyphs.proofs.Lists.{seen_step}
use Rattle.buffer_lists.specs.Flags.{flag_requests_of, cluster_flags}
use Rattle.buffer_lists.proofs.Lemmas.Flags.{flagged_item, spread_step}
use Rattle.buffer_lists.proofs.Lemmas.Neighbours.{no_glyph, rest_whole}
use Rattle.buffer_lists.proofs.flags.spread_glyph_flags.Goals as goal

pub loop-at-preserved : goal.loop-at-preserved
loop-at-preserved c =
    let inv = c.loop-at.invariant in
    let gs = c.loop-at.glyphs in
    let glyph = c.with_flags-glyph.ensures in
    record {
      len = length-set gs c.loop-at.at c.with_flags-glyph.result ∙ inv.len;
      items = seen_step item_of (item_masked 0) (strip c.args.glyphs.now) gs c.loop-at.at (get_or gs c.loop-at.at no_glyph) c.with_flags-glyph.result (slice_get-get_or gs c.loop-at.at no_glyph (omega (arith, inv.len))) (ap item_of glyph ∙ flagged_item c.flags_of_cluster-flags.result (get_or gs c.loop-at.at no_glyph)) inv.items;
      rest = spread_step (flag_requests_of c.args.asked) c.loop-at.before c.loop-at.at c.flags_of_cluster-flags.result gs no_glyph c.with_flags-glyph.result _ (omega (arith, inv.len)) (c.flags_of_cluster-flags.ensures ∙ ap (cluster_flags (flag_requests_of c.args.asked) c.loop-at.before) (rest_whole c.loop-at.at gs)) glyph inv.rest;
    }

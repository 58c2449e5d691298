use Rattle.std.proofs.Common.{sym, ap, ◌∙◌, arith}
use Rattle.buffer_glyphs.specs.declared.info.hb_glyph_info_t.{hb_glyph_info_t}
use Rattle.layout_match.proofs.Lemmas.Held.{held_all, held_next, masks_all, masks_next, number_there}
use Rattle.layout_match.proofs.text_digest.collect_glyphs.Goals as goal

abbrev none : hb_glyph_info_t
none = record { glyph_id = 0; mask = 0; cluster = 0; glyph_index = 0; unicode_props = record { 0 = 0 }; modified_combining_class = 0; glyph_props = record { 0 = 0 }; lig_props = 0; syllable = 0; category = 0; auxiliary = 0 }

pub as_glyph-requires : goal.as_glyph-requires
as_glyph-requires g c = number_there c.args.glyphs.now c.loop-info.info-index none c.loop-info-test.true c.requires

pub loop-info-preserved : goal.loop-info-preserved
loop-info-preserved g c =
    let before = g.D.hb_set_digest_ext.may_contain c.loop-info.digest in
    let after = g.D.hb_set_digest_ext.may_contain c.add.new.self in
    record {
      glyphs = held_next before after c.args.glyphs.now c.loop-info.info-index none c.loop-info-test.true c.loop-info.invariant.glyphs (ap after (sym c.as_glyph.ensures) ∙ c.add.ensures.added) c.add.ensures.stays;
      features = masks_next c.loop-info.features c.features_of-features.result c.args.glyphs.now c.loop-info.info-index none c.loop-info-test.true c.loop-info.invariant.features c.features_of-features.ensures;
    }

pub returns-clause-glyphs : goal.returns-clause-glyphs
returns-clause-glyphs g c = held_all (g.D.hb_set_digest_ext.may_contain c.loop-info.digest) c.args.glyphs.now c.loop-info.info-index (omega (arith, c.loop-info-test.false)) c.loop-info.invariant.glyphs

pub returns-clause-features : goal.returns-clause-features
returns-clause-features g c = masks_all c.loop-info.features c.args.glyphs.now c.loop-info.info-index (omega (arith, c.loop-info-test.false)) c.loop-info.invariant.features

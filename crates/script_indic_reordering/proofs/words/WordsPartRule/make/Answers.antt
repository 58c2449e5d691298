use Rattle.std.proofs.Common.{None, Some, arith, sym, ap, ◌∷◌}
use Rattle.std.specs.Prelude.{drop, option_map}
use Rattle.buffer_glyphs.specs.Items.{item_of, strip}
use Rattle.script_categories.specs.declared.shaper.hb_ot_script_shaper_t.TheVariants.{INDIC_SHAPER}
use Rattle.script_categories.specs.Shapers.{is_reordered}
use Rattle.script_indic_reordering.specs.Final.{words_begun}
use Rattle.script_indic_reordering.proofs.Lemmas.Words.{word_next}
use Rattle.script_indic_reordering.proofs.words.WordsPartRule.make.Goals as goal

pub loop-i-preserved : goal.loop-i-preserved
loop-i-preserved c =
    let many = c.loop-i.invariant.many in
    let lt = c.loop-i-test.true in
    word_next (is_reordered INDIC_SHAPER) c.args.self.now.mask (option_map item_of c.loop-i.before) c.loop-i.i _ c.args.glyphs.now c.loop-i.glyphs _ c.masked_at_word.result (omega (arith, many, lt)) c.loop-i.invariant c.masked_at_word.ensures.item c.masked_at_word.ensures.origin

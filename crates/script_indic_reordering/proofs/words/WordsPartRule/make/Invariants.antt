use Rattle.std.proofs.Common.{None}
use Rattle.std.specs.Prelude.{option_map}
use Rattle.buffer_glyphs.specs.Items.{item_of, strip}
use Rattle.script_categories.specs.declared.shaper.hb_ot_script_shaper_t.TheVariants.{INDIC_SHAPER}
use Rattle.script_categories.specs.Shapers.{is_reordered}
use Rattle.buffer_stages.proofs.Lemmas.Made.{AreWritten}
use Rattle.script_indic_reordering.specs.Final.{words_begun}
use Rattle.script_indic_reordering.proofs.words.WordsPartRule.make.Given as goal

abbrev pub invariant-loop-i : goal.invariant-loop-i
invariant-loop-i l = AreWritten (words_begun (is_reordered INDIC_SHAPER) l.self.mask (option_map item_of l.before)) l.i (words_begun (is_reordered INDIC_SHAPER) l.self.mask None (strip l.initial.glyphs)) l.initial.glyphs l.glyphs

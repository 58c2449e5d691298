-- Each glyph is a syllable of one kind.
use Rattle.std.specs.Prelude.{ℕ, ◌<◌, ◌≤◌, ◌+◌, List, length}
use Rattle.std.proofs.Common.{arith}
use Rattle.script_categories.specs.declared.shaper.hb_ot_script_shaper_t.{hb_ot_script_shaper_t}
use Rattle.tests_stages.specs.declared.spans.SingleGlyphs.{SingleGlyphs}

-- lemma: a syllable of one glyph ends after its start
pub single_after : (s : SingleGlyphs) (shaper : hb_ot_script_shaper_t) (categories : List ℕ) (start : ℕ) → start < length categories → start < start + 1
single_after s shaper categories start lt = omega arith

-- lemma: a syllable of one glyph ends within the list
pub single_inside : (s : SingleGlyphs) (shaper : hb_ot_script_shaper_t) (categories : List ℕ) (start : ℕ) → start < length categories → start + 1 ≤ length categories
single_inside s shaper categories start lt = omega (arith, lt)

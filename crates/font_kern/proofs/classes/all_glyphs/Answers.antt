use Rattle.std.proofs.Common.{◌+◌, ◌-◌, ℕ, arith}
use Rattle.std.proofs.lemmas.Grind.{common_steps}
use Rattle.font_bytes.proofs.Recorded.{records_none}
use Rattle.font_kern.proofs.Listed.{number_more}
use Rattle.font_kern.proofs.classes.all_glyphs.Goals as goal
use Rattle.buffer_facts.proofs.Lists.{one_done}

pub loop-glyph-preserved : goal.loop-glyph-preserved
loop-glyph-preserved c =
    let more = number_more c.args.count c.loop-glyph.glyph (omega arith) in
    grind (arith, common_steps, one_done, more)

pub returns : goal.returns
returns c =
    let end = records_none (λ (g : ℕ). g) 1 c.loop-glyph.glyph (c.args.count - c.loop-glyph.glyph) (omega arith) in
    grind (arith, common_steps, end)

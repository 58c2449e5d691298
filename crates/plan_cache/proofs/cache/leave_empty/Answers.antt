use Rattle.std.proofs.Common.{◌==◌, List, length, ap, rules}
use Rattle.shape_pipeline.specs.buffer_glyphs.declared.info.hb_glyph_info_t.{hb_glyph_info_t}
use Rattle.shape_pipeline.proofs.Numbers.{empty_result}
use Rattle.plan_cache.proofs.cache.leave_empty.Goals as goal

pub returns-clause-handed_on : goal.returns-clause-handed_on
returns-clause-handed_on c =
    empty_result c.args.buffer.now c.leave.new.self c.leave.ensures c.requires.text.unrefused (search rules) (ap (λ (gs : List hb_glyph_info_t). length gs == 0) c.requires.empty)

use Rattle.layout_contexts.proofs.Begun.{went_behind}
use Rattle.layout_contexts.proofs.records.move_to_match_end.Goals as goal

pub returns-clause-nests : goal.returns-clause-nests
returns-clause-nests c =
    went_behind c.args.end c.min-index.result c.glyph_count.result c.args.buffer.now c.move_cursor_to.new.buffer c.glyph_count.ensures.count c.min-index.ensures (c.in_default.ensures {u = tt}).held (c.in_default.ensures {u = tt}).ok

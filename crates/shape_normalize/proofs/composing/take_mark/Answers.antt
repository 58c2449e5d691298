use Rattle.std.proofs.Common.{ap, ◌∙◌}
use Rattle.buffer_core.specs.Moving.{after_move_to}
use Rattle.shape_normalize.proofs.Compositions.{mark_behind, mark_ahead}
use Rattle.shape_normalize.proofs.composing.take_mark.Goals as goal

pub returns-clause-behind : goal.returns-clause-behind
returns-clause-behind c =
    mark_behind c.args.buffer.now c.pass_glyph.new.buffer c.merge_out_clusters.new.self c.move_cursor.new.buffer c.skip_glyph.new.self c.in_ok-pass_glyph.ensures.kept c.merge_out_clusters.ensures.items
    (c.in_ok-move_cursor.ensures.moved ∙ ap (λ n. after_move_to n c.merge_out_clusters.new.self) c.out_len-count.ensures) c.skip_glyph.ensures.skipped

pub returns-clause-ahead : goal.returns-clause-ahead
returns-clause-ahead c =
    mark_ahead c.args.buffer.now c.pass_glyph.new.buffer c.merge_out_clusters.new.self c.move_cursor.new.buffer c.skip_glyph.new.self c.in_ok-pass_glyph.ensures.kept c.merge_out_clusters.ensures.items
    (c.in_ok-move_cursor.ensures.moved ∙ ap (λ n. after_move_to n c.merge_out_clusters.new.self) c.out_len-count.ensures) c.skip_glyph.ensures.skipped

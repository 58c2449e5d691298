use Rattle.std.proofs.Common.{get_or, drop, sym, ◌∙◌}
use Rattle.std.proofs.lemmas.List.{drop_more}
use Rattle.buffer_lists.proofs.Known.{no_glyph}
use Rattle.buffer_glyphs.proofs.OneDeleted.{kept_least, kept_next, taken_less}
use Rattle.buffer_lists.proofs.deletion.delete_after_output.Goals as goal

pub returns-then-last-glyph : goal.returns-then-last-glyph
returns-then-last-glyph c = λ level.
    let gs = c.args.input.now in
    kept_least level _ gs (get_or gs 0 no_glyph) (drop 1 gs) c.last_cluster-last.result (drop_more gs 0 no_glyph c.requires.there) c.last_cluster-last.ensures c.if-last-glyph.true

pub returns-then-next_has : goal.returns-then-next_has
returns-then-next_has c = λ level.
    let gs = c.args.input.now in
    kept_next level _ gs (get_or gs 0 no_glyph) (drop 1 gs) (drop_more gs 0 no_glyph c.requires.there) (sym c.next_has.ensures ∙ c.if-next_has.true)

pub returns : goal.returns
returns c = λ level.
    let gs = c.args.input.now in
    taken_less level _ gs _ (get_or gs 0 no_glyph) (drop 1 gs) c.last_cluster-last.result (drop_more gs 0 no_glyph c.requires.there) c.last_cluster-last.ensures c.if-last-glyph.false (sym c.next_has.ensures ∙ c.if-next_has.false) c.recast_end.ensures

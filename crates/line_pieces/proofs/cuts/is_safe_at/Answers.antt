use Rattle.std.proofs.Common.{◌||◌, ◌&&◌, not, sym, ap, ◌∙◌}
use Rattle.std.specs.List.{list_any}
use Rattle.line_pieces.specs.Lines.{is_of, is_unsafe_of}
use Rattle.line_pieces.specs.Steps.{text_steps}
use Rattle.line_pieces.proofs.TextOrder.{rises}
use Rattle.line_pieces.proofs.Walks.{not_at_ends, run_decides}
use Rattle.line_pieces.proofs.cuts.is_safe_at.Goals as goal

pub returns : goal.returns
returns c =
    let ss = text_steps c.args.direction c.args.glyphs.now in
    c.run_is_safe.ensures
    ∙ run_decides c.args.byte c.args.from ss (rises c.args.direction c.args.glyphs.now c.requires.order) c.requires.split
    ∙ ap (λ t. t || (list_any (is_of c.args.byte) ss && not (list_any (is_unsafe_of c.args.byte) ss))) (sym (not_at_ends c.args.byte c.args.end c.if-byte-eq0.false c.if-byte-end.false))

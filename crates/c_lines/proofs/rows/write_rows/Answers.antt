use Rattle.std.proofs.Common.{ap, rules, ◌∙◌}
use Rattle.c_text.proofs.Writing.{written_next}
use Rattle.c_lines.proofs.rows.write_rows.Goals as goal

pub loop-k-preserved : goal.loop-k-preserved
loop-k-preserved g c =
    let s = c.loop-k in
    written_next g.T.Row.form_of c.args.rows.now c.args.room.now s.room s.k c.index-rows-k.result c.form.result s.invariant (search rules) (search rules) (c.form.ensures ∙ ap g.T.Row.form_of c.index-rows-k.is)

use Rattle.std.proofs.Common.{sym, ◌∙◌}
use Rattle.shape_text.proofs.Circled.{circle_followed}
use Rattle.shape_text.proofs.circle.insert_dotted_circle.Goals as goal

pub returns : goal.returns
returns c = rw c.in_ok-put_circle.ensures.ok (circle_followed c.args.tables.now c.args.face.now c.args.buffer.now (sym c.needs_circle.ensures ∙ c.if-not-needs_circle.false) c.in_ok-put_circle.ensures.fits c.in_ok-put_circle.ensures.some c.requires.ready)

use Rattle.line_pieces.proofs.Spans.{stays_by_width}
use Rattle.line_pieces.proofs.filling.stays.Goals as goal

pub returns-else-start-last : goal.returns-else-start-last
returns-else-start-last c = stays_by_width c.args.start c.args.last c.args.next c.args.width c.requires.start c.requires.next c.ranges.width c.if-start-last.false

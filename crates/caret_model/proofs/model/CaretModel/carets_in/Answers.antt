use Rattle.caret_model.proofs.Between.{stops_rise}
use Rattle.caret_model.proofs.model.CaretModel.carets_in.Goals as goal

pub with_stops-requires : goal.with_stops-requires
with_stops-requires c = stops_rise c.self.inside.end 0 c.args.stops.now (c.are_stops.ensures.0 c.if-not-are_stops.false)

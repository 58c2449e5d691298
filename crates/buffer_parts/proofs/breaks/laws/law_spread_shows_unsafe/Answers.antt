use Rattle.buffer_parts.proofs.BreakLemmas.Spread.{spread_shows_unsafe}
use Rattle.buffer_parts.proofs.breaks.laws.law_spread_shows_unsafe.Goals as goal

pub returns : goal.returns
returns c = spread_shows_unsafe

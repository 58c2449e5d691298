use Rattle.std.proofs.Common.{rules}
use Rattle.shape_fallback.specs.Spaces.{space_position}
use Rattle.shape_fallback.proofs.spaces.adjust_spaces.Goals as goal

pub returns : goal.returns
returns c =
    let d = c.map_positions.ensures (space_position c.args.buffer.now.direction c.args.face.now) (λ g p q r. search rules) in
    record { follows = d.follows; settings = d.settings; ready = d.ready; numbers = d.numbers }

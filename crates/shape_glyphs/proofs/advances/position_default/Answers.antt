use Rattle.std.proofs.Common.{rules}
use Rattle.shape_glyphs.specs.Advances.{default_position}
use Rattle.shape_glyphs.proofs.advances.position_default.Goals as goal

pub returns : goal.returns
returns c =
    let d = c.map_positions.ensures (default_position c.args.buffer.now.direction c.args.face.now) (λ g p q r. search rules) in
    record { follows = d.follows; settings = d.settings; ready = d.ready; numbers = d.numbers }

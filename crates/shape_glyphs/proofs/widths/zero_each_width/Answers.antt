use Rattle.std.proofs.Common.{rules}
use Rattle.shape_glyphs.specs.Widths.{ignorable_position}
use Rattle.shape_glyphs.proofs.widths.zero_each_width.Goals as goal

pub returns : goal.returns
returns c =
    let d = c.map_positions.ensures ignorable_position (λ g p q r. search rules) in
    record { follows = d.follows; settings = d.settings; ready = d.ready }

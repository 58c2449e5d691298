use Rattle.std.proofs.Common.{◌<◌, length, arith}
use Rattle.buffer_stages.proofs.Lemmas.Frames.{same_lengths}
use Rattle.layout_gsub.proofs.Multiplied.{glyph_deleted, deleted_after}
use Rattle.layout_gsub.proofs.multiple.delete.Goals as goal

pub returns : goal.returns
returns c = λ r.
    let d = c.delete_glyph.ensures in
    let old = c.args.buffer.now in
    let mid = c.mark_neighbours.new.buffer in
    let passed = c.mark_neighbours.ensures in
    let long = same_lengths old mid passed.cut_is in
    let there : 0 < length mid.ahead = omega (arith, c.requires.current.current, long.1) in
    deleted_after r old mid c.delete_glyph.new.self passed (glyph_deleted r mid c.delete_glyph.new.self there d.deleted d.read d.behind d.ahead d.items d.origins)

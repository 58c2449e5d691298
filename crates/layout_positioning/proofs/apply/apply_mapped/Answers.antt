use Rattle.std.proofs.Common.{rules, ◌≤◌, arith, length, slice_get}
use Rattle.buffer_core.specs.Sides.{all_glyphs}
use Rattle.layout_positioning.proofs.Skipped.{held_after, skipped_done}
use Rattle.layout_positioning.proofs.apply.apply_mapped.Goals as goal

pub returns-then-misses-clause-stage : goal.returns-then-misses-clause-stage
returns-then-misses-clause-stage g c =
    let s = c.args.buffer.now in
    let count = c.len-count.ensures.count c.requires.glyphs.ready.closed in
    let most = c.len-count.ensures.within c.requires.glyphs.ready.closed in
    let within : length (all_glyphs s) ≤ s.max_len = omega (arith, count, most) in
    let table = c.args.table.now.lookups in
    let m = c.args.lookup_map.now in
    skipped_done c.args.face.now table (slice_get table m.index) c.in-Some.lookup.now m 1 s c.in-Some.ensures c.requires.glyphs.ready within (c.misses.ensures.misses c.if-misses.true)

pub returns-clause-held : goal.returns-clause-held
returns-clause-held g c =
    held_after _ c.args.face.now c.args.table.now.lookups (slice_get c.args.table.now.lookups c.args.lookup_map.now.index) c.args.lookup_map.now c.apply_forward.result c.args.buffer.now c.apply_forward.new.buffer (search rules) c.misses.ensures.held

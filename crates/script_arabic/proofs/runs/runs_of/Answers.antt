use Rattle.std.proofs.Common.{rules, ◌+◌, ◌*◌, ◌^◌}
use Rattle.script_arabic.proofs.Walked.{from_there, one_pushed, one_run}
use Rattle.script_arabic.proofs.runs.runs_of.Goals as goal

pub loop-at-preserved : goal.loop-at-preserved
loop-at-preserved c =
    let l = c.loop-at in
    let f = c.args.face.now in
    let gs = c.args.glyphs.now in
    let ps = c.args.positions.now in
    let e = c.next_before-before.ensures in
    let n = c.next_before-before.result in
    one_pushed f gs ps (l.at + 1) n l.runs.items c.push.new.self.items c.tile_run.result c.in_ok-push.ensures.items c.tile_run.ensures
    (one_run f gs ps l.at l.before n l.runs.items _ (search rules) c.requires l.invariant (from_there f gs l.at l.before n _ e.value) (e.near (l.at * 2 ^ 31) l.invariant.near))

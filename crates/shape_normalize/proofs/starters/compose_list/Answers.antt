use Rattle.std.proofs.Common.{arith}
use Rattle.buffer_core.specs.Sides.{items_of}
use Rattle.buffer_properties.specs.Composing.{composed_list}
use Rattle.shape_normalize.proofs.Walk.{composing_begun, composing_behind, composing_more, composing_done}
use Rattle.shape_normalize.proofs.starters.compose_list.Goals as goal

pub loop-init : goal.loop-init
loop-init g c =
    composing_begun (g.N.Normalizing.normalizer c.args.by.now) c.args.at c.args.starter c.args.count c.args.buffer.now c.pass_glyphs.new.buffer c.requires.room c.requires.front c.requires.counted c.requires.within c.requires.uncomposed
    c.in_ok-pass_glyphs.ensures.moved c.in_ok-pass_glyphs.ensures.kept

pub compose_next-requires-clause-behind : goal.compose_next-requires-clause-behind
compose_next-requires-clause-behind g c = composing_behind (g.N.Normalizing.normalizer c.args.by.now) (composed_list (g.N.Normalizing.normalizer c.args.by.now) (items_of c.pass_glyphs.new.buffer)) c.args.count c.loop.counter c.loop.starter c.pass_glyphs.new.buffer c.loop.buffer c.loop.invariant

pub loop-preserved : goal.loop-preserved
loop-preserved g c =
    composing_more (g.N.Normalizing.normalizer c.args.by.now) (composed_list (g.N.Normalizing.normalizer c.args.by.now) (items_of c.pass_glyphs.new.buffer)) c.args.count c.loop.counter c.loop.starter c.in_ok-starter.starter c.pass_glyphs.new.buffer c.loop.buffer c.compose_next.new.buffer c.loop-test.true
    c.loop.invariant c.in_ok-starter.ensures.ok

pub returns-clause-ok : goal.returns-clause-ok
returns-clause-ok g c =
    let ended = c.loop-test.false in
    composing_done (g.N.Normalizing.normalizer c.args.by.now) c.args.count c.loop.counter c.args.at c.loop.starter c.args.buffer.now c.pass_glyphs.new.buffer c.loop.buffer (omega (arith, ended)) c.requires.front
    c.in_ok-pass_glyphs.ensures.moved c.in_ok-pass_glyphs.ensures.kept c.loop.invariant

pub returns-clause-room : goal.returns-clause-room
returns-clause-room g c = c.loop.invariant.room

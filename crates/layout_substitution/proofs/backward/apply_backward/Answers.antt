use Rattle.std.proofs.Common.{ℕ, suc, ◌≡◌, ◌-◌, false, length, refl, ap, sym, subst, arith, ◌∙◌}
use Rattle.buffer_core.specs.Sides.{all_glyphs, items_of}
use Rattle.buffer_core.specs.Moving.{after_move_to}
use Rattle.buffer_stages.proofs.Lemmas.Frames.{still_open}
use Rattle.layout_match.specs.Applied.{apply_context_of}
use Rattle.layout_substitution.specs.Lookups.{reverse_action}
use Rattle.layout_substitution.proofs.Back.{IsOnItsWayBack, gone_back, looked_back_done}
use Rattle.layout_substitution.proofs.backward.apply_backward.Goals as goal

pub loop-at-preserved : goal.loop-at-preserved
loop-at-preserved c =
    let act = reverse_action (apply_context_of c.args.ctx.now) c.args.lookup.now in
    let count = length (all_glyphs c.args.buffer.now) in
    let at = c.loop-at.at - 1 in
    let more : c.loop-at.at ≡ suc at = omega (arith, c.loop-at-test.true) in
    let P : ℕ → Type 0 = λ n. IsOnItsWayBack act count n c.args.buffer.now c.loop-at.buffer in
    record {
      on_its_way = gone_back act count at c.args.buffer.now c.loop-at.buffer c.apply_at-acted.new.buffer (subst P more c.loop-at.invariant.on_its_way) c.apply_at-acted.ensures.step;
      unchanged = λ none. c.apply_at-acted.ensures.unchanged none ∙ c.loop-at.invariant.unchanged (c.apply_at-acted.ensures.before none);
    }

pub returns-clause-unchanged : goal.returns-clause-unchanged
returns-clause-unchanged c none =
    let now = c.loop-at.buffer in
    let closed : now.is_open ≡ false = still_open c.args.buffer.now now c.loop-at.invariant.on_its_way.still ∙ c.requires.glyphs.ready.closed in
    let there : c.move_to.new.self ≡ after_move_to 0 now = c.move_to.ensures.moved (c.move_to.ensures.in_place closed) in
    ap items_of there ∙ c.loop-at.invariant.unchanged none

pub returns-clause-stage : goal.returns-clause-stage
returns-clause-stage c =
    let act = reverse_action (apply_context_of c.args.ctx.now) c.args.lookup.now in
    let s = c.args.buffer.now in
    let now = c.loop-at.buffer in
    let count = length (all_glyphs s) in
    let closed : now.is_open ≡ false = still_open s now c.loop-at.invariant.on_its_way.still ∙ c.requires.glyphs.ready.closed in
    let none : c.loop-at.at ≡ 0 = omega (arith, c.loop-at-test.false) in
    let P : ℕ → Type 0 = λ n. IsOnItsWayBack act count n s now in
    let there : c.move_to.new.self ≡ after_move_to 0 now = c.move_to.ensures.moved (c.move_to.ensures.in_place closed) in
    let places : length c.move_to.new.self.positions ≡ length (all_glyphs c.move_to.new.self) = ap length (sym c.pos_slice-after.ensures.same) ∙ c.pos_slice-after.ensures.len in
    looked_back_done act c.len-end.result count s now c.move_to.new.self c.requires.glyphs.ready refl (subst P none c.loop-at.invariant.on_its_way) c.len-end.ensures.input (c.len-end.ensures.count closed) there places

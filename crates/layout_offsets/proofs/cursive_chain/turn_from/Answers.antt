use Rattle.std.proofs.Common.{ℕ, ◌≡◌, ◌+◌, ◌-◌, Bool, set, Some, arith, ap, sym, ◌∙◌, rules}
use Rattle.std.proofs.lemmas.List.{length-set}
use Rattle.buffer_glyphs.specs.Items.{Position}
use Rattle.layout_offsets.specs.Links.{position_at}
use Rattle.layout_offsets.specs.Cursive.{old_parent, with_link_reversed, turned_position, chain_reversed_from, most_links}
use Rattle.layout_offsets.proofs.Lemmas.Turned.{turned_none, turned_goes, old_parent_within}
use Rattle.layout_offsets.proofs.cursive_chain.turn_from.Goals as goal

pub loop-done-preserved : goal.loop-done-preserved
loop-done-preserved c =
    let d = c.args.direction in
    let stop = c.args.stop in
    let count = most_links in
    let k = c.loop-done._done in
    let i = c.loop-done.at in
    let j = c.in-Some.there in
    let ps = c.loop-done.positions in
    let new = c.loop-done.new in
    let to : old_parent stop i ps ≡ Some j = sym c.old_parent-next.ensures ∙ c.in-Some.is in
    let goes = turned_goes d stop count k i j new ps c.loop-done-test.true to in
    let place : c.with_link_reversed-new.result ≡ turned_position d (position_at i ps) (position_at j (set ps i new)) =
    c.with_link_reversed-new.ensures ∙ ap (λ (b : Bool). with_link_reversed b (position_at i ps) (position_at j (set ps i new))) c.is_horizontal.ensures in
    let len = length-set ps i new in
    let within = old_parent_within stop i j ps to in (
      ap (λ (p : Position). chain_reversed_from d stop (count - (k + 1)) j p (set ps i new)) place ∙ sym goes ∙ c.loop-done.invariant.0,
      omega (arith, len, within),
      len ∙ c.loop-done.invariant.2,
    )

pub returns : goal.returns
returns c =
    let d = c.args.direction in
    let stop = c.args.stop in
    let count = most_links in
    let k = c.loop-done._done in
    let none : count - k ≡ 0 = search rules in
    sym (ap (λ (n : ℕ). chain_reversed_from d stop n c.loop-done.at c.loop-done.new c.loop-done.positions) none ∙ turned_none d stop c.loop-done.at c.loop-done.new c.loop-done.positions) ∙ c.loop-done.invariant.0

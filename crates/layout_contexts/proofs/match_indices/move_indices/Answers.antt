use Rattle.std.proofs.Common.{◌≡◌, ◌+◌, List, ℕ, map, subst}
use Rattle.layout_contexts.proofs.Shifted.{all_moved}
use Rattle.layout_contexts.proofs.match_indices.move_indices.Goals as goal

pub returns : goal.returns
returns c =
    let P : List ℕ → Type 0 = λ ps. c.push_moved.new.indices.items ≡ map (λ q. q + c.args.by) ps in
    subst P c.as_slice.ensures.value (all_moved c.args.by c.as_slice.result.now c.new-moved.result.items c.push_moved.new.indices.items c.as_slice.ensures.fits c.new-moved.ensures c.push_moved.ensures)

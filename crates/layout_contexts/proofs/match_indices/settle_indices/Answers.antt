use Rattle.std.proofs.Common.{◌≡◌, ◌+◌, ◌-◌, ◌++◌, [], List, ℕ, length, take, drop, map, get_or, subst, ap, sym, ◌∙◌}
use Rattle.layout_contexts.specs.Shifts.{following, indices_after_resize}
use Rattle.layout_contexts.proofs.Shifted.{all_settled, rest_whole}
use Rattle.layout_contexts.proofs.match_indices.settle_indices.Goals as goal

pub returns : goal.returns
returns c =
    let ps = c.as_slice-old.result.now in
    let i = c.args.i in
    let before = c.args.before in
    let after = c.args.after in
    let a = c.push_moved.new.indices.items in
    let b = c.push_following.new.indices.items in
    let first : a ≡ take 64 ([] ++ map (λ q. q + 0 - 0) (take (i + 1) ps)) = c.push_moved.ensures ∙ ap (λ (qs : List ℕ). take 64 (qs ++ map (λ q. q + 0 - 0) (take (i + 1) ps))) c.new-settled.ensures in
    let second : b ≡ take 64 (a ++ following (get_or ps i 0) (after - before)) = rw (sym c.saturating_sub.ensures) c.push_following.ensures in
    let rest : take (length ps - (i + 1)) (drop (i + 1) ps) ≡ drop (i + 1) ps = rest_whole (i + 1) ps in
    let third : c.push_moved-2.new.indices.items ≡ take 64 (b ++ map (λ q. q + after - before) (drop (before - after) (drop (i + 1) ps))) = c.push_moved-2.ensures ∙ ap (λ (qs : List ℕ). take 64 (b ++ map (λ q. q + after - before) qs)) (c.from_index.ensures ∙ ap (drop c.saturating_sub-2.result) rest ∙ ap (λ n. drop n (drop (i + 1) ps)) c.saturating_sub-2.ensures) in
    let P : List ℕ → Type 0 = λ qs. c.push_moved-2.new.indices.items ≡ indices_after_resize i before after qs in
    subst P c.as_slice-old.ensures.value (all_settled i before after ps a b c.push_moved-2.new.indices.items first second third)

-- An argument for each name, one after another.
use Rattle.std.proofs.Common.{◌≡◌, ℕ, zero, suc, ◌+◌, ◌<◌, List, [], ◌∷◌, length, get_or, drop, map, refl, add-one, arith}
use Rattle.std.specs.Borrow.{Bor}
use Rattle.clap.specs.Words.{App, Rule, with_rule}
use Rattle.shell_words.specs.Words.{with_all}

pub one_more : (rule : List ℕ → Rule) (app : App) (ids : List (Bor (List ℕ))) (i : ℕ) (d : Bor (List ℕ)) → i < length ids
    → with_all rule (map (λ t. t.now) (drop i ids)) app ≡ with_all rule (map (λ t. t.now) (drop (i + 1) ids)) (with_rule app (rule (get_or ids i d).now))
one_more rule app [] i d h = absurd (omega (arith, h))
one_more rule app (id ∷ ids) zero d h = refl
one_more rule app (id ∷ ids) (suc i) d h = let low : i < length ids = omega (arith, h) in rw add-one (rw add-one at (one_more rule app ids i d low))

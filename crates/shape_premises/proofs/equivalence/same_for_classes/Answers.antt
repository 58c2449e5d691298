use Rattle.std.proofs.Common.{◌≡◌, ◌<◌, ◌+◌, ◌&&◌, ◌∙◌, ℕ, suc, Bool, true, false, List, drop, get_or, length, refl, sym, ap, arith, drop-cons}
use Rattle.std.specs.List.{list_all}
use Rattle.buffer_unicode_tables.specs.Tables.{class_of}
use Rattle.buffer_unicode_tables.specs.Tests.{same_beside_starters}
use Rattle.shape_premises.proofs.equivalence.same_for_classes.Goals as goal

-- a test of the rest, by its first element
first_of_rest : (p : ℕ → Bool) (zs : List ℕ) (i z : ℕ) → i < length zs → z ≡ get_or zs i z → list_all p (drop i zs) ≡ (p z && list_all p (drop (i + 1) zs))
first_of_rest p zs i z l at =
    let next : suc i ≡ i + 1 = omega arith in
    ap (list_all p) (drop-cons zs i z l) ∙ (ap (λ x. p x && list_all p (drop (suc i) zs)) (sym at) ∙ ap (λ n. p z && list_all p (drop n zs)) next)

fails : (a b : Bool) → a ≡ false → (a && b) ≡ false
fails true b e = cc
fails false b e = refl

passes : (a b : Bool) → a ≡ true → (a && b) ≡ b
passes true b e = refl
passes false b e = cc

pub returns-then-not-branch : goal.returns-then-not-branch
returns-then-not-branch c =
    let p : ℕ → Bool = λ z. same_beside_starters (class_of c.args.tables.now) c.args.xs.now c.args.ys.now (class_of c.args.tables.now z) in
    let own : c.in_ok-same_beside_starters.field-0 ≡ p c.z-item.result = c.in_ok-same_beside_starters.ensures ∙ ap (same_beside_starters (class_of c.args.tables.now) c.args.xs.now c.args.ys.now) c.modified_combining_class.ensures in
    sym (fails (p c.z-item.result) (list_all p (drop (c.loop-z.z-index + 1) c.args.zs.now)) (sym own ∙ c.if-not-branch.true)) ∙ (sym (first_of_rest p c.args.zs.now c.loop-z.z-index c.z-item.result (omega arith) c.z-item.is) ∙ c.loop-z.invariant)

pub loop-z-preserved : goal.loop-z-preserved
loop-z-preserved c =
    let p : ℕ → Bool = λ z. same_beside_starters (class_of c.args.tables.now) c.args.xs.now c.args.ys.now (class_of c.args.tables.now z) in
    let own : c.in_ok-same_beside_starters.field-0 ≡ p c.z-item.result = c.in_ok-same_beside_starters.ensures ∙ ap (same_beside_starters (class_of c.args.tables.now) c.args.xs.now c.args.ys.now) c.modified_combining_class.ensures in
    sym (passes (p c.z-item.result) (list_all p (drop (c.loop-z.z-index + 1) c.args.zs.now)) (sym own ∙ c.if-not-branch.false)) ∙ (sym (first_of_rest p c.args.zs.now c.loop-z.z-index c.z-item.result (omega arith) c.z-item.is) ∙ c.loop-z.invariant)

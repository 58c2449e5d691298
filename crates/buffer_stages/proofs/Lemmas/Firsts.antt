-- Rules performed one after another, each with what it is applied with.
use Rattle.std.proofs.Common.{ℕ, ◌≡◌, ◌≢◌, ◌<◌, ◌+◌, true, false, Bool, List, length, drop, get_or, Ok, Err, subst}
use Rattle.std.specs.Prelude.{Result}
use Rattle.buffer_glyphs.specs.declared.cause.ShapeCause.{ShapeCause}
use Rattle.buffer_glyphs.specs.declared.cause.ShapeCause.TheVariants.{OutOfMemory}
use Rattle.buffer_core.specs.Sides.{Sides}
use Rattle.buffer_stages.specs.Actions.{Action, Refuses, first_rule}
use Rattle.buffer_stages.specs.Performing.{cut_with, IsPerformed, Performs}
use Rattle.buffer_stages.proofs.Lemmas.Performed.{ArePassed, passed_next, passed_done}

-- with what a subtable is applied, and the state from which it draws, may be told otherwise
performs_at : {R A : Type 0} (act : R → A → Action) (x : R) (a b : A) (r q after : ℕ) (result : Result Bool ShapeCause) (old new : Sides) → a ≡ b → r ≡ q → Performs (act x a (cut_with r old)) result r after old new → Performs (act x b (cut_with q old)) result q after old new
performs_at {A = A} act x a b r q after result old new e f d =
    let P : A → Type 0 = λ k. Performs (act x k (cut_with r old)) result r after old new in
    let Q : ℕ → Type 0 = λ n. Performs (act x b (cut_with n old)) result n after old new in
    subst Q f (subst P e d)

pub first_acts : {R A : Type 0} (act : R → A → Action) (all : List R) (k : ℕ) (x : R) (a b : A) (r q after : ℕ) (acted : Bool) (start now final : Sides) → k < length all → x ≡ get_or all k x → ArePassed (λ s. act s b) all (drop k all) q start now → a ≡ b → r ≡ q → acted ≡ true
    → IsPerformed (act x a (cut_with r now)) acted r after now final → IsPerformed (first_rule (λ s. act s b) all (cut_with q start)) true q after start final
first_acts act all k x a b r q after acted start now final lt at t e f done d =
    let P : Bool → Type 0 = λ p. IsPerformed (act x a (cut_with r now)) p r after now final in
    let there = performs_at act x a b r q after (Ok true) now final e f (subst P done d) in
    passed_done (λ s. act s b) all k x q after (Ok true) start now final lt at t (λ h. cc) there

pub first_refuses : {R A : Type 0} (act : R → A → Action) (all : List R) (k : ℕ) (x : R) (a b : A) (r q after : ℕ) (cause : ShapeCause) (start now final : Sides) → k < length all → x ≡ get_or all k x → ArePassed (λ s. act s b) all (drop k all) q start now → a ≡ b → r ≡ q
    → (cause ≢ OutOfMemory → act x a (cut_with r now) ≡ Refuses cause) → cause ≢ OutOfMemory → first_rule (λ s. act s b) all (cut_with q start) ≡ Refuses cause
first_refuses act all k x a b r q after cause start now final lt at t e f d =
    let there = performs_at act x a b r q after (Err cause) now final e f d in
    passed_done (λ s. act s b) all k x q after (Err cause) start now final lt at t (λ h. cc) there

pub first_passes : {R A : Type 0} (act : R → A → Action) (all : List R) (k : ℕ) (x : R) (a b : A) (r q after : ℕ) (acted : Bool) (start now next : Sides) → k < length all → x ≡ get_or all k x → ArePassed (λ s. act s b) all (drop k all) q start now → a ≡ b → r ≡ q → acted ≡ false
    → IsPerformed (act x a (cut_with r now)) acted r after now next → ArePassed (λ s. act s b) all (drop (k + 1) all) q start next × (after ≡ q)
first_passes act all k x a b r q after acted start now next lt at t e f none d =
    let P : Bool → Type 0 = λ p. IsPerformed (act x a (cut_with r now)) p r after now next in
    passed_next (λ s. act s b) all k x q after start now next lt at t (performs_at act x a b r q after (Ok false) now next e f (subst P none d))

-- Rules that pass.
use Rattle.std.specs.Prelude.{ℕ, ◌≡◌, ◌≤◌, ◌<◌, List, [], Some, slice_get}
use Rattle.buffer_stages.specs.Actions.{Action, Cut, Passes}

-- the rules from one up to another pass at a cut, and flag nothing
abbrev pub ArePassing : {R : Type 0} → (R → Action) → List R → ℕ → ℕ → Cut → Type 0
ArePassing {R} act rules from next c = (k : ℕ) (x : R) → from ≤ k → k < next → slice_get rules k ≡ Some x → act x c ≡ Passes []

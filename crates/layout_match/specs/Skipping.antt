-- Lookups that need not be tried, at a glyph or at all.
use Rattle.std.specs.Prelude.{ℕ, ◌≡◌, ◌==◌, Bool, true, List, [], ◌∷◌}
use Rattle.std.specs.List.{list_any}
use Rattle.buffer_glyphs.specs.Items.{Item}
use Rattle.buffer_stages.specs.Actions.{Action, Cut, Passes}
use Rattle.buffer_stages.specs.Masks.{shares_mask}

-- a rule passes, and flags nothing, wherever a list is cut before an item
abbrev pub PassesAt : Action → Item → Type 0
PassesAt act x = (c : Cut) (rest : List Item) → c.rest ≡ x ∷ rest → act c ≡ Passes []

-- a rule passes so at each of some items
abbrev pub PassesAll : Action → List Item → Type 0
PassesAll act [] = Unit
PassesAll act (x ∷ xs) = PassesAt act x × PassesAll act xs

-- a set of glyphs, which may have more, has the glyph of each item
abbrev pub HoldsNumbers : (ℕ → Bool) → List Item → Type 0
HoldsNumbers has xs = (n : ℕ) → list_any (λ (x : Item). x.number == n) xs ≡ true → has n ≡ true

-- what is known of a text: a set that has its glyphs, and the masks with which one of them may share a bit; both may
-- have more
pub record TextSets : Type 0 where
  pub has : ℕ → Bool
  pub shares : ℕ → Bool

-- the masks have each with which an item shares a bit
abbrev pub HoldsMasks : (ℕ → Bool) → List Item → Type 0
HoldsMasks shares xs = (mask : ℕ) → list_any (λ (x : Item). shares_mask mask x.mask) xs ≡ true → shares mask ≡ true

-- what is known of a text is true of these items
abbrev pub HoldsText : TextSets → List Item → Type 0
HoldsText t xs = HoldsNumbers t.has xs × HoldsMasks t.shares xs

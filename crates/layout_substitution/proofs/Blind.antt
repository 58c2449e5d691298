-- Rules to which the random state is nothing.
use Rattle.std.proofs.Common.{ℕ, ◌≡◌, List, [], ◌∷◌, refl, ap, ◌∙◌}
use Rattle.std.specs.Prelude.{Option, Some, None}
use Rattle.buffer_glyphs.specs.Items.{Item}
use Rattle.buffer_glyphs.specs.Events.{Event}
use Rattle.buffer_stages.specs.Actions.{Cut, Outcome, Passes, Acts, Refuses, Action, later, or_else, first_rule, at_first}

-- a cut with another state
abbrev pub drawing : ℕ → Cut → Cut
drawing r c = record c { random = r }

-- an outcome that leaves another state
abbrev pub leaving : ℕ → Outcome → Outcome
leaving r (Passes es) = Passes es
leaving r (Acts cut es) = Acts (drawing r cut) es
leaving r (Refuses cause) = Refuses cause

-- a rule that takes no notice of the state
abbrev pub IsBlind : Action → Type 0
IsBlind act = (r : ℕ) (c : Cut) → act (drawing r c) ≡ leaving r (act c)

leaving_later : (r : ℕ) (es : List Event) (o : Outcome) → later es (leaving r o) ≡ leaving r (later es o)
leaving_later r es (Passes fs) = refl
leaving_later r es (Acts cut fs) = refl
leaving_later r es (Refuses cause) = refl

leaving_or : (r : ℕ) (o p : Outcome) → or_else (leaving r o) (leaving r p) ≡ leaving r (or_else o p)
leaving_or r (Passes es) p = leaving_later r es p
leaving_or r (Acts cut es) p = refl
leaving_or r (Refuses cause) p = refl

pub first_blind : {R : Type 0} (act : R → Action) (rules : List R) → ((x : R) → IsBlind (act x)) → IsBlind (λ c. first_rule act rules c)
first_blind act [] blind r c = refl
first_blind act (x ∷ rules) blind r c =
    ap (λ o. or_else o (first_rule act rules (drawing r c))) (blind x r c) ∙ ap (or_else (leaving r (act x c))) (first_blind act rules blind r c)
    ∙ leaving_or r (act x c) (first_rule act rules c)

pub at_first_blind : (act : Item → Action) (o : Option Item) → ((x : Item) → IsBlind (act x)) → IsBlind (λ c. at_first act o c)
at_first_blind act None blind r c = refl
at_first_blind act (Some x) blind r c = blind x r c

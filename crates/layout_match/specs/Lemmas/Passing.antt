-- Where rules pass.
use Rattle.std.proofs.Common.{◌≡◌, Bool, false, List, [], ◌∷◌, refl, ap, ◌∙◌}
use Rattle.std.specs.List.{list_any}
use Rattle.std.proofs.lemmas.Bool.{or_parts}
use Rattle.buffer_glyphs.specs.Items.{Item}
use Rattle.buffer_glyphs.specs.Parts.{first_of}
use Rattle.buffer_stages.specs.Actions.{Action, Cut, Passes, at_first, first_rule, later, or_else}
use Rattle.layout_match.specs.Skipping.{PassesAt}

-- a rule for the item at the cut passes where it does so for this item
pub passes_at_item : (act : Item → Action) (x : Item) → ((c : Cut) → act x c ≡ Passes []) → PassesAt (λ c. at_first act (first_of c.rest) c) x
passes_at_item act x passes c rest e = ap (λ xs. at_first act (first_of xs) c) e ∙ passes c

-- the first of some rules passes where none of them covers the item
pub first_passes : {R : Type 0} (act : R → Action) (covers : R → Bool) (rules : List R) (x : Item) → ((r : R) → covers r ≡ false → PassesAt (act r) x) → list_any covers rules ≡ false → PassesAt (first_rule act rules) x
first_passes act covers [] x passes none c rest e = refl
first_passes act covers (r ∷ rules) x passes none c rest e =
    let parts = or_parts (covers r) (list_any covers rules) none in
    ap (λ o. or_else o (first_rule act rules c)) (passes r parts.0 c rest e) ∙ ap (later []) (first_passes act covers rules x passes parts.1 c rest e)

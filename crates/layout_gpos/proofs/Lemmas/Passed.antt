-- Rules that passed on a buffer without an output.
use Rattle.std.proofs.Common.{ℕ, ◌≡◌, Bool, false, List, subst, ◌∙◌}
use Rattle.buffer_core.specs.Sides.{Sides}
use Rattle.buffer_stages.specs.Actions.{Outcome, Passes, Acts, Refuses, Action}
use Rattle.buffer_stages.specs.Performing.{cut_with, IsPerformed}
use Rattle.buffer_stages.proofs.Lemmas.Frames.{still_open}
use Rattle.buffer_stages.proofs.Lemmas.Performed.{ArePassed}

pub passed_closed : {R : Type 0} (act : R → Action) (all left : List R) (r : ℕ) (start now : Sides) → ArePassed act all left r start now → start.is_open ≡ false → now.is_open ≡ false
passed_closed act all left r start now t e = still_open start now t.still ∙ e

closed_by : (before after : ℕ) (s mid : Sides) (o : Outcome) → IsPerformed o false before after s mid → s.is_open ≡ false → mid.is_open ≡ false
closed_by before after s mid (Passes es) d e = still_open s mid d.2.still ∙ e
closed_by before after s mid (Acts cut es) d e = cc
closed_by before after s mid (Refuses cause) d e = absurd d

pub closed_there : (act : Action) (before after : ℕ) (acted : Bool) (s mid : Sides) → acted ≡ false → s.is_open ≡ false → IsPerformed (act (cut_with before s)) acted before after s mid → mid.is_open ≡ false
closed_there act before after acted s mid fails e d =
    let P : Bool → Type 0 = λ b. IsPerformed (act (cut_with before s)) b before after s mid in
    closed_by before after s mid (act (cut_with before s)) (subst P fails d) e

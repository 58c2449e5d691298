-- Selections of a line.
use Rattle.std.specs.Prelude.{ℕ, ◌≡◌, Bool, true, false, nat_lt, if◌then◌else◌, Option, Some, None}
use Rattle.caret_model.specs.declared.carets.Caret.{Caret}
use Rattle.caret_model.specs.declared.carets.Selection.{Selection}
use Rattle.caret_model.specs.Lines.{Line}
use Rattle.caret_model.specs.Moves.{caret_at}

-- the selection from one caret of the text to a later one, which on a backward line is to the left of it
abbrev pub selection_between : Bool → Caret → Caret → Selection
selection_between false c d = record { start = c.position; end = d.position }
selection_between true c d = record { start = d.position; end = c.position }

-- the selection between two carets, if there are both
abbrev pub selection_by : Bool → Option Caret → Option Caret → Option Selection
selection_by backward (Some c) (Some d) = Some (selection_between backward c d)
selection_by backward (Some c) None = None
selection_by backward None d = None

-- the selection of the bytes from one to another one, where carets may stand at both and the first isn't after the other
abbrev pub selection_of : Line → ℕ → ℕ → Option Selection
selection_of l from to = if nat_lt to from then None else selection_by l.backward (caret_at l.carets from) (caret_at l.carets to)

-- two selections side by side as one; of a backward line the second is to the left of the first
abbrev pub selections_joined : Bool → Selection → Selection → Selection
selections_joined false s t = record { start = s.start; end = t.end }
selections_joined true s t = record { start = t.start; end = s.end }

-- two selections are side by side
abbrev pub AreSideBySide : Bool → Selection → Selection → Type 0
AreSideBySide false s t = s.end ≡ t.start
AreSideBySide true s t = t.end ≡ s.start

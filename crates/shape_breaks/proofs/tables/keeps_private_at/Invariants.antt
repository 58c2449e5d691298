use Rattle.std.proofs.Common.{ℕ, ◌<◌}
use Rattle.buffer_unicode_tables.specs.Tables.{thai_of}
use Rattle.shape_laws.specs.Breaks.ThaiCharacters.{PrivateKeepsMarks}
use Rattle.shape_breaks.proofs.tables.keeps_private_at.Given as goal

-- the private forms by each action below the number are kept
abbrev pub invariant-loop-action : goal.invariant-loop-action
invariant-loop-action l = (action : ℕ) → action < l.action → PrivateKeepsMarks l.u (thai_of l.tables l.u action)

use Rattle.std.proofs.Common.{◌≡◌, ◌≤◌, ℕ, length}
use Rattle.json.specs.Json.{members, value}
use Rattle.serde_json.specs.Data.{Members, no_members}
use Rattle.serde_json.specs.Read.{of_members, converted}
use Rattle.shell_json.proofs.members.take_members.Given as goal

-- the members that were passed, and those that are left, are those of the object
abbrev pub invariant-members : goal.invariant-members
invariant-members g l =
    (n : ℕ) × (length l.reader ≤ n) × (length l.reader ≤ length l.initial.reader)
    × (g.T.MemberTaker.holds l.taker no_members l.initial.found
    → (passed : Members)
    × (converted (λ js. of_members js no_members) (members (value l.depth) (length l.initial.reader) l.initial.reader) ≡ converted (λ js. of_members js passed) (members (value l.depth) n l.reader))
    × g.T.MemberTaker.holds l.taker passed l.found)

abbrev pub decreases-members : goal.decreases-members
decreases-members g l = length l.reader

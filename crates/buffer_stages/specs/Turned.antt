-- Groups put in front of others one by one.
use Rattle.std.specs.Prelude.{Bool, if◌then◌else◌, List, [], ◌∷◌, ◌++◌}

-- groups that begin with what a test picks, each in front of those before it: the group that stands in front, and what is after it
abbrev pub leading_turned : {X : Type 0} → (X → Bool) → List X → List X → List X → List X
leading_turned begins [] group done = group ++ done
leading_turned begins (x ∷ xs) group done = if begins x then leading_turned begins xs (x ∷ []) (group ++ done) else leading_turned begins xs (group ++ x ∷ []) done

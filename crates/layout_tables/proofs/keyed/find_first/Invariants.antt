use Rattle.std.proofs.Common.{◌≡◌, ◌==◌, find, drop}
use Rattle.layout_tables.specs.Choice.{first_found}
use Rattle.layout_tables.proofs.keyed.find_first.Given as goal

-- no tag so far has a record
abbrev pub invariant-loop-tag : goal.invariant-loop-tag
invariant-loop-tag g l =
    first_found (λ tag. find (λ r. g.R.Keyed.key_of r == tag.0) l.records) l.tags ≡ first_found (λ tag. find (λ r. g.R.Keyed.key_of r == tag.0) l.records) (drop l.tag-index l.tags)

use Rattle.std.proofs.Common.{◌≡◌, drop, map}
use Rattle.shell_words.specs.Words.{after, features_in}
use Rattle.shell_words.proofs.options.read_values.Given as goal

-- the features so far, and those of what is left
abbrev pub invariant-loop-value : goal.invariant-loop-value
invariant-loop-value l = features_in (map (λ t. t.now) l.values)
    ≡ after l.features.items (features_in (map (λ t. t.now) (drop l.value-index l.values)))

use Rattle.std.proofs.Common.{◌≡◌, drop, map}
use Rattle.shell_words.specs.Words.{after, features_of}
use Rattle.shell_words.proofs.options.add_features.Given as goal

-- the features so far, and those of what is left
abbrev pub invariant-loop-part : goal.invariant-loop-part
invariant-loop-part l = after l.initial.features.items (features_of (map (λ t. t.now) l.part-items))
    ≡ after l.features.items (features_of (map (λ t. t.now) (drop l.part-index l.part-items)))

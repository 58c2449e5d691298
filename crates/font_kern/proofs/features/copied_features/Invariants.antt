use Rattle.std.proofs.Common.{◌≡◌, take}
use Rattle.font_kern.proofs.features.copied_features.Given as goal

-- the copies so far are the first features
abbrev pub invariant-loop-feature : goal.invariant-loop-feature
invariant-loop-feature l = l.copies.items ≡ take l.feature-index l.features

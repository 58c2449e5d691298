-- A set by several kinds of buckets.
use Rattle.std.proofs.Common.{◌≡◌, Bool, ◌&&◌, ap, ◌∙◌}

pub both_alike : {a b c d : Bool} → a ≡ c → b ≡ d → (a && b) ≡ (c && d)
both_alike {a} {b} {c} {d} e f = ap (λ t. t && b) e ∙ ap (λ t. c && t) f

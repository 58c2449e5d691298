-- Texts that grow by pieces.
use Rattle.std.proofs.Common.{◌≡◌, ℕ, List, ◌++◌, append_assoc}

-- a text that grew by a and then by b
pub appended_two : (old mid new a b : List ℕ) → mid ≡ old ++ a → new ≡ mid ++ b → new ≡ old ++ (a ++ b)
appended_two old mid new a b first second = rw (second, first, append_assoc)

-- a text that grew by five pieces
pub appended_five : (s₀ s₁ s₂ s₃ s₄ s₅ a b c d e : List ℕ)
    → s₁ ≡ s₀ ++ a → s₂ ≡ s₁ ++ b → s₃ ≡ s₂ ++ c → s₄ ≡ s₃ ++ d → s₅ ≡ s₄ ++ e
    → s₅ ≡ s₀ ++ (a ++ (b ++ (c ++ (d ++ e))))
appended_five s₀ s₁ s₂ s₃ s₄ s₅ a b c d e e₁ e₂ e₃ e₄ e₅ =
    appended_two s₀ s₁ s₅ a _ e₁ (appended_two s₁ s₂ s₅ b _ e₂ (appended_two s₂ s₃ s₅ c _ e₃ (appended_two s₃ s₄ s₅ d e e₄ e₅)))

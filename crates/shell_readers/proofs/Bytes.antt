-- Whether bytes are UTF-8.
use Rattle.std.proofs.Common.{ℕ, ◌≡◌, Bool, true, false, List, refl, ◌⊎◌, inl, inr}
use Rattle.std.specs.Str.{IsUtf8, is_utf8}
use Rattle.std.proofs.lemmas.Str.{is_utf8-from_IsUtf8, IsUtf8-from_is_utf8}
use Rattle.buffer_facts.proofs.Truth.{true_or_false as either}

pub is_text : (bs : List ℕ) → IsUtf8 bs → is_utf8 bs ≡ true
is_text bs h = is_utf8-from_IsUtf8 bs h

pub is_no_text : (bs : List ℕ) → ¬ IsUtf8 bs → is_utf8 bs ≡ false
is_no_text bs h = elim (either (is_utf8 bs)) [ inl e ↦ absurd (h (IsUtf8-from_is_utf8 bs e)) | inr e ↦ e ]

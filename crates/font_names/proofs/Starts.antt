-- Where strings begin, string by string.
use Rattle.std.proofs.Common.{◌≡◌, ◌≢◌, ℕ, zero, suc, ◌+◌, ◌-◌, ◌<◌, ◌≤◌, true, false, List, [], ◌∷◌, ◌++◌, refl, sym, ap, append_assoc, ◌∙◌, arith}
use Rattle.std.proofs.lemmas.List.{append-nil}
use Rattle.font_bytes.specs.Words.{byte}
use Rattle.font_names.specs.Strings.{has_string, string_starts}

starts_step : (bytes : List ℕ) (at count : ℕ) → count ≢ 0 → has_string bytes at ≡ true → string_starts bytes at count ≡ at ∷ string_starts bytes (at + 1 + byte bytes at) (count - 1)
unfolding string_starts
starts_step bytes at zero some has = absurd (some refl)
starts_step bytes at (suc count) some has = let e : suc count - 1 ≡ count = omega arith in rw (e, has) refl

-- one more string, and those after it
pub starts_more : (bytes : List ℕ) (at count index : ℕ) → index < count → has_string bytes at ≡ true
    → string_starts bytes at (count - index) ≡ at ∷ string_starts bytes (at + 1 + byte bytes at) (count - (index + 1))
starts_more bytes at count index inside has =
    let some : count - index ≢ 0 = omega arith in
    let left : count - index - 1 ≡ count - (index + 1) = omega arith in
    rw left at (starts_step bytes at (count - index) some has)

-- a string that doesn't end within the bytes
pub starts_none : (bytes : List ℕ) (at count : ℕ) → has_string bytes at ≡ false → string_starts bytes at count ≡ []
unfolding string_starts
starts_none bytes at zero none = refl
starts_none bytes at (suc count) none = rw none refl

-- no string is left
pub starts_end : (bytes : List ℕ) (at count index : ℕ) → count ≤ index → string_starts bytes at (count - index) ≡ []
unfolding string_starts
starts_end bytes at count index past = let e : count - index ≡ 0 = omega arith in rw e refl

-- all strings are done
pub starts_done : (bytes done all : List ℕ) (at count index : ℕ) → count ≤ index → done ++ string_starts bytes at (count - index) ≡ all → done ≡ all
starts_done bytes done all at count index past h = sym (append-nil done) ∙ rw (starts_end bytes at count index past) at h

-- no more string is there
pub starts_stop : (bytes done all : List ℕ) (at count : ℕ) → has_string bytes at ≡ false → done ++ string_starts bytes at count ≡ all → done ≡ all
starts_stop bytes done all at count none h = sym (append-nil done) ∙ rw (starts_none bytes at count none) at h

-- one more string is done
pub starts_pushed : (bytes done all : List ℕ) (at count index : ℕ) → index < count → has_string bytes at ≡ true → done ++ string_starts bytes at (count - index) ≡ all
    → (done ++ at ∷ []) ++ string_starts bytes (at + 1 + byte bytes at) (count - (index + 1)) ≡ all
starts_pushed bytes done all at count index inside has h = append_assoc done (at ∷ []) _ ∙ (ap (λ xs. done ++ xs) (sym (starts_more bytes at count index inside has)) ∙ h)

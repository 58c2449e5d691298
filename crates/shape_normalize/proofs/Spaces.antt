-- What is no character is no space.
use Rattle.std.proofs.Common.{ℕ, ◌≡◌, ◌<◌, ◌≤◌, ◌==◌, true, nat_lt, List, [], ◌∷◌, refl, ap, ◌∙◌, arith, ne_eqb, inl, inr, None}
use Rattle.std.specs.Prelude.{find}
use Rattle.std.specs.List.{list_all}
use Rattle.std.specs.Option.{option_map_or}
use Rattle.std.specs.Char.{IsScalar}
use Rattle.std.proofs.lemmas.Bool.{and_parts, cases_lt, cond-false}
use Rattle.std.proofs.lemmas.Bool.Decides.{nat_tests}
use Rattle.buffer_unicode.specs.Character.{space_types, space_fallback_of}
use Rattle.buffer_unicode.specs.declared.space.TheConstants.{NOT_SPACE}

none_found : (rows : List (ℕ × ℕ)) (u : ℕ) → list_all (λ (row : ℕ × ℕ). nat_lt row.0 0xD800) rows ≡ true → 0xD800 ≤ u → find (λ (row : ℕ × ℕ). row.0 == u) rows ≡ None
none_found [] u all le = refl
none_found (row ∷ rows) u all le =
    let both = and_parts (nat_lt row.0 0xD800) (list_all (λ (r : ℕ × ℕ). nat_lt r.0 0xD800) rows) all in
    let below : row.0 < 0xD800 = grind (arith, nat_tests, both.0) in
    cond-false _ _ _ (ne_eqb row.0 u (λ e. absurd (omega (arith, below, le, e)))) ∙ none_found rows u both.1 le

pub no_character : (u : ℕ) → (IsScalar u → ⊥) → space_fallback_of u ≡ NOT_SPACE
no_character u none =
    elim (cases_lt u 0xD800) [
      | inl below ↦ absurd (none (grind (arith, nat_tests, below)))
      | inr above ↦ ap (λ o. option_map_or (λ (row : ℕ × ℕ). row.1) o NOT_SPACE) (none_found space_types u refl above)
    ]

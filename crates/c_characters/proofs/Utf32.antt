-- Characters of UTF-32, and those that have their clusters' numbers after them.
use Rattle.std.proofs.Common.{ℕ, ◌≡◌, ◌+◌, List, [], ◌∷◌, sym, ap, ◌∙◌}
use Rattle.c_characters.specs.Characters.{clustered_characters, scalar_or_replacement, utf32_from}
use Rattle.c_characters.specs.Units.{units_32}

pub no_characters : (at : ℕ) (bytes : List ℕ) → units_32 bytes ≡ [] → utf32_from at (units_32 bytes) ≡ []
no_characters at bytes none = ap (utf32_from at) none

pub character_step : (at u c : ℕ) (bytes rest : List ℕ) → units_32 bytes ≡ u ∷ units_32 rest → c ≡ scalar_or_replacement u
    → utf32_from at (units_32 bytes) ≡ (record { character = c; cluster = at }) ∷ utf32_from (at + 1) (units_32 rest)
character_step at u c bytes rest first is = ap (utf32_from at) first ∙ ap (λ x. (record { character = x; cluster = at }) ∷ utf32_from (at + 1) (units_32 rest)) (sym is)

pub no_pairs : (bytes : List ℕ) → units_32 bytes ≡ [] → clustered_characters (units_32 bytes) ≡ []
no_pairs bytes none = ap clustered_characters none

pub half_a_pair : (u : ℕ) (bytes after : List ℕ) → units_32 bytes ≡ u ∷ units_32 after → units_32 after ≡ [] → clustered_characters (units_32 bytes) ≡ []
half_a_pair u bytes after first none = ap clustered_characters (first ∙ ap (λ us. u ∷ us) none)

pub clustered_step : (u k c : ℕ) (bytes after rest : List ℕ) → units_32 bytes ≡ u ∷ units_32 after → units_32 after ≡ k ∷ units_32 rest → c ≡ scalar_or_replacement u
    → clustered_characters (units_32 bytes) ≡ (record { character = c; cluster = k }) ∷ clustered_characters (units_32 rest)
clustered_step u k c bytes after rest first second is =
    ap clustered_characters (first ∙ ap (λ us. u ∷ us) second) ∙ ap (λ x. (record { character = x; cluster = k }) ∷ clustered_characters (units_32 rest)) (sym is)

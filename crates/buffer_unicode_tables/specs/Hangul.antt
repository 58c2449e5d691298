-- Hangul syllables compose and decompose by arithmetic (The Unicode Standard, section 3.12).
use Rattle.std.specs.Prelude.{ℕ, ◌+◌, ◌-◌, ◌*◌, ◌/◌, ◌%◌, Bool, ◌&&◌, ◌==◌, nat_le, nat_lt, ◌≡◌, ◌↔◌, Option, Some, None, if◌then◌else◌}
use Rattle.buffer_unicode_tables.specs.declared.hangul.TheConstants.{S_BASE, L_BASE, V_BASE, T_BASE, L_COUNT, V_COUNT, T_COUNT, N_COUNT, S_COUNT}

-- whether a code point is one of the `count` from `base` on
abbrev pub is_among : ℕ → ℕ → ℕ → Bool
is_among base count c = nat_le base c && nat_lt c (base + count)

-- whether a code point is a Hangul syllable
abbrev pub is_syllable : ℕ → Bool
is_syllable = is_among S_BASE S_COUNT

-- whether a code point is a trailing consonant; T_BASE itself means that there is none
abbrev pub is_trailing_consonant : ℕ → Bool
is_trailing_consonant = is_among (T_BASE + 1) (T_COUNT - 1)

-- the two halves of a syllable: the syllable without its trailing consonant and that consonant, or a leading consonant
-- and a vowel
unfoldable pub hangul_split : ℕ → Option (ℕ × ℕ)
hangul_split s =
    let index = s - S_BASE in
    let trailing = index % T_COUNT in
    let pieces = if trailing == 0 then (L_BASE + index / N_COUNT, V_BASE + index % N_COUNT / T_COUNT) else (s - trailing, T_BASE + trailing) in
    if is_syllable s then Some pieces else None

-- the syllable of a leading consonant and a vowel, or of a syllable without a trailing consonant and such a consonant
unfoldable pub hangul_pair : ℕ → ℕ → Option ℕ
hangul_pair a b =
    if is_among L_BASE L_COUNT a && is_among V_BASE V_COUNT b then Some (S_BASE + ((a - L_BASE) * N_COUNT + (b - V_BASE) * T_COUNT))
    else if (is_syllable a && (a - S_BASE) % T_COUNT == 0) && is_trailing_consonant b then Some (a + (b - T_BASE))
    else None

-- a syllable is the composite of exactly the two halves of its decomposition
abbrev pub HangulPairsAreSplits : Type 0
HangulPairsAreSplits = (a b s : ℕ) → (hangul_pair a b ≡ Some s) ↔ (hangul_split s ≡ Some (a, b))

-- Constants with their values.
use Rattle.std.specs.Prelude.{◌≡◌, ◌^◌, ℕ, List, [], ◌∷◌, All}
use Rattle.buffer_common.specs.declared.constants.TheConstants as constants

-- each constant has the number listed with it
abbrev pub AreAsListed : List (ℕ × ℕ) → Type 0
AreAsListed rows = All (λ row. row.0 ≡ row.1) rows

-- Unicode's combining classes (UAX 44), permuted to an order of combining marks that fonts expect
abbrev pub combining_classes : List (ℕ × ℕ)
combining_classes =
    (constants.CCC10, 22) ∷
    (constants.CCC11, 15) ∷
    (constants.CCC12, 16) ∷
    (constants.CCC13, 17) ∷
    (constants.CCC14, 23) ∷
    (constants.CCC15, 18) ∷
    (constants.CCC16, 19) ∷
    (constants.CCC17, 20) ∷
    (constants.CCC18, 21) ∷
    (constants.CCC19, 14) ∷
    (constants.CCC20, 24) ∷
    (constants.CCC21, 12) ∷
    (constants.CCC22, 25) ∷
    (constants.CCC23, 13) ∷
    (constants.CCC24, 10) ∷
    (constants.CCC25, 11) ∷
    (constants.CCC26, 26) ∷
    (constants.CCC27, 28) ∷
    (constants.CCC28, 29) ∷
    (constants.CCC29, 30) ∷
    (constants.CCC30, 31) ∷
    (constants.CCC31, 32) ∷
    (constants.CCC32, 33) ∷
    (constants.CCC33, 27) ∷
    (constants.CCC34, 34) ∷
    (constants.CCC35, 35) ∷
    (constants.CCC36, 36) ∷
    (constants.CCC84, 0) ∷
    (constants.CCC91, 0) ∷
    (constants.CCC103, 3) ∷
    (constants.CCC107, 107) ∷
    (constants.CCC118, 118) ∷
    (constants.CCC122, 122) ∷
    (constants.CCC129, 129) ∷
    (constants.CCC130, 132) ∷
    (constants.CCC132, 131) ∷
    []

-- each modified combining class has its number
abbrev pub CombiningClassesAreListed : Type 0
CombiningClassesAreListed = AreAsListed combining_classes

-- the scratch flags with their numbers
abbrev pub scratch_flags : List (ℕ × ℕ)
scratch_flags =
    (constants.HB_BUFFER_SCRATCH_FLAG_DEFAULT, 0) ∷
    (constants.HB_BUFFER_SCRATCH_FLAG_HAS_NON_ASCII, 2 ^ 0) ∷
    (constants.HB_BUFFER_SCRATCH_FLAG_HAS_DEFAULT_IGNORABLES, 2 ^ 1) ∷
    (constants.HB_BUFFER_SCRATCH_FLAG_HAS_SPACE_FALLBACK, 2 ^ 2) ∷
    (constants.HB_BUFFER_SCRATCH_FLAG_HAS_GPOS_ATTACHMENT, 2 ^ 3) ∷
    (constants.HB_BUFFER_SCRATCH_FLAG_HAS_CGJ, 2 ^ 4) ∷
    (constants.HB_BUFFER_SCRATCH_FLAG_HAS_GLYPH_FLAGS, 2 ^ 5) ∷
    (constants.HB_BUFFER_SCRATCH_FLAG_HAS_BROKEN_SYLLABLE, 2 ^ 6) ∷
    (constants.HB_BUFFER_SCRATCH_FLAG_HAS_VARIATION_SELECTOR_FALLBACK, 2 ^ 7) ∷
    (constants.HB_BUFFER_SCRATCH_FLAG_SHAPER0, 2 ^ 24) ∷
    []

-- each scratch flag has its number
abbrev pub ScratchFlagsAreListed : Type 0
ScratchFlagsAreListed = AreAsListed scratch_flags

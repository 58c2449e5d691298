-- Characters split as far as a font has the pieces.
use Rattle.std.specs.Prelude.{ℕ, zero, suc, ◌==◌, ◌||◌, Bool, if◌then◌else◌, List, [], ◌∷◌, Option, Some, None, option_map}
use Rattle.std.specs.Option.{option_or}
use Rattle.buffer_unicode_tables.specs.Expansion.{Splits, with_second_piece}
pub use Rattle.buffer_properties.specs.declared.normal_mode.Reach.{Reach}
pub use Rattle.buffer_properties.specs.declared.normal_mode.Reach.TheVariants.{Least, Greatest}

-- a character as it is, where the font has it
abbrev pub alone : (ℕ → Bool) → ℕ → Option (List ℕ)
alone has u = if has u then Some (u ∷ []) else None

-- of a character whole and in pieces, the preferred one, else the other
abbrev pub preferred_expansion : Reach → Option (List ℕ) → Option (List ℕ) → Option (List ℕ)
preferred_expansion Least whole pieces = option_or whole pieces
preferred_expansion Greatest whole pieces = option_or pieces whole

-- a split is supported where the font has the second piece, or there is none, and the first piece is a character of the
-- font or is itself expanded
abbrev pub by_supported : (ℕ → Bool) → (ℕ → Option (List ℕ)) → Option (ℕ × ℕ) → Option (List ℕ)
by_supported has expand None = None
by_supported has expand (Some (a, b)) = if b == 0 || has b then option_map (with_second_piece b) (expand a) else None

-- the characters of the font that replace a character, with at most `depth` splits; None where there are none
unfoldable pub supported_expansion : Reach → (ℕ → Bool) → Splits → ℕ → ℕ → Option (List ℕ)
supported_expansion reach has splits zero u = alone has u
supported_expansion reach has splits (suc depth) u = preferred_expansion reach (alone has u) (by_supported has (supported_expansion reach has splits depth) (splits u))

-- the characters of a supported split, with at most nine splits
unfoldable pub in_pieces : Reach → (ℕ → Bool) → Splits → ℕ → Option (List ℕ)
in_pieces reach has splits u = by_supported has (supported_expansion reach has splits 8) (splits u)

-- the characters that replace a character; None where it stays whole
abbrev pub expansion : Reach → (ℕ → Bool) → Splits → ℕ → Option (List ℕ)
expansion Least has splits u = if has u then None else in_pieces Least has splits u
expansion Greatest has splits u = in_pieces Greatest has splits u

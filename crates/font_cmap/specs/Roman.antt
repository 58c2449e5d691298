-- The characters of the codes from 128 on of the character set Mac Roman (Apple, ROMAN.TXT).
use Rattle.std.specs.Prelude.{ℕ, List}
use Rattle.font_cmap.specs.declared.roman.TheConstants.{UPPER}

-- each character with its code, by rising characters
unfoldable pub upper_codes : List (ℕ × ℕ)
upper_codes = UPPER

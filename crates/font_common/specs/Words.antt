-- Arrays of uint16.
use Rattle.std.specs.Prelude.{ℕ, List}
use Rattle.font_bytes.specs.Words.{word}
use Rattle.font_bytes.specs.Records.{records}

-- the numbers of an array at an offset, of which there are n
abbrev pub words_at : List ℕ → ℕ → ℕ → List ℕ
words_at table at count = records (word table) 2 at count

-- Languages by their tags.
use Rattle.std.specs.Prelude.{ℕ, List}
use Rattle.std.specs.String.{string_bytes}
use Rattle.buffer_common.specs.declared.language.Language.{Language}

-- the BCP 47 tag of a language
abbrev pub language_text : Language → List ℕ
language_text language = string_bytes language.0

-- Rows of characters that stay true, and what they say of a character.
use Rattle.std.proofs.Common.{ℕ, ◌≡◌, ◌<◌, List, length, get_or, set, replicate, sym, ap, ◌∙◌}
use Rattle.std.proofs.lemmas.List.Elements.{All-get_or, All-replicate, All-set}
use Rattle.buffer_unicode_tables.specs.Tables.{Tables}
use Rattle.shape_text.specs.declared.known_characters.KnownCharacter.{KnownCharacter}
use Rattle.shape_text.specs.KnownCharacters.{AreKnown, IsKnown, known_character}

-- a row that is made for a character
made_known : (t : Tables) (u : ℕ) (row : KnownCharacter) → row ≡ known_character t u → IsKnown t row
made_known t u row e = e ∙ ap (λ (r : KnownCharacter). known_character t r.character) (sym e)

pub all_known : (t : Tables) (n u : ℕ) (row : KnownCharacter) → row ≡ known_character t u → AreKnown t (replicate n row)
all_known t n u row e = record { each = All-replicate (IsKnown t) n row (made_known t u row e) }

pub row_known : (t : Tables) (i u : ℕ) (rows : List KnownCharacter) (d : KnownCharacter) → i < length rows → AreKnown t rows → (get_or rows i d).character ≡ u → get_or rows i d ≡ known_character t u
row_known t i u rows d lt h e = All-get_or (IsKnown t) rows i d lt h.each ∙ ap (known_character t) e

pub row_made : (t : Tables) (i u : ℕ) (rows : List KnownCharacter) (row : KnownCharacter) → AreKnown t rows → row ≡ known_character t u → AreKnown t (set rows i row)
row_made t i u rows row h e = record { each = All-set (IsKnown t) rows i row (made_known t u row e) h.each }

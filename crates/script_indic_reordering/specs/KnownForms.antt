-- The forms of consonants that a font was asked for.
use Rattle.std.specs.Prelude.{ℕ, ◌≡◌, if◌then◌else◌, List, [], ◌∷◌, Option, None, Some, ⊤}
use Rattle.script_categories.specs.declared.ot_position_t.TheConstants as position
use Rattle.script_indic_reordering.specs.declared.consonants.KnownForm.{KnownForm}
use Rattle.script_indic_reordering.specs.Base.{Forms}
use Rattle.script_indic_reordering.specs.Orders.{forms_with}

-- the position of the form of a consonant with a virama: below the base or after it, None where the font has neither form
abbrev pub formed_position : Forms → ℕ → ℕ → Option ℕ
formed_position forms virama n =
    if forms_with forms.below virama n then Some position.POS_BELOW_C else if forms_with forms.post virama n then Some position.POS_POST_C else None

-- a row has the position of the form of its glyph, if it has a glyph
abbrev pub IsKnown : Forms → ℕ → KnownForm → Type 0
IsKnown forms virama row = (n : ℕ) → row.glyph ≡ Some n → row.position ≡ formed_position forms virama n

-- each row has the position of the form of its glyph
abbrev pub AreKnown : Forms → ℕ → List KnownForm → Type 0
AreKnown forms virama [] = ⊤
AreKnown forms virama (row ∷ rows) = IsKnown forms virama row × AreKnown forms virama rows

-- What a client sets in a handle's font.
use Rattle.std.proofs.Common.{ℕ, ◌≡◌, ◌≢◌, List, sym, ap, subst, ◌∙◌}
use Rattle.std.specs.Prelude.{Option, Some, IfSome}
use Rattle.c_text.specs.declared.types.kus_character_glyph_t.{kus_character_glyph_t}
use Rattle.c_text.specs.declared.types.kus_glyph_advance_t.{kus_glyph_advance_t}
use Rattle.c_text.specs.Advances.{advances_refusal}
use Rattle.c_text.specs.CharacterGlyphs.{glyphs_refusal}
use Rattle.c_text.specs.Fonts.{AreSetAtFrontIn, KeptFont, advances_refusal_in, font_with_advances, font_with_glyphs, glyphs_refusal_in}

-- what is set in the font is set in the handle
pub advances_set : (font new : Option KeptFont) (f g : KeptFont) (given : List kus_glyph_advance_t) (status : ℕ) → font ≡ Some f → new ≡ Some g
    → (status ≡ 0 → (advances_refusal f.input.face given ≡ 0) × (g ≡ font_with_advances given f))
    → status ≡ 0 → (advances_refusal_in font given ≡ 0) × IfSome font (λ (k : KeptFont). new ≡ Some (font_with_advances given k))
advances_set font new f g given status there same set taken =
    let P : Option KeptFont → Type 0 = λ k. (advances_refusal_in k given ≡ 0) × IfSome k (λ (h : KeptFont). new ≡ Some (font_with_advances given h)) in
    subst P (sym there) ((set taken).0, same ∙ ap Some (set taken).1)

-- what the font refuses the handle refuses
pub advances_refused : (font : Option KeptFont) (f : KeptFont) (given : List kus_glyph_advance_t) (status : ℕ) → font ≡ Some f
    → (status ≢ 0 → status ≢ 26 → status ≡ advances_refusal f.input.face given) → status ≢ 0 → status ≢ 26 → status ≡ advances_refusal_in font given
advances_refused font f given status there refused some own = refused some own ∙ sym (ap (λ k. advances_refusal_in k given) there)

pub advances_shared : (font : Option KeptFont) (f : KeptFont) (given : List kus_glyph_advance_t) (status : ℕ) → font ≡ Some f
    → (status ≡ 26 → advances_refusal f.input.face given ≡ 0) → status ≡ 26 → advances_refusal_in font given ≡ 0
advances_shared font f given status there taken shared = ap (λ k. advances_refusal_in k given) there ∙ taken shared

-- ---- characters' glyphs

pub glyphs_set : (font new : Option KeptFont) (f g : KeptFont) (given : List kus_character_glyph_t) (status : ℕ) → font ≡ Some f → new ≡ Some g
    → (status ≡ 0 → (glyphs_refusal given ≡ 0) × (g ≡ font_with_glyphs given f))
    → status ≡ 0 → (glyphs_refusal_in font given ≡ 0) × IfSome font (λ (k : KeptFont). new ≡ Some (font_with_glyphs given k))
glyphs_set font new f g given status there same set taken =
    let P : Option KeptFont → Type 0 = λ k. (glyphs_refusal_in k given ≡ 0) × IfSome k (λ (h : KeptFont). new ≡ Some (font_with_glyphs given h)) in
    subst P (sym there) ((set taken).0, same ∙ ap Some (set taken).1)

pub glyphs_refused : (font : Option KeptFont) (f : KeptFont) (given : List kus_character_glyph_t) (status : ℕ) → font ≡ Some f
    → (status ≢ 0 → status ≢ 1 → status ≢ 26 → status ≡ glyphs_refusal given) → status ≢ 0 → status ≢ 1 → status ≢ 26 → status ≡ glyphs_refusal_in font given
glyphs_refused font f given status there refused some enough own = refused some enough own ∙ sym (ap (λ k. glyphs_refusal_in k given) there)

pub glyphs_shared : (font : Option KeptFont) (f : KeptFont) (given : List kus_character_glyph_t) (status : ℕ) → font ≡ Some f
    → (status ≡ 26 → glyphs_refusal given ≡ 0) → status ≡ 26 → glyphs_refusal_in font given ≡ 0
glyphs_shared font f given status there taken shared = ap (λ k. glyphs_refusal_in k given) there ∙ taken shared

pub glyphs_at_front : (font new : Option KeptFont) (f g : KeptFont) (given : List kus_character_glyph_t) (status : ℕ) → font ≡ Some f → new ≡ Some g
    → (status ≡ 1 → (glyphs_refusal given ≡ 0) × AreSetAtFrontIn given f (Some g))
    → status ≡ 1 → (glyphs_refusal_in font given ≡ 0) × IfSome font (λ (k : KeptFont). AreSetAtFrontIn given k new)
glyphs_at_front font new f g given status there same front short =
    let P : Option KeptFont → Type 0 = λ k. (glyphs_refusal_in k given ≡ 0) × IfSome k (λ (h : KeptFont). AreSetAtFrontIn given h new) in
    let Q : Option KeptFont → Type 0 = λ n. AreSetAtFrontIn given f n in
    subst P (sym there) ((front short).0, subst Q (sym same) (front short).1)

-- Rows of characters with their glyphs that stay true, and what they say of a character.
use Rattle.std.proofs.Common.{ℕ, ◌≡◌, ◌<◌, List, [], Option, Some, None, length, get_or, set, replicate, arith, sym, ap, ◌∙◌}
use Rattle.std.proofs.lemmas.List.Elements.{All-get_or, All-replicate, All-set}
use Rattle.buffer_properties.specs.Normalizer.{Normalizer}
use Rattle.shape_normalize.specs.declared.known_glyphs.KnownGlyph.{KnownGlyph}
use Rattle.shape_normalize.specs.KnownGlyphs.{HasGlyph, HaveGlyphs}

pub no_glyphs : (c : Normalizer) → HaveGlyphs c []
no_glyphs c = record { each = λ i d lt. absurd (omega (arith, lt)) }

pub first_glyphs : (c : Normalizer) (n : ℕ) → HaveGlyphs c (replicate n None)
first_glyphs c n = record { each = All-replicate (HasGlyph c) n None (λ k e. absurd (let bad = e in cc)) }

pub row_glyph : (c : Normalizer) (i u : ℕ) (rows : List (Option KnownGlyph)) (d : Option KnownGlyph) (known : KnownGlyph) → i < length rows → HaveGlyphs c rows → get_or rows i d ≡ Some known → known.character ≡ u → known.glyph ≡ c.glyph_of u
row_glyph c i u rows d known lt h there e = All-get_or (HasGlyph c) rows i d lt h.each known there ∙ ap c.glyph_of e

pub row_set : (c : Normalizer) (i u : ℕ) (rows : List (Option KnownGlyph)) (glyph : Option ℕ) → HaveGlyphs c rows → glyph ≡ c.glyph_of u → HaveGlyphs c (set rows i (Some (record { character = u; glyph = glyph })))
row_set c i u rows glyph h e = record { each = All-set (HasGlyph c) rows i (Some (record { character = u; glyph = glyph })) (λ k f. let same : k ≡ record { character = u; glyph = glyph } = cc in ap (λ (r : KnownGlyph). r.glyph) same ∙ e ∙ ap (λ (r : KnownGlyph). c.glyph_of r.character) (sym same)) h.each }

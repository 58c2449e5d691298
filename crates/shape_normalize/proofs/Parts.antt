-- The characters of a decomposition, appended to the output.
use Rattle.std.proofs.Common.{ℕ, ◌≡◌, ◌==◌, Bool, true, false, List, [], ◌∷◌, ◌++◌, Option, Some, None, refl, sym, ap, ◌∙◌, append_assoc}
use Rattle.std.specs.Prelude.{slice_get, option_map}
use Rattle.std.proofs.lemmas.List.{map-append}
use Rattle.buffer_glyphs.specs.declared.info.hb_glyph_info_t.{hb_glyph_info_t}
use Rattle.buffer_core.specs.Sides.{Sides}
use Rattle.buffer_unicode_tables.specs.Expansion.{with_second_piece}
use Rattle.buffer_properties.specs.Normalizer.{Normalizer, has_character}
use Rattle.buffer_properties.specs.SupportedExpansion.{by_supported}
use Rattle.shape_normalize.specs.Glyphs.{piece_glyph, piece_glyphs, with_current_read, HasHalvesOutput, Puts}

pieces_both : (c : Normalizer) (us vs : List ℕ) (o : Option hb_glyph_info_t) → piece_glyphs c us o ++ piece_glyphs c vs o ≡ piece_glyphs c (us ++ vs) o
pieces_both c us vs None = refl
pieces_both c us vs (Some g) = sym (map-append (piece_glyph c g) us vs)

put_both : (c : Normalizer) (us vs : List ℕ) (last : Bool) (s mid new : Sides) → HasHalvesOutput c us false s mid → HasHalvesOutput c vs last mid new → HasHalvesOutput c (us ++ vs) last s new
put_both c us vs last s mid new first next =
    let o = slice_get s.ahead 0 in
    next ∙ ap (λ (m : Sides). with_current_read last (record m { behind = m.behind ++ piece_glyphs c vs (slice_get m.ahead 0); is_apart = new.is_apart })) first
    ∙ ap (λ gs. with_current_read last (record s { behind = gs; is_apart = new.is_apart })) (append_assoc s.behind (piece_glyphs c us o) (piece_glyphs c vs o) ∙ ap (λ gs. s.behind ++ gs) (pieces_both c us vs o))

pub two_pieces : (c : Normalizer) (expand : ℕ → Option (List ℕ)) (a b g : ℕ) (last : Bool) (old mid new : Sides) → (b == 0) ≡ false → c.glyph_of b ≡ Some g → Puts c (expand a) false true old mid → HasHalvesOutput c (b ∷ []) last mid new
    → Puts c (by_supported (has_character c) expand (Some (a, b))) last true old new
two_pieces c expand a b g last old mid new some has put next = rw (some, has) (by_case (expand a) put)
  where
    by_case : (o : Option (List ℕ)) → Puts c o false true old mid → Puts c (option_map (with_second_piece b) o) last true old new
    by_case None p = absurd (let bad = p.0 in cc)
    by_case (Some us) p = rw some (refl, put_both c us (b ∷ []) last old mid new p.1 next)

pub no_second : (c : Normalizer) (expand : ℕ → Option (List ℕ)) (a b : ℕ) (last t : Bool) (old new : Sides) → (b == 0) ≡ true → Puts c (expand a) last t old new
    → Puts c (by_supported (has_character c) expand (Some (a, b))) last t old new
no_second c expand a b last t old new none put = rw none (by_case (expand a) put)
  where
    by_case : (o : Option (List ℕ)) → Puts c o last t old new → Puts c (option_map (with_second_piece b) o) last t old new
    by_case None p = p
    by_case (Some us) p = rw none p

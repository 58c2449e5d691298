-- Texts to which characters are added have characters alone.
use Rattle.std.proofs.Common.{ℕ, ◌≡◌, ◌+◌, ◌++◌, ◌&&◌, Bool, true, false, List, [], ◌∷◌, Result, Ok, Err, OnErr, refl, sym, ap, subst, append_assoc, min, length}
use Rattle.std.specs.List.{All}
use Rattle.std.specs.Char.{len_utf8}
use Rattle.std.specs.Str.{chars, IsUtf8}
use Rattle.std.proofs.lemmas.Str.{scalars-chars}
use Rattle.std.proofs.lemmas.List.Elements.{All-nil, All-cons, All-append, All-head, All-tail}
use Rattle.std.proofs.lemmas.List.{take-append-drop}
use lib.Utf8.{scalar, scalars}
use Rattle.buffer_glyphs.specs.declared.info.hb_glyph_info_t.{hb_glyph_info_t}
use Rattle.buffer_core.specs.Sides.{Sides, all_glyphs, with_added}
use Rattle.buffer_core.specs.Settings.{glyphs_counted, most_cluster, with_reset_clusters}
use Rattle.buffer_core.specs.Text.{added_glyph, added_text_from, added_text}
use Rattle.buffer_wrappers.specs.Wrappers.{IsCharacter, IsText}
use Rattle.buffer_facts.proofs.Truth.{first_true as left_of, second_true as right_of}

-- an added character is one
is_character : (c k : ℕ) → scalar c ≡ true → IsCharacter (added_glyph c k)
is_character c k e = record { plain = refl; scalar_value = e }

pub one_character : (c k : ℕ) → scalar c ≡ true → All IsCharacter (added_glyph c k ∷ [])
one_character c k e = All-cons IsCharacter (added_glyph c k) [] (is_character c k e) (All-nil IsCharacter)

are_characters : (at : ℕ) (cs : List ℕ) → scalars cs ≡ true → All IsCharacter (added_text_from at cs)
are_characters at [] e = All-nil IsCharacter
are_characters at (c ∷ cs) e = All-cons IsCharacter (added_glyph c at) (added_text_from (at + len_utf8 c) cs) (is_character c at (left_of (scalar c) (scalars cs) e)) (are_characters (at + len_utf8 c) cs (right_of (scalar c) (scalars cs) e))

-- so are those of a text
pub text_characters : (bs : List ℕ) → IsUtf8 bs → All IsCharacter (added_text bs)
text_characters bs u = are_characters 0 (chars bs) (scalars-chars bs u)

grown : (s : Sides) (gs : List hb_glyph_info_t) → IsText s → All IsCharacter gs → IsText (with_added gs s)
grown s gs is all = record {
  closed = is.closed;
  unrefused = is.unrefused;
  characters = subst (All IsCharacter) (append_assoc s.behind s.ahead gs) (All-append IsCharacter (s.behind ++ s.ahead) gs is.characters all);
}

-- a text stays one where characters are added, and where none is
pub text_grown : {E : Type 0} (r : Result Bool E) (s t : Sides) (gs : List hb_glyph_info_t) → (r ≡ Ok true → t ≡ with_added gs s) → (r ≡ Ok false → t ≡ s) → OnErr r (t ≡ s) → IsText s → All IsCharacter gs → IsText t
text_grown (Ok true) s t gs added full err is all = subst IsText (sym (added refl)) (grown s gs is all)
text_grown (Ok false) s t gs added full err is all = subst IsText (sym (full refl)) is
text_grown (Err e) s t gs added full err is all = subst IsText (sym err) is

counted : (n : ℕ) (gs : List hb_glyph_info_t) → All IsCharacter gs → All IsCharacter (glyphs_counted n gs)
counted n [] all = All-nil IsCharacter
counted n (g ∷ gs) all =
    let first = All-head IsCharacter g gs all in
    let recounted : (record g { cluster = min n most_cluster }) ≡ added_glyph g.glyph_id (min n most_cluster) = ap (λ (h : hb_glyph_info_t). record h { cluster = min n most_cluster }) first.plain in
    All-cons IsCharacter (record g { cluster = min n most_cluster }) (glyphs_counted (n + 1) gs) (record { plain = recounted; scalar_value = first.scalar_value }) (counted (n + 1) gs (All-tail IsCharacter g gs all))

all_counted : (s : Sides) → IsText s → All IsCharacter (all_glyphs (with_reset_clusters s))
all_counted s is = subst (All IsCharacter) (sym (take-append-drop (length s.behind) (glyphs_counted 0 (all_glyphs s)))) (counted 0 (all_glyphs s) is.characters)

recounted : (s : Sides) → IsText s → IsText (with_reset_clusters s)
recounted s is = record { closed = is.closed; unrefused = is.unrefused; characters = all_counted s is }

-- a text stays one where its clusters are counted anew
pub text_counted : (s t : Sides) → t ≡ with_reset_clusters s → IsText s → IsText t
text_counted s t e is = subst IsText (sym e) (recounted s is)

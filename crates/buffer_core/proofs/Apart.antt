-- What calls on one glyph, and those that add some, do to items, clusters and flags.
use Rattle.std.proofs.Common.{ℕ, ◌≡◌, ◌<◌, ◌+◌, ◌++◌, List, [], ◌∷◌, length, map, take, drop, refl, ap, sym, arith, ◌∙◌, append_assoc}
use Rattle.std.proofs.lemmas.List.{map-append, drop-map}
use Rattle.std.proofs.Math.Seq.{take-append_seam, drop-append_seam, drop-append-add}
use Rattle.std.specs.Char.{len_utf8}
use Rattle.std.specs.Str.{chars}
use Rattle.buffer_glyphs.specs.declared.info.hb_glyph_info_t.{hb_glyph_info_t}
use Rattle.buffer_glyphs.specs.Items.{item_of, strip}
use Rattle.buffer_glyphs.specs.Replacements.{glyph_numbered, glyphs_replaced, items_replaced}
use Rattle.buffer_glyphs.specs.Lemmas.Replacements.{strip_replaced}
use Rattle.buffer_core.specs.Sides.{Sides, all_glyphs, items_of, with_added, origins_of}
use Rattle.buffer_core.specs.Merging.{with_output_glyph, with_output_info, with_replaced_glyph, with_glyph_passed}
use Rattle.buffer_core.specs.Text.{added_glyph, added_text_from, added_text, offsets_from, text_items, unflagged_origin, text_origins}
use Rattle.buffer_core.proofs.Replaced.{all_copied}
use Rattle.buffer_glyphs.specs.Origins.{origin_of, origins}

-- a copy behind the cursor
pub copy_items : (n : ℕ) (s : Sides) → items_of (with_output_glyph n s) ≡ items_replaced (length s.behind) 0 (n ∷ []) (items_of s)
copy_items n s = ap strip (all_copied 0 (n ∷ []) s) ∙ strip_replaced (length s.behind) 0 (n ∷ []) (all_glyphs s)

-- a glyph under another number
renumbered_all : (n : ℕ) (behind ahead : List hb_glyph_info_t) → 0 < length ahead → (behind ++ map (λ (g : hb_glyph_info_t). glyph_numbered g n) (take 1 ahead)) ++ drop 1 ahead ≡ glyphs_replaced (length behind) 1 (n ∷ []) (behind ++ ahead)
renumbered_all n behind [] lt = absurd (omega (arith, lt))
renumbered_all n behind (g ∷ gs) lt = rw (take-append_seam behind (g ∷ gs), drop-append_seam behind (g ∷ gs), drop-append-add behind (g ∷ gs) 1) refl

pub renumbered_items : (n : ℕ) (s : Sides) → 0 < length s.ahead → items_of (with_replaced_glyph n s) ≡ items_replaced (length s.behind) 1 (n ∷ []) (items_of s)
renumbered_items n s lt = ap strip (renumbered_all n s.behind s.ahead lt) ∙ strip_replaced (length s.behind) 1 (n ∷ []) (all_glyphs s)

-- a glyph between both sides
put_seen : {Y : Type 0} (v : hb_glyph_info_t → Y) (g : hb_glyph_info_t) (behind ahead : List hb_glyph_info_t) → map v ((behind ++ g ∷ []) ++ ahead) ≡ map v behind ++ v g ∷ map v ahead
put_seen v g behind ahead = ap (map v) (append_assoc behind (g ∷ []) ahead) ∙ map-append v behind (g ∷ ahead)

pub put_origins : (g : hb_glyph_info_t) (s : Sides) → origins_of (with_output_info g s) ≡ origins s.behind ++ origin_of g ∷ origins s.ahead
put_origins g s = put_seen origin_of g s.behind s.ahead

pub put_items : (g : hb_glyph_info_t) (s : Sides) → items_of (with_output_info g s) ≡ strip s.behind ++ item_of g ∷ strip s.ahead
put_items g s = put_seen item_of g s.behind s.ahead

-- the glyph at the cursor gone
skipped_seen : {Y : Type 0} (v : hb_glyph_info_t → Y) (behind ahead : List hb_glyph_info_t) → map v (behind ++ drop 1 ahead) ≡ map v behind ++ drop 1 (map v ahead)
skipped_seen v behind ahead = map-append v behind (drop 1 ahead) ∙ ap (λ ys. map v behind ++ ys) (sym (drop-map v 1 ahead))

pub skipped_items : (s : Sides) → items_of (with_glyph_passed s) ≡ strip s.behind ++ drop 1 (strip s.ahead)
skipped_items s = skipped_seen item_of s.behind s.ahead

-- glyphs at the end
added_seen : {Y : Type 0} (v : hb_glyph_info_t → Y) (gs : List hb_glyph_info_t) (s : Sides) → map v (all_glyphs (with_added gs s)) ≡ map v (all_glyphs s) ++ map v gs
added_seen v gs s = ap (map v) (sym (append_assoc s.behind s.ahead gs)) ∙ map-append v (all_glyphs s) gs

pub added_origins : (c k : ℕ) (s : Sides) → origins_of (with_added (added_glyph c k ∷ []) s) ≡ origins_of s ++ unflagged_origin k ∷ []
added_origins c k s = added_seen origin_of (added_glyph c k ∷ []) s

pub added_items : (c k : ℕ) (s : Sides) → items_of (with_added (added_glyph c k ∷ []) s) ≡ items_of s ++ item_of (added_glyph c 0) ∷ []
added_items c k s = added_seen item_of (added_glyph c k ∷ []) s

-- the characters of a text at the end
pub items_from : (at : ℕ) (cs : List ℕ) → strip (added_text_from at cs) ≡ map (λ c. item_of (added_glyph c 0)) cs
items_from at [] = refl
items_from at (c ∷ cs) = ap (λ xs. item_of (added_glyph c 0) ∷ xs) (items_from (at + len_utf8 c) cs)

pub text_added_items : (text : List ℕ) (s : Sides) → items_of (with_added (added_text text) s) ≡ items_of s ++ text_items text
text_added_items text s = added_seen item_of (added_text text) s ∙ ap (λ xs. items_of s ++ xs) (items_from 0 (chars text))

origins_from : (at : ℕ) (cs : List ℕ) → origins (added_text_from at cs) ≡ map unflagged_origin (offsets_from at cs)
origins_from at [] = refl
origins_from at (c ∷ cs) = ap (λ os. unflagged_origin at ∷ os) (origins_from (at + len_utf8 c) cs)

pub text_added_origins : (text : List ℕ) (s : Sides) → origins_of (with_added (added_text text) s) ≡ origins_of s ++ text_origins text
text_added_origins text s = added_seen origin_of (added_text text) s ∙ ap (λ os. origins_of s ++ os) (origins_from 0 (chars text))

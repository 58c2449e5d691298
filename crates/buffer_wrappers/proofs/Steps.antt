-- One glyph more of a run.
use Rattle.std.proofs.Common.{◌≡◌, ℕ, suc, ◌+◌, ◌<◌, List, [], ◌∷◌, ◌++◌, length, take, drop, get_or, map, ℤ, pos, ◌+ℤ◌, ◌*◌, ◌^◌, FitsSigned, w32, Option, Bool, ◌==◌, true, false, cond, fold, refl, sym, ap, subst, ◌∙◌, append_assoc, append-nil, add-one, arith}
use Rattle.std.proofs.Math.Seq.{drop-cons}
use Rattle.std.proofs.lemmas.List.{map-append, take_more}
use Rattle.std.proofs.lemmas.Int.{ints}
use Rattle.std.proofs.lemmas.List.Sums.{fold-append}
use Rattle.std.specs.List.{join_with_byte}
use Rattle.buffer_glyphs.specs.declared.flags.SerializeFlags.{SerializeFlags}
use Rattle.buffer_glyphs.specs.declared.info.hb_glyph_info_t.{hb_glyph_info_t}
use Rattle.buffer_glyphs.specs.declared.names.hb_glyph_extents_t.{hb_glyph_extents_t}
use Rattle.buffer_glyphs.specs.declared.position.GlyphPosition.{GlyphPosition}
use Rattle.buffer_wrappers.specs.declared.pen.Pen.{Pen}
use Rattle.buffer_wrappers.specs.Pen.{IsWithin, drops_advances, moved_pen, shifted_pen, pen_after}
use Rattle.buffer_wrappers.specs.Printed.{glyph_text, glyph_texts, separator}
use Rattle.buffer_facts.proofs.Lists.{drop_at}

-- a pen moved by less than 2 ^ 31 in each direction
pub near_step : (bound : ℕ) (pen moved : Pen) (x y : ℤ) → FitsSigned w32 x → FitsSigned w32 y
    → moved ≡ shifted_pen pen x y → IsWithin bound pen → IsWithin (bound + 2 ^ 31) moved
near_step bound pen moved x y fits_x fits_y is_moved h = rw is_moved (record {
  across = record { low = omega (arith, ints, h.across.low, fits_x); high = omega (arith, ints, h.across.high, fits_x) };
  along = record { low = omega (arith, ints, h.along.low, fits_y); high = omega (arith, ints, h.along.high, fits_y) };
})

-- a pen that moved as often as there can be glyphs
pub near_enough : (i : ℕ) (pen : Pen) → i < 2 ^ 64 → IsWithin (2 ^ 31 * i) pen → IsWithin (2 ^ 96) pen
near_enough i pen lt h = record {
  across = record { low = omega (arith, ints, h.across.low, lt); high = omega (arith, ints, h.across.high, lt) };
  along = record { low = omega (arith, ints, h.along.low, lt); high = omega (arith, ints, h.along.high, lt) };
}

-- the bound of one move more
pub near_more : (i : ℕ) (pen : Pen) → IsWithin (2 ^ 31 * i + 2 ^ 31) pen → IsWithin (2 ^ 31 * (i + 1)) pen
near_more i pen h = let e : 2 ^ 31 * i + 2 ^ 31 ≡ 2 ^ 31 * (i + 1) = omega arith in subst (λ (b : ℕ). IsWithin b pen) e h

-- the sum of one element more
sum_more : (f : GlyphPosition → ℤ) (ps : List GlyphPosition) (p : GlyphPosition)
    → fold ◌+ℤ◌ (pos 0) (map f (ps ++ p ∷ [])) ≡ fold ◌+ℤ◌ (pos 0) (map f ps) +ℤ f p
sum_more f ps p = rw (map-append f ps (p ∷ []), fold-append ◌+ℤ◌ (pos 0) (map f ps) (f p ∷ []))

abbrev pen_at : ℤ → ℤ → Pen
pen_at x y = record { x = x; y = y }

-- a pen that rests, or that moved on
pen_cases : (moves : Bool) (x x' y y' : ℤ) (p : GlyphPosition) → x' ≡ x +ℤ p.x_advance → y' ≡ y +ℤ p.y_advance
    → cond moves (pen_at x' y') (pen_at (pos 0) (pos 0)) ≡ cond moves (shifted_pen (cond moves (pen_at x y) (pen_at (pos 0) (pos 0))) p.x_advance p.y_advance) (cond moves (pen_at x y) (pen_at (pos 0) (pos 0)))
pen_cases true x x' y y' p across along = rw (across, along)
pen_cases false x x' y y' p across along = refl

-- the pen after one glyph more
pen_after_more : (flags : SerializeFlags) (ps : List GlyphPosition) (p : GlyphPosition)
    → pen_after flags (ps ++ p ∷ []) ≡ moved_pen flags (pen_after flags ps) p
pen_after_more flags ps p = pen_cases (drops_advances flags) _ _ _ _ p (sum_more (λ q. q.x_advance) ps p) (sum_more (λ q. q.y_advance) ps p)

-- the same, by index
pub pen_step : (flags : SerializeFlags) (positions : List GlyphPosition) (i : ℕ) (d : GlyphPosition) (pen pen' : Pen)
    → i < length positions → pen ≡ pen_after flags (take i positions) → pen' ≡ moved_pen flags pen (get_or positions i d)
    → pen' ≡ pen_after flags (take (i + 1) positions)
pen_step flags positions i d pen pen' lt before moved =
    moved ∙ (ap (λ q. moved_pen flags q (get_or positions i d)) before
    ∙ (sym (pen_after_more flags (take i positions) (get_or positions i d))
    ∙ sym (ap (pen_after flags) (take_more positions i d lt))))

-- what is left to print from the glyph with this index on
abbrev pub left_from : ℕ → List (List ℕ) → List ℕ
left_from i [] = []
left_from i (t ∷ ts) = separator i ++ join_with_byte 124 (t ∷ ts)

suc_is_not_zero : (i : ℕ) → (suc i == 0) ≡ false
suc_is_not_zero i = grind arith

left_step : (i : ℕ) (t : List ℕ) (ts : List (List ℕ)) → left_from i (t ∷ ts) ≡ separator i ++ (t ++ left_from (i + 1) ts)
left_step i t [] = ap (λ q. separator i ++ q) (sym (append-nil t))
left_step i t (u ∷ us) = rw (add-one, suc_is_not_zero i)

-- a text that grew by a and b, of which that and the rest were left to come
regrouped : (old mid new a b left rest : List ℕ) → mid ≡ old ++ a → new ≡ mid ++ b → left ≡ a ++ (b ++ rest) → new ++ rest ≡ old ++ left
regrouped old mid new a b left rest mid_is new_is left_is = rw (new_is, mid_is, left_is) (simp append_assoc)

-- the texts from a glyph on
texts_cons : (name_of : ℕ → Option (List ℕ)) (extents_of : ℕ → Option hb_glyph_extents_t) (flags : SerializeFlags)
    (before after : List GlyphPosition) (glyphs glyphs_after : List hb_glyph_info_t) (positions places_after : List GlyphPosition) (glyph : hb_glyph_info_t) (position : GlyphPosition)
    → glyphs ≡ glyph ∷ glyphs_after → positions ≡ position ∷ places_after → after ≡ before ++ position ∷ []
    → glyph_texts name_of extents_of flags before glyphs positions
    ≡ glyph_text name_of extents_of flags (pen_after flags before) glyph position ∷ glyph_texts name_of extents_of flags after glyphs_after places_after
texts_cons name_of extents_of flags before after glyphs glyphs_after positions places_after glyph position glyphs_is places_is after_is =
    rw (glyphs_is, places_is, after_is)

-- what is left to print of the run from this index on
abbrev pub left_at : (ℕ → Option (List ℕ)) → (ℕ → Option hb_glyph_extents_t) → SerializeFlags → List hb_glyph_info_t → List GlyphPosition → ℕ → List ℕ
left_at name_of extents_of flags glyphs positions i =
    left_from i (glyph_texts name_of extents_of flags (take i positions) (drop i glyphs) (drop i positions))

-- the run after one glyph more
pub printed_step : (name_of : ℕ → Option (List ℕ)) (extents_of : ℕ → Option hb_glyph_extents_t) (flags : SerializeFlags)
    (glyphs : List hb_glyph_info_t) (positions : List GlyphPosition) (i : ℕ) (pen : Pen) (glyph : hb_glyph_info_t) (position : GlyphPosition)
    (old mid new : List ℕ)
    → i < length glyphs → i < length positions → pen ≡ pen_after flags (take i positions)
    → mid ≡ old ++ separator i → new ≡ mid ++ glyph_text name_of extents_of flags pen (get_or glyphs i glyph) (get_or positions i position)
    → new ++ left_at name_of extents_of flags glyphs positions (i + 1) ≡ old ++ left_at name_of extents_of flags glyphs positions i
printed_step name_of extents_of flags glyphs positions i pen glyph position old mid new in_glyphs in_places pen_is mid_is new_is =
    let text : Pen → List ℕ = λ p. glyph_text name_of extents_of flags p (get_or glyphs i glyph) (get_or positions i position) in
    let rest : List (List ℕ) = glyph_texts name_of extents_of flags (take (i + 1) positions) (drop (i + 1) glyphs) (drop (i + 1) positions) in
    let split = texts_cons name_of extents_of flags (take i positions) (take (i + 1) positions) (drop i glyphs) (drop (i + 1) glyphs) (drop i positions) (drop (i + 1) positions) _ _
    (drop_at glyphs i glyph in_glyphs) (drop_at positions i position in_places) (take_more positions i position in_places)
    ∙ ap (λ p. text p ∷ rest) (sym pen_is) in
    regrouped old mid new (separator i) (text pen) _ _ mid_is new_is (ap (left_from i) split ∙ left_step i _ _)

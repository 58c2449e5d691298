-- Characters that are appended to a buffer, one after another.
use Rattle.std.proofs.Common.{suc, ◌⊎◌, inl, inr, ℕ, ◌≡◌, ◌≤◌, ◌+◌, ◌++◌, ◌&&◌, Bool, true, false, nat_le, List, [], ◌∷◌, length, sym, arith, ap, ap₂, append_assoc, ◌∙◌}
use Rattle.std.proofs.lemmas.List.{append-nil, length-append}
use Rattle.std.proofs.lemmas.Bool.{and_cases, and_left, and_parts, and_right, leb-false, le-leb, lt-leb}
use Rattle.buffer_core.specs.Sides.{Sides, all_glyphs, has_room, with_added, zero_positions}
use Rattle.buffer_core.specs.Text.{added_glyph}
use Rattle.buffer_glyphs.specs.declared.info.hb_glyph_info_t.{hb_glyph_info_t}
use Rattle.buffer_glyphs.specs.Items.{Position}
use Rattle.buffer_wrappers.specs.Wrappers.{IsText}
use Rattle.c_characters.specs.Characters.{TextCharacter}
use Rattle.c_characters.specs.Texts.{added_characters, clusters_fit, fits_characters}

-- a glyph and then others are appended as all of them
added_after : (s : Sides) (g : hb_glyph_info_t) (gs : List hb_glyph_info_t) → with_added (g ∷ gs) s ≡ with_added gs (with_added (g ∷ []) s)
added_after s g gs =
    ap₂ (λ (ahead : List hb_glyph_info_t) (positions : List Position). record s { ahead = ahead; positions = positions })
    (sym (append_assoc s.ahead (g ∷ []) gs)) (sym (append_assoc s.positions (zero_positions 1) (zero_positions (length gs))))

pub added_step : (whole s t : Sides) (c k : ℕ) (cs rest : List TextCharacter) → whole ≡ with_added (added_characters cs) s → cs ≡ (record { character = c; cluster = k }) ∷ rest
    → t ≡ with_added (added_glyph c k ∷ []) s → whole ≡ with_added (added_characters rest) t
added_step whole s t c k cs rest before first same =
    before ∙ ap (λ l. with_added (added_characters l) s) first ∙ added_after s (added_glyph c k) (added_characters rest) ∙ ap (with_added (added_characters rest)) (sym same)

-- no glyphs are left to append
pub all_added : (whole s : Sides) (cs : List TextCharacter) → whole ≡ with_added (added_characters cs) s → cs ≡ [] → s ≡ whole
all_added whole s cs before none =
    sym (before ∙ ap (λ l. with_added (added_characters l) s) none
    ∙ ap₂ (λ (ahead : List hb_glyph_info_t) (positions : List Position). record s { ahead = ahead; positions = positions }) (append-nil s.ahead) (append-nil s.positions))

-- ---- room

room_after : (s : Sides) (g : hb_glyph_info_t) (n : ℕ) → has_room (suc n) s ≡ has_room n (with_added (g ∷ []) s)
room_after s g n =
    let more : length (s.behind ++ (s.ahead ++ g ∷ [])) ≡ length (s.behind ++ s.ahead) + 1 =
    ap length (sym (append_assoc s.behind s.ahead (g ∷ []))) ∙ length-append (s.behind ++ s.ahead) (g ∷ []) in
    ap (λ k. nat_le k s.max_len) (omega (arith, more))

pub fits_step : (whole b : Bool) (s t : Sides) (c k : ℕ) (cs rest : List TextCharacter) → whole ≡ fits_characters cs s → cs ≡ (record { character = c; cluster = k }) ∷ rest
    → b ≡ (nat_le k 0xFFFF_FFFF && has_room 1 s) → b ≡ true → t ≡ with_added (added_glyph c k ∷ []) s → whole ≡ fits_characters rest t
fits_step whole b s t c k cs rest before first held true_is same =
    let low : nat_le k 0xFFFF_FFFF ≡ true = (and_parts (nat_le k 0xFFFF_FFFF) (has_room 1 s) (sym held ∙ true_is)).0 in
    before ∙ ap (λ l. fits_characters l s) first ∙ ap₂ (λ x y. x && y) (room_after s (added_glyph c k) (length rest)) (ap (λ x. x && clusters_fit rest) low)
    ∙ ap (fits_characters rest) (sym same)

no_room : (s : Sides) (n : ℕ) → has_room 1 s ≡ false → has_room (suc n) s ≡ false
no_room s n false_is = lt-leb (length (all_glyphs s) + suc n) s.max_len (let over = leb-false (length (all_glyphs s) + 1) s.max_len false_is in omega (arith, over))

refused_by : (s : Sides) (c k : ℕ) (rest : List TextCharacter) → (nat_le k 0xFFFF_FFFF ≡ false) ⊎ (has_room 1 s ≡ false) → fits_characters ((record { character = c; cluster = k }) ∷ rest) s ≡ false
refused_by s c k rest (inl high) = and_right (has_room (suc (length rest)) s) (nat_le k 0xFFFF_FFFF && clusters_fit rest) (and_left (nat_le k 0xFFFF_FFFF) (clusters_fit rest) high)
refused_by s c k rest (inr full) = and_left (has_room (suc (length rest)) s) (nat_le k 0xFFFF_FFFF && clusters_fit rest) (no_room s (length rest) full)

-- a character that is refused refuses the text
pub no_fit : (whole b : Bool) (s : Sides) (c k : ℕ) (cs rest : List TextCharacter) → whole ≡ fits_characters cs s → cs ≡ (record { character = c; cluster = k }) ∷ rest
    → b ≡ (nat_le k 0xFFFF_FFFF && has_room 1 s) → b ≡ false → false ≡ whole
no_fit whole b s c k cs rest before first held false_is =
    sym (before ∙ ap (λ l. fits_characters l s) first ∙ refused_by s c k rest (and_cases (nat_le k 0xFFFF_FFFF) (has_room 1 s) (sym held ∙ false_is)))

-- where no characters are left, all of them had room
pub none_left_fits : (whole : Bool) (s : Sides) (cs : List TextCharacter) (n : ℕ) → whole ≡ fits_characters cs s → cs ≡ [] → IsText s
    → (s.is_open ≡ false → n ≡ length (all_glyphs s)) → (s.is_open ≡ false → n ≤ s.max_len) → true ≡ whole
none_left_fits whole s cs n before none is count within =
    let same = count is.closed in
    let le = within is.closed in
    let room : has_room 0 s ≡ true = le-leb (length (all_glyphs s) + 0) s.max_len (omega (arith, same, le)) in
    sym (before ∙ ap (λ l. fits_characters l s) none ∙ ap (λ x. x && true) room)

-- Glyphs that are sought one after another.
use Rattle.std.proofs.Common.{ℕ, suc, ◌≡◌, ◌≤◌, ◌<◌, ◌+◌, Bool, true, false, if◌then◌else◌, List, [], ◌∷◌, length, drop, get_or, Some, slice_get, refl, sym, ap, ◌∙◌, arith}
use Rattle.std.specs.Prelude.{not}
use Rattle.std.specs.List.{position_or_len}
use Rattle.std.proofs.lemmas.List.{drop_all, drop_more, drop-map, length-map}
use Rattle.buffer_glyphs.specs.declared.info.hb_glyph_info_t.{hb_glyph_info_t}
use Rattle.buffer_glyphs.specs.Items.{Item, item_of, strip}
use Rattle.script_indic_reordering.specs.Indices.{begins_with}

-- the items from an index on
pub items_from : (gs : List hb_glyph_info_t) (i : ℕ) (d : hb_glyph_info_t) → i < length gs → drop i (strip gs) ≡ item_of (get_or gs i d) ∷ drop (i + 1) (strip gs)
items_from gs i d lt = drop-map item_of i gs ∙ ap strip (drop_more gs i d lt) ∙ ap (λ xs. item_of (get_or gs i d) ∷ xs) (sym (drop-map item_of (i + 1) gs))

pub begins_at : (p : Item → Bool) (gs : List hb_glyph_info_t) (i : ℕ) (d : hb_glyph_info_t) (t : Bool) → i < length gs → p (item_of (get_or gs i d)) ≡ t → begins_with p (drop i (strip gs)) ≡ t
begins_at p gs i d t lt e = ap (begins_with p) (items_from gs i d lt) ∙ e

pub past_end : (gs : List hb_glyph_info_t) (i : ℕ) → length gs ≤ i → drop i (strip gs) ≡ []
past_end gs i le = drop_all i (strip gs) (omega (arith, le, length-map gs item_of))

-- none was met before an index
abbrev pub position_from : (Item → Bool) → List hb_glyph_info_t → ℕ → ℕ
position_from p gs i = i + position_or_len p (drop i (strip gs))

pub position_next : (p : Item → Bool) (gs : List hb_glyph_info_t) (i n : ℕ) (d : hb_glyph_info_t) → i < length gs → p (item_of (get_or gs i d)) ≡ false → position_from p gs i ≡ n → position_from p gs (i + 1) ≡ n
position_next p gs i n d lt e f =
    let rest = position_or_len p (drop (i + 1) (strip gs)) in
    let more : position_or_len p (drop i (strip gs)) ≡ 1 + rest = ap (position_or_len p) (items_from gs i d lt) ∙ ap (λ (t : Bool). if not t then 1 + rest else 0) e in
    omega (arith, more, f)

pub position_here : (p : Item → Bool) (gs : List hb_glyph_info_t) (i n : ℕ) (d : hb_glyph_info_t) → i < length gs → p (item_of (get_or gs i d)) ≡ true → position_from p gs i ≡ n → i ≡ n
position_here p gs i n d lt e f =
    let rest = position_or_len p (drop (i + 1) (strip gs)) in
    let none : position_or_len p (drop i (strip gs)) ≡ 0 = ap (position_or_len p) (items_from gs i d lt) ∙ ap (λ (t : Bool). if not t then 1 + rest else 0) e in
    omega (arith, none, f)

pub position_past : (p : Item → Bool) (gs : List hb_glyph_info_t) (i n : ℕ) → length gs ≤ i → i ≤ length gs → position_from p gs i ≡ n → length gs ≡ n
position_past p gs i n le ge f =
    let none : position_or_len p (drop i (strip gs)) ≡ 0 = ap (position_or_len p) (past_end gs i le) in
    omega (arith, none, f, le, ge)

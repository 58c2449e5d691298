-- The machines of Thai over the glyphs of a text.
use Rattle.std.proofs.Common.{ℕ, zero, suc, ◌≡◌, ◌≤◌, ◌<◌, ◌+◌, true, false, List, [], ◌∷◌, ◌++◌, length, map, take, drop, set, get_or, arith, add-one, refl, ap, sym, ◌∙◌}
use Rattle.std.proofs.lemmas.List.{append-nil, at_drop_more, drop_all, length-set, take_all}
use Rattle.buffer_unicode_tables.specs.Tables.{Tables}
use Rattle.layout_face.specs.declared.parts.FaceParts.{FaceParts}
use Rattle.buffer_glyphs.specs.declared.info.hb_glyph_info_t.{hb_glyph_info_t}
use Rattle.buffer_glyphs.specs.Items.{item_of, strip}
use Rattle.buffer_glyphs.specs.Origins.{origin_of, origins}
use Rattle.buffer_core.specs.Readings.{always}
use Rattle.buffer_glyphs.specs.Replacements.{glyph_numbered, item_numbered}
use Rattle.buffer_core.specs.Sides.{Sides, all_glyphs, items_of}
use Rattle.buffer_core.specs.Lending.{with_refilled}
use Rattle.buffer_stages.specs.Ready.{IsReady}
use Rattle.buffer_stages.specs.Stages.{IsFollowed}
use Rattle.buffer_stages.specs.Lemmas.Written.{becomes_followed, written_becomes}
use Rattle.script_thai.specs.declared.thai_private.Consonant.TheVariants.{NotConsonant}
use Rattle.script_thai.specs.declared.thai_private.Mark.{Mark}
use Rattle.script_thai.specs.declared.thai_private.Mark.TheVariants.{AV, BV, T, NotMark}
use Rattle.script_thai.specs.declared.thai_private.State.{State}
use Rattle.script_thai.specs.ThaiPrivate.{character_shaped, is_followed_below, is_followed_from, items_shaped, mark_of, numbers_of, start_state, state_after, with_private}
use Rattle.script_thai.specs.ThaiGlyphs.{glyphs_shaped, number_of}

-- ---- the machines

shaped_suc : (t : Tables) (font : FaceParts) (s : State) (i : ℕ) (ys : List hb_glyph_info_t) (d : hb_glyph_info_t) (n : ℕ) → i < length ys
    → n ≡ character_shaped t font s (get_or ys i d).glyph_id (map number_of (drop (suc i) ys))
    → take (suc i) (set ys i (glyph_numbered (get_or ys i d) n)) ++ glyphs_shaped t font (state_after s (get_or ys i d).glyph_id) (drop (suc i) (set ys i (glyph_numbered (get_or ys i d) n))) ≡ take i ys ++ glyphs_shaped t font s (drop i ys)
shaped_suc t font s i [] d n lt e = absurd (omega arith)
shaped_suc t font s zero (y ∷ ys) d n lt e = ap (λ m. glyph_numbered y m ∷ glyphs_shaped t font (state_after s y.glyph_id) ys) e
shaped_suc t font s (suc i) (y ∷ ys) d n lt e = ap (λ zs. y ∷ zs) (shaped_suc t font s i ys d n (omega arith) e)

-- the glyphs before an index are shaped
pub record AreShaped (t : Tables) (font : FaceParts) (start : State) (i : ℕ) (s : State) (hs xs : List hb_glyph_info_t) : Type 0 where
  pub glyphs : take i xs ++ glyphs_shaped t font s (drop i xs) ≡ glyphs_shaped t font start hs
  pub count : length xs ≡ length hs

pub none_shaped : (t : Tables) (font : FaceParts) (s : State) (hs : List hb_glyph_info_t) → AreShaped t font s 0 s hs hs
none_shaped t font s hs = record { glyphs = refl; count = refl }

pub next_shaped : (t : Tables) (font : FaceParts) (start s : State) (i : ℕ) (hs xs : List hb_glyph_info_t) (d : hb_glyph_info_t) (n : ℕ) → i < length xs
    → n ≡ character_shaped t font s (get_or xs i d).glyph_id (map number_of (drop (i + 1) xs))
    → AreShaped t font start i s hs xs → AreShaped t font start (i + 1) (state_after s (get_or xs i d).glyph_id) hs (set xs i (glyph_numbered (get_or xs i d) n))
next_shaped t font start s i hs xs d n lt e p =
    let f : n ≡ character_shaped t font s (get_or xs i d).glyph_id (map number_of (drop (suc i) xs)) = e ∙ ap (λ k. character_shaped t font s (get_or xs i d).glyph_id (map number_of (drop k xs))) (add-one i) in
    record { glyphs = rw add-one (shaped_suc t font s i xs d n lt f) ∙ p.glyphs; count = length-set xs i (glyph_numbered (get_or xs i d) n) ∙ p.count }

pub all_shaped : (t : Tables) (font : FaceParts) (start s : State) (i : ℕ) (hs xs : List hb_glyph_info_t) → length hs ≤ i → AreShaped t font start i s hs xs → xs ≡ glyphs_shaped t font start hs
all_shaped t font start s i hs xs le p =
    let end : length xs ≤ i = (let n = p.count in omega (arith, n, le)) in
    sym (ap (λ ys. take i xs ++ glyphs_shaped t font s ys) (drop_all i xs end) ∙ append-nil (take i xs) ∙ take_all i xs end) ∙ p.glyphs

-- ---- a vowel below among the marks that follow

-- the marks before an index are none of those below
pub record ArePassed (i : ℕ) (gs : List hb_glyph_info_t) : Type 0 where
  pub rest : is_followed_below (map number_of (drop i gs)) ≡ is_followed_below (map number_of gs)

pub none_passed : (gs : List hb_glyph_info_t) → ArePassed 0 gs
none_passed gs = record { rest = refl }

first_passed : (i : ℕ) (gs : List hb_glyph_info_t) (d : hb_glyph_info_t) (m : Mark) → i < length gs → mark_of (get_or gs i d).glyph_id ≡ m → is_followed_below (map number_of (drop i gs)) ≡ is_followed_from m (is_followed_below (map number_of (drop (i + 1) gs)))
first_passed i gs d m lt e = at_drop_more (λ ys. is_followed_below (map number_of ys)) gs i d lt ∙ ap (λ k. is_followed_from k (is_followed_below (map number_of (drop (i + 1) gs)))) e

pub next_passed : (i : ℕ) (gs : List hb_glyph_info_t) (d : hb_glyph_info_t) → i < length gs → mark_of (get_or gs i d).glyph_id ≡ AV → ArePassed i gs → ArePassed (i + 1) gs
next_passed i gs d lt e p = record { rest = sym (first_passed i gs d AV lt e) ∙ p.rest }

pub tone_passed : (i : ℕ) (gs : List hb_glyph_info_t) (d : hb_glyph_info_t) → i < length gs → mark_of (get_or gs i d).glyph_id ≡ T → ArePassed i gs → ArePassed (i + 1) gs
tone_passed i gs d lt e p = record { rest = sym (first_passed i gs d T lt e) ∙ p.rest }

pub passed_below : (i : ℕ) (gs : List hb_glyph_info_t) (d : hb_glyph_info_t) → i < length gs → mark_of (get_or gs i d).glyph_id ≡ BV → ArePassed i gs → true ≡ is_followed_below (map number_of gs)
passed_below i gs d lt e p = sym (first_passed i gs d BV lt e) ∙ p.rest

pub passed_other : (i : ℕ) (gs : List hb_glyph_info_t) (d : hb_glyph_info_t) → i < length gs → mark_of (get_or gs i d).glyph_id ≡ NotMark → ArePassed i gs → false ≡ is_followed_below (map number_of gs)
passed_other i gs d lt e p = sym (first_passed i gs d NotMark lt e) ∙ p.rest

pub passed_all : (i : ℕ) (gs : List hb_glyph_info_t) → length gs ≤ i → ArePassed i gs → false ≡ is_followed_below (map number_of gs)
passed_all i gs le p = sym (ap (λ ys. is_followed_below (map number_of ys)) (drop_all i gs le)) ∙ p.rest

-- ---- the stage

numbers_seen : (gs : List hb_glyph_info_t) → map number_of gs ≡ numbers_of (strip gs)
numbers_seen [] = refl
numbers_seen (g ∷ gs) = ap (λ ns. g.glyph_id ∷ ns) (numbers_seen gs)

shaped_items : (t : Tables) (font : FaceParts) (s : State) (gs : List hb_glyph_info_t) → strip (glyphs_shaped t font s gs) ≡ items_shaped t font s (strip gs)
shaped_items t font s [] = refl
shaped_items t font s (g ∷ gs) =
    ap (λ ns. item_numbered (item_of g) (character_shaped t font s g.glyph_id ns) ∷ strip (glyphs_shaped t font (state_after s g.glyph_id) gs)) (numbers_seen gs)
    ∙ ap (λ xs. item_numbered (item_of g) (character_shaped t font s g.glyph_id (numbers_of (strip gs))) ∷ xs) (shaped_items t font (state_after s g.glyph_id) gs)

shaped_origins : (t : Tables) (font : FaceParts) (s : State) (gs : List hb_glyph_info_t) → origins (glyphs_shaped t font s gs) ≡ origins gs
shaped_origins t font s [] = refl
shaped_origins t font s (g ∷ gs) = ap (λ os. origin_of g ∷ os) (shaped_origins t font (state_after s g.glyph_id) gs)

shaped_length : (t : Tables) (font : FaceParts) (s : State) (gs : List hb_glyph_info_t) → length (glyphs_shaped t font s gs) ≡ length gs
shaped_length t font s [] = refl
shaped_length t font s (g ∷ gs) = ap suc (shaped_length t font (state_after s g.glyph_id) gs)

pub shaped_followed : (t : Tables) (font : FaceParts) (gs : List hb_glyph_info_t) (s : Sides) → gs ≡ glyphs_shaped t font (start_state NotConsonant) (all_glyphs s) → IsReady s → IsFollowed (always (with_private t font)) s (with_refilled gs s)
shaped_followed t font gs s e ready =
    let start = start_state NotConsonant in
    let items = ap strip e ∙ shaped_items t font start (all_glyphs s) in
    let from = ap origins e ∙ shaped_origins t font start (all_glyphs s) in
    let long = ap (λ (ys : List hb_glyph_info_t). length ys) e ∙ shaped_length t font start (all_glyphs s) in
    becomes_followed (items_shaped t font start (items_of s)) s.positions s (with_refilled gs s) (always (with_private t font)) (written_becomes gs s (items_shaped t font start (items_of s)) long items from ready) refl

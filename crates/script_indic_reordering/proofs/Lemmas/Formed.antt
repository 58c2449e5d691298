-- What the final reordering finds among the glyphs of a syllable.
use Rattle.std.proofs.Common.{ℕ, ◌≡◌, ◌≤◌, ◌<◌, ◌+◌, ◌-◌, ◌==◌, Bool, true, false, if◌then◌else◌, List, [], ◌∷◌, get_or, length, map, take, drop, Option, Some, None, refl, sym, ap, subst, ◌∙◌, arith}
use Rattle.std.specs.Prelude.{not, slice_range, unwrap_or}
use Rattle.std.proofs.lemmas.List.{drop-map, drop-take, length-drop, take-map, take-take, take_all}
use Rattle.buffer_glyphs.specs.declared.info.hb_glyph_info_t.{hb_glyph_info_t}
use Rattle.buffer_glyphs.specs.Items.{Item, item_of, strip}
use Rattle.script_indic_reordering.specs.Base.{joiners}
use Rattle.script_indic_reordering.specs.Glyphs.{is_nukta_or_halant}
use Rattle.script_indic_reordering.specs.Indices.{begins_with, last_at}
use Rattle.script_indic_reordering.specs.Final.{after_halant, back_over, begins_with_reph, is_reph, passed_from_base, stands_from_post, stands_up_to_main, up_to_signs}
use Rattle.std.specs.List.{position_or_len}
use Rattle.std.proofs.lemmas.Grind.{common_steps}
use Rattle.script_categories.specs.declared.ot_position_t.TheConstants as position
use Rattle.buffer_glyphs.specs.Lemmas.Origins.{slice_seen as range_seen}

abbrev past : List Item → Option ℕ
past xs = last_at (begins_with (λ x. not (is_nukta_or_halant x))) 0 xs

pub backed_to : (from i : ℕ) (gs : List hb_glyph_info_t) → past (strip (take (from + 1) gs)) ≡ Some i → i ≡ back_over from (strip gs)
backed_to from i gs e = sym (ap (λ xs. unwrap_or (past xs) 0) (take-map item_of (from + 1) gs) ∙ ap (λ o. unwrap_or o 0) e)

pub backed_none : (from : ℕ) (gs : List hb_glyph_info_t) → past (strip (take (from + 1) gs)) ≡ None → 0 ≡ back_over from (strip gs)
backed_none from gs e = sym (ap (λ xs. unwrap_or (past xs) 0) (take-map item_of (from + 1) gs) ∙ ap (λ o. unwrap_or o 0) e)

pub after_joined : (base h k : ℕ) (gs : List hb_glyph_info_t) → h + 1 < base → k ≡ joiners (strip (slice_range gs (h + 1) (h + 1 + 1))) → h + 1 + k ≡ after_halant base (strip gs) h
after_joined base h k gs lt e =
    let one : h + 1 + 1 - (h + 1) ≡ 1 = omega arith in
    let wide : base ≡ (h + 1) + (base - (h + 1)) = omega (arith, lt) in
    let few : 1 ≤ base - (h + 1) = omega (arith, lt) in
    let xs = strip gs in
    let cut : take 1 (drop (h + 1) (take base xs)) ≡ take 1 (drop (h + 1) xs) =
    ap (λ n. take 1 (drop (h + 1) (take n xs))) wide ∙ ap (take 1) (drop-take (h + 1) (base - (h + 1)) xs) ∙ take-take 1 (base - (h + 1)) (drop (h + 1) xs) few in
    ap (λ n. h + 1 + n) (e ∙ ap joiners (range_seen item_of (h + 1) (h + 1 + 1) gs ∙ ap (λ n. take n (drop (h + 1) xs)) one ∙ sym cut))

-- ---- the reph

pub too_few : (gs : List hb_glyph_info_t) → length gs < 2 → false ≡ begins_with_reph (strip gs)
too_few [] lt = refl
too_few (g ∷ []) lt = refl
too_few (g ∷ h ∷ hs) lt = absurd (omega (arith, lt))

pub begins_reph : (gs : List hb_glyph_info_t) (d : hb_glyph_info_t) (b : Bool) → 2 ≤ length gs → b ≡ is_reph (item_of (get_or gs 0 d)) → b ≡ begins_with_reph (strip gs)
begins_reph [] d b le e = absurd (omega (arith, le))
begins_reph (g ∷ []) d b le e = absurd (omega (arith, le))
begins_reph (g ∷ h ∷ hs) d b le e = e

rest_seen : (n : ℕ) (gs : List hb_glyph_info_t) → strip (slice_range gs n (length gs)) ≡ drop n (strip gs)
rest_seen n gs = ap strip (take_all (length gs - n) (drop n gs) (let m = length-drop n gs in omega (arith, m))) ∙ sym (drop-map item_of n gs)

pub main_passed : (reph_pos base k : ℕ) (gs : List hb_glyph_info_t) → reph_pos ≡ position.POS_AFTER_MAIN → k ≡ position_or_len (λ x. not (stands_up_to_main x)) (strip (slice_range gs (base + 1) (length gs))) → base + 1 + k ≡ passed_from_base reph_pos base (strip gs)
main_passed reph_pos base k gs at e =
    let is : (reph_pos == position.POS_AFTER_MAIN) ≡ true = grind (arith, common_steps, at) in
    let xs = strip gs in
    ap (λ n. base + 1 + n) (e ∙ ap (position_or_len (λ x. not (stands_up_to_main x))) (rest_seen (base + 1) gs))
    ∙ sym (ap (λ t. if t then base + 1 + position_or_len (λ x. not (stands_up_to_main x)) (drop (base + 1) xs) else if reph_pos == position.POS_AFTER_SUB then base + 1 + position_or_len stands_from_post (drop (base + 1) xs) else up_to_signs xs) is)

pub sub_passed : (reph_pos base k : ℕ) (gs : List hb_glyph_info_t) → reph_pos ≡ position.POS_AFTER_SUB → k ≡ position_or_len stands_from_post (strip (slice_range gs (base + 1) (length gs))) → base + 1 + k ≡ passed_from_base reph_pos base (strip gs)
sub_passed reph_pos base k gs at e =
    let is : (reph_pos == position.POS_AFTER_SUB) ≡ true = grind (arith, common_steps, at) in
    let other : (reph_pos == position.POS_AFTER_MAIN) ≡ false = ap (λ p. p == position.POS_AFTER_MAIN) at in
    let xs = strip gs in
    ap (λ n. base + 1 + n) (e ∙ ap (position_or_len stands_from_post) (rest_seen (base + 1) gs))
    ∙ sym (ap (λ t. if t then base + 1 + position_or_len (λ x. not (stands_up_to_main x)) (drop (base + 1) xs) else if reph_pos == position.POS_AFTER_SUB then base + 1 + position_or_len stands_from_post (drop (base + 1) xs) else up_to_signs xs) other
    ∙ ap (λ (t : Bool). if t then base + 1 + position_or_len stands_from_post (drop (base + 1) xs) else up_to_signs xs) is)

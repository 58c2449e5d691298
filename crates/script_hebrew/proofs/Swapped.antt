-- Three marks, the last two of which are swapped.
use Rattle.std.proofs.Common.{ℕ, zero, suc, ◌≡◌, ◌≤◌, ◌+◌, ◌-◌, Bool, true, false, if◌then◌else◌, List, [], ◌∷◌, Option, Some, None, length, take, drop, arith, refl, ap, sym, subst, ◌∙◌}
use Rattle.std.specs.Prelude.{slice_range}
use Rattle.std.specs.Option.{option_map}
use Rattle.std.proofs.lemmas.List.{drop-drop, drop_all, length-drop, length-map, length-take-le, take_all}
use Rattle.buffer_glyphs.specs.declared.info.hb_glyph_info_t.{hb_glyph_info_t}
use Rattle.buffer_glyphs.specs.Items.{Item, item_of, strip}
use Rattle.buffer_glyphs.specs.Lemmas.Origins.{slice_seen}
use Rattle.buffer_core.specs.Readings.{always}
use Rattle.buffer_core.specs.Sides.{Sides}
use Rattle.buffer_stages.specs.Ready.{IsReady}
use Rattle.buffer_stages.specs.Stages.{IsFollowed}
use Rattle.buffer_stages.specs.Moves.{with_move}
use Rattle.script_hebrew.specs.Hebrew.{begins_with_three, first_three, with_swapped}
use Rattle.script_hebrew.specs.Neighbours.{IsThreeWithin}
use Rattle.script_hebrew.proofs.MarkCounts.{three_there}

pub part_seen : (gs : List hb_glyph_info_t) (start end : ℕ) → strip (slice_range gs start end) ≡ slice_range (strip gs) start end
part_seen gs start end = slice_seen item_of start end gs

-- ---- the search

-- before an index no three such neighbours begin
pub record NoneMet (at : ℕ) (gs : List hb_glyph_info_t) : Type 0 where
  pub rest : first_three (strip gs) ≡ option_map (λ n. at + n) (first_three (strip (drop at gs)))

same_number : (o : Option ℕ) → o ≡ option_map (λ n. 0 + n) o
same_number None = refl
same_number (Some n) = ap Some (let e : n ≡ 0 + n = omega arith in e)

pub none_met : (gs : List hb_glyph_info_t) → NoneMet 0 gs
none_met gs = record { rest = same_number (first_three (strip gs)) }

one_further : (at : ℕ) (o : Option ℕ) → option_map (λ n. at + n) (option_map (λ n. n + 1) o) ≡ option_map (λ n. (at + 1) + n) o
one_further at None = refl
one_further at (Some n) = ap Some (let e : at + (n + 1) ≡ (at + 1) + n = omega arith in e)

drop_first : {X : Type 0} (at : ℕ) (xs : List X) (y : X) (ys : List X) → drop at xs ≡ y ∷ ys → drop (suc at) xs ≡ ys
drop_first zero (x ∷ xs) y ys e = cc
drop_first zero [] y ys e = cc
drop_first (suc at) [] y ys e = cc
drop_first (suc at) (x ∷ xs) y ys e = drop_first at xs y ys e

missed : (at : ℕ) (hs : List hb_glyph_info_t) → begins_with_three (strip hs) ≡ false → first_three (strip hs) ≡ option_map (λ n. n + 1) (first_three (strip (drop 1 hs)))
missed at [] e = refl
missed at (h ∷ hs) e = ap (λ b. if b then Some 0 else option_map (λ n. n + 1) (first_three (strip hs))) e

pub next_met : (at : ℕ) (gs : List hb_glyph_info_t) → begins_with_three (strip (drop at gs)) ≡ false → NoneMet at gs → NoneMet (at + 1) gs
next_met at gs e m = record {
  rest =
      m.rest ∙ ap (option_map (λ n. at + n)) (missed at (drop at gs) e)
      ∙ one_further at (first_three (strip (drop 1 (drop at gs))))
      ∙ ap (λ hs. option_map (λ n. (at + 1) + n) (first_three (strip hs))) (drop-drop 1 at gs);
}

pub next_missed : (at : ℕ) (gs : List hb_glyph_info_t) (b : Bool) → b ≡ begins_with_three (strip (take (length gs - at) (drop at gs))) → b ≡ false → NoneMet at gs → NoneMet (at + 1) gs
next_missed at gs b e f m =
    let whole : take (length gs - at) (drop at gs) ≡ drop at gs = take_all (length gs - at) (drop at gs) (omega (arith, length-drop at gs)) in
    next_met at gs (ap (λ hs. begins_with_three (strip hs)) (sym whole) ∙ sym e ∙ f) m

hit : (hs : List hb_glyph_info_t) → begins_with_three (strip hs) ≡ true → first_three (strip hs) ≡ Some 0
hit [] e = cc
hit (h ∷ hs) e = ap (λ b. if b then Some 0 else option_map (λ n. n + 1) (first_three (strip hs))) e

pub met_three : (at : ℕ) (gs : List hb_glyph_info_t) → begins_with_three (strip (drop at gs)) ≡ true → NoneMet at gs → (Some at ≡ first_three (strip gs)) × (0 + (at + 3) ≤ length gs)
met_three at gs e m =
    let there = three_there (strip (drop at gs)) e in (
      sym (m.rest ∙ ap (option_map (λ n. at + n)) (hit (drop at gs) e) ∙ ap Some (let z : at + 0 ≡ at = omega arith in z)),
      omega (arith, there, length-map (drop at gs) item_of, length-drop at gs),
    )

pub met_none : (at : ℕ) (gs : List hb_glyph_info_t) → length gs ≤ at → NoneMet at gs → None ≡ first_three (strip gs)
met_none at gs le m = sym (m.rest ∙ ap (λ hs. option_map (λ n. at + n) (first_three (strip hs))) (drop_all at gs le))

-- ---- the swap

pub none_swapped : (start : ℕ) (s : Sides) → IsReady s → IsFollowed (always (with_swapped start None)) s s
none_swapped start s ready = record { follows = refl; settings = refl; ready = ready }

pub swap_followed : (at start n : ℕ) (s new : Sides) → at ≡ start + (n + 1) → IsFollowed (always (with_move at (at + 1 - at) (at + 2 - (at + 1)))) s new → IsFollowed (always (with_swapped start (Some n))) s new
swap_followed at start n s new e f =
    let one : at + 1 - at ≡ 1 = omega arith in
    let two : at + 2 - (at + 1) ≡ 1 = omega arith in
    subst (λ (i : ℕ). IsFollowed (always (with_move i 1 1)) s new) e
    (subst (λ (k : ℕ). IsFollowed (always (with_move at 1 k)) s new) two (subst (λ (k : ℕ). IsFollowed (always (with_move at k (at + 2 - (at + 1)))) s new) one f))

pub within_run : (gs : List hb_glyph_info_t) (start end : ℕ) (o : Option ℕ) → start ≤ end → end ≤ length gs → IsThreeWithin 0 o (length (slice_range gs start end)) → IsThreeWithin start o end
within_run gs start end None a b w = tt
within_run gs start end (Some n) a b w = (let long = length-take-le (end - start) (drop start gs) (omega (arith, a, b, length-drop start gs)) in omega (arith, w, long, a))

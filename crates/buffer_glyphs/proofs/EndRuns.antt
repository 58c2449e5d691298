-- The run at the end of a list.
use Rattle.std.proofs.Common.{ℕ, suc, zero, ◌≡◌, ◌≢◌, ◌≤◌, ◌<◌, ◌-◌, ◌==◌, ◌&&◌, true, false, List, [], ◌∷◌, ◌++◌, Some, length, map, take, drop, get_or, arith, refl, ap, sym}
use Rattle.std.specs.List.{list_all}
use borrow.Rule.Slice.PartMut.{put_mid}
use Rattle.std.proofs.lemmas.Grind.{common_steps}
use Rattle.std.proofs.lemmas.List.{drop_all, take_all, length-drop, append-nil}
use Rattle.buffer_glyphs.specs.declared.info.hb_glyph_info_t.{hb_glyph_info_t as Glyph}
use Rattle.buffer_glyphs.specs.Items.{clusters}
use Rattle.buffer_glyphs.specs.Parts.{last_of}
use Rattle.buffer_glyphs.specs.Deleting.{recast, end_recast_from, end_recast, IsEndRun}

one_fails : (p i : ℕ) (gs : List Glyph) (d : Glyph) → i < length gs → (get_or gs i d).cluster ≢ p → list_all (λ (k : Glyph). k.cluster == p) gs ≡ false
one_fails p i [] d lt ne = absurd (omega arith)
one_fails p zero (g ∷ gs) d lt ne =
    let off : (g.cluster == p) ≡ false = grind (arith, common_steps, ne) in
    rw off refl
one_fails p (suc i) (g ∷ gs) d lt ne =
    let rest = one_fails p i gs d (omega (arith, lt)) ne in
    rw rest (elim (g.cluster == p) as (λ t. (t && false) ≡ false) [ true ↦ refl | false ↦ refl ])

-- the run at the end of a list, recast
pub end_parts : (p at : ℕ) (g : Glyph) (gs : List Glyph) → at ≤ length gs → IsEndRun p at gs → end_recast_from p g gs ≡ take at gs ++ map (recast g.cluster g.mask) (drop at gs)
end_parts p zero g [] le run = refl
end_parts p (suc i) g [] le run = refl
end_parts p zero g (h ∷ hs) le run = rw run.all refl
end_parts p (suc i) g (h ∷ hs) le run =
    let off : list_all (λ (k : Glyph). k.cluster == p) (h ∷ hs) ≡ false = one_fails p i (h ∷ hs) h (omega (arith, le)) (run.first i h (omega arith)) in
    let rest = end_parts p i g hs (omega (arith, le)) (record { all = run.all; first = λ j d e. run.first (suc j) d (omega (arith, e)) }) in
    rw off (ap (λ ks. h ∷ ks) rest)

pub end_put : (p at : ℕ) (g : Glyph) (gs range : List Glyph) → at ≤ length gs → last_of (clusters gs) ≡ Some p → IsEndRun p at gs → range ≡ map (recast g.cluster g.mask) (take (length gs - at) (drop at gs)) → put_mid at (length gs - at) gs range ≡ end_recast g gs
end_put p at g gs range le last run e =
    let few : length (drop at gs) ≤ length gs - at = omega (arith, length-drop at gs) in
    let none : drop (length gs - at) (drop at gs) ≡ [] = drop_all (length gs - at) (drop at gs) few in
    let all : take (length gs - at) (drop at gs) ≡ drop at gs = take_all (length gs - at) (drop at gs) few in
    rw (last, e, none, all, append-nil (map (recast g.cluster g.mask) (drop at gs))) (sym (end_parts p at g gs le run))

pub end_of_none : (g : Glyph) (gs : List Glyph) → length gs ≡ 0 → gs ≡ end_recast g gs
end_of_none g [] e = refl
end_of_none g (h ∷ hs) e = cc

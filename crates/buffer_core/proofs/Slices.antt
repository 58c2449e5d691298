-- Lists that were written through slices of them.
use Rattle.std.specs.Global.{Vec}
use Rattle.std.specs.Vec.{with_items}
use borrow.Rule.Slice.PartMut.{put_mid}
use Rattle.std.proofs.Common.{ℕ, ◌≡◌, ◌≤◌, ◌+◌, ◌-◌, List, [], ◌∷◌, ◌++◌, refl, length, map, take, drop, arith, ap, sym, ◌∙◌}
use Rattle.std.proofs.lemmas.List.{with_items_is, append-nil, drop_all, drop_at, length-append, length-drop, length-take-le, map-append, take-append-drop}
use Rattle.buffer_glyphs.specs.declared.info.hb_glyph_info_t.{hb_glyph_info_t}
use Rattle.buffer_glyphs.specs.declared.position.GlyphPosition.{GlyphPosition}
use Rattle.buffer_glyphs.specs.Items.{clusters}

-- all of a list
pub all_put : (v : Vec hb_glyph_info_t) (ws gs : List hb_glyph_info_t) → v.len ≡ length v.items → ws ≡ gs → length gs ≡ length v.items → (with_items v ws).items ≡ gs
all_put v ws gs counted e long = with_items_is v ws (ap length e ∙ long ∙ sym counted) ∙ e

pub all_put_positions : (v : Vec GlyphPosition) (ws ps : List GlyphPosition) → v.len ≡ length v.items → ws ≡ ps → length ps ≡ length v.items → (with_items v ws).items ≡ ps
all_put_positions v ws ps counted e long = with_items_is v ws (ap length e ∙ long ∙ sym counted) ∙ e

-- n elements from an index on, of a list that reads as r
pub part_put : (v : Vec hb_glyph_info_t) (r new : List hb_glyph_info_t) (at n : ℕ) → v.len ≡ length v.items → r ≡ v.items → at + n ≤ length v.items → length new ≡ n
    → (with_items v (put_mid at n r new)).items ≡ take at v.items ++ (new ++ drop n (drop at v.items))
part_put v r new at n counted is within long =
    let xs = v.items in
    let seen : put_mid at n r new ≡ take at xs ++ (new ++ drop n (drop at xs)) = ap (λ ys. put_mid at n ys new) is in
    let one = length-append (take at xs) (new ++ drop n (drop at xs)) in
    let two = length-append new (drop n (drop at xs)) in
    let three : length (take at xs) ≡ at = length-take-le at xs (omega (arith, within)) in
    let four = length-drop n (drop at xs) in
    let five = length-drop at xs in
    all_put v (put_mid at n r new) (take at xs ++ (new ++ drop n (drop at xs))) counted seen (omega (arith, one, two, three, four, five, long, within))

-- all elements from an index on
pub rest_put : (v : Vec hb_glyph_info_t) (r new : List hb_glyph_info_t) (at : ℕ) → v.len ≡ length v.items → r ≡ v.items → at ≤ length v.items → length new ≡ length r - at
    → (with_items v (put_mid at (length r - at) r new)).items ≡ take at v.items ++ new
rest_put v r new at counted is within long =
    let count : length r ≡ length v.items = ap length is in
    let five = length-drop at v.items in
    let none : drop (length r - at) (drop at v.items) ≡ [] = drop_all (length r - at) (drop at v.items) (omega (arith, count, five)) in
    part_put v r new at (length r - at) counted is (omega (arith, count, within)) long ∙ ap (λ ys. take at v.items ++ (new ++ ys)) none ∙ ap (λ ys. take at v.items ++ ys) (append-nil new)

pub rest_is : (v : Vec hb_glyph_info_t) (r new : List hb_glyph_info_t) (at : ℕ) → v.len ≡ length v.items → r ≡ v.items → at ≤ length v.items → length new ≡ length r - at
    → drop at (with_items v (put_mid at (length r - at) r new)).items ≡ new
rest_is v r new at counted is within long = ap (drop at) (rest_put v r new at counted is within long) ∙ drop_at (take at v.items) new at (length-take-le at v.items within)

-- what keeps the cluster of each glyph keeps those of a list of which a part was written by it
seen_kept : (f : hb_glyph_info_t → hb_glyph_info_t) → ((g : hb_glyph_info_t) → (f g).cluster ≡ g.cluster) → (gs : List hb_glyph_info_t) → clusters (map f gs) ≡ clusters gs
seen_kept f same [] = refl
seen_kept f same (g ∷ gs) = rw (same g, seen_kept f same gs) refl

pub part_kept : (f : hb_glyph_info_t → hb_glyph_info_t) → ((g : hb_glyph_info_t) → (f g).cluster ≡ g.cluster) → (at n : ℕ) (gs : List hb_glyph_info_t) → clusters (take at gs ++ (map f (take n (drop at gs)) ++ drop n (drop at gs))) ≡ clusters gs
part_kept f same at n gs =
    let v : hb_glyph_info_t → ℕ = λ g. g.cluster in
    let mid = take n (drop at gs) in
    let back = drop n (drop at gs) in
    map-append v (take at gs) (map f mid ++ back)
    ∙ ap (λ ns. clusters (take at gs) ++ ns) (map-append v (map f mid) back ∙ ap (λ ns. ns ++ clusters back) (seen_kept f same mid) ∙ sym (map-append v mid back) ∙ ap clusters (take-append-drop n (drop at gs)))
    ∙ sym (map-append v (take at gs) (drop at gs)) ∙ ap clusters (take-append-drop at gs)

pub rest_kept : (f : hb_glyph_info_t → hb_glyph_info_t) → ((g : hb_glyph_info_t) → (f g).cluster ≡ g.cluster) → (at : ℕ) (gs : List hb_glyph_info_t) → clusters (take at gs ++ map f (drop at gs)) ≡ clusters gs
rest_kept f same at gs =
    let v : hb_glyph_info_t → ℕ = λ g. g.cluster in
    map-append v (take at gs) (map f (drop at gs)) ∙ ap (λ ns. clusters (take at gs) ++ ns) (seen_kept f same (drop at gs)) ∙ sym (map-append v (take at gs) (drop at gs)) ∙ ap clusters (take-append-drop at gs)

-- Ranges of two lists whose clusters stand in one order.
use Rattle.std.specs.Prelude.{slice_range}
use Rattle.std.proofs.Common.{ℕ, ◌≡◌, ◌≤◌, ◌-◌, true, false, inl, inr, List, ◌++◌, length, take, drop, refl, ap, sym, subst, append_assoc, ◌∙◌}
use Rattle.std.proofs.lemmas.List.{drop_at, map-append}
use Rattle.buffer_glyphs.specs.declared.info.hb_glyph_info_t.{hb_glyph_info_t}
use Rattle.buffer_glyphs.specs.Items.{clusters}
use Rattle.buffer_glyphs.specs.Order.{IsOrdered}
use Rattle.buffer_glyphs.specs.Lemmas.Drawn.{IsDrawn, drawn_second, drawn_drop, drawn_take}
use Rattle.buffer_glyphs.specs.Lemmas.Parts.{order_drawn}
use Rattle.buffer_glyphs.specs.Lemmas.Glyphs.{cut_out, range_clusters}
use Rattle.buffer_glyphs.specs.Lemmas.Merges.{chain_left, chain_right}
use Rattle.buffer_glyphs.proofs.Joined.{order_second as ahead_known}

-- what is drawn from a list in order is in order
stays_so : {xs ys : List ℕ} → IsDrawn xs ys → IsOrdered xs → IsOrdered ys
stays_so d o = elim o [ inl rises ↦ inl (order_drawn false d rises) | inr falls ↦ inr (order_drawn true d falls) ]

-- a range of the second of two lists is in order after the first
pub range_known : (output input : List hb_glyph_info_t) (start end : ℕ) → IsOrdered (clusters output ++ clusters input) → IsOrdered (clusters output ++ clusters (slice_range input start end))
range_known output input start end o =
    let past = stays_so (drawn_second (clusters output) (drawn_drop start (clusters input))) o in
    let cut = stays_so (drawn_second (clusters output) (drawn_take (end - start) (drop start (clusters input)))) past in
    subst (λ ns. IsOrdered (clusters output ++ ns)) (range_clusters input start end) cut

-- a range of the first of two lists is in order before the second
pub range_ordered : (out : List hb_glyph_info_t) (ns : List ℕ) (start end : ℕ) → start ≤ end → IsOrdered (clusters out ++ ns) → IsOrdered (clusters (slice_range out start end) ++ ns)
range_ordered out ns start end le o =
    let cluster_of : hb_glyph_info_t → ℕ = λ g. g.cluster in
    let front = clusters (take start out) in
    let range = clusters (slice_range out start end) in
    let back = clusters (drop end out) in
    let cut : clusters out ≡ front ++ (range ++ back) = ap clusters (sym (cut_out start end out le)) ∙ map-append cluster_of (take start out ++ slice_range out start end) (drop end out) ∙ ap (λ ns. ns ++ back) (map-append cluster_of (take start out) (slice_range out start end)) ∙ append_assoc front range back in
    let whole : clusters out ++ ns ≡ front ++ (range ++ (back ++ ns)) = ap (λ ms. ms ++ ns) cut ∙ append_assoc front (range ++ back) ns ∙ ap (λ ms. front ++ ms) (append_assoc range back ns) in
    let near = ahead_known front (range ++ (back ++ ns)) (subst IsOrdered whole o) in
    subst (λ ms. IsOrdered (range ++ ms)) (drop_at back ns (length back) refl) (stays_so (drawn_second range (drawn_drop (length back) (back ++ ns))) near)

pub front_ordered : (xs ys : List ℕ) → IsOrdered (xs ++ ys) → IsOrdered xs
front_ordered xs ys o = elim o [ inl rises ↦ inl (chain_left (λ m n. m ≤ n) xs ys rises) | inr falls ↦ inr (chain_left (λ m n. n ≤ m) xs ys falls) ]

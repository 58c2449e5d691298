-- A part of a buffer that merged and whose glyphs then changed their order.
use Rattle.std.proofs.Common.{ℕ, zero, suc, ◌≡◌, ◌≤◌, ◌+◌, ◌-◌, Bool, true, List, [], ◌∷◌, ◌++◌, length, map, take, drop, Some, slice_get, refl, sym, ap, subst, ◌∙◌, arith}
use Rattle.std.specs.Prelude.{slice_range}
use Rattle.std.specs.List.{list_all}
use Rattle.std.proofs.lemmas.Grind.{common_steps}
use Rattle.std.proofs.lemmas.List.{length-append, length-drop, length-map, length-take-le, map-append, take-map, drop-map}
use Rattle.buffer_glyphs.specs.declared.info.hb_glyph_info_t.{hb_glyph_info_t}
use Rattle.buffer_glyphs.specs.Items.{Item, clusters, item_of, strip}
use Rattle.buffer_glyphs.specs.Levels.{InList, manner}
use Rattle.buffer_glyphs.specs.Origins.{with_range_arranged, origins_merged_as, origin_of, origins}
use Rattle.buffer_glyphs.specs.Events.{Merge}
use Rattle.buffer_lists.specs.Lemmas.Picked.{AreAt, arranged_as}
use Rattle.buffer_core.specs.Readings.{View}
use Rattle.buffer_lists.specs.declared.order.KnownOrder.{KnownOrder}
use Rattle.buffer_lists.specs.Known.{HasOrder}
use Rattle.buffer_core.specs.Sides.{Sides, all_glyphs, items_of, origins_of, view_of}
use Rattle.buffer_core.specs.Lending.{with_refilled}
use Rattle.buffer_stages.specs.Stages.{Happens}
use Rattle.buffer_stages.specs.Moves.{are_one_cluster}
use Rattle.buffer_stages.specs.Ordering.{merged_in_order}
use Rattle.buffer_stages.specs.SyllableBuffers.{IsRewritten}
use Rattle.buffer_stages.specs.Lemmas.Written.{written_all, written_ready}
use Rattle.buffer_stages.specs.Lemmas.Ordered.{clusters_among}
use Rattle.buffer_stages.specs.Lemmas.Rewritings.{counted}
use Rattle.buffer_stages.specs.Lemmas.Parts.{order_put, part_clusters, range_size, between as part_length, part_seen}
use Rattle.buffer_glyphs.specs.Lemmas.Origins.{slice_seen as range_seen}

-- ---- what stands at indices

-- is seen there
pub at_seen : {X Y : Type 0} (v : X → Y) (all : List X) (is : List ℕ) (zs : List X) → AreAt all is zs → AreAt (map v all) is (map v zs)
at_seen v all [] [] h = tt
at_seen v all [] (z ∷ zs) h = absurd h
at_seen v all (i ∷ is) [] h = absurd h
at_seen {X = X} v all (i ∷ is) (z ∷ zs) h = (one all i h.0, at_seen v all is zs h.1)
  where
    one : (xs : List X) (j : ℕ) → slice_get xs j ≡ Some z → slice_get (map v xs) j ≡ Some (v z)
    one [] j e = cc
    one (x ∷ xs) zero e = let same : x ≡ z = cc in ap (λ k. Some (v k)) same
    one (x ∷ xs) (suc j) e = one xs j e

-- is as much as the indices are
pub at_many : {X : Type 0} (all : List X) (is : List ℕ) (zs : List X) → AreAt all is zs → length zs ≡ length is
at_many all [] [] h = refl
at_many all [] (z ∷ zs) h = absurd h
at_many all (i ∷ is) [] h = absurd h
at_many all (i ∷ is) (z ∷ zs) h = ap suc (at_many all is zs h.1)

-- passes a test that all pass
pub at_all : {X : Type 0} (p : X → Bool) (all : List X) (is : List ℕ) (zs : List X) → AreAt all is zs → list_all p all ≡ true → list_all p zs ≡ true
at_all p all [] [] h e = refl
at_all p all [] (z ∷ zs) h e = absurd h
at_all p all (i ∷ is) [] h e = absurd h
at_all {X = X} p all (i ∷ is) (z ∷ zs) h e =
    let first : p z ≡ true = one all i h.0 e in
    let rest : list_all p zs ≡ true = at_all p all is zs h.1 e in
    grind (arith, common_steps, first, rest)
  where
    one : (xs : List X) (j : ℕ) → slice_get xs j ≡ Some z → list_all p xs ≡ true → p z ≡ true
    one [] j f g = cc
    one (x ∷ xs) zero f g = let same : x ≡ z = cc in let here : p x ≡ true = grind (arith, common_steps, g) in ap p (sym same) ∙ here
    one (x ∷ xs) (suc j) f g = let more : list_all p xs ≡ true = grind (arith, common_steps, g) in one xs j f more

-- ---- a part in the place of another

-- ---- glyphs in an order of their indices

-- as many, and where they are of one cluster, with the clusters that they had
pub arranged_order : (o : KnownOrder) (order : List ℕ) (from to : ℕ) (zs gs : List hb_glyph_info_t) (s t : Sides) → t ≡ s → from ≤ to → to ≤ length (all_glyphs s)
    → length order ≡ to - from → AreAt (slice_range (all_glyphs s) from to) order zs → gs ≡ take from (all_glyphs s) ++ zs ++ drop to (all_glyphs s)
    → ((hs : List hb_glyph_info_t) → (are_one_cluster (slice_range (all_glyphs s) from to) ≡ true → clusters hs ≡ clusters (all_glyphs s)) → HasOrder o (clusters hs))
    → HasOrder o (clusters (all_glyphs (with_refilled gs t)))
arranged_order o order from to zs gs s t same le fits count there e kept =
    let hs = all_glyphs s in
    let range = slice_range hs from to in
    let size : length zs ≡ to - from = at_many range order zs there ∙ count in
    let many : length zs ≡ length range = size ∙ sym (range_size from to hs le fits) in
    let long : length gs ≡ length hs = ap length e ∙ part_length from to hs zs le fits size in
    order_put o gs s t same long (kept gs (λ one. part_clusters from to zs gs hs le e (clusters_among range zs one many (λ p all. at_all p range order zs there all))))

-- glyphs that merged and were then put in an order
pub arranged_rewrites : (order : List ℕ) (ys : List Item) (from to : ℕ) (s merged : Sides) (zs gs : List hb_glyph_info_t) → from ≤ to → to ≤ length (all_glyphs s) → Happens (Merge InList from to ∷ []) s merged
    → length order ≡ to - from → AreAt (slice_range (all_glyphs merged) from to) order zs → strip zs ≡ ys
    → gs ≡ take from (all_glyphs merged) ++ zs ++ drop to (all_glyphs merged)
    → IsRewritten (merged_in_order order ys) from to s (with_refilled gs merged)
arranged_rewrites order ys from to s merged zs gs le fits h count there items e =
    let same : items_of merged ≡ items_of s = ap (λ (v : View). v.items) h.view in
    let many : length (all_glyphs merged) ≡ length (all_glyphs s) = sym (counted merged) ∙ ap (λ (xs : List Item). length xs) same ∙ counted s in
    let within_merged : to ≤ length (all_glyphs merged) = omega (arith, many, fits) in
    let range = slice_range (all_glyphs merged) from to in
    let os = origins_of merged in
    let part : take (length order) (drop from os) ≡ origins range = ap (λ n. take n (drop from os)) count ∙ sym (range_seen origin_of from to (all_glyphs merged)) in
    let moved : with_range_arranged from order os ≡ take from os ++ origins zs ++ drop (from + length order) os =
    arranged_as from order (origins zs) os (subst (λ ps. AreAt ps order (origins zs)) (sym part) (at_seen origin_of range order zs there)) (omega (arith, count, length-map (all_glyphs merged) origin_of, within_merged, le)) in
    let end : from + length order ≡ to = omega (arith, count, le) in
    let at : from + 0 ≡ from = omega arith in
    let size : length zs ≡ to - from = at_many range order zs there ∙ count in
    let long : length gs ≡ length (all_glyphs merged) = ap length e ∙ part_length from to (all_glyphs merged) zs le within_merged size in
    let all = written_all gs merged long in
    record {
      view = ap (λ (hs : List hb_glyph_info_t). record (view_of merged) { items = strip hs }) (all ∙ e)
          ∙ ap (λ xs. record (view_of merged) { items = xs }) (part_seen item_of from to (all_glyphs merged) zs ∙ ap (λ xs. take from (items_of merged) ++ xs ++ drop to (items_of merged)) items ∙ ap (λ xs. take from xs ++ ys ++ drop to xs) same)
          ∙ ap (λ (v : View). record v { items = take from (items_of s) ++ ys ++ drop to (items_of s) }) h.view;
      origins = ap origins (all ∙ e) ∙ part_seen origin_of from to (all_glyphs merged) zs ∙ ap (λ n. take from os ++ origins zs ++ drop n os) (sym end) ∙ sym moved
          ∙ ap (with_range_arranged from order) (h.origins ∙ ap (λ n. origins_merged_as (manner InList s.level) from n (origins_of s)) (sym end))
          ∙ ap (λ n. with_range_arranged n order (origins_merged_as (manner InList s.level) n (n + length order) (origins_of s))) (sym at);
      settings = h.settings;
      ready = written_ready gs merged long h.ready;
    }

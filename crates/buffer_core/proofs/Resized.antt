-- A list that was cut or filled, seen without clusters, or as clusters or flags alone.
use Rattle.std.specs.Prelude.{replicate}
use Rattle.std.proofs.Common.{ℕ, zero, suc, ◌≡◌, ◌-◌, ◌++◌, List, ◌∷◌, length, map, take, false, refl, ap, sym, ◌∙◌, min}
use Rattle.std.proofs.lemmas.List.{map-append, take-map, take-append-drop, length-map}
use Rattle.std.specs.Global.{Vec}
use Rattle.buffer_glyphs.specs.declared.position.GlyphPosition.{GlyphPosition}
use Rattle.buffer_core.specs.declared.buffer.hb_buffer_t.TheInside.{Inside}
use Rattle.buffer_lists.specs.declared.order.ClusterOrder.{ClusterOrder}
use Rattle.buffer_core.specs.Inside.{sides_of}
use Rattle.buffer_glyphs.specs.declared.info.hb_glyph_info_t.{hb_glyph_info_t}
use Rattle.buffer_glyphs.specs.Items.{item_of, strip, zero_position}
use Rattle.buffer_core.specs.Moving.{of_length, with_len, zero_glyph}
use Rattle.buffer_core.specs.Sides.{Sides, all_glyphs, items_of, origins_of}
use Rattle.buffer_core.specs.Text.{unflagged_origin}
use Rattle.buffer_glyphs.specs.Origins.{origin_of, origins}

map_copies : {X Y : Type 0} (v : X → Y) (n : ℕ) (x : X) → map v (replicate n x) ≡ replicate n (v x)
map_copies v zero x = refl
map_copies v (suc n) x = ap (λ ys. v x ∷ ys) (map_copies v n x)

seen : {X Y : Type 0} (v : X → Y) (n : ℕ) (x : X) (xs : List X) → map v (of_length n x xs) ≡ of_length n (v x) (map v xs)
seen v n x xs =
    map-append v (take n xs) (replicate (n - length xs) x) ∙ ap (λ ys. ys ++ map v (replicate (n - length xs) x)) (sym (take-map v n xs))
    ∙ ap (λ ys. take n (map v xs) ++ ys) (map_copies v (n - length xs) x ∙ ap (λ m. replicate (n - m) (v x)) (sym (length-map xs v)))

all_of_len : (n : ℕ) (s : Sides) → all_glyphs (with_len n s) ≡ of_length n zero_glyph (all_glyphs s)
all_of_len n s = take-append-drop (min s.read n) (of_length n zero_glyph (all_glyphs s))

pub len_items : (n : ℕ) (s : Sides) → items_of (with_len n s) ≡ of_length n (item_of zero_glyph) (items_of s)
len_items n s = ap strip (all_of_len n s) ∙ seen item_of n zero_glyph (all_glyphs s)

pub len_origins : (n : ℕ) (s : Sides) → origins_of (with_len n s) ≡ of_length n (unflagged_origin 0) (origins_of s)
len_origins n s = ap origins (all_of_len n s) ∙ seen origin_of n zero_glyph (all_glyphs s)

pub resized_view : (b : Inside) (info : Vec hb_glyph_info_t) (positions : Vec GlyphPosition) (order : ClusterOrder) (idx n : ℕ) → b.have_output ≡ false → info.items ≡ of_length n zero_glyph b.info.items → positions.items ≡ of_length n zero_position b.pos.items → idx ≡ min b.idx n
    → sides_of (record b { info = info; pos = positions; idx = idx; order = order }) ≡ with_len n (sides_of b)
resized_view b info positions order idx n h i p e = rw (h, i, p, e, take-append-drop b.idx b.info.items) refl

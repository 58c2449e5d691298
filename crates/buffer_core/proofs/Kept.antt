-- Glyphs that only change positions.
use Rattle.std.proofs.Common.{ℕ, zero, suc, ◌≡◌, ◌+◌, ◌++◌, arith, false, List, [], ◌∷◌, map, take, drop, reverse, refl, ap, sym, ◌∙◌, append_assoc}
use Rattle.std.proofs.lemmas.Grind.{reverse_onto}
use Rattle.std.proofs.lemmas.List.{map-append, take-append-drop, drop-drop}
use Rattle.buffer_glyphs.specs.declared.info.hb_glyph_info_t.{hb_glyph_info_t}
use Rattle.buffer_glyphs.specs.Items.{item_of, strip}
use Rattle.std.specs.Global.{Vec}
use Rattle.buffer_glyphs.specs.declared.position.GlyphPosition.{GlyphPosition}
use Rattle.buffer_core.specs.declared.buffer.hb_buffer_t.TheInside.{Inside}
use Rattle.buffer_glyphs.specs.Replacements.{glyph_numbered}
use Rattle.buffer_core.specs.Merging.{with_replaced_glyph}
use Rattle.buffer_core.specs.Inside.{sides_of}
use Rattle.buffer_core.specs.Sides.{Sides, all_glyphs, items_of, after_next_glyphs, after_reverse, origins_of}
use Rattle.buffer_glyphs.specs.Origins.{origin_of}

-- glyphs that are appended behind the cursor stay in the list
pub moved_all : (n : ℕ) (s : Sides) → all_glyphs (after_next_glyphs n s) ≡ all_glyphs s
moved_all n s = append_assoc s.behind (take n s.ahead) (drop n s.ahead) ∙ ap (λ gs. s.behind ++ gs) (take-append-drop n s.ahead)

pub all_reversed : (s : Sides) → all_glyphs (after_reverse s) ≡ reverse (all_glyphs s)
all_reversed s = take-append-drop s.read (reverse (all_glyphs s))

pub map-reverse : {X Y : Type 0} (f : X → Y) (xs : List X) → map f (reverse xs) ≡ reverse (map f xs)
map-reverse f [] = refl
map-reverse f (x ∷ xs) = rw (reverse_onto xs x [], map-append, map-reverse f xs, reverse_onto (map f xs) (f x) []) refl

pub reversed_items : (s : Sides) → items_of (after_reverse s) ≡ reverse (items_of s)
reversed_items s = ap strip (all_reversed s) ∙ map-reverse item_of (all_glyphs s)

-- both vectors reversed
pub turned_view : (b : Inside) (info : Vec hb_glyph_info_t) (positions : Vec GlyphPosition) → b.have_output ≡ false → info.items ≡ reverse b.info.items → positions.items ≡ reverse b.pos.items
    → sides_of (record b { info = info; pos = positions }) ≡ after_reverse (sides_of b)
turned_view b info positions h i p = rw (h, i, p, take-append-drop b.idx b.info.items) refl

-- a glyph that is appended behind the cursor under another number
renumbered_seen : {Y : Type 0} (v : hb_glyph_info_t → Y) → ((g : hb_glyph_info_t) (n : ℕ) → v (glyph_numbered g n) ≡ v g) → (n : ℕ) (behind ahead : List hb_glyph_info_t)
    → map v ((behind ++ map (λ (g : hb_glyph_info_t). glyph_numbered g n) (take 1 ahead)) ++ drop 1 ahead) ≡ map v (behind ++ ahead)
renumbered_seen v same n behind [] = ap (map v) (append_assoc behind [] [])
renumbered_seen v same n behind (g ∷ gs) =
    ap (map v) (append_assoc behind (glyph_numbered g n ∷ []) gs) ∙ map-append v behind (glyph_numbered g n ∷ gs) ∙ ap (λ y. map v behind ++ y ∷ map v gs) (same g n) ∙ sym (map-append v behind (g ∷ gs))

pub renumbered_origins : (n : ℕ) (s : Sides) → origins_of (with_replaced_glyph n s) ≡ origins_of s
renumbered_origins n s = renumbered_seen origin_of (λ g m. refl) n s.behind s.ahead

no_take : (m : ℕ) (none : List hb_glyph_info_t) → none ≡ [] → take m none ≡ none
no_take zero none e = sym e
no_take (suc m) [] e = refl
no_take (suc m) (x ∷ xs) e = cc

-- a longer front is the front and what follows it
pub take_on : (xs : List hb_glyph_info_t) (n k : ℕ) → take (n + k) xs ≡ take n xs ++ take k (drop n xs)
take_on xs zero k = let same : 0 + k ≡ k = omega arith in ap (λ m. take m xs) same
take_on [] (suc n) k =
    let more : suc n + k ≡ suc (n + k) = omega arith in
    let rest : take k [] ≡ [] = no_take k [] refl in
    ap (λ m. take m []) more ∙ sym rest
take_on (x ∷ xs) (suc n) k = let more : suc n + k ≡ suc (n + k) = omega arith in ap (λ m. take m (x ∷ xs)) more ∙ ap (λ gs. x ∷ gs) (take_on xs n k)

-- the cursor moves on with no output open
pub moved_closed : (b : Inside) (k : ℕ) → b.have_output ≡ false → sides_of (record b { idx = b.idx + k }) ≡ after_next_glyphs k (sides_of b)
moved_closed b k h = rw (h, take_on b.info.items b.idx k, ← drop-drop k b.idx b.info.items) refl

-- A text whose graphemes are single characters.
use Rattle.std.proofs.Common.{ℕ, ◌≡◌, ◌+◌, ◌-◌, ◌==◌, not, false, List, [], ◌∷◌, map, drop, suc, refl, sym, ap, ap₂, ◌∙◌, arith}
use Rattle.std.specs.Prelude.{bit_and}
use Rattle.std.specs.List.{list_any, prefix_len}
use Rattle.std.proofs.lemmas.Bool.{or_parts}
use Rattle.std.proofs.lemmas.Grind.{common_steps}
use Rattle.buffer_glyphs.specs.declared.info.hb_glyph_info_t.{hb_glyph_info_t}
use Rattle.buffer_glyphs.specs.declared.level.BufferClusterLevel.{BufferClusterLevel}
use Rattle.buffer_glyphs.specs.Items.{Item, item_of, strip}
use Rattle.buffer_glyphs.specs.Origins.{Asks, Origin}
use Rattle.buffer_glyphs.specs.Events.{origins_after}
use Rattle.buffer_core.specs.Graphemes.{continues}
use Rattle.buffer_core.specs.Readings.{always}
use Rattle.buffer_core.specs.Sides.{Sides, all_glyphs, flag_requests_of, items_of, origins_of, view_of}
use Rattle.buffer_lists.specs.Runs as Runs
use Rattle.buffer_stages.specs.Ready.{IsReady}
use Rattle.buffer_stages.specs.Stages.{Happens, IsFollowed, with_items_mapped}
use Rattle.buffer_stages.specs.Lemmas.Written.{read_followed}
use Rattle.shape_text.specs.Clusters.{grapheme_events, grapheme_lengths}
use Rattle.shape_text.specs.NativeOrder.{without_continuation}
use Rattle.shape_text.proofs.Formed.{alone_unchanged, lengths_of}
use Rattle.buffer_facts.proofs.Numbers.{zero_by_test as zero_bits}

-- no character continues a grapheme
abbrev AreAlone : List hb_glyph_info_t → Type 0
AreAlone gs = list_any (λ (g : hb_glyph_info_t). continues (item_of g)) gs ≡ false

rest_alone : (g : hb_glyph_info_t) (gs : List hb_glyph_info_t) → AreAlone (g ∷ gs) → (continues (item_of g) ≡ false) × AreAlone gs
rest_alone g gs e = or_parts (continues (item_of g)) (list_any (λ (h : hb_glyph_info_t). continues (item_of h)) gs) e

-- ---- graphemes

front_alone : (gs : List hb_glyph_info_t) → AreAlone gs → prefix_len Runs.continues gs ≡ 0
front_alone [] e = refl
front_alone (g ∷ gs) e = rw (rest_alone g gs e).0 refl

lengths_alone : (g : hb_glyph_info_t) (gs : List hb_glyph_info_t) → AreAlone gs → grapheme_lengths (strip (g ∷ gs)) ≡ 1 ∷ grapheme_lengths (strip gs)
lengths_alone g gs e =
    let one : Runs.grapheme_length (g ∷ gs) ≡ 1 = ap suc (front_alone gs e) in
    lengths_of g gs ∙ ap (λ n. n ∷ grapheme_lengths (drop n (strip (g ∷ gs)))) one

all_unchanged : (level : BufferClusterLevel) (asks : Asks) (at : ℕ) (gs : List hb_glyph_info_t) (os : List Origin) → AreAlone gs → origins_after asks level (grapheme_events level at (grapheme_lengths (strip gs))) os ≡ os
all_unchanged level asks at [] os e = refl
all_unchanged level asks at (g ∷ gs) os e =
    let rest = (rest_alone g gs e).1 in
    ap (λ lens. origins_after asks level (grapheme_events level at lens) os) (lengths_alone g gs rest)
    ∙ ap (λ qs. origins_after asks level (grapheme_events level (at + 1) (grapheme_lengths (strip gs))) qs) (alone_unchanged level at asks os)
    ∙ all_unchanged level asks (at + 1) gs os rest

pub graphemes_stay : (s : Sides) → IsReady s → list_any (λ (g : hb_glyph_info_t). continues (item_of g)) (all_glyphs s) ≡ false → Happens (grapheme_events s.level 0 (grapheme_lengths (items_of s))) s s
graphemes_stay s ready e = record { view = refl; origins = sym (all_unchanged s.level (flag_requests_of s) 0 (all_glyphs s) (origins_of s) e); settings = refl; ready = ready }

-- ---- the continuation bit

item_stays : (x : Item) → continues x ≡ false → without_continuation x ≡ x
item_stays x e =
    let none = zero_bits (bit_and x.unicode_props 0x80) e in
    let same : x.unicode_props - bit_and x.unicode_props 0x80 ≡ x.unicode_props = omega (arith, none) in
    ap (λ w. record x { unicode_props = w }) same

items_stay : (gs : List hb_glyph_info_t) → AreAlone gs → map without_continuation (strip gs) ≡ strip gs
items_stay [] e = refl
items_stay (g ∷ gs) e = ap₂ (λ (y : Item) (ys : List Item). y ∷ ys) (item_stays (item_of g) (rest_alone g gs e).0) (items_stay gs (rest_alone g gs e).1)

pub continuations_stay : (s : Sides) → IsReady s → list_any (λ (g : hb_glyph_info_t). continues (item_of g)) (all_glyphs s) ≡ false → IsFollowed (always (with_items_mapped without_continuation)) s s
continuations_stay s ready e =
    read_followed (with_items_mapped without_continuation) [] (view_of s) s s refl refl refl ready (ap (λ xs. record (view_of s) { items = xs }) (items_stay (all_glyphs s) e)) refl

-- Glyph flags are spread over clusters.
use Rattle.std.specs.Global.{Vec}
use Rattle.std.proofs.Common.{◌≡◌, ◌≤◌, ◌==◌, Bool, false, List, [], ◌∷◌, None, length, map, refl, ap, sym, ◌∙◌}
use Rattle.std.specs.Prelude.{bit_and}
use Rattle.std.proofs.lemmas.List.{take-append-drop, length-map, length-take-le}
use Rattle.buffer_glyphs.specs.declared.info.hb_glyph_info_t.{hb_glyph_info_t as Glyph}
use Rattle.buffer_glyphs.specs.Items.{clusters, item_masked, item_of, strip}
use Rattle.buffer_glyphs.specs.Origins.{Asks, numbers, origins, origins_spread}
use Rattle.buffer_glyphs.specs.Lemmas.Origins.{numbers_origins}
use Rattle.buffer_glyphs.specs.Lemmas.EventParts.{numbers_spread}
use Rattle.buffer_glyphs.specs.Events.{Spread}
use Rattle.buffer_core.specs.declared.buffer.hb_buffer_t.TheInside.{Inside}
use Rattle.buffer_core.specs.Inside.{sides_of}
use Rattle.buffer_core.specs.Merging.{with_glyphs}
use Rattle.buffer_core.specs.Sides.{Sides, all_glyphs, flag_requests_of, items_of, origins_by, origins_of}

-- the list is that of the input where no output is open
pub all_closed : (b : Inside) (info : Vec Glyph) → b.have_output ≡ false → all_glyphs (sides_of (record b { info = info })) ≡ info.items
all_closed b info h = rw h (take-append-drop b.idx info.items)

-- other glyphs in it leave the rest
pub glyphs_view : (b : Inside) (info : Vec Glyph) → b.have_output ≡ false → b.idx ≤ length b.info.items → sides_of (record b { info = info }) ≡ with_glyphs (all_glyphs (sides_of (record b { info = info }))) (sides_of b)
glyphs_view b info h le = rw (all_closed b info h, h, length-take-le b.idx b.info.items le) refl

pub spread_items : (b : Inside) (info : Vec Glyph) (s : Sides) → sides_of b ≡ s → b.have_output ≡ false → strip info.items ≡ map (item_masked 0) (strip b.info.items)
    → items_of (sides_of (record b { info = info })) ≡ map (item_masked 0) (items_of s)
spread_items b info s view h e = ap strip (all_closed b info h) ∙ e ∙ ap (λ gs. map (item_masked 0) (strip gs)) (sym (all_closed b b.info h)) ∙ ap (λ (t : Sides). map (item_masked 0) (items_of t)) view

pub spread_origins : (b : Inside) (info : Vec Glyph) (s : Sides) (asks : Asks) → sides_of b ≡ s → b.have_output ≡ false → asks ≡ flag_requests_of s → origins info.items ≡ origins_spread asks (origins b.info.items)
    → origins_of (sides_of (record b { info = info })) ≡ origins_by (Spread ∷ []) s
spread_origins b info s asks view h a e =
    ap origins (all_closed b info h) ∙ e ∙ ap (λ k. origins_spread k (origins b.info.items)) a ∙ ap (λ gs. origins_spread (flag_requests_of s) (origins gs)) (sym (all_closed b b.info h)) ∙ ap (λ (t : Sides). origins_spread (flag_requests_of s) (origins_of t)) view

-- clusters stay
pub clusters_spread : (asks : Asks) (gs hs : List Glyph) → origins hs ≡ origins_spread asks (origins gs) → clusters hs ≡ clusters gs
clusters_spread asks gs hs e = sym (numbers_origins hs) ∙ ap numbers e ∙ numbers_spread asks None (origins gs) ∙ numbers_origins gs

pub glyphs_same : (gs hs : List Glyph) → strip hs ≡ map (item_masked 0) (strip gs) → length hs ≡ length gs
glyphs_same gs hs e = sym (length-map hs item_of) ∙ ap length e ∙ length-map (strip gs) (item_masked 0) ∙ length-map gs item_of

pub asks_are : (s : Sides) (concat tatweel breaks : Bool) → concat ≡ (bit_and s.flags.0 64 == 64) → tatweel ≡ (bit_and s.flags.0 128 == 128) → breaks ≡ (bit_and s.flags.0 256 == 256)
    → record { concat = concat; tatweel = tatweel; breaks = breaks } ≡ flag_requests_of s
asks_are s concat tatweel breaks c t b = rw (c, t, b) refl

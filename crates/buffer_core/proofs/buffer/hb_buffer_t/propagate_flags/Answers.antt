use Rattle.std.specs.Vec.{with_items}
use Rattle.std.specs.Prelude.{bit_and}
use Rattle.std.proofs.Common.{◌≡◌, ◌==◌, false, length, map, refl, rules, arith, ap, ◌∙◌}
use Rattle.std.proofs.lemmas.Grind.{common_steps}
use Rattle.buffer_glyphs.specs.Items.{clusters, item_masked, strip}
use Rattle.buffer_glyphs.specs.Origins.{Asks, origins, origins_spread}
use Rattle.buffer_core.specs.Sides.{Sides}
use Rattle.buffer_core.specs.Inside.{sides_of}
use Rattle.buffer_core.specs.Merging.{with_glyphs}
use Rattle.buffer_core.specs.Sides.{all_glyphs}
use Rattle.buffer_core.proofs.Ordered.{sound_same}
use Rattle.buffer_core.proofs.Slices.{all_put}
use Rattle.buffer_core.proofs.Spread.{asks_are, clusters_spread, glyphs_same, glyphs_view, spread_items, spread_origins}
use Rattle.buffer_core.proofs.buffer.hb_buffer_t.propagate_flags.Goals as goal

closed : (c : goal.After-self-1) → c.self.inside.have_output ≡ false
closed c = rw (← c.self.view_is) at c.requires

abbrev asks : goal.After-self-1 → Asks
asks c = record { concat = c.asks_concat.result; tatweel = c.contains.result; breaks = c.asks_breaks.result }

-- the glyphs of the vector
put : (c : goal.After-self-1) → (with_items c.self.inside.info c.spread_glyph_flags.new.glyphs).items ≡ c.spread_glyph_flags.new.glyphs
put c =
    let b = c.self.inside in
    let in_info : b.info.len ≡ length b.info.items = first_of (search rules, grind (arith, common_steps)) in
    let same : strip c.spread_glyph_flags.new.glyphs ≡ map (item_masked 0) (strip b.info.items) = rw c.deref_mut.ensures.value at c.spread_glyph_flags.ensures.items in
    all_put b.info c.spread_glyph_flags.new.glyphs c.spread_glyph_flags.new.glyphs in_info refl (glyphs_same b.info.items c.spread_glyph_flags.new.glyphs same)

spread : (c : goal.After-self-1) → origins (with_items c.self.inside.info c.spread_glyph_flags.new.glyphs).items ≡ origins_spread (asks c) (origins c.self.inside.info.items)
spread c = ap origins (put c) ∙ (rw c.deref_mut.ensures.value at c.spread_glyph_flags.ensures.origins)

pub returns-clause-rest : goal.returns-clause-rest
returns-clause-rest c =
    let b = c.self.inside in
    let info = with_items b.info c.spread_glyph_flags.new.glyphs in
    glyphs_view b info (closed c) c.self.invariant.cursor ∙ ap (with_glyphs (all_glyphs (sides_of (record b { info = info })))) c.self.view_is

pub returns-clause-items : goal.returns-clause-items
returns-clause-items c =
    let b = c.self.inside in
    spread_items b (with_items b.info c.spread_glyph_flags.new.glyphs) c.args.self.now c.self.view_is (closed c) (ap strip (put c) ∙ (rw c.deref_mut.ensures.value at c.spread_glyph_flags.ensures.items))

pub returns-clause-origins : goal.returns-clause-origins
returns-clause-origins c =
    let b = c.self.inside in
    let tatweel = c.contains.ensures tt ∙ ap (λ (s : Sides). bit_and s.flags.0 128 == 128) c.self.view_is in
    spread_origins b (with_items b.info c.spread_glyph_flags.new.glyphs) c.args.self.now (asks c) c.self.view_is (closed c) (asks_are c.args.self.now c.asks_concat.result c.contains.result c.asks_breaks.result c.asks_concat.ensures tatweel c.asks_breaks.ensures) (spread c)

pub invariant_of-self : goal.invariant_of-self
invariant_of-self c = sound_same c.self.inside _ c.self.invariant (ap clusters (put c) ∙ clusters_spread (asks c) c.self.inside.info.items c.spread_glyph_flags.new.glyphs (rw c.deref_mut.ensures.value at c.spread_glyph_flags.ensures.origins))

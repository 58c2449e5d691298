use Rattle.std.specs.Vec.{with_items}
use Rattle.std.proofs.Common.{◌≡◌, map, length, rules, arith, ap, ◌∙◌}
use Rattle.std.proofs.lemmas.List.{length-map}
use Rattle.std.proofs.lemmas.Grind.{common_steps}
use Rattle.buffer_glyphs.specs.Items.{clusters}
use Rattle.buffer_lists.specs.Masks.{glyph_masked}
use Rattle.buffer_core.specs.Sides.{items_of, origins_of}
use Rattle.buffer_core.specs.Masks.{with_masks}
use Rattle.buffer_core.proofs.Masked.{mapped_view, masked_items, masked_origins, reset_origins}
use Rattle.buffer_core.proofs.Ordered.{clusters_masked, sound_same}
use Rattle.buffer_core.proofs.Slices.{all_put}
use Rattle.buffer_core.proofs.buffer.hb_buffer_t.reset_masks.Goals as goal

put : (c : goal.After-self-1) → (with_items c.self.inside.info c.reset_masks.new.glyphs).items ≡ map (glyph_masked c.args.mask) c.self.inside.info.items
put c =
    let b = c.self.inside in
    let f = glyph_masked c.args.mask in
    let in_info : b.info.len ≡ length b.info.items = first_of (search rules, grind (arith, common_steps)) in
    all_put b.info c.reset_masks.new.glyphs (map f b.info.items) in_info (rw c.deref_mut.ensures.value at c.reset_masks.ensures) (length-map b.info.items f)

pub returns-clause-masked : goal.returns-clause-masked
returns-clause-masked c = mapped_view (glyph_masked c.args.mask) c.self.inside (with_items c.self.inside.info c.reset_masks.new.glyphs) (put c) ∙ ap (with_masks c.args.mask) c.self.view_is

pub returns-clause-items : goal.returns-clause-items
returns-clause-items c = ap items_of (returns-clause-masked c) ∙ masked_items c.args.mask c.args.self.now

pub returns-clause-origins : goal.returns-clause-origins
returns-clause-origins c = ap origins_of (returns-clause-masked c) ∙ masked_origins c.args.mask c.args.self.now

pub returns-clause-event : goal.returns-clause-event
returns-clause-event c none = ap origins_of (returns-clause-masked c) ∙ reset_origins c.args.mask c.args.self.now none

pub invariant_of-self : goal.invariant_of-self
invariant_of-self c = sound_same c.self.inside _ c.self.invariant (ap clusters (put c) ∙ clusters_masked c.args.mask c.self.inside.info.items)

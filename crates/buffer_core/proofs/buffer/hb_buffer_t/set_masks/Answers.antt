use Rattle.std.specs.Vec.{with_items}
use Rattle.std.proofs.Common.{◌≡◌, map, length, rules, arith, ap, ◌∙◌}
use Rattle.std.proofs.lemmas.List.{length-map}
use Rattle.std.proofs.lemmas.Grind.{common_steps}
use Rattle.buffer_glyphs.specs.Items.{clusters}
use Rattle.buffer_lists.specs.Masks.{glyph_set}
use Rattle.buffer_core.specs.Sides.{items_of, origins_of}
use Rattle.buffer_core.specs.Masks.{with_set_masks}
use Rattle.buffer_core.proofs.Masked.{mapped_view, clusters_set, set_items, set_origins, kept_origins}
use Rattle.buffer_core.proofs.Ordered.{sound_same}
use Rattle.buffer_core.proofs.Slices.{all_put}
use Rattle.buffer_core.proofs.buffer.hb_buffer_t.set_masks.Goals as goal

put : (c : goal.After-self-1) → (with_items c.self.inside.info c.set_masks.new.glyphs).items ≡ map (glyph_set c.args.value c.args.mask c.args.cluster_start c.args.cluster_end) c.self.inside.info.items
put c =
    let b = c.self.inside in
    let f = glyph_set c.args.value c.args.mask c.args.cluster_start c.args.cluster_end in
    let in_info : b.info.len ≡ length b.info.items = first_of (search rules, grind (arith, common_steps)) in
    all_put b.info c.set_masks.new.glyphs (map f b.info.items) in_info (rw c.deref_mut.ensures.value at c.set_masks.ensures) (length-map b.info.items f)

pub returns-clause-set : goal.returns-clause-set
returns-clause-set c =
    mapped_view (glyph_set c.args.value c.args.mask c.args.cluster_start c.args.cluster_end) c.self.inside (with_items c.self.inside.info c.set_masks.new.glyphs) (put c)
    ∙ ap (with_set_masks c.args.value c.args.mask c.args.cluster_start c.args.cluster_end) c.self.view_is

pub returns-clause-items : goal.returns-clause-items
returns-clause-items c = ap items_of (returns-clause-set c) ∙ set_items c.args.value c.args.mask c.args.cluster_start c.args.cluster_end c.args.self.now

pub returns-clause-origins : goal.returns-clause-origins
returns-clause-origins c = ap origins_of (returns-clause-set c) ∙ set_origins c.args.value c.args.mask c.args.cluster_start c.args.cluster_end c.args.self.now

pub returns-clause-above : goal.returns-clause-above
returns-clause-above c none = ap origins_of (returns-clause-set c) ∙ kept_origins c.args.value c.args.mask c.args.cluster_start c.args.cluster_end c.args.self.now none

pub invariant_of-self : goal.invariant_of-self
invariant_of-self c = sound_same c.self.inside _ c.self.invariant (ap clusters (put c) ∙ clusters_set c.args.value c.args.mask c.args.cluster_start c.args.cluster_end c.self.inside.info.items)

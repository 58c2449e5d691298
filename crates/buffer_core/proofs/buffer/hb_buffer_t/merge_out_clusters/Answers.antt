use Rattle.std.specs.Vec.{with_items}
use Rattle.std.proofs.Common.{◌≡◌, ◌≤◌, true, length, take, drop, refl, rules, arith, ap, sym, subst, ◌∙◌}
use Rattle.std.proofs.lemmas.Grind.{common_steps}
use Rattle.buffer_lists.specs.declared.order.ClusterOrder.{ClusterOrder}
use Rattle.buffer_lists.specs.Known.{HasOrder}
use Rattle.buffer_core.specs.declared.buffer.hb_buffer_t.TheInside.{Inside}
use Rattle.buffer_core.specs.Inside.{sides_of}
use Rattle.buffer_core.specs.Sides.{items_of, origins_of}
use Rattle.buffer_core.specs.Merging.{with_output_merged}
use Rattle.buffer_core.proofs.Across.{output_items, output_merged_view}
use Rattle.buffer_core.proofs.Changed.{open_ends, parts_seen, sound_changed}
use Rattle.buffer_core.proofs.MergedOrigins.{output_origins}
use Rattle.buffer_core.proofs.Ordered.{settled_all}
use Rattle.buffer_core.proofs.Slices.{all_put}
use Rattle.buffer_core.proofs.buffer.hb_buffer_t.merge_out_clusters.Goals as goal

pub merge_output-self-inside-requires-clause-known : goal.merge_output-self-inside-requires-clause-known
merge_output-self-inside-requires-clause-known c =
    let b = c.self.inside in
    let open_now : b.have_output ≡ true = rw (← c.self.view_is) at c.requires.open in
    let known = settled_all b c.settle.new.self.known c.self.invariant (λ m n. (rw c.deref.ensures.value at (c.settle.ensures.order m n))) in
    rw c.deref_mut.ensures.value (subst (HasOrder c.settle.new.self.known) (sym (parts_seen b (b.out_len, b.idx) (open_ends b open_now))) known)

open_now : (c : goal.After-self-2-1) → c.self.inside.have_output ≡ true
open_now c = rw (← c.self.view_is) at c.requires.open

put : (c : goal.After-self-2-1) → (with_items c.self.inside.info c.merge_output-self-inside.new.glyphs).items ≡ c.merge_output-self-inside.new.glyphs
put c =
    let b = c.self.inside in
    let in_info : b.info.len ≡ length b.info.items = first_of (search rules, grind (arith, common_steps)) in
    all_put b.info c.merge_output-self-inside.new.glyphs c.merge_output-self-inside.new.glyphs in_info refl (c.merge_output-self-inside.ensures.len ∙ ap length c.deref_mut.ensures.value)

pub invariant_of-self : goal.invariant_of-self
invariant_of-self c =
    let b = c.self.inside in
    let done = c.merge_output-self-inside in
    let info = with_items b.info done.new.glyphs in
    let long : length info.items ≡ length b.info.items = ap length (put c) ∙ done.ensures.len ∙ ap length c.deref_mut.ensures.value in
    let order : ClusterOrder = record { known = done.result; lent = c.settle.new.self.lent } in
    let new : Inside = record b { info = info; order = order } in
    sound_changed b info order b.idx b.scratch_flags c.self.invariant long (omega arith) c.self.invariant.cursor c.settle.ensures.back
    (subst (HasOrder done.result) (parts_seen new (b.out_len, b.idx) (open_ends b (open_now c))) (rw (put c) done.ensures.order))

merged : (c : goal.After-self-2-1) → sides_of (record c.self.inside { info = with_items c.self.inside.info c.merge_output-self-inside.new.glyphs; order = record { known = c.merge_output-self-inside.result; lent = c.settle.new.self.lent } })
    ≡ with_output_merged c.args.start c.args.end c.args.self.now
merged c =
    let b = c.self.inside in
    let done = c.merge_output-self-inside in
    let within : c.args.end ≤ length (take b.out_len b.info.items) = rw (← c.self.view_is, open_now c) at c.requires.within in
    output_merged_view b (with_items b.info done.new.glyphs) (record { known = done.result; lent = c.settle.new.self.lent }) c.args.start c.args.end (open_now c) c.requires.ordered within
    (ap (take b.out_len) (put c) ∙ (rw c.deref_mut.ensures.value at done.ensures.output)) (ap (drop b.idx) (put c) ∙ (rw c.deref_mut.ensures.value at done.ensures.input))
    ∙ ap (with_output_merged c.args.start c.args.end) c.self.view_is

pub returns-clause-merged : goal.returns-clause-merged
returns-clause-merged c = merged c

pub returns-clause-items : goal.returns-clause-items
returns-clause-items c = ap items_of (merged c) ∙ output_items c.args.start c.args.end c.args.self.now

pub returns-clause-origins : goal.returns-clause-origins
returns-clause-origins c = ap origins_of (merged c) ∙ output_origins c.args.start c.args.end c.args.self.now c.requires.ordered

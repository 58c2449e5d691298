use Rattle.std.specs.Vec.{with_items}
use Rattle.std.proofs.Common.{◌≡◌, length, take, drop, refl, rules, arith, ap, sym, subst, ◌∙◌}
use Rattle.std.proofs.lemmas.Grind.{common_steps}
use Rattle.buffer_lists.specs.Known.{HasOrder}
use Rattle.buffer_lists.specs.declared.order.ClusterOrder.{ClusterOrder}
use Rattle.buffer_core.specs.declared.buffer.hb_buffer_t.TheInside.{Inside}
use Rattle.buffer_core.specs.Inside.{sides_of}
use Rattle.buffer_core.specs.Sides.{Sides, items_of, origins_of}
use Rattle.buffer_core.specs.Merging.{index_in_all, with_has_glyph_flags, with_merged}
use Rattle.buffer_core.proofs.Changed.{ends_of, parts_seen, sound_changed}
use Rattle.buffer_core.proofs.Ordered.{settled_all}
use Rattle.buffer_core.proofs.Merged.{merged_items, merged_view}
use Rattle.buffer_core.proofs.MergedOrigins.{merged_origins}
use Rattle.buffer_core.proofs.Slices.{all_put}
use Rattle.buffer_core.proofs.buffer.hb_buffer_t.merge_clusters.Goals as goal
use Rattle.buffer_core.proofs.buffer.hb_buffer_t.merge_clusters.Goals.{then-self, else-self}

pub merge_input-marked-requires-clause-known : goal.merge_input-marked-requires-clause-known
merge_input-marked-requires-clause-known c =
    let b = c.self.inside in
    let ends : c.if-self.out_len ≡ ends_of b = elim c.if-self.branch [ then-self w ↦ rw w.if-self.true w.out_len-is | else-self w ↦ rw w.if-self.false w.out_len-is ] in
    let known = settled_all b c.settle.new.self.known c.self.invariant (λ m n. (rw c.deref.ensures.value at (c.settle.ensures.order m n))) in
    rw c.deref_mut.ensures.value (subst (HasOrder c.settle.new.self.known) (sym (parts_seen b c.if-self.out_len ends)) known)

ends : (c : goal.After-self-2-1) → c.if-self.out_len ≡ ends_of c.self.inside
ends c = elim c.if-self.branch [ then-self w ↦ rw w.if-self.true w.out_len-is | else-self w ↦ rw w.if-self.false w.out_len-is ]

put : (c : goal.After-self-2-1) → (with_items c.self.inside.info c.merge_input-marked.new.glyphs).items ≡ c.merge_input-marked.new.glyphs
put c =
    let b = c.self.inside in
    let in_info : b.info.len ≡ length b.info.items = first_of (search rules, grind (arith, common_steps)) in
    all_put b.info c.merge_input-marked.new.glyphs c.merge_input-marked.new.glyphs in_info refl (c.merge_input-marked.ensures.len ∙ ap length c.deref_mut.ensures.value)

pub invariant_of-self : goal.invariant_of-self
invariant_of-self c =
    let b = c.self.inside in
    let done = c.merge_input-marked in
    let info = with_items b.info done.new.glyphs in
    let long : length info.items ≡ length b.info.items = ap length (put c) ∙ done.ensures.len ∙ ap length c.deref_mut.ensures.value in
    let order : ClusterOrder = record { known = done.result.1; lent = c.settle.new.self.lent } in
    let new : Inside = record b { info = info; order = order; scratch_flags = c.add_has_glyph_flags-self-inside.result } in
    sound_changed b info order b.idx c.add_has_glyph_flags-self-inside.result c.self.invariant long (omega arith) c.self.invariant.cursor c.settle.ensures.back
    (subst (HasOrder done.result.1) (parts_seen new c.if-self.out_len (ends c)) (rw (put c) done.ensures.order))

merged : (c : goal.After-self-2-1) → sides_of (record c.self.inside { info = with_items c.self.inside.info c.merge_input-marked.new.glyphs; scratch_flags = c.add_has_glyph_flags-self-inside.result; order = record { known = c.merge_input-marked.result.1; lent = c.settle.new.self.lent } })
    ≡ with_merged (index_in_all c.args.start c.args.self.now) (index_in_all c.args.end c.args.self.now) c.args.self.now
merged c =
    let b = c.self.inside in
    let done = c.merge_input-marked in
    let p = c.if-self.out_len in
    let input = ap (drop p.1) (put c) ∙ (rw c.deref_mut.ensures.value at done.ensures.input) in
    let output = ap (take p.0) (put c) ∙ (rw c.deref_mut.ensures.value at done.ensures.output) in
    let any = rw c.deref_mut.ensures.value at done.ensures.any in
    let flags = c.add_has_glyph_flags-self-inside.ensures ∙ ap (λ m. with_has_glyph_flags m b.scratch_flags) any in
    merged_view b (with_items b.info done.new.glyphs) (record { known = done.result.1; lent = c.settle.new.self.lent }) p c.args.start c.args.end c.add_has_glyph_flags-self-inside.result c.self.invariant (ends c) c.requires.ordered (rw (← c.self.view_is) at c.requires.unread) input output flags
    ∙ ap (λ (s : Sides). with_merged (index_in_all c.args.start s) (index_in_all c.args.end s) s) c.self.view_is

pub returns-clause-merged : goal.returns-clause-merged
returns-clause-merged c = merged c

pub returns-clause-items : goal.returns-clause-items
returns-clause-items c = ap items_of (merged c) ∙ merged_items c.args.start c.args.end c.args.self.now c.requires.ordered

pub returns-clause-origins : goal.returns-clause-origins
returns-clause-origins c = ap origins_of (merged c) ∙ merged_origins c.args.start c.args.end c.args.self.now c.requires.ordered

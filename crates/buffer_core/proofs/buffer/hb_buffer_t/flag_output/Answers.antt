use Rattle.std.specs.Vec.{with_items}
use Rattle.std.proofs.Common.{◌≡◌, ◌≤◌, ◌+◌, ◌-◌, true, nat_lt, length, take, drop, refl, rules, arith, ap, sym, subst, ◌∙◌}
use Rattle.std.proofs.lemmas.Grind.{common_steps}
use Rattle.buffer_glyphs.specs.Items.{clusters}
use Rattle.buffer_glyphs.specs.Glyphs.{glyph_flagged}
use Rattle.buffer_lists.specs.Known.{HasOrder}
use Rattle.buffer_core.specs.Sides.{Sides}
use Rattle.buffer_core.specs.Marking.{with_flagged}
use Rattle.buffer_core.specs.Merging.{index_in_all, with_has_glyph_flags}
use Rattle.buffer_core.proofs.Across.{flagged_across_view}
use Rattle.buffer_core.proofs.Changed.{front_long, same_ends, sound_changed}
use Rattle.buffer_core.proofs.Ordered.{settled_all}
use Rattle.buffer_core.proofs.Slices.{all_put, part_kept, rest_kept}
use Rattle.buffer_core.proofs.buffer.hb_buffer_t.flag_output.Goals as goal

open_now : (c : goal.After-self-2-1) → c.self.inside.have_output ≡ true
open_now c = rw (← c.self.view_is) at c.requires.open

put : (c : goal.After-self-2-1) → (with_items c.self.inside.info c.flag_both.new.glyphs).items ≡ c.flag_both.new.glyphs
put c =
    let b = c.self.inside in
    let in_info : b.info.len ≡ length b.info.items = first_of (search rules, grind (arith, common_steps)) in
    all_put b.info c.flag_both.new.glyphs c.flag_both.new.glyphs in_info refl (c.flag_both.ensures.len ∙ ap length c.deref_mut.ensures.value)

pub returns : goal.returns
returns c =
    let b = c.self.inside in
    let done = c.flag_both in
    let there : c.args.start ≤ length (take b.out_len b.info.items) = rw (← c.self.view_is, open_now c) at c.requires.begins in
    let unread : b.idx - b.gap ≤ c.args.end = rw (← c.self.view_is, open_now c) at c.requires.unread in
    let output = ap (take b.out_len) (put c) ∙ (rw c.deref_mut.ensures.value at done.ensures.output) in
    let input = ap (drop b.idx) (put c) ∙ (rw c.deref_mut.ensures.value at done.ensures.input) in
    let any = c.any_within-any.ensures ∙ ap (λ k. nat_lt c.args.start (k + (c.args.end + b.gap - b.idx))) (sym (front_long b c.self.invariant (open_now c))) in
    let flags = c.add_has_glyph_flags-self-inside.ensures ∙ ap (λ m. with_has_glyph_flags m b.scratch_flags) any in
    record {
      marked = flagged_across_view b (with_items b.info done.new.glyphs) c.settle.new.self c.args.flags c.args.start c.args.end c.add_has_glyph_flags-self-inside.result c.self.invariant.opened (open_now c) there unread output input flags
          ∙ ap (λ (s : Sides). with_flagged c.args.flags c.args.start (index_in_all c.args.end s) s) c.self.view_is;
    }

pub invariant_of-self : goal.invariant_of-self
invariant_of-self c =
    let b = c.self.inside in
    let done = c.flag_both in
    let info = with_items b.info done.new.glyphs in
    let long : length info.items ≡ length b.info.items = ap length (put c) ∙ done.ensures.len ∙ ap length c.deref_mut.ensures.value in
    let ahead = drop b.idx b.info.items in
    let behind = take b.out_len b.info.items in
    let n = c.args.end + b.gap - b.idx in
    let output = ap (λ gs. clusters (take b.out_len gs)) (put c) ∙ ap clusters (rw c.deref_mut.ensures.value at done.ensures.output) ∙ rest_kept (glyph_flagged c.args.flags) (λ g. refl) c.args.start behind in
    let input = ap (λ gs. clusters (drop b.idx gs)) (put c) ∙ ap clusters (rw c.deref_mut.ensures.value at done.ensures.input) ∙ part_kept (glyph_flagged c.args.flags) (λ g. refl) 0 n ahead in
    sound_changed b info c.settle.new.self b.idx c.add_has_glyph_flags-self-inside.result c.self.invariant long (omega arith) c.self.invariant.cursor c.settle.ensures.back
    (subst (HasOrder c.settle.new.self.known) (same_ends b info c.settle.new.self c.add_has_glyph_flags-self-inside.result (open_now c) output input)
    (settled_all b c.settle.new.self.known c.self.invariant (λ m n. (rw c.deref.ensures.value at (c.settle.ensures.order m n)))))

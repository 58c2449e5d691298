use Rattle.std.specs.Vec.{with_items}
use Rattle.std.proofs.Common.{◌≡◌, ◌<◌, ◌+◌, true, length, drop, refl, rules, arith, ap, sym, subst, ◌∙◌, ◌∷◌}
use Rattle.std.proofs.lemmas.Grind.{common_steps}
use Rattle.std.proofs.lemmas.List.{length-drop}
use Rattle.buffer_lists.specs.Known.{HasOrder}
use Rattle.buffer_glyphs.specs.declared.info.hb_glyph_info_t.{hb_glyph_info_t as Glyph}
use Rattle.buffer_core.specs.declared.buffer.hb_buffer_t.TheInside.{Inside}
use Rattle.buffer_core.specs.Inside.{sides_of}
use Rattle.buffer_core.specs.Grouping.{with_current_deleted}
use Rattle.buffer_core.specs.Sides.{items_of, origins_of}
use Rattle.buffer_core.proofs.Changed.{open_ends, parts_seen, sound_changed}
use Rattle.buffer_core.proofs.Deleting.{deleted_view, first_is, left_items}
use Rattle.buffer_core.proofs.DeletedOrigins.{current_deleted_origins}
use Rattle.buffer_core.proofs.Ordered.{settled_all}
use Rattle.buffer_core.proofs.Slices.{all_put}
use Rattle.buffer_core.proofs.buffer.hb_buffer_t.delete_current.Goals as goal

pub delete_first-marked-requires-clause-known : goal.delete_first-marked-requires-clause-known
delete_first-marked-requires-clause-known c =
    let b = c.self.inside in
    let open_now : b.have_output ≡ true = rw (← c.self.view_is) at c.requires.current.opened in
    let known = settled_all b c.settle.new.self.known c.self.invariant (λ m n. (rw c.deref.ensures.value at (c.settle.ensures.order m n))) in
    rw c.deref_mut.ensures.value (subst (HasOrder c.settle.new.self.known) (sym (parts_seen b (b.out_len, b.idx) (open_ends b open_now))) known)

open_now : (c : goal.After-self-3-1) → c.self.inside.have_output ≡ true
open_now c = rw (← c.self.view_is) at c.requires.current.opened

put : (c : goal.After-self-3-1) → (with_items c.self.inside.info c.delete_first-marked.new.glyphs).items ≡ c.delete_first-marked.new.glyphs
put c =
    let b = c.self.inside in
    let in_info : b.info.len ≡ length b.info.items = first_of (search rules, grind (arith, common_steps)) in
    all_put b.info c.delete_first-marked.new.glyphs c.delete_first-marked.new.glyphs in_info refl (c.delete_first-marked.ensures.len ∙ ap length c.deref_mut.ensures.value)

pub invariant_of-self : goal.invariant_of-self
invariant_of-self c =
    let b = c.self.inside in
    let done = c.delete_first-marked in
    let info = with_items b.info done.new.glyphs in
    let long : length info.items ≡ length b.info.items = ap length (put c) ∙ done.ensures.len ∙ ap length c.deref_mut.ensures.value in
    let some : 0 < length (drop b.idx b.info.items) = rw (← c.self.view_is) at c.requires.current.current in
    let new : Inside = record b { info = info; idx = b.idx + 1; order = c.settle.new.self } in
    sound_changed b info c.settle.new.self (b.idx + 1) c.add_has_glyph_flags-self-inside.result c.self.invariant long (omega arith) (omega (arith, some, length-drop b.idx b.info.items)) c.settle.ensures.back
    (subst (HasOrder c.settle.new.self.known) (parts_seen new (b.out_len, b.idx + 1) (open_ends new (open_now c))) (rw (put c) done.ensures.order))

deleted : (c : goal.After-self-3-1) (g : Glyph) → c.args.self.now.ahead ≡ g ∷ drop 1 c.args.self.now.ahead
    → sides_of (record c.self.inside { info = with_items c.self.inside.info c.delete_first-marked.new.glyphs; idx = c.self.inside.idx + 1; scratch_flags = c.add_has_glyph_flags-self-inside.result; order = c.settle.new.self })
    ≡ with_current_deleted g (drop 1 c.args.self.now.ahead) c.args.self.now
deleted c g e =
    let b = c.self.inside in
    let first : drop b.idx b.info.items ≡ g ∷ drop 1 c.args.self.now.ahead = ap (λ s. s.ahead) c.self.view_is ∙ e in
    let gone = rw (c.deref_mut.ensures.value, ← put c) at c.delete_first-marked.ensures.deleted in
    deleted_view b (with_items b.info c.delete_first-marked.new.glyphs) c.settle.new.self c.add_has_glyph_flags-self-inside.result c.delete_first-marked.result g (drop 1 c.args.self.now.ahead) c.self.invariant.opened (open_now c) first gone c.add_has_glyph_flags-self-inside.ensures
    ∙ ap (with_current_deleted g (drop 1 c.args.self.now.ahead)) c.self.view_is

pub returns-clause-items : goal.returns-clause-items
returns-clause-items c =
    let s = c.args.self.now in
    let first = first_is s.ahead c.requires.current.current in
    ap items_of (deleted c _ first) ∙ left_items _ _ s first

pub returns-clause-origins : goal.returns-clause-origins
returns-clause-origins c =
    let s = c.args.self.now in
    let first = first_is s.ahead c.requires.current.current in
    ap origins_of (deleted c _ first) ∙ current_deleted_origins _ _ s first

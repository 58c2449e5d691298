use Rattle.std.proofs.Common.{ap, arith, refl, subst, sym, ◌≡◌, ◌+◌, ◌-◌, ℕ, List, length, ◌∙◌}
use Rattle.buffer_glyphs.specs.declared.info.hb_glyph_info_t.{hb_glyph_info_t}
use Rattle.buffer_glyphs.specs.Items.{clusters}
use Rattle.buffer_glyphs.specs.Origins.{with_range_changed}
use Rattle.buffer_glyphs.specs.Lemmas.Origins.{within_kept}
use Rattle.buffer_core.specs.Readings.{always}
use Rattle.buffer_lists.specs.Known.{HasOrder}
use Rattle.buffer_core.specs.Sides.{Sides, all_glyphs}
use Rattle.buffer_stages.specs.Stages.{IsFollowed}
use Rattle.buffer_stages.specs.Moves.{with_move}
use Rattle.buffer_stages.specs.Lemmas.Ordered.{order_written}
use Rattle.script_arabic.specs.Marks.{with_leading_marks}
use Rattle.script_arabic.specs.Classed.{glyph_classed}
use Rattle.script_arabic.proofs.Reordered.{changed_length, led_followed, some_leading}
use Rattle.script_arabic.proofs.marks.put_first.Goals as goal

pub returns : goal.returns
returns c =
    let start = c.args.start in
    let below = c.args.below in
    let leading = c.args.leading in
    let s = c.args.buffer.now in
    let t = c.known_order-known.new.self in
    let n : start + below - start ≡ below = omega arith in
    let k : start + below + leading - (start + below) ≡ leading = omega arith in
    let moved : IsFollowed (always (with_move start below leading)) s t =
    subst (IsFollowed (always (with_move start below leading)) s) (sym c.known_order-known.ensures.same)
    (subst (λ (m : ℕ). IsFollowed (always (with_move start below m)) s c.move_back.new.buffer) k
    (subst (λ (m : ℕ). IsFollowed (always (with_move start m (start + below + leading - (start + below)))) s c.move_back.new.buffer) n c.move_back.ensures)) in
    subst (IsFollowed (always (with_leading_marks c.args.new_class start below leading)) s) (sym c.keep_order.ensures)
    (led_followed c.args.new_class start below leading s t c.set_classes.new.glyphs (some_leading leading c.if-leading-eq0.false) moved
    (c.set_classes.ensures ∙ ap (with_range_changed (glyph_classed c.args.new_class) start (start + leading)) c.info_slice_mut.ensures.value))

pub keep_order-requires : goal.keep_order-requires
keep_order-requires c =
    let start = c.args.start in
    let end = start + c.args.leading in
    let f = glyph_classed c.args.new_class in
    let t = c.known_order-known.new.self in
    let gs = c.set_classes.new.glyphs in
    let e : gs ≡ with_range_changed f start end (all_glyphs t) = c.set_classes.ensures ∙ ap (with_range_changed f start end) c.info_slice_mut.ensures.value in
    let long : length gs ≡ length (all_glyphs t) = ap (λ (hs : List hb_glyph_info_t). length hs) e ∙ changed_length f start end (all_glyphs t) in
    let same : clusters gs ≡ clusters (all_glyphs t) = ap clusters e ∙ within_kept (λ (g : hb_glyph_info_t). g.cluster) f start end (all_glyphs t) (λ g. refl) in
    let known : HasOrder c.known_order-known.result (clusters (all_glyphs t)) =
    subst (λ (u : Sides). HasOrder c.known_order-known.result (clusters (all_glyphs u))) (sym c.known_order-known.ensures.same) c.known_order-known.ensures.order in
    order_written c.known_order-known.result gs t long same known

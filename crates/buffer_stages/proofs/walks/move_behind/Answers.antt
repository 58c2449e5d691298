use Rattle.std.proofs.Common.{◌≡◌, ◌+◌, ◌-◌, ◌++◌, [], ◌∷◌, arith, refl, ap, sym, subst, ◌∙◌}
use Rattle.buffer_glyphs.specs.Items.{clusters, strip}
use Rattle.buffer_glyphs.specs.Levels.{InOutput}
use Rattle.buffer_glyphs.specs.Events.{Merge}
use Rattle.buffer_lists.specs.Known.{HasOrder}
use Rattle.buffer_core.specs.Sides.{Sides, all_glyphs}
use Rattle.buffer_stages.specs.Moves.{with_range_moved}
use Rattle.buffer_stages.specs.Walks.{HasWalked}
use Rattle.buffer_stages.proofs.Lemmas.Walked.{move_walked}
use Rattle.buffer_stages.proofs.walks.move_behind.Goals as goal

pub returns : goal.returns
returns c =
    let r = c.requires in
    let start = c.args.start in
    let n = c.args.middle - start in
    let k = c.args.end - c.args.middle in
    let s = c.args.buffer.now in
    let mid = c.order_kept_behind-known.new.buffer in
    let w : HasWalked (strip s.behind) (strip s.ahead) (Merge InOutput start c.args.end ∷ []) s mid =
    subst (HasWalked (strip s.behind) (strip s.ahead) (Merge InOutput start c.args.end ∷ []) s) (sym c.order_kept_behind-known.ensures.same) c.merge_behind.ensures in
    let gs = with_range_moved start n k mid.behind in
    move_walked start n k c.args.end gs s mid c.keep_order.new.self (omega (arith, r.begins, r.ordered)) r.within w refl (c.keep_order.ensures ∙ c.rotate_output.ensures)

pub keep_order-requires : goal.keep_order-requires
keep_order-requires c =
    let r = c.requires in
    let start = c.args.start in
    let n = c.args.middle - start in
    let k = c.args.end - c.args.middle in
    let at : start + (n + k) ≡ c.args.end = omega (arith, r.begins, r.ordered) in
    let merged = c.merge_behind.new.buffer in
    let t = c.order_kept_behind-known.new.buffer in
    let same : t ≡ merged = c.order_kept_behind-known.ensures.same in
    let whole : all_glyphs (record t { behind = with_range_moved start n k t.behind }) ≡ with_range_moved start n k merged.behind ++ merged.ahead =
    ap (λ (m : Sides). with_range_moved start n k m.behind ++ m.ahead) same in
    subst (HasOrder c.order_kept_behind-known.result) (sym (ap (λ m. clusters (all_glyphs m)) c.rotate_output.ensures ∙ ap clusters whole)) (c.order_kept_behind-known.ensures.moved n k at)

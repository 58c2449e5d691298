use Rattle.std.proofs.Common.{Bool, ap, refl, ◌+◌, ◌-◌, ◌∙◌}
use Rattle.buffer_core.specs.Sides.{Sides, after_next_glyphs}
use Rattle.layout_match.specs.Applied.{apply_context_of}
use Rattle.layout_gpos.specs.Anchors.{with_attachment_flag}
use Rattle.layout_offsets.specs.Cursive.{cursive_attachment}
use Rattle.layout_positioning.proofs.Joined.{join_acted}
use Rattle.layout_positioning.proofs.cursive_join.join.Goals as goal

pub returns : goal.returns
returns c = λ r.
    let near = c.is_near.result in
    let at = c.out_len-second.result in
    let first = at - (c.args.back + 1) in
    let mid = c.mark_match.new.buffer in
    join_acted r c.args.back at first (apply_context_of c.args.ctx.now) c.args.exit c.args.entry near c.args.buffer.now mid c.pass.new.buffer c.mark_match.ensures c.out_len-second.ensures c.requires.at_position.current refl c.is_near.ensures
    (c.pass.ensures ∙ ap (after_next_glyphs 1) (c.set_attachment_flag.ensures ∙ ap (λ (t : Sides). record t { scratch_flags = with_attachment_flag near t.scratch_flags }) c.join_at.ensures)
    ∙ ap (λ (b : Bool). after_next_glyphs 1 (record mid { positions = cursive_attachment mid.direction b first c.args.exit at c.args.entry mid.positions; scratch_flags = with_attachment_flag near mid.scratch_flags })) c.attaches_earlier_glyph-earlier.ensures)

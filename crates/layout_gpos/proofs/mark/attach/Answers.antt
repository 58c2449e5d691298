use Rattle.std.proofs.Common.{ap, refl, ◌+◌, ◌-◌, ◌∙◌}
use Rattle.buffer_core.specs.Sides.{Sides, after_next_glyphs}
use Rattle.layout_gpos.specs.Anchors.{with_attachment_flag}
use Rattle.layout_gpos.proofs.Attached.{attach_acted}
use Rattle.layout_gpos.proofs.mark.attach.Goals as goal

pub returns : goal.returns
returns c = λ r.
    let near = c.is_near.result in
    let at = c.out_len-at.result in
    attach_acted r c.args.back at (at - (c.args.back + 1)) c.args.base c.args.mark near c.args.buffer.now c.mark_match.new.buffer c.pass.new.buffer c.mark_match.ensures c.out_len-at.ensures c.requires.at_position.current refl c.is_near.ensures
    (c.pass.ensures ∙ ap (after_next_glyphs 1) (c.set_attachment_flag.ensures ∙ ap (λ (t : Sides). record t { scratch_flags = with_attachment_flag near t.scratch_flags }) c.attach_at.ensures))

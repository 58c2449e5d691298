use Rattle.std.proofs.Common.{rules, arith, ◌≡◌, ◌∙◌, ap, length, refl}
use Rattle.std.proofs.lemmas.Grind.{common_steps}
use Rattle.buffer_core.specs.Lending.{with_output_refilled}
use Rattle.buffer_core.specs.Sides.{Sides}
use Rattle.buffer_core.proofs.Lent.{behind_back}
use Rattle.buffer_core.proofs.buffer.hb_buffer_t.out_info_mut.Goals as goal

pub returns : goal.returns
returns c =
    let b = c.self.inside in
    let counted : c.join.new.glyphs.len ≡ length c.join.new.glyphs.items = first_of (search rules, grind (arith, common_steps)) in
    let end = c.out_len-end.ensures in
    let back = behind_back b c.join.new.glyphs c.of-self-inside.result c.max-at.result c.out_len-end.result c.self.invariant end c.max-at.ensures c.join.ensures counted in (
      (refl, λ w. back.0 w ∙ ap (with_output_refilled w) c.self.view_is),
      record { value = c.slice_mut.ensures.value ∙ back.1 ∙ ap (λ (s : Sides). s.behind) c.self.view_is; writes_back = tt },
    )

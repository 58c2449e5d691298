use Rattle.std.proofs.Common.{◌∙◌, sym}
use Rattle.script_indic_reordering.proofs.Lemmas.FinalSteps.{halant_none, lefts_move, no_left}
use Rattle.script_indic_reordering.proofs.left.move_after_halant.Goals as goal

pub returns-in_default : goal.returns-in_default
returns-in_default c =
    let a = c.args in
    let r = c.requires in
    halant_none a.start a.end a.base c.info_slice.result.now a.buffer.now c.info_slice.ensures r.ready r.ordered (sym c.last_halant.ensures.value ∙ c.in_default.is)

pub returns-in_default-first_from : goal.returns-in_default-first_from
returns-in_default-first_from c =
    let a = c.args in
    let r = c.requires in
    no_left a.start a.end a.base _ c.info_slice.result.now a.buffer.now c.info_slice.ensures r.ready r.ordered (sym c.last_halant.ensures.value ∙ c.in-Some.is) (sym c.first_from.ensures.value ∙ c.in_default-first_from.is)

pub returns : goal.returns
returns c =
    let a = c.args in
    let r = c.requires in
    lefts_move a.start a.end a.base _ _ c.after_halant-to.result c.info_slice.result.now a.buffer.now c.put_lefts_last.new.buffer c.info_slice.ensures r.ordered r.within (sym c.last_halant.ensures.value ∙ c.in-Some.is) (sym c.first_from.ensures.value ∙ c.in-Some-first_from.is) c.after_halant-to.ensures.index c.put_lefts_last.ensures

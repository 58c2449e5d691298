use Rattle.std.proofs.Common.{◌∙◌, rules, sym}
use Rattle.script_indic_reordering.proofs.Lemmas.FinalSteps.{none_merged, some_merged}
use Rattle.script_indic_reordering.proofs.left.merge_to_base.Goals as goal

pub returns-in_default : goal.returns-in_default
returns-in_default c =
    let a = c.args in
    let r = c.requires in
    none_merged a.start a.end a.base c.info_slice.result.now a.buffer.now c.info_slice.ensures r.ready r.ordered (sym c.first_from.ensures.value ∙ c.in_default.is)

pub returns-in-Some : goal.returns-in-Some
returns-in-Some c =
    let a = c.args in
    let r = c.requires in
    let m = c.merge_clusters.ensures in
    some_merged a.start a.end a.base _ c.min-last.result c.info_slice.result.now a.buffer.now c.merge_clusters.new.self c.info_slice.ensures (search rules) r.ready r.ordered r.within (sym c.first_from.ensures.value ∙ c.in-Some.is) m.merged m.items m.origins

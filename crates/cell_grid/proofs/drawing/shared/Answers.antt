use Rattle.std.proofs.Common.{◌≡◌, List, Some, slice_get, subst}
use Rattle.buffer_facts.proofs.Truth.{not_both}
use Rattle.caret_model.specs.Stops.{in_text_order}
use Rattle.cell_grid.specs.declared.cells.CellRun.{CellRun}
use Rattle.cell_grid.proofs.Shared.{alike_end, alike_more}
use Rattle.cell_grid.proofs.drawing.shared.Goals as goal

pub returns-then-not-are_drawn_alike-clause-shared :
    goal.returns-then-not-are_drawn_alike-clause-shared
returns-then-not-are_drawn_alike-clause-shared c =
    let P : List CellRun → Type 0 = λ rs. slice_get (in_text_order c.args.at_end rs) c.loop-i.i ≡ Some c.run_from.result in
    let Q : List CellRun → Type 0 = λ rs. slice_get (in_text_order c.args.at_end rs) c.loop-i.i ≡ Some c.run_from-in-loop-i.result in
    alike_end c.args.at_end c.args.old.now c.args.new.now c.loop-i.i c.run_from.result c.run_from-in-loop-i.result (subst P c.runs-in-loop-i.ensures c.run_from.ensures) (subst Q c.runs-in-loop-i-2.ensures c.run_from-in-loop-i.ensures)
    (λ same. not_both c.are_drawn_alike.result (c.are_drawn_alike.ensures.1 same) c.if-not-are_drawn_alike.true) c.loop-i.invariant

pub loop-i-preserved : goal.loop-i-preserved
loop-i-preserved c =
    let P : List CellRun → Type 0 = λ rs. slice_get (in_text_order c.args.at_end rs) c.loop-i.i ≡ Some c.run_from.result in
    let Q : List CellRun → Type 0 = λ rs. slice_get (in_text_order c.args.at_end rs) c.loop-i.i ≡ Some c.run_from-in-loop-i.result in
    alike_more c.args.at_end c.args.old.now c.args.new.now c.loop-i.i c.run_from.result c.run_from-in-loop-i.result (subst P c.runs-in-loop-i.ensures c.run_from.ensures) (subst Q c.runs-in-loop-i-2.ensures c.run_from-in-loop-i.ensures)
    (c.are_drawn_alike.ensures.0 c.if-not-are_drawn_alike.false) c.loop-i.invariant

use Rattle.std.proofs.Common.{◌≡◌, ◌-◌, [], arith, drop, filter, leb, ltb, rules, subst, sym, take}
use Rattle.std.proofs.lemmas.List.Sorted.{IsPartitionPoint-from_clause}
use Rattle.cell_grid.specs.Finding.{has_cell_between}
use Rattle.cell_grid.specs.Grids.{Grid}
use Rattle.cell_grid.specs.declared.cells.CellRun.{CellRun}
use Rattle.cell_grid.proofs.Covered.{found, none_between, none_found}
use Rattle.cell_grid.proofs.grid.CellGrid.runs_between.Goals as goal

pub returns-then-to-from : goal.returns-then-to-from
returns-then-to-from c = sym (none_between c.args.self.now.runs c.args.from c.args.to (omega arith))

-- the closures compare a run's end, and its first cell
pub returns-then-end-start : goal.returns-then-end-start
returns-then-end-start c =
    let P : Grid → Type 0 = λ g. [] ≡ filter (has_cell_between c.args.from c.args.to) g.runs in
    subst P c.self.view_is
    (sym (none_found c.self.inside.width c.args.from c.args.to c.partition_point-start.result c.partition_point-end.result c.self.inside.runs.items c.deref.result.now c.deref-2.result.now c.self.invariant (omega arith) c.deref.ensures.value c.deref-2.ensures.value
    (λ parted. IsPartitionPoint-from_clause (λ (r : CellRun). leb r.end_cell c.args.from) c.deref.result.now c.partition_point-start.result c.partition_point-start.ensures.partitioned parted (λ a r f called. search rules))
    (λ parted. IsPartitionPoint-from_clause (λ (r : CellRun). ltb r.first_cell c.args.to) c.deref-2.result.now c.partition_point-end.result c.partition_point-end.ensures.partitioned parted (λ a r f called. search rules))
    (omega arith)))

pub returns : goal.returns
returns c =
    let P : Grid → Type 0 = λ g. take (c.partition_point-end.result - c.partition_point-start.result) (drop c.partition_point-start.result c.deref-3.result.now) ≡ filter (has_cell_between c.args.from c.args.to) g.runs in
    subst P c.self.view_is
    (sym (found c.self.inside.width c.args.from c.args.to c.partition_point-start.result c.partition_point-end.result c.self.inside.runs.items c.deref.result.now c.deref-2.result.now c.deref-3.result.now c.self.invariant (omega arith) c.deref.ensures.value c.deref-2.ensures.value c.deref-3.ensures.value
    (λ parted. IsPartitionPoint-from_clause (λ (r : CellRun). leb r.end_cell c.args.from) c.deref.result.now c.partition_point-start.result c.partition_point-start.ensures.partitioned parted (λ a r f called. search rules))
    (λ parted. IsPartitionPoint-from_clause (λ (r : CellRun). ltb r.first_cell c.args.to) c.deref-2.result.now c.partition_point-end.result c.partition_point-end.ensures.partitioned parted (λ a r f called. search rules))))

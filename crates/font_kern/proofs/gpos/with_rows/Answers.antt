use Rattle.std.proofs.Common.{◌≡◌, ℕ, List, Ok, sym, ap, ◌∙◌, Result}
use Rattle.font_bytes.specs.declared.fault.TableFault.{TableFault}
use Rattle.font_bytes.specs.Results.{and_then}
use Rattle.layout_tables.specs.Layout.{FeatureTable, LayoutLists}
use Rattle.layout_face.specs.declared.positioning.PositioningTable.{PositioningTable}
use Rattle.font_kern.specs.Kern.{KernLists, with_lists, kerned_table}
use Rattle.font_kern.proofs.gpos.with_rows.Goals as goal

pub returns-clause-ok : goal.returns-clause-ok
returns-clause-ok c =
    let inner = c.args.inner.now in
    let rows = c.args.rows.now in
    let lists : with_lists c.args.room.now.left c.args.table.now c.args.subtables.now inner (record { features = inner.features; lookups = c.args.lookups.now.items }) rows
    ≡ Ok (record { features = c.push_lists.new.features.items; lookups = c.push_lists.new.lookups.items }, c.push_lists.new.room.left)
    = ap (λ (fs : List FeatureTable). with_lists c.args.room.now.left c.args.table.now c.args.subtables.now inner (record { features = fs; lookups = c.args.lookups.now.items }) rows) (sym (c.in_ok-features.ensures ∙ c.features.ensures))
    ∙ c.in_ok-push_lists.ensures.ok in
    ap (λ (l : Result (KernLists × ℕ) TableFault). and_then l (λ k. Ok (kerned_table inner rows k))) lists
    ∙ ap (λ (t : LayoutLists). Ok (record { inner = t; lookups = c.push_lists.new.lookups.items }, c.push_lists.new.room.left)) (sym c.in_ok-kerned.ensures)

use Rattle.std.proofs.Common.{ℕ, Bool, if◌then◌else◌, sym, ap, subst, ◌∙◌}
use Rattle.buffer_core.specs.Settings.{next_lig_id}
use Rattle.buffer_core.specs.Sides.{Sides}
use Rattle.layout_gsub.specs.Uniting.{IsMerged}
use Rattle.layout_gsub.proofs.LigatureMade.{components_merged, number_given, given_of}
use Rattle.layout_gsub.proofs.ligate.merge_components.Goals as goal

pub returns-then-not-components-clause-merged : goal.returns-then-not-components-clause-merged
returns-then-not-components-clause-merged c =
    let s = c.args.buffer.now in
    let m = c.merge_clusters.ensures in
    let P : Bool → Type 0 = λ b. IsMerged c.args.end (if b then next_lig_id s.lig_id else s.lig_id) s c.merge_clusters.new.self in
    subst P (sym c.if-not-components.true) (components_merged c.args.end c.idx-start.result s c.merge_clusters.new.self c.idx-start.ensures m.merged m.items m.origins)

pub returns-clause-merged : goal.returns-clause-merged
returns-clause-merged c =
    let s = c.args.buffer.now in
    let m = c.merge_clusters.ensures in
    let id = c.allocate_lig_id.result in
    let new = c.allocate_lig_id.new.self in
    let merged = components_merged c.args.end c.idx-start.result s c.merge_clusters.new.self c.idx-start.ensures m.merged m.items m.origins in
    let given = number_given c.args.end id s c.merge_clusters.new.self new merged c.allocate_lig_id.ensures.kept in
    let same = c.allocate_lig_id.ensures.given ∙ ap next_lig_id (given_of c.args.end s c.merge_clusters.new.self merged) in
    let Q : ℕ → Type 0 = λ n. IsMerged c.args.end n s new in
    let P : Bool → Type 0 = λ b. IsMerged c.args.end (if b then next_lig_id s.lig_id else s.lig_id) s new in
    subst P (sym c.if-not-components.false) (subst Q same given)

pub returns-then-not-components-clause-apart : goal.returns-then-not-components-clause-apart
returns-then-not-components-clause-apart c = ap (λ (t : Sides). t.is_apart) c.merge_clusters.ensures.merged

pub returns-clause-apart : goal.returns-clause-apart
returns-clause-apart c = ap (λ (t : Sides). t.is_apart) c.allocate_lig_id.ensures.kept ∙ ap (λ (t : Sides). t.is_apart) c.merge_clusters.ensures.merged

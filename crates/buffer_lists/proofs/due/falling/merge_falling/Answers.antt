use Rattle.std.specs.Prelude.{slice_range}
use Rattle.std.proofs.Common.{ℕ, ◌≡◌, ◌≢◌, ◌≤◌, ◌+◌, ◌-◌, ◌∷◌, List, take, drop, get_or, arith, ap, sym, subst, ◌∙◌}
use Rattle.std.proofs.lemmas.List.{length-take-le, length-drop}
use Rattle.buffer_glyphs.specs.declared.info.hb_glyph_info_t.{hb_glyph_info_t as Glyph}
use Rattle.buffer_glyphs.specs.Items.{clusters}
use Rattle.buffer_glyphs.specs.Merges.{least_number}
use Rattle.buffer_lists.specs.Falling.{IsDueBefore, with_range_in_cluster}
use Rattle.buffer_lists.proofs.Lemmas.Neighbours.{no_glyph}
use Rattle.buffer_lists.proofs.Carried.{range_at, kept_merged, joined_merged, joined_due, begun_merged, begun_due, low_below, all_ahead}
use Rattle.buffer_lists.proofs.due.falling.merge_falling.Goals as goal
use Rattle.buffer_lists.proofs.due.falling.merge_falling.Goals.{else-ahead-eq0-via-then-ahead-eq0+else-due-cluster, else-ahead-eq0-via-else-ahead-eq0}

pub returns-then-cluster-low-clause-merged : goal.returns-then-cluster-low-clause-merged
returns-then-cluster-low-clause-merged c =
    let gs = c.args.glyphs.now in
    let a = (get_or gs c.args.start no_glyph).cluster in
    let xs = clusters (take (c.args.end - c.args.start - 1) (drop (c.args.start + 1) gs)) in
    let range = range_at c.args.start c.args.end c.args.due gs no_glyph c.requires.some c.requires.within c.requires.due in
    kept_merged c.args.start c.args.end a xs c.args.due gs range (c.if-cluster-low.true ∙ c.least_cluster-low.ensures ∙ ap least_number range.is)

pub returns-then-due-cluster-clause-merged : goal.returns-then-due-cluster-clause-merged
returns-then-due-cluster-clause-merged c =
    let gs = c.args.glyphs.now in
    let a = (get_or gs c.args.start no_glyph).cluster in
    let xs = clusters (take (c.args.end - c.args.start - 1) (drop (c.args.start + 1) gs)) in
    let range = range_at c.args.start c.args.end c.args.due gs no_glyph c.requires.some c.requires.within c.requires.due in
    let less = low_below a c.least_cluster-low.result (clusters (slice_range gs c.args.start c.args.end)) xs range.is c.least_cluster-low.ensures c.if-cluster-low.false in
    let low : c.least_cluster-low.result ≡ least_number (a ∷ xs) = c.least_cluster-low.ensures ∙ ap least_number range.is in
    ap (λ (n : ℕ). with_range_in_cluster (record { from = c.args.due.from; to = c.args.end; cluster = n }) gs) low
    ∙ joined_merged c.args.start c.args.end a xs c.args.due gs range less c.if-due-cluster.true (λ n h. all_ahead a n c.end_run-ahead.result (slice_range gs c.args.due.to c.args.start) c.if-ahead-eq0.true c.end_run-ahead.ensures.begins h)

pub returns-then-due-cluster-clause-due : goal.returns-then-due-cluster-clause-due
returns-then-due-cluster-clause-due c =
    let gs = c.args.glyphs.now in
    let a = (get_or gs c.args.start no_glyph).cluster in
    let xs = clusters (take (c.args.end - c.args.start - 1) (drop (c.args.start + 1) gs)) in
    let range = range_at c.args.start c.args.end c.args.due gs no_glyph c.requires.some c.requires.within c.requires.due in
    let less = low_below a c.least_cluster-low.result (clusters (slice_range gs c.args.start c.args.end)) xs range.is c.least_cluster-low.ensures c.if-cluster-low.false in
    let low : c.least_cluster-low.result ≡ least_number (a ∷ xs) = c.least_cluster-low.ensures ∙ ap least_number range.is in
    subst (λ (n : ℕ). IsDueBefore c.args.end (record { from = c.args.due.from; to = c.args.end; cluster = n }) gs) (sym low)
    (joined_due c.args.start c.args.end a xs c.args.due gs range less c.if-due-cluster.true (λ n h. all_ahead a n c.end_run-ahead.result (slice_range gs c.args.due.to c.args.start) c.if-ahead-eq0.true c.end_run-ahead.ensures.begins h))

pub returns-clause-merged : goal.returns-clause-merged
returns-clause-merged c =
    let gs = c.args.glyphs.now in
    let due = c.args.due in
    let ahead = c.end_run-ahead.result in
    let a = (get_or gs c.args.start no_glyph).cluster in
    let xs = clusters (take (c.args.end - c.args.start - 1) (drop (c.args.start + 1) gs)) in
    let range = range_at c.args.start c.args.end due gs no_glyph c.requires.some c.requires.within c.requires.due in
    let low : c.least_cluster-low.result ≡ least_number (a ∷ xs) = c.least_cluster-low.ensures ∙ ap least_number range.is in
    let few : due.to + ahead ≤ c.args.start = omega (arith, c.end_run-ahead.ensures.within, length-take-le (c.args.start - due.to) (drop due.to gs) (omega (arith, length-drop due.to gs, c.requires.some, c.requires.within)), c.requires.due.before) in
    let other : ahead ≡ 0 → due.cluster ≢ a = λ none. elim c.else-ahead-eq0.branch [ else-ahead-eq0-via-then-ahead-eq0+else-due-cluster w ↦ w.if-due-cluster.false | else-ahead-eq0-via-else-ahead-eq0 w ↦ absurd (w.if-ahead-eq0.false none) ] in
    ap (with_range_in_cluster (record { from = due.to + ahead; to = c.args.end; cluster = c.least_cluster-low.result })) c.carry_out.ensures
    ∙ ap (λ (n : ℕ). with_range_in_cluster (record { from = due.to + ahead; to = c.args.end; cluster = n }) (with_range_in_cluster due gs)) low
    ∙ begun_merged c.args.start c.args.end a ahead xs due gs range few c.end_run-ahead.ensures.begins other

pub returns-clause-due : goal.returns-clause-due
returns-clause-due c =
    let gs = c.args.glyphs.now in
    let due = c.args.due in
    let ahead = c.end_run-ahead.result in
    let a = (get_or gs c.args.start no_glyph).cluster in
    let xs = clusters (take (c.args.end - c.args.start - 1) (drop (c.args.start + 1) gs)) in
    let range = range_at c.args.start c.args.end due gs no_glyph c.requires.some c.requires.within c.requires.due in
    let less = low_below a c.least_cluster-low.result (clusters (slice_range gs c.args.start c.args.end)) xs range.is c.least_cluster-low.ensures c.if-cluster-low.false in
    let low : c.least_cluster-low.result ≡ least_number (a ∷ xs) = c.least_cluster-low.ensures ∙ ap least_number range.is in
    let few : due.to + ahead ≤ c.args.start = omega (arith, c.end_run-ahead.ensures.within, length-take-le (c.args.start - due.to) (drop due.to gs) (omega (arith, length-drop due.to gs, c.requires.some, c.requires.within)), c.requires.due.before) in
    let other : ahead ≡ 0 → due.cluster ≢ a = λ none. elim c.else-ahead-eq0.branch [ else-ahead-eq0-via-then-ahead-eq0+else-due-cluster w ↦ w.if-due-cluster.false | else-ahead-eq0-via-else-ahead-eq0 w ↦ absurd (w.if-ahead-eq0.false none) ] in
    subst (λ (hs : List Glyph). IsDueBefore c.args.end (record { from = due.to + ahead; to = c.args.end; cluster = c.least_cluster-low.result }) hs) (sym c.carry_out.ensures)
    (subst (λ (n : ℕ). IsDueBefore c.args.end (record { from = due.to + ahead; to = c.args.end; cluster = n }) (with_range_in_cluster due gs)) (sym low)
    (begun_due c.args.start c.args.end a ahead xs due gs range few c.end_run-ahead.ensures.begins other less))

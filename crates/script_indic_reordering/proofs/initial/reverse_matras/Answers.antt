use Rattle.std.proofs.Common.{◌≡◌, ◌≤◌, ◌+◌, arith, refl, sym, ◌∙◌, ap}
use Rattle.std.specs.Prelude.{slice_range}
use Rattle.buffer_core.specs.Sides.{items_of}
use Rattle.script_indic_reordering.specs.Initial.{first_left, left_count}
use Rattle.script_indic_reordering.proofs.Lemmas.Steps.{count_known, left_counted, matras_kept, matras_turned, seen_in, size_in, two_known}
use Rattle.script_indic_reordering.proofs.initial.reverse_matras.Goals as goal

pub returns-then-not-has_two_matras : goal.returns-then-not-has_two_matras
returns-then-not-has_two_matras c =
    let a = c.args.buffer.now in
    let r = c.requires in
    let start = c.args.start in
    let end = c.args.end in
    let n = c.index-first.result in
    let k = c.index-count.result in
    let one = size_in start end c.info_slice.result.now a c.info_slice.ensures r.ordered r.within in
    let w = c.index-first.ensures.within in
    let high : start + n ≤ end = omega (arith, one, w, r.ordered) in
    let two = size_in (start + n) end c.info_slice-2.result.now a c.info_slice-2.ensures high r.within in
    let v = c.index-count.ensures.within in
    let inside : start + n + k ≤ end = omega (arith, two, v, high) in
    let first : n ≡ first_left (slice_range (items_of a) start end) = c.index-first.ensures.index ∙ ap first_left (seen_in start end c.info_slice.result.now a c.info_slice.ensures) in
    let count = count_known start end n c.info_slice-2.result.now k (first_left (slice_range (items_of a) start end)) left_counted a c.info_slice-2.ensures high first c.index-count.ensures.index in
    matras_kept start end a r.ordered r.ready
    (two_known start end n k c.info_slice-3.result.now c.has_two_matras.result Rattle.std.proofs.Common.false a c.info_slice-3.ensures inside first count c.has_two_matras.ensures c.if-not-has_two_matras.true)

pub returns : goal.returns
returns c =
    let a = c.args.buffer.now in
    let r = c.requires in
    let start = c.args.start in
    let end = c.args.end in
    let n = c.index-first.result in
    let k = c.index-count.result in
    let one = size_in start end c.info_slice.result.now a c.info_slice.ensures r.ordered r.within in
    let w = c.index-first.ensures.within in
    let high : start + n ≤ end = omega (arith, one, w, r.ordered) in
    let two = size_in (start + n) end c.info_slice-2.result.now a c.info_slice-2.ensures high r.within in
    let v = c.index-count.ensures.within in
    let inside : start + n + k ≤ end = omega (arith, two, v, high) in
    let first : n ≡ first_left (slice_range (items_of a) start end) = c.index-first.ensures.index ∙ ap first_left (seen_in start end c.info_slice.result.now a c.info_slice.ensures) in
    let count = count_known start end n c.info_slice-2.result.now k (first_left (slice_range (items_of a) start end)) left_counted a c.info_slice-2.ensures high first c.index-count.ensures.index in
    matras_turned start end n k a c.reverse_groups.new.buffer inside r.within first count
    (two_known start end n k c.info_slice-3.result.now c.has_two_matras.result Rattle.std.proofs.Common.true a c.info_slice-3.ensures inside first count c.has_two_matras.ensures c.if-not-has_two_matras.false)
    c.reverse_groups.ensures

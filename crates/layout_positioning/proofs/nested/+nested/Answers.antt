use Rattle.std.proofs.Common.{◌∙◌, ◌≡◌, ◌-◌, Ok, Err, false, get_or, sym, subst, refl, arith, ℕ}
use Rattle.std.proofs.lemmas.Option.{get_or_from_slice_get}
use Rattle.buffer_common.specs.declared.direction.Direction.{Direction}
use Rattle.layout_tables.specs.declared.context.ContextSubtable.{ContextSubtable}
use Rattle.layout_tables.specs.declared.context.SequenceLookupRecord.{SequenceLookupRecord}
use Rattle.layout_match.specs.Applied.{apply_context_of}
use Rattle.buffer_stages.specs.Actions.{Action, first_rule}
use Rattle.buffer_stages.specs.Performing.{IsPerformed, Performs, cut_with}
use Rattle.buffer_stages.proofs.Lemmas.Frames.{still_direction}
use Rattle.buffer_stages.proofs.Lemmas.Performed.{passed_all}
use Rattle.buffer_stages.proofs.Lemmas.Firsts.{first_acts, first_refuses, first_passes}
use Rattle.layout_contexts.specs.Chains.{Chain, chain_rule, context_subtable}
use Rattle.layout_contexts.specs.Fitting.{IsMatched, chain_of}
use Rattle.layout_contexts.specs.Nested.{each_nested}
use Rattle.layout_contexts.specs.Nesting.{Walking}
use Rattle.layout_contexts.specs.Records.{IsRecordBegun}
use Rattle.layout_contexts.specs.Rules.{chains_of, is_tried_at}
use Rattle.layout_contexts.proofs.Lemmas.Acting.{match_inside, rule_acted, rule_failed, rule_passed}
use Rattle.layout_contexts.proofs.Lemmas.Following.{passed_over_at}
use Rattle.layout_contexts.proofs.Lemmas.Inside.{then_stays}
use Rattle.layout_contexts.proofs.Lemmas.LeftOut.{is_there, jumped_over, jumped_over_all, same_neighbours}
use Rattle.layout_contexts.proofs.Lemmas.Ranges.{passed_after, passed_before}
use Rattle.layout_contexts.proofs.Lemmas.Uncovered.{context_uncovered}
use Rattle.layout_match.proofs.Lemmas.Met.{not_tried as glyph_not_tried}
use Rattle.layout_tables.specs.Covers.{covers_context}
use Rattle.buffer_glyphs.specs.Items.{item_of}
use Rattle.layout_contexts.proofs.Lemmas.Nested.{begun_closed, begun_numbers, begun_some, begun_unrefused, get_or_any, last_walked, matched_closed, matched_numbers, matched_unrefused, next_failed, next_walked, none_nested, not_tried, record_acted, record_inside, record_passed, tried_there}
use Rattle.layout_positioning.specs.Lookups.{nested_actions, nested_act}
use Rattle.layout_positioning.proofs.Kept.{begun_kept, behind_kept, matched_kept, unmatched_kept}
use Rattle.layout_positioning.proofs.Levels.{no_depth, some_depth, record_lookup_refused}
use Rattle.layout_positioning.proofs.nested.+nested.Goals as goal

pub apply_context-returns-then-not-is_tried_at-clause-performs : goal.apply_context-returns-then-not-is_tried_at-clause-performs
apply_context-returns-then-not-is_tried_at-clause-performs t c =
    let T : ContextSubtable → Type 0 = λ s. c.is_tried_at.result ≡ is_tried_at s (item_of c.cur-info.result.now) in
    not_tried (nested_actions c.args.table.now.lookups c.args.depth c.args.buffer.now.direction (apply_context_of c.args.ctx.now)) (apply_context_of c.args.ctx.now) c.args.subtable.now c.is_tried_at.result c.args.ctx.now.random_state c.args.buffer.now c.cur-info.result.now c.cur-info.ensures (subst T c.inner.ensures c.is_tried_at.ensures) c.if-not-is_tried_at.true

pub apply_context-returns-then-not-may_have_glyph-clause-performs : goal.apply_context-returns-then-not-may_have_glyph-clause-performs
apply_context-returns-then-not-may_have_glyph-clause-performs t c =
    let a = apply_context_of c.args.ctx.now in
    let nest = nested_actions c.args.table.now.lookups c.args.depth c.args.buffer.now.direction a in
    let x = c.cur-info.result.now in
    let P : ℕ → Type 0 = λ n. covers_context c.args.subtable.now n ≡ false in
    let none = subst P c.as_glyph.ensures (c.may_have_glyph.ensures c.if-not-may_have_glyph.true) in
    glyph_not_tried (context_subtable nest a c.args.subtable.now) c.args.ctx.now.random_state c.args.buffer.now x c.cur-info.ensures (context_uncovered nest a c.args.subtable.now (item_of x) none)

pub apply_context-returns-clause-performs : goal.apply_context-returns-clause-performs
apply_context-returns-clause-performs t c =
    let a = apply_context_of c.args.ctx.now in
    let nest = nested_actions c.args.table.now.lookups c.args.depth c.args.buffer.now.direction a in
    let T : ContextSubtable → Type 0 = λ s. c.is_tried_at.result ≡ is_tried_at s (item_of c.cur-info.result.now) in
    let tried = subst T c.inner.ensures c.is_tried_at.ensures in
    let P : ContextSubtable → Type 0 = λ s. Performs (first_rule (chain_rule nest a) (chains_of s) (cut_with c.args.ctx.now.random_state c.args.buffer.now)) c.apply_rules.result c.args.ctx.now.random_state c.args.ctx.now.random_state c.args.buffer.now c.apply_rules.new.buffer in
    tried_there nest a c.args.subtable.now c.is_tried_at.result c.args.ctx.now.random_state c.args.ctx.now.random_state c.apply_rules.result c.args.buffer.now c.apply_rules.new.buffer c.cur-info.result.now c.cur-info.ensures tried c.if-not-is_tried_at.false (subst P c.inner-2.ensures c.apply_rules.ensures.performs)

pub apply_contexts-returns-in_default-clause-performs : goal.apply_contexts-returns-in_default-clause-performs
apply_contexts-returns-in_default-clause-performs t c =
    let i = c.loop-k.invariant.passed in
    let a = apply_context_of c.args.ctx.now in
    let q = c.args.ctx.now.random_state in
    let n = c.next_context-next.result in
    let s = c.args.buffer.now in
    let nest = nested_actions c.args.table.now.lookups c.args.depth s.direction a in
    let over = c.next_context-next.ensures.passed nest a q (same_neighbours c.known_neighbours-beside.result.before c.known_neighbours-beside.result.after a s c.loop-k.buffer i.cut_is i.still c.known_neighbours-beside.ensures) in
    jumped_over_all (context_subtable nest a) c.args.subtables.now q q c.loop-k.k n s c.loop-k.buffer over c.next_context-next.ensures.on i c.in_default.ensures refl

pub apply_contexts-returns-in-Ok-true-clause-performs : goal.apply_contexts-returns-in-Ok-true-clause-performs
apply_contexts-returns-in-Ok-true-clause-performs t c =
    let i = c.loop-k.invariant.passed in
    let a = apply_context_of c.args.ctx.now in
    let q = c.args.ctx.now.random_state in
    let n = c.next_context-next.result in
    let s = c.args.buffer.now in
    let nest = nested_actions c.args.table.now.lookups c.args.depth s.direction a in
    let over = c.next_context-next.ensures.passed nest a q (same_neighbours c.known_neighbours-beside.result.before c.known_neighbours-beside.result.after a s c.loop-k.buffer i.cut_is i.still c.known_neighbours-beside.ensures) in
    let act : ContextSubtable → Direction → Action = λ x d. context_subtable (nested_actions c.args.table.now.lookups c.args.depth d a) a x in
    let there = is_there c.args.subtables.now n c.in-Some.subtable.now (sym c.in-Some.ensures) in
    let passed = jumped_over (context_subtable nest a) c.args.subtables.now q c.loop-k.k n s c.loop-k.buffer over c.next_context-next.ensures.on i in
    first_acts act c.args.subtables.now n c.in-Some.subtable.now c.loop-k.buffer.direction s.direction q q q c.in-Ok-true.field-0 s c.loop-k.buffer c.apply_context.new.buffer there.0 there.1 passed (still_direction s c.loop-k.buffer i.still) refl c.in-Ok-true.field-0-test c.in-Ok-true.ensures.performs

pub apply_contexts-returns-in-Err-clause-performs : goal.apply_contexts-returns-in-Err-clause-performs
apply_contexts-returns-in-Err-clause-performs t c =
    let i = c.loop-k.invariant.passed in
    let a = apply_context_of c.args.ctx.now in
    let q = c.args.ctx.now.random_state in
    let n = c.next_context-next.result in
    let s = c.args.buffer.now in
    let nest = nested_actions c.args.table.now.lookups c.args.depth s.direction a in
    let over = c.next_context-next.ensures.passed nest a q (same_neighbours c.known_neighbours-beside.result.before c.known_neighbours-beside.result.after a s c.loop-k.buffer i.cut_is i.still c.known_neighbours-beside.ensures) in
    let act : ContextSubtable → Direction → Action = λ x d. context_subtable (nested_actions c.args.table.now.lookups c.args.depth d a) a x in
    let there = is_there c.args.subtables.now n c.in-Some.subtable.now (sym c.in-Some.ensures) in
    let passed = jumped_over (context_subtable nest a) c.args.subtables.now q c.loop-k.k n s c.loop-k.buffer over c.next_context-next.ensures.on i in
    first_refuses act c.args.subtables.now n c.in-Some.subtable.now c.loop-k.buffer.direction s.direction q q q c.in-Err.cause s c.loop-k.buffer c.apply_context.new.buffer there.0 there.1 passed (still_direction s c.loop-k.buffer i.still) refl c.in-Err.ensures.performs

pub apply_contexts-overflow_add-k : goal.apply_contexts-overflow_add-k
apply_contexts-overflow_add-k t c =
    let there = is_there c.args.subtables.now c.next_context-next.result c.in-Some.subtable.now (sym c.in-Some.ensures) in
    let less = there.0 in
    let count = c.context_count-count.ensures in
    let fits = c.context_count-count.auto in
    omega (arith, less, count, fits)

pub apply_contexts-loop-k-preserved : goal.apply_contexts-loop-k-preserved
apply_contexts-loop-k-preserved t c =
    let i = c.loop-k.invariant.passed in
    let a = apply_context_of c.args.ctx.now in
    let q = c.args.ctx.now.random_state in
    let n = c.next_context-next.result in
    let s = c.args.buffer.now in
    let nest = nested_actions c.args.table.now.lookups c.args.depth s.direction a in
    let over = c.next_context-next.ensures.passed nest a q (same_neighbours c.known_neighbours-beside.result.before c.known_neighbours-beside.result.after a s c.loop-k.buffer i.cut_is i.still c.known_neighbours-beside.ensures) in
    let act : ContextSubtable → Direction → Action = λ x d. context_subtable (nested_actions c.args.table.now.lookups c.args.depth d a) a x in
    let there = is_there c.args.subtables.now n c.in-Some.subtable.now (sym c.in-Some.ensures) in
    let passed = jumped_over (context_subtable nest a) c.args.subtables.now q c.loop-k.k n s c.loop-k.buffer over c.next_context-next.ensures.on i in
    let p = first_passes act c.args.subtables.now n c.in-Some.subtable.now c.loop-k.buffer.direction s.direction q q q c.in-Ok-false.field-0 s c.loop-k.buffer c.apply_context.new.buffer there.0 there.1 passed (still_direction s c.loop-k.buffer i.still) refl c.in-Ok-false.field-0-test c.in-Ok-false.ensures.performs in
    record { passed = p.0; kept = c.in-Ok-false.ensures.kept }

pub apply_contexts-returns-clause-performs : goal.apply_contexts-returns-clause-performs
apply_contexts-returns-clause-performs t c =
    let a = apply_context_of c.args.ctx.now in
    let count = c.context_count-count.ensures in
    let past = c.loop-k-test.false in
    passed_all (context_subtable (nested_actions c.args.table.now.lookups c.args.depth c.args.buffer.now.direction a) a) c.args.subtables.now c.loop-k.k c.args.ctx.now.random_state c.args.buffer.now c.loop-k.buffer (omega (arith, count, past)) c.loop-k.invariant.passed

pub apply_rules-loop-i-init : goal.apply_rules-loop-i-init
apply_rules-loop-i-init t c =
    let a = apply_context_of c.args.ctx.now in
    let nest = nested_actions c.args.table.now.lookups c.args.depth c.args.buffer.now.direction a in
    record {
      passed = passed_before nest a (chains_of c.args.subtable.now) c.args.ctx.now.random_state c.rules_at-start.result.0 c.rules_at-start.result.1 c.args.buffer.now c.cur.result.now c.cur.ensures c.rules_at-start.ensures;
      kept = c.requires.kept;
    }

pub apply_rules-returns-in-Ok-true-clause-performs : goal.apply_rules-returns-in-Ok-true-clause-performs
apply_rules-returns-in-Ok-true-clause-performs t c =
    let i = c.loop-i.invariant.passed in
    let all = chains_of c.args.subtable.now in
    let x = chain_of c.rule_at-rule.result in
    let act : Chain → Direction → Action = λ r d. chain_rule (nested_actions c.args.table.now.lookups c.args.depth d (apply_context_of c.args.ctx.now)) (apply_context_of c.args.ctx.now) r in
    let at : x ≡ get_or all c.loop-i.i x = sym (get_or_from_slice_get all c.loop-i.i x x c.rule_at-rule.ensures) in
    first_acts act all c.loop-i.i x c.loop-i.buffer.direction c.args.buffer.now.direction c.args.ctx.now.random_state c.args.ctx.now.random_state c.args.ctx.now.random_state c.in-Ok-true.field-0 c.args.buffer.now c.loop-i.buffer c.apply_rule.new.buffer (omega (arith, c.loop-i-test.true, c.rules_at-start.ensures.within)) at i (still_direction c.args.buffer.now c.loop-i.buffer i.still) refl c.in-Ok-true.field-0-test c.in-Ok-true.ensures.performs

pub apply_rules-returns-in-Err-clause-performs : goal.apply_rules-returns-in-Err-clause-performs
apply_rules-returns-in-Err-clause-performs t c =
    let i = c.loop-i.invariant.passed in
    let all = chains_of c.args.subtable.now in
    let x = chain_of c.rule_at-rule.result in
    let act : Chain → Direction → Action = λ r d. chain_rule (nested_actions c.args.table.now.lookups c.args.depth d (apply_context_of c.args.ctx.now)) (apply_context_of c.args.ctx.now) r in
    let at : x ≡ get_or all c.loop-i.i x = sym (get_or_from_slice_get all c.loop-i.i x x c.rule_at-rule.ensures) in
    first_refuses act all c.loop-i.i x c.loop-i.buffer.direction c.args.buffer.now.direction c.args.ctx.now.random_state c.args.ctx.now.random_state c.args.ctx.now.random_state c.in-Err.cause c.args.buffer.now c.loop-i.buffer c.apply_rule.new.buffer (omega (arith, c.loop-i-test.true, c.rules_at-start.ensures.within)) at i (still_direction c.args.buffer.now c.loop-i.buffer i.still) refl c.in-Err.ensures.performs

pub apply_rules-loop-i-preserved : goal.apply_rules-loop-i-preserved
apply_rules-loop-i-preserved t c =
    let i = c.loop-i.invariant.passed in
    let all = chains_of c.args.subtable.now in
    let x = chain_of c.rule_at-rule.result in
    let act : Chain → Direction → Action = λ r d. chain_rule (nested_actions c.args.table.now.lookups c.args.depth d (apply_context_of c.args.ctx.now)) (apply_context_of c.args.ctx.now) r in
    let at : x ≡ get_or all c.loop-i.i x = sym (get_or_from_slice_get all c.loop-i.i x x c.rule_at-rule.ensures) in
    record { passed = (first_passes act all c.loop-i.i x c.loop-i.buffer.direction c.args.buffer.now.direction c.args.ctx.now.random_state c.args.ctx.now.random_state c.args.ctx.now.random_state c.in-Ok-false.field-0 c.args.buffer.now c.loop-i.buffer c.apply_rule.new.buffer (omega (arith, c.loop-i-test.true, c.rules_at-start.ensures.within)) at i (still_direction c.args.buffer.now c.loop-i.buffer i.still) refl c.in-Ok-false.field-0-test c.in-Ok-false.ensures.performs).0; kept = c.in-Ok-false.ensures.kept }

pub apply_rules-loop-i-preserved-then-not-may_follow_at : goal.apply_rules-loop-i-preserved-then-not-may_follow_at
apply_rules-loop-i-preserved-then-not-may_follow_at t c =
    let i = c.loop-i.invariant in
    let a = apply_context_of c.args.ctx.now in
    let told = c.next_for_rules-next.ensures in
    record {
      passed =
          passed_over_at (nested_actions c.args.table.now.lookups c.args.depth c.args.buffer.now.direction a) a (chains_of c.args.subtable.now) c.next_for_rules-next.result c.loop-i.i c.args.ctx.now.random_state c.args.buffer.now c.loop-i.buffer (omega (arith, c.loop-i-test.true, c.rules_at-start.ensures.within))
          (c.may_follow_at.ensures.excluded c.if-not-may_follow_at.true) (record { input = told.input; lookahead = told.lookahead; unflagged = told.unflagged }) i.passed;
      kept = i.kept;
    }

pub apply_rules-returns-clause-performs : goal.apply_rules-returns-clause-performs
apply_rules-returns-clause-performs t c =
    let a = apply_context_of c.args.ctx.now in
    let nest = nested_actions c.args.table.now.lookups c.args.depth c.args.buffer.now.direction a in
    passed_after nest a (chains_of c.args.subtable.now) c.args.ctx.now.random_state c.rules_at-start.result.0 c.rules_at-start.result.1 c.loop-i.i c.args.buffer.now c.loop-i.buffer c.cur.result.now c.cur.ensures c.rules_at-start.ensures c.loop-i-test.false (omega (arith, c.loop-i.auto.i-end, c.rules_at-start.ensures.ordered, c.rules_at-start.ensures.within)) c.loop-i.invariant.passed

pub apply_record-returns-in-Ok-true-clause-walks : goal.apply_record-returns-in-Ok-true-clause-walks
apply_record-returns-in-Ok-true-clause-walks t c =
    let s = c.args.buffer.now in
    let mid = c.begin_record.new.buffer in
    let final = c.recurse.new.buffer in
    let b : IsRecordBegun c.args.lookup_record.now c.args.indices.now.items c.in-Ok-Some.index_in_match s mid = begun_some c.args.lookup_record.now c.args.indices.now.items c.in-Ok-Some.index_in_match c.in-Ok-Some.field-0 s mid (let f = c.in-Ok-Some.field-0-is in let g = c.in-Ok-Some.index_in_match-is in cc) c.in-Ok-Some.ensures.begins in
    let P : Direction → Type 0 = λ d. IsPerformed (nested_act c.args.table.now.lookups c.args.depth d (apply_context_of c.args.ctx.now) c.args.lookup_record.now.lookup_index (cut_with c.args.ctx.now.random_state mid)) c.in-Ok-true.field-0 c.args.ctx.now.random_state c.args.ctx.now.random_state mid final in
    let there = subst P (still_direction s mid (b.left c.args.ctx.now.random_state).still) c.in-Ok-true.ensures.performs in
    record_acted (nested_act c.args.table.now.lookups c.args.depth s.direction (apply_context_of c.args.ctx.now)) c.args.lookup_record.now c.args.indices.now.items c.settle_match.new.indices.items c.in-Ok-Some.index_in_match c.args.end c.settle_match.result c.glyph_count-before.result c.args.ctx.now.random_state c.args.ctx.now.random_state c.in-Ok-true.field-0
    s mid final b c.in-Ok-true.field-0-test there c.glyph_count-before.ensures.count c.settle_match.ensures.indices c.settle_match.ensures.end

pub apply_record-returns-in-Ok-true-clause-inside : goal.apply_record-returns-in-Ok-true-clause-inside
apply_record-returns-in-Ok-true-clause-inside t c =
    let s = c.args.buffer.now in
    let mid = c.begin_record.new.buffer in
    let final = c.recurse.new.buffer in
    let b : IsRecordBegun c.args.lookup_record.now c.args.indices.now.items c.in-Ok-Some.index_in_match s mid = begun_some c.args.lookup_record.now c.args.indices.now.items c.in-Ok-Some.index_in_match c.in-Ok-Some.field-0 s mid (let f = c.in-Ok-Some.field-0-is in let g = c.in-Ok-Some.index_in_match-is in cc) c.in-Ok-Some.ensures.begins in
    record_inside _ c.args.lookup_record.now c.args.indices.now.items c.settle_match.new.indices.items c.in-Ok-Some.index_in_match c.args.end c.settle_match.result c.glyph_count-before.result c.args.ctx.now.random_state c.args.ctx.now.random_state c.in-Ok-true.field-0
    s mid final b c.in-Ok-true.field-0-test c.in-Ok-true.ensures.performs c.glyph_count-before.ensures.count c.settle_match.ensures.indices c.settle_match.ensures.end

pub apply_record-returns-in-Ok-false-clause-walks : goal.apply_record-returns-in-Ok-false-clause-walks
apply_record-returns-in-Ok-false-clause-walks t c =
    let s = c.args.buffer.now in
    let mid = c.begin_record.new.buffer in
    let final = c.recurse.new.buffer in
    let b : IsRecordBegun c.args.lookup_record.now c.args.indices.now.items c.in-Ok-Some.index_in_match s mid = begun_some c.args.lookup_record.now c.args.indices.now.items c.in-Ok-Some.index_in_match c.in-Ok-Some.field-0 s mid (let f = c.in-Ok-Some.field-0-is in let g = c.in-Ok-Some.index_in_match-is in cc) c.in-Ok-Some.ensures.begins in
    let P : Direction → Type 0 = λ d. IsPerformed (nested_act c.args.table.now.lookups c.args.depth d (apply_context_of c.args.ctx.now) c.args.lookup_record.now.lookup_index (cut_with c.args.ctx.now.random_state mid)) c.in-Ok-false.field-0 c.args.ctx.now.random_state c.args.ctx.now.random_state mid final in
    let there = subst P (still_direction s mid (b.left c.args.ctx.now.random_state).still) c.in-Ok-false.ensures.performs in
    record_passed (nested_act c.args.table.now.lookups c.args.depth s.direction (apply_context_of c.args.ctx.now)) c.args.lookup_record.now c.args.indices.now.items c.in-Ok-Some.index_in_match c.args.end c.args.ctx.now.random_state c.args.ctx.now.random_state c.in-Ok-false.field-0
    s mid final b c.in-Ok-false.field-0-test there

pub apply_record-returns-in-Err-recurse-clause-walks : goal.apply_record-returns-in-Err-recurse-clause-walks
apply_record-returns-in-Err-recurse-clause-walks t c =
    let s = c.args.buffer.now in
    let mid = c.begin_record.new.buffer in
    let b : IsRecordBegun c.args.lookup_record.now c.args.indices.now.items c.in-Ok-Some.index_in_match s mid = begun_some c.args.lookup_record.now c.args.indices.now.items c.in-Ok-Some.index_in_match c.in-Ok-Some.field-0 s mid (let f = c.in-Ok-Some.field-0-is in let g = c.in-Ok-Some.index_in_match-is in cc) c.in-Ok-Some.ensures.begins in
    record_lookup_refused c.args.table.now.lookups c.args.depth (apply_context_of c.args.ctx.now) c.args.lookup_record.now c.args.indices.now.items c.args.indices.now.items c.in-Ok-Some.index_in_match c.args.end c.args.ctx.now.random_state c.in-Err-recurse.cause s mid c.recurse.new.buffer b c.in-Err-recurse.ensures.performs

pub apply_records-returns-then-depth-eq0-clause-walks : goal.apply_records-returns-then-depth-eq0-clause-walks
apply_records-returns-then-depth-eq0-clause-walks t c =
    none_nested (nested_actions c.args.table.now.lookups c.args.depth c.args.buffer.now.direction (apply_context_of c.args.ctx.now)) c.args.records.now c.args.ctx.now.random_state c.args.end c.args.indices.now.items c.args.buffer.now (no_depth c.args.table.now.lookups c.args.depth c.args.buffer.now.direction (apply_context_of c.args.ctx.now) (omega (arith, c.if-depth-eq0.true)))

pub apply_records-returns-in-Err-clause-walks : goal.apply_records-returns-in-Err-clause-walks
apply_records-returns-in-Err-clause-walks t c =
    let i = c.loop-lookup_record.invariant in
    let none : SequenceLookupRecord = record { sequence_index = 0; lookup_index = 0 } in
    let r = get_or c.args.records.now c.loop-lookup_record.lookup_record-index none in
    let is : r ≡ get_or c.args.records.now c.loop-lookup_record.lookup_record-index r = get_or_any c.args.records.now c.loop-lookup_record.lookup_record-index none r c.loop-lookup_record-test.true in
    let act : Direction → ℕ → Action = λ d. nested_act c.args.table.now.lookups (c.args.depth - 1) d (apply_context_of c.args.ctx.now) in
    let same = still_direction c.args.buffer.now c.loop-lookup_record.buffer i.walked.still in
    next_failed act (nested_actions c.args.table.now.lookups c.args.depth c.args.buffer.now.direction (apply_context_of c.args.ctx.now)) c.loop-lookup_record.buffer.direction c.args.buffer.now.direction c.args.records.now c.loop-lookup_record.lookup_record-index r c.args.ctx.now.random_state c.args.ctx.now.random_state c.args.ctx.now.random_state c.args.buffer.now c.loop-lookup_record.buffer c.apply_record.new.buffer
    c.args.indices.now.items c.loop-lookup_record.indices.items c.apply_record.new.indices.items c.args.end c.loop-lookup_record.at c.in-Err.cause (some_depth c.args.table.now.lookups c.args.depth c.args.buffer.now.direction (apply_context_of c.args.ctx.now) (λ e. absurd (omega (arith, e, c.if-depth-eq0.false)))) same c.loop-lookup_record-test.true is i.walked c.in-Err.ensures.walks

pub apply_records-loop-lookup_record-preserved : goal.apply_records-loop-lookup_record-preserved
apply_records-loop-lookup_record-preserved t c =
    let i = c.loop-lookup_record.invariant in
    let none : SequenceLookupRecord = record { sequence_index = 0; lookup_index = 0 } in
    let r = get_or c.args.records.now c.loop-lookup_record.lookup_record-index none in
    let is : r ≡ get_or c.args.records.now c.loop-lookup_record.lookup_record-index r = get_or_any c.args.records.now c.loop-lookup_record.lookup_record-index none r c.loop-lookup_record-test.true in
    let act : Direction → ℕ → Action = λ d. nested_act c.args.table.now.lookups (c.args.depth - 1) d (apply_context_of c.args.ctx.now) in
    let same = still_direction c.args.buffer.now c.loop-lookup_record.buffer i.walked.still in
    record {
      walked =
          next_walked act c.loop-lookup_record.buffer.direction c.args.buffer.now.direction c.args.records.now c.loop-lookup_record.lookup_record-index r c.args.ctx.now.random_state c.args.ctx.now.random_state c.args.ctx.now.random_state c.args.buffer.now c.loop-lookup_record.buffer c.apply_record.new.buffer
          c.args.indices.now.items c.loop-lookup_record.indices.items c.apply_record.new.indices.items c.args.end c.loop-lookup_record.at c.in-Ok.settled same c.loop-lookup_record-test.true is i.walked c.in-Ok.ensures.walks;
      inside = then_stays _ _ _ _ _ _ _ _ _ i.inside c.in-Ok.ensures.inside;
      kept = c.in-Ok.ensures.kept;
    }

pub apply_records-returns-clause-walks : goal.apply_records-returns-clause-walks
apply_records-returns-clause-walks t c =
    let i = c.loop-lookup_record.invariant in
    last_walked (nested_act c.args.table.now.lookups (c.args.depth - 1) c.args.buffer.now.direction (apply_context_of c.args.ctx.now)) (nested_actions c.args.table.now.lookups c.args.depth c.args.buffer.now.direction (apply_context_of c.args.ctx.now)) c.args.records.now c.loop-lookup_record.lookup_record-index c.args.ctx.now.random_state c.args.ctx.now.random_state c.args.buffer.now c.loop-lookup_record.buffer c.args.indices.now.items c.loop-lookup_record.indices.items c.args.end c.loop-lookup_record.at
    (some_depth c.args.table.now.lookups c.args.depth c.args.buffer.now.direction (apply_context_of c.args.ctx.now) (λ e. absurd (omega (arith, e, c.if-depth-eq0.false)))) c.loop-lookup_record-test.false i.walked

pub apply_rule-returns-then-fails_unflagged-clause-performs : goal.apply_rule-returns-then-fails_unflagged-clause-performs
apply_rule-returns-then-fails_unflagged-clause-performs t c =
    let a = apply_context_of c.args.ctx.now in
    let nest = nested_actions c.args.table.now.lookups c.args.depth c.args.buffer.now.direction a in
    rule_passed a nest (chain_of c.args.rule.now) c.args.ctx.now.random_state c.args.buffer.now c.args.buffer.now (c.fails_unflagged.ensures c.if-fails_unflagged.true nest)

pub apply_rule-returns-in-Ok-clause-performs : goal.apply_rule-returns-in-Ok-clause-performs
apply_rule-returns-in-Ok-clause-performs t c =
    let s = c.args.buffer.now in
    let mid = c.match_chain.new.buffer in
    let m : IsMatched (apply_context_of c.args.ctx.now) (chain_of c.args.rule.now) c.args.ctx.now.random_state c.in-Some.end c.match_chain.new.indices.items s mid = c.in-Some.ensures in
    let P : Direction → Type 0 = λ d. Walking (each_nested (nested_actions c.args.table.now.lookups c.args.depth d (apply_context_of c.args.ctx.now)) (chain_of c.args.rule.now).records (cut_with c.args.ctx.now.random_state mid) c.match_chain.new.indices.items c.in-Some.end) (Ok c.in-Ok.at) c.apply_records.new.indices.items c.args.ctx.now.random_state mid c.apply_records.new.buffer in
    rule_acted (apply_context_of c.args.ctx.now) (nested_actions c.args.table.now.lookups c.args.depth c.args.buffer.now.direction (apply_context_of c.args.ctx.now)) (chain_of c.args.rule.now) c.args.ctx.now.random_state c.args.ctx.now.random_state c.in-Some.end c.in-Ok.at c.match_chain.new.indices.items c.apply_records.new.indices.items c.move_to_match_end.result
    s mid c.apply_records.new.buffer c.move_to_match_end.new.buffer m (subst P (still_direction s mid m.still) c.in-Ok.ensures.walks) c.in-Ok.ensures.inside (c.move_to_match_end.ensures.nests c.args.ctx.now.random_state)

pub apply_rule-returns-in-Err-clause-performs : goal.apply_rule-returns-in-Err-clause-performs
apply_rule-returns-in-Err-clause-performs t c =
    let s = c.args.buffer.now in
    let mid = c.match_chain.new.buffer in
    let m : IsMatched (apply_context_of c.args.ctx.now) (chain_of c.args.rule.now) c.args.ctx.now.random_state c.in-Some.end c.match_chain.new.indices.items s mid = c.in-Some.ensures in
    let P : Direction → Type 0 = λ d. Walking (each_nested (nested_actions c.args.table.now.lookups c.args.depth d (apply_context_of c.args.ctx.now)) (chain_of c.args.rule.now).records (cut_with c.args.ctx.now.random_state mid) c.match_chain.new.indices.items c.in-Some.end) (Err c.in-Err.cause) c.apply_records.new.indices.items c.args.ctx.now.random_state mid c.apply_records.new.buffer in
    rule_failed (apply_context_of c.args.ctx.now) (nested_actions c.args.table.now.lookups c.args.depth c.args.buffer.now.direction (apply_context_of c.args.ctx.now)) (chain_of c.args.rule.now) c.args.ctx.now.random_state c.args.ctx.now.random_state c.in-Some.end c.match_chain.new.indices.items c.apply_records.new.indices.items c.in-Err.cause s mid c.apply_records.new.buffer m (subst P (still_direction s mid m.still) c.in-Err.ensures.walks)

pub apply_rule-apply_records-requires : goal.apply_rule-apply_records-requires
apply_rule-apply_records-requires t c =
    let s = c.args.buffer.now in
    let mid = c.match_chain.new.buffer in
    let m : IsMatched (apply_context_of c.args.ctx.now) (chain_of c.args.rule.now) c.args.ctx.now.random_state c.in-Some.end c.match_chain.new.indices.items s mid = c.in-Some.ensures in
    let a = (apply_context_of c.args.ctx.now) in
    let r = chain_of c.args.rule.now in
    let ps = c.match_chain.new.indices.items in
    let end = c.in-Some.end in
    let closed_there = matched_closed a r c.args.ctx.now.random_state end ps s mid m c.requires.at_glyph_in_place.closed in
    let unrefused = matched_unrefused a r c.args.ctx.now.random_state end ps s mid m c.requires.at_glyph_in_place.unrefused in
    let numbers = matched_numbers a r c.args.ctx.now.random_state end ps s mid m c.requires.at_glyph_in_place.numbers in
    let rising = match_inside a r c.args.ctx.now.random_state end ps s mid m in
    (omega (arith, c.decreases), (record { closed = closed_there; unrefused = unrefused; numbers = numbers }, (matched_kept a r c.args.ctx.now.random_state end ps c.args.last.now s mid m c.requires.kept, (rising, m.within))))

pub apply_record-recurse-requires : goal.apply_record-recurse-requires
apply_record-recurse-requires t c =
    let s = c.args.buffer.now in
    let mid = c.begin_record.new.buffer in
    let k = c.args.lookup_record.now in
    let ps = c.args.indices.now.items in
    let p = c.in-Ok-Some.index_in_match in
    let b : IsRecordBegun k ps p s mid = begun_some k ps p c.in-Ok-Some.field-0 s mid (let f = c.in-Ok-Some.field-0-is in let g = c.in-Ok-Some.index_in_match-is in cc) c.in-Ok-Some.ensures.begins in
    let among = c.requires.among_glyphs_in_place in (
      omega (arith, c.decreases),
      (
        record { closed = begun_closed k ps p s mid b among.closed; current = b.ahead; unrefused = begun_unrefused k ps p s mid b among.unrefused; numbers = begun_numbers k ps p s mid b among.numbers },
        begun_kept k ps p (apply_context_of c.args.ctx.now) c.args.last.now s mid b c.requires.kept,
      ),
    )

pub apply_rule-returns-in_default-clause-kept : goal.apply_rule-returns-in_default-clause-kept
apply_rule-returns-in_default-clause-kept t c =
    unmatched_kept (apply_context_of c.args.ctx.now) (chain_of c.args.rule.now) c.args.ctx.now.random_state c.match_chain.new.indices.items c.match_chain.result c.args.last.now c.args.buffer.now c.match_chain.new.buffer c.in_default.is c.match_chain.ensures c.requires.kept

pub apply_rule-returns-in-Ok-clause-kept : goal.apply_rule-returns-in-Ok-clause-kept
apply_rule-returns-in-Ok-clause-kept t c = behind_kept (apply_context_of c.args.ctx.now) c.in-Ok.at c.move_to_match_end.result c.apply_records.new.last c.apply_records.new.buffer c.move_to_match_end.new.buffer c.in-Ok.ensures.kept c.move_to_match_end.ensures.nests

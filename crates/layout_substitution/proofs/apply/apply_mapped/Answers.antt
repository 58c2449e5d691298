use Rattle.std.proofs.Common.{◌≤◌, Ok, false, ap, arith, length, refl, slice_get, sym, ◌∙◌}
use Rattle.buffer_core.specs.Sides.{all_glyphs, items_of}
use Rattle.layout_face.specs.Lookups.{is_reverse}
use Rattle.layout_match.specs.Applied.{apply_context_of}
use Rattle.layout_match.specs.Trying.{forward_pass}
use Rattle.layout_match.proofs.Lemmas.Stages.{stage_refused}
use Rattle.layout_substitution.specs.Lookups.{backward_pass, lookup_action, reverse_action}
use Rattle.layout_substitution.proofs.Skipped.{idle_done, skipped_done, skipped_items}
use Rattle.layout_substitution.proofs.Stages.{done_at, either_done, otherwise_done, otherwise_refused, refused_at}
use Rattle.layout_substitution.proofs.apply.apply_mapped.Goals as goal

-- ---- a lookup that can act at no glyph of the text

pub returns-then-misses-clause-stage : goal.returns-then-misses-clause-stage
returns-then-misses-clause-stage g c =
    let s = c.args.buffer.now in
    let count = c.len-count.ensures.count c.requires.glyphs.ready.closed in
    let most = c.len-count.ensures.within c.requires.glyphs.ready.closed in
    let within : length (all_glyphs s) ≤ s.max_len = omega (arith, count, most) in
    let table = c.args.table.now.lookups in
    let m = c.args.lookup_map.now in
    skipped_done c.args.ctx.now.face.now table (slice_get table m.index) c.in-Some.lookup.now m c.args.ctx.now.random_state s c.skip_lookup.new.buffer c.in-Some.ensures c.requires.glyphs.ready within (c.misses.ensures.misses c.if-misses.true) c.skip_lookup.ensures.backward c.skip_lookup.ensures.forward

-- ---- one that is to be tried at none

pub returns-then-is_idle-clause-stage : goal.returns-then-is_idle-clause-stage
returns-then-is_idle-clause-stage g c =
    let s = c.args.buffer.now in
    let count = c.len-count.ensures.count c.requires.glyphs.ready.closed in
    let most = c.len-count.ensures.within c.requires.glyphs.ready.closed in
    let within : length (all_glyphs s) ≤ s.max_len = omega (arith, count, most) in
    let table = c.args.table.now.lookups in
    let m = c.args.lookup_map.now in
    let a = apply_context_of c.set_lookup.new.ctx in
    let r = c.args.ctx.now.random_state in
    let q = c.set_lookup.new.ctx.random_state in
    let new = c.skip_lookup-then-is_idle.new.buffer in
    done_at c.args.ctx.now.face.now table (slice_get table m.index) c.in-Some.lookup.now m a q r q s new c.in-Some.ensures c.set_lookup.ensures.applied c.set_lookup.ensures.state
    (idle_done table a c.in-Some.lookup.now q s new c.requires.glyphs.ready within (c.is_idle.ensures.idle c.if-is_idle.true) c.skip_lookup-then-is_idle.ensures.backward c.skip_lookup-then-is_idle.ensures.forward)

pub returns-then-is_idle-clause-held : goal.returns-then-is_idle-clause-held
returns-then-is_idle-clause-held g c =
    let s = c.args.buffer.now in
    let new = c.skip_lookup-then-is_idle.new.buffer in
    c.after_lookup.ensures (items_of s) (items_of new) c.misses.ensures.held (λ none. skipped_items (is_reverse c.in-Some.lookup.now.subtables) s new c.skip_lookup-then-is_idle.ensures.backward c.skip_lookup-then-is_idle.ensures.forward)

-- ---- from the right

pub returns-then-is_reverse-clause-stage : goal.returns-then-is_reverse-clause-stage
returns-then-is_reverse-clause-stage g c =
    let table = c.args.table.now.lookups in
    let m = c.args.lookup_map.now in
    let a = apply_context_of c.set_lookup.new.ctx in
    let lookup = c.in-Some.lookup.now in
    let r = c.args.ctx.now.random_state in
    let q = c.set_lookup.new.ctx.random_state in
    let s = c.args.buffer.now in
    let new = c.apply_backward-acted.new.buffer in
    done_at c.args.ctx.now.face.now table (slice_get table m.index) lookup m a q r q s new c.in-Some.ensures c.set_lookup.ensures.applied c.set_lookup.ensures.state
    (either_done (is_reverse lookup.subtables) (backward_pass (reverse_action a lookup)) (forward_pass (lookup_action table a lookup)) q q s new (sym c.is_reverse.ensures ∙ c.if-is_reverse.true) (c.apply_backward-acted.ensures.stage q))

pub returns-then-is_reverse-clause-held : goal.returns-then-is_reverse-clause-held
returns-then-is_reverse-clause-held g c = c.after_lookup-then-is_reverse.ensures (items_of c.args.buffer.now) (items_of c.apply_backward-acted.new.buffer) c.misses.ensures.held c.apply_backward-acted.ensures.unchanged

-- ---- from the left

pub returns-clause-stage : goal.returns-clause-stage
returns-clause-stage g c =
    let table = c.args.table.now.lookups in
    let m = c.args.lookup_map.now in
    let a = apply_context_of c.set_lookup.new.ctx in
    let lookup = c.in-Some.lookup.now in
    let r = c.args.ctx.now.random_state in
    let q = c.set_lookup.new.ctx.random_state in
    let after = c.apply_forward.new.ctx.random_state in
    let s = c.args.buffer.now in
    let new = c.apply_forward.new.buffer in
    done_at c.args.ctx.now.face.now table (slice_get table m.index) lookup m a q r after s new c.in-Some.ensures c.set_lookup.ensures.applied c.set_lookup.ensures.state
    (otherwise_done (is_reverse lookup.subtables) (backward_pass (reverse_action a lookup)) (forward_pass (lookup_action table a lookup)) q after s new (sym c.is_reverse.ensures ∙ c.if-is_reverse.false) c.in_ok-acted.ensures.stage)

pub returns-in_err-acted-clause-stage : goal.returns-in_err-acted-clause-stage
returns-in_err-acted-clause-stage g c =
    let table = c.args.table.now.lookups in
    let m = c.args.lookup_map.now in
    let a = apply_context_of c.set_lookup.new.ctx in
    let lookup = c.in-Some.lookup.now in
    let r = c.args.ctx.now.random_state in
    let q = c.set_lookup.new.ctx.random_state in
    let s = c.args.buffer.now in
    let cause = c.in_err-acted.field-0.0 in
    stage_refused c.from_residual.result cause _ _ _ _ _ c.from_residual.ensures.1
    (λ not_memory. refused_at c.args.ctx.now.face.now table (slice_get table m.index) lookup m a q r s cause c.in-Some.ensures c.set_lookup.ensures.applied c.set_lookup.ensures.state
    (otherwise_refused (is_reverse lookup.subtables) (backward_pass (reverse_action a lookup)) (forward_pass (lookup_action table a lookup)) q s cause (sym c.is_reverse.ensures ∙ c.if-is_reverse.false) (c.in_err-acted.ensures.stage not_memory)))

pub returns-clause-held : goal.returns-clause-held
returns-clause-held g c = c.after_lookup-2.ensures (items_of c.args.buffer.now) (items_of c.apply_forward.new.buffer) c.misses.ensures.held (λ none. c.in_ok-acted.ensures.unchanged (ap Ok none))

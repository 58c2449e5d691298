use Rattle.std.proofs.Common.{◌≡◌, ◌∙◌, true, Ok, Err, ap, sym, arith, rules}
use Rattle.buffer_stages.specs.Performing.{Performs, cut_with}
use Rattle.layout_match.specs.Applied.{apply_context_of}
use Rattle.layout_substitution.specs.Lookups.{lookup_action}
use Rattle.layout_match.proofs.Lemmas.Steps.{passed_items, passed_there, step_acted, step_passed}
use Rattle.layout_substitution.proofs.Meeting.{met_performs, passed_full}
use Rattle.layout_substitution.proofs.forward.apply_next.Goals as goal

pub returns-then-branch-clause-ok : goal.returns-then-branch-clause-ok
returns-then-branch-clause-ok c =
    let ctx = c.args.ctx.now in
    let done = met_performs c.args.table.now.lookups c.args.lookup.now c.inner-subtables.result.now (apply_context_of ctx) ctx.random_state c.apply_subtables.new.ctx.random_state (Ok c.in_ok-apply_subtables.field-0) c.args.buffer.now c.apply_subtables.new.buffer c.requires.at_glyph.current c.requires.met c.inner-subtables.ensures c.in_ok-apply_subtables.ensures.performs in
    step_acted (lookup_action c.args.table.now.lookups (apply_context_of ctx) c.args.lookup.now) ctx.random_state c.apply_subtables.new.ctx.random_state c.in_ok-apply_subtables.field-0 c.args.buffer.now c.apply_subtables.new.buffer c.if-branch.true c.requires.at_glyph.current done

pub returns-clause-ok : goal.returns-clause-ok
returns-clause-ok c =
    let ctx = c.args.ctx.now in
    let answer : c.next_glyph.result ≡ Ok true = c.in_ok-next_glyph.was ∙ ap Ok c.if-not-branch.false in
    let done = met_performs c.args.table.now.lookups c.args.lookup.now c.inner-subtables.result.now (apply_context_of ctx) ctx.random_state c.apply_subtables.new.ctx.random_state (Ok c.in_ok-apply_subtables.field-0) c.args.buffer.now c.apply_subtables.new.buffer c.requires.at_glyph.current c.requires.met c.inner-subtables.ensures c.in_ok-apply_subtables.ensures.performs in
    step_passed (lookup_action c.args.table.now.lookups (apply_context_of ctx) c.args.lookup.now) ctx.random_state c.apply_subtables.new.ctx.random_state c.in_ok-apply_subtables.field-0 c.args.buffer.now c.apply_subtables.new.buffer c.next_glyph.new.self c.if-branch.false c.requires.at_glyph.current c.requires.at_glyph.opened done
    (sym c.in_ok-next_glyph.ensures.held ∙ c.if-not-branch.false) (c.next_glyph.ensures.moved answer)

pub returns-clause-unchanged : goal.returns-clause-unchanged
returns-clause-unchanged c e =
    let ctx = c.args.ctx.now in
    let answer : c.next_glyph.result ≡ Ok true = c.in_ok-next_glyph.was ∙ ap Ok c.if-not-branch.false in
    let done = met_performs c.args.table.now.lookups c.args.lookup.now c.inner-subtables.result.now (apply_context_of ctx) ctx.random_state c.apply_subtables.new.ctx.random_state (Ok c.in_ok-apply_subtables.field-0) c.args.buffer.now c.apply_subtables.new.buffer c.requires.at_glyph.current c.requires.met c.inner-subtables.ensures c.in_ok-apply_subtables.ensures.performs in
    passed_items (lookup_action c.args.table.now.lookups (apply_context_of ctx) c.args.lookup.now) ctx.random_state c.apply_subtables.new.ctx.random_state c.in_ok-apply_subtables.field-0 c.args.buffer.now c.apply_subtables.new.buffer c.next_glyph.new.self c.if-branch.false done
    (c.next_glyph.ensures.moved answer)

pub returns-in_err-apply_subtables-clause-err : goal.returns-in_err-apply_subtables-clause-err
returns-in_err-apply_subtables-clause-err c =
    let ctx = c.args.ctx.now in
    let done : Performs (lookup_action c.args.table.now.lookups (apply_context_of ctx) c.args.lookup.now (cut_with ctx.random_state c.args.buffer.now)) (Err c.in_err-apply_subtables.field-0.0) ctx.random_state c.apply_subtables.new.ctx.random_state c.args.buffer.now c.apply_subtables.new.buffer = met_performs c.args.table.now.lookups c.args.lookup.now c.inner-subtables.result.now (apply_context_of ctx) ctx.random_state c.apply_subtables.new.ctx.random_state (Err c.in_err-apply_subtables.field-0.0) c.args.buffer.now c.apply_subtables.new.buffer c.requires.at_glyph.current c.requires.met c.inner-subtables.ensures c.in_err-apply_subtables.ensures.performs in
    search rules

pub next_glyph-requires : goal.next_glyph-requires
next_glyph-requires c =
    let ctx = c.args.ctx.now in
    let done = met_performs c.args.table.now.lookups c.args.lookup.now c.inner-subtables.result.now (apply_context_of ctx) ctx.random_state c.apply_subtables.new.ctx.random_state (Ok c.in_ok-apply_subtables.field-0) c.args.buffer.now c.apply_subtables.new.buffer c.requires.at_glyph.current c.requires.met c.inner-subtables.ensures c.in_ok-apply_subtables.ensures.performs in
    let same = passed_there (lookup_action c.args.table.now.lookups (apply_context_of ctx) c.args.lookup.now) ctx.random_state c.apply_subtables.new.ctx.random_state c.in_ok-apply_subtables.field-0 c.args.buffer.now c.apply_subtables.new.buffer c.if-branch.false done in
    let some = c.requires.at_glyph.current in
    omega (arith, same, some)

pub returns-then-not-branch-clause-err : goal.returns-then-not-branch-clause-err
returns-then-not-branch-clause-err c =
    let ctx = c.args.ctx.now in
    let done : Performs (lookup_action c.args.table.now.lookups (apply_context_of ctx) c.args.lookup.now (cut_with ctx.random_state c.args.buffer.now)) (Ok c.in_ok-apply_subtables.field-0) ctx.random_state c.apply_subtables.new.ctx.random_state c.args.buffer.now c.apply_subtables.new.buffer = met_performs c.args.table.now.lookups c.args.lookup.now c.inner-subtables.result.now (apply_context_of ctx) ctx.random_state c.apply_subtables.new.ctx.random_state (Ok c.in_ok-apply_subtables.field-0) c.args.buffer.now c.apply_subtables.new.buffer c.requires.at_glyph.current c.requires.met c.inner-subtables.ensures c.in_ok-apply_subtables.ensures.performs in
    λ known. passed_full (lookup_action c.args.table.now.lookups (apply_context_of ctx) c.args.lookup.now) ctx.random_state c.apply_subtables.new.ctx.random_state c.in_ok-apply_subtables.field-0 c.args.buffer.now c.apply_subtables.new.buffer c.if-branch.false done c.requires.at_glyph.current c.requires.at_glyph.opened
    (sym c.in_ok-next_glyph.ensures.held ∙ c.if-not-branch.true)

use Rattle.std.proofs.Common.{◌∙◌, sym}
use Rattle.buffer_glyphs.specs.Items.{item_of}
use Rattle.layout_match.specs.Applied.{apply_context_of}
use Rattle.buffer_stages.proofs.Lemmas.Glyphs.{first_item}
use Rattle.buffer_stages.specs.Performing.{cut_with}
use Rattle.layout_contexts.specs.Fitting.{chain_of}
use Rattle.layout_contexts.proofs.Fitted.{unbegun}
use Rattle.layout_contexts.proofs.Matching.{not_tried}
use Rattle.layout_contexts.proofs.Unflagged.{failed_unflagged, never_unflagged}
use Rattle.layout_contexts.proofs.chain.fails_unflagged.Goals as goal

pub returns-then-not-first_matches : goal.returns-then-not-first_matches
returns-then-not-first_matches c = λ is.
    let s = c.args.buffer.now in
    let g = c.cur.result.now in
    let a = apply_context_of c.args.ctx.now in
    not_tried a (chain_of c.args.rule.now) c.args.ctx.now.random_state s (λ nest. unbegun nest a (chain_of c.args.rule.now) (item_of g) (cut_with c.args.ctx.now.random_state s) (first_item s.ahead g c.cur.ensures) (sym c.first_matches.ensures ∙ c.if-not-first_matches.true))

pub returns-then-is_excluded_behind : goal.returns-then-is_excluded_behind
returns-then-is_excluded_behind c = λ is.
    never_unflagged (apply_context_of c.args.ctx.now) (chain_of c.args.rule.now) c.args.ctx.now.random_state c.args.buffer.now (sym c.flags_failures.ensures ∙ c.if-flags_failures.false) (c.is_excluded_behind.ensures c.if-is_excluded_behind.true)

pub returns-then-is_excluded_ahead : goal.returns-then-is_excluded_ahead
returns-then-is_excluded_ahead c = λ is.
    never_unflagged (apply_context_of c.args.ctx.now) (chain_of c.args.rule.now) c.args.ctx.now.random_state c.args.buffer.now (sym c.flags_failures.ensures ∙ c.if-flags_failures.false) (c.is_excluded_ahead.ensures c.if-is_excluded_ahead.true)

pub returns-in-NoAttempt : goal.returns-in-NoAttempt
returns-in-NoAttempt c = λ is. not_tried (apply_context_of c.args.ctx.now) (chain_of c.args.rule.now) c.args.ctx.now.random_state c.args.buffer.now c.in-NoAttempt.ensures.says

pub returns-in-Fails : goal.returns-in-Fails
returns-in-Fails c = λ is. failed_unflagged (apply_context_of c.args.ctx.now) (chain_of c.args.rule.now) c.args.ctx.now.random_state _ _ c.args.buffer.now (sym c.flags_failures.ensures ∙ c.if-flags_failures.false) c.in-Fails.ensures.says

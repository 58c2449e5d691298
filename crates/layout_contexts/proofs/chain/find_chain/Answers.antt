use Rattle.std.proofs.Common.{◌≡◌, Ok, drop, refl, sym, ap, ◌∙◌, arith}
use Rattle.buffer_glyphs.specs.Items.{item_of, strip}
use Rattle.layout_match.specs.Applied.{apply_context_of, own_search}
use Rattle.layout_match.specs.Matches.{answers_of, input_end, input_indices, sequence_end}
use Rattle.layout_match.specs.Sequences.{tests_of}
use Rattle.buffer_stages.proofs.Lemmas.Glyphs.{first_item}
use Rattle.buffer_stages.specs.Performing.{cut_with}
use Rattle.layout_contexts.specs.Fitting.{chain_of}
use Rattle.layout_contexts.proofs.Fitted.{all_fits, backtrack_fails, input_fails, lookahead_fails, other_first, too_many}
use Rattle.layout_contexts.proofs.Lemmas.Rising.{indices_inside, reached_low}
use Rattle.layout_contexts.proofs.chain.find_chain.Goals as goal

pub returns-then-not-fits-clause-says : goal.returns-then-not-fits-clause-says
returns-then-not-fits-clause-says c = λ nest.
    let s = c.args.buffer.now in
    let g = c.cur.result.now in
    other_first nest (apply_context_of c.args.ctx.now) (chain_of c.args.rule.now) (item_of g) (cut_with c.args.ctx.now.random_state s) (first_item s.ahead g c.cur.ensures) (sym c.fits.ensures ∙ c.if-not-fits.true)

pub returns-then-len-gt-MAX_CONTEXT_LENGTH-clause-says : goal.returns-then-len-gt-MAX_CONTEXT_LENGTH-clause-says
returns-then-len-gt-MAX_CONTEXT_LENGTH-clause-says c = λ nest.
    let s = c.args.buffer.now in
    let g = c.cur.result.now in
    too_many nest (apply_context_of c.args.ctx.now) (chain_of c.args.rule.now) (item_of g) (cut_with c.args.ctx.now.random_state s) (first_item s.ahead g c.cur.ensures) (omega (arith, c.len.ensures, c.if-len-gt-MAX_CONTEXT_LENGTH.true))

pub returns-in-Err-clause-says : goal.returns-in-Err-clause-says
returns-in-Err-clause-says c = λ nest.
    let s = c.args.buffer.now in
    let g = c.cur.result.now in
    let a = apply_context_of c.args.ctx.now in
    let found = ap (λ ts. input_end (own_search a (strip s.ahead)) ts (strip s.ahead)) (sym c.behind_first-input.ensures) ∙ sym c.input_end.ensures.end ∙ c.in-Err.is in
    input_fails nest a (chain_of c.args.rule.now) (item_of g) (cut_with c.args.ctx.now.random_state s) c.in-Err.ahead (first_item s.ahead g c.cur.ensures) (sym c.fits.ensures ∙ c.if-not-fits.false) (omega (arith, c.len.ensures, c.if-len-gt-MAX_CONTEXT_LENGTH.false)) found

pub returns-in-Err-match_lookahead-clause-says : goal.returns-in-Err-match_lookahead-clause-says
returns-in-Err-match_lookahead-clause-says c = λ nest.
    let s = c.args.buffer.now in
    let g = c.cur.result.now in
    let a = apply_context_of c.args.ctx.now in
    let found = ap (λ ts. input_end (own_search a (strip s.ahead)) ts (strip s.ahead)) (sym c.behind_first-input.ensures) ∙ sym c.input_end.ensures.end ∙ c.in-Ok.is in
    lookahead_fails nest a (chain_of c.args.rule.now) (item_of g) (cut_with c.args.ctx.now.random_state s) c.in-Ok.end c.in-Err-match_lookahead.ahead (first_item s.ahead g c.cur.ensures) (sym c.fits.ensures ∙ c.if-not-fits.false) (omega (arith, c.len.ensures, c.if-len-gt-MAX_CONTEXT_LENGTH.false)) found
    (sym c.match_lookahead.ensures.end ∙ c.in-Err-match_lookahead.is)

pub returns-in-Ok-match_backtrack-clause-says : goal.returns-in-Ok-match_backtrack-clause-says
returns-in-Ok-match_backtrack-clause-says c = λ nest.
    let s = c.args.buffer.now in
    let g = c.cur.result.now in
    let a = apply_context_of c.args.ctx.now in
    let found = ap (λ ts. input_end (own_search a (strip s.ahead)) ts (strip s.ahead)) (sym c.behind_first-input.ensures) ∙ sym c.input_end.ensures.end ∙ c.in-Ok.is in
    all_fits nest a (chain_of c.args.rule.now) (item_of g) (cut_with c.args.ctx.now.random_state s) (input_indices (own_search a (strip s.ahead)) (drop 1 (tests_of c.args.rule.now.input)) (strip s.ahead)) c.in-Ok.end c.in-Ok-match_lookahead.ahead c.in-Ok-match_backtrack.back (first_item s.ahead g c.cur.ensures) (sym c.fits.ensures ∙ c.if-not-fits.false)
    (omega (arith, c.len.ensures, c.if-len-gt-MAX_CONTEXT_LENGTH.false)) found (sym c.match_lookahead.ensures.end ∙ c.in-Ok-match_lookahead.is) (sym c.match_backtrack.ensures.end ∙ c.in-Ok-match_backtrack.is) refl

pub returns-in-Ok-match_backtrack-clause-inside : goal.returns-in-Ok-match_backtrack-clause-inside
returns-in-Ok-match_backtrack-clause-inside c =
    let s = c.args.buffer.now in
    let a = apply_context_of c.args.ctx.now in
    let asks = answers_of (own_search a (strip s.ahead)) (tests_of c.behind_first-input.result) in
    let same : input_indices (own_search a (strip s.ahead)) (drop 1 (tests_of c.args.rule.now.input)) (strip s.ahead) ≡ input_indices (own_search a (strip s.ahead)) (tests_of c.behind_first-input.result) (strip s.ahead) = ap (λ ts. input_indices (own_search a (strip s.ahead)) ts (strip s.ahead)) (sym c.behind_first-input.ensures) in
    let reaches : sequence_end asks 1 (strip s.ahead) ≡ Ok c.in-Ok.end = sym c.input_end.ensures.end ∙ c.in-Ok.is in (
      c.in-Ok-match_backtrack.ensures.inside,
      c.in-Ok-match_lookahead.ensures.inside,
      c.in-Ok.ensures.inside,
      reached_low asks 1 c.in-Ok.end (strip s.ahead) reaches,
      indices_inside asks s.ahead (input_indices (own_search a (strip s.ahead)) (drop 1 (tests_of c.args.rule.now.input)) (strip s.ahead)) c.requires same,
    )

pub returns-in-Err-match_backtrack-clause-says : goal.returns-in-Err-match_backtrack-clause-says
returns-in-Err-match_backtrack-clause-says c = λ nest.
    let s = c.args.buffer.now in
    let g = c.cur.result.now in
    let a = apply_context_of c.args.ctx.now in
    let found = ap (λ ts. input_end (own_search a (strip s.ahead)) ts (strip s.ahead)) (sym c.behind_first-input.ensures) ∙ sym c.input_end.ensures.end ∙ c.in-Ok.is in
    backtrack_fails nest a (chain_of c.args.rule.now) (item_of g) (cut_with c.args.ctx.now.random_state s) c.in-Ok.end c.in-Ok-match_lookahead.ahead c.in-Err-match_backtrack.back (first_item s.ahead g c.cur.ensures) (sym c.fits.ensures ∙ c.if-not-fits.false)
    (omega (arith, c.len.ensures, c.if-len-gt-MAX_CONTEXT_LENGTH.false)) found (sym c.match_lookahead.ensures.end ∙ c.in-Ok-match_lookahead.is) (sym c.match_backtrack.ensures.end ∙ c.in-Err-match_backtrack.is)

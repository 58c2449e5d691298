use Rattle.std.proofs.Common.{ℕ, ◌≡◌, ◌≤◌, ◌<◌, ◌+◌, false, length, sym, ap, ◌∙◌, arith}
use Rattle.buffer_glyphs.specs.Items.{item_of, strip}
use Rattle.buffer_stages.specs.Masks.{shares_mask}
use Rattle.buffer_stages.specs.Performing.{cut_with}
use Rattle.layout_match.specs.Applied.{apply_context_of, own_search, context_search, own_syllable}
use Rattle.layout_match.specs.Searches.{is_in_syllable}
use Rattle.layout_match.specs.Sequences.{test_at}
use Rattle.layout_contexts.specs.Fitting.{chain_of}
use Rattle.layout_contexts.proofs.Followed.{second_never}
use Rattle.layout_contexts.proofs.Beside.{is_seen, fails_ahead, fails_at_end, second_of_input, first_of_lookahead, second_of_any, of_other_syllable, of_other_mask, of_other_test}
use Rattle.layout_contexts.proofs.chain.is_excluded_ahead.Goals as goal
use Rattle.layout_contexts.proofs.chain.is_excluded_ahead.Goals.{else-inputs-le1-via-then-inputs-le1+else-len-eq0, else-inputs-le1-via-else-inputs-le1}
use Rattle.buffer_facts.proofs.Truth.{false_by_not as not_true}

-- no glyph is there
pub returns-then-lookahead_len-lt2 : goal.returns-then-lookahead_len-lt2
returns-then-lookahead_len-lt2 c = λ is.
    let a = apply_context_of c.args.ctx.now in
    let r = chain_of c.args.rule.now in
    let s = c.args.buffer.now in
    let some : length r.input ≤ 1 → 0 < length r.lookahead = elim c.else-inputs-le1.branch [
      | else-inputs-le1-via-then-inputs-le1+else-len-eq0 w ↦ λ le. omega (arith, w.len.ensures, w.if-len-eq0.false)
      | else-inputs-le1-via-else-inputs-le1 w ↦ λ le. absurd (omega (arith, le, c.len-inputs.ensures, w.if-inputs-le1.false))
    ] in
    let few : length s.ahead < 2 = omega (arith, c.lookahead_len.ensures.count, c.if-lookahead_len-lt2.true) in
    second_never a r (cut_with c.args.ctx.now.random_state s) (second_of_any a (strip s.ahead) r.input r.lookahead some (λ test. fails_at_end (own_search a (strip s.ahead)) test s.ahead few) (λ test. fails_at_end (context_search a (strip s.ahead)) test s.ahead few))

-- it is of another syllable
pub returns-then-not-is_in_own_syllable : goal.returns-then-not-is_in_own_syllable
returns-then-not-is_in_own_syllable c = λ is.
    let a = apply_context_of c.args.ctx.now in
    let r = chain_of c.args.rule.now in
    let s = c.args.buffer.now in
    let some : length r.input ≤ 1 → 0 < length r.lookahead = elim c.else-inputs-le1.branch [
      | else-inputs-le1-via-then-inputs-le1+else-len-eq0 w ↦ λ le. omega (arith, w.len.ensures, w.if-len-eq0.false)
      | else-inputs-le1-via-else-inputs-le1 w ↦ λ le. absurd (omega (arith, le, c.len-inputs.ensures, w.if-inputs-le1.false))
    ] in
    let x = item_of c.cur-info.result.now in
    let seen = is_seen a.props a.font.gdef.sets x (sym c.ends_searches.ensures ∙ c.if-not-ends_searches.false) in
    let out : is_in_syllable (own_syllable a (strip s.ahead)) x ≡ false = sym c.is_in_own_syllable.ensures ∙ c.if-not-is_in_own_syllable.true in
    second_never a r (cut_with c.args.ctx.now.random_state s) (second_of_any a (strip s.ahead) r.input r.lookahead some
    (λ test. fails_ahead (own_search a (strip s.ahead)) test s.ahead c.cur-info.result.now c.cur-info.ensures seen (of_other_syllable (own_search a (strip s.ahead)) test x out))
    (λ test. fails_ahead (context_search a (strip s.ahead)) test s.ahead c.cur-info.result.now c.cur-info.ensures seen (of_other_syllable (context_search a (strip s.ahead)) test x out)))

-- it isn't the first of the lookahead
pub returns-then-inputs-le1-2 : goal.returns-then-inputs-le1-2
returns-then-inputs-le1-2 c = λ is.
    let a = apply_context_of c.args.ctx.now in
    let r = chain_of c.args.rule.now in
    let s = c.args.buffer.now in
    let some : length r.input ≤ 1 → 0 < length r.lookahead = elim c.else-inputs-le1.branch [
      | else-inputs-le1-via-then-inputs-le1+else-len-eq0 w ↦ λ le. omega (arith, w.len.ensures, w.if-len-eq0.false)
      | else-inputs-le1-via-else-inputs-le1 w ↦ λ le. absurd (omega (arith, le, c.len-inputs.ensures, w.if-inputs-le1.false))
    ] in
    let x = item_of c.cur-info.result.now in
    let seen = is_seen a.props a.font.gdef.sets x (sym c.ends_searches.ensures ∙ c.if-not-ends_searches.false) in
    let few : length r.input ≤ 1 = omega (arith, c.len-inputs.ensures, c.if-inputs-le1-2.true) in
    let other : test_at r.lookahead 0 x ≡ false = sym c.fits.ensures ∙ not_true c.fits.result is in
    second_never a r (cut_with c.args.ctx.now.random_state s) (first_of_lookahead a (strip s.ahead) r.input r.lookahead few (some few)
    (fails_ahead (context_search a (strip s.ahead)) (test_at r.lookahead 0) s.ahead c.cur-info.result.now c.cur-info.ensures seen (of_other_test (context_search a (strip s.ahead)) (test_at r.lookahead 0) x other)))

-- it has no bit of the lookup's mask
pub returns-then-not-shares_mask : goal.returns-then-not-shares_mask
returns-then-not-shares_mask c = λ is.
    let a = apply_context_of c.args.ctx.now in
    let r = chain_of c.args.rule.now in
    let s = c.args.buffer.now in
    let x = item_of c.cur-info.result.now in
    let seen = is_seen a.props a.font.gdef.sets x (sym c.ends_searches.ensures ∙ c.if-not-ends_searches.false) in
    let many : 1 < length r.input = omega (arith, c.len-inputs.ensures, c.if-inputs-le1-2.false) in
    let none : shares_mask a.mask x.mask ≡ false = ap (λ m. shares_mask m x.mask) (sym c.lookup_mask.ensures) ∙ sym c.shares_mask.ensures ∙ c.if-not-shares_mask.true in
    second_never a r (cut_with c.args.ctx.now.random_state s) (second_of_input a (strip s.ahead) r.input r.lookahead many
    (fails_ahead (own_search a (strip s.ahead)) (test_at r.input 1) s.ahead c.cur-info.result.now c.cur-info.ensures seen (of_other_mask (own_search a (strip s.ahead)) (test_at r.input 1) x none)))

-- it isn't the second of the input
pub returns : goal.returns
returns c = λ is.
    let a = apply_context_of c.args.ctx.now in
    let r = chain_of c.args.rule.now in
    let s = c.args.buffer.now in
    let x = item_of c.cur-info.result.now in
    let seen = is_seen a.props a.font.gdef.sets x (sym c.ends_searches.ensures ∙ c.if-not-ends_searches.false) in
    let many : 1 < length r.input = omega (arith, c.len-inputs.ensures, c.if-inputs-le1-2.false) in
    let other : test_at r.input 1 x ≡ false = sym c.fits-2.ensures ∙ not_true c.fits-2.result is in
    second_never a r (cut_with c.args.ctx.now.random_state s) (second_of_input a (strip s.ahead) r.input r.lookahead many
    (fails_ahead (own_search a (strip s.ahead)) (test_at r.input 1) s.ahead c.cur-info.result.now c.cur-info.ensures seen (of_other_test (own_search a (strip s.ahead)) (test_at r.input 1) x other)))

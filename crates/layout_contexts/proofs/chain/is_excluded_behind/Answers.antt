use Rattle.std.proofs.Common.{ℕ, ◌≡◌, ◌≤◌, ◌<◌, ◌+◌, false, length, sym, ap, ◌∙◌, arith}
use Rattle.buffer_glyphs.specs.Items.{item_of, strip}
use Rattle.buffer_stages.specs.Masks.{shares_mask}
use Rattle.buffer_stages.specs.Performing.{cut_with}
use Rattle.layout_match.specs.Applied.{apply_context_of, own_search, context_search, own_syllable}
use Rattle.layout_match.specs.Searches.{is_in_syllable}
use Rattle.layout_match.specs.Sequences.{test_at}
use Rattle.layout_contexts.specs.Fitting.{chain_of}
use Rattle.layout_contexts.proofs.Followed.{behind_never}
use Rattle.layout_contexts.proofs.Beside.{is_seen, fails_behind, fails_at_start, of_other_syllable, of_other_test}
use Rattle.layout_contexts.proofs.chain.is_excluded_behind.Goals as goal
use Rattle.buffer_facts.proofs.Truth.{false_by_not as not_true}

-- no glyph is there
pub returns-then-out_len-eq0 : goal.returns-then-out_len-eq0
returns-then-out_len-eq0 c = λ is.
    let a = apply_context_of c.args.ctx.now in
    let r = chain_of c.args.rule.now in
    let s = c.args.buffer.now in
    let some : 0 < length r.backtrack = omega (arith, c.len.ensures, c.if-len-eq0.false) in
    let none : length s.behind ≡ 0 = omega (arith, c.out_len.ensures, c.if-out_len-eq0.true) in
    behind_never a r (cut_with c.args.ctx.now.random_state s) some (fails_at_start (context_search a (strip s.ahead)) (test_at r.backtrack 0) s.behind none)

-- it is of another syllable
pub returns-then-not-is_in_own_syllable : goal.returns-then-not-is_in_own_syllable
returns-then-not-is_in_own_syllable c = λ is.
    let a = apply_context_of c.args.ctx.now in
    let r = chain_of c.args.rule.now in
    let s = c.args.buffer.now in
    let some : 0 < length r.backtrack = omega (arith, c.len.ensures, c.if-len-eq0.false) in
    let front : 0 < length s.behind = omega (arith, c.out_len.ensures, c.if-out_len-eq0.false) in
    let x = item_of c.prev-info.result.now in
    let seen = is_seen a.props a.font.gdef.sets x (sym c.ends_searches.ensures ∙ c.if-not-ends_searches.false) in
    let out : is_in_syllable (own_syllable a (strip s.ahead)) x ≡ false = sym c.is_in_own_syllable.ensures ∙ c.if-not-is_in_own_syllable.true in
    behind_never a r (cut_with c.args.ctx.now.random_state s) some (fails_behind (context_search a (strip s.ahead)) (test_at r.backtrack 0) s.behind c.prev-info.result.now front c.prev-info.ensures seen (of_other_syllable (context_search a (strip s.ahead)) (test_at r.backtrack 0) x out))

-- it isn't the first of the backtrack sequence
pub returns : goal.returns
returns c = λ is.
    let a = apply_context_of c.args.ctx.now in
    let r = chain_of c.args.rule.now in
    let s = c.args.buffer.now in
    let some : 0 < length r.backtrack = omega (arith, c.len.ensures, c.if-len-eq0.false) in
    let front : 0 < length s.behind = omega (arith, c.out_len.ensures, c.if-out_len-eq0.false) in
    let x = item_of c.prev-info.result.now in
    let seen = is_seen a.props a.font.gdef.sets x (sym c.ends_searches.ensures ∙ c.if-not-ends_searches.false) in
    let other : test_at r.backtrack 0 x ≡ false = sym c.fits.ensures ∙ not_true c.fits.result is in
    behind_never a r (cut_with c.args.ctx.now.random_state s) some (fails_behind (context_search a (strip s.ahead)) (test_at r.backtrack 0) s.behind c.prev-info.result.now front c.prev-info.ensures seen (of_other_test (context_search a (strip s.ahead)) (test_at r.backtrack 0) x other))

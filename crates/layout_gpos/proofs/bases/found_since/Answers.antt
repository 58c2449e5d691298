use Rattle.std.proofs.Common.{ℕ, ◌-◌, ap, arith, ◌∙◌}
use Rattle.buffer_glyphs.specs.Items.{strip}
use Rattle.layout_match.specs.Applied.{ApplyContext, apply_context_of, own_search}
use Rattle.layout_match.specs.Searches.{search_of}
use Rattle.layout_gpos.proofs.Kept.{went_on}
use Rattle.layout_gpos.proofs.bases.found_since.Goals as goal

pub returns-clause-found : goal.returns-clause-found
returns-clause-found c =
    let s = c.args.buffer.now in
    went_on c.args.sought (apply_context_of c.args.ctx.now) (search_of c.own_search-search.result) c.args.last (c.out_len.result - c.args.last.before) c.loop-at.at c.farther.result s c.requires.since c.requires.kept
    (ap (λ (n : ℕ). n - c.args.last.before) c.out_len.ensures) (omega (arith, c.loop-at-test.false)) (omega (arith, c.loop-at.auto.at-end)) (c.own_search-search.ensures ∙ ap (λ (k : ApplyContext). own_search k (strip s.ahead)) c.without_marks.ensures.applied)
    c.loop-at.invariant c.farther.ensures

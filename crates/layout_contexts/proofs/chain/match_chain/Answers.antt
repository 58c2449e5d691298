use Rattle.std.proofs.Common.{ℕ, ◌<◌, ◌+◌, ◌^◌, List, drop, length, map, refl, sym, ap, subst, ◌∙◌, arith}
use Rattle.std.specs.List.{All}
use Rattle.buffer_glyphs.specs.Items.{strip}
use Rattle.layout_match.specs.Applied.{apply_context_of, own_search}
use Rattle.layout_match.specs.Matches.{input_indices}
use Rattle.layout_match.specs.Sequences.{tests_of}
use Rattle.layout_contexts.specs.Fitting.{chain_of}
use Rattle.layout_contexts.proofs.Matching.{matched}
use Rattle.layout_contexts.proofs.Lemmas.Rising.{room_to_move}
use Rattle.layout_contexts.proofs.chain.match_chain.Goals as goal

pub move_indices-requires : goal.move_indices-requires
move_indices-requires c =
    let s = c.args.buffer.now in
    let few : length s.ahead < 2 ^ 59 = omega (arith, c.lookahead_len-rest.ensures.count, c.lookahead_len-rest.ensures.small) in
    let ps = input_indices (own_search (apply_context_of c.args.ctx.now) (strip s.ahead)) (drop 1 (tests_of c.args.rule.now.input)) (strip s.ahead) in
    let P : List ℕ → Type 0 = λ qs. All (λ q. q + c.backtrack_len-front.result < 2 ^ 64) qs in
    subst P (sym c.record_input.ensures) (room_to_move (length s.ahead) c.backtrack_len-front.result ps c.in-Fits.ensures.inside.4 few c.backtrack_len-front.ensures.small)

pub returns-in-Fits : goal.returns-in-Fits
returns-in-Fits c =
    let ctx = c.args.ctx.now in
    let s = c.args.buffer.now in
    let front = c.backtrack_len-front.result in
    let ps = input_indices (own_search (apply_context_of ctx) (strip s.ahead)) (drop 1 (tests_of c.args.rule.now.input)) (strip s.ahead) in
    matched (apply_context_of ctx) (chain_of c.args.rule.now) ctx.random_state c.in-Fits.back c.in-Fits.end c.in-Fits.ahead front _ ps c.move_indices.new.indices.items s c.mark_match.new.buffer c.in-Fits.ensures.says c.in-Fits.ensures.inside
    c.backtrack_len-front.ensures.count (c.move_indices.ensures ∙ ap (λ (qs : List ℕ). map (λ q. q + front) qs) c.record_input.ensures) refl c.mark_match.ensures

use Rattle.std.proofs.Common.{◌≡◌, ◌+◌, ◌∷◌, Ok, length, sym, ap, ◌∙◌, arith, ◌<◌}
use Rattle.buffer_glyphs.specs.Items.{strip}
use Rattle.layout_match.specs.Searches.{answer, search_of}
use Rattle.layout_match.specs.Matches.{answers_of, indices, nearest_from}
use Rattle.layout_match.specs.Sequences.{test_at, tests_of}
use Rattle.layout_match.proofs.Each.{noted_all, noted_low, noted_one, one_reached}
use Rattle.layout_match.proofs.matching.match_from_first.Goals as goal

pub returns-in-Err-clause-positions : goal.returns-in-Err-clause-positions
returns-in-Err-clause-positions c =
    let xs = strip c.args.buffer.now.ahead in
    let lt : c.loop-k.k < length (tests_of c.args.sequence.now) = omega (arith, c.loop-k-test.true, c.len-k-end.ensures) in
    noted_all (search_of c.args.search.now) (tests_of c.args.sequence.now) c.loop-k.k c.loop-k.from c.in-Err.end xs c.loop-k.match_positions.items (0 ∷ indices (answers_of (search_of c.args.search.now) (tests_of c.args.sequence.now)) 1 xs) lt (rw c.in-Err.is at c.nearest_ahead.ensures.found) c.loop-k.invariant.3

pub loop-k-preserved : goal.loop-k-preserved
loop-k-preserved c =
    let xs = strip c.args.buffer.now.ahead in
    let s = search_of c.args.search.now in
    let tests = tests_of c.args.sequence.now in
    let k = c.loop-k.k in
    let p = c.in-Ok.at in
    let lt : k < length tests = omega (arith, c.loop-k-test.true, c.len-k-end.ensures) in
    let found : Ok p ≡ nearest_from (answer s (test_at tests k)) c.loop-k.from xs = rw c.in-Ok.is at c.nearest_ahead.ensures.found in (
      omega (arith, c.in-Ok.ensures.inside),
      c.push-in-Ok.ensures.len ∙ ap (λ n. n + 1) c.loop-k.invariant.1,
      sym (one_reached s tests k c.loop-k.from p xs lt found) ∙ c.loop-k.invariant.2,
      noted_one s tests k c.loop-k.from p xs c.loop-k.match_positions.items c.push-in-Ok.new.self.items (0 ∷ indices (answers_of s tests) 1 xs) lt found c.loop-k.invariant.3 c.push-in-Ok.ensures.items,
      noted_low (length c.args.buffer.now.ahead) p c.loop-k.match_positions.items c.push-in-Ok.new.self.items c.loop-k.invariant.4 c.in-Ok.ensures.inside c.push-in-Ok.ensures.items,
    )

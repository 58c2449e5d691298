use Rattle.std.proofs.Common.{◌≡◌, false, subst, ℕ}
use Rattle.buffer_glyphs.specs.Items.{item_of}
use Rattle.layout_gsub.proofs.apply.next_at_cursor.Goals as goal
use Rattle.layout_match.proofs.Lemmas.Met.{passes_there}

pub returns-clause-passed : goal.returns-clause-passed
returns-clause-passed g c a r k x low high at =
    let s = c.args.buffer.now in
    let first = c.cur.result.now in
    let P : ℕ → Type 0 = λ n. g.S.Covers.covers x n ≡ false in
    let none = subst P c.as_glyph.ensures (c.next_at.ensures.skipped k x low high at) in
    passes_there (g.S.Apply.action x a) r s first c.cur.ensures (g.met.S.Skippable.uncovered x a (item_of first) none)

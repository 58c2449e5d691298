use Rattle.std.proofs.Common.{false, ◌≡◌, subst, ℕ}
use Rattle.buffer_glyphs.specs.Items.{item_of}
use Rattle.layout_match.specs.Applied.{apply_context_of}
use Rattle.layout_match.proofs.Lemmas.Met.{not_tried}
use Rattle.layout_gsub.proofs.apply.DigestedApply.apply.Goals as goal

pub returns-then-not-may_have_glyph-clause-performs : goal.returns-then-not-may_have_glyph-clause-performs
returns-then-not-may_have_glyph-clause-performs g c =
    let s = c.args.buffer.now in
    let a = apply_context_of c.args.ctx.now in
    let x = c.cur.result.now in
    let P : ℕ → Type 0 = λ n. g.S.Covers.covers c.args.self.now n ≡ false in
    let none = subst P c.as_glyph.ensures (c.may_have_glyph.ensures c.if-not-may_have_glyph.true) in
    not_tried (g.S.Apply.action c.args.self.now a) c.args.ctx.now.random_state s x c.cur.ensures (g.met.S.Skippable.uncovered c.args.self.now a (item_of x) none)

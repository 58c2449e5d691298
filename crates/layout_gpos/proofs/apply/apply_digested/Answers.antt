use Rattle.std.proofs.Common.{false, ◌≡◌, ap, sym, subst, ◌∙◌, ℕ}
use Rattle.buffer_glyphs.specs.Items.{item_of}
use Rattle.layout_match.specs.Applied.{apply_context_of}
use Rattle.layout_match.proofs.Lemmas.Met.{not_tried}
use Rattle.layout_gpos.proofs.apply.apply_digested.Goals as goal

pub returns-then-not-may_have_glyph-clause-performed : goal.returns-then-not-may_have_glyph-clause-performed
returns-then-not-may_have_glyph-clause-performed g c random =
    let s = c.args.buffer.now in
    let x = c.cur.result.now in
    let P : ℕ → Type 0 = λ n. g.T.Subtable.Covers.covers c.args.subtable.now n ≡ false in
    let none = subst P c.as_glyph.ensures (c.may_have_glyph.ensures c.if-not-may_have_glyph.true) in
    not_tried (g.T.Apply.action c.args.subtable.now s.direction (apply_context_of c.args.ctx.now)) random s x c.cur.ensures (g.met.T.Apply.uncovered c.args.subtable.now s.direction (apply_context_of c.args.ctx.now) (item_of x) none)

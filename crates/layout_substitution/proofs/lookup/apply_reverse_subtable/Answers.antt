use Rattle.std.proofs.Common.{ℕ, ◌≡◌, false, subst}
use Rattle.buffer_glyphs.specs.Items.{item_of}
use Rattle.layout_tables.specs.Covers.{covers_value}
use Rattle.layout_match.specs.Applied.{apply_context_of}
use Rattle.layout_match.proofs.Lemmas.Met.{not_tried_in_place}
use Rattle.layout_gsub.specs.Reverses.{reverse_subtable}
use Rattle.layout_gsub.specs.Lemmas.Uncovered.{reverse_uncovered}
use Rattle.layout_substitution.proofs.lookup.apply_reverse_subtable.Goals as goal

pub returns-then-not-may_have_glyph : goal.returns-then-not-may_have_glyph
returns-then-not-may_have_glyph c =
    let a = apply_context_of c.args.ctx.now in
    let x = c.cur.result.now in
    let P : ℕ → Type 0 = λ n. covers_value c.args.subtable.now.rows n ≡ false in
    let none = subst P c.as_glyph.ensures (c.may_have_glyph.ensures c.if-not-may_have_glyph.true) in
    not_tried_in_place (reverse_subtable a c.args.subtable.now) c.args.buffer.now x c.cur.ensures (reverse_uncovered a c.args.subtable.now (item_of x) none)

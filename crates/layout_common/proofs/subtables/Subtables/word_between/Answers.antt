use Rattle.std.proofs.Common.{ℕ, ◌≡◌, ◌%◌, List, Some, ap, refl, sym, subst, ◌∙◌, slice_get}
use Rattle.layout_common.specs.Neighbours.{AreColumns}
use Rattle.layout_common.specs.Subtables.{AreIndexed}
use Rattle.layout_common.specs.declared.neighbours.Side.TheVariants.{Before, After}
use Rattle.layout_common.proofs.ColumnBits.{clear_between}
use Rattle.layout_common.proofs.subtables.Subtables.word_between.Goals as goal

pub returns : goal.returns
returns g c k s row at none =
    let inside = c.self.inside.items in
    let there : slice_get inside k ≡ Some s = ap (λ xs. slice_get xs k) c.self.view_is ∙ at in
    clear_between g.S.Covers.covers (λ x. g.S.Covers.admits x Before) (λ x. g.S.Covers.admits x After) inside c.self.inside.words.items c.self.inside.before.items c.self.inside.after.items k c.args.glyph (c.from.result % 1024) c.word_or_full-own.result c.column_word.result c.column_word-2.result c.args.before c.args.after s
    c.self.invariant.0 c.self.invariant.1 c.self.invariant.2 (ap (λ n. n % 1024) c.from.ensures) (rw (row, sym c.deref.ensures.value) c.word_or_full-own.ensures) (rw (row, sym c.deref-2.ensures.value) c.column_word.ensures) (rw (row, sym c.deref-3.ensures.value) c.column_word-2.ensures) there none

use Rattle.std.proofs.Common.{◌∙◌, sym}
use Rattle.buffer_unicode_tables.specs.Lawful.{SecondHalvesStay}
use Rattle.buffer_unicode_tables.proofs.Decisions.{row_splits_twice, vowel_splits, trailing_decided, not_so}
use Rattle.buffer_unicode_tables.proofs.tables.UnicodeTables.second_pieces_stay.Goals as goal

pub returns-then-not-rows_stay : goal.returns-then-not-rows_stay
returns-then-not-rows_stay c =
    not_so (SecondHalvesStay c.args.self.now) (row_splits_twice c.args.self.now (rw c.splits-splits.ensures.rows at (sym c.rows_stay.ensures ∙ c.if-not-rows_stay.true)))

pub returns-then-not-stay_whole : goal.returns-then-not-stay_whole
returns-then-not-stay_whole c =
    not_so (SecondHalvesStay c.args.self.now) (vowel_splits c.args.self.now (rw c.splits-splits.ensures.rows at c.if-not-stay_whole.ensures))

pub returns : goal.returns
returns c =
    trailing_decided c.args.self.now c.stay_whole-2.result
    (rw c.splits-splits.ensures.rows at (sym c.rows_stay.ensures ∙ c.if-not-rows_stay.false))
    (rw c.splits-splits.ensures.rows at c.if-not-stay_whole.ensures)
    (rw c.splits-splits.ensures.rows at c.stay_whole-2.ensures)

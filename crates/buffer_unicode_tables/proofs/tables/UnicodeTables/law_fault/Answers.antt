use Rattle.std.proofs.Common.{refl}
use Rattle.std.proofs.lemmas.Bool.{iff_false}
use Rattle.buffer_unicode_tables.proofs.tables.UnicodeTables.law_fault.Goals as goal

pub returns-then-not-splits_keep_class-clause-first : goal.returns-then-not-splits_keep_class-clause-first
returns-then-not-splits_keep_class-clause-first c =
    let stay = c.second_pieces_stay.ensures.0 c.if-not-second_pieces_stay.false in
    let pairs = (c.pairs_are_equivalent.ensures stay).0 c.if-not-pairs_are_equivalent.false in
    let marks = c.classes_are_of_marks.ensures.0 c.if-not-classes_are_of_marks.false in
    (stay, pairs, marks, iff_false c.splits_keep_class.ensures c.if-not-splits_keep_class.true)

pub returns-then-not-ascii_has_no_marks-clause-first : goal.returns-then-not-ascii_has_no_marks-clause-first
returns-then-not-ascii_has_no_marks-clause-first c =
    let stay = c.second_pieces_stay.ensures.0 c.if-not-second_pieces_stay.false in
    let pairs = (c.pairs_are_equivalent.ensures stay).0 c.if-not-pairs_are_equivalent.false in
    let marks = c.classes_are_of_marks.ensures.0 c.if-not-classes_are_of_marks.false in
    let keeps = c.splits_keep_class.ensures.0 c.if-not-splits_keep_class.false in
    (stay, pairs, marks, keeps, iff_false c.ascii_has_no_marks.ensures c.if-not-ascii_has_no_marks.true)

pub returns-clause-lawful : goal.returns-clause-lawful
returns-clause-lawful c =
    let stay = c.second_pieces_stay.ensures.0 c.if-not-second_pieces_stay.false in (
      λ _. record {
        second_pieces_stay = stay;
        pairs_are_equivalent = (c.pairs_are_equivalent.ensures stay).0 c.if-not-pairs_are_equivalent.false;
        classes_are_of_marks = c.classes_are_of_marks.ensures.0 c.if-not-classes_are_of_marks.false;
        splits_keep_class = c.splits_keep_class.ensures.0 c.if-not-splits_keep_class.false;
        ascii_has_no_marks = c.ascii_has_no_marks.ensures.0 c.if-not-ascii_has_no_marks.false;
      },
      λ _. refl,
    )

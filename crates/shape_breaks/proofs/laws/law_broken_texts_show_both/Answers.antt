use Rattle.shape_breaks.proofs.Broken.{broken}
use Rattle.shape_breaks.proofs.laws.law_broken_texts_show_both.Goals as goal

pub returns : goal.returns
returns c = broken c.law_safe_breaks.ensures c.law_tables_keep_marks.ensures c.law_tables_keep_types.ensures c.law_nearest_contexts_show.ensures c.law_tones_are_marks.ensures

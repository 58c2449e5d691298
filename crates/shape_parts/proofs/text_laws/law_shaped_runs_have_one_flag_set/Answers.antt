use Rattle.shape_parts.proofs.Texts.{shaped_runs_have_one_flag_set}
use Rattle.shape_parts.proofs.text_laws.law_shaped_runs_have_one_flag_set.Goals as goal

pub returns : goal.returns
returns c = shaped_runs_have_one_flag_set c.law_texts_are_even.ensures

use Rattle.std.proofs.Common.{sym, ◌∙◌}
use Rattle.script_indic_reordering.proofs.Lemmas.Flagged.{none_requested}
use Rattle.script_indic_reordering.proofs.words.flag_words.Goals as goal

pub returns-then-not-asks_breaks : goal.returns-then-not-asks_breaks
returns-then-not-asks_breaks c = none_requested c.args.buffer.now (sym c.asks_breaks.ensures ∙ c.if-not-asks_breaks.true) c.requires.ready

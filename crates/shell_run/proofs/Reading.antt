-- There is one answer.
use Rattle.std.proofs.Common.{sym, ap, ◌∙◌}
use Rattle.shell_readers.proofs.Reading.{inputs_are_one}
use Rattle.shell_run.specs.Answer.{IsAnswer, answer_by}
use Rattle.shell_run.specs.Laws.{AnswersAreOne}

pub answers_are_one : AnswersAreOne
unfolding IsAnswer
answers_are_one options tables font text r s p q =
    p.2 ∙ ap (λ read. answer_by options read text) (inputs_are_one tables font p.0 q.0 p.1 q.1) ∙ sym q.2

use Rattle.c_text.proofs.input.Input.set_advances.Goals as goal

pub returns-then-refusal-ne-OK-clause-shared : goal.returns-then-refusal-ne-OK-clause-shared
returns-then-refusal-ne-OK-clause-shared c = λ e. absurd (c.advances_refusal-refusal.ensures.unshared e)

use Rattle.buffer_rows.proofs.Orders.{keeps_key}
use Rattle.buffer_rows.proofs.laws.law_keeps_each_key.Goals as goal

pub returns : goal.returns
returns c = λ key c xs. keeps_key key c xs

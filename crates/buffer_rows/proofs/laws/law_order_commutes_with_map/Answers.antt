use Rattle.buffer_rows.proofs.Orders.{key_order_map}
use Rattle.buffer_rows.proofs.laws.law_order_commutes_with_map.Goals as goal

pub returns : goal.returns
returns c = λ key f xs. key_order_map key f xs

use Rattle.std.proofs.Common.{arith}
use Rattle.buffer_tags.proofs.Decimals.{exceeds}
use Rattle.buffer_tags.proofs.text_parser.decimal.Goals as goal

pub returns-then-value-from-clause-above : goal.returns-then-value-from-clause-above
returns-then-value-from-clause-above c =
    exceeds c.loop-digit.value c.args.most _ c.loop-digit.digit-index c.args.digits.now c.loop-digit.invariant.1 (omega arith) (omega arith)

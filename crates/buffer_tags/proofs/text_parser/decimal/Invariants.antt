use Rattle.std.proofs.Common.{◌≡◌, ◌≤◌, fold, drop}
use Rattle.buffer_tags.specs.TextParser.{decimal_value}
use Rattle.buffer_tags.proofs.Decimals.{next_value}
use Rattle.buffer_tags.proofs.text_parser.decimal.Given as goal

abbrev pub invariant-loop-digit : goal.invariant-loop-digit
invariant-loop-digit l = (l.value ≤ l.most) × (fold next_value l.value (drop l.digit-index l.digits) ≡ decimal_value l.digits)

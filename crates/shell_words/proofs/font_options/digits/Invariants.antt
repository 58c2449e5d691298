use Rattle.std.proofs.Common.{◌≡◌, drop}
use Rattle.shell_words.specs.Words.{digits_after}
use Rattle.shell_words.proofs.font_options.digits.Given as goal

-- the digits that are left, after the number of those before them, write the number of all
abbrev pub invariant-loop-digit : goal.invariant-loop-digit
invariant-loop-digit l = digits_after l.number (drop l.digit-index l.digits) ≡ digits_after 0 l.digits

use Rattle.std.proofs.Common.{rules}
use Rattle.c_characters.specs.Units.{units_16}
use Rattle.c_characters.proofs.Utf16.{not_low_is_lone}
use Rattle.c_characters.proofs.characters.partner.Goals as goal

pub returns-then-not-is_low_surrogate-clause-pair :
    goal.returns-then-not-is_low_surrogate-clause-pair
returns-then-not-is_low_surrogate-clause-pair c =
    not_low_is_lone c.args.unit c.in_ok-low.low (units_16 c.args.rest.now) (units_16 c.in_ok-low.after.now) c.in_ok-low.ensures.unit (search rules)

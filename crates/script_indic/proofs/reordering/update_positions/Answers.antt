use Rattle.std.proofs.Common.{subst, sym}
use Rattle.script_syllabic.proofs.Quiet.{mapped_quiet}
use Rattle.script_syllabic.specs.Quiet.{IsQuiet}
use Rattle.script_indic_reordering.specs.Orders.{consonant_with_position}
use Rattle.script_indic.specs.Reordering.{consonants_updated}
use Rattle.script_indic.proofs.Keeping.{number_stays}
use Rattle.script_indic.proofs.reordering.update_positions.Goals as goal

pub returns-in-Some : goal.returns-in-Some
returns-in-Some g c =
    let forms = g.F.IndicForms.forms_of c.args.forms.now in
    let virama = c.in-Some.virama in
    let a = c.args.buffer.now in
    let b = c.update_consonant_positions.new.buffer in
    subst (λ o. IsQuiet (consonants_updated forms o) a b) (sym c.in-Some.is) (mapped_quiet (consonant_with_position forms virama) a b (number_stays forms virama) c.update_consonant_positions.ensures)

-- Results of texts have lines.
use Rattle.kuspveli.specs.script_shapers.script_plan.Rules.{Spans}
use Rattle.kuspveli.specs.shape_parts.SourceTexts.{ResultsHaveSourceSlices}
use Rattle.caret_model.specs.Laws.{ResultsHaveLines}

pub results_have_lines : (spans : Spans) → ResultsHaveSourceSlices spans → ResultsHaveLines spans
results_have_lines spans law font tables tags features bytes text result is shaped some =
    let both = law font tables tags features bytes text result is shaped some in
    record { fits = both.0; joined = λ ss are. (both.1 ss are).joined }

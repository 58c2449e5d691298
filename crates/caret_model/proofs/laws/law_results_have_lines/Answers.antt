use Rattle.caret_model.proofs.SourceLines.{results_have_lines}
use Rattle.caret_model.proofs.laws.law_results_have_lines.Goals as goal

pub returns : goal.returns
returns g c = results_have_lines (g.P.SyllableSpans.span_of c.args.spans.now) c.law_results_have_source_slices.ensures

use Rattle.shape_parts.proofs.Sources.{results_have_source_slices}
use Rattle.shape_parts.proofs.source_laws.law_results_have_source_slices.Goals as goal

pub returns : goal.returns
returns g c =
    results_have_source_slices c.law_texts_are_even.ensures (g.P.SyllableSpans.span_of c.args.spans.now)
    (λ shaper cs start lt. g.met.P.SyllableSpans.ends_after_start c.args.spans.now shaper cs start lt)

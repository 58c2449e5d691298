use Rattle.std.proofs.Common.{Err, refl}
use Rattle.c_text.proofs.FeatureTexts.{no_request}
use Rattle.c_text.proofs.requests.read_feature.Goals as goal

pub returns-in-Err-clause-none : goal.returns-in-Err-clause-none
returns-in-Err-clause-none c =
    no_request c.args.text.now c.in_ok-text.text.now (Err c.in-Err.field-0) c.in-Err.field-0 c.in_ok-text.ensures.0 c.in-Err.ensures.value refl

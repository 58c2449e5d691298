use Rattle.caret_model.proofs.LeadingBack.{carets_lead_back}
use Rattle.caret_model.proofs.laws.law_carets_lead_back.Goals as goal

pub returns : goal.returns
returns c = carets_lead_back

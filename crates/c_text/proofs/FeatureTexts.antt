-- Requests for features that a text writes.
use Rattle.std.proofs.Common.{◌≡◌, List, ℕ, sym, subst}
use Rattle.std.specs.Prelude.{Result, Ok, Err}
use Rattle.buffer_tags.specs.declared.feature.Feature.{Feature}
use Rattle.buffer_tags.specs.declared.feature.InvalidFeature.{InvalidFeature}
use Rattle.buffer_tags.specs.FeatureGrammar.{AnswersRequest, IsRequest}
use Rattle.c_text.specs.Texts.{IsNoRequest}

pub request_read : (bytes text : List ℕ) (answer : Result Feature InvalidFeature) (f g : Feature) → text ≡ bytes → AnswersRequest text answer → answer ≡ Ok f → g ≡ f → IsRequest bytes g
request_read bytes text answer f g same is read written =
    subst (λ x. IsRequest bytes x) (sym written) (subst (λ x. IsRequest x f) same ((is.grammar f).0 read))

no_value : (f : Feature) (e : InvalidFeature) (answer : Result Feature InvalidFeature) → answer ≡ Err e → answer ≡ Ok f → ⊥
no_value f e answer refused read = cc

pub no_request : (bytes text : List ℕ) (answer : Result Feature InvalidFeature) (e : InvalidFeature) → text ≡ bytes → AnswersRequest text answer → answer ≡ Err e → IsNoRequest bytes
no_request bytes text answer e same is refused utf8 f request =
    no_value f e answer refused ((is.grammar f).1 (subst (λ x. IsRequest x f) (sym same) request))

-- The grammar of requests is what is read.
use Rattle.std.proofs.Common.{◌≡◌, ℕ, List, Option, Some, None, ap, ◌∙◌}
use Rattle.std.specs.Prelude.{Result, Ok}
use Rattle.std.specs.Option.{ok_or}
use Rattle.buffer_tags.specs.declared.feature.Feature.{Feature}
use Rattle.buffer_tags.specs.declared.feature.InvalidFeature.{InvalidFeature}
use Rattle.buffer_tags.specs.FeatureText.{feature_of, feature_of_text}
use Rattle.buffer_tags.specs.FeatureGrammar.{AnswersRequest}
use Rattle.buffer_tags.proofs.Reading.{request_read}
use Rattle.buffer_tags.proofs.Writing.{request_written}

some_of_ok : {A E : Type 0} (o : Option A) (x : A) (fault : E) → ok_or o fault ≡ Ok x → o ≡ Some x
some_of_ok None x fault e = cc
some_of_ok (Some y) x fault e = cc

pub answers_request : (text : List ℕ) (answer : Result Feature InvalidFeature) → answer ≡ feature_of_text text → AnswersRequest text answer
answers_request text answer e = record {
  read = e;
  grammar = λ feature. (
    λ h. let found : feature_of_text text ≡ Ok feature = cc in request_read text feature (some_of_ok (feature_of text) feature (record {}) found),
    λ request. let found : feature_of text ≡ Some feature = request_written text feature request in
        e ∙ ap (λ (o : Option Feature). ok_or o (record {})) found,
  );
}

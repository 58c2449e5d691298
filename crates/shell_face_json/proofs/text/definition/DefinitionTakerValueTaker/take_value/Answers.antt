use Rattle.std.proofs.Common.{refl}
use Rattle.serde_json.specs.Data.{object}
use Rattle.shell_face_json.proofs.OfText.Definitions.{definition_taken}
use Rattle.shell_face_json.proofs.text.definition.DefinitionTakerValueTaker.take_value.Goals as goal

pub returns-clause-ok : goal.returns-clause-ok
returns-clause-ok c =
    let keys = c.definition_keys-keys.result in
    let found = c.take_object.new.found in
    let all = c.in_ok-take_object.ensures.ok (refl, (refl, refl)) in (
      object all.0,
      all.1,
      definition_taken keys.1.1.taker.limit keys.0.name.now keys.1.0.name.now keys.1.1.name.now (object all.0) all.0 found.0 found.1.0 found.1.1 c.classes_or_none-attach.result c.items_or_none.result c.in_ok-sets.sets
          c.definition_keys-keys.ensures.names c.definition_keys-keys.ensures.limit c.classes_or_none-attach.ensures c.items_or_none.ensures c.in_ok-sets.ensures refl all.2,
    )

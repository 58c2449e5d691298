use Rattle.std.proofs.Common.{ap}
use Rattle.buffer_tags.specs.LanguageTable.{tags_of_table}
use Rattle.c_text.proofs.Plans.{plan_for_text}
use Rattle.c_text.proofs.plan.plan_for.Goals as goal

pub returns : goal.returns
returns c =
    plan_for_text c.args.input.now c.face.result.now (tags_of_table c.data.result.languages.now) c.args.features.now c.args.buffer.now _ _ _ c.in_ok-plan.plan
    c.face.ensures (ap tags_of_table c.data.ensures.languages) c.direction.ensures c.script.ensures c.language.ensures c.in_ok-plan.ensures

use Rattle.std.proofs.Common.{ap}
use Rattle.buffer_tags.specs.LanguageTable.{tags_of_table}
use Rattle.script_categories.specs.LongestMatch.{syllable_at}
use Rattle.c_text.proofs.Plans.{refused_by_data}
use Rattle.c_text.proofs.plan.shape_kept.Goals as goal

pub returns-in-Err-clause-refused : goal.returns-in-Err-clause-refused
returns-in-Err-clause-refused c =
    refused_by_data c.args.input.now c.face.result.now c.data.result.tables.now (tags_of_table c.data.result.languages.now) (syllable_at c.data.result.spans.now) c.args.features.now c.args.buffer.now c.in-Err.cause c.from.result c.face.ensures c.data.ensures.tables
    (ap tags_of_table c.data.ensures.languages) (ap syllable_at c.data.ensures.spans) c.in-Err.ensures.refused c.from.ensures

use Rattle.std.proofs.Common.{rules, sym, ◌∙◌, ◌+◌, ◌^◌}
use Rattle.script_arabic.proofs.Walked.{after_is, after_near}
use Rattle.script_arabic.proofs.runs.next_before.Goals as goal

pub returns-clause-value : goal.returns-clause-value
returns-clause-value c =
    after_is c.args.face.now c.args.before c.after_word.result c.args.glyphs.now _ c.args.position c.word_after.result _ c.requires.some (sym c.is_tile.ensures ∙ c.if-is_tile.false) c.word_after.ensures.value (search rules) c.after_word.ensures

pub returns-clause-near : goal.returns-clause-near
returns-clause-near c = λ bound h. after_near (bound + 2 ^ 31) c.after_word.result c.word_after.result _ (search rules) c.after_word.ensures (c.word_after.ensures.near bound h)

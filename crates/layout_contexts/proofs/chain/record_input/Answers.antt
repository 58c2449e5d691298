use Rattle.std.proofs.Common.{ap, ◌∙◌, length}
use Rattle.buffer_glyphs.specs.Items.{strip}
use Rattle.layout_match.specs.Applied.{apply_context_of, own_search}
use Rattle.layout_match.specs.Matches.{input_indices}
use Rattle.layout_match.specs.Sequences.{tests_of}
use Rattle.layout_contexts.proofs.Fitted.{few_behind}
use Rattle.std.proofs.Common.{refl}
use Rattle.layout_contexts.proofs.chain.record_input.Goals as goal

pub returns : goal.returns
returns c =
    let s = c.args.buffer.now in
    let a = apply_context_of c.args.ctx.now in
    let few = few_behind (tests_of c.args.rule.now.input) (tests_of c.behind_first-input.result) (length (tests_of c.args.rule.now.input)) c.behind_first-input.ensures refl c.requires.short in
    c.match_input.ensures.positions few ∙ ap (λ ts. input_indices (own_search a (strip s.ahead)) ts (strip s.ahead)) c.behind_first-input.ensures

use Rattle.std.proofs.Common.{◌≡◌, ◌-◌, drop, ap, ◌∙◌}
use Rattle.std.specs.Prelude.{slice_range}
use Rattle.std.proofs.lemmas.List.{take_rest}
use Rattle.shape_breaks.specs.Cuts.{may_be_broken}
use Rattle.shape_breaks.specs.Texts.{piece_marks, text_marks}
use Rattle.shape_breaks.proofs.Rest.{broken_same}
use Rattle.shape_breaks.proofs.cuts.piece_may_be_broken.Goals as goal

pub returns : goal.returns
returns c =
    let plan = c.args.plan.now in let t = c.args.tables.now in let us = c.args.text.now in let from = c.args.from in let at = c.args.at in
    let same : c.piece.result ≡ piece_marks from (text_marks t us) (text_marks t (slice_range us from at)) =
    c.piece.ensures ∙ ap (λ m. piece_marks from m c.of_text-piece.result) c.requires.marks ∙ ap (λ m. piece_marks from (text_marks t us) m) c.of_text-piece.ensures in
    c.may_be_broken.ensures ∙ ap (λ vs. may_be_broken c.args.premises plan.shaper plan.script_plan.direction plan.script_plan.script vs c.piece.result (at - from)) (take_rest us from)
    ∙ ap (λ m. may_be_broken c.args.premises plan.shaper plan.script_plan.direction plan.script_plan.script (drop from us) m (at - from)) same ∙ broken_same t us from at plan.shaper c.args.premises plan.script_plan.direction plan.script_plan.script

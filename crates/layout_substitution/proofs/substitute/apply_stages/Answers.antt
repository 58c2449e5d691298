use Rattle.std.proofs.Common.{◌≡◌, rules, get_or, None, Some, Option, Ok, ap, sym, ◌∙◌, ℕ}
use Rattle.layout_map.specs.declared.stages.StageMap.{StageMap}
use Rattle.buffer_core.specs.Sides.{items_of}
use Rattle.buffer_stages.specs.Settings.{text_settings}
use Rattle.buffer_stages.proofs.Lemmas.Ways.{nothing_done, pause_refused, paused, paused_as_set, refused_as_set}
use Rattle.layout_match.proofs.Lemmas.Stages.{stage_refused}
use Rattle.layout_substitution.proofs.Ways.{stage_done, stage_pause_refused}
use Rattle.layout_substitution.proofs.substitute.apply_stages.Goals as goal

pub returns-in_err-introduced-clause-stage : goal.returns-in_err-introduced-clause-stage
returns-in_err-introduced-clause-stage g c =
    let was = c.loop-i.invariant in
    let none : StageMap = record { last_lookup = 0; pause = None } in
    let t = c.args.map.now.tables.gsub in
    let there = ap (λ ss. get_or ss c.loop-i.i none) was.stages in
    let cause = c.in_err-introduced.field-0.0 in
    let given = g.P.Pause.stage c.args.pause.now in
    let mid = c.apply_stage.new.ctx.random_state in
    let number = c.in-Some.number in
    stage_refused c.from_residual-in_err-introduced.result cause _ _ _ _ _ c.from_residual-in_err-introduced.ensures.1
    (λ not_memory.
    stage_pause_refused c.args.ctx.now.face.now c.loop-i.ctx.face.now t (given (text_settings c.args.buffer.now)) c.loop-i.i none c.stage_lookups-lookups.result.now (Some number) c.args.ctx.now.random_state c.loop-i.ctx.random_state mid c.args.buffer.now c.loop-i.buffer
    c.apply_stage.new.buffer cause (search rules) was.done was.face c.stage_lookups-lookups.ensures (sym c.in-Some.is ∙ ap (λ (s : StageMap). s.pause) there) c.in_ok-apply_stage.ensures.stage
    (refused_as_set given (Some number) mid c.args.buffer.now c.apply_stage.new.buffer cause (c.in_ok-apply_stage.ensures.stage.settings ∙ was.done.settings)
    (pause_refused (given (text_settings c.apply_stage.new.buffer)) number mid c.apply_stage.new.buffer cause (c.in_err-introduced.ensures.stage not_memory))))

pub loop-i-preserved : goal.loop-i-preserved
loop-i-preserved g c =
    let was = c.loop-i.invariant in
    let none : StageMap = record { last_lookup = 0; pause = None } in
    let t = c.args.map.now.tables.gsub in
    let there = ap (λ ss. get_or ss c.loop-i.i none) was.stages in
    let given = g.P.Pause.stage c.args.pause.now in
    let mid = c.apply_stage.new.ctx.random_state in
    let number = c.in-Some.number in
    record {
      done = stage_done c.args.ctx.now.face.now c.loop-i.ctx.face.now t (given (text_settings c.args.buffer.now)) c.loop-i.i none c.stage_lookups-lookups.result.now (Some number) c.args.ctx.now.random_state c.loop-i.ctx.random_state
          mid c.args.buffer.now c.loop-i.buffer c.apply_stage.new.buffer c.run.new.buffer (search rules) was.done was.face c.stage_lookups-lookups.ensures (sym c.in-Some.is ∙ ap (λ (s : StageMap). s.pause) there)
          c.in_ok-apply_stage.ensures.stage
          (paused_as_set given (Some number) mid c.args.buffer.now c.apply_stage.new.buffer c.run.new.buffer (c.in_ok-apply_stage.ensures.stage.settings ∙ was.done.settings)
          (paused (given (text_settings c.apply_stage.new.buffer)) number mid c.apply_stage.new.buffer c.run.new.buffer c.in_ok-introduced.ensures.stage));
      held = c.after_pause.ensures (items_of c.apply_stage.new.buffer) (items_of c.run.new.buffer) c.in_ok-apply_stage.ensures.held (λ none. c.in_ok-introduced.ensures.brings_none (ap Ok none));
      substitution = c.apply_stage.ensures.table;
      face = c.apply_stage.ensures.face ∙ was.face;
      stages = was.stages;
    }

pub loop-i-preserved-in_default : goal.loop-i-preserved-in_default
loop-i-preserved-in_default g c =
    let was = c.loop-i.invariant in
    let none : StageMap = record { last_lookup = 0; pause = None } in
    let nothing : Option ℕ = None in
    let t = c.args.map.now.tables.gsub in
    let there = ap (λ ss. get_or ss c.loop-i.i none) was.stages in
    let mid = c.apply_stage.new.ctx.random_state in
    let now = c.apply_stage.new.buffer in
    let done = c.in_ok-apply_stage.ensures.stage in
    record {
      done = stage_done c.args.ctx.now.face.now c.loop-i.ctx.face.now t (g.P.Pause.stage c.args.pause.now (text_settings c.args.buffer.now)) c.loop-i.i none c.stage_lookups-lookups.result.now nothing c.args.ctx.now.random_state c.loop-i.ctx.random_state
          mid c.args.buffer.now c.loop-i.buffer now now (search rules) was.done was.face c.stage_lookups-lookups.ensures (sym c.in_default.is ∙ ap (λ (s : StageMap). s.pause) there)
          done
          (nothing_done mid now done.ready);
      held = c.in_ok-apply_stage.ensures.held;
      substitution = c.apply_stage.ensures.table;
      face = c.apply_stage.ensures.face ∙ was.face;
      stages = was.stages;
    }

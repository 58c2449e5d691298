use Rattle.shell_run.proofs.PlanLemmas.{new_plan_for_text, new_plan_of_run}
use Rattle.shell_run.proofs.shape.new_plan.Goals as goal

pub returns-clause-of_run : goal.returns-clause-of_run
returns-clause-of_run c =
    new_plan_of_run c.args.options.now c.args.input.now _ _ _ _ c.in_ok-plan.plan c.as_ref.ensures.value c.as_slice.ensures.value c.in_ok-plan.ensures

pub returns-clause-for_text : goal.returns-clause-for_text
returns-clause-for_text c =
    new_plan_for_text c.args.options.now c.args.input.now c.args.text.now _ _ _ _ c.in_ok-plan.plan c.guessed_direction.ensures c.guessed_script.ensures c.as_ref.ensures.value c.as_slice.ensures.value c.in_ok-plan.ensures

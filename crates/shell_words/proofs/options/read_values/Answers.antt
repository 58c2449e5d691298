use Rattle.std.proofs.Common.{◌≡◌, ◌≢◌, ◌∙◌, ◌<◌, [], Err, length, map, arith}
use Rattle.std.proofs.lemmas.Grind.{common_steps}
use Rattle.shell_readers.specs.declared.fault.RunFault.TheVariants.{OutOfMemory}
use Rattle.shell_words.specs.Words.{features_in}
use Rattle.shell_words.proofs.FeatureValues.{value_taken, value_refused}
use Rattle.shell_words.proofs.options.read_values.Goals as goal

-- one value more
pub loop-value-preserved : goal.loop-value-preserved
loop-value-preserved c =
    let inside : c.loop-value.value-index < length c.args.values.now = omega arith in
    c.loop-value.invariant ∙ value_taken _ c.args.values.now c.loop-value.value-index (record { ref_ptr = (0, 0); now = [] }) inside _ c.in_ok-add_features.ensures.ok

-- the first value that is refused
pub returns-in_err-add_features-clause-refused : goal.returns-in_err-add_features-clause-refused
returns-in_err-add_features-clause-refused c =
    let inside : c.loop-value.value-index < length c.args.values.now = omega arith in
    let refused : c.in_err-add_features.field-0.0 ≢ OutOfMemory → features_in (map (λ t. t.now) c.args.values.now) ≡ Err c.in_err-add_features.field-0.0 =
    λ other. c.loop-value.invariant ∙ value_refused _ c.args.values.now c.loop-value.value-index (record { ref_ptr = (0, 0); now = [] }) inside _ (c.in_err-add_features.ensures.refused other) in
    grind (arith, common_steps, refused)

use Rattle.std.proofs.Common.{ℕ, ◌≡◌, ◌≤◌, Option, Some, length, sym, ap, ap₂, subst, ◌∙◌}
use Rattle.buffer_glyphs.specs.Items.{strip}
use Rattle.script_hangul.specs.Actions.{action_on}
use Rattle.script_hangul.specs.Hangul.{character_at, count_apart}
use Rattle.script_hangul.proofs.Merged.{count_fits}
use Rattle.script_hangul.proofs.hangul.count_jamo.Goals as goal

pub returns-else-not-begins_syllable-clause-within : goal.returns-else-not-begins_syllable-clause-within
returns-else-not-begins_syllable-clause-within c =
    let gs = c.args.glyphs.now in
    let font = c.args.face.now in
    let u = c.in-Some.u in
    let first : character_at 0 (strip gs) ≡ Some u = sym c.character_in.ensures ∙ c.in-Some.is in
    let counted = c.count_apart.ensures ∙ ap count_apart (c.action_on-action.ensures ∙ ap₂ (λ (a b : Option ℕ). action_on font u a b) c.character_in-in-Some.ensures c.character_in-in-Some-2.ensures) in
    subst (λ (n : ℕ). n ≤ length gs) (sym counted) (count_fits font u gs first)

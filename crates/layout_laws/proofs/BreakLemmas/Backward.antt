-- Lookups that are tried from the right are divisible.
use Rattle.std.proofs.Common.{ℕ, zero, suc, ◌≡◌, inl, inr, true, List, [], Ok, length, arith, ap, sym, subst, ◌∙◌}
use Rattle.std.proofs.lemmas.List.{take-append-drop}
use Rattle.buffer_glyphs.specs.declared.level.BufferClusterLevel.{BufferClusterLevel}
use Rattle.buffer_glyphs.specs.declared.level.BufferClusterLevel.TheVariants.{MonotoneGraphemes}
use Rattle.buffer_glyphs.specs.Items.{Item}
use Rattle.buffer_parts.specs.Counting.{is_left}
use Rattle.buffer_parts.specs.Rules.{RuleKeepsParts}
use Rattle.buffer_parts.specs.Stages.{KeepsParts}
use Rattle.buffer_parts.specs.Lemmas.Stages.{ReadsParts, nothing_keeps, read_now}
use Rattle.buffer_core.specs.Readings.{View, Read}
use Rattle.buffer_stages.specs.Actions.{Cut, whole, view_at, uncut_with_positions, Action}
use Rattle.layout_substitution.specs.Lookups.{cut_at_index, reverse_action, backward_trials, backward_pass}
use Rattle.layout_laws.proofs.Lemmas.Lookups.{after_keeps}
use Rattle.layout_laws.proofs.Lemmas.Substitutions.{backward_related}
use Rattle.layout_laws.proofs.Lemmas.KeptRules.{by_parts, substituted_by_parts}
use Rattle.buffer_parts.specs.Breaks.Divisible.{IsSpared, OnlySpends, LosesNoFlag, KeepsPositions}
use Rattle.buffer_parts.proofs.BreakLemmas.Beside.{beside_is_divisible}
use Rattle.layout_laws.specs.Breaks.Local.{AnyPositions, IsLocal}
use Rattle.layout_laws.specs.Breaks.Backward.{ActsOneForOne, BackwardPassesReadBeside, ReversesAreDivisible}
use Rattle.layout_laws.proofs.BreakLemmas.Lossless.{LosesNone, AllLossless, after_lossless, by_losing, losing_substituted}
use Rattle.layout_laws.proofs.BreakLemmas.Reverses.{reverses_are_local, reverses_act_one_for_one}
use Rattle.layout_laws.proofs.BreakLemmas.BackwardWalks.{IsReady, IsReadOneForOne, trials_one_for_one}
use Rattle.layout_laws.proofs.BreakLemmas.Ways.{its_positions, backward_way}
use Rattle.layout_laws.proofs.BreakLemmas.Lines.{line_reads}
use Rattle.layout_laws.proofs.BreakLemmas.Standing.{ReadsLines, line_beside, reads_beside}

-- what was read of a view is one for one
pub pass_one_for_one : (act : Action) → ActsOneForOne act → (level : BufferClusterLevel) (v : View) (r : Read) → backward_pass act v ≡ Ok r → IsReadOneForOne level (uncut_with_positions v) r
pass_one_for_one act still level v r e = trials_one_for_one act still level v (length v.items) (uncut_with_positions v) r e

-- what is spared has budget and numbers left at first
ready_of : (act : Action) → ActsOneForOne act → (level : BufferClusterLevel) (v : View) (r : Read) → backward_pass act v ≡ Ok r → IsSpared level v r → IsReady v.max_ops v.lig_id
ready_of act still level v r e h =
    let p = pass_one_for_one act still level v r e in
    (ap is_left (sym p.budget) ∙ h.budget, omega (arith, h.numbers))

pub backward_keeps_positions : (act : Action) → ActsOneForOne act → (level : BufferClusterLevel) → KeepsPositions (backward_pass act)
backward_keeps_positions act still level v r e long =
    let p = pass_one_for_one act still level v r e in
    ap length p.positions ∙ long ∙ sym p.long

backward_lines_read : (act : Action) → IsLocal AnyPositions act → ActsOneForOne act → ReadsLines true its_positions (backward_pass act)
backward_lines_read act local still c text first second r e l is is_r is_e is_l ar ae al =
    let level = text.level in
    elim (line_reads true AnyPositions its_positions c text first second (backward_way act level text.view local still) r e l is tt (λ s end f k v. tt) (is_r, ready_of act still level text.view r is_r ar) (is_e, ready_of act still level first.view e is_e ae) (is_l, ready_of act still level second.view l is_l al)) [
      | inl unsafe ↦ inl unsafe
      | inr read ↦ inr (line_beside true AnyPositions level (length first.origins) (length second.origins) r e l read (backward_keeps_positions act still level first.view e is_e is.first_whole.positions) (backward_keeps_positions act still level second.view l is_l is.second_whole.positions))
    ]

pub backward_passes_read_beside : BackwardPassesReadBeside
backward_passes_read_beside falls act local still kept lossless = reads_beside its_positions (λ t v u w e. e) (backward_pass act) kept lossless true falls (backward_lines_read act local still)

-- ---- parts, flags and what is spent

pub trials_keep : (act : Action) (v : View) (n : ℕ) (c : Cut) → RuleKeepsParts act → ReadsParts (length (whole c)) (backward_trials act v n c)
trials_keep act v zero c p = read_now (length (whole c)) [] (view_at v c) (λ level. nothing_keeps level (length (whole c)))
trials_keep act v (suc n) c p =
    let d : Cut = cut_at_index n c in
    subst (λ (k : ℕ). ReadsParts k (backward_trials act v (suc n) c)) (ap (λ (xs : List Item). length xs) (take-append-drop n (whole c))) (after_keeps (act d) (backward_trials act v n) v d (p d) (λ b. trials_keep act v n b p))

pub backward_keeps : (act : Action) → RuleKeepsParts act → KeepsParts (backward_pass act)
backward_keeps act p v r level e = trials_keep act v (length v.items) (uncut_with_positions v) p r level e

trials_lossless : (act : Action) → ((c : Cut) → LosesNone (act c)) → (v : View) (n : ℕ) (c : Cut) → AllLossless (backward_trials act v n c)
trials_lossless act h v zero c = λ level n. tt
trials_lossless act h v (suc n) c = after_lossless (act (cut_at_index n c)) (backward_trials act v n) v (cut_at_index n c) (h (cut_at_index n c)) (λ d. trials_lossless act h v n d)

pub backward_loses_none : (act : Action) → ((c : Cut) → LosesNone (act c)) → LosesNoFlag (backward_pass act)
backward_loses_none act h v r level e =
    let all : AllLossless (Ok r) = subst AllLossless e (trials_lossless act h v (length v.items) (uncut_with_positions v)) in
    all level (length v.items)

backward_spends : (act : Action) → ActsOneForOne act → OnlySpends (backward_pass act)
backward_spends act still level v r e =
    let p = pass_one_for_one act still level v r e in
    record { budget = λ left. ap is_left (sym p.budget) ∙ left; numbers = λ few. omega (arith, p.number) }

pub reverses_are_divisible : ReversesAreDivisible
reverses_are_divisible falls a lookup =
    let act = reverse_action a lookup in
    let still = reverses_act_one_for_one a lookup in
    let kept = backward_keeps act (backward_related by_parts tt substituted_by_parts a lookup) in
    let lossless = backward_loses_none act (backward_related by_losing tt losing_substituted a lookup) in
    let spends = backward_spends act still in
    beside_is_divisible true falls (backward_pass act) (backward_pass act) (backward_pass act) kept lossless (backward_keeps_positions act still MonotoneGraphemes) spends spends spends (backward_passes_read_beside falls act (reverses_are_local a lookup) still kept lossless)

-- Rules that fail where a failure leaves no flag.
use Rattle.std.proofs.Common.{ℕ, ◌≡◌, ◌+◌, ◌-◌, false, [], ◌∷◌, length, Option, Ok, inl, inr, refl, sym, ap, subst}
use Rattle.buffer_glyphs.specs.Events.{Concat, concat_marked}
use Rattle.buffer_core.specs.Sides.{Sides, flag_requests_of, origins_of}
use Rattle.layout_match.specs.Applied.{ApplyContext}
use Rattle.buffer_stages.specs.Actions.{Action, Outcome, attempt_around}
use Rattle.buffer_stages.specs.Buffers.{IsPassed}
use Rattle.buffer_stages.specs.Performing.{cut_with}
use Rattle.layout_contexts.specs.Chains.{Chain, chain_rule}
use Rattle.layout_contexts.specs.Nesting.{Nests}
use Rattle.layout_contexts.specs.Following.{NeverMatches, OnlyTries}
use Rattle.buffer_stages.proofs.Lemmas.Does.{passed_same}
use Rattle.layout_contexts.proofs.Matching.{failed}

-- an attempt that isn't flagged changes nothing
pub failed_unflagged : (a : ApplyContext) (r : Chain) (random back ahead : ℕ) (s : Sides) → (flag_requests_of s).concat ≡ false
    → ((nest : Option (ℕ → Action)) → chain_rule nest a r (cut_with random s) ≡ attempt_around back ahead (cut_with random s)) → (nest : Option (ℕ → Action)) → Nests (chain_rule nest a r (cut_with random s)) (Ok false) random random s s
failed_unflagged a r random back ahead s unasked e =
    let from = length s.behind - back in
    let to = length s.behind + ahead in
    let passed : IsPassed (Concat from to ∷ []) s s = record { cut_is = refl; happened = ap (λ b. concat_marked b from to (origins_of s)) (sym unasked); still = refl; read = refl } in
    failed a r random back ahead s s e passed

tried_once : (o : Outcome) (random : ℕ) (s : Sides) → (flag_requests_of s).concat ≡ false → OnlyTries o → Nests o (Ok false) random random s s
tried_once o random s unasked (inl e) =
    let P : Outcome → Type 0 = λ p. Nests p (Ok false) random random s s in
    subst P (sym e) (refl, refl, passed_same s)
tried_once o random s unasked (inr tries) =
    let P : Outcome → Type 0 = λ p. Nests p (Ok false) random random s s in
    let passed : IsPassed (Concat tries.0 tries.1 ∷ []) s s = record { cut_is = refl; happened = ap (λ b. concat_marked b tries.0 tries.1 (origins_of s)) (sym unasked); still = refl; read = refl } in
    subst P (sym tries.2) (refl, refl, passed)

-- nor does a rule that never matches
pub never_unflagged : (a : ApplyContext) (r : Chain) (random : ℕ) (s : Sides) → (flag_requests_of s).concat ≡ false → NeverMatches a r (cut_with random s) → (nest : Option (ℕ → Action)) → Nests (chain_rule nest a r (cut_with random s)) (Ok false) random random s s
never_unflagged a r random s unasked never nest = tried_once (chain_rule nest a r (cut_with random s)) random s unasked (never nest)

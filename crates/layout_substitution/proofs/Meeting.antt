-- What the subtables of a lookup do at a glyph that it meets, the lookup does.
use Rattle.std.proofs.Common.{ℕ, suc, ◌≡◌, ◌<◌, ◌+◌, nat_le, Bool, true, false, List, [], ◌∷◌, length, refl, sym, ap, subst, ◌∙◌, arith}
use Rattle.std.proofs.lemmas.List.{length-map}
use Rattle.std.specs.Prelude.{Result}
use Rattle.buffer_glyphs.specs.declared.cause.ShapeCause.{ShapeCause}
use Rattle.buffer_glyphs.specs.declared.cause.ShapeCause.TheVariants.{TooLong}
use Rattle.buffer_glyphs.specs.Items.{Item, item_of, strip}
use Rattle.buffer_core.specs.Readings.{View}
use Rattle.buffer_core.specs.Sides.{Sides, fits_next}
use Rattle.buffer_stages.specs.Actions.{Action, Acts, Cut, Outcome, Passes, Refuses}
use Rattle.buffer_stages.proofs.Lemmas.Frames.{same_lengths, still_limit, still_open}
use Rattle.buffer_stages.specs.Performing.{IsPerformed, Performs, cut_with}
use Rattle.layout_face.specs.declared.substitution.SubstLookup.{SubstLookup}
use Rattle.layout_face.specs.declared.substitution.SubstitutionSubtables.{SubstitutionSubtables}
use Rattle.layout_match.specs.Applied.{ApplyContext}
use Rattle.layout_match.specs.Steps.{IsGivenUp, MeetsGlyph}
use Rattle.layout_match.specs.Trying.{after_outcome, outcome_past_item, trial_at, trials}
use Rattle.layout_match.proofs.Lemmas.Met.{met_glyph, performs_met}
use Rattle.layout_substitution.specs.Lookups.{first_subtable, lookup_action, nested_actions}

pub met_performs : (table : List SubstLookup) (lookup : SubstLookup) (subtables : SubstitutionSubtables) (a : ApplyContext) (r after : ℕ) (result : Result Bool ShapeCause) (s new : Sides) → 0 < length s.ahead → MeetsGlyph a 0 s → subtables ≡ lookup.subtables
    → Performs (first_subtable (nested_actions table 64 a) a subtables (cut_with r s)) result r after s new → Performs (lookup_action table a lookup (cut_with r s)) result r after s new
met_performs table lookup subtables a r after result s new some applies own done =
    let act = first_subtable (nested_actions table 64 a) a lookup.subtables in
    let P : SubstitutionSubtables → Type 0 = λ t. Performs (first_subtable (nested_actions table 64 a) a t (cut_with r s)) result r after s new in
    performs_met a act r after result s new (met_glyph a act r s some applies) (subst P own done)

-- ---- a glyph at which a rule passes, where the output has no room for it

tried_there : (act : Action) (v : View) (n : ℕ) (c : Cut) (rest : List Item) → c.rest ≡ rest → 0 < length rest → trials act v (suc n) c ≡ after_outcome (outcome_past_item (act c) c) (trials act v n) v c
tried_there act v n c [] e lt = absurd (omega (arith, lt))
tried_there act v n c (x ∷ rest) e lt = ap (λ (xs : List Item). trial_at act (trials act v n) v xs c) e

full_after : (act : Action) (before after : ℕ) (s mid : Sides) (o : Outcome) → act (cut_with before s) ≡ o → IsPerformed o false before after s mid → 0 < length s.ahead → s.is_open ≡ true → fits_next 1 mid ≡ false → IsGivenUp act before s TooLong
full_after act before after s mid (Passes es) e d lt opened_before full =
    let c = cut_with before s in
    let long = same_lengths s mid d.2.cut_is in
    let limit = still_limit s mid d.2.still in
    let opened : mid.is_open ≡ true = still_open s mid d.2.still ∙ opened_before in
    let front : length (strip s.behind) ≡ length mid.behind = length-map s.behind item_of ∙ sym long.0 in
    let fits : nat_le (length c.front + 1) c.max_len ≡ fits_next 1 mid = ap (λ k. nat_le (k + 1) s.max_len) front ∙ ap (nat_le (length mid.behind + 1)) (sym limit) ∙ rw opened refl in
    let room : nat_le (length c.front + 1) c.max_len ≡ false = fits ∙ full in
    let over : outcome_past_item (act c) c ≡ Refuses TooLong = ap (λ o. outcome_past_item o c) e ∙ rw room refl in
    let some = length-map s.ahead item_of in
    λ v n. tried_there act v n c (strip s.ahead) refl (omega (arith, some, lt)) ∙ ap (λ o. after_outcome o (trials act v n) v c) over
full_after act before after s mid (Acts cut es) e d lt opened_before full = cc
full_after act before after s mid (Refuses cause) e d lt opened_before full = absurd d

pub passed_full : (act : Action) (before after : ℕ) (acted : Bool) (s mid : Sides) → acted ≡ false → IsPerformed (act (cut_with before s)) acted before after s mid → 0 < length s.ahead → s.is_open ≡ true → fits_next 1 mid ≡ false → IsGivenUp act before s TooLong
passed_full act before after acted s mid fails d lt opened full =
    let D : Bool → Type 0 = λ b. IsPerformed (act (cut_with before s)) b before after s mid in
    full_after act before after s mid (act (cut_with before s)) refl (subst D fails d) lt opened full

use Rattle.std.proofs.Common.{subst}
use Rattle.layout_match.specs.Applied.{apply_context_of}
use Rattle.layout_match.proofs.Lemmas.Met.{passes_in_place, performs_met_in_place}
use Rattle.buffer_stages.specs.Buffers.{cut_of}
use Rattle.buffer_stages.specs.Performing.{PerformsWithoutOutput}
use Rattle.layout_face.specs.declared.substitution.SubstitutionSubtables.{SubstitutionSubtables}
use Rattle.layout_substitution.specs.Lookups.{first_reverse, reverse_action}
use Rattle.layout_substitution.proofs.Uncovered.{first_reverse_uncovered}
use Rattle.layout_substitution.proofs.lookup.apply_reverse_lookup.Goals as goal

pub returns-then-not-is_tried : goal.returns-then-not-is_tried
returns-then-not-is_tried c =
    let a = apply_context_of c.args.ctx.now in
    let lookup = c.args.lookup.now in
    let s = c.args.buffer.now in
    passes_in_place (reverse_action a lookup (cut_of s)) s (c.is_tried.ensures.passes c.if-not-is_tried.true (first_reverse a lookup.subtables) (λ x none. first_reverse_uncovered a lookup.subtables x none) 1)

pub returns : goal.returns
returns c =
    let a = apply_context_of c.args.ctx.now in
    let act = first_reverse a c.args.lookup.now.subtables in
    let s = c.args.buffer.now in
    let new = c.apply_reverse_substitution.new.buffer in
    let acted = c.apply_reverse_substitution.result in
    let P : SubstitutionSubtables → Type 0 = λ t. PerformsWithoutOutput (first_reverse a t (cut_of s)) acted s new in
    performs_met_in_place a act acted s new (c.is_tried.ensures.meets c.if-not-is_tried.false act 1) (subst P c.inner.ensures c.apply_reverse_substitution.ensures)

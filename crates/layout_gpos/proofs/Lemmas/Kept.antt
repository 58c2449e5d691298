-- The last bases and ligatures that were found are kept while no item changes.
use Rattle.std.proofs.Common.{ℕ, ◌≡◌, Bool, List, sym, subst}
use Rattle.buffer_glyphs.specs.Items.{Item}
use Rattle.buffer_core.specs.Sides.{Sides, items_of}
use Rattle.layout_match.specs.Applied.{ApplyContext}
use Rattle.buffer_stages.specs.Actions.{Action}
use Rattle.buffer_stages.specs.Performing.{IsPerformed, cut_with}
use Rattle.layout_gpos.specs.Bases.{AreKept}
use Rattle.layout_gpos.specs.Moving.{KeepsItems}
use Rattle.layout_gpos.specs.declared.bases.LastSearches.{LastSearches}
use Rattle.layout_gpos.proofs.Lemmas.Left.{performed_left}

pub kept_same : (a : ApplyContext) (l : LastSearches) (s new : Sides) → items_of new ≡ items_of s → AreKept a (items_of s) l → AreKept a (items_of new) l
kept_same a l s new e kept = subst (λ (xs : List Item). AreKept a xs l) (sym e) kept

pub performed_kept : (act : Action) (a : ApplyContext) (acted : Bool) (r : ℕ) (l : LastSearches) (s new : Sides) → KeepsItems act → AreKept a (items_of s) l → IsPerformed (act (cut_with r s)) acted r r s new → AreKept a (items_of new) l
performed_kept act a acted r l s new keeps kept d = kept_same a l s new (performed_left (act (cut_with r s)) acted r r s new (keeps (cut_with r s)) d) kept

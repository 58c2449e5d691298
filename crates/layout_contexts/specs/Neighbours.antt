-- What is known of the glyphs beside the cursor, where the contexts of a lookup are tried.
use Rattle.std.specs.Prelude.{ℕ, ◌≡◌, ◌≤◌, ◌<◌, true, false, List, reverse, Some, slice_get}
use Rattle.buffer_glyphs.specs.Items.{strip}
use Rattle.buffer_core.specs.Sides.{Sides, flag_requests_of}
use Rattle.layout_common.specs.declared.neighbours.Neighbour.{Neighbour}
use Rattle.layout_common.specs.declared.neighbours.Neighbour.TheVariants.{Unknown}
use Rattle.layout_tables.specs.declared.context.ContextSubtable.{ContextSubtable}
use Rattle.layout_match.specs.Applied.{ApplyContext, context_search, own_search}
use Rattle.layout_match.specs.Next.{IsBeside}
use Rattle.buffer_stages.specs.Actions.{Action}
use Rattle.buffer_stages.specs.Performing.{IsPerformed, cut_with}

-- what is known of both sides holds for the searches of a rule; it is nothing where failed matches are flagged
pub record AreNeighbours (before after : Neighbour) (a : ApplyContext) (s : Sides) : Type 0 where
  pub behind : IsBeside before (context_search a (strip s.ahead)) 0 (reverse (strip s.behind))
  pub input : IsBeside after (own_search a (strip s.ahead)) 1 (strip s.ahead)
  pub lookahead : IsBeside after (context_search a (strip s.ahead)) 1 (strip s.ahead)
  pub unflagged : (flag_requests_of s).concat ≡ true → (before ≡ Unknown) × (after ≡ Unknown)

-- the contexts from one index on and before another pass at the cursor, and change nothing
abbrev pub ArePassedOver : (ContextSubtable → Action) → List ContextSubtable → ℕ → ℕ → ℕ → Sides → Type 0
ArePassedOver act subtables from next random s =
    (k : ℕ) (x : ContextSubtable) → from ≤ k → k < next → slice_get subtables k ≡ Some x → IsPerformed (act x (cut_with random s)) false random random s s

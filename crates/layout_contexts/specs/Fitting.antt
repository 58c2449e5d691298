-- How a rule matches where it is tried, and the records that are then to be applied.
use Rattle.std.specs.Prelude.{ℕ, ◌≡◌, ◌≤◌, ◌<◌, ◌+◌, ◌-◌, Bool, false, List, [], ◌∷◌, length, map, Option, Some, None, Result, Ok}
use Rattle.buffer_glyphs.specs.declared.cause.ShapeCause.{ShapeCause}
use Rattle.buffer_glyphs.specs.Events.{Break}
use Rattle.buffer_core.specs.Sides.{Sides}
use Rattle.layout_match.specs.Applied.{ApplyContext}
use Rattle.layout_match.specs.Sequences.{tests_of}
use Rattle.buffer_stages.specs.Actions.{Cut, Passes, Action, later, whole, attempt_around}
use Rattle.buffer_stages.specs.Buffers.{cut_of, IsStill}
use Rattle.buffer_stages.specs.Performing.{cut_with}
use Rattle.layout_contexts.specs.declared.chain.ChainRule.{ChainRule}
use Rattle.layout_contexts.specs.declared.chain.ChainFit.{ChainFit}
use Rattle.layout_contexts.specs.declared.chain.ChainFit.TheVariants.{NoAttempt, Fails, Fits}
use Rattle.layout_contexts.specs.MatchIndices.{AreRising}
use Rattle.layout_contexts.specs.Nested.{each_nested, cut_after_match}
use Rattle.layout_contexts.specs.Chains.{Chain, chain_rule}
use Rattle.layout_contexts.specs.Nesting.{Nests}

-- the tests of a rule that is given by sequences
abbrev pub chain_of : ChainRule → Chain
chain_of r = record { backtrack = tests_of r.backtrack; input = tests_of r.input; lookahead = tests_of r.lookahead; records = r.records.now }

-- the outcome of a rule at a cut by how it matches, whatever its nested lookups do; indices count from the cut
abbrev pub Says : ChainFit → ApplyContext → Chain → List ℕ → Cut → Type 0
Says NoAttempt a r ps c = (nest : Option (ℕ → Action)) → chain_rule nest a r c ≡ Passes []
Says (Fails back ahead) a r ps c = (nest : Option (ℕ → Action)) → chain_rule nest a r c ≡ attempt_around back ahead c
Says (Fits back end ahead) a r ps c =
    (nest : Option (ℕ → Action)) → chain_rule nest a r c
    ≡ later (Break (length c.front - back) (length c.front + ahead) ∷ []) (cut_after_match (each_nested nest r.records c (map (λ k. k + length c.front) ps) (length c.front + end)))

-- there are as many items before the cut and from there on as a fit read
abbrev pub IsInside : ChainFit → List ℕ → ℕ → ℕ → Type 0
IsInside NoAttempt ps front rest = Unit
IsInside (Fails back ahead) ps front rest = (back ≤ front) × (ahead ≤ rest)
IsInside (Fits back end ahead) ps front rest = (back ≤ front) × (ahead ≤ rest) × (end ≤ rest) × (1 ≤ end) × AreRising 0 rest ps

-- where a rule fits, its input has at most 64 items
abbrev pub IsShort : ChainFit → ℕ → Type 0
IsShort NoAttempt n = Unit
IsShort (Fails back ahead) n = Unit
IsShort (Fits back end ahead) n = n ≤ 64

-- a rule matched, and the glyphs that it matched are flagged: what its records and the move to the end of its match do
-- from here, the rule does
pub record IsMatched (a : ApplyContext) (r : Chain) (random end : ℕ) (indices : List ℕ) (old new : Sides) : Type 0 where
  pub cut_is : cut_of new ≡ cut_of old
  pub still : IsStill old new
  pub rising : AreRising (length old.behind) (length (whole (cut_of new))) indices
  pub from : length old.behind < end
  pub within : end ≤ length (whole (cut_of new))
  pub nests : (nest : Option (ℕ → Action)) (result : Result Bool ShapeCause) (after : ℕ) (final : Sides)
      → Nests (cut_after_match (each_nested nest r.records (cut_with random new) indices end)) result random after new final → Nests (chain_rule nest a r (cut_with random old)) result random after old final

-- a rule was tried: where it matched, the answer is the end of its match; else it passes
abbrev pub MatchesOrPasses : Option ℕ → ApplyContext → Chain → ℕ → List ℕ → Sides → Sides → Type 0
MatchesOrPasses None a r random indices old new = (nest : Option (ℕ → Action)) → Nests (chain_rule nest a r (cut_with random old)) (Ok false) random random old new
MatchesOrPasses (Some end) a r random indices old new = IsMatched a r random end indices old new

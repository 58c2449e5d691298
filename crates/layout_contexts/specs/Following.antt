-- Rules that cannot match by a glyph beside the one where they are tried.
use Rattle.std.specs.Prelude.{ℕ, ◌≡◌, ◌⊎◌, Bool, true, List, [], ◌∷◌, Option, drop}
use Rattle.buffer_glyphs.specs.Items.{Item}
use Rattle.buffer_glyphs.specs.Events.{Concat}
use Rattle.layout_match.specs.declared.next_glyph.NextGlyphs.{NextGlyphs}
use Rattle.layout_match.specs.Applied.{ApplyContext}
use Rattle.layout_match.specs.Next.{may_find}
use Rattle.buffer_stages.specs.Actions.{Action, Cut, Outcome, Passes}
use Rattle.layout_contexts.specs.Chains.{Chain, chain_rule}

-- whether the item after the first may be found: that of the input after its first, else the first of the lookahead
abbrev pub may_find_second : NextGlyphs → List (Item → Bool) → List (Item → Bool) → Bool
may_find_second next (test ∷ input) lookahead = may_find next.input test
may_find_second next [] (test ∷ lookahead) = may_find next.lookahead test
may_find_second next [] [] = true

-- whether a rule may match, as far as the next glyph says
abbrev pub may_follow : NextGlyphs → Chain → Bool
may_follow next r = may_find_second next (drop 1 r.input) r.lookahead

-- a rule passes: without an attempt, or after one that failed
abbrev pub OnlyTries : Outcome → Type 0
OnlyTries o = (o ≡ Passes []) ⊎ ((from to : ℕ) × (o ≡ Passes (Concat from to ∷ [])))

-- a rule passes at a cut, whatever lookups are nested in it
abbrev pub NeverMatches : ApplyContext → Chain → Cut → Type 0
NeverMatches a r c = (nest : Option (ℕ → Action)) → OnlyTries (chain_rule nest a r c)

-- A rule tried at each index of a list, from the left, where its lookup applies to the item (OpenType, chapter 2).
use Rattle.std.specs.Prelude.{ℕ, suc, zero, ◌&&◌, Bool, not, nat_le, if◌then◌else◌, List, [], ◌∷◌, length, Ok, Err}
use Rattle.buffer_glyphs.specs.declared.cause.ShapeCause.TheVariants.{TooLong}
use Rattle.buffer_glyphs.specs.Items.{Item}
use Rattle.buffer_glyphs.specs.Parts.{first_of}
use Rattle.buffer_core.specs.Readings.{View, Read, Reading, Stage, then_reading, and_then, with_events}
use Rattle.buffer_core.specs.Sides.{zero_positions}
use Rattle.layout_match.specs.Applied.{ApplyContext}
use Rattle.layout_match.specs.Searches.{is_left_out}
use Rattle.buffer_stages.specs.Masks.{shares_mask}
use Rattle.buffer_stages.specs.Actions.{Cut, view_at, uncut, past_item, Outcome, Passes, Acts, Refuses, Action, at_first, within_limit}

-- ---- at a cut

-- whether a lookup applies to an item: it has a bit of the lookup's mask, and the lookup flag admits it
abbrev pub meets : ApplyContext → Item → Bool
meets a x = shares_mask a.mask x.mask && not (is_left_out a.props a.font.gdef.sets x)

-- a rule tried at an item that its lookup applies to
abbrev pub at_met : ApplyContext → Action → Item → Action
at_met a act x c = if meets a x then act c else Passes []

-- a rule tried at the cut where its lookup applies to the first item
abbrev pub met_first : ApplyContext → Action → Action
met_first a act c = at_first (at_met a act) (first_of c.rest) c

-- ---- at all indices

-- the reading of a list once a rule was tried
abbrev pub after_outcome : Outcome → (Cut → Reading) → View → Cut → Reading
after_outcome (Passes events) next v c = then_reading (with_events events (view_at v c)) (next c)
after_outcome (Acts cut events) next v c = then_reading (with_events events (view_at v cut)) (next cut)
after_outcome (Refuses cause) next v c = Err cause

-- the outcome of a rule that passes, with the item passed where there is room for one more
abbrev pub outcome_past_item : Outcome → Cut → Outcome
outcome_past_item (Passes events) c = within_limit 1 c (Acts (past_item c) events)
outcome_past_item (Acts cut events) c = Acts cut events
outcome_past_item (Refuses cause) c = Refuses cause

-- at the end of the list nothing is tried
abbrev pub trial_at : Action → (Cut → Reading) → View → List Item → Cut → Reading
trial_at act next v [] c = Ok (with_events [] (view_at v c))
trial_at act next v (x ∷ rest) c = after_outcome (outcome_past_item (act c) c) next v c

-- a rule tried at n indices at most, the first of them the cut
abbrev pub trials : Action → View → ℕ → Cut → Reading
trials act v zero c = Ok (with_events [] (view_at v c))
trials act v (suc n) c = trial_at act (trials act v n) v c.rest c

-- the reading of what a list became, at zero positions
abbrev pub with_zero_positions : View → Read
with_zero_positions v = with_events [] (record v { positions = zero_positions (length v.items) })

-- the items done and the items left become one list, where that is not above the limit
abbrev pub whole_list : Stage
whole_list v = if nat_le (length v.items) v.max_len then Ok (with_zero_positions v) else Err TooLong

-- a rule tried at each index of a list once, from the left; the items that it made are not tried again
abbrev pub forward_pass : Action → Stage
forward_pass act v = and_then (trials act v (length v.items) (uncut v)) whole_list

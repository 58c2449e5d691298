-- Pair adjustment (OpenType, GPOS lookup type 2).
use Rattle.std.specs.Prelude.{ℕ, ◌+◌, ◌&&◌, ◌||◌, nat_lt, Bool, true, not, if◌then◌else◌, List, [], length, Option, Some, None, is_some, Result, Ok, Err, slice_get, option_and_then}
use Rattle.buffer_common.specs.declared.direction.Direction.{Direction}
use Rattle.buffer_glyphs.specs.Items.{Item, Position}
use Rattle.buffer_glyphs.specs.Events.{Event}
use Rattle.buffer_glyphs.specs.Parts.{first_of}
use Rattle.layout_tables.specs.Covers.{covers_first_of_pair}
use Rattle.layout_tables.specs.Pairs.{glyph_pair_values, class_pair_values}
use Rattle.layout_tables.specs.declared.value.ValueRecord.{ValueRecord}
use Rattle.layout_tables.specs.declared.pair.PairValues.{PairValues}
use Rattle.layout_tables.specs.declared.pair.PairPos.{PairPos}
use Rattle.layout_tables.specs.declared.pair.PairPos.TheVariants.{Glyphs, Classes}
use Rattle.layout_match.specs.Applied.{ApplyContext, own_search}
use Rattle.layout_match.specs.Searches.{answer, is_skippable}
use Rattle.layout_match.specs.Matches.{nearest_from}
use Rattle.buffer_stages.specs.Actions.{Cut, Action, Passes, Acts, at_first, attempt_around}
use Rattle.layout_gpos.specs.Values.{with_adjusted_position, is_zero}
use Rattle.layout_gpos.specs.Moving.{cut_with_positions, break_around, strict_break_around}

-- the second glyph is adjusted where it has a record
abbrev pub second_adjusted : Direction → ℕ → Option ValueRecord → List Position → List Position
second_adjusted d i None ps = ps
second_adjusted d i (Some v) ps = with_adjusted_position d i v ps

-- the length of a pair: after a second glyph with a record the cursor is after it; without one that glyph may begin the
-- next pair
abbrev pub pair_length : ℕ → Option ValueRecord → ℕ
pair_length apart None = apart
pair_length apart (Some v) = apart + 1

-- whether a record is missing or zero
abbrev pub has_no_effect : Option ValueRecord → Bool
has_no_effect None = true
has_no_effect (Some v) = is_zero v

-- whether a pair is null: no value of its records (PairPos formats 1 and 2) moves a glyph
abbrev pub pair_has_no_effect : PairValues → Bool
pair_has_no_effect v = is_zero v.first && has_no_effect v.second

-- two glyphs adjusted by the values of a pair; a null pair leaves them as they are
abbrev pub pair_adjusted : Direction → ℕ → ℕ → PairValues → List Position → List Position
pair_adjusted d first second v ps = if pair_has_no_effect v then ps else second_adjusted d second v.second (with_adjusted_position d first v.first ps)

-- whether a null pair takes its glyphs from other pairs: glyphs between the two were skipped, or the second has a record (valueFormat2
-- isn't 0), so that the cursor is after it. Else the cursor is at the glyph after the first, as where there is no pair
abbrev pub takes_glyphs : ℕ → Option ValueRecord → Bool
takes_glyphs apart second = nat_lt 1 apart || is_some second

-- the events of a null pair: where it takes its glyphs from other pairs, they are unsafe to break if PRODUCE_SAFE_BREAKS is requested
abbrev pub null_pair_events : ℕ → Option ValueRecord → Cut → List Event
null_pair_events apart second c = if takes_glyphs apart second then strict_break_around (apart + 1) c else []

-- the events of a pair: its glyphs are unsafe to break, unless it is null
abbrev pub pair_events : PairValues → ℕ → Cut → List Event
pair_events v apart c = if pair_has_no_effect v then null_pair_events apart v.second c else break_around 0 (apart + 1) c

-- the item that is `apart` items after the cut is the second: where the two are no pair, all items from the first to it are unsafe to
-- concat
abbrev pub pair_of : Direction → ℕ → Option PairValues → Action
pair_of d apart None c = attempt_around 0 (apart + 1) c
pair_of d apart (Some v) c = Acts (cut_with_positions (pair_length apart v.second) (pair_adjusted d (length c.front) (length c.front + apart) v c.positions) c) (pair_events v apart c)

-- the second item is the nearest after the first that the lookup does not skip
abbrev pub pair_second : Direction → (Item → Option PairValues) → Result ℕ ℕ → Action
pair_second d values (Err end) c = attempt_around 0 end c
pair_second d values (Ok apart) c = pair_of d apart (option_and_then values (slice_get c.rest apart)) c

-- the nearest item after the first
abbrev pub next_item : ApplyContext → List Item → Result ℕ ℕ
next_item a rest = nearest_from (answer (own_search a rest) (λ x. not (is_skippable (own_search a rest) x))) 1 rest

-- the adjustments of two glyphs
abbrev pub pair_values : PairPos → ℕ → ℕ → Option PairValues
pair_values (Glyphs p) first second = glyph_pair_values first second p.rows
pair_values (Classes p) first second = class_pair_values first second p

-- pair adjustment of an item that is the first glyph of pairs
abbrev pub pair_from : Direction → ApplyContext → PairPos → Item → Action
pair_from d a s x c = if covers_first_of_pair s x.number then pair_second d (λ y. pair_values s x.number y.number) (next_item a c.rest) c else Passes []

-- pair adjustment (OpenType, GPOS lookup type 2)
abbrev pub pair_subtable : Direction → ApplyContext → PairPos → Action
pair_subtable d a s c = at_first (pair_from d a s) (first_of c.rest) c

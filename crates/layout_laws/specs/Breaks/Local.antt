-- Rules that do to a fragment of a text what they do to the text, unless they bind it to what is outside.
use Rattle.std.specs.Prelude.{ℕ, ◌≡◌, ◌≤◌, ◌<◌, ◌+◌, ◌⊎◌, true, List, [], length, map}
use Rattle.buffer_glyphs.specs.Events.{Event}
use Rattle.buffer_glyphs.specs.Rewriting.{shifted_event}
use Rattle.buffer_stages.specs.Actions.{Cut, whole, past_item, Outcome, Passes, Acts, Refuses, Action}
use Rattle.buffer_parts.specs.Counts.{count_after}
use Rattle.buffer_parts.specs.Counting.{is_left}
use Rattle.buffer_parts.specs.Breaks.Concat.{without_concats}
use Rattle.buffer_parts.specs.Breaks.Divisible.{merges}
use Rattle.buffer_parts.specs.Breaks.Sides.{AreBounded}
use Rattle.layout_laws.specs.Breaks.Frames.{Outside, Inside, framed_cut, IsFramed, IsExtended}
use Rattle.layout_laws.specs.Breaks.Binding.{BindOutside}

-- what must hold of a fragment's positions for a rule to be local
abbrev pub Placing : Type 1
Placing = Outside → Cut → Type 0

-- nothing is asked of positions: substitutions have none
abbrev pub AnyPositions : Placing
AnyPositions o c = Unit {0}

-- events at a cut of a fragment, in the text, bind the fragment to what is outside
abbrev pub Binds : Outside → Cut → List Event → Type 0
Binds o c es = BindOutside (length o.before) (length (whole c)) (length o.after) (without_concats es)

-- some of the budget of nested lookups is left, and after `last` there was a ligature number for each merge
abbrev pub IsAmple : ℕ → Cut → List Event → Type 0
IsAmple last c es = (is_left c.max_ops ≡ true) × (last + merges (without_concats es) ≤ 7)

-- a rule made a cut w of a text, after events es, where it made d of its fragment, after events fs: w is d in the text, and the events
-- are those of the fragment, but for those that set UNSAFE_TO_CONCAT; some item is left
pub record IsMadeInside (P : Placing) (o : Outside) (s : Inside) (c w d : Cut) (es fs : List Event) : Type 0 where
  pub inside : Inside
  pub cut_is : w ≡ framed_cut o inside d
  pub frames : IsFramed o inside d
  pub extended : IsExtended s c inside d
  pub some : 0 < length (whole d)
  -- where items follow the fragment, one is left from the cut on
  pub reach : 0 < length o.after → length c.front < length (whole d)
  pub placed : P o d
  pub events : without_concats es ≡ map (shifted_event (length o.before)) (without_concats fs)
  pub bounded : AreBounded (without_concats fs) (length (whole c))

-- the outcome of a rule at a cut of a fragment, in the text and alone: both pass, or both act alike, or in the text it binds the fragment
-- to what is outside; where one refuses, nothing is claimed
abbrev pub IsBeside : Placing → Outside → Inside → Cut → Outcome → Outcome → Type 0
IsBeside P o s c (Passes es) (Passes fs) = (without_concats es ≡ []) × (without_concats fs ≡ [])
IsBeside P o s c (Passes es) (Acts d fs) = ⊥
IsBeside P o s c (Passes es) (Refuses y) = Unit {0}
IsBeside P o s c (Acts w es) (Passes fs) = Binds o c es
IsBeside P o s c (Acts w es) (Acts d fs) = IsAmple s.lig_id w es → IsAmple c.lig_id d fs → Binds o c es ⊎ IsMadeInside P o s c w d es fs
IsBeside P o s c (Acts w es) (Refuses y) = Unit {0}
IsBeside P o s c (Refuses x) p = Unit {0}

-- a rule is local: at each item of a fragment it does alone what it does in the text, or binds the fragment to what is outside
abbrev pub IsLocal : Placing → Action → Type 0
IsLocal P act = (o : Outside) (s : Inside) (c : Cut) → IsFramed o s c → P o c → 0 < length c.rest → IsBeside P o s c (act (framed_cut o s c)) (act c)

-- a rule is idle at a cut of a fragment: in the text it acts, and does no more than to pass the item; alone it passes. So does a null pair
-- (OpenType, GPOS lookup type 2) whose second glyph is the first one after the fragment
pub record IsIdle (o : Outside) (s : Inside) (c : Cut) (p q : Outcome) : Type 0 where
  pub theirs : List Event
  pub ours : List Event
  pub acts : p ≡ Acts (past_item (framed_cut o s c)) theirs
  pub passes : q ≡ Passes ours
  pub none_there : without_concats theirs ≡ []
  pub none_here : without_concats ours ≡ []

-- what a rule does to a fragment is what it does to the text, or it binds the fragment to what is outside, or is idle
abbrev pub IsBesideOrIdle : Placing → Outside → Inside → Cut → Outcome → Outcome → Type 0
IsBesideOrIdle P o s c p q = IsBeside P o s c p q ⊎ IsIdle o s c p q

-- a rule is local at each item of a fragment, or idle there
abbrev pub IsLocalOrIdle : Placing → Action → Type 0
IsLocalOrIdle P act = (o : Outside) (s : Inside) (c : Cut) → IsFramed o s c → P o c → 0 < length c.rest → IsBesideOrIdle P o s c (act (framed_cut o s c)) (act c)

-- a rule took its step from a cut: fewer items are left, no budget is given back, at most one ligature number is given for each merge, and
-- the events leave as many glyphs as there are items
pub record IsStep (c d : Cut) (es : List Event) : Type 0 where
  pub fewer : length d.rest < length c.rest
  pub spends : is_left d.max_ops ≡ true → is_left c.max_ops ≡ true
  pub gives : c.lig_id + merges (without_concats es) ≤ 7 → d.lig_id ≤ c.lig_id + merges (without_concats es)
  pub counted : count_after (without_concats es) (length (whole c)) ≡ length (whole d)

-- an outcome is such a step, if the rule acts; where it passes, it only sets UNSAFE_TO_CONCAT
abbrev pub Steps : Cut → Outcome → Type 0
Steps c (Passes es) = without_concats es ≡ []
Steps c (Acts d es) = IsStep c d es
Steps c (Refuses x) = Unit {0}

-- a rule takes such steps wherever it is tried at an item
abbrev pub IsSteady : Action → Type 0
IsSteady act = (c : Cut) → 0 < length c.rest → Steps c (act c)

-- what is asked of a fragment's positions is of its items together, wherever the list is cut
abbrev pub IsOfWhole : Placing → Type 0
IsOfWhole P = (o : Outside) (c d : Cut) → whole d ≡ whole c → d.positions ≡ c.positions → P o c → P o d
